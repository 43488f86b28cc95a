-- What a part of the walk did, said of equal trees and frames.
use Rattle.std.specs.Prelude.{Bool, ℕ, zero, suc, ◌-◌, ◌≡◌, refl, List, [], ◌∷◌, Option, Some, None, Result, Ok, Err, IfOk}
use Rattle.std.proofs.Common.{arith, ap, sym, ◌∙◌, subst}
use Rattle.js_tree.specs.declared.Expr.{Expr}
use Rattle.js_tree.specs.declared.Stmt.{Stmt}
use Rattle.js_tree.specs.declared.Script.{Script}
use Rattle.turk_base.specs.Names.{Units}
use Rattle.js_tree.specs.Binds.{FrameNames, frame_of}
use Rattle.scope_names.specs.declared.walk.Walk.{Walk}
use Rattle.scope_names.specs.declared.NoRoom.{NoRoom}
use Rattle.scope_names.specs.Gathered.{gathered, collected}
use Rattle.scope_names.specs.Walks.{Kind, Resolves, Enters, option_kind}
use Rattle.scope_names.specs.Kinds.{expr_kind, stmt_kind, body_kind}
use Rattle.scope_names.proofs.WalkParts.{option_some, option_none}

pub renamed : {A : Type 0} (kind : Kind A) {w w' : Walk} {x y z : A} → z ≡ y → Resolves kind w x y w' → Resolves kind w x z w'
renamed kind {w} {w'} {x} e r = subst (λ a. Resolves kind w x a w') (sym e) r

pub given_turned : {A : Type 0} (kind : Kind A) {w w' : Walk} {x y z : A} → x ≡ z → Resolves kind w x y w' → Resolves kind w z y w'
given_turned kind {w} {w'} {x} {y} e r = subst (λ a. Resolves kind w a y w') e r

pub some_turned : {A : Type 0} (kind : Kind A) {w w' : Walk} {o : Option A} {x y : A} → o ≡ Some x → Resolves kind w x y w' → Resolves (option_kind kind) w o (Some y) w'
some_turned kind {w} {w'} {o} {x} {y} e r = subst (λ a. Resolves (option_kind kind) w a (Some y) w') (sym e) (option_some kind r)

pub none_turned : {A : Type 0} (kind : Kind A) (w : Walk) {o : Option A} → o ≡ None → Resolves (option_kind kind) w o None w
none_turned kind w e = subst (λ a. Resolves (option_kind kind) w a None w) (sym e) (option_none kind w)

pub expr_turned : (m : ℕ) (w : Walk) (o : Result (Expr × Walk) NoRoom) {x y : Expr} → x ≡ y → IfOk o (λ r. Resolves (expr_kind m) w x r.0 r.1) → IfOk o (λ r. Resolves (expr_kind m) w y r.0 r.1)
expr_turned m w o e h = subst (λ a. IfOk o (λ r. Resolves (expr_kind m) w a r.0 r.1)) e h

pub stmt_turned : (m : ℕ) (w : Walk) (o : Result (Stmt × Walk) NoRoom) {x y : Stmt} → x ≡ y → IfOk o (λ r. Resolves (stmt_kind m) w x r.0 r.1) → IfOk o (λ r. Resolves (stmt_kind m) w y r.0 r.1)
stmt_turned m w o e h = subst (λ a. IfOk o (λ r. Resolves (stmt_kind m) w a r.0 r.1)) e h

-- a frame with one name, said of a copy of it
pub entered : {w w' : Walk} {name copy : Units} {own : Bool} → copy ≡ name → Enters w (record { names = name ∷ []; own = own }) w' → Enters w (record { names = copy ∷ []; own = own }) w'
entered {w} {w'} {name} {copy} {own} e h = subst (λ n. Enters w (record { names = n ∷ []; own = own }) w') (sym e) h

pub frame_same : (ps : List Units) (b : Script) {names : List Units} {own : Bool} → names ≡ gathered [] (frame_of ps b).names → own ≡ (frame_of ps b).own → record { names = names; own = own } ≡ collected (frame_of ps b)
frame_same ps b e f = λ i. record { names = e i; own = f i }

pub body_turned : (m : ℕ) {w w' : Walk} {ps qs : List Units} {x y z : Script} → ps ≡ qs → x ≡ y → Resolves (body_kind m ps) w x z w' → Resolves (body_kind m qs) w y z w'
body_turned m {w} {w'} {ps} {qs} {x} {y} {z} e f r = subst (λ a. Resolves (body_kind m qs) w a z w') f (subst (λ a. Resolves (body_kind m a) w x z w') e r)

-- one level more and one less
pub level_back : (n : ℕ) → (n ≡ 0 → ⊥) → suc (n - 1) ≡ n
level_back zero h = absurd (h refl)
level_back (suc n) h = omega arith
