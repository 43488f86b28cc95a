-- What the walk does with a statement, from what it does with its parts.
use Rattle.std.specs.Prelude.{ℕ, zero, suc, ◌+◌, ◌≤◌, ◌≡◌, refl, List, [], ◌∷◌, ◌++◌, Option, Some, None, map, Bool, true, false, count_by, is_none, cond}
use Rattle.std.specs.Option.{option_map}
use Rattle.std.proofs.Common.{arith, ap, sym, ◌∙◌, subst}
use Rattle.std.proofs.lemmas.List.Sums.{sum_by-cons}
use Rattle.js_tree.specs.declared.StmtNode.{StmtNode, out-StmtNode, out-roll-StmtNode}
use Rattle.js_tree.specs.declared.ExprNode.TheOpen.{StmtNode-F, ForStart-F, ForTarget-F}
use Rattle.js_tree.specs.declared.StmtNode.TheVariants as s
use Rattle.js_tree.specs.declared.ForStart.{ForStart, out-ForStart}
use Rattle.js_tree.specs.declared.ForTarget.{ForTarget, out-ForTarget}
use Rattle.js_tree.specs.declared.Variable.{Variable}
use Rattle.js_tree.specs.declared.Case.{Case, out-Case, out-roll-Case}
use Rattle.js_tree.specs.declared.Catch.{Catch}
use Rattle.js_tree.specs.declared.Declaration.{Declaration}
use Rattle.js_tree.specs.declared.Expr.{Expr}
use Rattle.js_tree.specs.declared.Stmt.{Stmt}
use Rattle.turk_base.specs.Names.{Units}
use Rattle.js_tree.specs.OpenTree.{opens_tree}
use Rattle.js_tree.specs.Trees.{StmtLevel, stmt_level, stmt_of}
use Rattle.js_tree.specs.Table.{Codes, in_stmt, expr_codes, stmt_codes, body_codes}
use Rattle.js_tree.specs.Lawful.{Around, ExprWithin, StmtWithin, DeclarationWithin, LawfulStmt, IsBlock, BlockNode, IsVar, VarNode, IfThere, CatchOrFinally, is_default, loop_round, switch_round}
use Rattle.js_tree.specs.Binds.{Frames, ExprBound, StmtBound, DeclarationBound, BoundStmt}
use Rattle.js_tree.specs.Bare.{expr_bare, stmt_bare, declaration_bare, bare_stmt, bare_case, bare_catch}
use Rattle.js_tree.specs.NameCount.{expr_count, stmt_count, declaration_count, count_stmt}
use Rattle.scope_names.specs.declared.walk.Walk.{Walk}
use Rattle.scope_names.specs.Walks.{Part, Kind, Resolves, list_kind, option_kind}
use Rattle.scope_names.specs.Kinds.{expr_kind, stmt_kind, variable_kind, start_kind, target_kind, case_kind, catch_kind}
use Rattle.scope_names.proofs.WalkParts.{none, two, three, four, raised}
use Rattle.scope_names.proofs.ExprParts.{below}

-- ---- what bindings don't touch

block_node : (E : Expr → Expr) (S : Stmt → Stmt) (D : Declaration → Declaration) (node : StmtLevel) → BlockNode (out-StmtNode (bare_stmt E S D node)) → BlockNode node
unfolding opens_tree
block_node E S D (StmtNode-F.Block ss) h = tt
block_node E S D node h = h

block_bare : (E : Expr → Expr) (S : Stmt → Stmt) (D : Declaration → Declaration) (node : StmtLevel) → BlockNode node → BlockNode (out-StmtNode (bare_stmt E S D node))
unfolding opens_tree
block_bare E S D (StmtNode-F.Block ss) h = tt
block_bare E S D node h = h

pub block_kept : (m : ℕ) (a b : Stmt) → stmt_bare m b ≡ stmt_bare m a → IsBlock a → IsBlock b
unfolding stmt_bare
block_kept zero a b e h = subst IsBlock (sym e) h
block_kept (suc m) a b e h =
    block_node (expr_bare m) (stmt_bare m) (declaration_bare m) (stmt_level b) (subst IsBlock (sym e) (block_bare (expr_bare m) (stmt_bare m) (declaration_bare m) (stmt_level a) h))

var_node : (E : Expr → Expr) (S : Stmt → Stmt) (D : Declaration → Declaration) (node : StmtLevel) → VarNode (out-StmtNode (bare_stmt E S D node)) → VarNode node
unfolding opens_tree
var_node E S D (StmtNode-F.Var xs) h = tt
var_node E S D node h = h

var_bare : (E : Expr → Expr) (S : Stmt → Stmt) (D : Declaration → Declaration) (node : StmtLevel) → VarNode node → VarNode (out-StmtNode (bare_stmt E S D node))
unfolding opens_tree
var_bare E S D (StmtNode-F.Var xs) h = tt
var_bare E S D node h = h

pub var_kept : (m : ℕ) (a b : Stmt) → stmt_bare m b ≡ stmt_bare m a → IsVar a → IsVar b
unfolding stmt_bare
var_kept zero a b e h = subst IsVar (sym e) h
var_kept (suc m) a b e h =
    var_node (expr_bare m) (stmt_bare m) (declaration_bare m) (stmt_level b) (subst IsVar (sym e) (var_bare (expr_bare m) (stmt_bare m) (declaration_bare m) (stmt_level a) h))

some_same : {A : Type 0} {a b : A} → Some a ≡ Some b → a ≡ b
some_same e = cc

finally_kept : (m : ℕ) (c : Around) (a b : Option Stmt) → option_map (stmt_bare m) b ≡ option_map (stmt_bare m) a → (IfThere (StmtWithin m c) a → IfThere (StmtWithin m c) b) → IfThere (λ x. IsBlock x × StmtWithin m c x) a → IfThere (λ x. IsBlock x × StmtWithin m c x) b
finally_kept m c (Some x) (Some y) e f h = (block_kept m x y (some_same e) h.0, f h.1)
finally_kept m c None (Some y) e f h = absurd (let never : ⊥ = cc in never)
finally_kept m c a None e f h = tt

catch_or_finally : (f : Catch → Catch) (g : Stmt → Stmt) (a b : Option Catch) (c d : Option Stmt) → option_map f b ≡ option_map f a → option_map g d ≡ option_map g c → CatchOrFinally a c → CatchOrFinally b d
catch_or_finally f g (Some x) (Some y) c d e h k = tt
catch_or_finally f g None (Some y) c d e h k = tt
catch_or_finally f g (Some x) None c d e h k = absurd (let never : ⊥ = cc in never)
catch_or_finally f g None None (Some x) (Some y) e h k = tt
catch_or_finally f g None None (Some x) None e h k = absurd (let never : ⊥ = cc in never)
catch_or_finally f g None None None d e h k = absurd k

none_bare : (f : Expr → Expr) (o : Option Expr) → is_none (option_map f o) ≡ is_none o
none_bare f (Some x) = refl
none_bare f None = refl

default_bare : (m : ℕ) (x : Case) → is_default (bare_case (expr_bare m) (stmt_bare m) (declaration_bare m) x) ≡ is_default x
default_bare m x = ap (λ r. is_none r.test) (out-roll-Case _) ∙ none_bare (expr_bare m) (out-Case x).test

defaults : (m : ℕ) (xs : List Case) → map is_default (map (bare_case (expr_bare m) (stmt_bare m) (declaration_bare m)) xs) ≡ map is_default xs
defaults m [] = refl
defaults m (x ∷ xs) = λ i. default_bare m x i ∷ defaults m xs i

count_flags : {A : Type 0} (p : A → Bool) (xs : List A) → count_by p xs ≡ count_by (λ b. b) (map p xs)
count_flags p [] = refl
count_flags p (x ∷ xs) = sum_by-cons (λ y. cond (p y) 1 0) x xs ∙ ap (λ n. cond (p x) 1 0 + n) (count_flags p xs) ∙ sym (sum_by-cons (λ b. cond b 1 0) (p x) (map p xs))

default_kept : (m : ℕ) (xs ys : List Case) → map (bare_case (expr_bare m) (stmt_bare m) (declaration_bare m)) ys ≡ map (bare_case (expr_bare m) (stmt_bare m) (declaration_bare m)) xs → count_by is_default xs ≤ 1 → count_by is_default ys ≤ 1
default_kept m xs ys e h =
    let flags : map is_default ys ≡ map is_default xs = sym (defaults m ys) ∙ ap (map is_default) e ∙ defaults m xs in
    let same : count_by is_default ys ≡ count_by is_default xs = count_flags is_default ys ∙ ap (count_by (λ b. b)) flags ∙ sym (count_flags is_default xs) in
    subst (λ n. n ≤ 1) (sym same) h

-- ---- statements

pub stmt_at : (m : ℕ) {w w' : Walk} {n L : ℕ} {f : ℕ → Codes} {A : Codes → Frames → Type 0} (x y : Stmt) (N K : StmtLevel) → stmt_level x ≡ N → stmt_level y ≡ K → suc L ≤ suc m + suc m
    → n ≡ count_stmt (expr_count m) (stmt_count m) (declaration_count m) N
    → ((d : ℕ) → in_stmt (expr_codes d) (stmt_codes d) (body_codes d) K ≡ f d)
    → ((table : Codes) (frames : Frames) → A table frames → BoundStmt table (ExprBound table m) (StmtBound table m) (DeclarationBound table m) frames K)
    → bare_stmt (expr_bare m) (stmt_bare m) (declaration_bare m) K ≡ bare_stmt (expr_bare m) (stmt_bare m) (declaration_bare m) N
    → ((c : Around) → LawfulStmt (ExprWithin m) (StmtWithin m) (DeclarationWithin m) c N → LawfulStmt (ExprWithin m) (StmtWithin m) (DeclarationWithin m) c K)
    → Part w w' n f L A → Resolves (stmt_kind (suc m)) w x y w'
unfolding stmt_codes stmt_count StmtBound stmt_bare StmtWithin
stmt_at m x y N K ex ey less count codes bound same lawful p = record {
  part = raised less (count ∙ ap (count_stmt (expr_count m) (stmt_count m) (declaration_count m)) (sym ex))
      (λ d. ap (in_stmt (expr_codes d) (stmt_codes d) (body_codes d)) ey ∙ codes d)
      (λ table frames h. subst (BoundStmt table (ExprBound table m) (StmtBound table m) (DeclarationBound table m) frames) (sym ey) (bound table frames h)) p;
  same = ap stmt_of (ap (bare_stmt (expr_bare m) (stmt_bare m) (declaration_bare m)) ey ∙ same ∙ ap (bare_stmt (expr_bare m) (stmt_bare m) (declaration_bare m)) (sym ex));
  lawful = λ c h. subst (LawfulStmt (ExprWithin m) (StmtWithin m) (DeclarationWithin m) c) (sym ey) (lawful c (subst (LawfulStmt (ExprWithin m) (StmtWithin m) (DeclarationWithin m) c) ex h));
}

pub empty_made : (m : ℕ) {w : Walk} (x : Stmt) → x.node ≡ s.Empty → Resolves (stmt_kind (suc m)) w x (stmt_of (s.Empty)) w
empty_made m {w} x at =
    stmt_at m x (stmt_of (s.Empty)) StmtNode-F.Empty StmtNode-F.Empty (ap out-StmtNode (at ∙ sym (s.rolls-Empty)) ∙ out-roll-StmtNode StmtNode-F.Empty) (ap out-StmtNode (sym (s.rolls-Empty)) ∙ out-roll-StmtNode StmtNode-F.Empty) (below m)
    refl (λ d. refl) (λ table frames h. h) refl (λ c h. h) (none w (m + m))

pub continue_made : (m : ℕ) {w : Walk} (x : Stmt) → x.node ≡ s.Continue → Resolves (stmt_kind (suc m)) w x (stmt_of (s.Continue)) w
continue_made m {w} x at =
    stmt_at m x (stmt_of (s.Continue)) StmtNode-F.Continue StmtNode-F.Continue (ap out-StmtNode (at ∙ sym (s.rolls-Continue)) ∙ out-roll-StmtNode StmtNode-F.Continue) (ap out-StmtNode (sym (s.rolls-Continue)) ∙ out-roll-StmtNode StmtNode-F.Continue) (below m)
    refl (λ d. refl) (λ table frames h. h) refl (λ c h. h) (none w (m + m))

pub break_made : (m : ℕ) {w : Walk} (x : Stmt) → x.node ≡ s.Break → Resolves (stmt_kind (suc m)) w x (stmt_of (s.Break)) w
break_made m {w} x at =
    stmt_at m x (stmt_of (s.Break)) StmtNode-F.Break StmtNode-F.Break (ap out-StmtNode (at ∙ sym (s.rolls-Break)) ∙ out-roll-StmtNode StmtNode-F.Break) (ap out-StmtNode (sym (s.rolls-Break)) ∙ out-roll-StmtNode StmtNode-F.Break) (below m)
    refl (λ d. refl) (λ table frames h. h) refl (λ c h. h) (none w (m + m))

pub block_made : (m : ℕ) {w w' : Walk} (x : Stmt) {ys zs : List Stmt} → x.node ≡ s.Block ys → Resolves (list_kind (stmt_kind m)) w ys zs w' → Resolves (stmt_kind (suc m)) w x (stmt_of (s.Block zs)) w'
block_made m {w} {w'} x {ys} {zs} at r0 =
    stmt_at m x (stmt_of (s.Block zs)) (StmtNode-F.Block ys) (StmtNode-F.Block zs) (ap out-StmtNode (at ∙ sym (s.rolls-Block ys)) ∙ out-roll-StmtNode (StmtNode-F.Block ys)) (ap out-StmtNode (sym (s.rolls-Block zs)) ∙ out-roll-StmtNode (StmtNode-F.Block zs)) (below m)
    refl (λ d. refl) (λ table frames h. h) (ap s.Block r0.same) (λ c h. r0.lawful c h) r0.part

pub var_made : (m : ℕ) {w w' : Walk} (x : Stmt) {ys zs : List Variable} → x.node ≡ s.Var ys → Resolves (list_kind (variable_kind m)) w ys zs w' → Resolves (stmt_kind (suc m)) w x (stmt_of (s.Var zs)) w'
var_made m {w} {w'} x {ys} {zs} at r0 =
    stmt_at m x (stmt_of (s.Var zs)) (StmtNode-F.Var ys) (StmtNode-F.Var zs) (ap out-StmtNode (at ∙ sym (s.rolls-Var ys)) ∙ out-roll-StmtNode (StmtNode-F.Var ys)) (ap out-StmtNode (sym (s.rolls-Var zs)) ∙ out-roll-StmtNode (StmtNode-F.Var zs)) (below m)
    refl (λ d. refl) (λ table frames h. h) (ap s.Var r0.same) (λ c h. r0.lawful c h) r0.part

pub expression_made : (m : ℕ) {w w' : Walk} (x : Stmt) {a b : Expr} → x.node ≡ s.Expression a → Resolves (expr_kind m) w a b w' → Resolves (stmt_kind (suc m)) w x (stmt_of (s.Expression b)) w'
expression_made m {w} {w'} x {a} {b} at r0 =
    stmt_at m x (stmt_of (s.Expression b)) (StmtNode-F.Expression a) (StmtNode-F.Expression b) (ap out-StmtNode (at ∙ sym (s.rolls-Expression a)) ∙ out-roll-StmtNode (StmtNode-F.Expression a)) (ap out-StmtNode (sym (s.rolls-Expression b)) ∙ out-roll-StmtNode (StmtNode-F.Expression b)) (below m)
    refl (λ d. refl) (λ table frames h. h) (ap s.Expression r0.same) (λ c h. r0.lawful c h) r0.part

pub throw_made : (m : ℕ) {w w' : Walk} (x : Stmt) {a b : Expr} → x.node ≡ s.Throw a → Resolves (expr_kind m) w a b w' → Resolves (stmt_kind (suc m)) w x (stmt_of (s.Throw b)) w'
throw_made m {w} {w'} x {a} {b} at r0 =
    stmt_at m x (stmt_of (s.Throw b)) (StmtNode-F.Throw a) (StmtNode-F.Throw b) (ap out-StmtNode (at ∙ sym (s.rolls-Throw a)) ∙ out-roll-StmtNode (StmtNode-F.Throw a)) (ap out-StmtNode (sym (s.rolls-Throw b)) ∙ out-roll-StmtNode (StmtNode-F.Throw b)) (below m)
    refl (λ d. refl) (λ table frames h. h) (ap s.Throw r0.same) (λ c h. r0.lawful c h) r0.part

pub return_made : (m : ℕ) {w w' : Walk} (x : Stmt) {a b : Option Expr} → x.node ≡ s.Return a → Resolves (option_kind (expr_kind m)) w a b w' → Resolves (stmt_kind (suc m)) w x (stmt_of (s.Return b)) w'
return_made m {w} {w'} x {a} {b} at r0 =
    stmt_at m x (stmt_of (s.Return b)) (StmtNode-F.Return a) (StmtNode-F.Return b) (ap out-StmtNode (at ∙ sym (s.rolls-Return a)) ∙ out-roll-StmtNode (StmtNode-F.Return a)) (ap out-StmtNode (sym (s.rolls-Return b)) ∙ out-roll-StmtNode (StmtNode-F.Return b)) (below m)
    refl (λ d. refl) (λ table frames h. h) (ap s.Return r0.same) (λ c h. (h.0, r0.lawful c h.1)) r0.part

pub if_made : (m : ℕ) {w v u w' : Walk} (x : Stmt) {a a' : Expr} {b b' : Stmt} {d d' : Option Stmt} → x.node ≡ s.If a b d → Resolves (expr_kind m) w a a' v → Resolves (stmt_kind m) v b b' u → Resolves (option_kind (stmt_kind m)) u d d' w' → Resolves (stmt_kind (suc m)) w x (stmt_of (s.If a' b' d')) w'
if_made m {w} {v} {u} {w'} x {a} {a'} {b} {b'} {d} {d'} at r0 r1 r2 =
    stmt_at m x (stmt_of (s.If a' b' d')) (StmtNode-F.If a b d) (StmtNode-F.If a' b' d') (ap out-StmtNode (at ∙ sym (s.rolls-If a b d)) ∙ out-roll-StmtNode (StmtNode-F.If a b d)) (ap out-StmtNode (sym (s.rolls-If a' b' d')) ∙ out-roll-StmtNode (StmtNode-F.If a' b' d')) (below m)
    refl (λ d. refl) (λ table frames h. h) (λ i. s.If (r0.same i) (r1.same i) (r2.same i)) (λ c h. (r0.lawful c h.0, r1.lawful c h.1, r2.lawful c h.2)) (three r0.part r1.part r2.part)

pub do_made : (m : ℕ) {w v w' : Walk} (x : Stmt) {a a' : Stmt} {b b' : Expr} → x.node ≡ s.DoWhile a b → Resolves (stmt_kind m) w a a' v → Resolves (expr_kind m) v b b' w' → Resolves (stmt_kind (suc m)) w x (stmt_of (s.DoWhile a' b')) w'
do_made m {w} {v} {w'} x {a} {a'} {b} {b'} at r0 r1 =
    stmt_at m x (stmt_of (s.DoWhile a' b')) (StmtNode-F.DoWhile a b) (StmtNode-F.DoWhile a' b') (ap out-StmtNode (at ∙ sym (s.rolls-DoWhile a b)) ∙ out-roll-StmtNode (StmtNode-F.DoWhile a b)) (ap out-StmtNode (sym (s.rolls-DoWhile a' b')) ∙ out-roll-StmtNode (StmtNode-F.DoWhile a' b')) (below m)
    refl (λ d. refl) (λ table frames h. h) (λ i. s.DoWhile (r0.same i) (r1.same i)) (λ c h. (r0.lawful (loop_round c) h.0, r1.lawful c h.1)) (two r0.part r1.part)

pub while_made : (m : ℕ) {w v w' : Walk} (x : Stmt) {a a' : Expr} {b b' : Stmt} → x.node ≡ s.While a b → Resolves (expr_kind m) w a a' v → Resolves (stmt_kind m) v b b' w' → Resolves (stmt_kind (suc m)) w x (stmt_of (s.While a' b')) w'
while_made m {w} {v} {w'} x {a} {a'} {b} {b'} at r0 r1 =
    stmt_at m x (stmt_of (s.While a' b')) (StmtNode-F.While a b) (StmtNode-F.While a' b') (ap out-StmtNode (at ∙ sym (s.rolls-While a b)) ∙ out-roll-StmtNode (StmtNode-F.While a b)) (ap out-StmtNode (sym (s.rolls-While a' b')) ∙ out-roll-StmtNode (StmtNode-F.While a' b')) (below m)
    refl (λ d. refl) (λ table frames h. h) (λ i. s.While (r0.same i) (r1.same i)) (λ c h. (r0.lawful c h.0, r1.lawful (loop_round c) h.1)) (two r0.part r1.part)

pub for_made : (m : ℕ) {w v u t w' : Walk} (x : Stmt) {a a' : ForStart} {b b' d d' : Option Expr} {f f' : Stmt} → x.node ≡ s.For a b d f → Resolves (start_kind m) w a a' v → Resolves (option_kind (expr_kind m)) v b b' u → Resolves (option_kind (expr_kind m)) u d d' t → Resolves (stmt_kind m) t f f' w' → Resolves (stmt_kind (suc m)) w x (stmt_of (s.For a' b' d' f')) w'
for_made m {w} {v} {u} {t} {w'} x {a} {a'} {b} {b'} {d} {d'} {f} {f'} at r0 r1 r2 r3 =
    stmt_at m x (stmt_of (s.For a' b' d' f')) (StmtNode-F.For a b d f) (StmtNode-F.For a' b' d' f') (ap out-StmtNode (at ∙ sym (s.rolls-For a b d f)) ∙ out-roll-StmtNode (StmtNode-F.For a b d f)) (ap out-StmtNode (sym (s.rolls-For a' b' d' f')) ∙ out-roll-StmtNode (StmtNode-F.For a' b' d' f')) (below m)
    refl (λ d. refl) (λ table frames h. h) (λ i. s.For (r0.same i) (r1.same i) (r2.same i) (r3.same i)) (λ c h. (r0.lawful c h.0, r1.lawful c h.1, r2.lawful c h.2, r3.lawful (loop_round c) h.3)) (four r0.part r1.part r2.part r3.part)

pub for_in_made : (m : ℕ) {w v u w' : Walk} (x : Stmt) {a a' : ForTarget} {b b' : Expr} {f f' : Stmt} → x.node ≡ s.ForIn a b f → Resolves (target_kind m) w a a' v → Resolves (expr_kind m) v b b' u → Resolves (stmt_kind m) u f f' w' → Resolves (stmt_kind (suc m)) w x (stmt_of (s.ForIn a' b' f')) w'
for_in_made m {w} {v} {u} {w'} x {a} {a'} {b} {b'} {f} {f'} at r0 r1 r2 =
    stmt_at m x (stmt_of (s.ForIn a' b' f')) (StmtNode-F.ForIn a b f) (StmtNode-F.ForIn a' b' f') (ap out-StmtNode (at ∙ sym (s.rolls-ForIn a b f)) ∙ out-roll-StmtNode (StmtNode-F.ForIn a b f)) (ap out-StmtNode (sym (s.rolls-ForIn a' b' f')) ∙ out-roll-StmtNode (StmtNode-F.ForIn a' b' f')) (below m)
    refl (λ d. refl) (λ table frames h. h) (λ i. s.ForIn (r0.same i) (r1.same i) (r2.same i)) (λ c h. (r0.lawful c h.0, r1.lawful c h.1, r2.lawful (loop_round c) h.2)) (three r0.part r1.part r2.part)

pub switch_made : (m : ℕ) {w v w' : Walk} (x : Stmt) {a a' : Expr} {ys zs : List Case} → x.node ≡ s.Switch a ys → Resolves (expr_kind m) w a a' v → Resolves (list_kind (case_kind m)) v ys zs w' → Resolves (stmt_kind (suc m)) w x (stmt_of (s.Switch a' zs)) w'
switch_made m {w} {v} {w'} x {a} {a'} {ys} {zs} at r0 r1 =
    stmt_at m x (stmt_of (s.Switch a' zs)) (StmtNode-F.Switch a ys) (StmtNode-F.Switch a' zs) (ap out-StmtNode (at ∙ sym (s.rolls-Switch a ys)) ∙ out-roll-StmtNode (StmtNode-F.Switch a ys)) (ap out-StmtNode (sym (s.rolls-Switch a' zs)) ∙ out-roll-StmtNode (StmtNode-F.Switch a' zs)) (below m)
    refl (λ d. refl) (λ table frames h. h) (λ i. s.Switch (r0.same i) (r1.same i)) (λ c h. (r0.lawful c h.0, default_kept m ys zs r1.same h.1, r1.lawful (switch_round c) h.2)) (two r0.part r1.part)

pub try_made : (m : ℕ) {w v u w' : Walk} (x : Stmt) {a a' : Stmt} {b b' : Option Catch} {d d' : Option Stmt} → x.node ≡ s.Try a b d → Resolves (stmt_kind m) w a a' v → Resolves (option_kind (catch_kind m)) v b b' u → Resolves (option_kind (stmt_kind m)) u d d' w' → Resolves (stmt_kind (suc m)) w x (stmt_of (s.Try a' b' d')) w'
try_made m {w} {v} {u} {w'} x {a} {a'} {b} {b'} {d} {d'} at r0 r1 r2 =
    stmt_at m x (stmt_of (s.Try a' b' d')) (StmtNode-F.Try a b d) (StmtNode-F.Try a' b' d') (ap out-StmtNode (at ∙ sym (s.rolls-Try a b d)) ∙ out-roll-StmtNode (StmtNode-F.Try a b d)) (ap out-StmtNode (sym (s.rolls-Try a' b' d')) ∙ out-roll-StmtNode (StmtNode-F.Try a' b' d')) (below m)
    refl (λ d. refl) (λ table frames h. h) (λ i. s.Try (r0.same i) (r1.same i) (r2.same i)) (λ c h. (block_kept m a a' r0.same h.0, r0.lawful c h.1, catch_or_finally (bare_catch (expr_bare m) (stmt_bare m) (declaration_bare m)) (stmt_bare m) b b' d d' r1.same r2.same h.2, r1.lawful c h.3, finally_kept m c d d' r2.same (r2.lawful c) h.4)) (three r0.part r1.part r2.part)
