-- The turns of a for-in over keys, in order.
use Rattle.std.specs.Prelude.{Ok, Option, Some, None, is_some}
use Rattle.std.specs.Option.{option_map}
use Rattle.std.proofs.Common.{◌≡◌, ◌≢◌, ◌≤◌, ◌<◌, ◌+◌, ◌∙◌, ℕ, List, length, get_or, drop, refl, sym, ap, add-one, drop-cons, true, false}
use Rattle.std.proofs.lemmas.Bool.{false≢true}
use Rattle.std.proofs.Math.ListN.{drop_of_length-le}
use Rattle.js_tree.specs.declared.Stmt.{Stmt}
use Rattle.js_tree.specs.declared.Expr.{Expr}
use Rattle.js_tree.specs.Statements.{assigned, body_of, key_turn, key_turns, keys_of}
use Rattle.js_tree.specs.Pieces.{Here}
use Rattle.js_tree.specs.Calls.{Code}
use Rattle.js_tree.specs.Trees.{TargetLevel}
use Rattle.turk_base.specs.Names.{Units, Name}
use Rattle.turk_base.specs.Prog.{Get, Ask, Prog, Then, nothing}
use Rattle.turk_base.specs.Values as model
use Rattle.value_cells.specs.declared.Value.{Value}
use Rattle.value_cells.specs.declared.Value.TheVariants as code
use Rattle.value_cells.specs.Seen.{Naming, val_in}
use Rattle.run_host.specs.declared.Exit.{Exit}
use Rattle.run_host.specs.declared.Flow.{Flow}
use Rattle.run_host.specs.declared.Flow.TheVariants as flow
use Rattle.run_host.specs.Moment.{Chain, Moment}
use Rattle.run_host.specs.Told.{told_exit, told_flow}
use Rattle.run_host.specs.Did.{Runs}
use Rattle.run_host.specs.Steps.{Onward}
use Rattle.run_host.proofs.Sequence.{ends_with, onward_then}
use Rattle.run_host.proofs.Exits.{first_out}
use Rattle.tree_rows.proofs.Lists.{onward_eq}
use Rattle.tree_rows.proofs.Flows.{flow_on, flow_out}

-- Keys from the place i on.
module _ (table : List Code) (expr : Here → Expr → Prog) (stmt : Here → Stmt → Prog) (here : Naming → Here) (into : TargetLevel) (s : Stmt) (cell : ℕ) (all : List Units) (i : ℕ) where
  abbrev pub keys_from : Naming → Prog
  keys_from nu = key_turns table expr stmt (here nu) into s (nu cell) (drop i all)

  abbrev pub keys_after : Naming → Prog
  keys_after nu = key_turns table expr stmt (here nu) into s (nu cell) (drop (i + 1) all)

  abbrev pub of_key : Units → Naming → Prog
  of_key k nu = Ask (Get (nu cell) k) (λ found. key_turn table expr stmt (here nu) into s k found)

  key_at : (k : Units) → i < length all → k ≡ get_or all i k → (nu : Naming) → keys_from nu ≡ Then (of_key k nu) (λ _. keys_after nu)
  key_at k h e nu = ap (key_turns table expr stmt (here nu) into s (nu cell)) (drop-cons all i k h) ∙ (λ j. Then (of_key (sym e j) nu) (λ _. key_turns table expr stmt (here nu) into s (nu cell) (drop (sym (add-one i) j) all)))

  pub key_next : {κ : Chain} → (k : Units) (f : Flow) {x y z : Moment κ} {start : Naming → Prog} → i < length all → k ≡ get_or all i k → f ≡ flow.Normal → Onward start keys_from x y
      → Runs (of_key k) (λ nu. told_flow nu (Ok f)) y z → Onward start keys_after x z
  key_next k f h e n rest ran = onward_then rest (onward_then (onward_eq (key_at k h e)) (record { goes = λ t last r. flow_on (λ nu _. keys_after nu) f n ran r }))

  pub key_ends : {κ : Chain} → (k : Units) (f : Flow) {x y z : Moment κ} {start : Naming → Prog} → i < length all → k ≡ get_or all i k → f ≢ flow.Normal → Onward start keys_from x y
      → Runs (of_key k) (λ nu. told_flow nu (Ok f)) y z → Runs start (λ nu. told_flow nu (Ok f)) x z
  key_ends k f {z = z} h e n rest ran = (onward_then rest (onward_eq (key_at k h e))).goes (λ nu. told_flow nu (Ok f)) z (flow_out (λ nu _. keys_after nu) f n ran)

  pub key_out : {κ : Chain} → (k : Units) (e : Exit) {x y z : Moment κ} {start : Naming → Prog} → i < length all → k ≡ get_or all i k → Onward start keys_from x y
      → Runs (of_key k) (λ nu. told_exit nu e) y z → Runs start (λ nu. told_exit nu e) x z
  key_out k e {z = z} h q rest ran = (onward_then rest (onward_eq (key_at k h q))).goes (λ nu. told_exit nu e) z (first_out (λ nu _. keys_after nu) e ran)

  pub keys_over : {κ : Chain} {x y : Moment κ} {start : Naming → Prog} → length all ≤ i → Onward start keys_from x y → Runs start (λ nu. told_flow nu (Ok flow.Normal)) x y
  keys_over {y = y} h rest = (onward_then rest (onward_eq (λ nu. ap (key_turns table expr stmt (here nu) into s (nu cell)) (drop_of_length-le all h)))).goes (λ nu. told_flow nu (Ok flow.Normal)) y ends_with

-- the turn of a key that was found, and of one that was not
module _ (table : List Code) (expr : Here → Expr → Prog) (stmt : Here → Stmt → Prog) (here : Naming → Here) (into : TargetLevel) (s : Stmt) (key : Units) where
  pub turn_there : (found : Option Value) → is_some found ≡ true → (nu : Naming) → key_turn table expr stmt (here nu) into s key (option_map (val_in nu) found) ≡ assigned table expr stmt (here nu) into key (λ _. body_of table expr stmt (here nu) s)
  turn_there (Some v) h nu = refl
  turn_there None h nu = absurd (false≢true h)

  pub turn_gone : (found : Option Value) → is_some found ≡ false → (nu : Naming) → key_turn table expr stmt (here nu) into s key (option_map (val_in nu) found) ≡ nothing
  turn_gone (Some v) h nu = absurd (false≢true (sym h))
  turn_gone None h nu = refl

-- a primitive has no keys
pub no_keys : (table : List Code) (expr : Here → Expr → Prog) (stmt : Here → Stmt → Prog) (here : Naming → Here) (into : TargetLevel) (s : Stmt) (v : Value) → ((c : ℕ) → v ≡ code.Object c → ⊥) → (nu : Naming)
    → keys_of table expr stmt (here nu) into s (val_in nu v) ≡ nothing
no_keys table expr stmt here into s code.Undefined n nu = refl
no_keys table expr stmt here into s code.Null n nu = refl
no_keys table expr stmt here into s (code.Truth b) n nu = refl
no_keys table expr stmt here into s (code.Number z) n nu = refl
no_keys table expr stmt here into s (code.Text t) n nu = refl
no_keys table expr stmt here into s (code.Object c) n nu = absurd (n c refl)
