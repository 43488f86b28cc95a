-- The clauses of a switch.
use Rattle.std.specs.Prelude.{Ok, is_some, true, false, Option, Some, None, Bool}
use Rattle.std.proofs.Common.{◌≡◌, ◌≢◌, ◌≤◌, ◌<◌, ◌+◌, ◌∙◌, ℕ, List, [], ◌∷◌, length, get_or, drop, take, arith, ◌-◌, refl, sym, ap, subst, add-one, drop-cons}
use Rattle.std.proofs.Math.ListN.{drop_of_length-le}
use Rattle.std.proofs.Math.Seq.{take-length}
use Rattle.js_tree.specs.declared.Stmt.{Stmt}
use Rattle.js_tree.specs.declared.Expr.{Expr}
use Rattle.js_tree.specs.declared.Case.{Case, out-Case}
use Rattle.js_tree.specs.Statements.{clauses, default_of, test_clause, clause_for}
use Rattle.js_tree.specs.Pieces.{Here}
use Rattle.js_tree.specs.Calls.{Code, list}
use Rattle.turk_base.specs.Errors.{choose}
use Rattle.turk_base.specs.Prog.{Prog, Then}
use Rattle.turk_base.specs.Values.{Val, Undefined}
use Rattle.value_cells.specs.Seen.{Naming}
use Rattle.run_host.specs.declared.Exit.{Exit}
use Rattle.run_host.specs.declared.Flow.{Flow}
use Rattle.run_host.specs.declared.Flow.TheVariants as flow
use Rattle.run_host.specs.Moment.{Chain, Moment}
use Rattle.run_host.specs.Told.{told_exit, told_flow}
use Rattle.run_host.specs.Did.{Runs}
use Rattle.run_host.specs.Steps.{Onward, Gives, Leaves}
use Rattle.run_host.proofs.Sequence.{ends_with, onward_then}
use Rattle.tree_rows.proofs.Lists.{onward_eq}
use Rattle.tree_rows.proofs.Flows.{flow_on, flow_out}
use Rattle.run_host.proofs.Exits.{first_out}

-- Clauses from the place i on.
module _ (table : List Code) (expr : Here → Expr → Prog) (stmt : Here → Stmt → Prog) (here : Naming → Here) (all : List Case) (i : ℕ) where
  abbrev pub clauses_from : Naming → Prog
  clauses_from nu = clauses table expr stmt (here nu) (drop i all)

  abbrev pub clauses_after : Naming → Prog
  clauses_after nu = clauses table expr stmt (here nu) (drop (i + 1) all)

  abbrev pub of_case : Case → Naming → Prog
  of_case c nu = list table stmt (here nu) (out-Case c).statements

  clause_at : (c : Case) → i < length all → c ≡ get_or all i c → (nu : Naming) → clauses_from nu ≡ Then (of_case c nu) (λ _. clauses_after nu)
  clause_at c h e nu = ap (clauses table expr stmt (here nu)) (drop-cons all i c h) ∙ (λ j. Then (of_case (sym e j) nu) (λ _. clauses table expr stmt (here nu) (drop (sym (add-one i) j) all)))

  pub clause_next : {κ : Chain} → (c : Case) (f : Flow) {x y z : Moment κ} {start : Naming → Prog} → i < length all → c ≡ get_or all i c → f ≡ flow.Normal → Onward start clauses_from x y
      → Runs (of_case c) (λ nu. told_flow nu (Ok f)) y z → Onward start clauses_after x z
  clause_next c f h e n rest ran = onward_then rest (onward_then (onward_eq (clause_at c h e)) (record { goes = λ t last r. flow_on (λ nu _. clauses_after nu) f n ran r }))

  pub clause_ends : {κ : Chain} → (c : Case) (f : Flow) {x y z : Moment κ} {start : Naming → Prog} → i < length all → c ≡ get_or all i c → f ≢ flow.Normal → Onward start clauses_from x y
      → Runs (of_case c) (λ nu. told_flow nu (Ok f)) y z → Runs start (λ nu. told_flow nu (Ok f)) x z
  clause_ends c f {z = z} h e n rest ran = (onward_then rest (onward_eq (clause_at c h e))).goes (λ nu. told_flow nu (Ok f)) z (flow_out (λ nu _. clauses_after nu) f n ran)

  pub clause_out : {κ : Chain} → (c : Case) (e : Exit) {x y z : Moment κ} {start : Naming → Prog} → i < length all → c ≡ get_or all i c → Onward start clauses_from x y
      → Runs (of_case c) (λ nu. told_exit nu e) y z → Runs start (λ nu. told_exit nu e) x z
  clause_out c e {z = z} h q rest ran = (onward_then rest (onward_eq (clause_at c h q))).goes (λ nu. told_exit nu e) z (first_out (λ nu _. clauses_after nu) e ran)

  pub clauses_over : {κ : Chain} {x y : Moment κ} {start : Naming → Prog} → length all ≤ i → Onward start clauses_from x y → Runs start (λ nu. told_flow nu (Ok flow.Normal)) x y
  clauses_over {y = y} h rest = (onward_then rest (onward_eq (λ nu. ap (clauses table expr stmt (here nu)) (drop_of_length-le all h)))).goes (λ nu. told_flow nu (Ok flow.Normal)) y ends_with

-- Tests in order, with the value that is looked for.
module _ (table : List Code) (expr : Here → Expr → Prog) (stmt : Here → Stmt → Prog) (here : Naming → Here) (all : List Case) (v : Naming → Val) where
  abbrev pub tests_from : List Case → Naming → Prog
  tests_from cs nu = clause_for table expr stmt (here nu) (v nu) cs all

  -- the test of the first clause, as a step
  abbrev pub test_of : Option Expr → Naming → (Bool → Prog) → Prog
  test_of o nu go = test_clause table expr stmt (here nu) (v nu) o (go true) (go false)

  -- by the answer of the first test
  abbrev pub by_test : Case → List Case → Naming → Bool → Prog
  by_test c cs nu b = choose b (clauses table expr stmt (here nu) (c ∷ cs)) (tests_from cs nu)

  pub tests_on : {κ : Chain} {c : Case} {cs rest : List Case} {x y z : Moment κ} {start : Naming → Prog} (b : Bool) → rest ≡ c ∷ cs → Onward start (tests_from rest) x y
      → Gives (test_of (out-Case c).test) (λ nu. b) y z → Onward start (λ nu. by_test c cs nu b) x z
  tests_on {κ} {c} {cs} {rest} b e so s = onward_then so (onward_then (onward_eq (λ nu. ap (λ l. tests_from l nu) e)) (s.goes (by_test c cs)))

  pub tests_out : {κ : Chain} {c : Case} {cs rest : List Case} {x y z : Moment κ} {start : Naming → Prog} (q : Exit) → rest ≡ c ∷ cs → Onward start (tests_from rest) x y
      → Leaves (test_of (out-Case c).test) q y z → Runs start (λ nu. told_exit nu q) x z
  tests_out {κ} {c} {cs} {rest} {z = z} q e so s = (onward_then so (onward_eq (λ nu. ap (λ l. tests_from l nu) e))).goes (λ nu. told_exit nu q) z (s.ends (by_test c cs))

  -- the clause meets it, or the next is tested
  pub tests_meet : {κ : Chain} → (c : Case) (cs : List Case) {x z : Moment κ} {start : Naming → Prog} (b : Bool) → b ≡ true → Onward start (λ nu. by_test c cs nu b) x z → Onward start (λ nu. clauses table expr stmt (here nu) (c ∷ cs)) x z
  tests_meet c cs b e so = onward_then so (onward_eq (λ nu. ap (by_test c cs nu) e))

  pub tests_miss : {κ : Chain} → (c : Case) (cs : List Case) {x z : Moment κ} {start : Naming → Prog} (b : Bool) → b ≡ false → Onward start (λ nu. by_test c cs nu b) x z → Onward start (tests_from cs) x z
  tests_miss c cs b e so = onward_then so (onward_eq (λ nu. ap (by_test c cs nu) e))

  -- no clause is left
  pub tests_over : {κ : Chain} {rest : List Case} {x z : Moment κ} {start : Naming → Prog} → rest ≡ [] → Onward start (tests_from rest) x z → Onward start (λ nu. default_of table expr stmt (here nu) all) x z
  tests_over e so = onward_then so (onward_eq (λ nu. ap (λ l. tests_from l nu) e))

-- a list by its first item and the others
pub first_and_rest : (xs : List Case) (x : Case) → 0 < length xs → x ≡ get_or xs 0 x → xs ≡ x ∷ drop 1 xs
first_and_rest xs x h e = drop-cons xs 0 x h ∙ ap (λ y. y ∷ drop 1 xs) (sym e)

-- the others of a list, as a part of it
pub others_of : (xs : List Case) → take (length xs - 1) (drop 1 xs) ≡ drop 1 xs
others_of [] = refl
others_of (x ∷ xs) = let e : length (x ∷ xs) - 1 ≡ length xs = omega arith in ap (λ n. take n xs) e ∙ take-length xs

pub none_left : (xs : List Case) → length xs ≡ 0 → xs ≡ []
none_left [] h = refl
none_left (x ∷ xs) h = absurd (omega (arith, h))

-- The clauses from the default on.
module _ (table : List Code) (expr : Here → Expr → Prog) (stmt : Here → Stmt → Prog) (here : Here) {rest : List Case} where
  pub default_none : rest ≡ [] → default_of table expr stmt here rest ≡ clauses table expr stmt here rest
  default_none e = ap (default_of table expr stmt here) e ∙ sym (ap (clauses table expr stmt here) e)

  pub default_here : {c : Case} {cs : List Case} → rest ≡ c ∷ cs → (out-Case c).test ≡ None → default_of table expr stmt here rest ≡ clauses table expr stmt here rest
  default_here {c} {cs} e n = ap (default_of table expr stmt here) e ∙ ap (λ t. choose (is_some t) (default_of table expr stmt here cs) (clauses table expr stmt here (c ∷ cs))) n ∙ sym (ap (clauses table expr stmt here) e)

  pub default_next : {c : Case} {cs : List Case} {test : Expr} → rest ≡ c ∷ cs → (out-Case c).test ≡ Some test → default_of table expr stmt here rest ≡ default_of table expr stmt here cs
  default_next {c} {cs} e n = ap (default_of table expr stmt here) e ∙ ap (λ t. choose (is_some t) (default_of table expr stmt here cs) (clauses table expr stmt here (c ∷ cs))) n

pub chosen : {A : Type 0} (b : Bool) (go : Bool → A) → choose b (go true) (go false) ≡ go b
chosen true go = refl
chosen false go = refl
