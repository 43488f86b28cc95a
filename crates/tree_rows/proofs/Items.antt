-- The items of an array literal, and the fields of an object literal.
use Rattle.std.specs.Prelude.{Ok}
use Rattle.std.proofs.Common.{◌≡◌, ◌≤◌, ◌<◌, ◌+◌, ◌∙◌, ℕ, suc, List, length, get_or, drop, sym, ap, add-one, drop-cons}
use Rattle.std.proofs.Math.ListN.{drop_of_length-le}
use Rattle.js_tree.specs.declared.Expr.{Expr}
use Rattle.js_tree.specs.declared.Field.{Field, out-Field}
use Rattle.js_tree.specs.Expressions.{items, fields}
use Rattle.js_tree.specs.Pieces.{Here}
use Rattle.turk_base.specs.Names.{Name}
use Rattle.turk_base.specs.Errors.{index_text}
use Rattle.turk_base.specs.Prog.{Prog, Then, Put, ask}
use Rattle.value_cells.specs.declared.Value.TheVariants as code
use Rattle.value_cells.specs.Seen.{Naming}
use Rattle.run_host.specs.declared.Exit.{Exit}
use Rattle.run_host.specs.Moment.{Chain, Moment}
use Rattle.run_host.specs.Told.{told_exit, told_value}
use Rattle.run_host.specs.Did.{Runs}
use Rattle.run_host.specs.Steps.{Onward, Gives, Leaves}
use Rattle.run_host.proofs.Sequence.{ends_with, onward_then}
use Rattle.tree_rows.proofs.Lists.{onward_eq}

module _ (expr : Here → Expr → Prog) (here : Naming → Here) (cell : ℕ) (all : List Expr) (i : ℕ) where
  abbrev pub items_from : Naming → Prog
  items_from nu = items expr (here nu) (nu cell) i (drop i all)

  abbrev pub items_after : Naming → Prog
  items_after nu = items expr (here nu) (nu cell) (i + 1) (drop (i + 1) all)

  abbrev pub one_item : ℕ → Expr → Naming → (Unit {0} → Prog) → Prog
  one_item k e nu go = Then (expr (here nu) e) (λ v. ask (Put (nu cell) (index_text k) v) go)

  item_at : (k : ℕ) (e : Expr) → k ≡ i → i < length all → e ≡ get_or all i e → (nu : Naming) → items_from nu ≡ one_item k e nu (λ _. items_after nu)
  item_at k e q h p nu = ap (items expr (here nu) (nu cell) i) (drop-cons all i e h) ∙ (λ j. one_item (sym q j) (sym p j) nu (λ _. items expr (here nu) (nu cell) (sym (add-one i) j) (drop (sym (add-one i) j) all)))

  pub items_next : {κ : Chain} → (k : ℕ) (e : Expr) {a b c : Moment κ} {start : Naming → Prog} → k ≡ i → i < length all → e ≡ get_or all i e → Onward start items_from a b → Gives (one_item k e) (λ nu. tt) b c → Onward start items_after a c
  items_next k e q h p rest s = onward_then rest (onward_then (onward_eq (item_at k e q h p)) (s.goes (λ nu _. items_after nu)))

  pub items_out : {κ : Chain} → (k : ℕ) (e : Expr) (x : Exit) {a b c : Moment κ} {start : Naming → Prog} → k ≡ i → i < length all → e ≡ get_or all i e → Onward start items_from a b → Leaves (one_item k e) x b c → Runs start (λ nu. told_exit nu x) a c
  items_out k e x {c = c} q h p rest s = (onward_then rest (onward_eq (item_at k e q h p))).goes (λ nu. told_exit nu x) c (s.ends (λ nu _. items_after nu))

  pub items_over : {κ : Chain} {a b : Moment κ} {start : Naming → Prog} → length all ≤ i → Onward start items_from a b → Runs start (λ nu. told_value nu (Ok (code.Object cell))) a b
  items_over {b = b} h rest = (onward_then rest (onward_eq (λ nu. ap (items expr (here nu) (nu cell) i) (drop_of_length-le all h)))).goes (λ nu. told_value nu (Ok (code.Object cell))) b ends_with

module _ (expr : Here → Expr → Prog) (here : Naming → Here) (cell : ℕ) (all : List Field) (i : ℕ) where
  abbrev pub fields_from : Naming → Prog
  fields_from nu = fields expr (here nu) (nu cell) (drop i all)

  abbrev pub fields_after : Naming → Prog
  fields_after nu = fields expr (here nu) (nu cell) (drop (i + 1) all)

  abbrev pub one_field : Field → Naming → (Unit {0} → Prog) → Prog
  one_field x nu go = Then (expr (here nu) (out-Field x).value) (λ v. ask (Put (nu cell) (out-Field x).key v) go)

  field_at : (x : Field) → i < length all → x ≡ get_or all i x → (nu : Naming) → fields_from nu ≡ one_field x nu (λ _. fields_after nu)
  field_at x h p nu = ap (fields expr (here nu) (nu cell)) (drop-cons all i x h) ∙ (λ j. one_field (sym p j) nu (λ _. fields expr (here nu) (nu cell) (drop (sym (add-one i) j) all)))

  pub fields_next : {κ : Chain} → (x : Field) {a b c : Moment κ} {start : Naming → Prog} → i < length all → x ≡ get_or all i x → Onward start fields_from a b → Gives (one_field x) (λ nu. tt) b c → Onward start fields_after a c
  fields_next x h p rest s = onward_then rest (onward_then (onward_eq (field_at x h p)) (s.goes (λ nu _. fields_after nu)))

  pub fields_out : {κ : Chain} → (x : Field) (y : Exit) {a b c : Moment κ} {start : Naming → Prog} → i < length all → x ≡ get_or all i x → Onward start fields_from a b → Leaves (one_field x) y b c → Runs start (λ nu. told_exit nu y) a c
  fields_out x y {c = c} h p rest s = (onward_then rest (onward_eq (field_at x h p))).goes (λ nu. told_exit nu y) c (s.ends (λ nu _. fields_after nu))

  pub fields_over : {κ : Chain} {a b : Moment κ} {start : Naming → Prog} → length all ≤ i → Onward start fields_from a b → Runs start (λ nu. told_value nu (Ok (code.Object cell))) a b
  fields_over {b = b} h rest = (onward_then rest (onward_eq (λ nu. ap (fields expr (here nu) (nu cell)) (drop_of_length-le all h)))).goes (λ nu. told_value nu (Ok (code.Object cell))) b ends_with
