use Rattle.std.proofs.Common.{◌≡◌, ◌∙◌, ap, sym, ℕ, Bool, true, false, nat_lt, List, Some, slice_get, ◌<◌, ◌+◌, arith, refl, length}
use Rattle.std.proofs.lemmas.Bool.Decides.{nat_tests}
use Rattle.std.proofs.lemmas.Option.{slice_get_within}
use Rattle.std.proofs.lemmas.List.{length-map}
use Rattle.value_cells.specs.declared.CellName.{CellName}
use Rattle.value_cells.specs.Held.{names_of}
use Rattle.value_cells.proofs.tests.is_new.Goals as goal

-- the next name is another
none-next : (names : List CellName) (k : ℕ) (m : CellName) (x : ℕ) → slice_get names k ≡ Some m → (m.number ≡ x → ⊥)
    → ((i : ℕ) (n : CellName) → i < k → slice_get names i ≡ Some n → n.number ≡ x → ⊥) → (i : ℕ) (n : CellName) → i < k + 1 → slice_get names i ≡ Some n → n.number ≡ x → ⊥
none-next names k m x at apart before i n l e q = by (nat_lt i k) refl
  where
    by : (b : Bool) → nat_lt i k ≡ b → ⊥
    by true h = before i n (grind (arith, nat_tests)) e q
    by false h =
        let same : i ≡ k = grind (arith, nat_tests) in
        let is : Some m ≡ Some n = sym at ∙ ap (slice_get names) (sym same) ∙ e in
        let one : m ≡ n = cc in
        apart (ap (λ n. n.number) one ∙ q)

pub loop-cell-preserved : goal.loop-cell-preserved
loop-cell-preserved c = none-next (names_of c.args.cells.now.now) c.loop-cell.cell c.name.result.now c.args.number c.name.ensures c.if-name-number.false c.loop-cell.invariant

pub returns : goal.returns
returns c = λ t i n e q.
    let here : i < length (names_of c.args.cells.now.now) = slice_get_within (names_of c.args.cells.now.now) i n e in
    let long : length (names_of c.args.cells.now.now) ≡ length c.args.cells.now.now = length-map c.args.cells.now.now (λ c. c.name) in
    let counted : c.in-Ok.count ≡ c.count.result = c.in-Ok.ensures.1 in
    c.loop-cell.invariant i n (omega (arith, here, long, counted, c.count.ensures, c.loop-cell-test.false)) e q
