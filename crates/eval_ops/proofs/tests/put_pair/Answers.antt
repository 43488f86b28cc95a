use Rattle.std.proofs.Common.{sym, subst, ◌≤◌, ◌∷◌, [], arith}
use Rattle.std.specs.Prelude.{pos}
use Rattle.turk_base.specs.Data.{Data, DList, DNumber, DNull, items_of, nesting, nesting_items}
use Rattle.run_data.specs.Short.{IsShort, AreItemsShort}
use Rattle.eval_ops.proofs.tests.put_pair.Goals as goal

abbrev the_pair : Data
the_pair = DList (items_of (DNumber (pos 9) ∷ DNull ∷ []))

pair_short : IsShort the_pair
unfolding IsShort AreItemsShort
pair_short = (omega arith, (tt, (tt, tt)))

pair_deep : nesting the_pair ≤ 64
unfolding nesting nesting_items
pair_deep = omega arith

pub put_data-requires : goal.put_data-requires
put_data-requires c =
    let is = c.in_ok-data.ensures in
    record { short = subst (λ (d : Data). IsShort d) (sym is) pair_short; deep = subst (λ (d : Data). nesting d ≤ 64) (sym is) pair_deep }
