use Rattle.std.proofs.Common.{sym, ◌∙◌, nat_eq}
use Rattle.std.specs.Cmp.{nat_eq_equiv}
use Rattle.std.specs.Map.{lookup}
use Rattle.object_props.proofs.Edits.{absent_before_place}
use Rattle.value_cells.proofs.Lists.{copy-next}
use Rattle.value_cells.proofs.values.copy_props.Goals as goal

pub insert_at-requires-clause-fresh : goal.insert_at-requires-clause-fresh
insert_at-requires-clause-fresh c =
    (λ i. lookup (nat_eq c.in-Some.key.now) (c.loop-place.invariant i))
    ∙ absent_before_place nat_eq nat_eq_equiv c.args.props.now c.loop-place.place (c.in-Some.key.now, c.in-Some.value.now) c.pair_at.ensures.distinct (sym c.in-Some.ensures.pair)

pub loop-place-preserved : goal.loop-place-preserved
loop-place-preserved c =
    c.in-Ok.ensures.ok ∙ copy-next c.args.props.now c.loop-place.copy c.loop-place.place (c.in-Some.key.now, c.in-Some.value.now) (c.in-Some.key.now, c.in_ok-value.value) c.loop-place.invariant (sym c.in-Some.ensures.pair)
    (λ i. (c.in-Some.key.now, c.in_ok-value.ensures i))
