use Rattle.std.proofs.Common.{sym}
use Rattle.object_props.proofs.Places.{value_at, missing_from}
use Rattle.object_props.proofs.few.get.Goals as goal

pub returns-in_err-place : goal.returns-in_err-place
returns-in_err-place g c =
    rw c.from_residual.ensures (sym (missing_from (g.K.PartialEq.eq c.args.key.now) c.args.pairs.now (sym c.in_err-place.ensures)).value)

pub returns : goal.returns
returns g c = value_at (g.K.PartialEq.eq c.args.key.now) c.args.pairs.now c.in_ok-place.place c.index-pairs-place.result (sym c.in_ok-place.ensures)
