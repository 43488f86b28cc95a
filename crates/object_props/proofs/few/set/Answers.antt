use Rattle.std.proofs.Common.{Some, ap, sym, ◌∙◌}
use Rattle.object_props.proofs.Edits.{set_value-absent}
use Rattle.object_props.proofs.Places.{value_at, missing_from, set_value-at}
use Rattle.object_props.proofs.few.set.Goals as goal

pub returns-in_err-place-clause-old : goal.returns-in_err-place-clause-old
returns-in_err-place-clause-old g c =
    c.from_residual.ensures ∙ sym (missing_from (g.K.PartialEq.eq c.args.key.now) c.args.pairs.now (sym c.in_err-place.ensures)).value

pub returns-in_err-place-clause-new : goal.returns-in_err-place-clause-new
returns-in_err-place-clause-new g c =
    let t = g.K.PartialEq.eq c.args.key.now in
    sym (set_value-absent t c.args.pairs.now c.args.value (missing_from t c.args.pairs.now (sym c.in_err-place.ensures)).value)

pub returns-clause-old : goal.returns-clause-old
returns-clause-old g c =
    ap Some c.replace.ensures.value
    ∙ value_at (g.K.PartialEq.eq c.args.key.now) c.args.pairs.now c.in_ok-place.place c.index-pairs-place.result (sym c.in_ok-place.ensures)

pub returns-clause-new : goal.returns-clause-new
returns-clause-new g c =
    let t = g.K.PartialEq.eq c.args.key.now in
    rw c.replace.ensures.after (set_value-at t c.args.pairs.now c.in_ok-place.place c.index-pairs-place.result c.args.value (sym c.in_ok-place.ensures))
