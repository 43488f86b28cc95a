use Rattle.std.proofs.Common.{ap, ◌∙◌, sym}
use Rattle.object_props.proofs.Edits.{set_value-absent}
use Rattle.object_props.proofs.many.set.Goals as goal

pub returns-in-None-clause-new : goal.returns-in-None-clause-new
returns-in-None-clause-new g c =
    ap (λ m. m.entries) c.get_mut.follows.holds-at-none
    ∙ sym (set_value-absent (g.K.PartialEq.eq c.args.key.now) c.args.map.now.entries c.args.value (sym c.in-None.ensures.value))
