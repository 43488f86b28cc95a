use Rattle.std.proofs.Common.{◌∙◌}
use Rattle.object_props.proofs.Edits.{inserted}
use Rattle.object_props.proofs.many.insert_at.Goals as goal

pub returns-in-Ok-clause-ok : goal.returns-in-Ok-clause-ok
returns-in-Ok-clause-ok g c =
    c.in-Ok.ensures.entries
    ∙ inserted g.K.PartialEq.eq c.args.map.now.entries c.args.place c.args.key c.args.value c.requires.fresh c.requires.within
