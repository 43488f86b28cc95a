use Rattle.std.proofs.Common.{ap, ◌∙◌, sym}
use Rattle.slot_watch.specs.Keys.{part_in}
use Rattle.slot_watch.proofs.Naming.{when_none, no_part}
use Rattle.slot_watch.proofs.SlotWatch.key.Goals as goal

pub returns-clause-none : goal.returns-clause-none
returns-clause-none c =
    let keys = c.self.inside.keys in
    when_none c.key.result (λ h. ap (λ s. part_in s.keys c.args.number) (sym c.self.view_is) ∙ no_part keys c.args.number h) c.key.ensures.none
