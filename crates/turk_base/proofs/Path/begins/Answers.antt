use Rattle.std.proofs.Common.{◌∙◌}
use Rattle.turk_base.proofs.Finding.{begins_take}
use Rattle.turk_base.proofs.Path.begins.Goals as goal

pub returns : goal.returns
returns c =
    c.starts_with.ensures.value ∙ rw (c.as_slice.ensures.value, c.as_slice-2.ensures.value, c.self.view_is, c.other.view_is) (begins_take c.args.self.now c.args.other.now)
