use Rattle.std.proofs.Common.{ap, sym, ◌∙◌, inl}
use Rattle.turkit_top.specs.Answers.{noted}
use Rattle.turkit_top.specs.declared.status.Status.TheVariants.{Syntax}
use Rattle.turkit_top.proofs.AnswerLemmas.{noted_fault}
use Rattle.turkit_top.proofs.report.of_fault.Goals as goal

pub returns-in-Ok : goal.returns-in-Ok
returns-in-Ok c = inl (c.noted.ensures ∙ ap (noted Syntax) c.in-Ok.ensures ∙ sym (noted_fault c.args.fault c.in_default.not-TooLarge c.in_default.not-Memory))
