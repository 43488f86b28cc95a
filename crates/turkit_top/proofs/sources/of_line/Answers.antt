use Rattle.std.proofs.Common.{ap, sym, ◌∙◌, inl}
use Rattle.turkit_top.specs.Answers.{noted}
use Rattle.turkit_top.specs.declared.status.Status.TheVariants.{BadLine}
use Rattle.turkit_top.proofs.AnswerLemmas.{noted_line}
use Rattle.turkit_top.proofs.sources.of_line.Goals as goal

pub returns-in-Ok : goal.returns-in-Ok
returns-in-Ok c = inl (c.noted.ensures ∙ ap (noted BadLine) c.in-Ok.ensures ∙ sym (noted_line c.args.stop c.in_default.not-Memory))
