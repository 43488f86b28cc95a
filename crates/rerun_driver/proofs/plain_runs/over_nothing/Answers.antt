use Rattle.std.proofs.Common.{◌≡◌, [], ◌∙◌, ap, subst}
use Rattle.ask_model.specs.Table.{table}
use Rattle.rerun_driver.specs.Plain.{IsRunOf, plain_world}
use Rattle.rerun_driver.specs.Told.{IsTold}
use Rattle.rerun_driver.proofs.Told.{comes_to}
use Rattle.rerun_driver.proofs.plain_runs.over_nothing.Goals as goal

pub returns : goal.returns
returns g c =
    let S = c.args.script.now in
    let name = c.args.settings.now.name in
    let fuel = c.args.settings.now.fuel in
    let rest = g.W.Draws.rest in
    let before = c.new-asker.result.asker in
    let after = c.run-answer.result.asker in
    let result = c.told.result in
    let seen = ap (λ t. table t.trace.items t.replies.now t.made.items t.asked t.refused) c.new-asker.ensures.asker ∙ c.in-Ok.ensures.seen in
    let draws = ap (λ t. t.draws.now) c.new-asker.ensures.asker ∙ c.in-Ok.ensures.draws in
    let none : before.trace.items ≡ [] = ap (λ s. s.trace) seen ∙ c.new.ensures.items in
    let told = subst (λ n. IsTold c.run-answer.result.answer n result) (c.made.ensures ∙ c.run-answer.ensures.sound.1) c.told.ensures in
    let comes = comes_to S name (rest before.draws.now) fuel _ _ _ none c.run-answer.ensures.asks c.run-answer.ensures.sound.0 c.run-answer.result.answer c.run-answer.ensures.told c.run-answer.ensures.stopped result told in
    let pairs = subst (λ R. IsRunOf S (plain_world name R (rest before.draws.now)) fuel result) (ap (λ s. s.replies) seen) comes in
    subst (λ w. IsRunOf S (plain_world name c.args.replies.now (rest w)) fuel result) draws pairs
