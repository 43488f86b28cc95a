use Rattle.std.specs.Prelude.{Result, Ok, Err, List, ℕ}
use Rattle.std.proofs.Common.{◌≡◌, ◌+◌, ◌∙◌, ap, subst, arith}
use Rattle.std.proofs.Math.Path.{fun_ext}
use Rattle.js_tree.specs.declared.Script.{Script}
use Rattle.js_tree.specs.World.{World}
use Rattle.rerun_driver.specs.declared.Report.{Report}
use Rattle.rerun_driver.specs.declared.Stop.{Stop}
use Rattle.rerun_driver.specs.declared.Stop.TheVariants as stop
use Rattle.rerun_driver.specs.Plain.{IsPlain, IsRunOf, ReadsAs, plain_world}
use Rattle.rerun_driver.proofs.plain_runs.plain.Goals as goal

-- what a script comes to is what its bytes come to
of_bytes : (bytes : List ℕ) (S : Script) (E : World) (fuel : ℕ) → ReadsAs bytes S → (result : Result Report Stop) → IsRunOf S E fuel result → IsPlain bytes E fuel result
of_bytes bytes S E fuel reads (Ok r) is = (S, reads, is)
of_bytes bytes S E fuel reads (Err (stop.Script why)) is = absurd is
of_bytes bytes S E fuel reads (Err (stop.Journal why)) is = absurd is
of_bytes bytes S E fuel reads (Err (stop.Fault which)) is = absurd is
of_bytes bytes S E fuel reads (Err (stop.Diverged d)) is = absurd is
of_bytes bytes S E fuel reads (Err stop.TraceFull) is = (S, reads, is)
of_bytes bytes S E fuel reads (Err stop.LogFull) is = absurd is
of_bytes bytes S E fuel reads (Err stop.Memory) is = tt

pub returns-in-Ok : goal.returns-in-Ok
returns-in-Ok g c =
    let settings = c.args.settings.now in
    let result = c.over_nothing.result in
    let from_start : (k : ℕ) → 0 + k ≡ k = λ k. omega arith in
    let words = fun_ext (λ k. c.begin.ensures k ∙ ap (g.W.Draws.words settings.dice) (from_start k)) in
    of_bytes c.args.script.now _ _ settings.fuel (record { read = c.in-Ok.ensures.answer; bound = c.in-Ok.ensures.bound }) result
    (subst (λ w. IsRunOf c.in-Ok.script (plain_world settings.name c.args.replies.now w) settings.fuel result) words c.over_nothing.ensures)
