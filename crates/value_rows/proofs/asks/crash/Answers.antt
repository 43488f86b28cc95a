use Rattle.turk_base.specs.Prog.{nothing}
use Rattle.js_tree.specs.ScriptCalls.{crash_row}
use Rattle.run_host.proofs.Fits.{runs_left}
use Rattle.value_rows.proofs.asks.crash.Goals as goal

pub returns-clause-ran : goal.returns-clause-ran
unfolding crash_row
returns-clause-ran g c = runs_left (λ nu _. nothing) c.crash.ensures.did
