use Rattle.std.proofs.Common.{ap, sym, arith}
use Rattle.turk_base.specs.Errors.{throw_error}
use Rattle.run_host.specs.Told.{told_exit}
use Rattle.run_host.proofs.Fits.{onward_fits, built_in_at, built_in_there}
use Rattle.host_steps.proofs.errors.thrown_reference_error.Goals as goal

pub thrown-requires-clause-prototype : goal.thrown-requires-clause-prototype
thrown-requires-clause-prototype g c = built_in_there 5 (g.met.H.Host.built_ins c.args.host.now c.requires.sound) (omega arith)

pub returns-clause-did : goal.returns-clause-did
returns-clause-did g c = (onward_fits (λ nu f. ap (λ p. throw_error p c.args.message) (sym (built_in_at 5 (g.met.H.Host.built_ins c.args.host.now c.requires.sound) (omega arith) nu f)))).goes (λ nu. told_exit nu c.thrown.result) (g.H.Host.moment c.thrown.new.host) c.thrown.ensures.did
