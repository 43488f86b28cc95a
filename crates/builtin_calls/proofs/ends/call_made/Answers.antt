use Rattle.builtin_calls.proofs.Moves.{runs_out}
use Rattle.builtin_calls.proofs.Throws.{throw_made}
use Rattle.builtin_calls.proofs.ends.call_made.Goals as goal

pub returns-in_err-cell-in-Throw-clause-did : goal.returns-in_err-cell-in-Throw-clause-did
returns-in_err-cell-in-Throw-clause-did g c = runs_out _ c.in_err-cell-in-Throw.field-0.0 c.from_residual.result c.from_residual.ensures.1
    (throw_made c.in-Err.stop c.in-Throw.kind c.in-Throw.message c.prototype_of.result c.in-Throw.is c.requires.built_ins c.prototype_of.ensures.known c.in-Err.ensures.did c.in_err-cell-in-Throw.ensures.did)

pub returns-in_ok-cell-in-Throw-clause-did : goal.returns-in_ok-cell-in-Throw-clause-did
returns-in_ok-cell-in-Throw-clause-did g c =
    throw_made c.in-Err.stop c.in-Throw.kind c.in-Throw.message c.prototype_of.result c.in-Throw.is c.requires.built_ins c.prototype_of.ensures.known c.in-Err.ensures.did c.in_ok-cell-in-Throw.ensures.did
