use Rattle.std.proofs.Common.{ap}
use Rattle.std.specs.Option.{option_map}
use Rattle.turk_base.specs.BuiltIns as spec
use Rattle.value_cells.specs.Seen.{val_in}
use Rattle.builtin_calls.proofs.Moves.{takes_out, takes_as, leads_then, leads_out, leads_same, gives_on, leaves_on}
use Rattle.builtin_calls.proofs.arrays.move_to.Goals as goal

pub returns-in-Some-clause-did : goal.returns-in-Some-clause-did
returns-in-Some-clause-did g c = takes_as _ (λ nu u. u) c.put_at.result
    (leads_same (λ nu go. ap (λ v. spec.move_to (nu c.args.cell) c.args.index (option_map (val_in nu) v) go) c.in-Some.is)) c.put_at.ensures.did

pub returns-in_err-remove_at-in-None-clause-did : goal.returns-in_err-remove_at-in-None-clause-did
returns-in_err-remove_at-in-None-clause-did g c = takes_out _ c.from_residual.result c.from_residual.ensures.1
    (leads_out (leads_same (λ nu go. ap (λ v. spec.move_to (nu c.args.cell) c.args.index (option_map (val_in nu) v) go) c.in-None.is))
    (leaves_on c.in_err-remove_at-in-None.ensures.did (λ nu _ go. go tt)))

pub returns-in_ok-remove_at-in-None-clause-did : goal.returns-in_ok-remove_at-in-None-clause-did
returns-in_ok-remove_at-in-None-clause-did g c =
    leads_then (leads_same (λ nu go. ap (λ v. spec.move_to (nu c.args.cell) c.args.index (option_map (val_in nu) v) go) c.in-None.is))
    (gives_on c.in_ok-remove_at-in-None.ensures.did (λ nu _ go. go tt))
