use Rattle.std.proofs.Common.{ap}
use Rattle.std.specs.Option.{option_map}
use Rattle.turk_base.specs.BuiltIns as spec
use Rattle.value_cells.specs.Seen.{val_in}
use Rattle.builtin_calls.proofs.Moves.{takes_out, takes_as, leads_then, leads_same, gives_on, leaves_on}
use Rattle.builtin_calls.proofs.arrays.copy_item.Goals as goal

pub returns-in_err-value-clause-did : goal.returns-in_err-value-clause-did
returns-in_err-value-clause-did g c = takes_out _ c.from_residual.result c.from_residual.ensures.1 (leaves_on c.in_err-value.ensures.did (λ nu v. spec.put_found (nu c.args.to) c.args.j v))

pub returns-in-Some-clause-did : goal.returns-in-Some-clause-did
returns-in-Some-clause-did g c = takes_as _ (λ nu u. u) c.put_at.result
    (leads_then (gives_on c.in_ok-value.ensures.did (λ nu v. spec.put_found (nu c.args.to) c.args.j v))
    (leads_same (λ nu go. ap (λ v. spec.put_found (nu c.args.to) c.args.j (option_map (val_in nu) v) go) c.in-Some.is))) c.put_at.ensures.did

pub returns-in-None-clause-did : goal.returns-in-None-clause-did
returns-in-None-clause-did g c =
    leads_then (gives_on c.in_ok-value.ensures.did (λ nu v. spec.put_found (nu c.args.to) c.args.j v))
    (leads_same (λ nu go. ap (λ v. spec.put_found (nu c.args.to) c.args.j (option_map (val_in nu) v) go) c.in-None.is))
