use Rattle.std.proofs.Common.{ap, Ok, Err, codes}
use Rattle.std.specs.Option.{option_map}
use Rattle.turk_base.specs.BuiltIns.{natural_in}
use Rattle.value_cells.specs.Seen.{val_in}
use Rattle.builtin_calls.proofs.Moves.{takes_out, leads_then, leads_same, gives_on, leaves_on, get_takes}
use Rattle.builtin_calls.proofs.steps.length.Goals as goal

pub returns-in_err-found-clause-did : goal.returns-in_err-found-clause-did
returns-in_err-found-clause-did g c = takes_out _ c.from_residual-in_err-found.result c.from_residual-in_err-found.ensures.1
    (leaves_on (get_takes (λ nu. option_map (val_in nu)) (codes "length") (Err c.in_err-found.field-0.0) c.in_ok-key.ensures c.in_err-found.ensures.did) (λ nu v go. go (natural_in v)))

pub returns-clause-did : goal.returns-clause-did
returns-clause-did g c =
    leads_then (gives_on (get_takes (λ nu. option_map (val_in nu)) (codes "length") (Ok c.in_ok-found.found) c.in_ok-key.ensures c.in_ok-found.ensures.did) (λ nu v go. go (natural_in v)))
    (leads_same (λ nu go. ap go (c.natural.ensures.value nu)))
