use Rattle.std.proofs.Common.{ap}
use Rattle.turk_base.specs.Errors.{or_undefined}
use Rattle.js_tree.specs.Pieces.{get_property}
use Rattle.value_cells.specs.Seen.{val_in}
use Rattle.run_host.proofs.Sequence.{leads_then, leads_out, gives_on, leaves_on}
use Rattle.run_host.proofs.Exits.{takes_exit}
use Rattle.run_host.proofs.Fits.{leads_eq, leaves_lost}
use Rattle.host_steps.proofs.Parts.{no_properties}
use Rattle.host_steps.proofs.properties.get_property.Goals as goal

pub returns-in_err-found-in-Object-clause-did : goal.returns-in_err-found-in-Object-clause-did
returns-in_err-found-in-Object-clause-did g c = takes_exit _ _ c.from_residual.ensures.1
    (leads_out (leads_eq (λ nu go. ap (λ v. get_property (val_in nu v) c.args.key.now go) c.in-Object.is)) (leaves_on c.in_err-found-in-Object.ensures.did (λ nu found go. go (or_undefined found))))

pub returns-in_ok-found-in-Object-clause-did : goal.returns-in_ok-found-in-Object-clause-did
returns-in_ok-found-in-Object-clause-did g c =
    leads_then (leads_eq (λ nu go. ap (λ v. get_property (val_in nu v) c.args.key.now go) c.in-Object.is))
    (leads_then (gives_on c.in_ok-found-in-Object.ensures.did (λ nu found go. go (or_undefined found))) (leads_eq (λ nu go. ap go (c.or_undefined.ensures.value nu))))

pub returns-in_ok-text_property-in-Text-clause-did : goal.returns-in_ok-text_property-in-Text-clause-did
returns-in_ok-text_property-in-Text-clause-did g c = leads_then (leads_eq (λ nu go. ap (λ v. get_property (val_in nu v) c.args.key.now go) c.in-Text.is)) (leads_eq (λ nu go. ap go (c.in_ok-text_property-in-Text.ensures.value nu)))

pub returns-in_err-text_property-in-Text-clause-did : goal.returns-in_err-text_property-in-Text-clause-did
returns-in_err-text_property-in-Text-clause-did g c = takes_exit _ _ c.from_residual-in_err-text_property-in-Text.ensures.1 leaves_lost

pub returns-in_default-clause-did : goal.returns-in_default-clause-did
returns-in_default-clause-did g c = no_properties c.args.base.now c.args.key.now c.in_default.not-Object c.in_default.not-Text
