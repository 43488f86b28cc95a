use Rattle.std.proofs.Common.{ap}
use Rattle.js_tree.specs.Pieces.{set_place}
use Rattle.value_cells.specs.Seen.{val_in}
use Rattle.run_host.specs.Told.{here_in}
use Rattle.run_host.proofs.Fits.{takes_as, leads_eq}
use Rattle.host_steps.specs.Places.{place_in}
use Rattle.host_steps.proofs.places.set_place.Goals as goal

pub returns-in-Variable-clause-did : goal.returns-in-Variable-clause-did
returns-in-Variable-clause-did g c = takes_as _ (λ nu u. u) c.set_variable.result (leads_eq (λ nu go. ap (λ p. set_place (here_in nu c.args.here) (place_in nu p) (val_in nu c.args.value.now) go) c.in-Variable.is)) c.set_variable.ensures.did

pub returns-in-Property-clause-did : goal.returns-in-Property-clause-did
returns-in-Property-clause-did g c = takes_as _ (λ nu u. u) c.set_property.result (leads_eq (λ nu go. ap (λ p. set_place (here_in nu c.args.here) (place_in nu p) (val_in nu c.args.value.now) go) c.in-Property.is)) c.set_property.ensures.did

pub returns-in-Given-clause-did : goal.returns-in-Given-clause-did
returns-in-Given-clause-did g c = leads_eq (λ nu go. ap (λ p. set_place (here_in nu c.args.here) (place_in nu p) (val_in nu c.args.value.now) go) c.in-Given.is)
