use Rattle.std.proofs.Common.{ap, sym, ◌∙◌}
use Rattle.js_tree.specs.Pieces.{get_place}
use Rattle.value_cells.specs.Seen.{val_in}
use Rattle.run_host.specs.Told.{here_in}
use Rattle.run_host.proofs.Exits.{takes_exit}
use Rattle.run_host.proofs.Fits.{takes_as, leads_eq, leaves_lost}
use Rattle.host_steps.specs.Places.{place_in}
use Rattle.host_steps.proofs.places.get_place.Goals as goal

pub returns-in-Variable-clause-did : goal.returns-in-Variable-clause-did
returns-in-Variable-clause-did g c = takes_as _ val_in c.get_variable.result (leads_eq (λ nu go. ap (λ p. get_place (here_in nu c.args.here) (place_in nu p) go) c.in-Variable.is)) c.get_variable.ensures.did

pub returns-in-Property-clause-did : goal.returns-in-Property-clause-did
returns-in-Property-clause-did g c = takes_as _ val_in c.get_property.result (leads_eq (λ nu go. ap (λ p. get_place (here_in nu c.args.here) (place_in nu p) go) c.in-Property.is)) c.get_property.ensures.did

pub returns-in_err-copy-in-Given-clause-did : goal.returns-in_err-copy-in-Given-clause-did
returns-in_err-copy-in-Given-clause-did g c = takes_exit _ _ c.from_residual.ensures.1 leaves_lost

pub returns-in_ok-copy-in-Given-clause-did : goal.returns-in_ok-copy-in-Given-clause-did
returns-in_ok-copy-in-Given-clause-did g c = leads_eq (λ nu go. ap (λ p. get_place (here_in nu c.args.here) (place_in nu p) go) c.in-Given.is ∙ ap (λ v. go (val_in nu v)) (sym c.in_ok-copy-in-Given.ensures))
