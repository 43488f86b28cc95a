use Rattle.std.proofs.Common.{ap, ◌∙◌, sym}
use Rattle.js_tree.specs.Operate.{type_of, typeof_place}
use Rattle.js_tree.specs.Pieces.{get_place}
use Rattle.run_host.specs.Told.{here_in}
use Rattle.host_steps.specs.Places.{place_in}
use Rattle.host_steps.proofs.Made.{runs_as}
use Rattle.value_rows.proofs.types.typeof_place.Goals as goal

pub returns-in-Variable-clause-ran : goal.returns-in-Variable-clause-ran
returns-in-Variable-clause-ran g c = runs_as (λ nu. ap (λ p. typeof_place (here_in nu c.args.here) (place_in nu p)) c.in-Variable.is) c.type_of_name.ensures.ran

pub returns-in-Property-clause-ran : goal.returns-in-Property-clause-ran
returns-in-Property-clause-ran g c = runs_as (λ nu. ap (λ p. typeof_place (here_in nu c.args.here) (place_in nu p)) c.in-Property.is ∙ ap (λ p. get_place (here_in nu c.args.here) (place_in nu p) type_of) (sym c.in-Property.is)) c.type_at.ensures.ran

pub returns-in-Given-clause-ran : goal.returns-in-Given-clause-ran
returns-in-Given-clause-ran g c = runs_as (λ nu. ap (λ p. typeof_place (here_in nu c.args.here) (place_in nu p)) c.in-Given.is ∙ ap (λ p. get_place (here_in nu c.args.here) (place_in nu p) type_of) (sym c.in-Given.is)) c.type_at-in-Given.ensures.ran
