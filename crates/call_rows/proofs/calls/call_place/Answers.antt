use Rattle.host_steps.proofs.Made.{runs_as}
use Rattle.host_steps.specs.Places.{place_in}
use Rattle.js_tree.specs.Calls.{call_place, call_value}
use Rattle.js_tree.specs.Pieces.{get_place}
use Rattle.js_tree.specs.Rows.{stmt_to}
use Rattle.run_host.specs.Told.{here_in}
use Rattle.std.proofs.Common.{ap, sym, ◌∙◌}
use Rattle.std.specs.Prelude.{map}
use Rattle.tree_rows.specs.Codes.{table_in}
use Rattle.turk_base.specs.Values.{Undefined}
use Rattle.value_cells.specs.Seen.{val_in}
use Rattle.call_rows.proofs.calls.call_place.Goals as goal

pub returns-in-Property-clause-ran : goal.returns-in-Property-clause-ran
returns-in-Property-clause-ran g c = let t = table_in c.args.codes.now in let s = stmt_to t c.args.below.now.left in runs_as (λ nu. ap (λ p. call_place t s (here_in nu c.args.here) (place_in nu p) (map (val_in nu) c.args.arguments.now)) c.in-Property.is) c.call_property.ensures.ran

pub returns-in-Variable-clause-ran : goal.returns-in-Variable-clause-ran
returns-in-Variable-clause-ran g c = let t = table_in c.args.codes.now in let s = stmt_to t c.args.below.now.left in runs_as (λ nu. ap (λ p. call_place t s (here_in nu c.args.here) (place_in nu p) (map (val_in nu) c.args.arguments.now)) c.in-Variable.is ∙ ap (λ p. get_place (here_in nu c.args.here) (place_in nu p) (λ f. call_value t s f Undefined (map (val_in nu) c.args.arguments.now))) (sym c.in-Variable.is)) c.call_plain.ensures.ran

pub returns-in-Given-clause-ran : goal.returns-in-Given-clause-ran
returns-in-Given-clause-ran g c = let t = table_in c.args.codes.now in let s = stmt_to t c.args.below.now.left in runs_as (λ nu. ap (λ p. call_place t s (here_in nu c.args.here) (place_in nu p) (map (val_in nu) c.args.arguments.now)) c.in-Given.is ∙ ap (λ p. get_place (here_in nu c.args.here) (place_in nu p) (λ f. call_value t s f Undefined (map (val_in nu) c.args.arguments.now))) (sym c.in-Given.is)) c.call_plain-in-Given.ensures.ran
