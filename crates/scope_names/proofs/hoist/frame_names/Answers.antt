use Rattle.std.proofs.Common.{◌≡◌, ◌∙◌, ap, sym, [], refl}
use Rattle.std.specs.Prelude.{map}
use Rattle.js_tree.specs.Trees.{declared_name, functions_of, statements_of}
use Rattle.js_tree.specs.Calls.{gather, variables_to, variables}
use Rattle.scope_names.specs.Gathered.{gathered}
use Rattle.scope_names.proofs.HoistLemmas.{frame_gathered}
use Rattle.scope_names.proofs.hoist.frame_names.Goals as goal

pub returns : goal.returns
returns c =
    frame_gathered c.in_all.result _ _ c.args.parameters.now (map declared_name (functions_of c.args.body.now)) (variables (statements_of c.args.body.now)) (map declared_name c.functions.result.now) (gather (variables_to 200) c.statements.result.now)
    (c.in_ok-names.ensures ∙ ap (λ ns. gathered ns c.args.parameters.now) c.new.ensures) c.in_ok-names-2.ensures (ap (map declared_name) c.functions.ensures) (ap (gather (variables_to 200)) c.statements.ensures) c.in_all.ensures
