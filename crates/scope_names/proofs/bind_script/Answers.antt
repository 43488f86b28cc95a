use Rattle.std.proofs.Common.{refl, []}
use Rattle.scope_names.specs.Walks.{list_kind}
use Rattle.scope_names.specs.Kinds.{stmt_kind, declaration_kind}
use Rattle.scope_names.proofs.ScriptParts.{script_made}
use Rattle.scope_names.proofs.TurnedParts.{given_turned, frame_same}
use Rattle.scope_names.proofs.bind_script.Goals as goal

pub returns : goal.returns
returns c =
    script_made c.args.script.now c.new.ensures refl refl c.in_ok-walk.ensures (frame_same [] c.args.script.now c.in_ok-names.ensures refl)
    (given_turned (list_kind (declaration_kind 200)) c.functions.ensures c.in_ok-functions.ensures) (given_turned (list_kind (stmt_kind 200)) c.statements.ensures c.in_ok-statements.ensures)
