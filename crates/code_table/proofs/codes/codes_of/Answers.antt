use Rattle.std.proofs.Common.{◌≡◌, subst, ◌++◌}
use Rattle.std.specs.Prelude.{IfOk, map}
use Rattle.js_tree.specs.Table.{in_script, expr_codes, stmt_codes, body_codes, table_of}
use Rattle.tree_rows.specs.Codes.{code_in, table_in}
use Rattle.code_table.proofs.codes.codes_of.Goals as goal

pub returns : goal.returns
unfolding table_of
returns c =
    subst (λ l. IfOk c.in_script.result (λ made. table_in made ≡ map code_in l ++ in_script (expr_codes 400) (stmt_codes 400) (body_codes 400) c.args.script.now)) c.new.ensures.items c.in_script.ensures
