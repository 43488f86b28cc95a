-- A word for proofs by computation: a line `unfolding opens` opens all that the run of a closed script computes by.
use Rattle.js_tree.specs.declared.Script.{Script, out-Script, roll-Script}
use Rattle.js_tree.specs.declared.Declaration.{out-Declaration, roll-Declaration}
use Rattle.js_tree.specs.declared.Case.{out-Case, roll-Case}
use Rattle.js_tree.specs.declared.Catch.{out-Catch, roll-Catch}
use Rattle.js_tree.specs.declared.Variable.{out-Variable, roll-Variable}
use Rattle.js_tree.specs.declared.StmtNode.{out-StmtNode}
use Rattle.js_tree.specs.declared.ExprNode.{out-ExprNode}
use Rattle.js_tree.specs.declared.Key.{out-Key}
use Rattle.js_tree.specs.declared.ForStart.{out-ForStart}
use Rattle.js_tree.specs.declared.ForTarget.{out-ForTarget}
use Rattle.js_tree.specs.Open.{computes}
use Rattle.js_tree.specs.Operate.{sum_row}
use Rattle.js_tree.specs.Expressions.{this_row, name_row, literal_row, array_row, object_row, function_row, member_row, update_row, delete_row, void_row, typeof_row, unary_row, binary_row, and_row, or_row, conditional_row, assign_row, comma_row, call_row, new_row}
use Rattle.js_tree.specs.ScriptCalls.{print_row, post_row, reply_row, prompt_row, random_row, join_row, crash_row, once_row, fork_row}
use Rattle.js_tree.specs.Statements.{block_row, variable_row, var_row, expression_row, if_row, do_while_row, while_row, for_row, for_in_row, return_row, switch_row, throw_row, try_row}
use Rattle.js_tree.specs.Rows.{expr_row, stmt_row, program, expr_to, stmt_to}
use Rattle.js_tree.specs.Table.{table_of, expr_codes, stmt_codes, body_codes}
use Rattle.turk_base.specs.BuiltIns.{call_built_in}
use Rattle.turk_base.specs.Conversions.{read_text}
use Rattle.turk_base.specs.Cells.{class_of, doomed}
use Rattle.turk_base.specs.State.{act}
use Rattle.turk_base.specs.Steps.{steps_of, taking}
use Rattle.turk_base.specs.Names.{path_eq, name_eq, part_eq, slot_eq, units_eq, under, integer_eq}
use Rattle.js_tree.specs.World.{fresh}
use Rattle.js_tree.specs.Run.{run, run_steps, turns}
use Rattle.std.specs.Fmt.{digits}
use denote.Hole.Carrier.{out, roll, shown, hidden}
use native.Mathlib.Decide.{ℕ_discrete}

unfoldable pub opens : Script → Script
unfolding out-Script roll-Script out-Declaration roll-Declaration out-Case roll-Case out-Catch roll-Catch out-Variable roll-Variable out-StmtNode out-ExprNode out-Key out-ForStart out-ForTarget computes this_row name_row literal_row array_row object_row function_row member_row update_row delete_row void_row typeof_row unary_row sum_row binary_row and_row or_row conditional_row assign_row comma_row print_row post_row reply_row prompt_row random_row join_row crash_row call_row new_row once_row fork_row expr_row block_row variable_row var_row expression_row if_row do_while_row while_row for_row for_in_row return_row switch_row throw_row try_row stmt_row program expr_to stmt_to table_of expr_codes stmt_codes body_codes call_built_in read_text class_of doomed act steps_of taking path_eq name_eq part_eq slot_eq units_eq under integer_eq fresh run run_steps turns digits out roll shown hidden ℕ_discrete
opens s = s
