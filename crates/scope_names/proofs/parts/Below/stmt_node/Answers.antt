use Rattle.std.proofs.Common.{suc, ◌∙◌, ap, sym}
use Rattle.js_tree.specs.declared.StmtNode.TheVariants as v
use Rattle.js_tree.specs.Trees.{stmt_of}
use Rattle.scope_names.proofs.StmtParts.{empty_made, continue_made, break_made}
use Rattle.scope_names.proofs.TurnedParts.{stmt_turned}
use Rattle.scope_names.proofs.parts.Below.stmt_node.Goals as goal

pub returns-in-Empty : goal.returns-in-Empty
returns-in-Empty g c = empty_made c.args.self.now.left c.args.given.now (sym c.node.ensures ∙ c.in-Empty.is)

pub returns-in-Continue : goal.returns-in-Continue
returns-in-Continue g c = continue_made c.args.self.now.left c.args.given.now (sym c.node.ensures ∙ c.in-Continue.is)

pub returns-in-Break : goal.returns-in-Break
returns-in-Break g c = break_made c.args.self.now.left c.args.given.now (sym c.node.ensures ∙ c.in-Break.is)

pub returns-in-Block : goal.returns-in-Block
returns-in-Block g c = stmt_turned (suc c.args.self.now.left) c.args.walk c.block.result ((λ i. stmt_of (v.Block (c.as_slice.ensures i))) ∙ ap stmt_of (sym c.in-Block.is ∙ c.node.ensures)) c.block.ensures

pub returns-in-Var : goal.returns-in-Var
returns-in-Var g c = stmt_turned (suc c.args.self.now.left) c.args.walk c.var_statement.result ((λ i. stmt_of (v.Var (c.as_slice-in-Var.ensures i))) ∙ ap stmt_of (sym c.in-Var.is ∙ c.node.ensures)) c.var_statement.ensures

pub returns-in-Expression : goal.returns-in-Expression
returns-in-Expression g c = stmt_turned (suc c.args.self.now.left) c.args.walk c.expression.result ((λ i. stmt_of (v.Expression c.in-Expression.a)) ∙ ap stmt_of (sym c.in-Expression.is ∙ c.node.ensures)) c.expression.ensures

pub returns-in-Throw : goal.returns-in-Throw
returns-in-Throw g c = stmt_turned (suc c.args.self.now.left) c.args.walk c.throw.result ((λ i. stmt_of (v.Throw c.in-Throw.a)) ∙ ap stmt_of (sym c.in-Throw.is ∙ c.node.ensures)) c.throw.ensures

pub returns-in-Return : goal.returns-in-Return
returns-in-Return g c = stmt_turned (suc c.args.self.now.left) c.args.walk c.give_back.result ((λ i. stmt_of (v.Return c.in-Return.a)) ∙ ap stmt_of (sym c.in-Return.is ∙ c.node.ensures)) c.give_back.ensures

pub returns-in-If : goal.returns-in-If
returns-in-If g c = stmt_turned (suc c.args.self.now.left) c.args.walk c.if_statement.result ((λ i. stmt_of (v.If c.in-If.test (c.get.ensures i) c.in-If.otherwise)) ∙ ap stmt_of (sym c.in-If.is ∙ c.node.ensures)) c.if_statement.ensures

pub returns-in-DoWhile : goal.returns-in-DoWhile
returns-in-DoWhile g c = stmt_turned (suc c.args.self.now.left) c.args.walk c.do_while.result ((λ i. stmt_of (v.DoWhile (c.get-in-DoWhile.ensures i) c.in-DoWhile.test)) ∙ ap stmt_of (sym c.in-DoWhile.is ∙ c.node.ensures)) c.do_while.ensures

pub returns-in-While : goal.returns-in-While
returns-in-While g c = stmt_turned (suc c.args.self.now.left) c.args.walk c.while_loop.result ((λ i. stmt_of (v.While c.in-While.test (c.get-in-While.ensures i))) ∙ ap stmt_of (sym c.in-While.is ∙ c.node.ensures)) c.while_loop.ensures

pub returns-in-For : goal.returns-in-For
returns-in-For g c = stmt_turned (suc c.args.self.now.left) c.args.walk c.for_loop.result ((λ i. stmt_of (v.For c.in-For.start c.in-For.test c.in-For.step (c.get-in-For.ensures i))) ∙ ap stmt_of (sym c.in-For.is ∙ c.node.ensures)) c.for_loop.ensures

pub returns-in-ForIn : goal.returns-in-ForIn
returns-in-ForIn g c = stmt_turned (suc c.args.self.now.left) c.args.walk c.for_in.result ((λ i. stmt_of (v.ForIn c.in-ForIn.target c.in-ForIn.object (c.get-in-ForIn.ensures i))) ∙ ap stmt_of (sym c.in-ForIn.is ∙ c.node.ensures)) c.for_in.ensures

pub returns-in-Switch : goal.returns-in-Switch
returns-in-Switch g c = stmt_turned (suc c.args.self.now.left) c.args.walk c.switch.result ((λ i. stmt_of (v.Switch c.in-Switch.value (c.as_slice-in-Switch.ensures i))) ∙ ap stmt_of (sym c.in-Switch.is ∙ c.node.ensures)) c.switch.ensures

pub returns-in-Try : goal.returns-in-Try
returns-in-Try g c = stmt_turned (suc c.args.self.now.left) c.args.walk c.try_statement.result ((λ i. stmt_of (v.Try (c.get-in-Try.ensures i) c.in-Try.caught c.in-Try.last)) ∙ ap stmt_of (sym c.in-Try.is ∙ c.node.ensures)) c.try_statement.ensures
