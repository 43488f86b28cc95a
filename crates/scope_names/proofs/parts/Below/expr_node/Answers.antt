use Rattle.std.proofs.Common.{suc, ◌∙◌, ap, sym}
use Rattle.js_tree.specs.declared.ExprNode.TheVariants as v
use Rattle.js_tree.specs.Trees.{expr_of}
use Rattle.scope_names.proofs.ExprParts.{this_made, join_made, crash_made}
use Rattle.scope_names.proofs.TurnedParts.{expr_turned}
use Rattle.scope_names.proofs.parts.Below.expr_node.Goals as goal

pub returns-in-This : goal.returns-in-This
returns-in-This g c = this_made c.args.self.now.left c.args.given.now (sym c.node.ensures ∙ c.in-This.is)

pub returns-in-Join : goal.returns-in-Join
returns-in-Join g c = join_made c.args.self.now.left c.args.given.now (sym c.node.ensures ∙ c.in-Join.is)

pub returns-in-Crash : goal.returns-in-Crash
returns-in-Crash g c = crash_made c.args.self.now.left c.args.given.now (sym c.node.ensures ∙ c.in-Crash.is)

pub returns-in-Name : goal.returns-in-Name
returns-in-Name g c = expr_turned (suc c.args.self.now.left) c.args.walk c.name.result ((λ i. expr_of (v.Name c.in-Name.named)) ∙ ap expr_of (sym c.in-Name.is ∙ c.node.ensures)) c.name.ensures

pub returns-in-Literal : goal.returns-in-Literal
returns-in-Literal g c = expr_turned (suc c.args.self.now.left) c.args.walk c.literal.result ((λ i. expr_of (v.Literal c.in-Literal.literal)) ∙ ap expr_of (sym c.in-Literal.is ∙ c.node.ensures)) c.literal.ensures

pub returns-in-Void : goal.returns-in-Void
returns-in-Void g c = expr_turned (suc c.args.self.now.left) c.args.walk c.void.result ((λ i. expr_of (v.Void (c.get.ensures i))) ∙ ap expr_of (sym c.in-Void.is ∙ c.node.ensures)) c.void.ensures

pub returns-in-Typeof : goal.returns-in-Typeof
returns-in-Typeof g c = expr_turned (suc c.args.self.now.left) c.args.walk c.type_of.result ((λ i. expr_of (v.Typeof (c.get-in-Typeof.ensures i))) ∙ ap expr_of (sym c.in-Typeof.is ∙ c.node.ensures)) c.type_of.ensures

pub returns-in-Post : goal.returns-in-Post
returns-in-Post g c = expr_turned (suc c.args.self.now.left) c.args.walk c.post.result ((λ i. expr_of (v.Post (c.get-in-Post.ensures i))) ∙ ap expr_of (sym c.in-Post.is ∙ c.node.ensures)) c.post.ensures

pub returns-in-Reply : goal.returns-in-Reply
returns-in-Reply g c = expr_turned (suc c.args.self.now.left) c.args.walk c.reply.result ((λ i. expr_of (v.Reply (c.get-in-Reply.ensures i))) ∙ ap expr_of (sym c.in-Reply.is ∙ c.node.ensures)) c.reply.ensures

pub returns-in-Prompt : goal.returns-in-Prompt
returns-in-Prompt g c = expr_turned (suc c.args.self.now.left) c.args.walk c.prompt.result ((λ i. expr_of (v.Prompt (c.get-in-Prompt.ensures i))) ∙ ap expr_of (sym c.in-Prompt.is ∙ c.node.ensures)) c.prompt.ensures

pub returns-in-Random : goal.returns-in-Random
returns-in-Random g c = expr_turned (suc c.args.self.now.left) c.args.walk c.random.result ((λ i. expr_of (v.Random (c.get-in-Random.ensures i))) ∙ ap expr_of (sym c.in-Random.is ∙ c.node.ensures)) c.random.ensures

pub returns-in-Once : goal.returns-in-Once
returns-in-Once g c = expr_turned (suc c.args.self.now.left) c.args.walk c.once.result ((λ i. expr_of (v.Once (c.get-in-Once.ensures i))) ∙ ap expr_of (sym c.in-Once.is ∙ c.node.ensures)) c.once.ensures

pub returns-in-Fork : goal.returns-in-Fork
returns-in-Fork g c = expr_turned (suc c.args.self.now.left) c.args.walk c.fork.result ((λ i. expr_of (v.Fork (c.get-in-Fork.ensures i))) ∙ ap expr_of (sym c.in-Fork.is ∙ c.node.ensures)) c.fork.ensures

pub returns-in-Unary : goal.returns-in-Unary
returns-in-Unary g c = expr_turned (suc c.args.self.now.left) c.args.walk c.unary.result ((λ i. expr_of (v.Unary c.in-Unary.operator (c.get-in-Unary.ensures i))) ∙ ap expr_of (sym c.in-Unary.is ∙ c.node.ensures)) c.unary.ensures

pub returns-in-Update : goal.returns-in-Update
returns-in-Update g c = expr_turned (suc c.args.self.now.left) c.args.walk c.update.result ((λ i. expr_of (v.Update (c.get-in-Update.ensures i) c.in-Update.sign c.in-Update.fix)) ∙ ap expr_of (sym c.in-Update.is ∙ c.node.ensures)) c.update.ensures

pub returns-in-And : goal.returns-in-And
returns-in-And g c = expr_turned (suc c.args.self.now.left) c.args.walk c.and.result ((λ i. expr_of (v.And (c.get-in-And.ensures i) (c.get-in-And-2.ensures i))) ∙ ap expr_of (sym c.in-And.is ∙ c.node.ensures)) c.and.ensures

pub returns-in-Or : goal.returns-in-Or
returns-in-Or g c = expr_turned (suc c.args.self.now.left) c.args.walk c.or.result ((λ i. expr_of (v.Or (c.get-in-Or.ensures i) (c.get-in-Or-2.ensures i))) ∙ ap expr_of (sym c.in-Or.is ∙ c.node.ensures)) c.or.ensures

pub returns-in-Comma : goal.returns-in-Comma
returns-in-Comma g c = expr_turned (suc c.args.self.now.left) c.args.walk c.comma.result ((λ i. expr_of (v.Comma (c.get-in-Comma.ensures i) (c.get-in-Comma-2.ensures i))) ∙ ap expr_of (sym c.in-Comma.is ∙ c.node.ensures)) c.comma.ensures

pub returns-in-Binary : goal.returns-in-Binary
returns-in-Binary g c = expr_turned (suc c.args.self.now.left) c.args.walk c.binary.result ((λ i. expr_of (v.Binary c.in-Binary.operator (c.get-in-Binary.ensures i) (c.get-in-Binary-2.ensures i))) ∙ ap expr_of (sym c.in-Binary.is ∙ c.node.ensures)) c.binary.ensures

pub returns-in-Assign : goal.returns-in-Assign
returns-in-Assign g c = expr_turned (suc c.args.self.now.left) c.args.walk c.assign.result ((λ i. expr_of (v.Assign c.in-Assign.operator (c.get-in-Assign.ensures i) (c.get-in-Assign-2.ensures i))) ∙ ap expr_of (sym c.in-Assign.is ∙ c.node.ensures)) c.assign.ensures

pub returns-in-Conditional : goal.returns-in-Conditional
returns-in-Conditional g c = expr_turned (suc c.args.self.now.left) c.args.walk c.conditional.result ((λ i. expr_of (v.Conditional (c.get-in-Conditional.ensures i) (c.get-in-Conditional-2.ensures i) (c.get-in-Conditional-3.ensures i))) ∙ ap expr_of (sym c.in-Conditional.is ∙ c.node.ensures)) c.conditional.ensures

pub returns-in-Array : goal.returns-in-Array
returns-in-Array g c = expr_turned (suc c.args.self.now.left) c.args.walk c.array.result ((λ i. expr_of (v.Array (c.as_slice.ensures i))) ∙ ap expr_of (sym c.in-Array.is ∙ c.node.ensures)) c.array.ensures

pub returns-in-Print : goal.returns-in-Print
returns-in-Print g c = expr_turned (suc c.args.self.now.left) c.args.walk c.print.result ((λ i. expr_of (v.Print (c.as_slice-in-Print.ensures i))) ∙ ap expr_of (sym c.in-Print.is ∙ c.node.ensures)) c.print.ensures

pub returns-in-Object : goal.returns-in-Object
returns-in-Object g c = expr_turned (suc c.args.self.now.left) c.args.walk c.object.result ((λ i. expr_of (v.Object (c.as_slice-in-Object.ensures i))) ∙ ap expr_of (sym c.in-Object.is ∙ c.node.ensures)) c.object.ensures

pub returns-in-Call : goal.returns-in-Call
returns-in-Call g c = expr_turned (suc c.args.self.now.left) c.args.walk c.call.result ((λ i. expr_of (v.Call (c.get-in-Call.ensures i) (c.as_slice-in-Call.ensures i))) ∙ ap expr_of (sym c.in-Call.is ∙ c.node.ensures)) c.call.ensures

pub returns-in-New : goal.returns-in-New
returns-in-New g c = expr_turned (suc c.args.self.now.left) c.args.walk c.construct.result ((λ i. expr_of (v.New (c.get-in-New.ensures i) (c.as_slice-in-New.ensures i))) ∙ ap expr_of (sym c.in-New.is ∙ c.node.ensures)) c.construct.ensures

pub returns-in-Member : goal.returns-in-Member
returns-in-Member g c = expr_turned (suc c.args.self.now.left) c.args.walk c.member.result ((λ i. expr_of (v.Member (c.get-in-Member.ensures i) c.in-Member.key)) ∙ ap expr_of (sym c.in-Member.is ∙ c.node.ensures)) c.member.ensures

pub returns-in-Delete : goal.returns-in-Delete
returns-in-Delete g c = expr_turned (suc c.args.self.now.left) c.args.walk c.delete.result ((λ i. expr_of (v.Delete (c.get-in-Delete.ensures i) c.in-Delete.key)) ∙ ap expr_of (sym c.in-Delete.is ∙ c.node.ensures)) c.delete.ensures

pub returns-in-Function : goal.returns-in-Function
returns-in-Function g c = expr_turned (suc c.args.self.now.left) c.args.walk c.function.result ((λ i. expr_of (v.Function c.in-Function.own (c.as_slice-in-Function.ensures i) c.in-Function.body)) ∙ ap expr_of (sym c.in-Function.is ∙ c.node.ensures)) c.function.ensures
