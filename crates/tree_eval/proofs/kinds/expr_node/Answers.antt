use Rattle.run_host.specs.Moment.{apart}
use Rattle.run_host.proofs.Along.{anywhere}
use Rattle.host_steps.proofs.Made.{runs_as}
use Rattle.js_tree.specs.Expressions.{and_row, array_row, assign_row, binary_row, call_row, comma_row, conditional_row, delete_row, function_row, member_row, new_row, object_row, or_row, typeof_row, unary_row, update_row, void_row}
use Rattle.js_tree.specs.Rows.{expr_row, expr_to, stmt_to}
use Rattle.js_tree.specs.ScriptCalls.{fork_row, once_row, post_row, print_row, prompt_row, random_row, reply_row}
use Rattle.js_tree.specs.declared.ExprNode.{out-ExprNode, out-roll-ExprNode}
use Rattle.js_tree.specs.declared.ExprNode.TheOpen.{ExprNode-F}
use Rattle.run_host.specs.Told.{here_in}
use Rattle.std.proofs.Common.{ap, sym, ◌∙◌}
use Rattle.tree_rows.specs.Codes.{table_in}
use Rattle.js_tree.specs.declared.ExprNode.TheVariants as node
use Rattle.tree_eval.proofs.kinds.expr_node.Goals as goal

pub returns-in-This-clause-ran : goal.returns-in-This-clause-ran
unfolding expr_row
returns-in-This-clause-ran g c = let table = table_in c.args.codes.now in
    runs_as (λ nu. ap (expr_row table (expr_to table c.args.below.now.left) (stmt_to table c.args.below.now.left) (here_in nu c.args.here)) (ap out-ExprNode (c.in-This.is ∙ sym node.rolls-This) ∙ out-roll-ExprNode ExprNode-F.This)) (anywhere (g.H.Host.moment c.args.host.now) (c.this.ensures.ran (apart (g.H.Host.moment c.args.host.now))))

pub returns-in-Name-clause-ran : goal.returns-in-Name-clause-ran
unfolding expr_row
returns-in-Name-clause-ran g c = let table = table_in c.args.codes.now in
    runs_as (λ nu. ap (expr_row table (expr_to table c.args.below.now.left) (stmt_to table c.args.below.now.left) (here_in nu c.args.here)) (ap out-ExprNode (c.in-Name.is ∙ sym (node.rolls-Name c.in-Name.x)) ∙ out-roll-ExprNode (ExprNode-F.Name c.in-Name.x))) c.name.ensures.ran

pub returns-in-Literal-clause-ran : goal.returns-in-Literal-clause-ran
unfolding expr_row
returns-in-Literal-clause-ran g c = let table = table_in c.args.codes.now in
    runs_as (λ nu. ap (expr_row table (expr_to table c.args.below.now.left) (stmt_to table c.args.below.now.left) (here_in nu c.args.here)) (ap out-ExprNode (c.in-Literal.is ∙ sym (node.rolls-Literal c.in-Literal.x)) ∙ out-roll-ExprNode (ExprNode-F.Literal c.in-Literal.x))) (anywhere (g.H.Host.moment c.args.host.now) (c.literal.ensures.ran (apart (g.H.Host.moment c.args.host.now))))

pub returns-in-Array-clause-ran : goal.returns-in-Array-clause-ran
unfolding expr_row
returns-in-Array-clause-ran g c = let table = table_in c.args.codes.now in
    runs_as (λ nu. ap (expr_row table (expr_to table c.args.below.now.left) (stmt_to table c.args.below.now.left) (here_in nu c.args.here)) (ap out-ExprNode (c.in-Array.is ∙ sym (node.rolls-Array c.in-Array.es)) ∙ out-roll-ExprNode (ExprNode-F.Array c.in-Array.es)) ∙ (λ i. array_row (expr_to table c.args.below.now.left) (here_in nu c.args.here) (sym c.as_slice.ensures i))) c.array.ensures.ran

pub returns-in-Object-clause-ran : goal.returns-in-Object-clause-ran
unfolding expr_row
returns-in-Object-clause-ran g c = let table = table_in c.args.codes.now in
    runs_as (λ nu. ap (expr_row table (expr_to table c.args.below.now.left) (stmt_to table c.args.below.now.left) (here_in nu c.args.here)) (ap out-ExprNode (c.in-Object.is ∙ sym (node.rolls-Object c.in-Object.xs)) ∙ out-roll-ExprNode (ExprNode-F.Object c.in-Object.xs)) ∙ (λ i. object_row (expr_to table c.args.below.now.left) (here_in nu c.args.here) (sym c.as_slice-in-Object.ensures i))) c.object.ensures.ran

pub returns-in-Function-clause-ran : goal.returns-in-Function-clause-ran
unfolding expr_row
returns-in-Function-clause-ran g c = let table = table_in c.args.codes.now in
    runs_as (λ nu. ap (expr_row table (expr_to table c.args.below.now.left) (stmt_to table c.args.below.now.left) (here_in nu c.args.here)) (ap out-ExprNode (c.in-Function.is ∙ sym (node.rolls-Function c.in-Function.own c.in-Function.field-1 c.in-Function.body)) ∙ out-roll-ExprNode (ExprNode-F.Function c.in-Function.own c.in-Function.field-1 c.in-Function.body)) ∙ (λ i. function_row (here_in nu c.args.here) (sym c.as_ref.ensures.value i) c.in-Function.body)) c.function.ensures.ran

pub returns-in-Member-clause-ran : goal.returns-in-Member-clause-ran
unfolding expr_row
returns-in-Member-clause-ran g c = let table = table_in c.args.codes.now in
    runs_as (λ nu. ap (expr_row table (expr_to table c.args.below.now.left) (stmt_to table c.args.below.now.left) (here_in nu c.args.here)) (ap out-ExprNode (c.in-Member.is ∙ sym (node.rolls-Member c.in-Member.b c.in-Member.k)) ∙ out-roll-ExprNode (ExprNode-F.Member c.in-Member.b c.in-Member.k)) ∙ (λ i. member_row (expr_to table c.args.below.now.left) (here_in nu c.args.here) (sym c.get.ensures i) c.in-Member.k)) c.property.ensures.ran

pub returns-in-Call-clause-ran : goal.returns-in-Call-clause-ran
unfolding expr_row
returns-in-Call-clause-ran g c = let table = table_in c.args.codes.now in
    runs_as (λ nu. ap (expr_row table (expr_to table c.args.below.now.left) (stmt_to table c.args.below.now.left) (here_in nu c.args.here)) (ap out-ExprNode (c.in-Call.is ∙ sym (node.rolls-Call c.in-Call.e c.in-Call.es)) ∙ out-roll-ExprNode (ExprNode-F.Call c.in-Call.e c.in-Call.es)) ∙ (λ i. call_row table (expr_to table c.args.below.now.left) (stmt_to table c.args.below.now.left) (here_in nu c.args.here) (sym c.get-in-Call.ensures i) (sym c.as_slice-in-Call.ensures i))) c.call.ensures.ran

pub returns-in-New-clause-ran : goal.returns-in-New-clause-ran
unfolding expr_row
returns-in-New-clause-ran g c = let table = table_in c.args.codes.now in
    runs_as (λ nu. ap (expr_row table (expr_to table c.args.below.now.left) (stmt_to table c.args.below.now.left) (here_in nu c.args.here)) (ap out-ExprNode (c.in-New.is ∙ sym (node.rolls-New c.in-New.e c.in-New.es)) ∙ out-roll-ExprNode (ExprNode-F.New c.in-New.e c.in-New.es)) ∙ (λ i. new_row table (expr_to table c.args.below.now.left) (stmt_to table c.args.below.now.left) (here_in nu c.args.here) (sym c.get-in-New.ensures i) (sym c.as_slice-in-New.ensures i))) c.new_object.ensures.ran

pub returns-in-Update-clause-ran : goal.returns-in-Update-clause-ran
unfolding expr_row
returns-in-Update-clause-ran g c = let table = table_in c.args.codes.now in
    runs_as (λ nu. ap (expr_row table (expr_to table c.args.below.now.left) (stmt_to table c.args.below.now.left) (here_in nu c.args.here)) (ap out-ExprNode (c.in-Update.is ∙ sym (node.rolls-Update c.in-Update.e c.in-Update.sign c.in-Update.fix)) ∙ out-roll-ExprNode (ExprNode-F.Update c.in-Update.e c.in-Update.sign c.in-Update.fix)) ∙ (λ i. update_row (expr_to table c.args.below.now.left) (here_in nu c.args.here) (sym c.get-in-Update.ensures i) c.in-Update.sign c.in-Update.fix)) c.update.ensures.ran

pub returns-in-Delete-clause-ran : goal.returns-in-Delete-clause-ran
unfolding expr_row
returns-in-Delete-clause-ran g c = let table = table_in c.args.codes.now in
    runs_as (λ nu. ap (expr_row table (expr_to table c.args.below.now.left) (stmt_to table c.args.below.now.left) (here_in nu c.args.here)) (ap out-ExprNode (c.in-Delete.is ∙ sym (node.rolls-Delete c.in-Delete.b c.in-Delete.k)) ∙ out-roll-ExprNode (ExprNode-F.Delete c.in-Delete.b c.in-Delete.k)) ∙ (λ i. delete_row (expr_to table c.args.below.now.left) (here_in nu c.args.here) (sym c.get-in-Delete.ensures i) c.in-Delete.k)) c.delete.ensures.ran

pub returns-in-Void-clause-ran : goal.returns-in-Void-clause-ran
unfolding expr_row
returns-in-Void-clause-ran g c = let table = table_in c.args.codes.now in
    runs_as (λ nu. ap (expr_row table (expr_to table c.args.below.now.left) (stmt_to table c.args.below.now.left) (here_in nu c.args.here)) (ap out-ExprNode (c.in-Void.is ∙ sym (node.rolls-Void c.in-Void.e)) ∙ out-roll-ExprNode (ExprNode-F.Void c.in-Void.e)) ∙ (λ i. void_row (expr_to table c.args.below.now.left) (here_in nu c.args.here) (sym c.get-in-Void.ensures i))) c.void.ensures.ran

pub returns-in-Typeof-clause-ran : goal.returns-in-Typeof-clause-ran
unfolding expr_row
returns-in-Typeof-clause-ran g c = let table = table_in c.args.codes.now in
    runs_as (λ nu. ap (expr_row table (expr_to table c.args.below.now.left) (stmt_to table c.args.below.now.left) (here_in nu c.args.here)) (ap out-ExprNode (c.in-Typeof.is ∙ sym (node.rolls-Typeof c.in-Typeof.e)) ∙ out-roll-ExprNode (ExprNode-F.Typeof c.in-Typeof.e)) ∙ (λ i. typeof_row (expr_to table c.args.below.now.left) (here_in nu c.args.here) (sym c.get-in-Typeof.ensures i))) c.type_name.ensures.ran

pub returns-in-Unary-clause-ran : goal.returns-in-Unary-clause-ran
unfolding expr_row
returns-in-Unary-clause-ran g c = let table = table_in c.args.codes.now in
    runs_as (λ nu. ap (expr_row table (expr_to table c.args.below.now.left) (stmt_to table c.args.below.now.left) (here_in nu c.args.here)) (ap out-ExprNode (c.in-Unary.is ∙ sym (node.rolls-Unary c.in-Unary.operator c.in-Unary.e)) ∙ out-roll-ExprNode (ExprNode-F.Unary c.in-Unary.operator c.in-Unary.e)) ∙ (λ i. unary_row (expr_to table c.args.below.now.left) (here_in nu c.args.here) c.in-Unary.operator (sym c.get-in-Unary.ensures i))) c.unary.ensures.ran

pub returns-in-Binary-clause-ran : goal.returns-in-Binary-clause-ran
unfolding expr_row
returns-in-Binary-clause-ran g c = let table = table_in c.args.codes.now in
    runs_as (λ nu. ap (expr_row table (expr_to table c.args.below.now.left) (stmt_to table c.args.below.now.left) (here_in nu c.args.here)) (ap out-ExprNode (c.in-Binary.is ∙ sym (node.rolls-Binary c.in-Binary.operator c.in-Binary.a c.in-Binary.b)) ∙ out-roll-ExprNode (ExprNode-F.Binary c.in-Binary.operator c.in-Binary.a c.in-Binary.b)) ∙ (λ i. binary_row (expr_to table c.args.below.now.left) (here_in nu c.args.here) c.in-Binary.operator (sym c.get-in-Binary.ensures i) (sym c.get-in-Binary-2.ensures i))) c.binary.ensures.ran

pub returns-in-And-clause-ran : goal.returns-in-And-clause-ran
unfolding expr_row
returns-in-And-clause-ran g c = let table = table_in c.args.codes.now in
    runs_as (λ nu. ap (expr_row table (expr_to table c.args.below.now.left) (stmt_to table c.args.below.now.left) (here_in nu c.args.here)) (ap out-ExprNode (c.in-And.is ∙ sym (node.rolls-And c.in-And.a c.in-And.b)) ∙ out-roll-ExprNode (ExprNode-F.And c.in-And.a c.in-And.b)) ∙ (λ i. and_row (expr_to table c.args.below.now.left) (here_in nu c.args.here) (sym c.get-in-And.ensures i) (sym c.get-in-And-2.ensures i))) c.and.ensures.ran

pub returns-in-Or-clause-ran : goal.returns-in-Or-clause-ran
unfolding expr_row
returns-in-Or-clause-ran g c = let table = table_in c.args.codes.now in
    runs_as (λ nu. ap (expr_row table (expr_to table c.args.below.now.left) (stmt_to table c.args.below.now.left) (here_in nu c.args.here)) (ap out-ExprNode (c.in-Or.is ∙ sym (node.rolls-Or c.in-Or.a c.in-Or.b)) ∙ out-roll-ExprNode (ExprNode-F.Or c.in-Or.a c.in-Or.b)) ∙ (λ i. or_row (expr_to table c.args.below.now.left) (here_in nu c.args.here) (sym c.get-in-Or.ensures i) (sym c.get-in-Or-2.ensures i))) c.or.ensures.ran

pub returns-in-Conditional-clause-ran : goal.returns-in-Conditional-clause-ran
unfolding expr_row
returns-in-Conditional-clause-ran g c = let table = table_in c.args.codes.now in
    runs_as (λ nu. ap (expr_row table (expr_to table c.args.below.now.left) (stmt_to table c.args.below.now.left) (here_in nu c.args.here)) (ap out-ExprNode (c.in-Conditional.is ∙ sym (node.rolls-Conditional c.in-Conditional.t c.in-Conditional.a c.in-Conditional.b)) ∙ out-roll-ExprNode (ExprNode-F.Conditional c.in-Conditional.t c.in-Conditional.a c.in-Conditional.b)) ∙ (λ i. conditional_row (expr_to table c.args.below.now.left) (here_in nu c.args.here) (sym c.get-in-Conditional.ensures i) (sym c.get-in-Conditional-2.ensures i) (sym c.get-in-Conditional-3.ensures i))) c.conditional.ensures.ran

pub returns-in-Assign-clause-ran : goal.returns-in-Assign-clause-ran
unfolding expr_row
returns-in-Assign-clause-ran g c = let table = table_in c.args.codes.now in
    runs_as (λ nu. ap (expr_row table (expr_to table c.args.below.now.left) (stmt_to table c.args.below.now.left) (here_in nu c.args.here)) (ap out-ExprNode (c.in-Assign.is ∙ sym (node.rolls-Assign c.in-Assign.operator c.in-Assign.t c.in-Assign.e)) ∙ out-roll-ExprNode (ExprNode-F.Assign c.in-Assign.operator c.in-Assign.t c.in-Assign.e)) ∙ (λ i. assign_row (expr_to table c.args.below.now.left) (here_in nu c.args.here) c.in-Assign.operator (sym c.get-in-Assign.ensures i) (sym c.get-in-Assign-2.ensures i))) c.assignment.ensures.ran

pub returns-in-Comma-clause-ran : goal.returns-in-Comma-clause-ran
unfolding expr_row
returns-in-Comma-clause-ran g c = let table = table_in c.args.codes.now in
    runs_as (λ nu. ap (expr_row table (expr_to table c.args.below.now.left) (stmt_to table c.args.below.now.left) (here_in nu c.args.here)) (ap out-ExprNode (c.in-Comma.is ∙ sym (node.rolls-Comma c.in-Comma.a c.in-Comma.b)) ∙ out-roll-ExprNode (ExprNode-F.Comma c.in-Comma.a c.in-Comma.b)) ∙ (λ i. comma_row (expr_to table c.args.below.now.left) (here_in nu c.args.here) (sym c.get-in-Comma.ensures i) (sym c.get-in-Comma-2.ensures i))) c.comma.ensures.ran

pub returns-in-Print-clause-ran : goal.returns-in-Print-clause-ran
unfolding expr_row
returns-in-Print-clause-ran g c = let table = table_in c.args.codes.now in
    runs_as (λ nu. ap (expr_row table (expr_to table c.args.below.now.left) (stmt_to table c.args.below.now.left) (here_in nu c.args.here)) (ap out-ExprNode (c.in-Print.is ∙ sym (node.rolls-Print c.in-Print.es)) ∙ out-roll-ExprNode (ExprNode-F.Print c.in-Print.es)) ∙ (λ i. print_row (expr_to table c.args.below.now.left) (here_in nu c.args.here) (sym c.as_slice-in-Print.ensures i))) c.print.ensures.ran

pub returns-in-Post-clause-ran : goal.returns-in-Post-clause-ran
unfolding expr_row
returns-in-Post-clause-ran g c = let table = table_in c.args.codes.now in
    runs_as (λ nu. ap (expr_row table (expr_to table c.args.below.now.left) (stmt_to table c.args.below.now.left) (here_in nu c.args.here)) (ap out-ExprNode (c.in-Post.is ∙ sym (node.rolls-Post c.in-Post.e)) ∙ out-roll-ExprNode (ExprNode-F.Post c.in-Post.e)) ∙ (λ i. post_row (expr_to table c.args.below.now.left) (here_in nu c.args.here) (sym c.get-in-Post.ensures i))) c.post.ensures.ran

pub returns-in-Reply-clause-ran : goal.returns-in-Reply-clause-ran
unfolding expr_row
returns-in-Reply-clause-ran g c = let table = table_in c.args.codes.now in
    runs_as (λ nu. ap (expr_row table (expr_to table c.args.below.now.left) (stmt_to table c.args.below.now.left) (here_in nu c.args.here)) (ap out-ExprNode (c.in-Reply.is ∙ sym (node.rolls-Reply c.in-Reply.e)) ∙ out-roll-ExprNode (ExprNode-F.Reply c.in-Reply.e)) ∙ (λ i. reply_row (expr_to table c.args.below.now.left) (here_in nu c.args.here) (sym c.get-in-Reply.ensures i))) c.reply.ensures.ran

pub returns-in-Prompt-clause-ran : goal.returns-in-Prompt-clause-ran
unfolding expr_row
returns-in-Prompt-clause-ran g c = let table = table_in c.args.codes.now in
    runs_as (λ nu. ap (expr_row table (expr_to table c.args.below.now.left) (stmt_to table c.args.below.now.left) (here_in nu c.args.here)) (ap out-ExprNode (c.in-Prompt.is ∙ sym (node.rolls-Prompt c.in-Prompt.e)) ∙ out-roll-ExprNode (ExprNode-F.Prompt c.in-Prompt.e)) ∙ (λ i. prompt_row (expr_to table c.args.below.now.left) (here_in nu c.args.here) (sym c.get-in-Prompt.ensures i))) c.prompt.ensures.ran

pub returns-in-Random-clause-ran : goal.returns-in-Random-clause-ran
unfolding expr_row
returns-in-Random-clause-ran g c = let table = table_in c.args.codes.now in
    runs_as (λ nu. ap (expr_row table (expr_to table c.args.below.now.left) (stmt_to table c.args.below.now.left) (here_in nu c.args.here)) (ap out-ExprNode (c.in-Random.is ∙ sym (node.rolls-Random c.in-Random.e)) ∙ out-roll-ExprNode (ExprNode-F.Random c.in-Random.e)) ∙ (λ i. random_row (expr_to table c.args.below.now.left) (here_in nu c.args.here) (sym c.get-in-Random.ensures i))) c.random.ensures.ran

pub returns-in-Once-clause-ran : goal.returns-in-Once-clause-ran
unfolding expr_row
returns-in-Once-clause-ran g c = let table = table_in c.args.codes.now in
    runs_as (λ nu. ap (expr_row table (expr_to table c.args.below.now.left) (stmt_to table c.args.below.now.left) (here_in nu c.args.here)) (ap out-ExprNode (c.in-Once.is ∙ sym (node.rolls-Once c.in-Once.e)) ∙ out-roll-ExprNode (ExprNode-F.Once c.in-Once.e)) ∙ (λ i. once_row table (expr_to table c.args.below.now.left) (stmt_to table c.args.below.now.left) (here_in nu c.args.here) (sym c.get-in-Once.ensures i))) c.once.ensures.ran

pub returns-in-Fork-clause-ran : goal.returns-in-Fork-clause-ran
unfolding expr_row
returns-in-Fork-clause-ran g c = let table = table_in c.args.codes.now in
    runs_as (λ nu. ap (expr_row table (expr_to table c.args.below.now.left) (stmt_to table c.args.below.now.left) (here_in nu c.args.here)) (ap out-ExprNode (c.in-Fork.is ∙ sym (node.rolls-Fork c.in-Fork.e)) ∙ out-roll-ExprNode (ExprNode-F.Fork c.in-Fork.e)) ∙ (λ i. fork_row table (expr_to table c.args.below.now.left) (stmt_to table c.args.below.now.left) (here_in nu c.args.here) (sym c.get-in-Fork.ensures i))) c.fork.ensures.ran

pub returns-in-Join-clause-ran : goal.returns-in-Join-clause-ran
unfolding expr_row
returns-in-Join-clause-ran g c = let table = table_in c.args.codes.now in
    runs_as (λ nu. ap (expr_row table (expr_to table c.args.below.now.left) (stmt_to table c.args.below.now.left) (here_in nu c.args.here)) (ap out-ExprNode (c.in-Join.is ∙ sym node.rolls-Join) ∙ out-roll-ExprNode ExprNode-F.Join)) c.join.ensures.ran

pub returns-in-Crash-clause-ran : goal.returns-in-Crash-clause-ran
unfolding expr_row
returns-in-Crash-clause-ran g c = let table = table_in c.args.codes.now in
    runs_as (λ nu. ap (expr_row table (expr_to table c.args.below.now.left) (stmt_to table c.args.below.now.left) (here_in nu c.args.here)) (ap out-ExprNode (c.in-Crash.is ∙ sym node.rolls-Crash) ∙ out-roll-ExprNode ExprNode-F.Crash)) c.crash.ensures.ran
