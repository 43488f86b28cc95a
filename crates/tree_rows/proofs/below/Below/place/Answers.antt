use Rattle.js_tree.specs.Expressions.{member, place_of}
use Rattle.js_tree.specs.Pieces.{Given, Property}
use Rattle.js_tree.specs.Rows.{expr_to}
use Rattle.js_tree.specs.Trees.{expr_level}
use Rattle.js_tree.specs.declared.ExprNode.{out-ExprNode, out-roll-ExprNode, roll-ExprNode, roll-out-ExprNode}
use Rattle.js_tree.specs.declared.ExprNode.TheOpen.{ExprNode-F}
use Rattle.js_tree.specs.declared.Key.{out-Key}
use Rattle.run_host.proofs.Exits.{takes_exit}
use Rattle.run_host.proofs.Fits.{leads_eq}
use Rattle.run_host.proofs.Sequence.{evaluated, gives_on, leads_out, leads_then, leaves_on}
use Rattle.run_host.specs.Told.{here_in}
use Rattle.std.proofs.Common.{ap, sym, ◌∙◌}
use Rattle.std.specs.Prelude.{Err, Ok}
use Rattle.tree_rows.proofs.Members.{place_other}
use Rattle.tree_rows.specs.Codes.{table_in}
use Rattle.js_tree.specs.declared.ExprNode.TheVariants as node
use Rattle.tree_rows.proofs.below.Below.place.Goals as goal

pub returns-in-Name-clause-did : goal.returns-in-Name-clause-did
returns-in-Name-clause-did g c = let t = table_in c.args.codes.now in
    leads_eq (λ nu go. ap (λ n. place_of (expr_to t c.args.self.now.left) (here_in nu c.args.here) c.args.e.now n go) (ap out-ExprNode (c.in-Name.is ∙ sym (node.rolls-Name c.in-Name.x)) ∙ out-roll-ExprNode (ExprNode-F.Name c.in-Name.x)))

pub returns-in_err-base-in-Member-clause-did : goal.returns-in_err-base-in-Member-clause-did
returns-in_err-base-in-Member-clause-did g c = let t = table_in c.args.codes.now in
    takes_exit _ _ c.from_residual.ensures.1 (leads_out (leads_eq (λ nu go. ap (λ n. place_of (expr_to t c.args.self.now.left) (here_in nu c.args.here) c.args.e.now n go) (ap out-ExprNode (c.in-Member.is ∙ sym (node.rolls-Member c.in-Member.b c.in-Member.k)) ∙ out-roll-ExprNode (ExprNode-F.Member c.in-Member.b c.in-Member.k)) ∙ ap (λ b. member (expr_to t c.args.self.now.left) (here_in nu c.args.here) b (out-Key c.in-Member.k) (λ p. go (Property p.0 p.1))) (sym c.get.ensures))) (leaves_on c.in_err-base-in-Member.ensures.did (λ nu p go. go (Property p.0 p.1))))

pub returns-in_ok-base-in-Member-clause-did : goal.returns-in_ok-base-in-Member-clause-did
returns-in_ok-base-in-Member-clause-did g c = let t = table_in c.args.codes.now in
    leads_then (leads_eq (λ nu go. ap (λ n. place_of (expr_to t c.args.self.now.left) (here_in nu c.args.here) c.args.e.now n go) (ap out-ExprNode (c.in-Member.is ∙ sym (node.rolls-Member c.in-Member.b c.in-Member.k)) ∙ out-roll-ExprNode (ExprNode-F.Member c.in-Member.b c.in-Member.k)) ∙ ap (λ b. member (expr_to t c.args.self.now.left) (here_in nu c.args.here) b (out-Key c.in-Member.k) (λ p. go (Property p.0 p.1))) (sym c.get.ensures))) (gives_on c.in_ok-base-in-Member.ensures.did (λ nu p go. go (Property p.0 p.1)))

pub returns-in_err-value-in_default-clause-did : goal.returns-in_err-value-in_default-clause-did
returns-in_err-value-in_default-clause-did g c = let t = table_in c.args.codes.now in
    takes_exit _ _ c.from_residual-in_err-value-in_default.ensures.1 (leads_out (leads_eq (λ nu go. place_other (expr_to t c.args.self.now.left) (here_in nu c.args.here) c.args.e.now (expr_level c.args.e.now) go (λ x q. c.in_default.not-Name x (sym (roll-out-ExprNode c.args.e.now.node) ∙ ap roll-ExprNode q ∙ node.rolls-Name x)) (λ x k q. c.in_default.not-Member x k (sym (roll-out-ExprNode c.args.e.now.node) ∙ ap roll-ExprNode q ∙ node.rolls-Member x k)))) (leaves_on (evaluated (Err _) c.in_err-value-in_default.ensures.ran) (λ nu v go. go (Given v))))

pub returns-in_ok-value-in_default-clause-did : goal.returns-in_ok-value-in_default-clause-did
returns-in_ok-value-in_default-clause-did g c = let t = table_in c.args.codes.now in
    leads_then (leads_eq (λ nu go. place_other (expr_to t c.args.self.now.left) (here_in nu c.args.here) c.args.e.now (expr_level c.args.e.now) go (λ x q. c.in_default.not-Name x (sym (roll-out-ExprNode c.args.e.now.node) ∙ ap roll-ExprNode q ∙ node.rolls-Name x)) (λ x k q. c.in_default.not-Member x k (sym (roll-out-ExprNode c.args.e.now.node) ∙ ap roll-ExprNode q ∙ node.rolls-Member x k)))) (gives_on (evaluated (Ok _) c.in_ok-value-in_default.ensures.ran) (λ nu v go. go (Given v)))
