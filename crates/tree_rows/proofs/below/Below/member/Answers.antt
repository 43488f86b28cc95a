use Rattle.js_tree.specs.Expressions.{member}
use Rattle.js_tree.specs.Pieces.{has_properties}
use Rattle.js_tree.specs.Rows.{expr_to}
use Rattle.js_tree.specs.declared.ExprNode.TheOpen.{Key-F}
use Rattle.js_tree.specs.declared.Key.{out-Key, out-roll-Key}
use Rattle.run_host.proofs.Exits.{takes_exit}
use Rattle.run_host.proofs.Fits.{leads_eq, out_lost, takes_as}
use Rattle.run_host.proofs.Sequence.{evaluated, gives_on, leads_out, leads_then, leaves_on}
use Rattle.run_host.specs.Told.{here_in}
use Rattle.std.proofs.Common.{ap, sym, ◌∙◌}
use Rattle.std.specs.Prelude.{Err, Ok}
use Rattle.tree_rows.specs.Codes.{table_in}
use Rattle.value_cells.specs.Seen.{val_in}
use Rattle.js_tree.specs.declared.Key.TheVariants as key
use Rattle.tree_rows.proofs.below.Below.member.Goals as goal

pub returns-in_err-base-in-Fixed-clause-did : goal.returns-in_err-base-in-Fixed-clause-did
returns-in_err-base-in-Fixed-clause-did g c =
    let t = table_in c.args.codes.now in
    takes_exit _ _ c.from_residual.ensures.1 (leads_out (leads_eq (λ nu go. ap (λ k. member (expr_to t c.args.self.now.left) (here_in nu c.args.here) c.args.b.now k go) (ap out-Key (c.in-Fixed.is ∙ sym (key.rolls-Fixed c.in-Fixed.key)) ∙ out-roll-Key (Key-F.Fixed c.in-Fixed.key)))) (leaves_on (evaluated (Err _) c.in_err-base-in-Fixed.ensures.ran) (λ nu b go. has_properties b (λ _. go (b, c.in-Fixed.key)))))

pub returns-in_err-has_properties-in-Fixed-clause-did : goal.returns-in_err-has_properties-in-Fixed-clause-did
returns-in_err-has_properties-in-Fixed-clause-did g c =
    let t = table_in c.args.codes.now in
    takes_exit _ _ c.from_residual-in_err-has_properties-in-Fixed.ensures.1 (leads_out (leads_then (leads_eq (λ nu go. ap (λ k. member (expr_to t c.args.self.now.left) (here_in nu c.args.here) c.args.b.now k go) (ap out-Key (c.in-Fixed.is ∙ sym (key.rolls-Fixed c.in-Fixed.key)) ∙ out-roll-Key (Key-F.Fixed c.in-Fixed.key)))) (gives_on (evaluated (Ok _) c.in_ok-base-in-Fixed.ensures.ran) (λ nu b go. has_properties b (λ _. go (b, c.in-Fixed.key))))) (leaves_on c.in_err-has_properties-in-Fixed.ensures.did (λ nu _ go. go ((val_in nu c.in_ok-base-in-Fixed.base), c.in-Fixed.key))))

pub returns-in_err-copy-in-Fixed-clause-did : goal.returns-in_err-copy-in-Fixed-clause-did
returns-in_err-copy-in-Fixed-clause-did g c =
    let t = table_in c.args.codes.now in
    takes_exit _ _ c.from_residual-in_err-copy-in-Fixed.ensures.1 (out_lost (leads_then (leads_then (leads_eq (λ nu go. ap (λ k. member (expr_to t c.args.self.now.left) (here_in nu c.args.here) c.args.b.now k go) (ap out-Key (c.in-Fixed.is ∙ sym (key.rolls-Fixed c.in-Fixed.key)) ∙ out-roll-Key (Key-F.Fixed c.in-Fixed.key)))) (gives_on (evaluated (Ok _) c.in_ok-base-in-Fixed.ensures.ran) (λ nu b go. has_properties b (λ _. go (b, c.in-Fixed.key))))) (gives_on c.in_ok-has_properties-in-Fixed.ensures.did (λ nu _ go. go ((val_in nu c.in_ok-base-in-Fixed.base), c.in-Fixed.key)))))

pub returns-in_ok-copy-in-Fixed-clause-did : goal.returns-in_ok-copy-in-Fixed-clause-did
returns-in_ok-copy-in-Fixed-clause-did g c =
    let t = table_in c.args.codes.now in
    leads_then (leads_then (leads_eq (λ nu go. ap (λ k. member (expr_to t c.args.self.now.left) (here_in nu c.args.here) c.args.b.now k go) (ap out-Key (c.in-Fixed.is ∙ sym (key.rolls-Fixed c.in-Fixed.key)) ∙ out-roll-Key (Key-F.Fixed c.in-Fixed.key)))) (gives_on (evaluated (Ok _) c.in_ok-base-in-Fixed.ensures.ran) (λ nu b go. has_properties b (λ _. go (b, c.in-Fixed.key))))) (leads_then (gives_on c.in_ok-has_properties-in-Fixed.ensures.did (λ nu _ go. go ((val_in nu c.in_ok-base-in-Fixed.base), c.in-Fixed.key))) (leads_eq (λ nu go. ap (λ k. go ((val_in nu c.in_ok-base-in-Fixed.base), k)) (sym c.in_ok-copy-in-Fixed.ensures))))

pub returns-in-Computed-clause-did : goal.returns-in-Computed-clause-did
returns-in-Computed-clause-did g c = let t = table_in c.args.codes.now in
    takes_as _ (λ nu p. (val_in nu p.0, p.1)) c.computed.result (leads_eq (λ nu go. ap (λ k. member (expr_to t c.args.self.now.left) (here_in nu c.args.here) c.args.b.now k go) (ap out-Key (c.in-Computed.is ∙ sym (key.rolls-Computed c.in-Computed.k)) ∙ out-roll-Key (Key-F.Computed c.in-Computed.k)) ∙ ap (λ e. member (expr_to t c.args.self.now.left) (here_in nu c.args.here) c.args.b.now (Key-F.Computed e) go) (sym c.get.ensures))) c.computed.ensures.did
