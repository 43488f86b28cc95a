use Rattle.std.specs.Prelude.{Ok, Err}
use Rattle.std.proofs.Common.{ap, sym, subst, ◌∙◌}
use Rattle.turk_base.specs.Errors.{text_from}
use Rattle.turk_base.specs.Prog.{Then}
use Rattle.js_tree.specs.Pieces.{has_properties}
use Rattle.js_tree.specs.Rows.{expr_to}
use Rattle.value_cells.specs.Seen.{val_in}
use Rattle.run_host.specs.Told.{here_in}
use Rattle.run_host.proofs.Sequence.{evaluated, leads_then, leads_out, leads_same, gives_on, leaves_on}
use Rattle.run_host.proofs.Exits.{takes_exit}
use Rattle.run_host.proofs.Fits.{takes_as, takes_on, leads_eq, leaves_lost, out_lost}
use Rattle.tree_rows.specs.Codes.{table_in}
use Rattle.tree_rows.proofs.below.Below.computed.Goals as goal

pub returns-in_err-base-clause-did : goal.returns-in_err-base-clause-did
returns-in_err-base-clause-did g c =
    let t = table_in c.args.codes.now in
    takes_exit _ _ c.from_residual.ensures.1 (leaves_on (evaluated (Err _) c.in_err-base.ensures.ran) (λ nu b go. Then (expr_to t c.args.self.now.left (here_in nu c.args.here) c.args.k.now) (λ v. has_properties b (λ _. text_from v (λ key. go (b, key))))))

pub returns-in_err-value-clause-did : goal.returns-in_err-value-clause-did
returns-in_err-value-clause-did g c =
    let t = table_in c.args.codes.now in
    takes_exit _ _ c.from_residual-in_err-value.ensures.1 (leads_out (gives_on (evaluated (Ok _) c.in_ok-base.ensures.ran) (λ nu b go. Then (expr_to t c.args.self.now.left (here_in nu c.args.here) c.args.k.now) (λ v. has_properties b (λ _. text_from v (λ key. go (b, key)))))) (leaves_on (evaluated (Err _) c.in_err-value.ensures.ran) (λ nu v go. has_properties (val_in nu c.in_ok-base.base) (λ _. text_from v (λ key. go ((val_in nu c.in_ok-base.base), key))))))

pub returns-in_err-has_properties-clause-did : goal.returns-in_err-has_properties-clause-did
returns-in_err-has_properties-clause-did g c =
    let t = table_in c.args.codes.now in
    takes_exit _ _ c.from_residual-in_err-has_properties.ensures.1 (leads_out (gives_on (evaluated (Ok _) c.in_ok-base.ensures.ran) (λ nu b go. Then (expr_to t c.args.self.now.left (here_in nu c.args.here) c.args.k.now) (λ v. has_properties b (λ _. text_from v (λ key. go (b, key)))))) (leads_out (gives_on (evaluated (Ok _) c.in_ok-value.ensures.ran) (λ nu v go. has_properties (val_in nu c.in_ok-base.base) (λ _. text_from v (λ key. go ((val_in nu c.in_ok-base.base), key))))) (leaves_on c.in_err-has_properties.ensures.did (λ nu _ go. text_from (val_in nu c.in_ok-value.value) (λ key. go ((val_in nu c.in_ok-base.base), key))))))

pub returns-in_err-key-clause-did : goal.returns-in_err-key-clause-did
returns-in_err-key-clause-did g c =
    let t = table_in c.args.codes.now in
    takes_exit _ _ c.from_residual-in_err-key.ensures.1 (leads_out (gives_on (evaluated (Ok _) c.in_ok-base.ensures.ran) (λ nu b go. Then (expr_to t c.args.self.now.left (here_in nu c.args.here) c.args.k.now) (λ v. has_properties b (λ _. text_from v (λ key. go (b, key)))))) (leads_out (gives_on (evaluated (Ok _) c.in_ok-value.ensures.ran) (λ nu v go. has_properties (val_in nu c.in_ok-base.base) (λ _. text_from v (λ key. go ((val_in nu c.in_ok-base.base), key))))) (leads_out (gives_on c.in_ok-has_properties.ensures.did (λ nu _ go. text_from (val_in nu c.in_ok-value.value) (λ key. go ((val_in nu c.in_ok-base.base), key)))) (leaves_on c.in_err-key.ensures.did (λ nu key go. go ((val_in nu c.in_ok-base.base), key))))))

pub returns-clause-did : goal.returns-clause-did
returns-clause-did g c =
    let t = table_in c.args.codes.now in
    leads_then (gives_on (evaluated (Ok _) c.in_ok-base.ensures.ran) (λ nu b go. Then (expr_to t c.args.self.now.left (here_in nu c.args.here) c.args.k.now) (λ v. has_properties b (λ _. text_from v (λ key. go (b, key)))))) (leads_then (gives_on (evaluated (Ok _) c.in_ok-value.ensures.ran) (λ nu v go. has_properties (val_in nu c.in_ok-base.base) (λ _. text_from v (λ key. go ((val_in nu c.in_ok-base.base), key))))) (leads_then (gives_on c.in_ok-has_properties.ensures.did (λ nu _ go. text_from (val_in nu c.in_ok-value.value) (λ key. go ((val_in nu c.in_ok-base.base), key)))) (gives_on c.in_ok-key.ensures.did (λ nu key go. go ((val_in nu c.in_ok-base.base), key)))))
