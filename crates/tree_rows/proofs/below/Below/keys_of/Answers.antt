use Rattle.host_steps.proofs.Made.{runs_as}
use Rattle.js_tree.specs.Rows.{expr_to, stmt_to}
use Rattle.js_tree.specs.Statements.{key_turns, keys_of, left_loop}
use Rattle.js_tree.specs.declared.ForTarget.{out-ForTarget}
use Rattle.run_host.proofs.Exits.{always_done, always_exit, flow_exit}
use Rattle.run_host.proofs.Fits.{runs_left, runs_on}
use Rattle.run_host.proofs.Sequence.{ends_with}
use Rattle.run_host.specs.Told.{flow_in, here_in}
use Rattle.std.proofs.Common.{ap, refl, sym}
use Rattle.tree_rows.proofs.Keys.{no_keys}
use Rattle.tree_rows.proofs.Turns.{passed}
use Rattle.tree_rows.specs.Codes.{table_in}
use Rattle.turk_base.specs.Prog.{Always}
use Rattle.value_cells.specs.Seen.{val_in}
use Rattle.tree_rows.proofs.below.Below.keys_of.Goals as goal

pub returns-in_default-clause-ran : goal.returns-in_default-clause-ran
returns-in_default-clause-ran g c = let t = table_in c.args.codes.now in
    runs_as (no_keys t (expr_to t c.args.self.now.left) (stmt_to t c.args.self.now.left) (λ nu. here_in nu c.args.here) (out-ForTarget c.args.into.now) c.args.s.now c.args.value.now c.in_default.not-Object) ends_with

pub returns-in_err-keys-clause-ran : goal.returns-in_err-keys-clause-ran
returns-in_err-keys-clause-ran g c = let t = table_in c.args.codes.now in
    flow_exit _ _ c.from_residual.ensures.1 (runs_as (λ nu. ap (λ v. keys_of t (expr_to t c.args.self.now.left) (stmt_to t c.args.self.now.left) (here_in nu c.args.here) (out-ForTarget c.args.into.now) c.args.s.now (val_in nu v)) c.in-Object.is) (runs_left (λ nu ks. Always (key_turns t (expr_to t c.args.self.now.left) (stmt_to t c.args.self.now.left) (here_in nu c.args.here) (out-ForTarget c.args.into.now) c.args.s.now (nu c.in-Object.cell) ks) (left_loop t (expr_to t c.args.self.now.left) (stmt_to t c.args.self.now.left))) c.in_err-keys.ensures.did))

pub returns-in_err-other-clause-ran : goal.returns-in_err-other-clause-ran
returns-in_err-other-clause-ran g c = let t = table_in c.args.codes.now in
    flow_exit _ _ c.from_residual-in_err-other.ensures.1 (runs_as (λ nu. ap (λ v. keys_of t (expr_to t c.args.self.now.left) (stmt_to t c.args.self.now.left) (here_in nu c.args.here) (out-ForTarget c.args.into.now) c.args.s.now (val_in nu v)) c.in-Object.is) (runs_on (λ nu ks. Always (key_turns t (expr_to t c.args.self.now.left) (stmt_to t c.args.self.now.left) (here_in nu c.args.here) (out-ForTarget c.args.into.now) c.args.s.now (nu c.in-Object.cell) ks) (left_loop t (expr_to t c.args.self.now.left) (stmt_to t c.args.self.now.left))) c.in_ok-keys.ensures.did (runs_as (λ nu. ap (λ ks. Always (key_turns t (expr_to t c.args.self.now.left) (stmt_to t c.args.self.now.left) (here_in nu c.args.here) (out-ForTarget c.args.into.now) c.args.s.now (nu c.in-Object.cell) ks) (left_loop t (expr_to t c.args.self.now.left) (stmt_to t c.args.self.now.left))) (sym c.as_slice.ensures.value)) (always_exit (λ nu. (left_loop t (expr_to t c.args.self.now.left) (stmt_to t c.args.self.now.left))) _ (λ nu v. refl) c.in_err-other.ensures.ran))))

pub returns-in-Break-clause-ran : goal.returns-in-Break-clause-ran
returns-in-Break-clause-ran g c = let t = table_in c.args.codes.now in
    runs_as (λ nu. ap (λ v. keys_of t (expr_to t c.args.self.now.left) (stmt_to t c.args.self.now.left) (here_in nu c.args.here) (out-ForTarget c.args.into.now) c.args.s.now (val_in nu v)) c.in-Object.is) (runs_on (λ nu ks. Always (key_turns t (expr_to t c.args.self.now.left) (stmt_to t c.args.self.now.left) (here_in nu c.args.here) (out-ForTarget c.args.into.now) c.args.s.now (nu c.in-Object.cell) ks) (left_loop t (expr_to t c.args.self.now.left) (stmt_to t c.args.self.now.left))) c.in_ok-keys.ensures.did (runs_as (λ nu. ap (λ ks. Always (key_turns t (expr_to t c.args.self.now.left) (stmt_to t c.args.self.now.left) (here_in nu c.args.here) (out-ForTarget c.args.into.now) c.args.s.now (nu c.in-Object.cell) ks) (left_loop t (expr_to t c.args.self.now.left) (stmt_to t c.args.self.now.left))) (sym c.as_slice.ensures.value)) (always_done (λ nu. (left_loop t (expr_to t c.args.self.now.left) (stmt_to t c.args.self.now.left))) (λ nu. ap (λ f. (left_loop t (expr_to t c.args.self.now.left) (stmt_to t c.args.self.now.left)) (flow_in nu f)) c.in-Break.is) c.in_ok-other.ensures.ran)))

pub returns-clause-ran : goal.returns-clause-ran
returns-clause-ran g c = let t = table_in c.args.codes.now in
    runs_as (λ nu. ap (λ v. keys_of t (expr_to t c.args.self.now.left) (stmt_to t c.args.self.now.left) (here_in nu c.args.here) (out-ForTarget c.args.into.now) c.args.s.now (val_in nu v)) c.in-Object.is) (runs_on (λ nu ks. Always (key_turns t (expr_to t c.args.self.now.left) (stmt_to t c.args.self.now.left) (here_in nu c.args.here) (out-ForTarget c.args.into.now) c.args.s.now (nu c.in-Object.cell) ks) (left_loop t (expr_to t c.args.self.now.left) (stmt_to t c.args.self.now.left))) c.in_ok-keys.ensures.did (runs_as (λ nu. ap (λ ks. Always (key_turns t (expr_to t c.args.self.now.left) (stmt_to t c.args.self.now.left) (here_in nu c.args.here) (out-ForTarget c.args.into.now) c.args.s.now (nu c.in-Object.cell) ks) (left_loop t (expr_to t c.args.self.now.left) (stmt_to t c.args.self.now.left))) (sym c.as_slice.ensures.value)) (always_done (λ nu. (left_loop t (expr_to t c.args.self.now.left) (stmt_to t c.args.self.now.left))) (λ nu. passed t (expr_to t c.args.self.now.left) (stmt_to t c.args.self.now.left) nu c.in_ok-other.other c.in_default-2.not-Break) c.in_ok-other.ensures.ran)))
