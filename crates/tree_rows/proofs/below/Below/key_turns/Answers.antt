use Rattle.js_tree.specs.Rows.{expr_to, stmt_to}
use Rattle.js_tree.specs.declared.ForTarget.{out-ForTarget}
use Rattle.run_host.proofs.Exits.{flow_exit}
use Rattle.run_host.proofs.Sequence.{onward_same}
use Rattle.run_host.specs.Told.{here_in}
use Rattle.std.proofs.Common.{arith}
use Rattle.tree_rows.proofs.Keys.{key_ends, key_next, key_out, keys_over}
use Rattle.tree_rows.specs.Codes.{table_in}
use Rattle.tree_rows.proofs.below.Below.key_turns.Goals as goal

pub loop-key-init : goal.loop-key-init
loop-key-init g c = record { rest = onward_same; more = omega arith; sound = c.requires.sound }

pub returns-in_err-other-clause-ran : goal.returns-in_err-other-clause-ran
returns-in_err-other-clause-ran g c = let t = table_in c.args.codes.now in
    flow_exit _ _ c.from_residual.ensures.1 (key_out t (expr_to t c.args.self.now.left) (stmt_to t c.args.self.now.left) (λ nu. here_in nu c.args.here) (out-ForTarget c.args.into.now) c.args.s.now c.args.cell c.args.keys.now c.loop-key.key-index c.key-item.result _ c.loop-key-test.true c.key-item.is c.loop-key.invariant.rest c.in_err-other.ensures.ran)

pub returns-in_default-clause-ran : goal.returns-in_default-clause-ran
returns-in_default-clause-ran g c = let t = table_in c.args.codes.now in
    key_ends t (expr_to t c.args.self.now.left) (stmt_to t c.args.self.now.left) (λ nu. here_in nu c.args.here) (out-ForTarget c.args.into.now) c.args.s.now c.args.cell c.args.keys.now c.loop-key.key-index c.key-item.result _ c.loop-key-test.true c.key-item.is c.in_default.not-Normal c.loop-key.invariant.rest c.in_ok-other.ensures.ran

pub loop-key-preserved : goal.loop-key-preserved
loop-key-preserved g c = let t = table_in c.args.codes.now in record {
  rest = key_next t (expr_to t c.args.self.now.left) (stmt_to t c.args.self.now.left) (λ nu. here_in nu c.args.here) (out-ForTarget c.args.into.now) c.args.s.now c.args.cell c.args.keys.now c.loop-key.key-index c.key-item.result _ c.loop-key-test.true c.key-item.is c.in-Normal.is c.loop-key.invariant.rest c.in_ok-other.ensures.ran;
  more = omega (arith, c.loop-key.invariant.more, c.in_ok-other.ensures.more);
  sound = c.in_ok-other.ensures.sound;
}

pub returns-clause-ran : goal.returns-clause-ran
returns-clause-ran g c = let t = table_in c.args.codes.now in
    keys_over t (expr_to t c.args.self.now.left) (stmt_to t c.args.self.now.left) (λ nu. here_in nu c.args.here) (out-ForTarget c.args.into.now) c.args.s.now c.args.cell c.args.keys.now c.loop-key.key-index c.loop-key-test.false c.loop-key.invariant.rest
