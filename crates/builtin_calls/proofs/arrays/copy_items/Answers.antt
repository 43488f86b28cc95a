use Rattle.std.proofs.Common.{◌+◌, arith}
use Rattle.turk_base.specs.Prog.{Get, ask}
use Rattle.turk_base.specs.Errors.{index_text}
use Rattle.turk_base.specs.BuiltIns as spec
use Rattle.builtin_calls.proofs.Moves.{takes_out, turns_start, turn_goes, turn_out, turns_end}
use Rattle.builtin_calls.proofs.arrays.copy_items.Goals as goal

pub loop-i-init : goal.loop-i-init
loop-i-init g c = record { same = turns_start (λ nu i go. ask (Get (nu c.args.from) (index_text (c.args.low + i))) (λ v. spec.put_found (nu c.args.to) (c.args.at + i) v go)) c.args.number; more = omega arith }

pub copy_item-requires-clause-from : goal.copy_item-requires-clause-from
copy_item-requires-clause-from g c = omega (arith, c.loop-i.invariant.more, c.requires.from)

pub copy_item-requires-clause-to : goal.copy_item-requires-clause-to
copy_item-requires-clause-to g c = omega (arith, c.loop-i.invariant.more, c.requires.to)

pub returns-in_err-copy_item-clause-did : goal.returns-in_err-copy_item-clause-did
returns-in_err-copy_item-clause-did g c = takes_out _ c.from_residual.result c.from_residual.ensures.1
    (turn_out (λ nu i go. ask (Get (nu c.args.from) (index_text (c.args.low + i))) (λ v. spec.put_found (nu c.args.to) (c.args.at + i) v go)) c.args.number c.loop-i.i
    c.loop-i.invariant.same c.loop-i-test.true c.in_err-copy_item.ensures.did)

pub loop-i-preserved : goal.loop-i-preserved
loop-i-preserved g c = record {
  same = turn_goes (λ nu i go. ask (Get (nu c.args.from) (index_text (c.args.low + i))) (λ v. spec.put_found (nu c.args.to) (c.args.at + i) v go)) c.args.number c.loop-i.i
      c.loop-i.invariant.same c.loop-i-test.true c.in_ok-copy_item.ensures.did;
  more = omega (arith, c.loop-i.invariant.more, c.in_ok-copy_item.ensures.more);
}

pub returns-clause-did : goal.returns-clause-did
returns-clause-did g c = turns_end (λ nu i go. ask (Get (nu c.args.from) (index_text (c.args.low + i))) (λ v. spec.put_found (nu c.args.to) (c.args.at + i) v go)) c.args.number c.loop-i.i
    c.loop-i.invariant.same c.loop-i-test.false
