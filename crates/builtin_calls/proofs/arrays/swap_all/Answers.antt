use Rattle.std.proofs.Common.{ℕ, ◌-◌, ◌/◌, arith}
use Rattle.turk_base.specs.Prog.{Get, ask}
use Rattle.turk_base.specs.Errors.{index_text}
use Rattle.turk_base.specs.BuiltIns as spec
use Rattle.value_cells.specs.Seen.{Naming}
use Rattle.builtin_calls.specs.Gives.{Step}
use Rattle.builtin_calls.proofs.Moves.{takes_out, turns_start, turn_goes, turn_out, turns_end}
use Rattle.builtin_calls.proofs.arrays.swap_all.Goals as goal

abbrev turn : ℕ → ℕ → Naming → ℕ → Step (Unit {0})
turn a n nu i go = ask (Get (nu a) (index_text i)) (λ lower. ask (Get (nu a) (index_text (n - 1 - i))) (λ upper. spec.swap (nu a) i (n - 1 - i) lower upper go))

pub loop-i-init : goal.loop-i-init
loop-i-init g c = record { same = turns_start (turn c.args.cell c.args.length) (c.args.length / 2); more = omega arith }

pub swap-requires : goal.swap-requires
swap-requires g c = omega (arith, c.loop-i.invariant.more, c.requires)

pub returns-in_err-swap-clause-did : goal.returns-in_err-swap-clause-did
returns-in_err-swap-clause-did g c = takes_out _ c.from_residual.result c.from_residual.ensures.1
    (turn_out (turn c.args.cell c.args.length) (c.args.length / 2) c.loop-i.i c.loop-i.invariant.same c.loop-i-test.true c.in_err-swap.ensures.did)

pub loop-i-preserved : goal.loop-i-preserved
loop-i-preserved g c = record {
  same = turn_goes (turn c.args.cell c.args.length) (c.args.length / 2) c.loop-i.i c.loop-i.invariant.same c.loop-i-test.true c.in_ok-swap.ensures.did;
  more = omega (arith, c.loop-i.invariant.more, c.in_ok-swap.ensures.more);
}

pub returns-clause-did : goal.returns-clause-did
returns-clause-did g c = turns_end (turn c.args.cell c.args.length) (c.args.length / 2) c.loop-i.i c.loop-i.invariant.same c.loop-i-test.false
