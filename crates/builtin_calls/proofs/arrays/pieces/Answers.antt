use Rattle.std.proofs.Common.{ap, map, drop, ◌+◌, arith}
use Rattle.turk_base.specs.BuiltIns as spec
use Rattle.value_cells.specs.Seen.{val_in}
use Rattle.builtin_calls.proofs.Lists.{map_next, map_none, needs_at}
use Rattle.builtin_calls.proofs.Moves.{takes_out, leads_then, leads_out, leads_same, gives_on, leaves_on}
use Rattle.builtin_calls.proofs.arrays.pieces.Goals as goal

pub returns-in_err-next-clause-did : goal.returns-in_err-next-clause-did
returns-in_err-next-clause-did g c = takes_out _ c.from_residual.result c.from_residual.ensures.1
    (leaves_on c.in_err-next.ensures.did (λ nu next. spec.pieces (nu c.args.out) (map (val_in nu) c.args.values.now) next))

pub loop-value-init : goal.loop-value-init
loop-value-init g c = record {
  same = gives_on c.in_ok-next.ensures.did (λ nu next. spec.pieces (nu c.args.out) (map (val_in nu) c.args.values.now) next);
  more = omega (arith, c.in_ok-next.ensures.more);
  small = c.in_ok-next.ensures.small;
}

pub add_piece-requires-in-loop-value-clause-value : goal.add_piece-requires-in-loop-value-clause-value
add_piece-requires-in-loop-value-clause-value g c =
    omega (arith, needs_at c.args.values.now c.loop-value.value-index c.value-item.result c.loop-value-test.true c.value-item.is, c.loop-value.invariant.more, c.requires.values)

pub returns-in_err-next-2-clause-did : goal.returns-in_err-next-2-clause-did
returns-in_err-next-2-clause-did g c = let i = c.loop-value.value-index in let xs = c.args.values.now in
    takes_out _ c.from_residual-in_err-next-2.result c.from_residual-in_err-next-2.ensures.1
    (leads_out (leads_then c.loop-value.invariant.same (leads_same (λ nu go. ap (λ vs. spec.pieces (nu c.args.out) vs c.loop-value.next go) (map_next (val_in nu) xs i c.value-item.result c.loop-value-test.true c.value-item.is))))
    (leaves_on c.in_err-next-2.ensures.did (λ nu next. spec.pieces (nu c.args.out) (map (val_in nu) (drop (i + 1) xs)) next)))

pub loop-value-preserved : goal.loop-value-preserved
loop-value-preserved g c = let i = c.loop-value.value-index in let xs = c.args.values.now in
    record {
      same = leads_then (leads_then c.loop-value.invariant.same (leads_same (λ nu go. ap (λ vs. spec.pieces (nu c.args.out) vs c.loop-value.next go) (map_next (val_in nu) xs i c.value-item.result c.loop-value-test.true c.value-item.is))))
          (gives_on c.in_ok-next-2.ensures.did (λ nu next. spec.pieces (nu c.args.out) (map (val_in nu) (drop (i + 1) xs)) next));
      more = omega (arith, c.loop-value.invariant.more, c.in_ok-next-2.ensures.more);
      small = c.in_ok-next-2.ensures.small;
    }

pub returns-clause-did : goal.returns-clause-did
returns-clause-did g c =
    leads_then c.loop-value.invariant.same (leads_same (λ nu go. ap (λ vs. spec.pieces (nu c.args.out) vs c.loop-value.next go) (map_none (val_in nu) c.args.values.now c.loop-value.value-index c.loop-value-test.false)))
