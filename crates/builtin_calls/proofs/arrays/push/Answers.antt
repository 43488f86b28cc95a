use Rattle.std.proofs.Common.{ap, map, drop, ◌+◌, sym, arith, pos}
use Rattle.turk_base.specs.Values as model
use Rattle.turk_base.specs.Prog.{value}
use Rattle.turk_base.specs.BuiltIns as spec
use Rattle.value_cells.specs.Seen.{val_in}
use Rattle.value_cells.proofs.Turns.{onward_then, onward_same}
use Rattle.builtin_calls.proofs.Lists.{map_next, map_none, needs_at}
use Rattle.builtin_calls.proofs.Moves.{runs_out, onward_eq, onward_out, runs_value}
use Rattle.builtin_calls.proofs.arrays.push.Goals as goal

pub loop-value-init : goal.loop-value-init
loop-value-init g c = record { same = onward_same; more = omega arith }

pub push_one-requires-clause-this : goal.push_one-requires-clause-this
push_one-requires-clause-this g c = omega (arith, c.loop-value.invariant.more, c.requires.this)

pub push_one-requires-clause-value : goal.push_one-requires-clause-value
push_one-requires-clause-value g c =
    omega (arith, needs_at c.args.values.now c.loop-value.value-index c.value-item.result c.loop-value-test.true c.value-item.is, c.loop-value.invariant.more, c.requires.values)

pub returns-in_err-push_one-clause-did : goal.returns-in_err-push_one-clause-did
returns-in_err-push_one-clause-did g c = let i = c.loop-value.value-index in let xs = c.args.values.now in
    runs_out _ c.in_err-push_one.field-0.0 c.from_residual.result c.from_residual.ensures.1 (onward_out c.in_err-push_one.field-0.0
    (onward_then c.loop-value.invariant.same (onward_eq (λ nu. ap (spec.push (nu c.args.this)) (map_next (val_in nu) xs i c.value-item.result c.loop-value-test.true c.value-item.is))))
    (c.in_err-push_one.ensures.did.ends (λ nu _. spec.push (nu c.args.this) (map (val_in nu) (drop (i + 1) xs)))))

pub loop-value-preserved : goal.loop-value-preserved
loop-value-preserved g c = let i = c.loop-value.value-index in let xs = c.args.values.now in
    record {
      same = onward_then (onward_then c.loop-value.invariant.same (onward_eq (λ nu. ap (spec.push (nu c.args.this)) (map_next (val_in nu) xs i c.value-item.result c.loop-value-test.true c.value-item.is))))
          (c.in_ok-push_one.ensures.did.goes (λ nu _. spec.push (nu c.args.this) (map (val_in nu) (drop (i + 1) xs))));
      more = omega (arith, c.loop-value.invariant.more, c.in_ok-push_one.ensures.more);
    }

pub returns-in_err-length-clause-did : goal.returns-in_err-length-clause-did
returns-in_err-length-clause-did g c = let i = c.loop-value.value-index in let xs = c.args.values.now in
    runs_out _ c.in_err-length.field-0.0 c.from_residual-in_err-length.result c.from_residual-in_err-length.ensures.1 (onward_out c.in_err-length.field-0.0
    (onward_then c.loop-value.invariant.same (onward_eq (λ nu. ap (spec.push (nu c.args.this)) (map_none (val_in nu) xs i c.loop-value-test.false))))
    (c.in_err-length.ensures.did.ends (λ nu n. value (model.Number (pos n)))))

pub returns-clause-did : goal.returns-clause-did
returns-clause-did g c = let i = c.loop-value.value-index in let xs = c.args.values.now in
    runs_value (λ nu. model.Number (pos c.in_ok-length.length)) (λ nu. model.Number c.whole.result)
    (onward_then (onward_then c.loop-value.invariant.same (onward_eq (λ nu. ap (spec.push (nu c.args.this)) (map_none (val_in nu) xs i c.loop-value-test.false))))
    (c.in_ok-length.ensures.did.goes (λ nu n. value (model.Number (pos n)))))
    (λ nu. ap model.Number (sym c.whole.ensures))
