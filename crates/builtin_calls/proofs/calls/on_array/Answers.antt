use Rattle.std.proofs.Common.{◌≡◌, map, arith}
use Rattle.value_cells.specs.Seen.{val_in}
use Rattle.builtin_calls.proofs.Rows.{runs_under, row_push, row_pop, row_join, row_concat, row_slice, row_reverse}
use Rattle.builtin_calls.proofs.calls.on_array.Goals as goal

pub returns-in-0-clause-did : goal.returns-in-0-clause-did
returns-in-0-clause-did g c = runs_under (λ nu _. row_push c.args.which (nu c.args.this) (map (val_in nu) c.args.args.now) c.in-0.is) c.push.ensures.did

pub returns-in-1-clause-did : goal.returns-in-1-clause-did
returns-in-1-clause-did g c = runs_under (λ nu _. row_pop c.args.which (nu c.args.this) (map (val_in nu) c.args.args.now) c.in-1.is) c.pop.ensures.did

pub returns-in-2-clause-did : goal.returns-in-2-clause-did
returns-in-2-clause-did g c = runs_under (λ nu _. row_join c.args.which (nu c.args.this) (map (val_in nu) c.args.args.now) (val_in nu c.argument-first.result.now) c.in-2.is (c.argument-first.ensures.value nu)) c.join.ensures.did

pub returns-in-3-clause-did : goal.returns-in-3-clause-did
returns-in-3-clause-did g c = runs_under (λ nu _. row_concat c.args.which (nu c.args.this) (map (val_in nu) c.args.args.now) c.in-3.is) c.concat.ensures.did

pub returns-in-4-clause-did : goal.returns-in-4-clause-did
returns-in-4-clause-did g c = runs_under (λ nu _. row_slice c.args.which (nu c.args.this) (map (val_in nu) c.args.args.now) (val_in nu c.argument-first.result.now) (val_in nu c.argument-second.result.now) c.in-4.is (c.argument-first.ensures.value nu) (c.argument-second.ensures.value nu)) c.slice.ensures.did

pub returns-clause-did : goal.returns-clause-did
returns-clause-did g c = let e : c.args.which ≡ 5 = omega (arith, c.requires.which) in runs_under (λ nu _. row_reverse c.args.which (nu c.args.this) (map (val_in nu) c.args.args.now) e) c.reverse.ensures.did
