use Rattle.std.proofs.Common.{◌≡◌, map, arith}
use Rattle.value_cells.specs.Seen.{val_in}
use Rattle.builtin_calls.proofs.Rows.{runs_under, row_char_at, row_char_code_at, row_index_of, row_substring, row_split}
use Rattle.builtin_calls.proofs.calls.on_text.Goals as goal

pub returns-in-6-clause-did : goal.returns-in-6-clause-did
returns-in-6-clause-did g c = runs_under (λ nu _. row_char_at c.args.which c.args.this.now (map (val_in nu) c.args.args.now) (val_in nu c.argument-first.result.now) c.in-6.is (c.argument-first.ensures.value nu)) c.char_at.ensures.did

pub returns-in-7-clause-did : goal.returns-in-7-clause-did
returns-in-7-clause-did g c = runs_under (λ nu _. row_char_code_at c.args.which c.args.this.now (map (val_in nu) c.args.args.now) (val_in nu c.argument-first.result.now) c.in-7.is (c.argument-first.ensures.value nu)) (c.char_code_at.ensures.did (g.H.Heap.seen c.args.heap.now))

pub returns-in-8-clause-did : goal.returns-in-8-clause-did
returns-in-8-clause-did g c = runs_under (λ nu _. row_index_of c.args.which c.args.this.now (map (val_in nu) c.args.args.now) (val_in nu c.argument-first.result.now) (val_in nu c.argument-second.result.now) c.in-8.is (c.argument-first.ensures.value nu) (c.argument-second.ensures.value nu)) c.index_of.ensures.did

pub returns-in-9-clause-did : goal.returns-in-9-clause-did
returns-in-9-clause-did g c = runs_under (λ nu _. row_substring c.args.which c.args.this.now (map (val_in nu) c.args.args.now) (val_in nu c.argument-first.result.now) (val_in nu c.argument-second.result.now) c.in-9.is (c.argument-first.ensures.value nu) (c.argument-second.ensures.value nu)) c.substring.ensures.did

pub returns-clause-did : goal.returns-clause-did
returns-clause-did g c = let e : c.args.which ≡ 10 = omega (arith, c.requires.below) in runs_under (λ nu _. row_split c.args.which c.args.this.now (map (val_in nu) c.args.args.now) (val_in nu c.argument-first.result.now) e (c.argument-first.ensures.value nu)) c.split.ensures.did
