use Rattle.std.proofs.Common.{◌≡◌, map, arith}
use Rattle.value_cells.specs.Seen.{val_in}
use Rattle.builtin_calls.proofs.Rows.{runs_under, row_from_char_code, row_string_of, row_error, row_type_error, row_reference_error, built_in_at, built_in_there}
use Rattle.builtin_calls.proofs.calls.on_any.Goals as goal

pub returns-in-11-clause-did : goal.returns-in-11-clause-did
returns-in-11-clause-did g c = runs_under (λ nu _. row_from_char_code c.args.which (val_in nu c.args.this.now) (map (val_in nu) c.args.args.now) c.in-11.is) c.from_char_code.ensures.did

pub returns-in-12-clause-did : goal.returns-in-12-clause-did
returns-in-12-clause-did g c = runs_under (λ nu _. row_string_of c.args.which (val_in nu c.args.this.now) (map (val_in nu) c.args.args.now) c.in-12.is) c.string_of.ensures.did

pub returns-in-13-clause-did : goal.returns-in-13-clause-did
returns-in-13-clause-did g c = runs_under (λ nu fits. row_error c.args.which (val_in nu c.args.this.now) (map (val_in nu) c.args.args.now) (nu 1) (val_in nu c.argument-first.result.now) c.in-13.is (built_in_at (g.H.Heap.seen c.args.heap.now) nu 1 c.requires.built_ins fits (omega arith)) (c.argument-first.ensures.value nu)) c.error_of.ensures.did

pub returns-in-14-clause-did : goal.returns-in-14-clause-did
returns-in-14-clause-did g c = runs_under (λ nu fits. row_type_error c.args.which (val_in nu c.args.this.now) (map (val_in nu) c.args.args.now) (nu 3) (val_in nu c.argument-first.result.now) c.in-14.is (built_in_at (g.H.Heap.seen c.args.heap.now) nu 3 c.requires.built_ins fits (omega arith)) (c.argument-first.ensures.value nu)) c.error_of-in-14.ensures.did

pub returns-clause-did : goal.returns-clause-did
returns-clause-did g c = let e : c.args.which ≡ 15 = omega (arith, c.requires.below) in runs_under (λ nu fits. row_reference_error c.args.which (val_in nu c.args.this.now) (map (val_in nu) c.args.args.now) (nu 5) (val_in nu c.argument-first.result.now) e (built_in_at (g.H.Heap.seen c.args.heap.now) nu 5 c.requires.built_ins fits (omega arith)) (c.argument-first.ensures.value nu)) c.error_of-in_default.ensures.did

pub error_of-requires : goal.error_of-requires
error_of-requires g c = built_in_there (g.H.Heap.seen c.args.heap.now) 1 c.requires.built_ins (omega arith)

pub error_of-requires-in-14 : goal.error_of-requires-in-14
error_of-requires-in-14 g c = built_in_there (g.H.Heap.seen c.args.heap.now) 3 c.requires.built_ins (omega arith)

pub error_of-requires-in_default : goal.error_of-requires-in_default
error_of-requires-in_default g c = built_in_there (g.H.Heap.seen c.args.heap.now) 5 c.requires.built_ins (omega arith)
