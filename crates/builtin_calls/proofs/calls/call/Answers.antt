use Rattle.std.proofs.Common.{map}
use Rattle.value_cells.specs.Seen.{val_in}
use Rattle.builtin_calls.proofs.Rows.{no_array, no_text, no_row, thrown, lost}
use Rattle.builtin_calls.proofs.calls.call.Goals as goal

pub returns-in_ok-not_a_function-in_default-clause-did : goal.returns-in_ok-not_a_function-in_default-clause-did
returns-in_ok-not_a_function-in_default-clause-did g c = thrown _ c.in_ok-not_a_function-in_default.field-0 c.in_ok-not_a_function-in_default.ensures
    (λ nu. no_array c.args.which c.if-which-lt6.true c.args.this.now c.in_default.not-Object nu (map (val_in nu) c.args.args.now))

pub returns-in_err-not_a_function-in_default-this-clause-did : goal.returns-in_err-not_a_function-in_default-this-clause-did
returns-in_err-not_a_function-in_default-this-clause-did g c = lost _ _ c.from_residual-in_err-not_a_function-in_default-this.result c.from_residual-in_err-not_a_function-in_default-this.ensures.1

pub returns-in_ok-not_a_function-in_default-this-clause-did : goal.returns-in_ok-not_a_function-in_default-this-clause-did
returns-in_ok-not_a_function-in_default-this-clause-did g c = thrown _ c.in_ok-not_a_function-in_default-this.field-0 c.in_ok-not_a_function-in_default-this.ensures
    (λ nu. no_text c.args.which c.if-which-lt6.false c.if-which-lt11.true c.args.this.now c.in_default-this.not-Text nu (map (val_in nu) c.args.args.now))

pub returns-in_err-not_a_function-clause-did : goal.returns-in_err-not_a_function-clause-did
returns-in_err-not_a_function-clause-did g c = lost _ _ c.from_residual-in_err-not_a_function.result c.from_residual-in_err-not_a_function.ensures.1

pub returns-clause-did : goal.returns-clause-did
returns-clause-did g c = thrown _ c.in_ok-not_a_function.field-0 c.in_ok-not_a_function.ensures
    (λ nu. no_row c.args.which c.if-which-lt16.false (val_in nu c.args.this.now) (map (val_in nu) c.args.args.now))
