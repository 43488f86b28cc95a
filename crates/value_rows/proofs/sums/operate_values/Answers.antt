use Rattle.run_host.specs.Moment.{apart}
use Rattle.run_host.proofs.Along.{anywhere}
use Rattle.std.specs.Prelude.{Ok, not}
use Rattle.std.proofs.Common.{ap, refl}
use Rattle.turk_base.specs.Values.{Truth}
use Rattle.turk_base.specs.Operators.{and_then, numeric, difference, product, quotient, remainder, bitwise, shift_left, shift_right, shift_right_unsigned, bits_and, bits_or, bits_xor, ordered, less, greater, less_or_equal, greater_or_equal, same, equal}
use Rattle.js_tree.specs.Operate.{operate_values}
use Rattle.value_cells.specs.Seen.{val_in}
use Rattle.host_steps.proofs.Made.{runs_as}
use Rattle.value_rows.proofs.sums.operate_values.Goals as goal

pub returns-in-Add-clause-ran : goal.returns-in-Add-clause-ran
returns-in-Add-clause-ran g c = runs_as (λ nu. ap (λ o. operate_values o (val_in nu c.args.x.now) (val_in nu c.args.y.now)) c.in-Add.is) c.add.ensures.ran

pub returns-in-In-clause-ran : goal.returns-in-In-clause-ran
returns-in-In-clause-ran g c = runs_as (λ nu. ap (λ o. operate_values o (val_in nu c.args.x.now) (val_in nu c.args.y.now)) c.in-In.is) c.in_object.ensures.ran

pub returns-in-InstanceOf-clause-ran : goal.returns-in-InstanceOf-clause-ran
returns-in-InstanceOf-clause-ran g c = runs_as (λ nu. ap (λ o. operate_values o (val_in nu c.args.x.now) (val_in nu c.args.y.now)) c.in-InstanceOf.is) c.instance.ensures.ran

pub returns-in-Subtract-clause-ran : goal.returns-in-Subtract-clause-ran
returns-in-Subtract-clause-ran g c = runs_as (λ nu. ap (λ o. operate_values o (val_in nu c.args.x.now) (val_in nu c.args.y.now)) c.in-Subtract.is) (anywhere (g.H.Host.moment c.args.host.now) (c.answered.ensures.ran (apart (g.H.Host.moment c.args.host.now)) (λ nu. numeric difference (val_in nu c.args.x.now) (val_in nu c.args.y.now)) (λ nu l. c.difference.ensures.value nu)))

pub returns-in-Subtract-clause-thrown : goal.returns-in-Subtract-clause-thrown
returns-in-Subtract-clause-thrown g c = c.answered.ensures.thrown _

pub returns-in-Subtract-clause-exists : goal.returns-in-Subtract-clause-exists
returns-in-Subtract-clause-exists g c = c.answered.ensures.exists _ (c.difference.ensures.needs)

pub returns-in-Multiply-clause-ran : goal.returns-in-Multiply-clause-ran
returns-in-Multiply-clause-ran g c = runs_as (λ nu. ap (λ o. operate_values o (val_in nu c.args.x.now) (val_in nu c.args.y.now)) c.in-Multiply.is) (anywhere (g.H.Host.moment c.args.host.now) (c.answered-in-Multiply.ensures.ran (apart (g.H.Host.moment c.args.host.now)) (λ nu. numeric product (val_in nu c.args.x.now) (val_in nu c.args.y.now)) (λ nu l. c.product.ensures.value nu)))

pub returns-in-Multiply-clause-thrown : goal.returns-in-Multiply-clause-thrown
returns-in-Multiply-clause-thrown g c = c.answered-in-Multiply.ensures.thrown _

pub returns-in-Multiply-clause-exists : goal.returns-in-Multiply-clause-exists
returns-in-Multiply-clause-exists g c = c.answered-in-Multiply.ensures.exists _ (c.product.ensures.needs)

pub returns-in-Divide-clause-ran : goal.returns-in-Divide-clause-ran
returns-in-Divide-clause-ran g c = runs_as (λ nu. ap (λ o. operate_values o (val_in nu c.args.x.now) (val_in nu c.args.y.now)) c.in-Divide.is) (anywhere (g.H.Host.moment c.args.host.now) (c.answered-in-Divide.ensures.ran (apart (g.H.Host.moment c.args.host.now)) (λ nu. numeric quotient (val_in nu c.args.x.now) (val_in nu c.args.y.now)) (λ nu l. c.quotient.ensures.value nu)))

pub returns-in-Divide-clause-thrown : goal.returns-in-Divide-clause-thrown
returns-in-Divide-clause-thrown g c = c.answered-in-Divide.ensures.thrown _

pub returns-in-Divide-clause-exists : goal.returns-in-Divide-clause-exists
returns-in-Divide-clause-exists g c = c.answered-in-Divide.ensures.exists _ (c.quotient.ensures.needs)

pub returns-in-Remainder-clause-ran : goal.returns-in-Remainder-clause-ran
returns-in-Remainder-clause-ran g c = runs_as (λ nu. ap (λ o. operate_values o (val_in nu c.args.x.now) (val_in nu c.args.y.now)) c.in-Remainder.is) (anywhere (g.H.Host.moment c.args.host.now) (c.answered-in-Remainder.ensures.ran (apart (g.H.Host.moment c.args.host.now)) (λ nu. numeric remainder (val_in nu c.args.x.now) (val_in nu c.args.y.now)) (λ nu l. c.remainder.ensures.value nu)))

pub returns-in-Remainder-clause-thrown : goal.returns-in-Remainder-clause-thrown
returns-in-Remainder-clause-thrown g c = c.answered-in-Remainder.ensures.thrown _

pub returns-in-Remainder-clause-exists : goal.returns-in-Remainder-clause-exists
returns-in-Remainder-clause-exists g c = c.answered-in-Remainder.ensures.exists _ (c.remainder.ensures.needs)

pub returns-in-ShiftLeft-clause-ran : goal.returns-in-ShiftLeft-clause-ran
returns-in-ShiftLeft-clause-ran g c = runs_as (λ nu. ap (λ o. operate_values o (val_in nu c.args.x.now) (val_in nu c.args.y.now)) c.in-ShiftLeft.is) (anywhere (g.H.Host.moment c.args.host.now) (c.answered-in-ShiftLeft.ensures.ran (apart (g.H.Host.moment c.args.host.now)) (λ nu. bitwise shift_left (val_in nu c.args.x.now) (val_in nu c.args.y.now)) (λ nu l. c.shift_left.ensures.value nu)))

pub returns-in-ShiftLeft-clause-thrown : goal.returns-in-ShiftLeft-clause-thrown
returns-in-ShiftLeft-clause-thrown g c = c.answered-in-ShiftLeft.ensures.thrown _

pub returns-in-ShiftLeft-clause-exists : goal.returns-in-ShiftLeft-clause-exists
returns-in-ShiftLeft-clause-exists g c = c.answered-in-ShiftLeft.ensures.exists _ (c.shift_left.ensures.needs)

pub returns-in-ShiftRight-clause-ran : goal.returns-in-ShiftRight-clause-ran
returns-in-ShiftRight-clause-ran g c = runs_as (λ nu. ap (λ o. operate_values o (val_in nu c.args.x.now) (val_in nu c.args.y.now)) c.in-ShiftRight.is) (anywhere (g.H.Host.moment c.args.host.now) (c.answered-in-ShiftRight.ensures.ran (apart (g.H.Host.moment c.args.host.now)) (λ nu. bitwise shift_right (val_in nu c.args.x.now) (val_in nu c.args.y.now)) (λ nu l. c.shift_right.ensures.value nu)))

pub returns-in-ShiftRight-clause-thrown : goal.returns-in-ShiftRight-clause-thrown
returns-in-ShiftRight-clause-thrown g c = c.answered-in-ShiftRight.ensures.thrown _

pub returns-in-ShiftRight-clause-exists : goal.returns-in-ShiftRight-clause-exists
returns-in-ShiftRight-clause-exists g c = c.answered-in-ShiftRight.ensures.exists _ (c.shift_right.ensures.needs)

pub returns-in-ShiftRightZero-clause-ran : goal.returns-in-ShiftRightZero-clause-ran
returns-in-ShiftRightZero-clause-ran g c = runs_as (λ nu. ap (λ o. operate_values o (val_in nu c.args.x.now) (val_in nu c.args.y.now)) c.in-ShiftRightZero.is) (anywhere (g.H.Host.moment c.args.host.now) (c.answered-in-ShiftRightZero.ensures.ran (apart (g.H.Host.moment c.args.host.now)) (λ nu. bitwise shift_right_unsigned (val_in nu c.args.x.now) (val_in nu c.args.y.now)) (λ nu l. c.shift_right_zero.ensures.value nu)))

pub returns-in-ShiftRightZero-clause-thrown : goal.returns-in-ShiftRightZero-clause-thrown
returns-in-ShiftRightZero-clause-thrown g c = c.answered-in-ShiftRightZero.ensures.thrown _

pub returns-in-ShiftRightZero-clause-exists : goal.returns-in-ShiftRightZero-clause-exists
returns-in-ShiftRightZero-clause-exists g c = c.answered-in-ShiftRightZero.ensures.exists _ (c.shift_right_zero.ensures.needs)

pub returns-in-BitAnd-clause-ran : goal.returns-in-BitAnd-clause-ran
returns-in-BitAnd-clause-ran g c = runs_as (λ nu. ap (λ o. operate_values o (val_in nu c.args.x.now) (val_in nu c.args.y.now)) c.in-BitAnd.is) (anywhere (g.H.Host.moment c.args.host.now) (c.answered-in-BitAnd.ensures.ran (apart (g.H.Host.moment c.args.host.now)) (λ nu. bitwise bits_and (val_in nu c.args.x.now) (val_in nu c.args.y.now)) (λ nu l. c.bit_and.ensures.value nu)))

pub returns-in-BitAnd-clause-thrown : goal.returns-in-BitAnd-clause-thrown
returns-in-BitAnd-clause-thrown g c = c.answered-in-BitAnd.ensures.thrown _

pub returns-in-BitAnd-clause-exists : goal.returns-in-BitAnd-clause-exists
returns-in-BitAnd-clause-exists g c = c.answered-in-BitAnd.ensures.exists _ (c.bit_and.ensures.needs)

pub returns-in-BitOr-clause-ran : goal.returns-in-BitOr-clause-ran
returns-in-BitOr-clause-ran g c = runs_as (λ nu. ap (λ o. operate_values o (val_in nu c.args.x.now) (val_in nu c.args.y.now)) c.in-BitOr.is) (anywhere (g.H.Host.moment c.args.host.now) (c.answered-in-BitOr.ensures.ran (apart (g.H.Host.moment c.args.host.now)) (λ nu. bitwise bits_or (val_in nu c.args.x.now) (val_in nu c.args.y.now)) (λ nu l. c.bit_or.ensures.value nu)))

pub returns-in-BitOr-clause-thrown : goal.returns-in-BitOr-clause-thrown
returns-in-BitOr-clause-thrown g c = c.answered-in-BitOr.ensures.thrown _

pub returns-in-BitOr-clause-exists : goal.returns-in-BitOr-clause-exists
returns-in-BitOr-clause-exists g c = c.answered-in-BitOr.ensures.exists _ (c.bit_or.ensures.needs)

pub returns-in-BitXor-clause-ran : goal.returns-in-BitXor-clause-ran
returns-in-BitXor-clause-ran g c = runs_as (λ nu. ap (λ o. operate_values o (val_in nu c.args.x.now) (val_in nu c.args.y.now)) c.in-BitXor.is) (anywhere (g.H.Host.moment c.args.host.now) (c.answered-in-BitXor.ensures.ran (apart (g.H.Host.moment c.args.host.now)) (λ nu. bitwise bits_xor (val_in nu c.args.x.now) (val_in nu c.args.y.now)) (λ nu l. c.bit_xor.ensures.value nu)))

pub returns-in-BitXor-clause-thrown : goal.returns-in-BitXor-clause-thrown
returns-in-BitXor-clause-thrown g c = c.answered-in-BitXor.ensures.thrown _

pub returns-in-BitXor-clause-exists : goal.returns-in-BitXor-clause-exists
returns-in-BitXor-clause-exists g c = c.answered-in-BitXor.ensures.exists _ (c.bit_xor.ensures.needs)

pub returns-in-Less-clause-ran : goal.returns-in-Less-clause-ran
returns-in-Less-clause-ran g c = runs_as (λ nu. ap (λ o. operate_values o (val_in nu c.args.x.now) (val_in nu c.args.y.now)) c.in-Less.is) (anywhere (g.H.Host.moment c.args.host.now) (c.answered-in-Less.ensures.ran (apart (g.H.Host.moment c.args.host.now)) (λ nu. ordered less (val_in nu c.args.x.now) (val_in nu c.args.y.now)) (λ nu l. c.less.ensures.value nu)))

pub returns-in-Less-clause-thrown : goal.returns-in-Less-clause-thrown
returns-in-Less-clause-thrown g c = c.answered-in-Less.ensures.thrown _

pub returns-in-Less-clause-exists : goal.returns-in-Less-clause-exists
returns-in-Less-clause-exists g c = c.answered-in-Less.ensures.exists _ (c.less.ensures.needs)

pub returns-in-Greater-clause-ran : goal.returns-in-Greater-clause-ran
returns-in-Greater-clause-ran g c = runs_as (λ nu. ap (λ o. operate_values o (val_in nu c.args.x.now) (val_in nu c.args.y.now)) c.in-Greater.is) (anywhere (g.H.Host.moment c.args.host.now) (c.answered-in-Greater.ensures.ran (apart (g.H.Host.moment c.args.host.now)) (λ nu. ordered greater (val_in nu c.args.x.now) (val_in nu c.args.y.now)) (λ nu l. c.greater.ensures.value nu)))

pub returns-in-Greater-clause-thrown : goal.returns-in-Greater-clause-thrown
returns-in-Greater-clause-thrown g c = c.answered-in-Greater.ensures.thrown _

pub returns-in-Greater-clause-exists : goal.returns-in-Greater-clause-exists
returns-in-Greater-clause-exists g c = c.answered-in-Greater.ensures.exists _ (c.greater.ensures.needs)

pub returns-in-LessOrEqual-clause-ran : goal.returns-in-LessOrEqual-clause-ran
returns-in-LessOrEqual-clause-ran g c = runs_as (λ nu. ap (λ o. operate_values o (val_in nu c.args.x.now) (val_in nu c.args.y.now)) c.in-LessOrEqual.is) (anywhere (g.H.Host.moment c.args.host.now) (c.answered-in-LessOrEqual.ensures.ran (apart (g.H.Host.moment c.args.host.now)) (λ nu. ordered less_or_equal (val_in nu c.args.x.now) (val_in nu c.args.y.now)) (λ nu l. c.less_or_equal.ensures.value nu)))

pub returns-in-LessOrEqual-clause-thrown : goal.returns-in-LessOrEqual-clause-thrown
returns-in-LessOrEqual-clause-thrown g c = c.answered-in-LessOrEqual.ensures.thrown _

pub returns-in-LessOrEqual-clause-exists : goal.returns-in-LessOrEqual-clause-exists
returns-in-LessOrEqual-clause-exists g c = c.answered-in-LessOrEqual.ensures.exists _ (c.less_or_equal.ensures.needs)

pub returns-in-GreaterOrEqual-clause-ran : goal.returns-in-GreaterOrEqual-clause-ran
returns-in-GreaterOrEqual-clause-ran g c = runs_as (λ nu. ap (λ o. operate_values o (val_in nu c.args.x.now) (val_in nu c.args.y.now)) c.in-GreaterOrEqual.is) (anywhere (g.H.Host.moment c.args.host.now) (c.answered-in-GreaterOrEqual.ensures.ran (apart (g.H.Host.moment c.args.host.now)) (λ nu. ordered greater_or_equal (val_in nu c.args.x.now) (val_in nu c.args.y.now)) (λ nu l. c.greater_or_equal.ensures.value nu)))

pub returns-in-GreaterOrEqual-clause-thrown : goal.returns-in-GreaterOrEqual-clause-thrown
returns-in-GreaterOrEqual-clause-thrown g c = c.answered-in-GreaterOrEqual.ensures.thrown _

pub returns-in-GreaterOrEqual-clause-exists : goal.returns-in-GreaterOrEqual-clause-exists
returns-in-GreaterOrEqual-clause-exists g c = c.answered-in-GreaterOrEqual.ensures.exists _ (c.greater_or_equal.ensures.needs)

pub returns-in-Equal-clause-ran : goal.returns-in-Equal-clause-ran
returns-in-Equal-clause-ran g c = runs_as (λ nu. ap (λ o. operate_values o (val_in nu c.args.x.now) (val_in nu c.args.y.now)) c.in-Equal.is) (anywhere (g.H.Host.moment c.args.host.now) (c.answered-in-Equal.ensures.ran (apart (g.H.Host.moment c.args.host.now)) (λ nu. and_then (equal (val_in nu c.args.x.now) (val_in nu c.args.y.now)) (λ b. Ok (Truth b))) (λ nu l. c.equals.ensures.value nu l)))

pub returns-in-Equal-clause-thrown : goal.returns-in-Equal-clause-thrown
returns-in-Equal-clause-thrown g c = c.answered-in-Equal.ensures.thrown _

pub returns-in-Equal-clause-exists : goal.returns-in-Equal-clause-exists
returns-in-Equal-clause-exists g c = c.answered-in-Equal.ensures.exists _ (c.equals.ensures.needs)

pub returns-in-NotEqual-clause-ran : goal.returns-in-NotEqual-clause-ran
returns-in-NotEqual-clause-ran g c = runs_as (λ nu. ap (λ o. operate_values o (val_in nu c.args.x.now) (val_in nu c.args.y.now)) c.in-NotEqual.is) (anywhere (g.H.Host.moment c.args.host.now) (c.answered-in-NotEqual.ensures.ran (apart (g.H.Host.moment c.args.host.now)) (λ nu. and_then (equal (val_in nu c.args.x.now) (val_in nu c.args.y.now)) (λ b. Ok (Truth (not b)))) (λ nu l. c.differs.ensures.value nu l)))

pub returns-in-NotEqual-clause-thrown : goal.returns-in-NotEqual-clause-thrown
returns-in-NotEqual-clause-thrown g c = c.answered-in-NotEqual.ensures.thrown _

pub returns-in-NotEqual-clause-exists : goal.returns-in-NotEqual-clause-exists
returns-in-NotEqual-clause-exists g c = c.answered-in-NotEqual.ensures.exists _ (c.differs.ensures.needs)

pub returns-in-Same-clause-ran : goal.returns-in-Same-clause-ran
returns-in-Same-clause-ran g c = runs_as (λ nu. ap (λ o. operate_values o (val_in nu c.args.x.now) (val_in nu c.args.y.now)) c.in-Same.is) (anywhere (g.H.Host.moment c.args.host.now) (c.answered-in-Same.ensures.ran (apart (g.H.Host.moment c.args.host.now)) (λ nu. Ok (Truth (same (val_in nu c.args.x.now) (val_in nu c.args.y.now)))) (λ nu l. ap (λ b. Ok (Truth b)) (c.same.ensures nu l))))

pub returns-in-Same-clause-thrown : goal.returns-in-Same-clause-thrown
returns-in-Same-clause-thrown g c = c.answered-in-Same.ensures.thrown _

pub returns-in-Same-clause-exists : goal.returns-in-Same-clause-exists
returns-in-Same-clause-exists g c = c.answered-in-Same.ensures.exists _ (refl)

pub returns-in-NotSame-clause-ran : goal.returns-in-NotSame-clause-ran
returns-in-NotSame-clause-ran g c = runs_as (λ nu. ap (λ o. operate_values o (val_in nu c.args.x.now) (val_in nu c.args.y.now)) c.in-NotSame.is) (anywhere (g.H.Host.moment c.args.host.now) (c.answered-in-NotSame.ensures.ran (apart (g.H.Host.moment c.args.host.now)) (λ nu. Ok (Truth (not (same (val_in nu c.args.x.now) (val_in nu c.args.y.now))))) (λ nu l. ap (λ b. Ok (Truth (not b))) (c.same-in-NotSame.ensures nu l))))

pub returns-in-NotSame-clause-thrown : goal.returns-in-NotSame-clause-thrown
returns-in-NotSame-clause-thrown g c = c.answered-in-NotSame.ensures.thrown _

pub returns-in-NotSame-clause-exists : goal.returns-in-NotSame-clause-exists
returns-in-NotSame-clause-exists g c = c.answered-in-NotSame.ensures.exists _ (refl)
