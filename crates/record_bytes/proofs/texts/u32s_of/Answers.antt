use Rattle.std.proofs.Common.{◌≡◌, ◌++◌, ◌∷◌, []}
use Rattle.std.specs.Int.{w32}
use Rattle.std.proofs.lemmas.Result.{err_from_is_err_and}
use Rattle.record_bytes.specs.Reading.{number_at, numbers_at}
use Rattle.record_bytes.proofs.Loops.{goes_on, ends, is_done, numbers_counted}
use Rattle.record_bytes.proofs.texts.u32s_of.Goals as goal

pub returns-in_err-number : goal.returns-in_err-number
returns-in_err-number c =
    let p = err_from_is_err_and c.from_residual.result c.from_residual.ensures.1 in
    rw (p.1, p.2) (ends (number_at w32) (numbers_at w32) (numbers_counted w32) c.in_err-number.field-0.0 c.loop-i.numbers.items c.args.count c.loop-i.i c.loop-i.rest.now (numbers_at w32 c.args.count c.args.bytes.now) c.loop-i-test.true c.in_err-number.ensures c.loop-i.invariant)

pub loop-i-preserved : goal.loop-i-preserved
loop-i-preserved c =
    let n = c.in_ok-number.number in
    let e : c.push.new.self.items ≡ c.loop-i.numbers.items ++ n ∷ [] = c.in_ok-push.ensures.items in
    rw e (goes_on (number_at w32) (numbers_at w32) (numbers_counted w32) c.loop-i.numbers.items c.args.count c.loop-i.i c.loop-i.rest.now n c.in_ok-number.after.now (numbers_at w32 c.args.count c.args.bytes.now) c.loop-i-test.true c.in_ok-number.ensures c.loop-i.invariant)

pub returns : goal.returns
returns c = is_done (number_at w32) (numbers_at w32) (numbers_counted w32) c.loop-i.numbers.items c.args.count c.loop-i.i c.loop-i.rest.now (numbers_at w32 c.args.count c.args.bytes.now) c.loop-i-test.false c.loop-i.invariant
