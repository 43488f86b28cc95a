use Rattle.std.proofs.Common.{refl, length, arith}
use Rattle.std.proofs.lemmas.Option.{slice_get_read}
use Rattle.run_data.specs.Elements.{counted}
use Rattle.run_data.proofs.Counting.{count_on, count_out}
use Rattle.run_data.proofs.elements.are_elements.Goals as goal

pub returns-in-None : goal.returns-in-None
returns-in-None c =
    let ks = c.args.keys.now in
    let i = c.loop-place.place in
    let k = c.index-keys-place.result in
    let here = slice_get_read ks (length ks) i k refl (omega (arith, c.loop-place-test.true)) c.index-keys-place.is in
    count_out c.args.many c.loop-place.found i ks k here (counted c.args.many 0 ks) c.loop-place.invariant.left c.in-None.ensures.count

pub loop-place-preserved : goal.loop-place-preserved
loop-place-preserved c =
    let ks = c.args.keys.now in
    let i = c.loop-place.place in
    let k = c.index-keys-place.result in
    let here = slice_get_read ks (length ks) i k refl (omega (arith, c.loop-place-test.true)) c.index-keys-place.is in
    record {
      few = omega (arith, c.loop-place.invariant.few, c.in-Some.ensures.few);
      left = count_on c.args.many c.loop-place.found i ks k here (counted c.args.many 0 ks) c.loop-place.invariant.left c.in-Some.more c.in-Some.ensures.count;
    }
