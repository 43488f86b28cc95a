use Rattle.std.proofs.Common.{◌≡◌, ap, ◌∙◌, ◌<◌, ◌+◌, suc, length, arith}
use Rattle.branch_check.specs.Numbers.{joined_at}
use Rattle.branch_check.proofs.Marks.{leads_on}
use Rattle.branch_check.proofs.Pairs.{joined_first, joined_all, joined_next, length-joined_first}
use Rattle.branch_check.proofs.opens.shorten.Goals as goal

pub shorten_at-requires-clause-within : goal.shorten_at-requires-clause-within
shorten_at-requires-clause-within c =
    let long : length c.loop-place.opens.slots ≡ length c.args.opens.now.slots =
    ap length c.loop-place.invariant.0 ∙ length-joined_first c.args.scope.now c.loop-place.place c.args.opens.now.slots c.requires in
    let within : c.loop-place.place < length c.loop-place.opens.slots = omega (arith, long, c.len-place-end.ensures.len) in
    within

pub returns-in_err-shorten_at-clause-back : goal.returns-in_err-shorten_at-clause-back
returns-in_err-shorten_at-clause-back c = leads_on c.args.opens.now c.loop-place.opens c.shorten_at.new.opens c.loop-place.invariant.1 c.shorten_at.ensures.back

pub loop-place-preserved : goal.loop-place-preserved
loop-place-preserved c =
    let next : suc c.loop-place.place ≡ c.loop-place.place + 1 = omega arith in (
      c.in_ok-shorten_at.ensures.ok ∙ ap (joined_at c.args.scope.now c.loop-place.place) c.loop-place.invariant.0 ∙ joined_next c.args.scope.now c.loop-place.place c.args.opens.now.slots c.requires
          ∙ ap (λ n. joined_first c.args.scope.now n c.args.opens.now.slots) next,
      leads_on c.args.opens.now c.loop-place.opens c.shorten_at.new.opens c.loop-place.invariant.1 c.shorten_at.ensures.back,
    )

pub returns-clause-ok : goal.returns-clause-ok
returns-clause-ok c =
    let all : c.loop-place.place ≡ length c.args.opens.now.slots = omega (arith, c.len-place-end.ensures.len) in
    c.loop-place.invariant.0 ∙ ap (λ n. joined_first c.args.scope.now n c.args.opens.now.slots) all ∙ joined_all c.args.scope.now c.args.opens.now.slots
