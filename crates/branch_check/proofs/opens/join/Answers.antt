use Rattle.std.proofs.Common.{◌≡◌, ◌∙◌, length, arith}
use Rattle.branch_check.proofs.Marks.{stays, same_steps, same_slots}
use Rattle.branch_check.proofs.Pairs.{none_left}
use Rattle.branch_check.proofs.opens.join.Goals as goal

pub returns-then-len-eq0-clause-ok : goal.returns-then-len-eq0-clause-ok
returns-then-len-eq0-clause-ok c =
    let short : length c.args.scope.now ≡ 0 = omega arith in
    rw (none_left c.args.scope.now c.args.opens.now.slots short) c.close_all.ensures.ok

pub returns-in-Err-clause-err : goal.returns-in-Err-clause-err
returns-in-Err-clause-err c =
    same_slots c.undo_from.new.opens c.args.opens.now c.shorten.new.opens c.undo_from.ensures.back c.shorten.ensures.back (c.undo_from.ensures.steps ∙ c.len-place.ensures ∙ c.args.opens.now.steps.ok.0)

pub returns-in-Err-clause-back : goal.returns-in-Err-clause-back
returns-in-Err-clause-back c =
    let long : length c.undo_from.new.opens.steps.items ≡ length c.args.opens.now.steps.items = c.undo_from.ensures.steps ∙ c.len-place.ensures ∙ c.args.opens.now.steps.ok.0 in
    λ noted. stays c.args.opens.now c.undo_from.new.opens (same_steps c.undo_from.new.opens c.args.opens.now c.shorten.new.opens c.undo_from.ensures.back c.shorten.ensures.back long)
    (same_slots c.undo_from.new.opens c.args.opens.now c.shorten.new.opens c.undo_from.ensures.back c.shorten.ensures.back long)
