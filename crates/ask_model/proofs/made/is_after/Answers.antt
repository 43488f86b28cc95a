use Rattle.std.proofs.Common.{◌≡◌, Some, refl, sym, ap, ◌∙◌, length}
use Rattle.std.specs.List.{slice_get}
use Rattle.std.specs.Ordering.{nat_cmp, is_gt, is_some_and}
use Rattle.std.specs.Cmp.Lexicographic.{slice_partial_cmp, lists_agrees}
use Rattle.std.proofs.lemmas.Option.{slice_get_read, slice_get_past}
use Rattle.ask_model.specs.Made.{comes_after_entry}
use Rattle.ask_model.proofs.made.is_after.Goals as goal

pub returns-in-Some : goal.returns-in-Some
returns-in-Some c =
    let p = c.args.path.now in
    let es = c.args.entries.now in
    let e = c.in-Some.entry.now in
    let there = c.in-Some.ensures.lookup in
    let found : slice_get es c.args.greatest ≡ Some e = slice_get_read es (length es) c.args.greatest e refl there.3.0 there.1 in
    c.gt.ensures ∙ ap (λ q. is_some_and is_gt (slice_partial_cmp (λ x y. Some (nat_cmp x y)) p q)) c.as_slice.ensures
    ∙ ap (is_some_and is_gt) (lists_agrees {R = nat_cmp} (λ x y. refl) p e.path) ∙ ap (comes_after_entry p) (sym found)

pub returns-in-None : goal.returns-in-None
returns-in-None c = ap (comes_after_entry c.args.path.now) (sym (slice_get_past c.args.entries.now c.args.greatest c.in-None.ensures.lookup.3))
