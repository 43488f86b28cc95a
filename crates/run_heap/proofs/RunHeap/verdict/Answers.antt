use Rattle.std.proofs.Common.{◌≡◌, sym, ap, ◌∙◌}
use Rattle.turk_base.specs.declared.Verdict.TheVariants as told
use Rattle.turk_base.specs.Told.{verdict_told}
use Rattle.branch_check.specs.Watch.{verdict_of}
use Rattle.slot_watch.specs.Named.{by_names, renamed_verdict}
use Rattle.run_heap.specs.Core.{Core}
use Rattle.run_heap.proofs.Tables.{path_back}
use Rattle.run_heap.proofs.RunHeap.verdict.Goals as goal

pub returns-in_ok-path-in-BranchThrew : goal.returns-in_ok-path-in-BranchThrew
returns-in_ok-path-in-BranchThrew c = λ nu fits.
    let s = c.args.self.now in
    let path = c.in-BranchThrew.path in
    let found = sym (ap (λ (s : Core). s.slots.current.found) c.self.view_is) ∙ sym c.verdict.ensures ∙ c.in-BranchThrew.is in
    ap told.BranchThrew (c.in_ok-path-in-BranchThrew.ensures ∙ sym (path_back path))
    ∙ ap (λ f. verdict_told (renamed_verdict (by_names nu s.slots.keys) (verdict_of f))) (sym found)
