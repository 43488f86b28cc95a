use Rattle.std.proofs.Common.{◌≡◌, ◌<◌, refl, sym, ◌∙◌, subst, length, None, arith}
use Rattle.eval_ops.specs.Run.{Run, seen_of}
use Rattle.eval_ops.specs.Stored.{run_of}
use Rattle.eval_ops.specs.Calls.{LeavesKeep}
use Rattle.eval_ops.proofs.Marks.{scopes_many}
use Rattle.eval_ops.proofs.Scoping.{goes_keep, keep_whole, keep_room}
use Rattle.eval_ops.proofs.Machine.leave_keep.Goals as goal

pub leave_keep-requires-clause-newest : goal.leave_keep-requires-clause-newest
leave_keep-requires-clause-newest c =
    let m = run_of c.self.inside in
    let e : c.args.entered ≡ length (seen_of m).outer = subst (λ (s : Run). c.args.entered ≡ length (seen_of s).outer) (sym c.self.view_is) c.requires.newest in
    c.entered.view_is ∙ e ∙ scopes_many m (length m.outer) ∙ c.self.invariant.run.as_many

pub leave_keep-requires-clause-open : goal.leave_keep-requires-clause-open
leave_keep-requires-clause-open c =
    let m = run_of c.self.inside in
    let e = subst (λ (s : Run). 0 < length (seen_of s).outer) (sym c.self.view_is) c.requires.open in
    omega (arith, e, scopes_many m (length m.outer), c.self.invariant.run.as_many)

pub invariant_of-self : goal.invariant_of-self
invariant_of-self c =
    let m = run_of c.self.inside in
    let o = c.in-Some.around in
    let m' : Run = record { heap = c.leave_keep.new.self; body = o.body; values = o.values.items; text = m.text; gone = m.gone; outer = c.pop.new.self.items; left_back = None } in
    record {
      run = keep_whole m m' c.self.invariant.run c.known.ensures.core o c.leave_keep.ensures c.in-Some.ensures.items refl refl refl refl refl;
      room = keep_room m m' c.self.invariant.run c.known.ensures.core o c.leave_keep.ensures c.in-Some.ensures.items refl refl refl refl refl _ c.self.invariant.room;
    }

pub returns-clause-left : goal.returns-clause-left
returns-clause-left c =
    let m = run_of c.self.inside in
    let o = c.in-Some.around in
    let m' : Run = record { heap = c.leave_keep.new.self; body = o.body; values = o.values.items; text = m.text; gone = m.gone; outer = c.pop.new.self.items; left_back = None } in
    subst (λ (s : Run). LeavesKeep (seen_of s) (seen_of m')) c.self.view_is
    (goes_keep m m' c.self.invariant.run c.known.ensures.core o c.leave_keep.ensures c.in-Some.ensures.items refl refl refl refl refl)
