use Rattle.std.proofs.Common.{◌≡◌, ◌<◌, refl, sym, ◌∙◌, subst, ℕ, length, Some, arith}
use Rattle.eval_ops.specs.Run.{Run, seen_of}
use Rattle.eval_ops.specs.Stored.{run_of, HasRoom}
use Rattle.eval_ops.specs.Calls.{LeavesBack}
use Rattle.eval_ops.proofs.Marks.{scopes_many}
use Rattle.eval_ops.proofs.Scoping.{goes_back, back_whole, back_room}
use Rattle.eval_ops.proofs.Machine.leave_back.Goals as goal

pub leave_back-left-requires-clause-newest : goal.leave_back-left-requires-clause-newest
leave_back-left-requires-clause-newest c =
    let m = run_of c.self.inside in
    let e : c.args.entered ≡ length (seen_of m).outer = subst (λ (s : Run). c.args.entered ≡ length (seen_of s).outer) (sym c.self.view_is) c.requires.newest in
    c.entered.view_is ∙ e ∙ scopes_many m (length m.outer) ∙ c.self.invariant.run.as_many

pub leave_back-left-requires-clause-open : goal.leave_back-left-requires-clause-open
leave_back-left-requires-clause-open c =
    let m = run_of c.self.inside in
    let e = subst (λ (s : Run). 0 < length (seen_of s).outer) (sym c.self.view_is) c.requires.open in
    omega (arith, e, scopes_many m (length m.outer), c.self.invariant.run.as_many)

pub invariant_of-self : goal.invariant_of-self
invariant_of-self c =
    let m = run_of c.self.inside in
    let o = c.in-Some.around in
    let m' : Run = record { heap = c.leave_back-left.new.self; body = o.body; values = o.values.items; text = c.cut.new.text; gone = c.truncate.new.self.items; outer = c.pop.new.self.items; left_back = Some c.leave_back-left.result } in
    record {
      run = back_whole m m' c.self.invariant.run c.known.ensures.core o c.leave_back-left.ensures.back c.in-Some.ensures.items refl refl c.cut.ensures c.truncate.ensures.items;
      room = back_room m m' c.self.invariant.run c.known.ensures.core o c.leave_back-left.ensures.back c.in-Some.ensures.items refl refl c.cut.ensures c.truncate.ensures.items _ (subst (λ (n : ℕ). HasRoom m n) (sym c.truncate.ensures.capacity) c.self.invariant.room);
    }

pub returns-clause-left : goal.returns-clause-left
returns-clause-left c =
    let m = run_of c.self.inside in
    let o = c.in-Some.around in
    let m' : Run = record { heap = c.leave_back-left.new.self; body = o.body; values = o.values.items; text = c.cut.new.text; gone = c.truncate.new.self.items; outer = c.pop.new.self.items; left_back = Some c.leave_back-left.result } in
    subst (λ (s : Run). LeavesBack (seen_of s) (seen_of m')) c.self.view_is
    (goes_back m m' c.self.invariant.run c.known.ensures.core o c.leave_back-left.ensures.back c.in-Some.ensures.items refl refl c.cut.ensures c.truncate.ensures.items)
