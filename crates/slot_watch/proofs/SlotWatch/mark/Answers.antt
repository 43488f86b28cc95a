use Rattle.std.proofs.Common.{sym, subst, length, [], ◌∷◌, ◌++◌}
use Rattle.slot_watch.specs.Within.{KeysWithin}
use Rattle.slot_watch.proofs.Naming.{marks_same, either_mark}
use Rattle.key_table.proofs.KeyFacts.{pushed}
use Rattle.slot_watch.proofs.SlotWatch.mark.Goals as goal

pub invariant_of-self : goal.invariant_of-self
invariant_of-self c =
    let a = c.self.inside in
    record {
      current = subst (λ k. KeysWithin (length a.keys) k) (sym c.mark.ensures.now) c.self.invariant.current;
      marks = either_mark c.mark.result c.mark.ensures.ok c.mark.ensures.err
          (λ e. marks_same (KeysWithin (length a.keys)) (a.monitor.marks ++ a.monitor.current ∷ []) c.mark.new.self.marks e
          (λ i k f. pushed (λ i k. KeysWithin (length a.keys) k) a.monitor.marks a.monitor.current c.self.invariant.marks c.self.invariant.current i k f))
          (λ e. marks_same (KeysWithin (length a.keys)) a.monitor.marks c.mark.new.self.marks e c.self.invariant.marks);
    }
