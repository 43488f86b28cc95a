-- The verdict rule, and calls that take an index.
use Rattle.std.proofs.Common.{◌≡◌, refl, ap, subst, ℕ, suc, ◌+◌, arith}
use Rattle.turk_base.specs.State.{St, next_call}
use Rattle.branch_check.specs.Watch.{Watch}
use Rattle.value_cells.specs.Seen.{Naming, Fits}
use Rattle.run_heap.specs.Core.{Core, names_in, Rests}
use Rattle.run_heap.specs.Placed.{known_of, props_of}
use Rattle.run_heap.specs.Watching.{Watches}
use Rattle.eval_ops.specs.Run.{Run, seen_of}
use Rattle.eval_ops.specs.Calls.{Changes}
use Rattle.eval_ops.proofs.Machines.{rests_base, changes, with_heap}

-- open slots and verdict after a rule of the watch
abbrev pub turned : (Watch → Watch) → St → St
turned f σ = record σ {
  opened = (f (record { opened = σ.opened; verdict = σ.verdict })).opened;
  verdict = (f (record { opened = σ.opened; verdict = σ.verdict })).verdict;
}

module _ (m : Run) (h : Core) (r : Rests m.heap h) (f : Watch → Watch) (w : Watches f m.heap h) where
  pub first_turned : (nu : Naming) → Fits nu (names_in m.heap.cells.now) → (seen_of (with_heap m h)).first nu ≡ turned f ((seen_of m).first nu)
  first_turned nu fits =
      let σ = (seen_of m).first nu in
      let v = w.now nu fits in
      λ x. record {
        calls = r.calls x;
        cells = w.made x;
        vals = σ.vals;
        known = known_of nu (w.cells x).now;
        props = props_of nu (w.cells x).now;
        text = σ.text;
        opened = (v x).opened;
        verdict = (v x).verdict;
        gone = σ.gone;
      }

  pub turns : Changes (λ nu σ. turned f σ) (seen_of m) (seen_of (with_heap m h))
  turns = changes m (with_heap m h) (rests_base m h r).scopes r.path r.branch (λ nu σ. turned f σ) (λ i. names_in (w.cells i).now) w.left
      (λ nu fits. first_turned nu (subst (λ ns. Fits nu ns) (λ i. names_in (w.cells i).now) fits))

-- ---- an index is taken

module _ (m : Run) where
  abbrev pub called : Run
  called = record m { heap = record m.heap { place = record m.heap.place { calls = m.heap.place.calls + 1 } } }

  pub calls_next : Changes (λ nu σ. next_call σ) (seen_of m) (seen_of called)
  calls_next = changes m called (record {
    body = refl;
    many = refl;
    alike = record { same = λ i l. record { cells = refl; slots = refl; place = refl; outer = refl; meaning = λ nu q e. refl; fronts = λ o e. record { printed = refl; absent = refl } } };
  }) refl refl (λ nu σ. next_call σ) refl refl
      (λ nu fits.
      let σ = (seen_of m).first nu in
      let e : m.heap.place.calls + 1 ≡ suc m.heap.place.calls = omega arith in
      ap (λ (k : ℕ). record σ { calls = k }) e)
