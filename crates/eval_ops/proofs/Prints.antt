-- A line is printed.
use Rattle.std.proofs.Common.{◌≡◌, refl, ap, sym, ◌∙◌, ℕ, suc, ◌-◌, ◌<◌, ◌≤◌, List, [], ◌∷◌, ◌++◌, length, take, arith, length-append}
use Rattle.std.proofs.lemmas.List.{take-append-le}
use Rattle.turk_base.specs.State.{act, print}
use Rattle.turk_base.specs.Prog.{Print}
use Rattle.turk_base.specs.Steps.{steps_of}
use Rattle.value_cells.specs.Comes.{goes}
use Rattle.value_cells.specs.Does.{Says, Spends, Does}
use Rattle.value_cells.proofs.Turns.{stays_same}
use Rattle.run_heap.specs.Core.{Core}
use Rattle.run_heap.proofs.Acts.{step_goes, step_spends}
use Rattle.eval_ops.specs.Run.{Run, seen_of}
use Rattle.eval_ops.specs.Stored.{IsRun}
use Rattle.eval_ops.proofs.Machines.{SameAround, rests_at, stays_of}

-- more at the end of the text
abbrev pub with_text : Run → Core → List ℕ → Run
with_text m h more = record m { heap = h; text = m.text ++ more }

pub front_of : {A : Type 0} (l more : List A) (n : ℕ) → n ≤ length l → take n (l ++ more) ≡ take n l
front_of l more n h = rw take-append-le refl

module _ (m : Run) (k : IsRun m) (line : List ℕ) (n left : ℕ) (n_is : n ≡ suc (length line)) where
  abbrev pub paid : Core
  paid = record m.heap { left = left }

  abbrev pub printed : Run
  printed = with_text m paid (line ++ 10 ∷ [])

  same : SameAround m printed
  same = record {
    body = refl;
    many = refl;
    alike = record {
      same = λ i l. rests_at m printed i (record { cells = refl; slots = record { marks = refl; meaning = λ nu i k e. refl }; path = refl; branch = refl; calls = refl; outer = refl }) refl
          (λ o e. record { printed = front_of m.text (line ++ 10 ∷ []) o.printed (k.printed i o e); absent = refl });
    };
  }

  pub print_does : n ≤ m.heap.left → left ≡ m.heap.left - n → Does (λ nu. Print line) (λ nu. Says tt) (seen_of m) (seen_of printed)
  unfolding steps_of act
  print_does h e = record {
    stays = stays_of m printed same refl refl refl;
    did = λ nu fits.
        let s = seen_of m in
        step_goes (print line) s.scope.path s.scope.branch s.scope.body (s.first nu) s.left n tt ((seen_of printed).first nu) (sym n_is) h refl
        ∙ ap (λ q. goes tt ((seen_of printed).first nu) q) (sym e);
  }

  pub print_spends : m.heap.left < n → Does (λ nu. Print line) (λ nu. Spends) (seen_of m) (seen_of m)
  unfolding steps_of
  print_spends h = record {
    stays = stays_same (seen_of m);
    did = λ nu fits.
        let s = seen_of m in
        (s.first nu, s.left, step_spends (print line) s.scope.path s.scope.branch s.scope.body (s.first nu) s.left (omega (arith, h, n_is)), record { text = refl; opened = refl; verdict = refl });
  }

  pub printed_run : IsRun printed
  printed_run = record {
    values = k.values;
    kept_values = k.kept_values;
    as_many = k.as_many;
    printed = λ i o e. let h = k.printed i o e in omega (arith, h, length-append m.text (line ++ 10 ∷ []));
    absent = k.absent;
    ordered = k.ordered;
  }
