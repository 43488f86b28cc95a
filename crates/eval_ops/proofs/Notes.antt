-- Absent branches, and values of branches.
use Rattle.std.proofs.Common.{◌≡◌, refl, ap, sym, ◌∙◌, subst, ℕ, zero, suc, ◌-◌, ◌<◌, ◌≤◌, Bool, true, List, [], ◌∷◌, ◌++◌, length, take, Some, None, get_or, map, arith, length-append}
use Rattle.std.specs.Prelude.{reverse, if◌then◌else◌}
use Rattle.std.proofs.lemmas.List.{reverse-append, map-append}
use Rattle.turk_base.specs.Names.{path_in}
use Rattle.turk_base.specs.Trace.{begins}
use Rattle.turk_base.specs.State.{any_gone, give_value}
use Rattle.eval_ops.proofs.Prefixes.{pick_under}
use Rattle.value_cells.specs.declared.Value.{Value}
use Rattle.value_cells.specs.Needs.{needs, all_needs}
use Rattle.value_cells.specs.Seen.{val_in}
use Rattle.run_heap.proofs.Whole.{rests_same}
use Rattle.eval_ops.specs.Run.{Run, seen_of}
use Rattle.eval_ops.specs.Stored.{IsRun, HasRoom}
use Rattle.eval_ops.specs.Calls.{Changes, notes}
use Rattle.eval_ops.proofs.Machines.{SameAround, rests_at, changes}
use Rattle.eval_ops.proofs.Prints.{front_of}

-- ---- whether one is absent

abbrev pub gone_in : List ℕ → List (List ℕ) → Bool
gone_in s l = any_gone (path_in s) (map path_in (reverse l))

pub gone_last : (s p : List ℕ) (l : List (List ℕ)) → gone_in s (l ++ p ∷ []) ≡ (if begins s p then true else gone_in s l)
gone_last s p l = ap (λ ps. any_gone (path_in s) (map path_in ps)) (reverse-append l (p ∷ [])) ∙ pick_under s p true (gone_in s l)

take_next : {A : Type 0} (l : List A) (i : ℕ) (x : A) → i < length l → x ≡ get_or l i x → take (suc i) l ≡ take i l ++ x ∷ []
take_next [] i x h e = absurd (omega arith)
take_next (y ∷ l) zero x h e = ap (λ z. z ∷ []) (sym e)
take_next (y ∷ l) (suc i) x h e = ap (λ z. y ∷ z) (take_next l i x (omega arith) e)

pub gone_step : (s p : List ℕ) (l : List (List ℕ)) (i : ℕ) → 0 < i → i ≤ length l → p ≡ get_or l (i - 1) p → gone_in s (take i l) ≡ (if begins s p then true else gone_in s (take (i - 1) l))
gone_step s p l zero h w e = absurd (omega arith)
gone_step s p l (suc i) h w e =
    let z : suc i - 1 ≡ i = omega arith in
    ap (gone_in s) (take_next l i p (omega arith) (subst (λ (j : ℕ). p ≡ get_or l j p) z e)) ∙ gone_last s p (take i l) ∙ ap (λ (j : ℕ). if begins s p then true else gone_in s (take j l)) (sym z)

-- ---- one is noted

pub append_none : {A : Type 0} (l : List A) → l ≡ l ++ []
append_none [] = refl
append_none (x ∷ l) = ap (λ z. x ∷ z) (append_none l)

module _ (m : Run) (k : IsRun m) (p : List ℕ) where
  abbrev pub noted : Run
  noted = record m { gone = m.gone ++ p ∷ []; left_back = None }

  same : SameAround m noted
  same = record {
    body = refl;
    many = refl;
    alike = record { same = λ i l. rests_at m noted i (rests_same m.heap) refl (λ o e. record { printed = refl; absent = front_of m.gone (p ∷ []) o.absent (k.absent i o e) }) };
  }

  pub notes_one : m.left_back ≡ Some p → Changes (λ nu σ. notes m.left_back σ) (seen_of m) (seen_of noted)
  notes_one e = changes m noted same refl refl (λ nu σ. notes m.left_back σ) refl refl
      (λ nu fits.
      let σ = (seen_of m).first nu in
      let g : map path_in (reverse (m.gone ++ p ∷ [])) ≡ path_in p ∷ map path_in (reverse m.gone) = ap (map path_in) (reverse-append m.gone (p ∷ [])) in
      (λ x. record {
        calls = σ.calls;
        cells = σ.cells;
        vals = σ.vals;
        known = σ.known;
        props = σ.props;
        text = σ.text;
        opened = σ.opened;
        verdict = σ.verdict;
        gone = g x;
      }) ∙ ap (λ l. notes l σ) (sym e))

  pub noted_run : IsRun noted
  noted_run = record {
    values = k.values;
    kept_values = k.kept_values;
    as_many = k.as_many;
    printed = k.printed;
    absent = λ i o e. let h = k.absent i o e in omega (arith, h, length-append m.gone (p ∷ []));
    ordered = k.ordered;
  }

  pub noted_room : (old new : ℕ) → HasRoom m old → old ≤ new → HasRoom noted new
  noted_room old new r l = record { kept = λ i o e. let h = r.kept i o e in omega (arith, h, l); now = λ q e. cc }

-- none was taken back
pub notes_none : (m : Run) → m.left_back ≡ None → Changes (λ nu σ. notes m.left_back σ) (seen_of m) (seen_of (record m { left_back = None }))
notes_none m e = changes m (record m { left_back = None }) (record {
  body = refl;
  many = refl;
  alike = record { same = λ i l. rests_at m (record m { left_back = None }) i (rests_same m.heap) refl (λ o e. record { printed = refl; absent = refl }) };
}) refl refl (λ nu σ. notes m.left_back σ) refl refl (λ nu fits. ap (λ l. notes l ((seen_of m).first nu)) (sym e))

pub plain_room : (m : Run) (n : ℕ) → HasRoom m n → HasRoom (record m { left_back = None }) n
plain_room m n r = record { kept = r.kept; now = λ q e. cc }

pub plain_run : (m : Run) → IsRun m → IsRun (record m { left_back = None })
plain_run m k = record { values = k.values; kept_values = k.kept_values; as_many = k.as_many; printed = k.printed; absent = k.absent; ordered = k.ordered }

-- ---- values

needs_push : (vs : List Value) (v : Value) (n : ℕ) → all_needs vs ≤ n → needs v ≤ n → all_needs (vs ++ v ∷ []) ≤ n
needs_push [] v n h l = omega (arith, l)
needs_push (w ∷ vs) v n h l = let r = needs_push vs v n (omega (arith, h)) l in omega (arith, r, h)

module _ (m : Run) (v : Value) where
  abbrev pub given : Run
  given = record m { values = m.values ++ v ∷ [] }

  pub gives : Changes (λ nu σ. give_value (val_in nu v) σ) (seen_of m) (seen_of given)
  gives = changes m given (record {
    body = refl;
    many = refl;
    alike = record { same = λ i l. rests_at m given i (rests_same m.heap) refl (λ o e. record { printed = refl; absent = refl }) };
  }) refl refl (λ nu σ. give_value (val_in nu v) σ) refl refl
      (λ nu fits.
      let σ = (seen_of m).first nu in
      λ x. record {
        calls = σ.calls;
        cells = σ.cells;
        vals = map-append (val_in nu) m.values (v ∷ []) x;
        known = σ.known;
        props = σ.props;
        text = σ.text;
        opened = σ.opened;
        verdict = σ.verdict;
        gone = σ.gone;
      })

  pub given_run : IsRun m → needs v ≤ length m.heap.cells.now → IsRun given
  given_run k l = record { values = needs_push m.values v (length m.heap.cells.now) k.values l; kept_values = k.kept_values; as_many = k.as_many; printed = k.printed; absent = k.absent; ordered = k.ordered }
