-- How the images of a history go on.
use Rattle.std.proofs.Common.{◌≡◌, ◌⊎◌, inl, inr, ⊎_elim, ℕ, ◌+◌, ◌≤◌, List, [], ◌∷◌, ◌++◌, length, sym, subst, arith, length-append}
use Rattle.std.proofs.lemmas.Bool.{cases_lt}
use Rattle.std.proofs.lemmas.List.{take_all, take-append-le}
use Rattle.disk_model.specs.Disk.{Goes, Torn}
use Rattle.disk_model.specs.Images.{State, start, after, state, IsImageOf, LeftSince}
use Rattle.disk_model.specs.Memory.{moment_of, left_since_of, moments_of, images_of}
use Rattle.disk_model.specs.declared.event.Event.{Event}
use Rattle.disk_model.specs.declared.history.History.{History}
use Rattle.disk_model.specs.declared.memory.MemoryDisk.{MemoryDisk}
use Rattle.disk_model.proofs.States.{state-append, torn_same}

-- now
pub now_is : (first : List ℕ) (es : List Event) (c : List ℕ) → LeftSince first es (length es) c → IsImageOf (state (start first) es) c
now_is first es c left = subst (λ (l : List Event). IsImageOf (state (start first) l) c) (take_all left.0 es left.1) left.3

pub is_now : (first : List ℕ) (es : List Event) (t : ℕ) (c : List ℕ) → t ≤ length es → IsImageOf (state (start first) es) c → LeftSince first es t c
is_now first es t c le image = (length es, le, omega arith, subst (λ (l : List Event). IsImageOf (state (start first) l) c) (sym (take_all (length es) es (omega arith))) image)

-- one event more
record Moves (step : List ℕ → List ℕ → Type 0) (first : List ℕ) (es later : List Event) : Type 0 where
  pub later_ok : length es ≤ length later
  pub now : (c : List ℕ) → LeftSince first later (length later) c → (d : List ℕ) × LeftSince first es (length es) d × step d c
  pub nothing_else : (t : ℕ) (c : List ℕ) → t ≤ length es → LeftSince first later t c → LeftSince first es t c ⊎ LeftSince first later (length later) c
  pub keeps : (t : ℕ) (c : List ℕ) → t ≤ length es → LeftSince first es t c → LeftSince first later t c

moves_push : (step : List ℕ → List ℕ → Type 0) (first : List ℕ) (es : List Event) (e : Event) → ((c : List ℕ) → IsImageOf (after (state (start first) es) e) c → (d : List ℕ) × IsImageOf (state (start first) es) d × step d c) → Moves step first es (es ++ e ∷ [])
moves_push step first es e stepped =
    let size : length (es ++ e ∷ []) ≡ length es + 1 = omega (arith, length-append es (e ∷ [])) in
    record {
      later_ok = omega (arith, size);
      now = λ c left.
          let image : IsImageOf (after (state (start first) es) e) c = subst (λ (s : State). IsImageOf s c) (state-append (start first) es (e ∷ [])) (now_is first (es ++ e ∷ []) c left) in
          let from = stepped c image in
          (from.0, is_now first es (length es) from.0 (omega arith) from.1, from.2);
      nothing_else = λ t c le left. elim (cases_lt (length es) left.0) [
        | inl last ↦ inr (left.0, omega (arith, last, size, left.2), left.2, left.3)
        | inr before ↦ inl (left.0, left.1, before, subst (λ (l : List Event). IsImageOf (state (start first) l) c) (take-append-le left.0 es (e ∷ []) before) left.3)
      ];
      keeps = λ t c le left. (left.0, left.1, omega (arith, left.2, size), subst (λ (l : List Event). IsImageOf (state (start first) l) c) (sym (take-append-le left.0 es (e ∷ []) left.2)) left.3);
    }

moves_same : (step : List ℕ → List ℕ → Type 0) (first : List ℕ) (es : List Event) → ((c : List ℕ) → step c c) → Moves step first es es
moves_same step first es steps = record {
  later_ok = omega arith;
  now = λ c left. (c, left, steps c);
  nothing_else = λ t c le left. inl left;
  keeps = λ t c le left. left;
}

goes_by : (step : List ℕ → List ℕ → Type 0) (old new : History) → new.first.items ≡ old.first.items → Moves step old.first.items old.events.items new.events.items → Goes moment_of left_since_of step old new
goes_by step old new first m =
    record {
      later = m.later_ok;
      now = λ c left. m.now c (subst (λ (l : List ℕ). LeftSince l new.events.items (length new.events.items) c) first left);
      nothing_else = λ t c le left. ⊎_elim (λ h. inl h) (λ h. inr (subst (λ (l : List ℕ). LeftSince l new.events.items (length new.events.items) c) (sym first) h)) (m.nothing_else t c le (subst (λ (l : List ℕ). LeftSince l new.events.items t c) first left));
      keeps = λ t c le left. subst (λ (l : List ℕ). LeftSince l new.events.items t c) (sym first) (m.keeps t c le left);
    }

pub goes_push : (step : List ℕ → List ℕ → Type 0) (old new : History) (e : Event) → new.first.items ≡ old.first.items → new.events.items ≡ old.events.items ++ e ∷ [] → ((c : List ℕ) → IsImageOf (after (state (start old.first.items) old.events.items) e) c → (d : List ℕ) × IsImageOf (state (start old.first.items) old.events.items) d × step d c) → Goes moment_of left_since_of step old new
goes_push step old new e first events stepped =
    goes_by step old new first (subst (λ (l : List Event). Moves step old.first.items old.events.items l) (sym events) (moves_push step old.first.items old.events.items e stepped))

pub goes_same : (step : List ℕ → List ℕ → Type 0) (old new : History) → new.first.items ≡ old.first.items → new.events.items ≡ old.events.items → ((c : List ℕ) → step c c) → Goes moment_of left_since_of step old new
goes_same step old new first events steps =
    goes_by step old new first (subst (λ (l : List Event). Moves step old.first.items old.events.items l) (sym events) (moves_same step old.first.items old.events.items steps))

pub goes_up : (step : List ℕ → List ℕ → Type 0) (d e : MemoryDisk) (h : History) → h ≡ d.history → Goes moment_of left_since_of step h e.history → Goes moments_of images_of step d e
goes_up step d e h is g =
    let m : Goes moment_of left_since_of step d.history e.history = subst (λ (x : History). Goes moment_of left_since_of step x e.history) is g in
    record { later = m.later; now = m.now; nothing_else = m.nothing_else; keeps = m.keeps }

-- a write that changed nothing
pub goes_torn : (at n : ℕ) (old new : History) → Goes moment_of left_since_of (◌≡◌ {A = List ℕ}) old new → Goes moment_of left_since_of (Torn at n) old new
goes_torn at n old new g = record {
  later = g.later;
  now = λ c left. let from = g.now c left in (from.0, from.1, torn_same at n from.0 c (sym from.2));
  nothing_else = g.nothing_else;
  keeps = g.keeps;
}
