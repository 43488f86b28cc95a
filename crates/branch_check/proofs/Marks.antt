-- What there was at the marks stays, where the steps are noted.
use Rattle.std.proofs.Common.{◌≡◌, refl, ap, sym, ◌∙◌, subst, ℕ, ◌≤◌, ◌<◌, Bool, true, false, not, IsTrue, Option, Some, None, option_to_list, List, [], ◌∷◌, ◌++◌, length, map, take, drop, arith, length-append}
use Rattle.std.specs.Prelude.{◌==◌, if◌then◌else◌, Result, Ok, Err, OnOk}
use Rattle.std.proofs.lemmas.Bool.Decides.{nat_tests}
use Rattle.std.proofs.Math.Seq.{drop-append_seam, take-append_seam}
use Rattle.std.proofs.lemmas.List.{append_assoc, drop-append-le, map-append}
use Rattle.branch_check.specs.declared.Step.{Step}
use Rattle.branch_check.specs.declared.OpenSlots.{OpenSlots}
use Rattle.branch_check.specs.declared.Saved.{Saved}
use Rattle.branch_check.specs.Numbers.{Pairs, shown}
use Rattle.branch_check.specs.Steps.{undo, undone, Leads, Rising}
use Rattle.branch_check.specs.Watch.{Kept, kept_at}

pub on_ok : {U E : Type 0} {P Q : Type 0} (r : Result U E) → (P → Q) → OnOk r P → OnOk r Q
on_ok (Ok u) f p = f p
on_ok (Err e) f p = tt

undone-append : (xs ys : List Step) (es : Pairs) → undone (xs ++ ys) es ≡ undone xs (undone ys es)
undone-append [] ys es = refl
undone-append (x ∷ xs) ys es = ap (undo x) (undone-append xs ys es)

-- ---- steps that lead from one state to another

append_none : (l : List Step) → l ++ [] ≡ l
append_none [] = refl
append_none (x ∷ l) = ap (λ z. x ∷ z) (append_none l)

-- no steps
pub stays : (old new : OpenSlots) → new.steps.items ≡ old.steps.items → new.slots ≡ old.slots → Leads old new
stays old new e h = record { more = []; steps = e ∙ sym (append_none old.steps.items); back = h }

pub leads_on : (a b c : OpenSlots) → Leads a b → Leads b c → Leads a c
leads_on a b c h k = record {
  more = h.more ++ k.more;
  steps = k.steps ∙ ap (λ l. l ++ k.more) h.steps ∙ append_assoc a.steps.items h.more k.more;
  back = undone-append h.more k.more c.slots ∙ ap (undone h.more) k.back ∙ h.back;
}

-- two that have as many steps and lead to the same are the same
pub same_steps : (a b c : OpenSlots) → Leads a c → Leads b c → length a.steps.items ≡ length b.steps.items → a.steps.items ≡ b.steps.items
same_steps a b c h k e =
    sym (take-append_seam a.steps.items h.more) ∙ ap (take (length a.steps.items)) (sym h.steps ∙ k.steps) ∙ ap (λ n. take n (b.steps.items ++ k.more)) e ∙ take-append_seam b.steps.items k.more

pub same_slots : (a b c : OpenSlots) → Leads a c → Leads b c → length a.steps.items ≡ length b.steps.items → a.slots ≡ b.slots
same_slots a b c h k e =
    let more : h.more ≡ k.more = sym (drop-append_seam a.steps.items h.more) ∙ ap (drop (length a.steps.items)) (sym h.steps ∙ k.steps) ∙ ap (λ n. drop n (b.steps.items ++ k.more)) e ∙ drop-append_seam b.steps.items k.more in
    sym h.back ∙ ap (λ l. undone l c.slots) more ∙ k.back

-- ---- the counts of steps

pub rising_le : (a b : ℕ) (l : List Saved) → Rising a l b → a ≤ b
rising_le a b [] r = r
rising_le a b (m ∷ l) r = let rest : m.steps ≤ b = rising_le m.steps b l r.1 in omega (arith, r.0)

pub rising_more : (a b c : ℕ) (l : List Saved) → Rising a l b → b ≤ c → Rising a l c
rising_more a b c [] r h = omega arith
rising_more a b c (m ∷ l) r h = (r.0, rising_more m.steps b c l r.1 h)

pub rising_push : (a b : ℕ) (l : List Saved) (m : Saved) → Rising a l m.steps → m.steps ≤ b → Rising a (l ++ m ∷ []) b
rising_push a b [] m r h = (r, h)
rising_push a b (x ∷ l) m r h = (r.0, rising_push x.steps b l m r.1 h)

pub rising_pop : (a b : ℕ) (l : List Saved) (m : Saved) → Rising a (l ++ m ∷ []) b → Rising a l m.steps × (m.steps ≤ b)
rising_pop a b [] m r = r
rising_pop a b (x ∷ l) m r = let rest = rising_pop x.steps b l m r.1 in ((r.0, rest.0), rest.1)

-- ---- what there was at a mark

pub lengthened : (old new : OpenSlots) → Leads old new → length old.steps.items ≤ length new.steps.items
lengthened old new h = omega (arith, ap length h.steps ∙ length-append old.steps.items h.more)

same_at : (old new : OpenSlots) → Leads old new → (m : Saved) → m.steps ≤ length old.steps.items → kept_at new m ≡ kept_at old m
same_at old new h m le =
    let split : drop m.steps new.steps.items ≡ drop m.steps old.steps.items ++ h.more = ap (drop m.steps) h.steps ∙ drop-append-le m.steps old.steps.items h.more le in
    let back : undone (drop m.steps new.steps.items) new.slots ≡ undone (drop m.steps old.steps.items) old.slots =
    ap (λ l. undone l new.slots) split ∙ undone-append (drop m.steps old.steps.items) h.more new.slots ∙ ap (undone (drop m.steps old.steps.items)) h.back in
    λ i. record { opened = shown (back i); found = m.found }

pub same_marks : (old new : OpenSlots) → Leads old new → (a : ℕ) (l : List Saved) → Rising a l (length old.steps.items) → map (kept_at new) l ≡ map (kept_at old) l
same_marks old new h a [] r = refl
same_marks old new h a (m ∷ l) r =
    let first : kept_at new m ≡ kept_at old m = same_at old new h m (rising_le m.steps (length old.steps.items) l r.1) in
    let rest : map (kept_at new) l ≡ map (kept_at old) l = same_marks old new h m.steps l r.1 in
    λ i. first i ∷ rest i

-- ---- steps that are noted where a mark is open

is_noted : (m : Saved) (l : List Saved) (noted : Bool) → noted ≡ not (length (m ∷ l) == 0) → IsTrue noted
is_noted m l noted e = let some : (length (m ∷ l) == 0) ≡ false = grind (arith, nat_tests) in e ∙ ap not some

module _ (old new : OpenSlots) (noted : Bool) (h : IsTrue noted → Leads old new) where
  pub noted_marks : (l : List Saved) → noted ≡ not (length l == 0) → Rising 0 l (length old.steps.items) → map (kept_at new) l ≡ map (kept_at old) l
  noted_marks [] e r = refl
  noted_marks (m ∷ l) e r = same_marks old new (h (is_noted m l noted e)) 0 (m ∷ l) r

  pub noted_rising : (l : List Saved) → noted ≡ not (length l == 0) → Rising 0 l (length old.steps.items) → Rising 0 l (length new.steps.items)
  noted_rising [] e r = omega arith
  noted_rising (m ∷ l) e r = rising_more 0 (length old.steps.items) (length new.steps.items) (m ∷ l) r (lengthened old new (h (is_noted m l noted e)))

-- ---- marks that are set and closed

rising_front : (a b : ℕ) (l r : List Saved) → Rising a (l ++ r) b → Rising a l b
rising_front a b [] r h = rising_le a b r h
rising_front a b (m ∷ l) r h = (h.0, rising_front m.steps b l r h.1)

-- the newest mark is closed, where there is one
pub rising_popped : (b : ℕ) (l before : List Saved) (o : Option Saved) → before ≡ l ++ option_to_list o → Rising 0 before b → Rising 0 l b
rising_popped b l before o e r = rising_front 0 b l (option_to_list o) (subst (λ m. Rising 0 m b) e r)

pub rising_newest : (b : ℕ) (before l : List Saved) (m : Saved) → before ≡ l ++ m ∷ [] → Rising 0 before b → Rising 0 l m.steps × (m.steps ≤ b)
rising_newest b before l m e r = rising_pop 0 b l m (subst (λ n. Rising 0 n b) e r)

-- a mark is set where there is the memory for it
pub rising_pushed : (b : ℕ) (l after : List Saved) (m : Saved) (t : Bool) → after ≡ (if t then l ++ m ∷ [] else l) → m.steps ≡ b → Rising 0 l b → Rising 0 after b
rising_pushed b l after m true e h r = subst (λ n. Rising 0 n b) (sym e) (rising_push 0 b l m (subst (λ n. Rising 0 l n) (sym h) r) (omega arith))
rising_pushed b l after m false e h r = subst (λ n. Rising 0 n b) (sym e) r

-- the last mark is closed, and no steps are kept
pub last_closed : (old new : OpenSlots) (before l : List Saved) (o : Option Saved) → before ≡ l ++ option_to_list o → length l ≡ 0 → 0 < length before
    → (saved : Kept) × (map (kept_at old) before ≡ map (kept_at new) l ++ saved ∷ [])
last_closed old new before [] None e h k = absurd (omega (arith, ap length e))
last_closed old new before [] (Some m) e h k = (kept_at old m, ap (map (kept_at old)) e)
last_closed old new before (x ∷ l) o e h k = absurd (omega arith)

-- the newest mark is closed, and what there was is there again
pub taken_back : (old new : OpenSlots) (l : List Saved) (m : Saved) → Leads new old → length new.steps.items ≡ m.steps → Rising 0 l m.steps
    → map (kept_at old) (l ++ m ∷ []) ≡ map (kept_at new) l ++ record { opened = shown new.slots; found = m.found } ∷ []
taken_back old new l m h e r =
    let marks : map (kept_at old) l ≡ map (kept_at new) l = same_marks new old h 0 l (subst (λ n. Rising 0 l n) (sym e) r) in
    let rest : drop m.steps old.steps.items ≡ h.more = ap (drop m.steps) h.steps ∙ ap (λ n. drop n (new.steps.items ++ h.more)) (sym e) ∙ drop-append_seam new.steps.items h.more in
    let slots : undone (drop m.steps old.steps.items) old.slots ≡ new.slots = ap (λ s. undone s old.slots) rest ∙ h.back in
    map-append (kept_at old) l (m ∷ []) ∙ (λ i. marks i ++ record { opened = shown (slots i); found = m.found } ∷ [])
