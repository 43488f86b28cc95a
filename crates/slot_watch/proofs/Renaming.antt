-- The verdict rule is the same under every naming of slots that tells them apart.
use Rattle.std.proofs.Common.{◌≡◌, refl, ap, sym, ◌∙◌, Bool, true, false, List, [], ◌∷◌, Option, Some, None}
use Rattle.std.specs.Option.{option_map}
use Rattle.turk_base.specs.Names.{Path, root, sub, Slot, slot_eq, pick, under, Under}
use Rattle.turk_base.specs.State.{Opening, opening, Verdict, independent, touched_open, once_while_open, branch_threw, touched, first_open, open_at, open_by, cut, first_reason, touch_reason, once_reason}
use Rattle.branch_check.specs.Watch.{Watch, after_touch, after_once, after_write, after_join, after_throw}
use Rattle.slot_watch.specs.Named.{renamed_all, renamed_verdict, renamed}
use Rattle.slot_watch.specs.Within.{Each, InVerdict, Holds}

module _ (r : Slot → Slot) where
  -- the slots of the list that get the name of x are x
  abbrev pub Apart : Slot → List Opening → Type 0
  Apart x l = Each (λ y. r y ≡ r x → y ≡ x) l

  same_slot : {B : Type 0} (y x : Slot) (u v : B) → (r y ≡ r x → y ≡ x) → pick (slot_eq (r y) (r x)) u v ≡ pick (slot_eq y x) u v
  same_slot {B} y x u v h = by (slot_eq (r y) (r x)) (slot_eq y x)
    where
      by : (d : Dec (r y ≡ r x)) (e : Dec (y ≡ x)) → pick d u v ≡ pick e u v
      by (yes a) (yes b) = refl
      by (yes a) (no n) = absurd (n (h a))
      by (no n) (yes b) = absurd (n (ap r b))
      by (no n) (no m) = refl

  picked : {A B C : Type 0} (f : B → C) (d : Dec A) (u v : B) → f (pick d u v) ≡ pick d (f u) (f v)
  picked f (yes a) u v = refl
  picked f (no n) u v = refl

  pub touched_renamed : (b : Path) (x : Slot) (l : List Opening) → Apart x l → touched b (r x) (renamed_all r l) ≡ touched b x l
  touched_renamed b x [] h = refl
  touched_renamed b x (opening y p ∷ l) h =
      rw (touched_renamed b x l h.1) (same_slot y x (pick (under p b) (touched b x l) true) (touched b x l) h.0)

  pub first_renamed : (b : Path) (l : List Opening) → first_open b (renamed_all r l) ≡ option_map r (first_open b l)
  first_renamed b [] = refl
  first_renamed b (opening y p ∷ l) = rw (first_renamed b l) (sym (picked (option_map r) (under p b) (first_open b l) (Some y)))

  pub open_renamed : (b : Path) (x : Slot) (l : List Opening) → Apart x l → open_at (r x) b (renamed_all r l) ≡ renamed_all r (open_at x b l)
  open_renamed b x [] h = refl
  open_renamed b x (opening y p ∷ l) h =
      rw (open_renamed b x l h.1) (same_slot y x (opening (r x) b ∷ renamed_all r l) (opening (r y) p ∷ renamed_all r (open_at x b l)) h.0)
      ∙ sym (picked (renamed_all r) (slot_eq y x) (opening x b ∷ l) (opening y p ∷ open_at x b l))

  open_by_renamed : (y : Slot) (s : Path) (l : List Opening) → open_by (r y) s (renamed_all r l) ≡ renamed_all r (open_by y s l)
  open_by_renamed y root l = refl
  open_by_renamed y (sub i p) l = refl

  pub cut_renamed : (s : Path) (l : List Opening) → cut s (renamed_all r l) ≡ renamed_all r (cut s l)
  cut_renamed s [] = refl
  cut_renamed s (opening y p ∷ l) =
      rw (cut_renamed s l, open_by_renamed y s (cut s l)) (sym (picked (renamed_all r) (under s p) (open_by y s (cut s l)) (opening y p ∷ cut s l)))

  first_reason_renamed : (v w : Verdict) → renamed_verdict r (first_reason v w) ≡ first_reason (renamed_verdict r v) (renamed_verdict r w)
  first_reason_renamed independent w = refl
  first_reason_renamed (touched_open x) w = refl
  first_reason_renamed (once_while_open x) w = refl
  first_reason_renamed (branch_threw p) w = refl

  touch_reason_renamed : (x : Slot) (t : Bool) → renamed_verdict r (touch_reason x t) ≡ touch_reason (r x) t
  touch_reason_renamed x true = refl
  touch_reason_renamed x false = refl

  once_reason_renamed : (o : Option Slot) → renamed_verdict r (once_reason o) ≡ once_reason (option_map r o)
  once_reason_renamed None = refl
  once_reason_renamed (Some x) = refl

  touch_verdict : (b : Path) (x : Slot) (l : List Opening) (v : Verdict) → Apart x l
      → renamed_verdict r (first_reason v (touch_reason x (touched b x l))) ≡ first_reason (renamed_verdict r v) (touch_reason (r x) (touched b (r x) (renamed_all r l)))
  touch_verdict b x l v h =
      first_reason_renamed v (touch_reason x (touched b x l)) ∙ ap (first_reason (renamed_verdict r v)) (touch_reason_renamed x (touched b x l) ∙ ap (touch_reason (r x)) (sym (touched_renamed b x l h)))

  pub touch_is : (b : Path) (x : Slot) (w : Watch) → Apart x w.opened → renamed r (after_touch b x w) ≡ after_touch b (r x) (renamed r w)
  touch_is b x w h = λ i. record { opened = renamed_all r w.opened; verdict = touch_verdict b x w.opened w.verdict h i }

  pub once_is : (b : Path) (w : Watch) → renamed r (after_once b w) ≡ after_once b (renamed r w)
  once_is b w =
      let e : renamed_verdict r (first_reason w.verdict (once_reason (first_open b w.opened))) ≡ first_reason (renamed_verdict r w.verdict) (once_reason (first_open b (renamed_all r w.opened))) =
      first_reason_renamed w.verdict (once_reason (first_open b w.opened))
      ∙ ap (first_reason (renamed_verdict r w.verdict)) (once_reason_renamed (first_open b w.opened) ∙ ap once_reason (sym (first_renamed b w.opened))) in
      λ i. record { opened = renamed_all r w.opened; verdict = e i }

  pub write_is : (b s : Path) (x : Slot) (w : Watch) → Apart x w.opened → renamed r (after_write b s x w) ≡ after_write b s (r x) (renamed r w)
  write_is b s x w h =
      let o : renamed_all r (pick (under b s) w.opened (open_at x b w.opened)) ≡ pick (under b s) (renamed_all r w.opened) (open_at (r x) b (renamed_all r w.opened)) =
      picked (renamed_all r) (under b s) w.opened (open_at x b w.opened) ∙ ap (pick (under b s) (renamed_all r w.opened)) (sym (open_renamed b x w.opened h)) in
      λ i. record { opened = o i; verdict = touch_verdict b x w.opened w.verdict h i }

  pub join_is : (s : Path) (w : Watch) → renamed r (after_join s w) ≡ after_join s (renamed r w)
  join_is s w = let e = sym (cut_renamed s w.opened) in λ i. record { opened = e i; verdict = renamed_verdict r w.verdict }

  pub throw_is : (p : Path) (w : Watch) → renamed r (after_throw p w) ≡ after_throw p (renamed r w)
  throw_is p w = λ i. record { opened = renamed_all r w.opened; verdict = first_reason_renamed w.verdict (branch_threw p) i }

  -- a slot whose name no open one has
  pub untouched : (b : Path) (z : Slot) (l : List Opening) → Each (λ y. r y ≡ z → ⊥) l → touched b z (renamed_all r l) ≡ false
  untouched b z [] h = refl
  untouched b z (opening y p ∷ l) h = by (slot_eq (r y) z) (untouched b z l h.1)
    where
      by : (d : Dec (r y ≡ z)) → touched b z (renamed_all r l) ≡ false → pick d (pick (under p b) (touched b z (renamed_all r l)) true) (touched b z (renamed_all r l)) ≡ false
      by (yes e) f = absurd (h.0 e)
      by (no n) f = f

-- ---- two functions that agree on the slots there are rename alike

module _ (r q : Slot → Slot) where
  pub alike_all : (l : List Opening) → Each (λ y. r y ≡ q y) l → renamed_all r l ≡ renamed_all q l
  alike_all [] h = refl
  alike_all (opening y p ∷ l) h = λ i. opening (h.0 i) p ∷ alike_all l h.1 i

  alike_verdict : (v : Verdict) → InVerdict (λ y. r y ≡ q y) v → renamed_verdict r v ≡ renamed_verdict q v
  alike_verdict independent h = refl
  alike_verdict (touched_open x) h = ap touched_open h
  alike_verdict (once_while_open x) h = ap once_while_open h
  alike_verdict (branch_threw p) h = refl

  pub alike : (w : Watch) → Holds (λ y. r y ≡ q y) w → renamed r w ≡ renamed q w
  alike w h = λ i. record { opened = alike_all w.opened h.opened i; verdict = alike_verdict w.verdict h.verdict i }

-- ---- what holds of each slot, after each rule

module _ (P : Slot → Type 0) where
  each_open : (x : Slot) (b : Path) (l : List Opening) → P x → Each P l → Each P (open_at x b l)
  each_open x b [] p h = (p, tt)
  each_open x b (opening y q ∷ l) p h = by (slot_eq y x) (each_open x b l p h.1)
    where
      by : (d : Dec (y ≡ x)) → Each P (open_at x b l) → Each P (pick d (opening x b ∷ l) (opening y q ∷ open_at x b l))
      by (yes e) k = (p, h.1)
      by (no n) k = (h.0, k)

  each_by : (y : Slot) (s : Path) (l : List Opening) → P y → Each P l → Each P (open_by y s l)
  each_by y root l p h = h
  each_by y (sub i s) l p h = (p, h)

  each_cut : (s : Path) (l : List Opening) → Each P l → Each P (cut s l)
  each_cut s [] h = tt
  each_cut s (opening y q ∷ l) h = by (under s q) (each_cut s l h.1)
    where
      by : (d : Dec (Under s q)) → Each P (cut s l) → Each P (pick d (open_by y s (cut s l)) (opening y q ∷ cut s l))
      by (yes e) k = each_by y s (cut s l) h.0 k
      by (no n) k = (h.0, k)

  in_reason : (v w : Verdict) → InVerdict P v → InVerdict P w → InVerdict P (first_reason v w)
  in_reason independent w h k = k
  in_reason (touched_open x) w h k = h
  in_reason (once_while_open x) w h k = h
  in_reason (branch_threw p) w h k = h

  in_touch : (x : Slot) (t : Bool) → P x → InVerdict P (touch_reason x t)
  in_touch x true p = p
  in_touch x false p = tt

  in_first : (b : Path) (l : List Opening) → Each P l → InVerdict P (once_reason (first_open b l))
  in_first b [] h = tt
  in_first b (opening y q ∷ l) h = by (under q b) (in_first b l h.1)
    where
      by : (d : Dec (Under q b)) → InVerdict P (once_reason (first_open b l)) → InVerdict P (once_reason (pick d (first_open b l) (Some y)))
      by (yes e) k = k
      by (no n) k = h.0

  pub holds_touch : (b : Path) (x : Slot) (w : Watch) → P x → Holds P w → Holds P (after_touch b x w)
  holds_touch b x w p h = record { opened = h.opened; verdict = in_reason w.verdict (touch_reason x (touched b x w.opened)) h.verdict (in_touch x (touched b x w.opened) p) }

  pub holds_once : (b : Path) (w : Watch) → Holds P w → Holds P (after_once b w)
  holds_once b w h = record { opened = h.opened; verdict = in_reason w.verdict (once_reason (first_open b w.opened)) h.verdict (in_first b w.opened h.opened) }

  pub holds_write : (b s : Path) (x : Slot) (w : Watch) → P x → Holds P w → Holds P (after_write b s x w)
  holds_write b s x w p h = record {
    opened = by (under b s) (each_open x b w.opened p h.opened);
    verdict = in_reason w.verdict (touch_reason x (touched b x w.opened)) h.verdict (in_touch x (touched b x w.opened) p);
  }
    where
      by : (d : Dec (Under b s)) → Each P (open_at x b w.opened) → Each P (pick d w.opened (open_at x b w.opened))
      by (yes e) k = h.opened
      by (no n) k = k

  pub holds_join : (s : Path) (w : Watch) → Holds P w → Holds P (after_join s w)
  holds_join s w h = record { opened = each_cut s w.opened h.opened; verdict = h.verdict }

  pub holds_throw : (p : Path) (w : Watch) → Holds P w → Holds P (after_throw p w)
  holds_throw p w h = record { opened = h.opened; verdict = in_reason w.verdict (branch_threw p) h.verdict tt }

each_of : (P Q : Slot → Type 0) → ((y : Slot) → P y → Q y) → (l : List Opening) → Each P l → Each Q l
each_of P Q f [] h = tt
each_of P Q f (opening y p ∷ l) h = (f y h.0, each_of P Q f l h.1)

in_of : (P Q : Slot → Type 0) → ((y : Slot) → P y → Q y) → (v : Verdict) → InVerdict P v → InVerdict Q v
in_of P Q f independent h = tt
in_of P Q f (touched_open x) h = f x h
in_of P Q f (once_while_open x) h = f x h
in_of P Q f (branch_threw p) h = tt

pub holds_of : (P Q : Slot → Type 0) → ((y : Slot) → P y → Q y) → (w : Watch) → Holds P w → Holds Q w
holds_of P Q f w h = record { opened = each_of P Q f w.opened h.opened; verdict = in_of P Q f w.verdict h.verdict }

pub each_both : (P Q : Slot → Type 0) (l : List Opening) → Each P l → Each Q l → Each (λ y. P y × Q y) l
each_both P Q [] h k = tt
each_both P Q (opening y p ∷ l) h k = ((h.0, k.0), each_both P Q l h.1 k.1)

pub each_as : (P Q : Slot → Type 0) → ((y : Slot) → P y → Q y) → (l : List Opening) → Each P l → Each Q l
each_as P Q f l h = each_of P Q f l h
