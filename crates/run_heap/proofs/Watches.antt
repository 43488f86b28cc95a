-- What an edit does to open slots and verdict, as touches and writes one after another.
use Rattle.std.proofs.Common.{◌≡◌, refl, ap, sym, ◌∙◌, subst, Bool, true, false, List, [], ◌∷◌, Option, Some, None}
use Rattle.turk_base.specs.Names.{Path, Units, Name, Part, shape, at, Slot, slot, slot_eq, part_of, pick, under, Under, home}
use Rattle.turk_base.specs.Values.{Val, Property}
use Rattle.turk_base.specs.Cells.{Edit, look, put, remove, list, found, touches, writes, looked, set_at, deleted, unset, Props}
use Rattle.turk_base.specs.State.{Opening, opening, touched, open_at, first_reason, touch_reason, touch_all, write_all}
use Rattle.branch_check.specs.Watch.{Watch, after_touch, after_write}

abbrev pub edited_watch : Path → Name → Edit → Props → Watch → Watch
edited_watch b c e p w = record {
  opened = pick (under b (home c)) w.opened (write_all b c (writes e p) w.opened);
  verdict = touch_all b c (touches e p) w.opened w.verdict;
}

pub pick_same : {A B : Type 0} (d : Dec A) (x : B) → pick d x x ≡ x
pick_same (yes a) x = refl
pick_same (no n) x = refl

pub pick_no : {A B : Type 0} (d : Dec A) (x y : B) → ¬ A → pick d x y ≡ y
pick_no (yes a) x y n = absurd (n a)
pick_no (no n) x y m = refl

pub touched_other : (b : Path) (x y : Slot) (l : List Opening) → ¬ (x ≡ y) → touched b y (open_at x b l) ≡ touched b y l
touched_other b x y [] n = pick_no (slot_eq x y) (pick (under b b) (touched b y []) true) (touched b y []) n
touched_other b x y (opening z p ∷ l) n = by (slot_eq z x) (touched_other b x y l n)
  where
    by : (d : Dec (z ≡ x)) → touched b y (open_at x b l) ≡ touched b y l → touched b y (pick d (opening x b ∷ l) (opening z p ∷ open_at x b l)) ≡ touched b y (opening z p ∷ l)
    by (yes e) r =
        pick_no (slot_eq x y) (pick (under b b) (touched b y l) true) (touched b y l) n
        ∙ sym (pick_no (slot_eq z y) (pick (under p b) (touched b y l) true) (touched b y l) (λ f. n (sym e ∙ f)))
    by (no m) r = ap (λ t. pick (slot_eq z y) (pick (under p b) t true) t) r

module _ (b : Path) (c : Name) where
  pub touch_only : (x : Slot) (w : Watch) → record { opened = pick (under b (home c)) w.opened w.opened; verdict = first_reason w.verdict (touch_reason x (touched b x w.opened)) } ≡ after_touch b x w
  touch_only x w =
      let e = pick_same (under b (home c)) w.opened in
      λ i. record { opened = e i; verdict = first_reason w.verdict (touch_reason x (touched b x w.opened)) }

  two_writes : (x y : Slot) (w : Watch) → ¬ (x ≡ y)
      → record {
        opened = pick (under b (home c)) w.opened (open_at y b (open_at x b w.opened));
        verdict = first_reason (first_reason w.verdict (touch_reason x (touched b x w.opened))) (touch_reason y (touched b y w.opened));
      } ≡ after_write b (home c) y (after_write b (home c) x w)
  two_writes x y w n = by (under b (home c))
    where
      by : (d : Dec (Under b (home c))) →
          (let v = first_reason w.verdict (touch_reason x (touched b x w.opened)) in
          let l = pick d w.opened (open_at x b w.opened) in
          let start : Watch = record { opened = pick d w.opened (open_at y b (open_at x b w.opened)); verdict = first_reason v (touch_reason y (touched b y w.opened)) } in
          let end : Watch = record { opened = pick d l (open_at y b l); verdict = first_reason v (touch_reason y (touched b y l)) } in
          start ≡ end)
      by (yes u) = refl
      by (no m) =
          let t = sym (touched_other b x y w.opened n) in
          λ i. record {
            opened = open_at y b (open_at x b w.opened);
            verdict = first_reason (first_reason w.verdict (touch_reason x (touched b x w.opened))) (touch_reason y (t i));
          }

  apart : (k : Units) → ¬ (slot c (at k) ≡ slot c shape)
  apart k e = let z : at k ≡ shape = ap part_of e in cc

  module _ (k : Units) (p : Props) (w : Watch) where
    pub look_some : (v : Val) → found k p ≡ Some v → edited_watch b c (look k) p w ≡ after_touch b (slot c (at k)) w
    look_some v e = ap (λ o. record { opened = pick (under b (home c)) w.opened w.opened; verdict = touch_all b c (looked k o) w.opened w.verdict }) e ∙ touch_only (slot c (at k)) w

    pub look_none : found k p ≡ None → edited_watch b c (look k) p w ≡ after_touch b (slot c shape) w
    look_none e = ap (λ o. record { opened = pick (under b (home c)) w.opened w.opened; verdict = touch_all b c (looked k o) w.opened w.verdict }) e ∙ touch_only (slot c shape) w

    pub put_some : (u v : Val) → found k p ≡ Some u → edited_watch b c (put k v) p w ≡ after_write b (home c) (slot c (at k)) w
    put_some u v e = ap (λ o. record { opened = pick (under b (home c)) w.opened (write_all b c (set_at k o) w.opened); verdict = touch_all b c (set_at k o) w.opened w.verdict }) e

    pub put_none : (v : Val) → found k p ≡ None → edited_watch b c (put k v) p w ≡ after_write b (home c) (slot c shape) (after_write b (home c) (slot c (at k)) w)
    put_none v e =
        ap (λ o. record { opened = pick (under b (home c)) w.opened (write_all b c (set_at k o) w.opened); verdict = touch_all b c (set_at k o) w.opened w.verdict }) e
        ∙ two_writes (slot c (at k)) (slot c shape) w (apart k)

    pub remove_some : (v : Val) → found k p ≡ Some v → edited_watch b c (remove k) p w ≡ after_write b (home c) (slot c shape) (after_write b (home c) (slot c (at k)) w)
    remove_some v e =
        ap (λ o. record { opened = pick (under b (home c)) w.opened (write_all b c (unset k o) w.opened); verdict = touch_all b c (deleted k o) w.opened w.verdict }) e
        ∙ two_writes (slot c (at k)) (slot c shape) w (apart k)

    pub remove_none : found k p ≡ None → edited_watch b c (remove k) p w ≡ after_touch b (slot c shape) w
    remove_none e =
        ap (λ o. record { opened = pick (under b (home c)) w.opened (write_all b c (unset k o) w.opened); verdict = touch_all b c (deleted k o) w.opened w.verdict }) e
        ∙ touch_only (slot c shape) w

  pub list_watch : (p : Props) (w : Watch) → edited_watch b c list p w ≡ after_touch b (slot c shape) w
  list_watch p w = touch_only (slot c shape) w
