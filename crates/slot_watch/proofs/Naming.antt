-- Slots by numbers under a naming of cells, and what the calls of the monitor come to by names.
use Rattle.std.proofs.Common.{◌≡◌, refl, ap, sym, ◌∙◌, subst, ℕ, zero, suc, ◌<◌, ◌≤◌, List, [], ◌∷◌, ◌++◌, length, get_or, Option, Some, None, IfNone, slice_get, false, arith}
use Rattle.std.proofs.lemmas.Option.{slice_get-get_or, slice_get_within}
use Rattle.std.specs.Prelude.{Result, Ok, Err, OnOk, OnErr}
use Rattle.turk_base.specs.declared.NoMemory.{NoMemory}
use Rattle.turk_base.specs.Names.{Path, root, sub, Name, cell, Part, shape, at, Slot, slot, holder, part_of, pick, under, Under, self, down}
use Rattle.turk_base.specs.State.{Verdict, independent, touched_open, once_while_open, branch_threw, first_reason, touched, touch_reason, open_at}
use Rattle.branch_check.specs.declared.Slot.{Slot as CodeSlot}
use Rattle.branch_check.specs.declared.OpenSlot.{OpenSlot}
use Rattle.branch_check.specs.Watch.{part_numbered, numbered, openings_of, Watch, Kept, watch_of, after_touch, after_once, after_write, after_join, after_throw}
use Rattle.key_table.specs.Keys.{Key, HasNumber, HasNone, NamesNone, AreDistinct, Grows}
use Rattle.slot_watch.specs.Keys.{part_in, part_of_key}
use Rattle.slot_watch.specs.Named.{key_number, number_of_cell, number_of_key, by_names, renamed_all, renamed, named, TellsApart}
use Rattle.slot_watch.specs.Within.{Each, Holds, CellsWithin, KeysWithin}
use Rattle.slot_watch.specs.Slots.{Slots, Turns, KeepsMarks}
use Rattle.key_table.proofs.KeyFacts.{get_front, get_last}
use Rattle.slot_watch.proofs.Renaming.{touch_is, once_is, write_is, join_is, throw_is, untouched, alike, holds_touch, holds_once, holds_write, holds_join, holds_throw, holds_of, each_both, each_as}

-- ---- slots that stand for numbers

code_of : Slot → CodeSlot
code_of x = record { cell = number_of_cell x; key = number_of_key x }

record IsFormed (x : Slot) : Type 0 where
  is : x ≡ numbered (record { cell = number_of_cell x; key = number_of_key x })

pub key_back : (k : ℕ) → key_number (part_numbered k) ≡ k
key_back zero = refl
key_back (suc k) = refl

formed : (s : CodeSlot) → IsFormed (numbered s)
formed s = record { is = ap (λ k. slot (cell root s.cell) (part_numbered k)) (sym (key_back s.key)) }

all_formed : (l : List OpenSlot) → Each IsFormed (openings_of l)
all_formed [] = tt
all_formed (o ∷ l) = (formed o.slot, all_formed l)

-- ---- keys

key_there : (keys : List Key) (k : ℕ) → suc k ≤ length keys → (key : Key) × (slice_get keys k ≡ Some key)
key_there keys k h = (get_or keys k [], slice_get-get_or keys k [] (omega arith))

part_apart : (keys : List Key) → AreDistinct keys → (a b : ℕ) → a ≤ length keys → b ≤ length keys → part_in keys a ≡ part_in keys b → a ≡ b
part_apart keys d zero zero h k e = refl
part_apart keys d zero (suc b) h k e =
    let t = key_there keys b k in
    let z : shape ≡ at t.0 = e ∙ ap part_of_key t.1 in cc
part_apart keys d (suc a) zero h k e =
    let t = key_there keys a h in
    let z : at t.0 ≡ shape = sym (ap part_of_key t.1) ∙ e in cc
part_apart keys d (suc a) (suc b) h k e =
    let s = key_there keys a h in
    let t = key_there keys b k in
    let z : at s.0 ≡ at t.0 = sym (ap part_of_key s.1) ∙ e ∙ ap part_of_key t.1 in
    let q : s.0 ≡ t.0 = cc in
    ap suc (d.once a b t.0 (s.1 ∙ ap Some q) t.1)

pub grows_long : (xs ys : List Key) → Grows xs ys → length xs ≤ length ys
grows_long [] ys g = omega arith
grows_long (x ∷ xs) ys g =
    slice_get_within ys (length xs) (get_or (x ∷ xs) (length xs) []) (g.stays (length xs) (get_or (x ∷ xs) (length xs) []) (slice_get-get_or (x ∷ xs) (length xs) [] (omega arith)))

part_stays : (old new : List Key) → Grows old new → (a : ℕ) → a ≤ length old → part_in new a ≡ part_in old a
part_stays old new g zero h = refl
part_stays old new g (suc a) h = let t = key_there old a h in ap part_of_key (g.stays a t.0 t.1 ∙ sym t.1)

pub has_part : (keys : List Key) (key : Key) (n : ℕ) → HasNumber keys key n → part_in keys n ≡ at key
has_part keys key n h = ap (part_in keys) h.number_is ∙ ap part_of_key h.stands

-- a number that no key has stands for the shape
pub no_part : (keys : List Key) (n : ℕ) → NamesNone keys n → part_in keys n ≡ shape
no_part keys zero h = refl
no_part keys (suc k) h = by (slice_get keys k) refl
  where
    by : (o : Option Key) → slice_get keys k ≡ o → part_of_key o ≡ shape
    by None e = refl
    by (Some key) e = absurd (h.none key (record { place = k; number_is = refl; stands = e }))

pub has_within : (keys : List Key) (key : Key) (n : ℕ) → HasNumber keys key n → n ≤ length keys
has_within keys key n h = let w : h.place < length keys = slice_get_within keys h.place key h.stands in omega (arith, h.number_is)

-- ---- the names of slots

-- more keys change no name
pub same_meaning : (nu : ℕ → Name) (old new : List Key) (k : Kept) → Grows old new → KeysWithin (length old) k → named nu new k ≡ named nu old k
same_meaning nu old new k g h =
    alike (by_names nu new) (by_names nu old) (watch_of k)
    (holds_of (λ x. number_of_key x ≤ length old) (λ x. by_names nu new x ≡ by_names nu old x) (λ x w. ap (slot (nu (number_of_cell x))) (part_stays old new g (number_of_key x) w)) (watch_of k) h)

pub more_keys : (old new : List Key) (k : Kept) → Grows old new → KeysWithin (length old) k → KeysWithin (length new) k
more_keys old new k g h = holds_of (λ x. number_of_key x ≤ length old) (λ x. number_of_key x ≤ length new) (λ x w. omega (arith, w, grows_long old new g)) (watch_of k) h

module _ (nu : ℕ → Name) (n : ℕ) (tells : TellsApart nu n) (keys : List Key) (distinct : AreDistinct keys) (s : CodeSlot) (here : s.cell < n) (key : s.key ≤ length keys) where
  one : (y : Slot) → IsFormed y → number_of_cell y < n → number_of_key y ≤ length keys → by_names nu keys y ≡ by_names nu keys (numbered s) → y ≡ numbered s
  one y f h k e =
      let c : number_of_cell y ≡ s.cell = tells.apart (number_of_cell y) s.cell h here (ap holder e) in
      let p : part_in keys (number_of_key y) ≡ part_in keys s.key = ap part_of e ∙ ap (part_in keys) (key_back s.key) in
      let q : number_of_key y ≡ s.key = part_apart keys distinct (number_of_key y) s.key k key p in
      f.is ∙ (λ i. slot (cell root (c i)) (part_numbered (q i)))

  pub all_apart : (k : Kept) → CellsWithin n k → KeysWithin (length keys) k → Each (λ y. by_names nu keys y ≡ by_names nu keys (numbered s) → y ≡ numbered s) (openings_of k.opened)
  all_apart k c w =
      each_as (λ y. IsFormed y × ((number_of_cell y < n) × (number_of_key y ≤ length keys))) (λ y. by_names nu keys y ≡ by_names nu keys (numbered s) → y ≡ numbered s)
      (λ y h. one y h.0 h.1.0 h.1.1) (openings_of k.opened)
      (each_both IsFormed (λ y. (number_of_cell y < n) × (number_of_key y ≤ length keys)) (openings_of k.opened) (all_formed k.opened)
      (each_both (λ y. number_of_cell y < n) (λ y. number_of_key y ≤ length keys) (openings_of k.opened) c.opened w.opened))

  name_is : by_names nu keys (numbered s) ≡ slot (nu s.cell) (part_in keys s.key)
  name_is = ap (λ k. slot (nu s.cell) (part_in keys k)) (key_back s.key)

  pub touch_named : (b : Path) (old new : Kept) → CellsWithin n old → KeysWithin (length keys) old → watch_of new ≡ after_touch b (numbered s) (watch_of old)
      → named nu keys new ≡ after_touch b (slot (nu s.cell) (part_in keys s.key)) (named nu keys old)
  touch_named b old new c w e =
      ap (renamed (by_names nu keys)) e ∙ touch_is (by_names nu keys) b (numbered s) (watch_of old) (all_apart old c w)
      ∙ ap (λ x. after_touch b x (named nu keys old)) name_is

  pub write_named : (b m : Path) (old new : Kept) → CellsWithin n old → KeysWithin (length keys) old → watch_of new ≡ after_write b m (numbered s) (watch_of old)
      → named nu keys new ≡ after_write b m (slot (nu s.cell) (part_in keys s.key)) (named nu keys old)
  write_named b m old new c w e =
      ap (renamed (by_names nu keys)) e ∙ write_is (by_names nu keys) b m (numbered s) (watch_of old) (all_apart old c w)
      ∙ ap (λ x. after_write b m x (named nu keys old)) name_is

-- ---- a key without a number is of no open slot

no_reason : (v : Verdict) → first_reason v independent ≡ v
no_reason independent = refl
no_reason (touched_open x) = refl
no_reason (once_while_open x) = refl
no_reason (branch_threw p) = refl

other_part : (keys : List Key) (key : Key) → HasNone keys key → (a : ℕ) → a ≤ length keys → part_in keys a ≡ at key → ⊥
other_part keys key h zero w e = cc
other_part keys key h (suc a) w e =
    let t = key_there keys a w in
    let z : at t.0 ≡ at key = sym (ap part_of_key t.1) ∙ e in
    let q : t.0 ≡ key = cc in
    h.missing a (t.1 ∙ ap Some q)

pub untouched_named : (nu : ℕ → Name) (keys : List Key) (key : Key) (c : Name) (b : Path) (k : Kept) → HasNone keys key → KeysWithin (length keys) k
    → named nu keys k ≡ after_touch b (slot c (at key)) (named nu keys k)
untouched_named nu keys key c b k h w =
    let t : touched b (slot c (at key)) (renamed_all (by_names nu keys) (openings_of k.opened)) ≡ false =
    untouched (by_names nu keys) b (slot c (at key)) (openings_of k.opened)
    (each_as (λ y. number_of_key y ≤ length keys) (λ y. by_names nu keys y ≡ slot c (at key) → ⊥) (λ y g e. other_part keys key h (number_of_key y) g (ap part_of e)) (openings_of k.opened) w.opened) in
    let v = (named nu keys k).verdict in
    λ i. record {
      opened = renamed_all (by_names nu keys) (openings_of k.opened);
      verdict = (sym (no_reason v) ∙ ap (λ t. first_reason v (touch_reason (slot c (at key)) t)) (sym t)) i;
    }

-- ---- the root begins each path

root_under : (p : Path) → Under root p
root_under root = self
root_under (sub i p) = down (root_under p)

pub by_root : (m : Path) (x : Slot) (w : Watch) → after_write root m x w ≡ after_touch root x w
by_root m x w = by (under root m)
  where
    by : (d : Dec (Under root m)) → (let v = after_touch root x w in record v { opened = pick d w.opened (open_at x root w.opened) }) ≡ after_touch root x w
    by (yes u) = refl
    by (no n) = absurd (n (root_under m))

-- ---- the calls: what holds of the numbers, and what they come to by names

module _ (n : ℕ) (b : Path) (s : CodeSlot) (old new : Kept) (key : s.key ≤ n) (within : KeysWithin n old) where
  pub keys_touch : watch_of new ≡ after_touch b (numbered s) (watch_of old) → KeysWithin n new
  keys_touch e = subst (Holds (λ x. number_of_key x ≤ n)) (sym e) (holds_touch (λ x. number_of_key x ≤ n) b (numbered s) (watch_of old) (omega (arith, key_back s.key, key)) within)

  pub keys_write : (m : Path) → watch_of new ≡ after_write b m (numbered s) (watch_of old) → KeysWithin n new
  keys_write m e = subst (Holds (λ x. number_of_key x ≤ n)) (sym e) (holds_write (λ x. number_of_key x ≤ n) b m (numbered s) (watch_of old) (omega (arith, key_back s.key, key)) within)

module _ (n : ℕ) (b : Path) (s : CodeSlot) (old new : Kept) (here : s.cell < n) (within : CellsWithin n old) where
  pub cells_touch : watch_of new ≡ after_touch b (numbered s) (watch_of old) → CellsWithin n new
  cells_touch e = subst (Holds (λ x. number_of_cell x < n)) (sym e) (holds_touch (λ x. number_of_cell x < n) b (numbered s) (watch_of old) here within)

  pub cells_write : (m : Path) → watch_of new ≡ after_write b m (numbered s) (watch_of old) → CellsWithin n new
  cells_write m e = subst (Holds (λ x. number_of_cell x < n)) (sym e) (holds_write (λ x. number_of_cell x < n) b m (numbered s) (watch_of old) here within)

module _ (P : Slot → Type 0) (old new : Kept) (within : Holds P (watch_of old)) where
  pub after_once_holds : (b : Path) → watch_of new ≡ after_once b (watch_of old) → Holds P (watch_of new)
  after_once_holds b e = subst (Holds P) (sym e) (holds_once P b (watch_of old) within)

  pub after_join_holds : (s : Path) → watch_of new ≡ after_join s (watch_of old) → Holds P (watch_of new)
  after_join_holds s e = subst (Holds P) (sym e) (holds_join P s (watch_of old) within)

  pub after_throw_holds : (p : Path) → watch_of new ≡ after_throw p (watch_of old) → Holds P (watch_of new)
  after_throw_holds p e = subst (Holds P) (sym e) (holds_throw P p (watch_of old) within)

abbrev pub AllHave : (Kept → Type 0) → List Kept → Type 0
AllHave P ms = (i : ℕ) (k : Kept) → slice_get ms i ≡ Some k → P k

pub marks_same : (P : Kept → Type 0) (ms ns : List Kept) → ns ≡ ms → AllHave P ms → AllHave P ns
marks_same P ms ns e h i k f = h i k (ap (λ l. slice_get l i) (sym e) ∙ f)

abbrev pub slots : List Key → Kept → List Kept → Slots
slots keys k ms = record { keys = keys; current = k; marks = ms }

pub keeps_same : (keys : List Key) (k l : Kept) (ms ns : List Kept) → ns ≡ ms → KeepsMarks (slots keys k ms) (slots keys l ns)
keeps_same keys k l ms ns e = record { marks = e; meaning = λ nu i m f. refl }

pub keeps_more : (keys more : List Key) (k l : Kept) (ms ns : List Kept) → Grows keys more → ns ≡ ms → AllHave (KeysWithin (length keys)) ms → KeepsMarks (slots keys k ms) (slots more l ns)
keeps_more keys more k l ms ns g e h = record { marks = e; meaning = λ nu i m f. same_meaning nu keys more m g (h i m f) }

module _ (keys : List Key) (distinct : AreDistinct keys) (old : Kept) (ms : List Kept) (within : KeysWithin (length keys) old) (s : CodeSlot) (key : s.key ≤ length keys) (y : Part) (part : part_in keys s.key ≡ y) (new : Kept) (ns : List Kept) (b : Path) where
  pub touch_turns : watch_of new ≡ after_touch b (numbered s) (watch_of old) → (n : ℕ) → s.cell < n → CellsWithin n old
      → Turns (λ nu w. after_touch b (slot (nu s.cell) y) w) n (slots keys old ms) (slots keys new ns)
  touch_turns e n here c = record {
    now = λ nu tells. touch_named nu n tells keys distinct s here key b old new c within e ∙ ap (λ y. after_touch b (slot (nu s.cell) y) (named nu keys old)) part;
  }

  pub write_turns : (m : Path) → watch_of new ≡ after_write b m (numbered s) (watch_of old) → (n : ℕ) → s.cell < n → CellsWithin n old
      → Turns (λ nu w. after_write b m (slot (nu s.cell) y) w) n (slots keys old ms) (slots keys new ns)
  write_turns m e n here c = record {
    now = λ nu tells. write_named nu n tells keys distinct s here key b m old new c within e ∙ ap (λ y. after_write b m (slot (nu s.cell) y) (named nu keys old)) part;
  }

pub either : {P Q X : Type 0} (r : Result (Unit {0}) NoMemory) → OnOk r P → OnErr r Q → (P → X) → (Q → X) → X
either (Ok u) p q f g = f p
either (Err e) p q f g = g q

pub when_none : {A P Q : Type 0} (r : Option A) → (P → Q) → IfNone r P → IfNone r Q
when_none None f h = f h
when_none (Some a) f h = tt

pub on_ok : {P Q : Type 0} (r : Result (Unit {0}) NoMemory) → (P → Q) → OnOk r P → OnOk r Q
on_ok (Ok u) f h = f h
on_ok (Err e) f h = tt

pub same_holds : (P : Slot → Type 0) (old new : Kept) → new ≡ old → Holds P (watch_of old) → Holds P (watch_of new)
same_holds P old new e h = subst (λ k. Holds P (watch_of k)) (sym e) h

pub either_mark : {P Q X : Type 0} (r : Result ℕ NoMemory) → OnOk r P → OnErr r Q → (P → X) → (Q → X) → X
either_mark (Ok u) p q f g = f p
either_mark (Err e) p q f g = g q

module _ (keys : List Key) (old : Kept) (ms : List Kept) (new : Kept) (ns : List Kept) (n : ℕ) where
  pub once_turns : (b : Path) → watch_of new ≡ after_once b (watch_of old) → Turns (λ nu w. after_once b w) n (slots keys old ms) (slots keys new ns)
  once_turns b e = record { now = λ nu tells. ap (renamed (by_names nu keys)) e ∙ once_is (by_names nu keys) b (watch_of old) }

  pub join_turns : (s : Path) → watch_of new ≡ after_join s (watch_of old) → Turns (λ nu w. after_join s w) n (slots keys old ms) (slots keys new ns)
  join_turns s e = record { now = λ nu tells. ap (renamed (by_names nu keys)) e ∙ join_is (by_names nu keys) s (watch_of old) }

  pub throw_turns : (p : Path) → watch_of new ≡ after_throw p (watch_of old) → Turns (λ nu w. after_throw p w) n (slots keys old ms) (slots keys new ns)
  throw_turns p e = record { now = λ nu tells. ap (renamed (by_names nu keys)) e ∙ throw_is (by_names nu keys) p (watch_of old) }

-- the same from what there was before more keys came
pub from_more : (keys more : List Key) (old : Kept) (ms : List Kept) → Grows keys more → KeysWithin (length keys) old → (f : (ℕ → Name) → Watch → Watch) (n : ℕ) (new : Slots)
    → Turns f n (slots more old ms) new → Turns f n (slots keys old ms) new
from_more keys more old ms g w f n new t = record { now = λ nu tells. t.now nu tells ∙ ap (f nu) (same_meaning nu keys more old g w) }

module _ (P : Kept → Type 0) (all ms : List Kept) (k : Kept) (e : all ≡ ms ++ k ∷ []) (h : AllHave P all) where
  pub last_mark : P k
  last_mark = h (length ms) k (ap (λ l. slice_get l (length ms)) e ∙ get_last ms k)

  pub first_marks : AllHave P ms
  first_marks i m f = h i m (ap (λ l. slice_get l i) e ∙ get_front ms (k ∷ []) i m f)
