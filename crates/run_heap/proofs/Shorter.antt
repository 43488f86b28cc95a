-- The length of an array falls: its elements are deleted one after another.
use Rattle.std.proofs.Common.{◌≡◌, refl, ap, sym, ◌∙◌, subst, ℕ, zero, suc, ◌-◌, ◌<◌, ◌≤◌, nat_lt, Bool, true, false, true≢false, not, List, [], ◌∷◌, length, Option, Some, None, is_some, option_map, cond, slice_get, inl, inr, if◌then◌else◌, arith}
use Rattle.std.specs.Prelude.{◌⊎◌, IsSome, pos, negsuc}
use Rattle.std.specs.List.{IsDistinct}
use Rattle.std.specs.Map.{lookup, remove_entry}
use Rattle.std.specs.Map as std
use Rattle.std.proofs.lemmas.Bool.Decides.{nat_tests}
use Rattle.turk_base.specs.Names.{Path, path_in, Units, Name, Part, shape, at, Slot, slot, slot_eq, part_of, pick, under, Under, self, home, name_eq}
use Rattle.turk_base.specs.Values.{Val, Property, Known, Number}
use Rattle.turk_base.specs.Cells.{Edit, SaysOf, says, remove, trim, grow, put, found, keys_of, drop_key, drop_all, doomed, put_down, past_end, class_of, lower_than, KeyClass, index, past, named, deleted, deleted_all, unset, edit_cost, created, new_props, grows_at, grown, grown_at, set_at, set_key, length_key, touches, writes}
use Rattle.turk_base.specs.State.{St, Opening, opening, Verdict, independent, touched_open, once_while_open, branch_threw, touched, open_at, first_reason, touch_reason, touch_all, write_all, change, Act, gives, act, act_change, edited, with_props}
use Rattle.turk_base.specs.Steps.{Small, give, step, bind}
use Rattle.branch_check.specs.Watch.{Watch}
use Rattle.value_cells.specs.declared.Value.{Value}
use Rattle.value_cells.specs.declared.Value.TheVariants as code
use Rattle.value_cells.specs.declared.OpStop.{OpStop}
use Rattle.value_cells.specs.Comes.{Comes, goes, then_goes, acted, charged, comes}
use Rattle.value_cells.specs.Held.{Key, Props, key_eq, own, props_at, IsWhole}
use Rattle.value_cells.specs.Seen.{Naming, Fits, val_in}
use Rattle.value_cells.specs.Does.{Told, Says, told, told_stop, Did, comes_from}
use Rattle.value_cells.proofs.Turns.{fits_before}
use Rattle.slot_watch.specs.Named.{named as named_slots, TellsApart}
use Rattle.run_heap.specs.Core.{Core, count, names_in}
use Rattle.run_heap.specs.Lengths.{grows_in}
use Rattle.run_heap.specs.Placed.{placed, Around, seen_in}
use Rattle.run_heap.specs.Placed as spec
use Rattle.run_heap.specs.Works.{Works}
use Rattle.run_heap.proofs.Tables.{tells, props_here}
use Rattle.run_heap.proofs.Watches.{edited_watch, pick_same, pick_no, touched_other}
use Rattle.run_heap.proofs.Keys.{same_key, key_same, found_in, drop_in, keys_in}
use Rattle.run_heap.proofs.Acts.{Edits}
use Rattle.run_heap.proofs.Look.{with_same}
use Rattle.run_heap.proofs.Turn.{works_one, works_then, works_out, edit_goes, keeps_same}

-- ---- the keys that are deleted

other_past : (z : ℕ) (ks : List Key) (k : Key) (rest : List Key) → doomed z ks ≡ k ∷ rest → past_end z (class_of k) ≡ true
unfolding doomed
other_past z [] k rest e = cc
other_past z (x ∷ ks) k rest e = by (past_end z (class_of x)) refl (doomed z ks) e (other_past z ks k)
  where
    front : (j : Key) (js : List Key) (b : Bool) → past_end z (class_of x) ≡ true → (if b then j ∷ put_down x js else x ∷ j ∷ js) ≡ k ∷ rest → ((rest : List Key) → j ∷ js ≡ k ∷ rest → past_end z (class_of k) ≡ true) → past_end z (class_of k) ≡ true
    front j js true p e r = let h : j ≡ k = cc in r js (ap (λ y. y ∷ js) h)
    front j js false p e r = let h : x ≡ k = cc in subst (λ y. past_end z (class_of y) ≡ true) h p

    by : (t : Bool) → past_end z (class_of x) ≡ t → (d : List Key) → (if t then put_down x d else d) ≡ k ∷ rest → ((rest : List Key) → d ≡ k ∷ rest → past_end z (class_of k) ≡ true) → past_end z (class_of k) ≡ true
    by true p [] e r = let h : x ≡ k = cc in subst (λ y. past_end z (class_of y) ≡ true) h p
    by true p (j ∷ js) e r = front j js (lower_than (class_of x) (class_of j)) p e r
    by false p d e r = r rest e

lower_self : (c : KeyClass) → lower_than c c ≡ false
lower_self (index i) = grind (arith, nat_tests)
lower_self past = refl
lower_self named = refl

some_cond : {A : Type 0} (t : Bool) (x : A) (o : Option A) → IsSome o → IsSome (cond t (Some x) o)
some_cond true x o h = refl
some_cond false x o h = h

-- the first of them is a key that is there
pub doomed_there : (z : ℕ) (ps : Props) (k : Key) (rest : List Key) → doomed z (std.keys_of ps) ≡ k ∷ rest → IsSome (lookup (key_eq k) ps)
unfolding doomed
doomed_there z [] k rest e = cc
doomed_there z (p ∷ ps) k rest e = by (past_end z (class_of p.0)) (doomed z (std.keys_of ps)) e (doomed_there z ps k)
  where
    it : p.0 ≡ k → IsSome (cond (key_eq k p.0) (Some p.1) (lookup (key_eq k) ps))
    it h = ap (λ t. is_some (cond t (Some p.1) (lookup (key_eq k) ps))) (ap (key_eq k) h ∙ key_same k)

    front : (j : Key) (js : List Key) (b : Bool) → (if b then j ∷ put_down p.0 js else p.0 ∷ j ∷ js) ≡ k ∷ rest → ((rest : List Key) → j ∷ js ≡ k ∷ rest → IsSome (lookup (key_eq k) ps))
        → IsSome (cond (key_eq k p.0) (Some p.1) (lookup (key_eq k) ps))
    front j js true e r = let h : j ≡ k = cc in some_cond (key_eq k p.0) p.1 (lookup (key_eq k) ps) (r js (ap (λ y. y ∷ js) h))
    front j js false e r = let h : p.0 ≡ k = cc in it h

    by : (t : Bool) (d : List Key) → (if t then put_down p.0 d else d) ≡ k ∷ rest → ((rest : List Key) → d ≡ k ∷ rest → IsSome (lookup (key_eq k) ps)) → IsSome (cond (key_eq k p.0) (Some p.1) (lookup (key_eq k) ps))
    by true [] e r = let h : p.0 ≡ k = cc in it h
    by true (j ∷ js) e r = front j js (lower_than (class_of p.0) (class_of j)) e r
    by false d e r = some_cond (key_eq k p.0) p.1 (lookup (key_eq k) ps) (r rest e)

-- without it the others are left
pub doomed_rest : (z : ℕ) (ps : Props) (k : Key) (rest : List Key) → doomed z (std.keys_of ps) ≡ k ∷ rest → doomed z (std.keys_of (remove_entry (key_eq k) ps)) ≡ rest
unfolding doomed
doomed_rest z [] k rest e = cc
doomed_rest z (p ∷ ps) k rest e = by (key_eq k p.0) refl (past_end z (class_of p.0)) refl (doomed z (std.keys_of ps)) refl e (doomed_rest z ps k)
  where
    differ : {A : Type 0} → key_eq k p.0 ≡ false → p.0 ≡ k → A
    differ n h = absurd (true≢false (sym (key_same k) ∙ ap (key_eq k) (sym h) ∙ n))

    first : (j : Key) (js : List Key) (b : Bool) → lower_than (class_of p.0) (class_of j) ≡ b → k ≡ p.0 → (if b then j ∷ put_down p.0 js else p.0 ∷ j ∷ js) ≡ k ∷ rest → j ∷ js ≡ rest
    first j js true l s e =
        let h : j ≡ k = cc in
        absurd (true≢false (sym l ∙ ap (λ y. lower_than (class_of p.0) (class_of y)) (h ∙ s) ∙ lower_self (class_of p.0)))
    first j js false l s e = cc

    later : (j : Key) (js : List Key) (b : Bool) → lower_than (class_of p.0) (class_of j) ≡ b → key_eq k p.0 ≡ false → (if b then j ∷ put_down p.0 js else p.0 ∷ j ∷ js) ≡ k ∷ rest
        → ((rest : List Key) → j ∷ js ≡ k ∷ rest → doomed z (std.keys_of (remove_entry (key_eq k) ps)) ≡ rest) → put_down p.0 (doomed z (std.keys_of (remove_entry (key_eq k) ps))) ≡ rest
    later j js true l n e r =
        let h : j ≡ k = cc in
        let t : put_down p.0 js ≡ rest = cc in
        ap (put_down p.0) (r js (ap (λ y. y ∷ js) h)) ∙ t
    later j js false l n e r = let h : p.0 ≡ k = cc in differ n h

    by : (q : Bool) → key_eq k p.0 ≡ q → (t : Bool) → past_end z (class_of p.0) ≡ t → (d : List Key) → doomed z (std.keys_of ps) ≡ d → (if t then put_down p.0 d else d) ≡ k ∷ rest
        → ((rest : List Key) → d ≡ k ∷ rest → doomed z (std.keys_of (remove_entry (key_eq k) ps)) ≡ rest)
        → doomed z (std.keys_of (cond q ps (p ∷ remove_entry (key_eq k) ps))) ≡ rest
    by true s false p0 d w e r = absurd (true≢false (sym (other_past z (std.keys_of ps) k rest (w ∙ e)) ∙ ap (λ y. past_end z (class_of y)) (same_key k p.0 s) ∙ p0))
    by true s true p0 [] w e r = let h : [] ≡ rest = cc in w ∙ h
    by true s true p0 (j ∷ js) w e r = w ∙ first j js (lower_than (class_of p.0) (class_of j)) refl (same_key k p.0 s) e
    by false s false p0 d w e r = ap (λ t. if t then put_down p.0 (doomed z (std.keys_of (remove_entry (key_eq k) ps))) else doomed z (std.keys_of (remove_entry (key_eq k) ps))) p0 ∙ r rest e
    by false s true p0 [] w e r = let h : p.0 ≡ k = cc in differ s h
    by false s true p0 (j ∷ js) w e r =
        ap (λ t. if t then put_down p.0 (doomed z (std.keys_of (remove_entry (key_eq k) ps))) else doomed z (std.keys_of (remove_entry (key_eq k) ps))) p0
        ∙ later j js (lower_than (class_of p.0) (class_of j)) refl s e r

-- one more key from the end
pub doomed_next : (z : ℕ) (k : Key) (ks : List Key) (b : Bool) → past_end z (class_of k) ≡ b → doomed z (k ∷ ks) ≡ (if b then put_down k (doomed z ks) else doomed z ks)
unfolding doomed
doomed_next z k ks b e = ap (λ t. if t then put_down k (doomed z ks) else doomed z ks) e

pub doomed_none : (z : ℕ) → doomed z [] ≡ []
unfolding doomed
doomed_none z = refl

-- ---- the slots

true_not : {A : Type 0} → true ≡ false → A
true_not e = absurd (true≢false e)

module _ (b : Path) where
  self_open : (l : List Opening) (x : Slot) → touched b x l ≡ false → touched b x (open_at x b l) ≡ false
  self_open l x h = over l h
    where
      front : (d : Dec (x ≡ x)) (e : Dec (Under b b)) (t : Bool) → t ≡ false → pick d (pick e t true) t ≡ false
      front (yes q) (yes u) t h = h
      front (yes q) (no n) t h = absurd (n self)
      front (no n) e t h = h

      inner : {p : Path} (e : Dec (Under p b)) (t : Bool) → pick e t true ≡ false → t ≡ false
      inner (yes u) t h = h
      inner (no n) t h = true_not h

      step_on : (y : Slot) (p : Path) (l : List Opening) (d : Dec (y ≡ x)) → pick d (pick (under p b) (touched b x l) true) (touched b x l) ≡ false → (touched b x l ≡ false → touched b x (open_at x b l) ≡ false)
          → touched b x (pick d (opening x b ∷ l) (opening y p ∷ open_at x b l)) ≡ false
      step_on y p l (yes e) h r = front (slot_eq x x) (under b b) (touched b x l) (inner (under p b) (touched b x l) h)
      step_on y p l (no n) h r = pick_no (slot_eq y x) (pick (under p b) (touched b x (open_at x b l)) true) (touched b x (open_at x b l)) n ∙ r h

      over : (l : List Opening) → touched b x l ≡ false → touched b x (open_at x b l) ≡ false
      over [] h = front (slot_eq x x) (under b b) false refl
      over (opening y p ∷ l) h = step_on y p l (slot_eq y x) h (over l)

  -- another touch of x tells nothing new
  Settled : Slot → List Opening → Verdict → Type 0
  Settled x l v = ((r : Verdict) → first_reason v r ≡ v) ⊎ (touched b x l ≡ false)

  settled_touch : (x : Slot) (l : List Opening) (v : Verdict) → Settled x l (first_reason v (touch_reason x (touched b x l)))
  unfolding Settled
  settled_touch x l v = by v (touched b x l) refl
    where
      by : (v : Verdict) (t : Bool) → touched b x l ≡ t → ((r : Verdict) → first_reason (first_reason v (touch_reason x t)) r ≡ first_reason v (touch_reason x t)) ⊎ (touched b x l ≡ false)
      by independent true e = inl (λ r. refl)
      by independent false e = inr e
      by (touched_open y) t e = inl (λ r. refl)
      by (once_while_open y) t e = inl (λ r. refl)
      by (branch_threw y) t e = inl (λ r. refl)

  settled_later : (x : Slot) (l : List Opening) (v q : Verdict) → Settled x l v → Settled x l (first_reason v q)
  unfolding Settled
  settled_later x l v q (inl f) = inl (λ r. ap (λ w. first_reason w r) (f q) ∙ f r ∙ sym (f q))
  settled_later x l v q (inr e) = inr e

  module _ (c : Name) where
    settled_one : (x y : Slot) (l : List Opening) (v : Verdict) → Settled x l v → first_reason v (touch_reason y (touched b y (open_at x b l))) ≡ first_reason v (touch_reason y (touched b y l))
    unfolding Settled
    settled_one x y l v (inl f) = f (touch_reason y (touched b y (open_at x b l))) ∙ sym (f (touch_reason y (touched b y l)))
    settled_one x y l v (inr e) = ap (λ t. first_reason v (touch_reason y t)) (by (slot_eq x y))
      where
        by : Dec (x ≡ y) → touched b y (open_at x b l) ≡ touched b y l
        by (yes q) = subst (λ z. touched b z (open_at x b l) ≡ false) q (self_open l x e) ∙ sym (subst (λ z. touched b z l ≡ false) q e)
        by (no n) = touched_other b x y l n

    touch_settled : (x : Slot) (ys : List Part) (l : List Opening) (v : Verdict) → Settled x l v → touch_all b c ys (open_at x b l) v ≡ touch_all b c ys l v
    touch_settled x [] l v s = refl
    touch_settled x (y ∷ ys) l v s =
        ap (touch_all b c ys (open_at x b l)) (settled_one x (slot c y) l v s)
        ∙ touch_settled x ys l (first_reason v (touch_reason (slot c y) (touched b (slot c y) l))) (settled_later x l v (touch_reason (slot c y) (touched b (slot c y) l)) s)

    apart_parts : (k : Units) → ¬ (slot c (at k) ≡ slot c shape)
    apart_parts k e = let z : at k ≡ shape = ap part_of e in cc

    -- the keys deleted
    abbrev pub cut_watch : List Units → Watch → Watch
    cut_watch ks w = record {
      opened = pick (under b (home c)) w.opened (write_all b c (deleted_all ks) w.opened);
      verdict = touch_all b c (deleted_all ks) w.opened w.verdict;
    }

    -- the verdict after the key and the shape are touched
    abbrev after_both : Units → Watch → Verdict
    after_both k w = first_reason (first_reason w.verdict (touch_reason (slot c (at k)) (touched b (slot c (at k)) w.opened))) (touch_reason (slot c shape) (touched b (slot c shape) w.opened))

    cut_later : (k : Units) (ks : List Part) (w : Watch) → touch_all b c ks (open_at (slot c shape) b (open_at (slot c (at k)) b w.opened)) (after_both k w) ≡ touch_all b c ks w.opened (after_both k w)
    unfolding Settled
    cut_later k ks w =
        let l = w.opened in
        let v = first_reason w.verdict (touch_reason (slot c (at k)) (touched b (slot c (at k)) l)) in
        let first : Settled (slot c (at k)) l (after_both k w) = settled_later (slot c (at k)) l v (touch_reason (slot c shape) (touched b (slot c shape) l)) (settled_touch (slot c (at k)) l w.verdict) in
        let same : touched b (slot c shape) (open_at (slot c (at k)) b l) ≡ touched b (slot c shape) l = touched_other b (slot c (at k)) (slot c shape) l (apart_parts k) in
        let second : Settled (slot c shape) (open_at (slot c (at k)) b l) (after_both k w) =
        subst (λ t. Settled (slot c shape) (open_at (slot c (at k)) b l) (first_reason v (touch_reason (slot c shape) t))) same (settled_touch (slot c shape) (open_at (slot c (at k)) b l) v) in
        touch_settled (slot c shape) ks (open_at (slot c (at k)) b l) (after_both k w) second ∙ touch_settled (slot c (at k)) ks l (after_both k w) first

    pub cut_first : (k : Units) (ks : List Units) (w : Watch) → cut_watch (k ∷ ks) w ≡ cut_watch ks (cut_watch (k ∷ []) w)
    cut_first k ks w = by (under b (home c))
      where
        by : (d : Dec (Under b (home c))) →
            (let mid = pick d w.opened (open_at (slot c shape) b (open_at (slot c (at k)) b w.opened)) in
            let start : Watch = record { opened = pick d w.opened (write_all b c (deleted_all ks) (open_at (slot c shape) b (open_at (slot c (at k)) b w.opened))); verdict = touch_all b c (deleted_all ks) w.opened (after_both k w) } in
            let end : Watch = record { opened = pick d mid (write_all b c (deleted_all ks) mid); verdict = touch_all b c (deleted_all ks) mid (after_both k w) } in
            start ≡ end)
        by (yes u) = refl
        by (no m) =
            let e = sym (cut_later k (deleted_all ks) w) in
            λ i. record {
              opened = write_all b c (deleted_all ks) (open_at (slot c shape) b (open_at (slot c (at k)) b w.opened));
              verdict = e i;
            }

-- ---- the state

pick_twice : {A B : Type 0} (d : Dec A) (x y z : B) → pick d x (pick d y z) ≡ pick d x z
pick_twice (yes a) x y z = refl
pick_twice (no n) x y z = refl

pick_yes : {A B : Type 0} (d : Dec A) (x y : B) → A → pick d x y ≡ x
pick_yes (yes a) x y h = refl
pick_yes (no n) x y h = absurd (n h)

module _ (b : Path) (c : Name) (σ : St) where
  abbrev watch : Watch
  watch = record { opened = σ.opened; verdict = σ.verdict }

  -- the state with a watch and properties
  stands : Watch → (Name → List Property) → St
  stands w ps = record σ { verdict = w.verdict; props = ps; opened = w.opened }

  pub edited_trim : (z : ℕ) (k : Key) (rest : List Key) (v : Val) → doomed z (keys_of (σ.props c)) ≡ k ∷ rest → found k (σ.props c) ≡ Some v → doomed z (keys_of (drop_key k (σ.props c))) ≡ rest
      → edited b c (trim z) σ ≡ edited b c (trim z) (edited b c (remove k) σ)
  unfolding stands
  edited_trim z k rest v d f e =
      let P = σ.props c in
      let Q = drop_key k P in
      let w : Watch = record { opened = σ.opened; verdict = σ.verdict } in
      let w1 : Watch = cut_watch b c (k ∷ []) w in
      let at_c : pick (name_eq c c) Q P ≡ Q = pick_yes (name_eq c c) Q P refl in
      let left : edited b c (trim z) σ ≡ stands (cut_watch b c (k ∷ rest) w) (with_props c (drop_all rest Q) σ.props) =
      ap (λ ks. stands (cut_watch b c ks w) (with_props c (drop_all ks P) σ.props)) d in
      let mid : edited b c (remove k) σ ≡ stands w1 (with_props c Q σ.props) =
      ap (λ o. record σ { verdict = touch_all b c (deleted k o) σ.opened σ.verdict; props = with_props c Q σ.props; opened = pick (under b (home c)) σ.opened (write_all b c (unset k o) σ.opened) }) f in
      let right : edited b c (trim z) (stands w1 (with_props c Q σ.props)) ≡ stands (cut_watch b c rest w1) (with_props c (drop_all rest Q) (with_props c Q σ.props)) =
      ap (λ q. stands (cut_watch b c (doomed z (keys_of q)) w1) (with_props c (drop_all (doomed z (keys_of q)) q) (with_props c Q σ.props))) at_c
      ∙ ap (λ ks. stands (cut_watch b c ks w1) (with_props c (drop_all ks Q) (with_props c Q σ.props))) e in
      let twice : with_props c (drop_all rest Q) (with_props c Q σ.props) ≡ with_props c (drop_all rest Q) σ.props = λ x m. pick_twice (name_eq m c) (drop_all rest Q) Q (σ.props m) x in
      left ∙ (λ x. stands (cut_first b c k rest w x) (sym twice x)) ∙ sym right ∙ ap (edited b c (trim z)) (sym mid)

  pub edited_grow : (i : ℕ) (v : Val) → grows_at i (found length_key (σ.props c)) ≡ true → found length_key (σ.props c) ≡ Some v
      → edited b c (grow i) σ ≡ edited b c (put length_key (Number (pos (suc i)))) σ
  edited_grow i v g f =
      let P = σ.props c in
      ap (λ t. record σ { verdict = touch_all b c (grown_at t) σ.opened σ.verdict; props = with_props c (grown t i P) σ.props; opened = pick (under b (home c)) σ.opened (write_all b c (grown_at t) σ.opened) }) g
      ∙ sym (ap (λ o. record σ { verdict = touch_all b c (set_at length_key o) σ.opened σ.verdict; props = with_props c (set_key length_key (Number (pos (suc i))) P) σ.props; opened = pick (under b (home c)) σ.opened (write_all b c (set_at length_key o) σ.opened) }) f)

-- ---- what comes of it

module _ (s b : Path) (body : Bool) (c : Name) where
  free_change : {A : Type 0} (e : Edit) (go : SaysOf e → Small A) (σ : St) (n : ℕ) → edit_cost e (σ.props c) ≡ 0
      → comes (step (change true c e) go) s b body σ n ≡ then_goes (acted (act_change (σ.known c) b c e σ) n) (λ a τ m. comes (go a) s b body τ m)
  unfolding comes act
  free_change e go σ n cost =
      let u : nat_lt n 0 ≡ false = grind (arith, nat_tests) in
      let z : n - 0 ≡ n = omega arith in
      let rest = λ (k : ℕ). then_goes (acted (act_change (σ.known c) b c e σ) k) (λ a τ m. comes (go a) s b body τ m) in
      ap (λ k. charged (nat_lt n k) k σ n (rest (n - k))) cost ∙ ap (λ t. charged t 0 σ n (rest (n - 0))) u ∙ ap rest z

  pub comes_trim : (z : ℕ) (k : Key) (rest : List Key) (v : Val) (σ : St) (n : ℕ) → doomed z (keys_of (σ.props c)) ≡ k ∷ rest → found k (σ.props c) ≡ Some v → doomed z (keys_of (drop_key k (σ.props c))) ≡ rest
      → comes (step (change true c (trim z)) give) s b body σ n ≡ comes (step (change true c (remove k)) (λ _. step (change true c (trim z)) give)) s b body σ n
  unfolding comes
  comes_trim z k rest v σ n d f e =
      free_change (trim z) give σ n refl ∙ by (σ.known c) refl ∙ sym (free_change (remove k) (λ _. step (change true c (trim z)) give) σ n refl)
    where
      by : (o : Option Known) → σ.known c ≡ o → then_goes (acted (act_change o b c (trim z) σ) n) (λ a τ m. comes (give a) s b body τ m) ≡ then_goes (acted (act_change o b c (remove k) σ) n) (λ a τ m. comes (step (change true c (trim z)) give) s b body τ m)
      by None q = refl
      by (Some w) q =
          ap (λ τ. goes tt τ n) (edited_trim b c σ z k rest v d f e)
          ∙ sym (free_change (trim z) give (edited b c (remove k) σ) n refl ∙ ap (λ o. then_goes (acted (act_change o b c (trim z) (edited b c (remove k) σ)) n) (λ a τ m. goes a τ m)) q)

  pub comes_grow : (i : ℕ) (v : Val) (σ : St) (n : ℕ) → grows_at i (found length_key (σ.props c)) ≡ true → found length_key (σ.props c) ≡ Some v
      → comes (step (change true c (grow i)) give) s b body σ n ≡ comes (step (change true c (put length_key (Number (pos (suc i))))) give) s b body σ n
  unfolding comes
  comes_grow i v σ n g f = free_change (grow i) give σ n refl ∙ by (σ.known c) ∙ sym (free_change (put length_key (Number (pos (suc i)))) give σ n (ap created f))
    where
      by : (o : Option Known) → then_goes (acted (act_change o b c (grow i) σ) n) (λ a τ m. comes (give a) s b body τ m)
          ≡ then_goes (acted (act_change o b c (put length_key (Number (pos (suc i)))) σ) n) (λ a τ m. comes (give a) s b body τ m)
      by None = refl
      by (Some w) = ap (λ τ. goes tt τ n) (edited_grow b c σ i v g f)

-- ---- the steps of the heap

-- one program does what another does from a heap
pub works_as : {A : Type 0} (old : Core) → IsWhole old.cells.now → (f g : Naming → Small A) → ((r : Around) (nu : Naming) → TellsApart nu (count old) → comes_from (f nu) nu (seen_in r old) ≡ comes_from (g nu) nu (seen_in r old))
    → (said : Naming → Told A) (last : Core) → Works g said old last → Works f said old last
works_as old whole f g same said last y = record {
  all = λ r.
      let l = y.all r in
      record {
        stays = l.stays;
        did = λ nu fits.
            let before = fits_before nu (names_in old.cells.now) (names_in last.cells.now) l.stays.grows fits in
            subst (λ c. Did c (said nu) (placed nu last (r.base nu)) last.left) (sym (same r nu (tells nu old.cells.now whole before))) (l.did nu fits);
      };
}

module _ (i : ℕ) (old : Core) (whole : IsWhole old.cells.now) (here : i < count old) where
  abbrev at_i : Props
  at_i = props_at old.cells.now i

  some_of : {A : Type 0} (o : Option A) → IsSome o → (v : A) × (o ≡ Some v)
  some_of (Some v) h = (v, refl)
  some_of None h = absurd (true≢false (sym h))

  module _ (z : ℕ) where
    trim_as : (k : Key) (rest : List Key) → IsDistinct key_eq (std.keys_of at_i) → doomed z (std.keys_of at_i) ≡ k ∷ rest → (r : Around) (nu : Naming) → TellsApart nu (count old)
        → comes_from (step (change true (nu i) (trim z)) give) nu (seen_in r old) ≡ comes_from (bind (step (change true (nu i) (remove k)) give) (λ _. step (change true (nu i) (trim z)) give)) nu (seen_in r old)
    trim_as k rest distinct d r nu apart =
        let σ = placed nu old (r.base nu) in
        let p : σ.props (nu i) ≡ spec.props_in nu at_i = props_here nu old.cells.now apart i here in
        let v = some_of (lookup (key_eq k) at_i) (doomed_there z at_i k rest d) in
        comes_trim (path_in old.place.path) (path_in old.place.branch) r.body (nu i) z k rest (val_in nu v.0) σ old.left
        (ap (λ q. doomed z (keys_of q)) p ∙ ap (doomed z) (keys_in nu at_i) ∙ d)
        (ap (found k) p ∙ found_in nu k at_i ∙ ap (option_map (val_in nu)) v.1)
        (ap (λ q. doomed z (keys_of (drop_key k q))) p ∙ ap (λ q. doomed z (keys_of q)) (drop_in nu k at_i distinct) ∙ ap (doomed z) (keys_in nu (remove_entry (key_eq k) at_i)) ∙ doomed_rest z at_i k rest d)

    pub trims_on : (k : Key) (rest : List Key) (said : Naming → Told (Unit {0})) (mid last : Core) → IsDistinct key_eq (std.keys_of at_i) → doomed z (std.keys_of at_i) ≡ k ∷ rest
        → Works (λ nu. step (change true (nu i) (remove k)) give) (λ nu. Says tt) old mid → Works (λ nu. step (change true (nu i) (trim z)) give) said mid last → Works (λ nu. step (change true (nu i) (trim z)) give) said old last
    trims_on k rest said mid last distinct d x y =
        works_as old whole (λ nu. step (change true (nu i) (trim z)) give) (λ nu. bind (step (change true (nu i) (remove k)) give) (λ _. step (change true (nu i) (trim z)) give)) (trim_as k rest distinct d) said last
        (works_then (λ nu. step (change true (nu i) (remove k)) give) (λ nu. tt) (λ nu _. step (change true (nu i) (trim z)) give) said old mid last x y)

    pub trims_out : (k : Key) (rest : List Key) (e : OpStop) (mid : Core) → IsDistinct key_eq (std.keys_of at_i) → doomed z (std.keys_of at_i) ≡ k ∷ rest
        → Works (λ nu. step (change true (nu i) (remove k)) give) (λ nu. told_stop e) old mid → Works (λ nu. step (change true (nu i) (trim z)) give) (λ nu. told_stop e) old mid
    trims_out k rest e mid distinct d x =
        works_as old whole (λ nu. step (change true (nu i) (trim z)) give) (λ nu. bind (step (change true (nu i) (remove k)) give) (λ _. step (change true (nu i) (trim z)) give)) (trim_as k rest distinct d) (λ nu. told_stop e) mid
        (works_out (λ nu. step (change true (nu i) (remove k)) give) (λ nu _. step (change true (nu i) (trim z)) give) e old mid x)

    pub trims_none : doomed z (std.keys_of at_i) ≡ [] → Works (λ nu. step (change true (nu i) (trim z)) give) (λ nu. Says tt) old old
    trims_none d =
        let e = λ (nu : Naming). trim z in
        let none = λ (nu : Naming). ap (doomed z) (keys_in nu at_i) ∙ d in
        let b = path_in old.place.branch in
        let edits : Edits i e old old = record {
          props = at_i;
          cells = sym (with_same old.cells.now i);
          props_are = λ nu. sym (ap (λ ks. drop_all ks (spec.props_in nu at_i)) (none nu));
          watch = λ nu f a.
              let w = named_slots nu old.slots.keys old.slots.current in
              sym (ap (λ ks. record { opened = pick (under b (home (nu i))) w.opened (write_all b (nu i) (deleted_all ks) w.opened); verdict = touch_all b (nu i) (deleted_all ks) w.opened w.verdict }) (none nu)
              ∙ (λ x. record { opened = pick_same (under b (home (nu i))) w.opened x; verdict = w.verdict }));
          made = refl;
        } in
        works_one (λ nu. step (change true (nu i) (e nu)) give) (λ nu. tt) old old (keeps_same old)
        (λ r nu f. edit_goes i e old old here whole edits refl true 0 (λ nu. refl) (omega arith) (omega arith) r nu f)

  -- ---- the length rises

  module _ (at : ℕ) where
    grows_is : (nu : Naming) (o : Option Value) → grows_at at (option_map (val_in nu) o) ≡ grows_in at o
    grows_is nu None = refl
    grows_is nu (Some code.Undefined) = refl
    grows_is nu (Some code.Null) = refl
    grows_is nu (Some (code.Truth b)) = refl
    grows_is nu (Some (code.Number (pos n))) = refl
    grows_is nu (Some (code.Number (negsuc n))) = refl
    grows_is nu (Some (code.Text t)) = refl
    grows_is nu (Some (code.Object c)) = refl

    found_is : (nu : Naming) → grows_at at (found length_key (spec.props_in nu at_i)) ≡ grows_in at (own old.cells.now i length_key)
    found_is nu = ap (grows_at at) (found_in nu length_key at_i) ∙ grows_is nu (own old.cells.now i length_key)

    pub grows_it : (n : ℕ) → n ≡ suc at → grows_in at (own old.cells.now i length_key) ≡ true → IsSome (own old.cells.now i length_key) → (said : Naming → Told (Unit {0})) (last : Core)
        → Works (λ nu. step (change true (nu i) (put length_key (Number (pos n)))) give) said old last → Works (λ nu. step (change true (nu i) (grow at)) give) said old last
    grows_it n q g there said last y =
        let v = some_of (own old.cells.now i length_key) there in
        works_as old whole (λ nu. step (change true (nu i) (grow at)) give) (λ nu. step (change true (nu i) (put length_key (Number (pos n)))) give)
        (λ r nu apart.
        let σ = placed nu old (r.base nu) in
        let p : σ.props (nu i) ≡ spec.props_in nu at_i = props_here nu old.cells.now apart i here in
        comes_grow (path_in old.place.path) (path_in old.place.branch) r.body (nu i) at (val_in nu v.0) σ old.left
        (ap (λ q. grows_at at (found length_key q)) p ∙ found_is nu ∙ g)
        (ap (found length_key) p ∙ found_in nu length_key at_i ∙ ap (option_map (val_in nu)) v.1)
        ∙ ap (λ n. comes_from (step (change true (nu i) (put length_key (Number (pos n)))) give) nu (seen_in r old)) (sym q))
        said last y

    pub grows_not : grows_in at (own old.cells.now i length_key) ≡ false → Works (λ nu. step (change true (nu i) (grow at)) give) (λ nu. Says tt) old old
    grows_not g =
        let e = λ (nu : Naming). grow at in
        let none = λ (nu : Naming). found_is nu ∙ g in
        let b = path_in old.place.branch in
        let edits : Edits i e old old = record {
          props = at_i;
          cells = sym (with_same old.cells.now i);
          props_are = λ nu. sym (ap (λ t. grown t at (spec.props_in nu at_i)) (none nu));
          watch = λ nu f a.
              let w = named_slots nu old.slots.keys old.slots.current in
              sym (ap (λ t. record { opened = pick (under b (home (nu i))) w.opened (write_all b (nu i) (grown_at t) w.opened); verdict = touch_all b (nu i) (grown_at t) w.opened w.verdict }) (none nu)
              ∙ (λ x. record { opened = pick_same (under b (home (nu i))) w.opened x; verdict = w.verdict }));
          made = refl;
        } in
        works_one (λ nu. step (change true (nu i) (e nu)) give) (λ nu. tt) old old (keeps_same old)
        (λ r nu f. edit_goes i e old old here whole edits refl true 0 (λ nu. refl) (omega arith) (omega arith) r nu f)
