-- A step of the meaning, from what the code did to cells, slots and fuel.
use Rattle.std.proofs.Common.{◌≡◌, refl, ap, sym, ◌∙◌, subst, ℕ, zero, suc, ◌-◌, ◌<◌, ◌≤◌, nat_lt, Bool, true, false, List, [], ◌∷◌, length, Option, Some, None, slice_get, arith}
use Rattle.std.proofs.lemmas.Bool.Decides.{nat_tests}
use Rattle.std.proofs.lemmas.Option.{slice_get_within}
use Rattle.turk_base.specs.Names.{Path, path_in, Name, pick, under, home}
use Rattle.turk_base.specs.Values.{Val, Property, Known, Kind, Refusal}
use Rattle.turk_base.specs.Cells.{Edit, SaysOf, says, new_props, edit_cost, touches, writes}
use Rattle.turk_base.specs.State.{St, Op, charge, change, make, act_make, AnswerTo, Act, gives, refused, waiting, stuck, act, act_known, act_change, op_cost, edited, if_paid, with_props, touch_all, write_all}
use Rattle.turk_base.specs.Steps.{Small, give, refuse, lost, step, ask, bind}
use Rattle.branch_check.specs.Watch.{Watch}
use Rattle.value_cells.specs.declared.OpStop.{OpStop}
use Rattle.value_cells.specs.declared.OpStop.TheVariants.{NotWhole, NoPrimitive, TooLong, Spent, Memory}
use Rattle.value_cells.specs.Comes.{Comes, goes, stops, spends, other, then_goes, acted, charged, comes}
use Rattle.value_cells.specs.Held.{Cell, Props, props_at, kinds_of, IsWhole}
use Rattle.value_cells.specs.Held as held
use Rattle.value_cells.specs.Seen.{Naming, Seen, Scope, Fits, Grows}
use Rattle.value_cells.specs.Does.{Told, Says, Refuses, Spends, Fails, told, told_stop, Did, Kept, Stays, comes_from}
use Rattle.value_cells.proofs.Turns.{stays_then, stays_same, fits_before}
use Rattle.slot_watch.specs.Named.{named, TellsApart}
use Rattle.run_heap.specs.Core.{Core, count, names_in, Rests}
use Rattle.run_heap.specs.Placed.{placed, Around, seen_in, known_of, props_of}
use Rattle.run_heap.specs.Placed as spec
use Rattle.run_heap.specs.Works.{Performs, Works}
use Rattle.run_heap.proofs.Tables.{there, tells, count_names, props_here, known_here, some_kind, known_with, props_with}
use Rattle.run_heap.proofs.Watches.{edited_watch}

-- ---- the interpreter

module _ {A : Type 0} (s b : Path) (body : Bool) where
  pub comes_bind : {B : Type 0} (g : Small A) (k : A → Small B) (σ : St) (n : ℕ) → comes (bind g k) s b body σ n ≡ then_goes (comes g s b body σ n) (λ a τ m. comes (k a) s b body τ m)
  unfolding comes
  comes_bind (give a) k σ n = refl
  comes_bind (refuse why) k σ n = refl
  comes_bind lost k σ n = refl
  comes_bind (step o go) k σ n = by (nat_lt n (op_cost o σ)) (act o s b body σ) go k (λ a τ m. comes_bind (go a) k τ m)
    where
      by : {B : Type 0} {C : Type 0} (t : Bool) (x : Act C) (go : C → Small A) (k : A → Small B) → ((a : C) (τ : St) (m : ℕ) → comes (bind (go a) k) s b body τ m ≡ then_goes (comes (go a) s b body τ m) (λ a τ m. comes (k a) s b body τ m))
          → charged t (op_cost o σ) σ n (then_goes (acted x (n - op_cost o σ)) (λ a τ m. comes (bind (go a) k) s b body τ m))
          ≡ then_goes (charged t (op_cost o σ) σ n (then_goes (acted x (n - op_cost o σ)) (λ a τ m. comes (go a) s b body τ m))) (λ a τ m. comes (k a) s b body τ m)
      by true x go k r = refl
      by false (gives a τ) go k r = r a τ (n - op_cost o σ)
      by false (refused why) go k r = refl
      by false (waiting w) go k r = refl
      by false stuck go k r = refl
  comes_bind (ask q go) k σ n = refl

module _ (o : Op) (s b : Path) (body : Bool) (σ : St) (n : ℕ) where
  pub step_goes : (cost : ℕ) (a : AnswerTo o) (τ : St) → op_cost o σ ≡ cost → cost ≤ n → act o s b body σ ≡ gives a τ → comes (step o give) s b body σ n ≡ goes a τ (n - cost)
  unfolding comes
  step_goes cost a τ c h e =
      let t : nat_lt n (op_cost o σ) ≡ false = grind (arith, nat_tests) in
      (λ i. charged (t i) (op_cost o σ) σ n (then_goes (acted (e i) (n - op_cost o σ)) (λ a τ m. comes (give a) s b body τ m)))
      ∙ ap (λ c. goes a τ (n - c)) c

  pub step_spends : n < op_cost o σ → comes (step o give) s b body σ n ≡ spends σ n
  unfolding comes
  step_spends h =
      let t : nat_lt n (op_cost o σ) ≡ true = grind (arith, nat_tests) in
      ap (λ t. charged t (op_cost o σ) σ n (then_goes (acted (act o s b body σ) (n - op_cost o σ)) (λ a τ m. comes (give a) s b body τ m))) t

-- ---- one cell is changed

-- what the code did for an edit of the cell i
pub record Edits (i : ℕ) (e : Naming → Edit) (old new : Core) : Type 0 where
  pub props : Props
  pub cells : new.cells.now ≡ held.with_props old.cells.now i props
  pub props_are : (nu : Naming) → spec.props_in nu props ≡ new_props (e nu) (spec.props_in nu (props_at old.cells.now i))
  pub watch : (nu : Naming) → Fits nu (names_in old.cells.now) → TellsApart nu (count old)
      → named nu new.slots.keys new.slots.current ≡ edited_watch (path_in old.place.branch) (nu i) (e nu) (spec.props_in nu (props_at old.cells.now i)) (named nu old.slots.keys old.slots.current)
  pub made : new.place.made ≡ old.place.made

module _ (i : ℕ) (e : Naming → Edit) (old new : Core) (here : i < count old) (h : Edits i e old new) (nu : Naming) (fits : Fits nu (names_in old.cells.now)) (apart : TellsApart nu (count old)) (σ : St) (s : Path) (body : Bool) where
  abbrev pub b : Path
  b = path_in old.place.branch

  abbrev pub was : List Property
  was = spec.props_in nu (props_at old.cells.now i)

  pub change_acts : (paid : Bool) → act (change paid (nu i) (e nu)) s b body (placed nu old σ) ≡ gives (says (e nu) was) (placed nu new σ)
  unfolding act
  change_acts paid =
      let kind = some_kind nu old.cells.now apart i here in
      let k = known_here nu old.cells.now apart i here kind.0 kind.1 in
      let p : props_of nu old.cells.now (nu i) ≡ was = props_here nu old.cells.now apart i here in
      let w = named nu old.slots.keys old.slots.current in
      let m = sym h.made in
      let known : known_of nu old.cells.now ≡ known_of nu new.cells.now = sym (known_with nu old.cells.now apart i here h.props) ∙ ap (known_of nu) (sym h.cells) in
      let props : with_props (nu i) (new_props (e nu) (props_of nu old.cells.now (nu i))) (props_of nu old.cells.now) ≡ props_of nu new.cells.now =
      ap (λ q. with_props (nu i) (new_props (e nu) q) (props_of nu old.cells.now)) p
      ∙ ap (λ q. with_props (nu i) q (props_of nu old.cells.now)) (sym (h.props_are nu))
      ∙ sym (props_with nu old.cells.now apart i here h.props) ∙ ap (props_of nu) (sym h.cells) in
      let opened = ap (λ q. (edited_watch b (nu i) (e nu) q w).opened) p ∙ ap (λ (w : Watch). w.opened) (sym (h.watch nu fits apart)) in
      let verdict = ap (λ q. (edited_watch b (nu i) (e nu) q w).verdict) p ∙ ap (λ (w : Watch). w.verdict) (sym (h.watch nu fits apart)) in
      ap (λ o. act_change o b (nu i) (e nu) (placed nu old σ)) k
      ∙ (λ x. gives (says (e nu) (p x)) (record { calls = σ.calls; cells = m x; vals = σ.vals; known = known x; props = props x; text = σ.text; opened = opened x; verdict = verdict x; gone = σ.gone }))

pub change_cost : (i : ℕ) (e : Naming → Edit) (old : Core) → i < count old → (nu : Naming) → TellsApart nu (count old) → (σ : St) (paid : Bool)
    → op_cost (change paid (nu i) (e nu)) (placed nu old σ) ≡ if_paid paid (edit_cost (e nu) (spec.props_in nu (props_at old.cells.now i)))
change_cost i e old here nu apart σ paid = ap (λ p. if_paid paid (edit_cost (e nu) p)) (props_here nu old.cells.now apart i here)

free_act : (c : Name) (e : Edit) (s b : Path) (body : Bool) (σ : St) (m : ℕ) → nat_lt m 0 ≡ false → m - 0 ≡ m
    → comes (step (change false c e) give) s b body σ m ≡ then_goes (acted (act (change true c e) s b body σ) m) (λ a τ m. comes (give a) s b body τ m)
unfolding comes act
free_act c e s b body σ m u z =
    let go = λ (k : ℕ). then_goes (acted (act_change (σ.known c) b c e σ) k) (λ a τ m. goes a τ m) in
    ap (λ t. charged t 0 σ m (go (m - 0))) u ∙ ap go z

-- a created property is paid first
pub paid_same : (c : Name) (e : Edit) (s b : Path) (body : Bool) (σ : St) (n : ℕ) → edit_cost e (σ.props c) ≡ 1 → 1 ≤ n
    → comes (step (change true c e) give) s b body σ n ≡ comes (step (change false c e) give) s b body σ (n - 1)
unfolding comes
paid_same c e s b body σ n cost h =
    let t : nat_lt n (edit_cost e (σ.props c)) ≡ false = grind (arith, nat_tests) in
    let u : nat_lt (n - 1) 0 ≡ false = grind (arith, nat_tests) in
    let z : (n - 1) - 0 ≡ n - 1 = omega arith in
    let go = λ (m : ℕ). then_goes (acted (act (change true c e) s b body σ) m) (λ a τ m. comes (give a) s b body τ m) in
    ap (λ t. charged t (edit_cost e (σ.props c)) σ n (go (n - edit_cost e (σ.props c)))) t ∙ ap (λ k. go (n - k)) cost
    ∙ sym (free_act c e s b body σ (n - 1) u z)

free_make : (kind : Kind) (s b : Path) (body : Bool) (σ : St) (m : ℕ) → nat_lt m 0 ≡ false → m - 0 ≡ m
    → comes (step (make false kind) give) s b body σ m ≡ then_goes (acted (act (make true kind) s b body σ) m) (λ a τ m. comes (give a) s b body τ m)
unfolding comes act
free_make kind s b body σ m u z =
    let go = λ (k : ℕ). then_goes (acted (act_make s kind σ) k) (λ a τ m. goes a τ m) in
    ap (λ t. charged t 0 σ m (go (m - 0))) u ∙ ap go z

-- a made cell is paid first
pub made_same : (kind : Kind) (s b : Path) (body : Bool) (σ : St) (n : ℕ) → 1 ≤ n → comes (step (make true kind) give) s b body σ n ≡ comes (step (make false kind) give) s b body σ (n - 1)
unfolding comes
made_same kind s b body σ n h =
    let t : nat_lt n 1 ≡ false = grind (arith, nat_tests) in
    let u : nat_lt (n - 1) 0 ≡ false = grind (arith, nat_tests) in
    let z : (n - 1) - 0 ≡ n - 1 = omega arith in
    let go = λ (m : ℕ). then_goes (acted (act (make true kind) s b body σ) m) (λ a τ m. comes (give a) s b body τ m) in
    ap (λ t. charged t 1 σ n (go (n - 1))) t ∙ sym (free_make kind s b body σ (n - 1) u z)
