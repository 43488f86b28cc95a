-- Data put, from the steps that the code did.
use Rattle.std.proofs.Common.{◌≡◌, true, false, sym, subst, ℕ, suc, List, ◌∷◌, length, decimal}
use Rattle.std.specs.Prelude.{Result, Ok, Err}
use Rattle.std.specs.Result.{IsErrAnd}
use Rattle.turk_base.specs.Names.{Name}
use Rattle.turk_base.specs.Values.{Val, Kind}
use Rattle.turk_base.specs.Data.{Data, Items, Item, Fields, Field}
use Rattle.turk_base.specs.Cells.{put, grow}
use Rattle.turk_base.specs.State.{charge, change, make}
use Rattle.turk_base.specs.Steps.{Small, give, step, bind, pays, element, fill, put_data, put_items, put_fields}
use Rattle.value_cells.specs.declared.Value.{Value}
use Rattle.value_cells.specs.declared.OpStop.{OpStop}
use Rattle.value_cells.specs.declared.OpStop.TheVariants.{Memory}
use Rattle.value_cells.specs.Seen.{Naming, val_in}
use Rattle.value_cells.specs.Does.{Told, Says, Fails, told, told_stop}
use Rattle.run_heap.specs.Core.{Core}
use Rattle.run_heap.specs.Works.{Works}
use Rattle.run_heap.proofs.Turn.{works_then, works_out, works_give}

-- ---- want of memory at an exit

pub failed : {A B : Type 0} (g : Naming → Small A) (f : Naming → B → A) (r : Result B OpStop) (s t : Core) → IsErrAnd r (λ e. e ≡ Memory) → Works g (λ nu. Fails) s t → Works g (λ nu. told (f nu) r) s t
failed g f (Ok b) s t h x = absurd h
failed g f (Err e) s t h x = subst (λ e. Works g (λ nu. told_stop e) s t) (sym h) x

-- ---- an element

unit_ends : (g : Naming → Small (Unit {0})) (r : Result (Unit {0}) OpStop) (s t : Core) → Works g (λ nu. told (λ u. u) r) s t → Works (λ nu. bind (g nu) (λ _. give (tt {0}))) (λ nu. told (λ u. u) r) s t
unit_ends g (Ok u) s t x = works_then g (λ nu. u) (λ nu _. give (tt {0})) (λ nu. Says tt) s t t x (works_give (λ nu. tt) t)
unit_ends g (Err e) s t x = works_out g (λ nu _. give (tt {0})) e s t x

module _ (i at : ℕ) (v : Value) where
  pub element_ends : (r : Result (Unit {0}) OpStop) (s t u : Core) → Works (λ nu. step (change false (nu i) (put (decimal at) (val_in nu v))) give) (λ nu. Says tt) s t
      → Works (λ nu. step (change false (nu i) (grow at)) give) (λ nu. told (λ u. u) r) t u → Works (λ nu. element false (nu i) at (val_in nu v) (give (tt {0}))) (λ nu. told (λ u. u) r) s u
  element_ends r s t u x y =
      works_then (λ nu. step (change false (nu i) (put (decimal at) (val_in nu v))) give) (λ nu. tt) (λ nu _. step (change false (nu i) (grow at)) (λ _. give (tt {0}))) (λ nu. told (λ u. u) r) s t u x
      (unit_ends (λ nu. step (change false (nu i) (grow at)) give) r t u y)

  pub element_out : (e : OpStop) (s t : Core) → Works (λ nu. step (change false (nu i) (put (decimal at) (val_in nu v))) give) (λ nu. told_stop e) s t → Works (λ nu. element false (nu i) at (val_in nu v) (give (tt {0}))) (λ nu. told_stop e) s t
  element_out e s t x = works_out (λ nu. step (change false (nu i) (put (decimal at) (val_in nu v))) give) (λ nu _. step (change false (nu i) (grow at)) (λ _. give (tt {0}))) e s t x

-- ---- an element that is paid, and those after it

module _ (i at : ℕ) (v : Value) where
  pub paid_ends : (r : Result (Unit {0}) OpStop) (s t u : Core) → Works (λ nu. step (change true (nu i) (put (decimal at) (val_in nu v))) give) (λ nu. Says tt) s t
      → Works (λ nu. step (change true (nu i) (grow at)) give) (λ nu. told (λ u. u) r) t u → Works (λ nu. element true (nu i) at (val_in nu v) (give (tt {0}))) (λ nu. told (λ u. u) r) s u
  paid_ends r s t u x y =
      works_then (λ nu. step (change true (nu i) (put (decimal at) (val_in nu v))) give) (λ nu. tt) (λ nu _. step (change true (nu i) (grow at)) (λ _. give (tt {0}))) (λ nu. told (λ u. u) r) s t u x
      (unit_ends (λ nu. step (change true (nu i) (grow at)) give) r t u y)

  pub paid_out : (e : OpStop) (s t : Core) → Works (λ nu. step (change true (nu i) (put (decimal at) (val_in nu v))) give) (λ nu. told_stop e) s t → Works (λ nu. element true (nu i) at (val_in nu v) (give (tt {0}))) (λ nu. told_stop e) s t
  paid_out e s t x = works_out (λ nu. step (change true (nu i) (put (decimal at) (val_in nu v))) give) (λ nu _. step (change true (nu i) (grow at)) (λ _. give (tt {0}))) e s t x

  pub fill_on : (vs : Naming → List Val) (said : Naming → Told Val) (s t last : Core) → Works (λ nu. element true (nu i) at (val_in nu v) (give (tt {0}))) (λ nu. Says tt) s t → Works (λ nu. fill (nu i) (suc at) (vs nu)) said t last
      → Works (λ nu. fill (nu i) at (val_in nu v ∷ vs nu)) said s last
  fill_on vs said s t last x y = works_then (λ nu. element true (nu i) at (val_in nu v) (give (tt {0}))) (λ nu. tt) (λ nu _. fill (nu i) (suc at) (vs nu)) said s t last x y

  pub fill_out : (vs : Naming → List Val) (e : OpStop) (s t : Core) → Works (λ nu. element true (nu i) at (val_in nu v) (give (tt {0}))) (λ nu. told_stop e) s t → Works (λ nu. fill (nu i) at (val_in nu v ∷ vs nu)) (λ nu. told_stop e) s t
  fill_out vs e s t x = works_out (λ nu. element true (nu i) at (val_in nu v) (give (tt {0}))) (λ nu _. fill (nu i) (suc at) (vs nu)) e s t x

-- ---- items

module _ (i at : ℕ) (d : Data) (ds : Items) where
  pub items_on : (v : Value) (said : Naming → Told Val) (s t u last : Core) → Works (λ nu. put_data d) (λ nu. Says (val_in nu v)) s t → Works (λ nu. element false (nu i) at (val_in nu v) (give (tt {0}))) (λ nu. Says tt) t u
      → Works (λ nu. put_items (nu i) (suc at) ds) said u last → Works (λ nu. put_items (nu i) at (Item d ds)) said s last
  items_on v said s t u last x y z =
      works_then (λ nu. put_data d) (λ nu. val_in nu v) (λ nu v. element false (nu i) at v (put_items (nu i) (suc at) ds)) said s t last x
      (works_then (λ nu. element false (nu i) at (val_in nu v) (give (tt {0}))) (λ nu. tt) (λ nu _. put_items (nu i) (suc at) ds) said t u last y z)

  pub items_out : (e : OpStop) (s t : Core) → Works (λ nu. put_data d) (λ nu. told_stop e) s t → Works (λ nu. put_items (nu i) at (Item d ds)) (λ nu. told_stop e) s t
  items_out e s t x = works_out (λ nu. put_data d) (λ nu v. element false (nu i) at v (put_items (nu i) (suc at) ds)) e s t x

  pub items_stop : (v : Value) (e : OpStop) (s t u : Core) → Works (λ nu. put_data d) (λ nu. Says (val_in nu v)) s t → Works (λ nu. element false (nu i) at (val_in nu v) (give (tt {0}))) (λ nu. told_stop e) t u
      → Works (λ nu. put_items (nu i) at (Item d ds)) (λ nu. told_stop e) s u
  items_stop v e s t u x y =
      works_then (λ nu. put_data d) (λ nu. val_in nu v) (λ nu v. element false (nu i) at v (put_items (nu i) (suc at) ds)) (λ nu. told_stop e) s t u x
      (works_out (λ nu. element false (nu i) at (val_in nu v) (give (tt {0}))) (λ nu _. put_items (nu i) (suc at) ds) e t u y)

-- ---- fields: each pays 1 and its key

module _ (i : ℕ) (key : List ℕ) (d : Data) (ds : Fields) where
  after_pay : Naming → Small Val
  after_pay nu = bind (put_data d) (λ v. step (change false (nu i) (put key v)) (λ _. put_fields (nu i) ds))

  pub fields_on : (v : Value) (said : Naming → Told Val) (s p t u last : Core) → Works (λ nu. step (charge (suc (length key))) give) (λ nu. Says tt) s p → Works (λ nu. put_data d) (λ nu. Says (val_in nu v)) p t
      → Works (λ nu. step (change false (nu i) (put key (val_in nu v))) give) (λ nu. Says tt) t u → Works (λ nu. put_fields (nu i) ds) said u last → Works (λ nu. put_fields (nu i) (Field key d ds)) said s last
  unfolding after_pay
  fields_on v said s p t u last w x y z =
      works_then (λ nu. step (charge (suc (length key))) give) (λ nu. tt) (λ nu _. after_pay nu) said s p last w
      (works_then (λ nu. put_data d) (λ nu. val_in nu v) (λ nu v. step (change false (nu i) (put key v)) (λ _. put_fields (nu i) ds)) said p t last x
      (works_then (λ nu. step (change false (nu i) (put key (val_in nu v))) give) (λ nu. tt) (λ nu _. put_fields (nu i) ds) said t u last y z))

  pub fields_unpaid : (e : OpStop) (s p : Core) → Works (λ nu. step (charge (suc (length key))) give) (λ nu. told_stop e) s p → Works (λ nu. put_fields (nu i) (Field key d ds)) (λ nu. told_stop e) s p
  unfolding after_pay
  fields_unpaid e s p w = works_out (λ nu. step (charge (suc (length key))) give) (λ nu _. after_pay nu) e s p w

  pub fields_out : (e : OpStop) (s p t : Core) → Works (λ nu. step (charge (suc (length key))) give) (λ nu. Says tt) s p → Works (λ nu. put_data d) (λ nu. told_stop e) p t
      → Works (λ nu. put_fields (nu i) (Field key d ds)) (λ nu. told_stop e) s t
  unfolding after_pay
  fields_out e s p t w x =
      works_then (λ nu. step (charge (suc (length key))) give) (λ nu. tt) (λ nu _. after_pay nu) (λ nu. told_stop e) s p t w
      (works_out (λ nu. put_data d) (λ nu v. step (change false (nu i) (put key v)) (λ _. put_fields (nu i) ds)) e p t x)

  pub fields_stop : (v : Value) (e : OpStop) (s p t u : Core) → Works (λ nu. step (charge (suc (length key))) give) (λ nu. Says tt) s p → Works (λ nu. put_data d) (λ nu. Says (val_in nu v)) p t
      → Works (λ nu. step (change false (nu i) (put key (val_in nu v))) give) (λ nu. told_stop e) t u → Works (λ nu. put_fields (nu i) (Field key d ds)) (λ nu. told_stop e) s u
  unfolding after_pay
  fields_stop v e s p t u w x y =
      works_then (λ nu. step (charge (suc (length key))) give) (λ nu. tt) (λ nu _. after_pay nu) (λ nu. told_stop e) s p u w
      (works_then (λ nu. put_data d) (λ nu. val_in nu v) (λ nu v. step (change false (nu i) (put key v)) (λ _. put_fields (nu i) ds)) (λ nu. told_stop e) p t u x
      (works_out (λ nu. step (change false (nu i) (put key (val_in nu v))) give) (λ nu _. put_fields (nu i) ds) e t u y))

-- ---- one node

-- a primitive is paid and given
pub prim_ends : (n : ℕ) (d : Data) (v : Value) (s t : Core) → ((nu : Naming) → put_data d ≡ pays n (give (val_in nu v))) → Works (λ nu. step (charge n) give) (λ nu. Says tt) s t → Works (λ nu. put_data d) (λ nu. Says (val_in nu v)) s t
prim_ends n d v s t is w =
    let same : (λ (nu : Naming). pays n (give (val_in nu v))) ≡ (λ (nu : Naming). put_data d) = λ x nu. sym (is nu) x in
    subst (λ g. Works g (λ nu. Says (val_in nu v)) s t) same
    (works_then (λ nu. step (charge n) give) (λ nu. tt) (λ nu _. give (val_in nu v)) (λ nu. Says (val_in nu v)) s t t w (works_give (λ nu. val_in nu v) t))

-- a cell is paid and made, and filled
pub cell_ends : (kind : Naming → Kind) (go : Naming → Name → Small Val) (n : ℕ) (said : Naming → Told Val) (s p t last : Core) → Works (λ nu. step (charge 1) give) (λ nu. Says tt) s p
    → Works (λ nu. step (make false (kind nu)) give) (λ nu. Says (nu n)) p t → Works (λ nu. go nu (nu n)) said t last → Works (λ nu. pays 1 (step (make false (kind nu)) (go nu))) said s last
cell_ends kind go n said s p t last w x y =
    works_then (λ nu. step (charge 1) give) (λ nu. tt) (λ nu _. step (make false (kind nu)) (go nu)) said s p last w
    (works_then (λ nu. step (make false (kind nu)) give) (λ nu. nu n) go said p t last x y)

pub cell_out : (kind : Naming → Kind) (go : Naming → Name → Small Val) (e : OpStop) (s p t : Core) → Works (λ nu. step (charge 1) give) (λ nu. Says tt) s p
    → Works (λ nu. step (make false (kind nu)) give) (λ nu. told_stop e) p t → Works (λ nu. pays 1 (step (make false (kind nu)) (go nu))) (λ nu. told_stop e) s t
cell_out kind go e s p t w x =
    works_then (λ nu. step (charge 1) give) (λ nu. tt) (λ nu _. step (make false (kind nu)) (go nu)) (λ nu. told_stop e) s p t w (works_out (λ nu. step (make false (kind nu)) give) go e p t x)

pub unpaid : {A : Type 0} (n : ℕ) (g : Naming → Small A) (e : OpStop) (s p : Core) → Works (λ nu. step (charge n) give) (λ nu. told_stop e) s p → Works (λ nu. pays n (g nu)) (λ nu. told_stop e) s p
unpaid n g e s p w = works_out (λ nu. step (charge n) give) (λ nu _. g nu) e s p w
