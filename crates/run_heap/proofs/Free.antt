-- A step that costs nothing is the same with and without its charge.
use Rattle.std.proofs.Common.{◌≡◌, refl, ap, sym, ◌∙◌, subst, ℕ, ◌-◌, ◌<◌, nat_lt, Bool, true, false, true≢false, Option, Some, None, option_map, arith}
use Rattle.std.proofs.lemmas.Bool.Decides.{nat_tests}
use Rattle.std.specs.Prelude.{IsSome}
use Rattle.turk_base.specs.Names.{Path, path_in, Name}
use Rattle.turk_base.specs.Cells.{Edit, put, grow, edit_cost, created}
use Rattle.turk_base.specs.State.{St, change, op_cost, act, act_change, if_paid}
use Rattle.turk_base.specs.Steps.{Small, give, step}
use Rattle.value_cells.specs.declared.Value.{Value}
use Rattle.value_cells.specs.Comes.{Comes, goes, then_goes, acted, charged, comes}
use Rattle.value_cells.specs.Held.{Key, props_at, own, IsWhole}
use Rattle.value_cells.specs.Seen.{Naming, val_in}
use Rattle.value_cells.specs.Does.{Told}
use Rattle.run_heap.specs.Core.{Core, count}
use Rattle.run_heap.specs.Placed.{placed}
use Rattle.run_heap.specs.Placed as spec
use Rattle.run_heap.specs.Works.{Works}
use Rattle.run_heap.proofs.Tables.{props_here}
use Rattle.run_heap.proofs.Keys.{found_in}
use Rattle.run_heap.proofs.Shorter.{works_as}

free_is : (c : Name) (e : Edit) (s b : Path) (body : Bool) (σ : St) (n : ℕ) → edit_cost e (σ.props c) ≡ 0
    → comes (step (change false c e) give) s b body σ n ≡ comes (step (change true c e) give) s b body σ n
unfolding comes act
free_is c e s b body σ n cost =
    let go = λ (k : ℕ). charged (nat_lt n k) k σ n (then_goes (acted (act_change (σ.known c) b c e σ) (n - k)) (λ a τ m. goes a τ m)) in
    ap go (sym cost)

module _ (i : ℕ) (old : Core) (whole : IsWhole old.cells.now) (here : i < count old) where
  -- a property that is there is set
  pub set_free : (key : Key) (v w : Value) → own old.cells.now i key ≡ Some w → (said : Naming → Told (Unit {0})) (last : Core)
      → Works (λ nu. step (change true (nu i) (put key (val_in nu v))) give) said old last → Works (λ nu. step (change false (nu i) (put key (val_in nu v))) give) said old last
  set_free key v w e said last y =
      works_as old whole (λ nu. step (change false (nu i) (put key (val_in nu v))) give) (λ nu. step (change true (nu i) (put key (val_in nu v))) give)
      (λ r nu apart.
      free_is (nu i) (put key (val_in nu v)) (path_in old.place.path) (path_in old.place.branch) r.body (placed nu old (r.base nu)) old.left
      (ap (edit_cost (put key (val_in nu v))) (props_here nu old.cells.now apart i here) ∙ ap created (found_in nu key (props_at old.cells.now i) ∙ ap (option_map (val_in nu)) e)))
      said last y

  -- the length of an array rises
  pub grow_free : (at : ℕ) (said : Naming → Told (Unit {0})) (last : Core)
      → Works (λ nu. step (change true (nu i) (grow at)) give) said old last → Works (λ nu. step (change false (nu i) (grow at)) give) said old last
  grow_free at said last y =
      works_as old whole (λ nu. step (change false (nu i) (grow at)) give) (λ nu. step (change true (nu i) (grow at)) give)
      (λ r nu apart. free_is (nu i) (grow at) (path_in old.place.path) (path_in old.place.branch) r.body (placed nu old (r.base nu)) old.left refl)
      said last y

some_there : (o : Option Value) → IsSome o → (w : Value) × (o ≡ Some w)
some_there (Some w) h = (w, refl)
some_there None h = absurd (true≢false (sym h))

pub sets_free : (i : ℕ) (old : Core) → IsWhole old.cells.now → i < count old → (key : Key) (v : Value) → IsSome (own old.cells.now i key) → (said : Naming → Told (Unit {0})) (last : Core)
    → Works (λ nu. step (change true (nu i) (put key (val_in nu v))) give) said old last → Works (λ nu. step (change false (nu i) (put key (val_in nu v))) give) said old last
sets_free i old whole here key v there said last y = let w = some_there (own old.cells.now i key) there in set_free i old whole here key v w.0 w.1 said last y
