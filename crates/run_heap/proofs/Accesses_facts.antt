-- The requests, from the steps that the code did.
use Rattle.std.proofs.Common.{◌≡◌, refl, ap, sym, ◌∙◌, subst, ℕ, ◌<◌, ◌≤◌, Bool, true, false, List, [], ◌∷◌, length, Option, Some, None, slice_get, map, cond, MatchOption}
use Rattle.turk_base.specs.Names.{Name, units_eq, pick}
use Rattle.turk_base.specs.Values.{Val, Kind, Known}
use Rattle.turk_base.specs.Values as model
use Rattle.turk_base.specs.Cells.{look, put, remove, length_key}
use Rattle.turk_base.specs.State.{change}
use Rattle.turk_base.specs.Steps.{Small, give, step, bind, get_in, or_else, there, put_key, drop_it, remove_in, prototype_key, steps_of}
use Rattle.turk_base.specs.Prog.{Get, Remove, ReadName, WriteName, Declare}
use Rattle.value_cells.specs.declared.Value.{Value}
use Rattle.value_cells.specs.declared.OpStop.{OpStop}
use Rattle.value_cells.specs.declared.CellKind.{CellKind}
use Rattle.value_cells.specs.declared.CellKind.TheVariants.{Frame, Plain, Array, Function, BuiltIn}
use Rattle.value_cells.specs.Needs.{kind_needs}
use Rattle.value_cells.specs.Held.{Key, key_eq, kinds_of, IsWhole}
use Rattle.value_cells.specs.Seen.{Naming, val_in, kind_in}
use Rattle.value_cells.specs.Does.{Told, Says, told, told_stop}
use Rattle.run_heap.specs.Core.{Core, count}
use Rattle.run_heap.specs.Placed.{chain_of}
use Rattle.run_heap.specs.Stays.{stays_in}
use Rattle.run_heap.specs.Works.{Works}
use Rattle.run_heap.proofs.Tables.{kind_there}
use Rattle.run_heap.proofs.Keys.{pick_key}
use Rattle.run_heap.proofs.Chains.{chain_up, chain_plain, works_known}
use Rattle.run_heap.proofs.Turn.{works_then, works_out, works_give}

pub plain_chain : (kinds : List CellKind) (older : (i : ℕ) (k : CellKind) → slice_get kinds i ≡ Some k → kind_needs k ≤ i) (i : ℕ) (o : Option ℕ) → slice_get kinds i ≡ Some (Plain o)
    → MatchOption o (chain_of kinds i ≡ []) (λ p. chain_of kinds i ≡ p ∷ chain_of kinds p)
plain_chain kinds older i None e = chain_plain kinds older i e
plain_chain kinds older i (Some p) e = chain_up kinds older i p e

module _ (i : ℕ) (key : Key) where
  pub read_err : (x : OpStop) (s t : Core) → Works (λ nu. step (change true (nu i) (look key)) give) (λ nu. told_stop x) s t → Works (λ nu. steps_of (ReadName (nu i) key)) (λ nu. told_stop x) s t
  unfolding steps_of
  read_err x s t h = works_out (λ nu. step (change true (nu i) (look key)) give) (λ nu o. there o) x s t h

  pub read_ok : (v : Value) (s t : Core) → Works (λ nu. step (change true (nu i) (look key)) give) (λ nu. Says (Some (val_in nu v))) s t → Works (λ nu. steps_of (ReadName (nu i) key)) (λ nu. Says (val_in nu v)) s t
  unfolding steps_of
  read_ok v s t h = works_then (λ nu. step (change true (nu i) (look key)) give) (λ nu. Some (val_in nu v)) (λ nu o. there o) (λ nu. Says (val_in nu v)) s t t h (works_give (λ nu. val_in nu v) t)

  pub writes : (v : Value) (said : Naming → Told (Unit {0})) (s t : Core) → Works (λ nu. step (change true (nu i) (put key (val_in nu v))) give) said s t → Works (λ nu. steps_of (WriteName (nu i) key (val_in nu v))) said s t
  unfolding steps_of
  writes v said s t h = h

  pub declares : (v : Value) (said : Naming → Told (Unit {0})) (s t : Core) → Works (λ nu. step (change true (nu i) (put key (val_in nu v))) give) said s t → Works (λ nu. steps_of (Declare (nu i) key (val_in nu v))) said s t
  unfolding steps_of
  declares v said s t h = h

  pub drop_err : (x : OpStop) (s t : Core) → Works (λ nu. step (change true (nu i) (remove key)) give) (λ nu. told_stop x) s t → Works (λ nu. drop_it (nu i) key) (λ nu. told_stop x) s t
  drop_err x s t h = works_out (λ nu. step (change true (nu i) (remove key)) give) (λ nu _. give true) x s t h

  pub drop_ok : (s t : Core) → Works (λ nu. step (change true (nu i) (remove key)) give) (λ nu. Says tt) s t → Works (λ nu. drop_it (nu i) key) (λ nu. Says true) s t
  drop_ok s t h = works_then (λ nu. step (change true (nu i) (remove key)) give) (λ nu. tt) (λ nu _. give true) (λ nu. Says true) s t t h (works_give (λ nu. true) t)

  -- ---- a property along the prototypes

  pub gets_start : (old : Core) → IsWhole old.cells.now → i < count old → (said : Naming → Told (Option Val)) (last : Core)
      → Works (λ nu. get_in (nu i ∷ map nu (chain_of (kinds_of old.cells.now) i)) key) said old last → Works (λ nu. steps_of (Get (nu i) key)) said old last
  unfolding steps_of
  gets_start old whole here said last y =
      let kind = kind_there old.cells.now i here in
      works_known old whole i here kind.0 kind.1 (λ nu k. get_in (nu i ∷ k.chain) key) said last y

  pub gets_on : (chain : List ℕ) (said : Naming → Told (Option Val)) (s t last : Core) → Works (λ nu. step (change true (nu i) (look key)) give) (λ nu. Says None) s t
      → Works (λ nu. get_in (map nu chain) key) said t last → Works (λ nu. get_in (nu i ∷ map nu chain) key) said s last
  gets_on chain said s t last h y = works_then (λ nu. step (change true (nu i) (look key)) give) (λ nu. None) (λ nu o. or_else o (get_in (map nu chain) key)) said s t last h y

  pub gets_some : (chain : List ℕ) (v : Value) (s t : Core) → Works (λ nu. step (change true (nu i) (look key)) give) (λ nu. Says (Some (val_in nu v))) s t
      → Works (λ nu. get_in (nu i ∷ map nu chain) key) (λ nu. Says (Some (val_in nu v))) s t
  gets_some chain v s t h =
      works_then (λ nu. step (change true (nu i) (look key)) give) (λ nu. Some (val_in nu v)) (λ nu o. or_else o (get_in (map nu chain) key)) (λ nu. Says (Some (val_in nu v))) s t t h (works_give (λ nu. Some (val_in nu v)) t)

  pub gets_err : (chain : List ℕ) (x : OpStop) (s t : Core) → Works (λ nu. step (change true (nu i) (look key)) give) (λ nu. told_stop x) s t
      → Works (λ nu. get_in (nu i ∷ map nu chain) key) (λ nu. told_stop x) s t
  gets_err chain x s t h = works_out (λ nu. step (change true (nu i) (look key)) give) (λ nu o. or_else o (get_in (map nu chain) key)) x s t h

  -- ---- deletion

  remove_is : (nu : Naming) (kind : CellKind) → remove_in (kind_in nu kind) (nu i) key ≡ cond (stays_in kind key) (give false) (drop_it (nu i) key)
  remove_is nu (Frame p) = refl
  remove_is nu (Plain p) = refl
  remove_is nu Array = pick_key key length_key (give false) (drop_it (nu i) key)
  remove_is nu (Function n f) = pick_key key prototype_key (give false) (drop_it (nu i) key)
  remove_is nu (BuiltIn w) = pick_key key prototype_key (give false) (drop_it (nu i) key)

  pub removes : (old : Core) → IsWhole old.cells.now → i < count old → (kind : CellKind) → slice_get (kinds_of old.cells.now) i ≡ Some kind → (said : Naming → Told Bool) (last : Core)
      → Works (λ nu. cond (stays_in kind key) (give false) (drop_it (nu i) key)) said old last → Works (λ nu. steps_of (Remove (nu i) key)) said old last
  unfolding steps_of
  removes old whole here kind e said last y =
      works_known old whole i here kind e (λ nu k. remove_in k.kind (nu i) key) said last
      (let same : (λ (nu : Naming). cond (stays_in kind key) (give false) (drop_it (nu i) key)) ≡ (λ (nu : Naming). remove_in (kind_in nu kind) (nu i) key) = λ x nu. sym (remove_is nu kind) x in
      subst (λ g. Works g said old last) same y)

  pub removes_not : (kind : CellKind) (old : Core) → stays_in kind key ≡ true → Works (λ nu. cond (stays_in kind key) (give false) (drop_it (nu i) key)) (λ nu. Says false) old old
  removes_not kind old e = subst (λ t. Works (λ nu. cond t (give false) (drop_it (nu i) key)) (λ nu. Says false) old old) (sym e) (works_give (λ nu. false) old)

  pub removes_it : (kind : CellKind) (said : Naming → Told Bool) (old last : Core) → stays_in kind key ≡ false → Works (λ nu. drop_it (nu i) key) said old last
      → Works (λ nu. cond (stays_in kind key) (give false) (drop_it (nu i) key)) said old last
  removes_it kind said old last e y = subst (λ t. Works (λ nu. cond t (give false) (drop_it (nu i) key)) said old last) (sym e) y
