-- A run's heap in a run that has nothing else.
use Rattle.std.proofs.Common.{◌≡◌, refl, ap, sym, ◌∙◌, subst, ℕ, zero, suc, ◌<◌, ◌≤◌, Bool, false, List, [], ◌∷◌, length, Option, Some, None, slice_get, map, arith}
use Rattle.turk_base.specs.Names.{Name, root, cell, path_in}
use Rattle.turk_base.specs.Values.{Val, Kind}
use Rattle.turk_base.specs.State.{charge}
use Rattle.turk_base.specs.Steps.{Small, give, step, steps_of}
use Rattle.turk_base.specs.Prog.{Get, Put, Remove, Make, Pay, KindOf}
use Rattle.turk_base.specs.Start.{start}
use Rattle.value_cells.specs.declared.Value.{Value}
use Rattle.value_cells.specs.declared.CellKind.{CellKind}
use Rattle.value_cells.specs.Held.{Key, kinds_of, IsWhole}
use Rattle.value_cells.specs.Seen.{Naming, Seen, Fits, Grows, val_in, kind_in}
use Rattle.value_cells.specs.Does.{Told, Says, Does}
use Rattle.value_cells.proofs.Turns.{grows_length}
use Rattle.run_heap.specs.Core.{Core, count, names_in, Rests}
use Rattle.run_heap.specs.Placed.{seen_in, chain_of}
use Rattle.run_heap.specs.Works.{Works}
use Rattle.run_heap.specs.Begins.{first_names, Begins}
use Rattle.run_heap.proofs.Tables.{count_names}
use Rattle.run_heap.proofs.Turn.{works_give}
use Rattle.run_heap.proofs.Chains.{works_known}
use Rattle.builtin_calls.specs.Called.{HasBuiltIns}
use Rattle.plain_heap.specs.Plain.{alone, plain_seen, IsPlain, AtStart}

-- the number of names is that of the cells
pub many : (h : Core) → length (names_in h.cells.now) ≡ count h
many h = count_names h.cells.now

module _ (old new : Core) where
  pub gets : (i : ℕ) (key : Key) (said : Naming → Told (Option Val)) → Works (λ nu. steps_of (Get (nu i) key)) said old new → Does (λ nu. Get (nu i) key) said (plain_seen old) (plain_seen new)
  gets i key said w = let l = w.all alone in record { stays = l.stays; did = l.did }

  pub puts : (i : ℕ) (key : Key) (v : Value) (said : Naming → Told (Unit {0})) → Works (λ nu. steps_of (Put (nu i) key (val_in nu v))) said old new → Does (λ nu. Put (nu i) key (val_in nu v)) said (plain_seen old) (plain_seen new)
  puts i key v said w = let l = w.all alone in record { stays = l.stays; did = l.did }

  pub removes : (i : ℕ) (key : Key) (said : Naming → Told Bool) → Works (λ nu. steps_of (Remove (nu i) key)) said old new → Does (λ nu. Remove (nu i) key) said (plain_seen old) (plain_seen new)
  removes i key said w = let l = w.all alone in record { stays = l.stays; did = l.did }

  pub makes : (kind : CellKind) (said : Naming → Told Name) → Works (λ nu. steps_of (Make (kind_in nu kind))) said old new → Does (λ nu. Make (kind_in nu kind)) said (plain_seen old) (plain_seen new)
  makes kind said w = let l = w.all alone in record { stays = l.stays; did = l.did }

  pub pays : (n : ℕ) (said : Naming → Told (Unit {0})) → Works (λ nu. step (charge n) give) said old new → Does (λ nu. Pay n) said (plain_seen old) (plain_seen new)
  unfolding steps_of
  pays n said w = let l = w.all alone in record { stays = l.stays; did = l.did }

  -- no call takes a cell away
  pub more : {A : Type 0} (g : Naming → Small A) (said : Naming → Told A) → Works g said old new → length (names_in old.cells.now) ≤ length (names_in new.cells.now)
  more g said w = grows_length (names_in old.cells.now) (names_in new.cells.now) (w.all alone).stays.grows

  pub stays_plain : {A : Type 0} (g : Naming → Small A) (said : Naming → Told A) → Works g said old new → Rests old new → IsPlain old → IsPlain new
  stays_plain g said w r p = record {
    path = r.path ∙ p.path;
    branch = r.branch ∙ p.branch;
    outer = r.outer ∙ p.outer;
    first = λ i n e. (w.all alone).stays.grows i n (p.first i n e);
  }

pub kind_is : (h : Core) → IsWhole h.cells.now → (i : ℕ) → i < count h → (kind : CellKind) → slice_get (kinds_of h.cells.now) i ≡ Some kind
    → Does (λ nu. KindOf (nu i)) (λ nu. Says (kind_in nu kind)) (plain_seen h) (plain_seen h)
unfolding steps_of
kind_is h whole i here kind e =
    let w = works_known h whole i here kind e (λ nu k. give k.kind) (λ nu. Says (kind_in nu kind)) h (works_give (λ nu. kind_in nu kind) h) in
    let l = w.all alone in
    record { stays = l.stays; did = l.did }

pub begins_plain : (fuel : ℕ) (h : Core) → Begins fuel h → IsPlain h
begins_plain fuel h b = record { path = b.path; branch = b.branch; outer = b.outer; first = λ i n e. ap (λ l. slice_get l i) b.names ∙ e }

pub begins_start : (fuel : ℕ) (h : Core) → Begins fuel h → AtStart fuel (plain_seen h)
begins_start fuel h b = record {
  names = b.names;
  first = b.first;
  scope = λ i. record { path = path_in (b.path i); branch = path_in (b.branch i); body = false; back = λ nu. start };
  outer = refl;
  left = b.left;
}

pub has_built_ins : (h : Core) → IsPlain h → HasBuiltIns (plain_seen h)
has_built_ins h p = record { named = by }
  where
    by : (i : ℕ) → i < 7 → slice_get (names_in h.cells.now) i ≡ Some (cell root i)
    by zero l = p.first 0 (cell root 0) refl
    by (suc zero) l = p.first 1 (cell root 1) refl
    by (suc (suc zero)) l = p.first 2 (cell root 2) refl
    by (suc (suc (suc zero))) l = p.first 3 (cell root 3) refl
    by (suc (suc (suc (suc zero)))) l = p.first 4 (cell root 4) refl
    by (suc (suc (suc (suc (suc zero))))) l = p.first 5 (cell root 5) refl
    by (suc (suc (suc (suc (suc (suc zero)))))) l = p.first 6 (cell root 6) refl
    by (suc (suc (suc (suc (suc (suc (suc i))))))) l = absurd (omega arith)
