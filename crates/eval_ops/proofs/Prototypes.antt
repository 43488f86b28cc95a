-- The chains of prototypes.
use Rattle.std.specs.Prelude.{Bool, true}
use Rattle.std.proofs.Common.{◌≡◌, refl, sym, ap, subst, ℕ, ◌<◌, List, ◌∷◌, length, map}
use Rattle.turk_base.specs.Names.{name_eq, pick}
use Rattle.turk_base.specs.Prog.{Inherits}
use Rattle.turk_base.specs.Steps.{stands_in, give, steps_of}
use Rattle.run_heap.proofs.Watches.{pick_no}
use Rattle.value_cells.specs.Held.{IsWhole, kinds_of}
use Rattle.value_cells.specs.Seen.{Naming}
use Rattle.value_cells.specs.Does.{Does, Says, Did, comes_from}
use Rattle.slot_watch.specs.Named.{TellsApart}
use Rattle.run_heap.specs.Placed.{chain_of}
use Rattle.run_heap.proofs.Chains.{works_known}
use Rattle.run_heap.proofs.Tables.{tells, kind_there}
use Rattle.run_heap.proofs.Turn.{works_give}
use Rattle.eval_ops.specs.Run.{Run, seen_of, around}

pick_yes : {A B : Type 0} (d : Dec A) (x y : B) → A → pick d x y ≡ x
pick_yes (yes a) x y h = refl
pick_yes (no n) x y h = absurd (n h)

module _ (nu : Naming) (n : ℕ) (apart : TellsApart nu n) (from : ℕ) (l : from < n) where
  -- the next of the chain is the one that is looked for, or is another
  pub stands_here : (i : ℕ) (chain : List ℕ) → i ≡ from → stands_in (nu from) (map nu (i ∷ chain)) ≡ true
  stands_here i chain e = pick_yes (name_eq (nu i) (nu from)) true (stands_in (nu from) (map nu chain)) (ap nu e)

  pub stands_on : (i : ℕ) (chain : List ℕ) → i < n → (i ≡ from → ⊥) → stands_in (nu from) (map nu (i ∷ chain)) ≡ stands_in (nu from) (map nu chain)
  stands_on i chain h d = pick_no (name_eq (nu i) (nu from)) true (stands_in (nu from) (map nu chain)) (λ e. d (apart.apart i from h l e))

pub inherits_does : (m : Run) → IsWhole m.heap.cells.now → (i from : ℕ) → i < length m.heap.cells.now → (b : Bool)
    → ((nu : Naming) → TellsApart nu (length m.heap.cells.now) → b ≡ stands_in (nu from) (map nu (chain_of (kinds_of m.heap.cells.now) i)))
    → Does (λ nu. Inherits (nu i) (nu from)) (λ nu. Says b) (seen_of m) (seen_of m)
unfolding steps_of
inherits_does m whole i from here b h =
    let kind = kind_there m.heap.cells.now i here in
    let on : Naming → Bool = λ nu. stands_in (nu from) (map nu (chain_of (kinds_of m.heap.cells.now) i)) in
    let w = works_known m.heap whole i here kind.0 kind.1 (λ nu k. give (stands_in (nu from) k.chain)) (λ nu. Says (on nu)) m.heap (works_give on m.heap) in
    let l = w.all (around m) in
    record {
      stays = l.stays;
      did = λ nu fits. subst (λ b. Did (comes_from (steps_of (Inherits (nu i) (nu from))) nu (seen_of m)) (Says b) ((seen_of m).first nu) (seen_of m).left) (sym (h nu (tells nu m.heap.cells.now whole fits))) (l.did nu fits);
    }
