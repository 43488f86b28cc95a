-- The prototypes of a cell, and the looking at a cell's kind.
use Rattle.std.proofs.Common.{◌≡◌, refl, ap, sym, ◌∙◌, subst, ℕ, zero, suc, ◌-◌, ◌<◌, ◌≤◌, nat_lt, Bool, true, false, List, [], ◌∷◌, length, Option, Some, None, slice_get, map, arith}
use Rattle.std.proofs.lemmas.Bool.Decides.{nat_tests}
use Rattle.turk_base.specs.Names.{Path, path_in, Name}
use Rattle.turk_base.specs.Values.{Known}
use Rattle.turk_base.specs.State.{St, known_at, Act, gives, act, act_known}
use Rattle.turk_base.specs.Steps.{Small, step}
use Rattle.value_cells.specs.declared.CellKind.{CellKind}
use Rattle.value_cells.specs.declared.CellKind.TheVariants.{Frame, Plain, Array, Function, BuiltIn}
use Rattle.value_cells.specs.Needs.{kind_needs}
use Rattle.value_cells.specs.Comes.{Comes, then_goes, acted, charged, comes}
use Rattle.value_cells.specs.Held.{Cell, kinds_of, IsWhole}
use Rattle.value_cells.specs.Seen.{Naming, Fits, kind_in}
use Rattle.value_cells.specs.Does.{Told, Did}
use Rattle.value_cells.proofs.Turns.{fits_before}
use Rattle.run_heap.specs.Core.{Core, count, names_in}
use Rattle.run_heap.specs.Placed.{placed, Around, seen_in, known_of, chain_from, chain_of, above}
use Rattle.run_heap.specs.Works.{Performs, Works}
use Rattle.run_heap.proofs.Tables.{tells, known_here}

module _ (kinds : List CellKind) (older : (i : ℕ) (k : CellKind) → slice_get kinds i ≡ Some k → kind_needs k ≤ i) where
  chain_same : (d e i : ℕ) → i < d → i < e → chain_from kinds d i ≡ chain_from kinds e i
  chain_same zero e i h l = absurd (omega arith)
  chain_same (suc d) zero i h l = absurd (omega arith)
  chain_same (suc d) (suc e) i h l = by (slice_get kinds i) refl (chain_same d e)
    where
      by : (o : Option CellKind) → slice_get kinds i ≡ o → ((j : ℕ) → j < d → j < e → chain_from kinds d j ≡ chain_from kinds e j) → above o (chain_from kinds d) ≡ above o (chain_from kinds e)
      by None f r = refl
      by (Some (Frame p)) f r = refl
      by (Some (Plain None)) f r = refl
      by (Some (Plain (Some p))) f r = let o = older i (Plain (Some p)) f in ap (λ l. p ∷ l) (r p (omega (arith, o, h)) (omega (arith, o, l)))
      by (Some Array) f r = refl
      by (Some (Function n g)) f r = refl
      by (Some (BuiltIn w)) f r = refl

  pub chain_up : (i p : ℕ) → slice_get kinds i ≡ Some (Plain (Some p)) → chain_of kinds i ≡ p ∷ chain_of kinds p
  chain_up i p e =
      let o = older i (Plain (Some p)) e in
      ap (λ o. above o (chain_from kinds i)) e ∙ ap (λ l. p ∷ l) (chain_same i (suc p) p (omega (arith, o)) (omega arith))

  pub chain_plain : (i : ℕ) → slice_get kinds i ≡ Some (Plain None) → chain_of kinds i ≡ []
  chain_plain i e = ap (λ o. above o (chain_from kinds i)) e

  pub chain_frame : (i : ℕ) (p : Option ℕ) → slice_get kinds i ≡ Some (Frame p) → chain_of kinds i ≡ []
  chain_frame i p e = ap (λ o. above o (chain_from kinds i)) e

  pub chain_array : (i : ℕ) → slice_get kinds i ≡ Some Array → chain_of kinds i ≡ []
  chain_array i e = ap (λ o. above o (chain_from kinds i)) e

  pub chain_function : (i n g : ℕ) → slice_get kinds i ≡ Some (Function n g) → chain_of kinds i ≡ []
  chain_function i n g e = ap (λ o. above o (chain_from kinds i)) e

  pub chain_built_in : (i w : ℕ) → slice_get kinds i ≡ Some (BuiltIn w) → chain_of kinds i ≡ []
  chain_built_in i w e = ap (λ o. above o (chain_from kinds i)) e

-- ---- a cell's kind and chain are looked at

comes_known : {A : Type 0} (c : Name) (go : Known → Small A) (s b : Path) (body : Bool) (σ : St) (n : ℕ) (k : Known) → σ.known c ≡ Some k → comes (step (known_at c) go) s b body σ n ≡ comes (go k) s b body σ n
unfolding comes act
comes_known c go s b body σ n k e =
    let u : nat_lt n 0 ≡ false = grind (arith, nat_tests) in
    let z : n - 0 ≡ n = omega arith in
    let next = λ (x : Act Known) (m : ℕ). then_goes (acted x m) (λ a τ m. comes (go a) s b body τ m) in
    ap (λ t. charged t 0 σ n (next (act_known (σ.known c) σ) (n - 0))) u ∙ ap (λ m. next (act_known (σ.known c) σ) m) z ∙ ap (λ o. next (act_known o σ) n) e

pub works_known : {A : Type 0} (old : Core) → IsWhole old.cells.now → (i : ℕ) → i < count old → (kind : CellKind) → slice_get (kinds_of old.cells.now) i ≡ Some kind
    → (go : Naming → Known → Small A) (said : Naming → Told A) (last : Core)
    → Works (λ nu. go nu (record { kind = kind_in nu kind; chain = map nu (chain_of (kinds_of old.cells.now) i) })) said old last → Works (λ nu. step (known_at (nu i)) (go nu)) said old last
works_known old whole i here kind e go said last y = record {
  all = λ r.
      let l = y.all r in
      record {
        stays = l.stays;
        did = λ nu fits.
            let f = fits_before nu (names_in old.cells.now) (names_in last.cells.now) l.stays.grows fits in
            let k = known_here nu old.cells.now (tells nu old.cells.now whole f) i here kind e in
            subst (λ c. Did c (said nu) (placed nu last (r.base nu)) last.left)
            (sym (comes_known (nu i) (go nu) (path_in old.place.path) (path_in old.place.branch) r.body (placed nu old (r.base nu)) old.left (record { kind = kind_in nu kind; chain = map nu (chain_of (kinds_of old.cells.now) i) }) k))
            (l.did nu fits);
      };
}
