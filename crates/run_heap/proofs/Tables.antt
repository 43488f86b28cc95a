-- What is said of cells by their names, from what is kept of them by their numbers.
use Rattle.std.proofs.Common.{◌≡◌, refl, ap, sym, ◌∙◌, subst, ℕ, zero, suc, ◌<◌, ◌≤◌, List, [], ◌∷◌, ◌++◌, length, Option, Some, None, option_map, map, slice_get, arith}
use Rattle.std.proofs.Common.{inl, inr}
use Rattle.std.specs.Prelude.{◌⊎◌}
use Rattle.std.proofs.lemmas.Option.{slice_get-map, slice_get_within}
use Rattle.std.proofs.lemmas.List.{length-map}
use Rattle.turk_base.specs.Names.{Path, root, sub, path_on, path_in, indexes, Name, cell, name_eq, pick, home}
use Rattle.turk_base.specs.Values.{Property, Known}
use Rattle.turk_base.specs.State.{with_props}
use Rattle.value_cells.specs.declared.CellKind.{CellKind}
use Rattle.value_cells.specs.declared.CellKind.TheVariants.{Frame, Plain, Array, Function, BuiltIn}
use Rattle.value_cells.specs.declared.CellName.{CellName}
use Rattle.value_cells.specs.Needs.{kind_needs}
use Rattle.value_cells.specs.Held.{Cell, Props, names_of, kinds_of, props_in, props_at, IsWhole}
use Rattle.value_cells.specs.Held as held
use Rattle.value_cells.specs.Seen.{Naming, Fits, name_in, kind_in}
use Rattle.value_cells.proofs.Lists.{kinds-with, count-with}
use Rattle.slot_watch.specs.Named.{TellsApart}
use Rattle.run_heap.specs.Core.{names_in}
use Rattle.run_heap.specs.Placed as placed
use Rattle.run_heap.specs.Placed.{table, known_one, known_of, props_of, chain_from, chain_of, above}

-- ---- names

append_none : {A : Type 0} (l : List A) → l ++ [] ≡ l
append_none [] = refl
append_none (x ∷ l) = ap (λ z. x ∷ z) (append_none l)

append_more : {A : Type 0} (a b c : List A) → (a ++ b) ++ c ≡ a ++ (b ++ c)
append_more [] b c = refl
append_more (x ∷ a) b c = ap (λ z. x ∷ z) (append_more a b c)

indexes_on : (p : Path) (l : List ℕ) → indexes (path_on p l) ≡ indexes p ++ l
indexes_on p [] = sym (append_none (indexes p))
indexes_on p (i ∷ l) = indexes_on (sub i p) l ∙ append_more (indexes p) (i ∷ []) l

pub path_back : (l : List ℕ) → indexes (path_in l) ≡ l
path_back l = indexes_on root l

pub path_apart : (a b : List ℕ) → path_in a ≡ path_in b → a ≡ b
path_apart a b e = sym (path_back a) ∙ ap indexes e ∙ path_back b

number_of : Name → ℕ
number_of (cell s n) = n

pub name_apart : (a b : CellName) → name_in a ≡ name_in b → a ≡ b
unfolding number_of
name_apart a b e =
    let s : a.scope ≡ b.scope = path_apart a.scope b.scope (ap home e) in
    let n : a.number ≡ b.number = ap number_of e in
    λ i. record { scope = s i; number = n i }

pub there : {A : Type 0} (xs : List A) (i : ℕ) → i < length xs → (x : A) × (slice_get xs i ≡ Some x)
there [] i h = absurd (omega arith)
there (x ∷ xs) zero h = (x, refl)
there (x ∷ xs) (suc i) h = there xs i (omega arith)

pub name_at : (cells : List Cell) (i : ℕ) (c : CellName) → slice_get (names_of cells) i ≡ Some c → slice_get (names_in cells) i ≡ Some (name_in c)
name_at cells i c e = slice_get-map name_in (names_of cells) i ∙ ap (option_map name_in) e

pub count_names : (cells : List Cell) → length (names_in cells) ≡ length cells
count_names cells = length-map (names_of cells) name_in ∙ length-map cells (λ c. c.name)

pub tells : (nu : Naming) (cells : List Cell) → IsWhole cells → Fits nu (names_in cells) → TellsApart nu (length cells)
tells nu cells whole fits = record {
  apart = λ i j h k e.
      let a = there (names_of cells) i (omega (arith, h, length-map cells (λ c. c.name))) in
      let b = there (names_of cells) j (omega (arith, k, length-map cells (λ c. c.name))) in
      let n : name_in a.0 ≡ name_in b.0 = sym (fits.agrees i (name_in a.0) (name_at cells i a.0 a.1)) ∙ e ∙ fits.agrees j (name_in b.0) (name_at cells j b.0 b.1) in
      whole.distinct i j b.0 (a.1 ∙ ap Some (name_apart a.0 b.0 n)) b.1;
}

-- ---- tables

module _ {B : Type 0} (nu : Naming) (z : B) where
  pub table_same : (f g : ℕ → B) (k : ℕ) → ((i : ℕ) → i < k → f i ≡ g i) → (m : Name) → table nu f z k m ≡ table nu g z k m
  table_same f g zero h m = refl
  table_same f g (suc i) h m = λ x. pick (name_eq m (nu i)) (h i (omega arith) x) (table_same f g i (λ j l. h j (omega (arith, l))) m x)

  module _ (n : ℕ) (apart : TellsApart nu n) (f : ℕ → B) where
    pub table_at : (i k : ℕ) → i < k → k ≤ n → table nu f z k (nu i) ≡ f i
    table_at i zero h l = absurd (omega arith)
    table_at i (suc k) h l = by (name_eq (nu i) (nu k)) (table_at i k)
      where
        by : (d : Dec (nu i ≡ nu k)) → (i < k → k ≤ n → table nu f z k (nu i) ≡ f i) → pick d (f k) (table nu f z k (nu i)) ≡ f i
        by (yes e) r = ap f (sym (apart.apart i k (omega (arith, h, l)) (omega (arith, l)) e))
        by (no d) r = r (not_last (λ e. d (ap nu e))) (omega (arith, l))
          where
            not_last : (i ≡ k → ⊥) → i < k
            not_last ne = omega (arith, h, ne)

    -- one place changed
    module _ (g : ℕ → B) (i : ℕ) (x : B) (here : g i ≡ x) (other : (j : ℕ) → (j ≡ i → ⊥) → g j ≡ f j) where
      below : (k : ℕ) → k ≤ i → (m : Name) → table nu g z k m ≡ table nu f z k m
      below k l m = table_same g f k (λ j h. other j (λ e. omega (arith, h, l, e))) m

      pub table_set : (k : ℕ) → i < k → k ≤ n → (m : Name) → table nu g z k m ≡ pick (name_eq m (nu i)) x (table nu f z k m)
      table_set zero h l m = absurd (omega arith)
      table_set (suc k) h l m = by (λ q. table_set k q (omega (arith, l)) m) (order i k h)
        where
          order : (i k : ℕ) → i < suc k → (i ≡ k) ⊎ (i < k)
          order zero zero h = inl refl
          order zero (suc k) h = inr (omega arith)
          order (suc i) zero h = absurd (omega arith)
          order (suc i) (suc k) h = elim (order i k (omega arith)) [ inl e ↦ inl (ap suc e) | inr q ↦ inr (omega (arith, q)) ]

          same : (d : Dec (m ≡ nu i)) (y : B) → pick d x y ≡ pick d x (pick d (f i) y)
          same (yes e) y = refl
          same (no n) y = refl

          swap : (d : Dec (m ≡ nu k)) (e : Dec (m ≡ nu i)) (y : B) → (nu i ≡ nu k → ⊥) → pick d (f k) (pick e x y) ≡ pick e x (pick d (f k) y)
          swap (yes d) (yes e) y ne = absurd (ne (sym e ∙ d))
          swap (yes d) (no e) y ne = refl
          swap (no d) (yes e) y ne = refl
          swap (no d) (no e) y ne = refl

          by : (i < k → table nu g z k m ≡ pick (name_eq m (nu i)) x (table nu f z k m)) → (i ≡ k) ⊎ (i < k) → pick (name_eq m (nu k)) (g k) (table nu g z k m) ≡ pick (name_eq m (nu i)) x (pick (name_eq m (nu k)) (f k) (table nu f z k m))
          by r (inl e) =
              subst (λ k. pick (name_eq m (nu k)) (g k) (table nu g z k m) ≡ pick (name_eq m (nu i)) x (pick (name_eq m (nu k)) (f k) (table nu f z k m))) e
              ((λ y. pick (name_eq m (nu i)) (here y) (below i (omega arith) m y)) ∙ same (name_eq m (nu i)) (table nu f z i m))
          by r (inr q) =
              (λ y. pick (name_eq m (nu k)) (other k (λ e. omega (arith, q, e)) y) (r q y))
              ∙ swap (name_eq m (nu k)) (name_eq m (nu i)) (table nu f z k m) (λ e. let c : i ≡ k = apart.apart i k (omega (arith, q, l)) (omega (arith, l)) e in omega (arith, q, c))

-- ---- one cell with other properties

pub at_same : (cells : List Cell) (i : ℕ) (ps : Props) → i < length cells → props_at (held.with_props cells i ps) i ≡ ps
at_same [] i ps h = absurd (omega arith)
at_same (c ∷ cells) zero ps h = refl
at_same (c ∷ cells) (suc i) ps h = at_same cells i ps (omega arith)

pub at_other : (cells : List Cell) (i j : ℕ) (ps : Props) → (j ≡ i → ⊥) → props_at (held.with_props cells i ps) j ≡ props_at cells j
at_other [] i j ps h = refl
at_other (c ∷ cells) zero zero ps h = absurd (h refl)
at_other (c ∷ cells) zero (suc j) ps h = refl
at_other (c ∷ cells) (suc i) zero ps h = refl
at_other (c ∷ cells) (suc i) (suc j) ps h = at_other cells i j ps (λ e. h (ap suc e))

module _ (nu : Naming) (cells : List Cell) (apart : TellsApart nu (length cells)) (i : ℕ) (here : i < length cells) where
  pub props_here : props_of nu cells (nu i) ≡ placed.props_in nu (props_at cells i)
  props_here = table_at nu [] (length cells) apart (λ i. placed.props_in nu (props_at cells i)) i (length cells) here (omega arith)

  pub known_here : (kind : CellKind) → slice_get (kinds_of cells) i ≡ Some kind → known_of nu cells (nu i) ≡ Some (record { kind = kind_in nu kind; chain = map nu (chain_of (kinds_of cells) i) })
  known_here kind e =
      table_at nu None (length cells) apart (λ i. known_one nu (kinds_of cells) i (slice_get (kinds_of cells) i)) i (length cells) here (omega arith)
      ∙ ap (known_one nu (kinds_of cells) i) e

  pub some_kind : (kind : CellKind) × (slice_get (kinds_of cells) i ≡ Some kind)
  some_kind = there (kinds_of cells) i (omega (arith, here, length-map cells (λ c. c.kind)))

  pub known_with : (ps : Props) → known_of nu (held.with_props cells i ps) ≡ known_of nu cells
  known_with ps = λ x. table nu (λ j. known_one nu (kinds-with cells i ps x) j (slice_get (kinds-with cells i ps x) j)) None (count-with cells i ps x)

  pub props_with : (ps : Props) → props_of nu (held.with_props cells i ps) ≡ with_props (nu i) (placed.props_in nu ps) (props_of nu cells)
  props_with ps =
      let f = λ (j : ℕ). placed.props_in nu (props_at cells j) in
      let g = λ (j : ℕ). placed.props_in nu (props_at (held.with_props cells i ps) j) in
      let e = λ (m : Name). ap (λ n. table nu g [] n m) (count-with cells i ps)
      ∙ table_set nu [] (length cells) apart f g i (placed.props_in nu ps) (ap (placed.props_in nu) (at_same cells i ps here)) (λ j h. ap (placed.props_in nu) (at_other cells i j ps h)) (length cells) here (omega arith) m in
      λ x m. e m x

pub kind_there : (cells : List Cell) (i : ℕ) → i < length cells → (kind : CellKind) × (slice_get (kinds_of cells) i ≡ Some kind)
kind_there cells i h = there (kinds_of cells) i (omega (arith, h, length-map cells (λ c. c.kind)))
