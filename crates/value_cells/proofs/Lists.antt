-- Lists by place, what properties need, and lists of cells of which one is changed.
use Rattle.std.proofs.Common.{◌≡◌, ◌∙◌, subst, ap, refl, sym, ℕ, zero, suc, ◌+◌, ◌≤◌, ◌<◌, max, Bool, true, false, cond, List, [], ◌∷◌, ◌++◌, length, set, Some, slice_get, arith, take, insert, length-append}
use Rattle.std.proofs.Math.Seq.{drop-length, take-length}
use Rattle.std.proofs.lemmas.Option.{slice_get_within, get_or_from_slice_get}
use Rattle.std.proofs.lemmas.List.{take_more, length-take-le, map-append, length-map}
use Rattle.std.specs.Map.{lookup, set_value, remove_entry}
use Rattle.value_cells.specs.declared.Value.{Value}
use Rattle.value_cells.specs.declared.CellName.{CellName}
use Rattle.value_cells.specs.Needs.{needs, kind_needs, props_needs}
use Rattle.value_cells.specs.Held.{Cell, Props, Key, names_of, kinds_of, with_props, IsWhole}

pub get_front : {A : Type 0} (xs ys : List A) (i : ℕ) (x : A) → slice_get xs i ≡ Some x → slice_get (xs ++ ys) i ≡ Some x
get_front [] ys i x h = cc
get_front (y ∷ xs) ys zero x h = h
get_front (y ∷ xs) ys (suc i) x h = get_front xs ys i x h

pub get_last : {A : Type 0} (xs : List A) (x : A) → slice_get (xs ++ x ∷ []) (length xs) ≡ Some x
get_last [] x = refl
get_last (y ∷ xs) x = get_last xs x

-- what stands in a list with one more at its end
pub pushed : {A : Type 0} (P : ℕ → A → Type 0) (xs : List A) (y : A) → ((i : ℕ) (x : A) → slice_get xs i ≡ Some x → P i x) → P (length xs) y
    → (i : ℕ) (x : A) → slice_get (xs ++ y ∷ []) i ≡ Some x → P i x
pushed P [] y old new zero x e = let h : y ≡ x = cc in subst (P 0) h new
pushed P [] y old new (suc i) x e = cc
pushed P (z ∷ xs) y old new zero x e = old 0 x e
pushed P (z ∷ xs) y old new (suc i) x e = pushed (λ j. P (suc j)) xs y (λ j. old (suc j)) new i x e

-- a pair put at the length is last
pub insert-last : {A : Type 0} (xs : List A) (n : ℕ) (x : A) → n ≡ length xs → insert xs n x ≡ xs ++ x ∷ []
insert-last xs n x e = ap (λ n. insert xs n x) e ∙ (λ i. take-length xs i ++ x ∷ drop-length xs i)

-- one more item of a copy
pub copy-next : {A : Type 0} (es copy : List A) (i : ℕ) (e given : A) → copy ≡ take i es → slice_get es i ≡ Some e → given ≡ e → insert copy i given ≡ take (i + 1) es
copy-next es copy i e given same at is =
    let here : i < length es = slice_get_within es i e at in
    let long : i ≡ length copy = sym (length-take-le i es (omega arith)) ∙ ap length (sym same) in
    insert-last copy i given long ∙ (λ j. same j ++ is j ∷ []) ∙ sym (take_more es i e here ∙ ap (λ x. take i es ++ x ∷ []) (get_or_from_slice_get es i e e at))

-- ---- properties

pub lookup-needs : (t : Key → Bool) (es : Props) (v : Value) → lookup t es ≡ Some v → needs v ≤ props_needs es
lookup-needs t [] v h = cc
lookup-needs t (e ∷ es) v h = by (t e.0) h (lookup-needs t es v)
  where
    by : (b : Bool) → cond b (Some e.1) (lookup t es) ≡ Some v → (lookup t es ≡ Some v → needs v ≤ props_needs es) → needs v ≤ max (needs e.1) (props_needs es)
    by true h rest = let k : e.1 ≡ v = cc in let l : needs e.1 ≡ needs v = ap needs k in omega (arith, l)
    by false h rest = omega (arith, rest h)

pub set-needs : (t : Key → Bool) (es : Props) (v : Value) (n : ℕ) → props_needs es ≤ n → needs v ≤ n → props_needs (set_value t es v) ≤ n
set-needs t [] v n h k = h
set-needs t (e ∷ es) v n h k = by (t e.0) (set-needs t es v n (omega (arith, h)) k)
  where
    by : (b : Bool) → props_needs (set_value t es v) ≤ n → props_needs (cond b ((e.0, v) ∷ es) (e ∷ set_value t es v)) ≤ n
    by true r = omega (arith, h, k)
    by false r = omega (arith, h, r)

pub push-needs : (es : Props) (k : Key) (v : Value) (n : ℕ) → props_needs es ≤ n → needs v ≤ n → props_needs (es ++ (k, v) ∷ []) ≤ n
push-needs [] k v n h l = omega (arith, l)
push-needs (e ∷ es) k v n h l = let r = push-needs es k v n (omega (arith, h)) l in omega (arith, h, r)

pub remove-needs : (t : Key → Bool) (es : Props) (n : ℕ) → props_needs es ≤ n → props_needs (remove_entry t es) ≤ n
remove-needs t [] n h = h
remove-needs t (e ∷ es) n h = by (t e.0) (remove-needs t es n (omega (arith, h)))
  where
    by : (b : Bool) → props_needs (remove_entry t es) ≤ n → props_needs (cond b es (e ∷ remove_entry t es)) ≤ n
    by true r = omega (arith, h)
    by false r = omega (arith, h, r)

-- ---- one cell is changed

pub set-with : (cs : List Cell) (i : ℕ) (c : Cell) (ps : Props) → slice_get cs i ≡ Some c → set cs i (record c { props = ps }) ≡ with_props cs i ps
set-with [] i c ps e = cc
set-with (d ∷ cs) zero c ps e = let h : d ≡ c = cc in λ i. record (sym h i) { props = ps } ∷ cs
set-with (d ∷ cs) (suc i) c ps e = ap (λ l. d ∷ l) (set-with cs i c ps e)

pub names-with : (cs : List Cell) (i : ℕ) (ps : Props) → names_of (with_props cs i ps) ≡ names_of cs
names-with [] i ps = refl
names-with (c ∷ cs) zero ps = refl
names-with (c ∷ cs) (suc i) ps = ap (λ l. c.name ∷ l) (names-with cs i ps)

pub kinds-with : (cs : List Cell) (i : ℕ) (ps : Props) → kinds_of (with_props cs i ps) ≡ kinds_of cs
kinds-with [] i ps = refl
kinds-with (c ∷ cs) zero ps = refl
kinds-with (c ∷ cs) (suc i) ps = ap (λ l. c.kind ∷ l) (kinds-with cs i ps)

pub count-with : (cs : List Cell) (i : ℕ) (ps : Props) → length (with_props cs i ps) ≡ length cs
count-with [] i ps = refl
count-with (c ∷ cs) zero ps = refl
count-with (c ∷ cs) (suc i) ps = ap suc (count-with cs i ps)

pub props-with : (P : Props → Type 0) (cs : List Cell) (i : ℕ) (ps : Props) → ((j : ℕ) (c : Cell) → slice_get cs j ≡ Some c → P c.props) → P ps
    → (j : ℕ) (c : Cell) → slice_get (with_props cs i ps) j ≡ Some c → P c.props
props-with P [] i ps old new j c e = cc
props-with P (d ∷ cs) zero ps old new zero c e = let h : record d { props = ps } ≡ c = cc in subst (λ c. P c.props) h new
props-with P (d ∷ cs) zero ps old new (suc j) c e = old (suc j) c e
props-with P (d ∷ cs) (suc i) ps old new zero c e = old 0 c e
props-with P (d ∷ cs) (suc i) ps old new (suc j) c e = props-with P cs i ps (λ j. old (suc j)) new j c e

pub whole-with : (cs : List Cell) (i : ℕ) (ps : Props) → IsWhole cs → props_needs ps ≤ length cs → IsWhole (with_props cs i ps)
whole-with cs i ps whole h = record {
  older = λ j k e. whole.older j k (ap (λ l. slice_get l j) (sym (kinds-with cs i ps)) ∙ e);
  exist = λ j c e. subst (λ n. props_needs c.props ≤ n) (sym (count-with cs i ps)) (props-with (λ qs. props_needs qs ≤ length cs) cs i ps whole.exist h j c e);
  distinct = λ j k n e f. whole.distinct j k n (ap (λ l. slice_get l j) (sym (names-with cs i ps)) ∙ e) (ap (λ l. slice_get l k) (sym (names-with cs i ps)) ∙ f);
}

-- ---- a cell is added

module _ (cs : List Cell) (c : Cell) (whole : IsWhole cs) (kind : kind_needs c.kind ≤ length cs) (none : c.props ≡ []) (fresh : (i : ℕ) → slice_get (names_of cs) i ≡ Some c.name → ⊥) where
  names : names_of (cs ++ c ∷ []) ≡ names_of cs ++ c.name ∷ []
  names = map-append (λ c. c.name) cs (c ∷ [])

  kinds : kinds_of (cs ++ c ∷ []) ≡ kinds_of cs ++ c.kind ∷ []
  kinds = map-append (λ c. c.kind) cs (c ∷ [])

  long : length (cs ++ c ∷ []) ≡ suc (length cs)
  long = length-append cs (c ∷ []) ∙ omega arith

  apart : (i j : ℕ) (n : CellName) → slice_get (names_of cs ++ c.name ∷ []) i ≡ Some n → slice_get (names_of cs ++ c.name ∷ []) j ≡ Some n → i ≡ j
  apart i j n e f = pushed (λ i n. slice_get (names_of cs ++ c.name ∷ []) j ≡ Some n → i ≡ j) (names_of cs) c.name old new i n e f
    where
      old : (i : ℕ) (n : CellName) → slice_get (names_of cs) i ≡ Some n → slice_get (names_of cs ++ c.name ∷ []) j ≡ Some n → i ≡ j
      old i n e f = pushed (λ j m. m ≡ n → i ≡ j) (names_of cs) c.name (λ j m g h. whole.distinct i j n e (g ∙ ap Some h)) (λ h. absurd (fresh i (e ∙ ap Some (sym h)))) j n f refl

      new : slice_get (names_of cs ++ c.name ∷ []) j ≡ Some c.name → length (names_of cs) ≡ j
      new f = pushed (λ j m. m ≡ c.name → length (names_of cs) ≡ j) (names_of cs) c.name (λ j m g h. absurd (fresh j (g ∙ ap Some h))) (λ h. refl) j c.name f refl

  pub whole-pushed : IsWhole (cs ++ c ∷ [])
  whole-pushed = record {
    older = λ i k e. pushed (λ i k. kind_needs k ≤ i) (kinds_of cs) c.kind whole.older (subst (λ n. kind_needs c.kind ≤ n) (sym (length-map cs (λ c. c.kind))) kind) i k (ap (λ l. slice_get l i) (sym kinds) ∙ e);
    exist = pushed (λ i d. props_needs d.props ≤ length (cs ++ c ∷ [])) cs c (λ i d e. let h = whole.exist i d e in omega (arith, h, long)) (subst (λ ps. props_needs ps ≤ length (cs ++ c ∷ [])) (sym none) (omega arith));
    distinct = λ i j n e f. apart i j n (ap (λ l. slice_get l i) (sym names) ∙ e) (ap (λ l. slice_get l j) (sym names) ∙ f);
  }
