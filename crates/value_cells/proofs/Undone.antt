-- What undoing steps gives, and that the cells at the open marks stay as they are.
use Rattle.std.proofs.Common.{◌≡◌, ◌∙◌, subst, ap, refl, sym, ℕ, zero, suc, ◌+◌, ◌-◌, ◌≤◌, Bool, true, false, nat_eq, List, [], ◌∷◌, ◌++◌, length, map, set, Some, None, Result, Ok, Err, OnOk, cond, slice_get, take, drop, arith}
use Rattle.std.proofs.Math.Seq.{drop-length, take-length}
use Rattle.std.proofs.lemmas.Bool.Decides.{nat_tests}
use Rattle.std.proofs.lemmas.List.{map-append, append-nil, append_assoc}
use Rattle.std.proofs.lemmas.Option.{slice_get_within}
use Rattle.std.specs.Map.{lookup, set_value, remove_entry}
use Rattle.value_cells.specs.declared.Value.{Value}
use Rattle.value_cells.specs.declared.CellData.{CellData}
use Rattle.value_cells.specs.declared.history.Undo.TheVariants.{SetBack, TakeOut, PutBack}
use Rattle.value_cells.specs.declared.history.Step.{Step}
use Rattle.value_cells.specs.declared.history.Point.{Point}
use Rattle.value_cells.specs.Named.{Entries}
use Rattle.value_cells.specs.Undone.{changed, put, undoing, undone, before, befores, AreNested, IsFree, PutsBack}
use Rattle.value_cells.proofs.Lists.{pushed, get_front, get_last}

-- ---- one cell is changed

pub changed-at : (f : Entries → Entries) (ds : List CellData) (i : ℕ) (d : CellData) → slice_get ds i ≡ Some d → set ds i (record d { props = f d.props }) ≡ changed f i ds
changed-at f [] i d e = cc
changed-at f (c ∷ ds) zero d e = let h : c ≡ d = cc in λ i. record (sym h i) { props = f (sym h i).props } ∷ ds
changed-at f (c ∷ ds) (suc i) d e = ap (λ l. c ∷ l) (changed-at f ds i d e)

pub changed-past : (f : Entries → Entries) (ds : List CellData) (i : ℕ) → length ds ≤ i → changed f i ds ≡ ds
changed-past f [] i h = refl
changed-past f (d ∷ ds) zero h = absurd (omega (arith, h))
changed-past f (d ∷ ds) (suc i) h = ap (λ l. d ∷ l) (changed-past f ds i (omega (arith, h)))

-- a change that puts the same properties
pub changed-same : (f : Entries → Entries) (ds : List CellData) (i : ℕ) (d : CellData) → slice_get ds i ≡ Some d → f d.props ≡ d.props → changed f i ds ≡ ds
changed-same f [] i d e h = refl
changed-same f (c ∷ ds) zero d e h =
    let k : d ≡ c = cc in
    (λ i. record c { props = subst (λ c. f c.props ≡ c.props) k h i } ∷ ds)
changed-same f (c ∷ ds) (suc i) d e h = ap (λ l. c ∷ l) (changed-same f ds i d e h)

-- a change after properties were put
pub changed-put : (f : Entries → Entries) (es : Entries) (i : ℕ) (ds : List CellData) → changed f i (put i es ds) ≡ put i (f es) ds
changed-put f es i [] = refl
changed-put f es zero (d ∷ ds) = refl
changed-put f es (suc i) (d ∷ ds) = ap (λ l. d ∷ l) (changed-put f es i ds)

-- what was changed before properties are put doesn't matter
pub put-changed : (f : Entries → Entries) (es : Entries) (i : ℕ) (ds : List CellData) → put i es (changed f i ds) ≡ put i es ds
put-changed f es i [] = refl
put-changed f es zero (d ∷ ds) = refl
put-changed f es (suc i) (d ∷ ds) = ap (λ l. d ∷ l) (put-changed f es i ds)

-- two cells are changed in any order
pub apart : (f g : Entries → Entries) (i j : ℕ) (ds : List CellData) → (i ≡ j → ⊥) → changed f i (changed g j ds) ≡ changed g j (changed f i ds)
apart f g i j [] n = refl
apart f g zero zero (d ∷ ds) n = absurd (n refl)
apart f g zero (suc j) (d ∷ ds) n = refl
apart f g (suc i) zero (d ∷ ds) n = refl
apart f g (suc i) (suc j) (d ∷ ds) n = ap (λ l. d ∷ l) (apart f g i j ds (λ e. n (ap suc e)))

pub take-changed : (f : Entries → Entries) (n i : ℕ) (ds : List CellData) → take n (changed f i ds) ≡ changed f i (take n ds)
take-changed f zero i ds = refl
take-changed f (suc n) i [] = refl
take-changed f (suc n) zero (d ∷ ds) = refl
take-changed f (suc n) (suc i) (d ∷ ds) = ap (λ l. d ∷ l) (take-changed f n i ds)

pub take-past : (f : Entries → Entries) (n i : ℕ) (ds : List CellData) → n ≤ i → take n (changed f i ds) ≡ take n ds
take-past f zero i ds h = refl
take-past f (suc n) i [] h = refl
take-past f (suc n) zero (d ∷ ds) h = absurd (omega (arith, h))
take-past f (suc n) (suc i) (d ∷ ds) h = ap (λ l. d ∷ l) (take-past f n i ds (omega (arith, h)))

pub length-changed : (f : Entries → Entries) (i : ℕ) (ds : List CellData) → length (changed f i ds) ≡ length ds
length-changed f i [] = refl
length-changed f zero (d ∷ ds) = refl
length-changed f (suc i) (d ∷ ds) = ap suc (length-changed f i ds)

-- ---- lists

take-append : {A : Type 0} (n : ℕ) (xs ys : List A) → n ≤ length xs → take n (xs ++ ys) ≡ take n xs
take-append zero xs ys h = refl
take-append (suc n) [] ys h = absurd (omega (arith, h))
take-append (suc n) (x ∷ xs) ys h = ap (λ l. x ∷ l) (take-append n xs ys (omega (arith, h)))

drop-append : {A : Type 0} (n : ℕ) (xs ys : List A) → n ≤ length xs → drop n (xs ++ ys) ≡ drop n xs ++ ys
drop-append zero xs ys h = refl
drop-append (suc n) [] ys h = absurd (omega (arith, h))
drop-append (suc n) (x ∷ xs) ys h = drop-append n xs ys (omega (arith, h))

take-take : {A : Type 0} (n m : ℕ) (xs : List A) → n ≤ m → take n (take m xs) ≡ take n xs
take-take zero m xs h = refl
take-take (suc n) zero xs h = absurd (omega (arith, h))
take-take (suc n) (suc m) [] h = refl
take-take (suc n) (suc m) (x ∷ xs) h = ap (λ l. x ∷ l) (take-take n m xs (omega (arith, h)))

-- what stands from the one place up to the other, and after that
drop-take : {A : Type 0} (n m : ℕ) (xs : List A) → n ≤ m → drop n (take m xs) ++ drop m xs ≡ drop n xs
drop-take zero zero xs h = refl
drop-take zero (suc m) [] h = refl
drop-take zero (suc m) (x ∷ xs) h = ap (λ l. x ∷ l) (drop-take zero m xs (omega arith))
drop-take (suc n) zero xs h = absurd (omega (arith, h))
drop-take (suc n) (suc m) [] h = refl
drop-take (suc n) (suc m) (x ∷ xs) h = drop-take n m xs (omega (arith, h))

pub length-take : {A : Type 0} (n : ℕ) (xs : List A) → n ≤ length xs → length (take n xs) ≡ n
length-take zero xs h = refl
length-take (suc n) [] h = absurd (omega (arith, h))
length-take (suc n) (x ∷ xs) h = ap suc (length-take n xs (omega (arith, h)))

map-each : {A B : Type 0} (f g : A → B) (xs : List A) → ((i : ℕ) (x : A) → slice_get xs i ≡ Some x → f x ≡ g x) → map f xs ≡ map g xs
map-each f g [] h = refl
map-each f g (x ∷ xs) h = λ i. h 0 x refl i ∷ map-each f g xs (λ j. h (suc j)) i

-- ---- steps

undone-append : (xs ys : List Step) (ds : List CellData) → undone (xs ++ ys) ds ≡ undone xs (undone ys ds)
undone-append [] ys ds = refl
undone-append (x ∷ xs) ys ds = ap (changed (undoing x.undo) x.cell) (undone-append xs ys ds)

take-undone : (ss : List Step) (n : ℕ) (ds : List CellData) → take n (undone ss ds) ≡ undone ss (take n ds)
take-undone [] n ds = refl
take-undone (s ∷ ss) n ds = take-changed (undoing s.undo) n s.cell (undone ss ds) ∙ ap (changed (undoing s.undo) s.cell) (take-undone ss n ds)

pub length-undone : (ss : List Step) (ds : List CellData) → length (undone ss ds) ≡ length ds
length-undone [] ds = refl
length-undone (s ∷ ss) ds = length-changed (undoing s.undo) s.cell (undone ss ds) ∙ length-undone ss ds

-- where all properties are put at the end, what they were before the steps doesn't matter
blank : (ss : List Step) (ds : List CellData) (i : ℕ) (es last : Entries) → put i last (undone ss (put i es ds)) ≡ put i last (undone ss ds)
blank [] ds i es last = put-changed (λ _. es) last i ds
blank (s ∷ ss) ds i es last = by (nat_eq i s.cell) refl (blank ss ds i es last)
  where
    f : Entries → Entries
    f = undoing s.undo

    by : (b : Bool) → nat_eq i s.cell ≡ b → put i last (undone ss (put i es ds)) ≡ put i last (undone ss ds) → put i last (changed f s.cell (undone ss (put i es ds))) ≡ put i last (changed f s.cell (undone ss ds))
    by true e rest =
        let one : s.cell ≡ i = grind (arith, nat_tests) in
        ap (λ j. put i last (changed f j (undone ss (put i es ds)))) one ∙ put-changed f last i (undone ss (put i es ds)) ∙ rest
        ∙ sym (ap (λ j. put i last (changed f j (undone ss ds))) one ∙ put-changed f last i (undone ss ds))
    by false e rest =
        let n : i ≡ s.cell → ⊥ = λ h. grind (arith, nat_tests) in
        apart (λ _. last) f i s.cell (undone ss (put i es ds)) n ∙ ap (changed f s.cell) rest ∙ sym (apart (λ _. last) f i s.cell (undone ss ds) n)

-- a later step puts all properties of the cell back
covered : (ss : List Step) (k n i : ℕ) → k ≤ n → PutsBack ss n i → (ds : List CellData) (es : Entries) → undone (drop k ss) (put i es ds) ≡ undone (drop k ss) ds
covered [] k n i h (ps, at) ds es = cc
covered (s ∷ ss) zero zero i h (ps, at) ds es =
    let one : s ≡ record { cell = i; undo = PutBack ps } = cc in
    ap (λ s. undone (s ∷ ss) (put i es ds)) one ∙ blank ss ds i es ps ∙ sym (ap (λ s. undone (s ∷ ss) ds) one)
covered (s ∷ ss) zero (suc n) i h (ps, at) ds es = ap (changed (undoing s.undo) s.cell) (covered ss zero n i (omega arith) (ps, at) ds es)
covered (s ∷ ss) (suc k) zero i h at ds es = absurd (omega (arith, h))
covered (s ∷ ss) (suc k) (suc n) i h (ps, at) ds es = covered ss k n i (omega (arith, h)) (ps, at) ds es

-- ---- what there was at the marks

-- a step that undoes what is done leaves it
pub noted : (ss : List Step) (ps : List Point) (s : Step) (now then : List CellData) → AreNested (length ss) ps → changed (undoing s.undo) s.cell now ≡ then
    → befores (ss ++ s ∷ []) ps now ≡ befores ss ps then
noted ss ps s now then nested h = map-each (before (ss ++ s ∷ []) now) (before ss then) ps each
  where
    each : (i : ℕ) (p : Point) → slice_get ps i ≡ Some p → before (ss ++ s ∷ []) now p ≡ before ss then p
    each i p e =
        ap (λ l. undone l (take p.cells now)) (drop-append p.steps ss (s ∷ []) (nested.fewer i p e))
        ∙ undone-append (drop p.steps ss) (s ∷ []) (take p.cells now)
        ∙ ap (undone (drop p.steps ss)) (sym (take-changed (undoing s.undo) p.cells s.cell now) ∙ ap (take p.cells) h)

-- so does a change of a cell made since all marks
pub free-new : (ss : List Step) (ps : List Point) (i : ℕ) → ((k : ℕ) (p : Point) → slice_get ps k ≡ Some p → p.cells ≤ i) → IsFree ss ps i
free-new ss ps i h ds es = map-each (before ss (put i es ds)) (before ss ds) ps (λ k p e. ap (undone (drop p.steps ss)) (take-past (λ _. es) p.cells i ds (h k p e)))

-- and of one that was saved whole since all marks
pub free-saved : (ss : List Step) (ps : List Point) (i n : ℕ) → ((k : ℕ) (p : Point) → slice_get ps k ≡ Some p → p.steps ≤ n) → PutsBack ss n i → IsFree ss ps i
free-saved ss ps i n h at ds es = map-each (before ss (put i es ds)) (before ss ds) ps
    (λ k p e. ap (undone (drop p.steps ss)) (take-changed (λ _. es) p.cells i ds) ∙ covered ss p.steps n i (h k p e) at (take p.cells ds) es)

-- a cell is added
pub made-past : (ss : List Step) (ps : List Point) (ds : List CellData) (d : CellData) → ((k : ℕ) (p : Point) → slice_get ps k ≡ Some p → p.cells ≤ length ds)
    → befores ss ps (ds ++ d ∷ []) ≡ befores ss ps ds
made-past ss ps ds d h = map-each (before ss (ds ++ d ∷ [])) (before ss ds) ps (λ k p e. ap (undone (drop p.steps ss)) (take-append p.cells ds (d ∷ []) (h k p e)))

-- a mark is set
module _ (ss : List Step) (ps : List Point) (ds : List CellData) where
  abbrev pub now-point : Point
  now-point = record { cells = length ds; steps = length ss }

  pub opened : befores ss (ps ++ now-point ∷ []) ds ≡ befores ss ps ds ++ ds ∷ []
  opened = map-append (before ss ds) ps (now-point ∷ []) ∙ (λ i. befores ss ps ds ++ undone (drop-length ss i) (take-length ds i) ∷ [])

  pub nested-open : AreNested (length ss) ps → ((k : ℕ) (p : Point) → slice_get ps k ≡ Some p → p.cells ≤ length ds) → AreNested (length ss) (ps ++ now-point ∷ [])
  nested-open nested within = record {
    fewer = pushed (λ i p. p.steps ≤ length ss) ps now-point nested.fewer (omega arith);
    later = λ i j p q l e f. pushed (λ j q. i ≤ j → (p.cells ≤ q.cells) × (p.steps ≤ q.steps)) ps now-point (λ j q f l. before-last i j p q l e f) (λ l. last i p e) j q f l;
  }
    where
      last : (i : ℕ) (p : Point) → slice_get (ps ++ now-point ∷ []) i ≡ Some p → (p.cells ≤ length ds) × (p.steps ≤ length ss)
      last = pushed (λ i p. (p.cells ≤ length ds) × (p.steps ≤ length ss)) ps now-point (λ i p e. (within i p e, nested.fewer i p e)) (omega arith, omega arith)

      before-last : (i j : ℕ) (p q : Point) → i ≤ j → slice_get (ps ++ now-point ∷ []) i ≡ Some p → slice_get ps j ≡ Some q → (p.cells ≤ q.cells) × (p.steps ≤ q.steps)
      before-last i j p q l e f = pushed (λ i p. i ≤ j → (p.cells ≤ q.cells) × (p.steps ≤ q.steps)) ps now-point (λ i p e l. nested.later i j p q l e f) (λ l. absurd (past l)) i p e l
        where
          past : length ps ≤ j → ⊥
          past l = let h = slice_get_within ps j q f in omega (arith, l, h)

-- the newest mark is closed, and its cells are given back
module _ (ss : List Step) (all ps : List Point) (q : Point) (ds : List CellData) (nested : AreNested (length ss) all) (is : all ≡ ps ++ q ∷ []) where
  q-at : slice_get all (length ps) ≡ Some q
  q-at = ap (λ l. slice_get l (length ps)) is ∙ get_last ps q

  pub p-at : (i : ℕ) (p : Point) → slice_get ps i ≡ Some p → slice_get all i ≡ Some p
  p-at i p e = ap (λ l. slice_get l i) is ∙ get_front ps (q ∷ []) i p e

  pub ordered : (i : ℕ) (p : Point) → slice_get ps i ≡ Some p → (p.cells ≤ q.cells) × (p.steps ≤ q.steps)
  ordered i p e = nested.later i (length ps) p q (let h = slice_get_within ps i p e in omega (arith, h)) (p-at i p e) q-at

  pub q-steps : q.steps ≤ length ss
  q-steps = nested.fewer (length ps) q q-at

  pub given-back : befores ss all ds ≡ befores ss ps ds ++ before ss ds q ∷ []
  given-back = ap (λ l. befores ss l ds) is ∙ map-append (before ss ds) ps (q ∷ [])

  pub taken : befores (take q.steps ss) ps (before ss ds q) ≡ befores ss ps ds
  taken = map-each (before (take q.steps ss) (before ss ds q)) (before ss ds) ps each
    where
      each : (i : ℕ) (p : Point) → slice_get ps i ≡ Some p → before (take q.steps ss) (before ss ds q) p ≡ before ss ds p
      each i p e =
          ap (undone (drop p.steps (take q.steps ss))) (take-undone (drop q.steps ss) p.cells (take q.cells ds) ∙ ap (undone (drop q.steps ss)) (take-take p.cells q.cells ds (ordered i p e).0))
          ∙ sym (undone-append (drop p.steps (take q.steps ss)) (drop q.steps ss) (take p.cells ds))
          ∙ ap (λ l. undone l (take p.cells ds)) (drop-take p.steps q.steps ss (ordered i p e).1)

  pub nested-taken : AreNested (length (take q.steps ss)) ps
  nested-taken = record {
    fewer = λ i p e. subst (λ n. p.steps ≤ n) (sym (length-take q.steps ss q-steps)) (ordered i p e).1;
    later = λ i j p r l e f. nested.later i j p r l (p-at i p e) (p-at j r f);
  }

-- ---- the steps of the calls

nat_refl : (k : ℕ) → nat_eq k k ≡ true
nat_refl k = by (nat_eq k k) refl
  where
    by : (b : Bool) → nat_eq k k ≡ b → b ≡ true
    by true e = refl
    by false e = absurd (grind (arith, nat_tests))

lookup-set : (k : ℕ) (es : Entries) (v w : Value) → lookup (nat_eq k) es ≡ Some w → set_value (nat_eq k) (set_value (nat_eq k) es v) w ≡ es
lookup-set k [] v w h = refl
lookup-set k (e ∷ es) v w h = by (nat_eq k e.0) refl h (lookup-set k es v w)
  where
    by : (b : Bool) → nat_eq k e.0 ≡ b → cond b (Some e.1) (lookup (nat_eq k) es) ≡ Some w → (lookup (nat_eq k) es ≡ Some w → set_value (nat_eq k) (set_value (nat_eq k) es v) w ≡ es) → set_value (nat_eq k) (cond b ((e.0, v) ∷ es) (e ∷ set_value (nat_eq k) es v)) w ≡ e ∷ es
    by true t h rest = let one : e.1 ≡ w = cc in (λ i. cond (t i) ((e.0, w) ∷ es) ((e.0, v) ∷ set_value (nat_eq k) es w)) ∙ (λ i. (e.0, sym one i) ∷ es)
    by false t h rest = (λ i. cond (t i) ((e.0, w) ∷ set_value (nat_eq k) es v) (e ∷ set_value (nat_eq k) (set_value (nat_eq k) es v) w)) ∙ ap (λ l. e ∷ l) (rest h)

remove-push : (k : ℕ) (es : Entries) (v : Value) → lookup (nat_eq k) es ≡ None → remove_entry (nat_eq k) (es ++ (k, v) ∷ []) ≡ es
remove-push k [] v h = λ i. cond (nat_refl k i) [] ((k, v) ∷ [])
remove-push k (e ∷ es) v h = by (nat_eq k e.0) refl h (remove-push k es v)
  where
    by : (b : Bool) → nat_eq k e.0 ≡ b → cond b (Some e.1) (lookup (nat_eq k) es) ≡ None → (lookup (nat_eq k) es ≡ None → remove_entry (nat_eq k) (es ++ (k, v) ∷ []) ≡ es) → cond (nat_eq k e.0) (es ++ (k, v) ∷ []) (e ∷ remove_entry (nat_eq k) (es ++ (k, v) ∷ [])) ≡ e ∷ es
    by true t h rest = cc
    by false t h rest = (λ i. cond (t i) (es ++ (k, v) ∷ []) (e ∷ remove_entry (nat_eq k) (es ++ (k, v) ∷ []))) ∙ ap (λ l. e ∷ l) (rest h)

remove-missing : (k : ℕ) (es : Entries) → lookup (nat_eq k) es ≡ None → remove_entry (nat_eq k) es ≡ es
remove-missing k [] h = refl
remove-missing k (e ∷ es) h = by (nat_eq k e.0) refl h (remove-missing k es)
  where
    by : (b : Bool) → nat_eq k e.0 ≡ b → cond b (Some e.1) (lookup (nat_eq k) es) ≡ None → (lookup (nat_eq k) es ≡ None → remove_entry (nat_eq k) es ≡ es) → cond (nat_eq k e.0) es (e ∷ remove_entry (nat_eq k) es) ≡ e ∷ es
    by true t h rest = cc
    by false t h rest = (λ i. cond (t i) es (e ∷ remove_entry (nat_eq k) es)) ∙ ap (λ l. e ∷ l) (rest h)

module _ (ss : List Step) (ps : List Point) (nested : AreNested (length ss) ps) (i : ℕ) (d : CellData) where
  pub noted-write : (k : ℕ) (w : Value) → lookup (nat_eq k) d.props ≡ Some w → (ds : List CellData) (v : Value) → slice_get ds i ≡ Some d
      → befores (ss ++ record { cell = i; undo = SetBack k w } ∷ []) ps (put i (set_value (nat_eq k) d.props v) ds) ≡ befores ss ps ds
  noted-write k w h ds v at = noted ss ps (record { cell = i; undo = SetBack k w }) (put i (set_value (nat_eq k) d.props v) ds) ds nested
      (changed-put (undoing (SetBack k w)) (set_value (nat_eq k) d.props v) i ds ∙ ap (λ es. put i es ds) (lookup-set k d.props v w h) ∙ changed-same (λ _. d.props) ds i d at refl)

  pub noted-create : (k : ℕ) (ds : List CellData) (v : Value) → slice_get ds i ≡ Some d → lookup (nat_eq k) d.props ≡ None
      → befores (ss ++ record { cell = i; undo = TakeOut k } ∷ []) ps (put i (d.props ++ (k, v) ∷ []) ds) ≡ befores ss ps ds
  noted-create k ds v at h = noted ss ps (record { cell = i; undo = TakeOut k }) (put i (d.props ++ (k, v) ∷ []) ds) ds nested
      (changed-put (undoing (TakeOut k)) (d.props ++ (k, v) ∷ []) i ds ∙ ap (λ es. put i es ds) (remove-push k d.props v h) ∙ changed-same (λ _. d.props) ds i d at refl)

  pub noted-none : (k : ℕ) (ds : List CellData) → slice_get ds i ≡ Some d → lookup (nat_eq k) d.props ≡ None → befores (ss ++ record { cell = i; undo = TakeOut k } ∷ []) ps ds ≡ befores ss ps ds
  noted-none k ds at h = noted ss ps (record { cell = i; undo = TakeOut k }) ds ds nested (changed-same (undoing (TakeOut k)) ds i d at (remove-missing k d.props h))

  pub noted-all : (saved : Entries) → saved ≡ d.props → (ds : List CellData) (es : Entries) → slice_get ds i ≡ Some d → befores (ss ++ record { cell = i; undo = PutBack saved } ∷ []) ps (put i es ds) ≡ befores ss ps ds
  noted-all saved is ds es at = noted ss ps (record { cell = i; undo = PutBack saved }) (put i es ds) ds nested
      (changed-put (undoing (PutBack saved)) es i ds ∙ ap (λ es. put i es ds) is ∙ changed-same (λ _. d.props) ds i d at refl)

-- ---- the newest mark

-- it is no older than any
pub newest : (ss : List Step) (ps : List Point) → AreNested (length ss) ps → (q : Point) → slice_get ps (length ps - 1) ≡ Some q → (k : ℕ) (p : Point) → slice_get ps k ≡ Some p → (p.cells ≤ q.cells) × (p.steps ≤ q.steps)
newest ss ps nested q last k p e = let h = slice_get_within ps k p e in nested.later k (length ps - 1) p q (omega (arith, h)) e last

pub none-last : (ps : List Point) (q : Point) → ps ≡ [] → slice_get ps (length ps - 1) ≡ Some q → ⊥
none-last [] q e last = cc
none-last (p ∷ ps) q e last = cc

pub on-ok : {A E P Q : Type 0} (r : Result A E) → (P → Q) → OnOk r P → OnOk r Q
on-ok (Ok a) f p = f p
on-ok (Err e) f p = tt

-- ---- steps are undone one by one

pub length-push : {A : Type 0} (xs : List A) (x : A) → length (xs ++ x ∷ []) ≡ suc (length xs)
length-push [] x = refl
length-push (y ∷ xs) x = ap suc (length-push xs x)

-- what was undone of the steps, and what that gave
pub record Undoing (ss left : List Step) (old new : List CellData) : Type 0 where
  pub since : List Step
  pub steps : ss ≡ left ++ since
  pub cells : new ≡ undone since old

pub undoing-none : (ss : List Step) (ds : List CellData) → Undoing ss ss ds ds
undoing-none ss ds = record { since = []; steps = sym (append-nil ss); cells = refl }

pub undoing-one : (ss left rest : List Step) (s : Step) (old now new : List CellData) → Undoing ss left old now → left ≡ rest ++ s ∷ [] → new ≡ undone (s ∷ []) now → Undoing ss rest old new
undoing-one ss left rest s old now new h e f = record {
  since = s ∷ h.since;
  steps = h.steps ∙ ap (λ l. l ++ h.since) e ∙ append_assoc rest (s ∷ []) h.since;
  cells = f ∙ ap (changed (undoing s.undo) s.cell) h.cells;
}

module _ (ss left : List Step) (old new : List CellData) (h : Undoing ss left old new) (n : ℕ) (long : length left ≡ n) where
  pub undoing-cells : new ≡ undone (drop n ss) old
  undoing-cells = h.cells ∙ ap (λ l. undone l old) (sym (ap (drop n) h.steps ∙ ap (λ n. drop n (left ++ h.since)) (sym long) ∙ drop-append (length left) left h.since (omega arith) ∙ ap (λ l. l ++ h.since) (drop-length left)))

  pub undoing-steps : left ≡ take n ss
  undoing-steps = sym (ap (take n) h.steps ∙ ap (λ n. take n (left ++ h.since)) (sym long) ∙ take-append (length left) left h.since (omega arith) ∙ take-length left)
