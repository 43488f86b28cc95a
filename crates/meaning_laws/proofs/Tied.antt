-- The definitions on traces, tokens and replies as the code's values show them are those of the meaning.
use Rattle.std.specs.Prelude.{Bool, true, false, not, ◌&&◌, ◌||◌, ◌==◌, List, Option, Some, if◌then◌else◌, decimal}
use Rattle.std.proofs.Common.{◌≡◌, ℕ, refl, ap, [], ◌∷◌, ◌++◌, sym, ◌∙◌, subst, true≢false, ◌⊎◌, inl, inr}
use Rattle.std.proofs.lemmas.Bool.{eq-eqb}
use Rattle.std.proofs.lemmas.Bool.Decides.{eqb_tells}
use lib.Pointwise.{bytes_decides}
use Rattle.turk_base.specs.Names.{Path, root, sub, Under, self, down, under, indexes, path_on, path_in, path_eq, units_eq, pick}
use Rattle.turk_base.specs.Asks.{Rec, find, below, strictly, answer, written}
use Rattle.turk_base.specs.Told.{record_of, records_of}
use Rattle.turk_base.specs.Trace.{same_list, below as below_told, begins, dotted}
use Rattle.run_laws.proofs.Paths.{under_trans}
use Rattle.meaning_laws.proofs.Parts.{paths_both_ways}
use Rattle.meaning_laws.specs.Tied.{what_of, AnswerTied, FindTied, TokenTied, BelowTied}

-- a decision and a test of one equality choose alike
pick_is : {A B : Type 0} (a b : List ℕ) (d : Dec A) → (A → a ≡ b) → (a ≡ b → A) → (x y : B) → pick d x y ≡ (if same_list a b then x else y)
pick_is a b (yes z) f g x y = rw ((bytes_decides a b).1 (f z)) refl
pick_is a b (no n) f g x y = inner (same_list a b) refl
  where
    inner : (t : Bool) → same_list a b ≡ t → y ≡ (if t then x else y)
    inner true e = absurd (n (g ((bytes_decides a b).0 e)))
    inner false e = refl

pub answer_tied : AnswerTied
answer_tied [] t = refl
answer_tied ((u, x) ∷ l) t = pick_is u t (units_eq u t) (λ e. e) (λ e. e) (Some x) (answer l t) ∙ ap (λ z. if same_list u t then Some x else z) (answer_tied l t)

what_pick : {A : Type 0} (d : Dec A) (r o : Option Rec) → what_of (pick d r o) ≡ pick d (what_of r) (what_of o)
what_pick (yes a) r o = refl
what_pick (no n) r o = refl

pub find_tied : FindTied
find_tied [] q = refl
find_tied (e ∷ es) q = what_pick (path_eq (path_in e.path) (path_in q)) (Some (record_of e)) (find (path_in q) (records_of es))
    ∙ pick_is e.path q (path_eq (path_in e.path) (path_in q)) (λ z. sym (paths_both_ways.1 e.path) ∙ ap indexes z ∙ paths_both_ways.1 q) (λ z. ap path_in z) (Some e.what) (what_of (find (path_in q) (records_of es)))
    ∙ ap (λ z. if same_list e.path q then Some e.what else z) (find_tied es q)

assoc : (l m n : List ℕ) → (l ++ m) ++ n ≡ l ++ (m ++ n)
assoc [] m n = refl
assoc (x ∷ l) m n = ap (λ z. x ∷ z) (assoc l m n)

nil_right : (l : List ℕ) → l ≡ l ++ []
nil_right [] = refl
nil_right (x ∷ l) = ap (λ z. x ∷ z) (nil_right l)

-- the text of a path that goes on by the indexes j, l
written_on : (i : ℕ) (p : Path) (j : ℕ) (l : List ℕ) → written (path_on (sub i p) (j ∷ l)) ≡ written (sub i p) ++ (46 ∷ dotted (j ∷ l))
written_on i p j [] = ap (λ z. written (sub i p) ++ (46 ∷ z)) (nil_right (decimal j))
written_on i p j (k ∷ l) = written_on j (sub i p) k l ∙ assoc (written (sub i p)) (46 ∷ decimal j) (46 ∷ dotted (k ∷ l))

written_tied : (l : List ℕ) → written (path_in l) ≡ dotted l
written_tied [] = refl
written_tied (i ∷ []) = nil_right (decimal i)
written_tied (i ∷ j ∷ l) = written_on i root j l

pub token_tied : TokenTied
token_tied name l = ap (λ z. name ++ (47 ∷ z)) (written_tied l)

-- ---- below

-- one list goes on from another
abbrev pub Goes : List ℕ → List ℕ → Type 0
Goes q l = (r : List ℕ) × (l ≡ q ++ r)

begins_on : (q r : List ℕ) → begins q (q ++ r) ≡ true
begins_on [] r = refl
begins_on (i ∷ q) r = rw (eq-eqb i i refl) (begins_on q r)

begins_goes : (q l : List ℕ) → begins q l ≡ true → Goes q l
begins_goes [] l e = (l, refl)
begins_goes (i ∷ q) [] e = absurd (true≢false (sym e))
begins_goes (i ∷ q) (j ∷ l) e = inner (eqb_tells i j) (λ z. begins_goes q l z)
  where
    inner : (((i == j) ≡ true) × (i ≡ j)) ⊎ (((i == j) ≡ false) × (i ≡ j → ⊥)) → (begins q l ≡ true → Goes q l) → Goes (i ∷ q) (j ∷ l)
    inner (inl (t, z)) h = let g = h (ap (λ b. b && begins q l) (sym t) ∙ e) in (g.0, ap (λ l. j ∷ l) g.1 ∙ ap (λ j. j ∷ (q ++ g.0)) (sym z))
    inner (inr (t, z)) h = absurd (true≢false (sym e ∙ ap (λ b. b && begins q l) t))

under_on : (p : Path) (r : List ℕ) → Under p (path_on p r)
under_on p [] = self
under_on p (i ∷ r) = under_trans (down self) (under_on (sub i p) r)

path_on_more : (p : Path) (q r : List ℕ) → path_on p (q ++ r) ≡ path_on (path_on p q) r
path_on_more p [] r = refl
path_on_more p (i ∷ q) r = path_on_more (sub i p) q r

goes_under : (q l : List ℕ) → Goes q l → Under (path_in q) (path_in l)
goes_under q l (r, e) = subst (λ z. Under (path_in q) z) (sym (path_on_more root q r) ∙ ap path_in (sym e)) (under_on (path_in q) r)

under_goes : {p q : Path} → Under p q → Goes (indexes p) (indexes q)
under_goes {p} self = ([], nil_right (indexes p))
under_goes {p} (down {i} u) = let g = under_goes u in (g.0 ++ (i ∷ []), ap (λ z. z ++ (i ∷ [])) g.1 ∙ assoc (indexes p) g.0 (i ∷ []))

under_tied : (q l : List ℕ) → Under (path_in q) (path_in l) → Goes q l
under_tied q l u = let g = under_goes u in (g.0, sym (paths_both_ways.1 l) ∙ g.1 ∙ ap (λ z. z ++ g.0) (paths_both_ways.1 q))

and_false : (b : Bool) → (b && false) ≡ false
and_false true = refl
and_false false = refl

strictly_is : (q l : List ℕ) (d : Dec (path_in q ≡ path_in l)) (u : Dec (Under (path_in q) (path_in l))) → strictly d u ≡ (begins q l && not (same_list q l))
strictly_is q l (yes e) u = sym (ap (λ t. begins q l && not t) ((bytes_decides q l).1 (sym (paths_both_ways.1 q) ∙ ap indexes e ∙ paths_both_ways.1 l)) ∙ and_false (begins q l))
strictly_is q l (no n) (yes u) = sym (ap (λ b. b && not (same_list q l)) (let g = under_tied q l u in ap (begins q) g.1 ∙ begins_on q g.0) ∙ ap not (differs (same_list q l) refl))
  where
    differs : (t : Bool) → same_list q l ≡ t → same_list q l ≡ false
    differs false z = z
    differs true z = absurd (n (ap path_in ((bytes_decides q l).0 z)))
strictly_is q l (no n) (no u) = inner (begins q l) refl
  where
    inner : (t : Bool) → begins q l ≡ t → false ≡ (t && not (same_list q l))
    inner false z = refl
    inner true z = absurd (u (goes_under q l (begins_goes q l z)))

if_or : (b c x y : Bool) → b ≡ c → x ≡ y → (if b then true else x) ≡ (c || y)
if_or true true x y e z = refl
if_or true false x y e z = absurd (true≢false e)
if_or false true x y e z = absurd (true≢false (sym e))
if_or false false x y e z = z

pub below_tied : BelowTied
below_tied [] q = refl
below_tied (e ∷ es) q = if_or (strictly (path_eq (path_in q) (path_in e.path)) (under (path_in q) (path_in e.path))) (begins q e.path && not (same_list q e.path)) (below (path_in q) (records_of es)) (below_told es q)
    (strictly_is q e.path (path_eq (path_in q) (path_in e.path)) (under (path_in q) (path_in e.path))) (below_tied es q)
