-- Prefixes of paths as lists and as paths, and slots by numbers.
use Rattle.std.proofs.Common.{◌≡◌, refl, ap, sym, ◌∙◌, subst, ℕ, Bool, true, false, List, [], ◌∷◌, ◌++◌, ◌&&◌, true≢false, arith}
use Rattle.std.specs.Prelude.{◌==◌, if◌then◌else◌}
use Rattle.std.proofs.lemmas.List.{append_assoc}
use Rattle.std.proofs.lemmas.Bool.Decides.{nat_tests}
use Rattle.turk_base.specs.Names.{Path, root, sub, Under, self, down, indexes, path_on, path_in, pick, under}
use Rattle.turk_base.specs.Trace.{begins}

append_none : {A : Type 0} (l : List A) → l ++ [] ≡ l
append_none [] = refl
append_none (x ∷ l) = ap (λ z. x ∷ z) (append_none l)

on_both : (p : Path) (l m : List ℕ) → path_on p (l ++ m) ≡ path_on (path_on p l) m
on_both p [] m = refl
on_both p (i ∷ l) m = on_both (sub i p) l m

indexes_on : (p : Path) (l : List ℕ) → indexes (path_on p l) ≡ indexes p ++ l
indexes_on p [] = sym (append_none (indexes p))
indexes_on p (i ∷ l) = indexes_on (sub i p) l ∙ append_assoc (indexes p) (i ∷ []) l

begins_append : (p c : List ℕ) → begins p (p ++ c) ≡ true
begins_append [] c = refl
begins_append (i ∷ p) c = let same : (i == i) ≡ true = grind (arith, nat_tests) in rw (same, begins_append p c) refl

-- what stands after a prefix
abbrev Rest : List ℕ → List ℕ → Type 0
Rest p b = (c : List ℕ) × (b ≡ p ++ c)

first_of : (x y : Bool) → x && y ≡ true → x ≡ true
first_of true y e = refl
first_of false y e = absurd (true≢false (sym e))

second_of : (x y : Bool) → x && y ≡ true → y ≡ true
second_of true y e = e
second_of false y e = absurd (true≢false (sym e))

rest_of : (p b : List ℕ) → begins p b ≡ true → Rest p b
rest_of [] b e = (b, refl)
rest_of (i ∷ p) [] e = absurd (true≢false (sym e))
rest_of (i ∷ p) (j ∷ b) e =
    let h : (i == j) ≡ true = first_of (i == j) (begins p b) e in
    let same : j ≡ i = grind (arith, nat_tests) in
    let r : Rest p b = rest_of p b (second_of (i == j) (begins p b) e) in
    (r.0, ap (λ z. z ∷ b) same ∙ ap (λ z. i ∷ z) r.1)

up : {p q : Path} (c : List ℕ) → Under p q → Under p (path_on q c)
up [] u = u
up (i ∷ c) u = up c (down u)

under_in : (p b : List ℕ) → begins p b ≡ true → Under (path_in p) (path_in b)
under_in p b e =
    let r : Rest p b = rest_of p b e in
    subst (λ q. Under (path_in p) q) (sym (ap path_in r.1 ∙ on_both root p r.0)) (up r.0 self)

after : {p q : Path} → Under p q → Rest (indexes p) (indexes q)
after {p} self = ([], sym (append_none (indexes p)))
after {p} (down {i} {q} u) =
    let r : Rest (indexes p) (indexes q) = after u in
    (r.0 ++ (i ∷ []), ap (λ l. l ++ (i ∷ [])) r.1 ∙ append_assoc (indexes p) r.0 (i ∷ []))

in_under : (p b : List ℕ) → Under (path_in p) (path_in b) → begins p b ≡ true
in_under p b u =
    let r : Rest (indexes (path_in p)) (indexes (path_in b)) = after u in
    let e : b ≡ p ++ r.0 = sym (indexes_on root b) ∙ r.1 ∙ ap (λ l. l ++ r.0) (indexes_on root p) in
    subst (λ l. begins p l ≡ true) (sym e) (begins_append p r.0)

pub pick_under : {B : Type 0} (p b : List ℕ) (x y : B) → pick (under (path_in p) (path_in b)) x y ≡ (if begins p b then x else y)
pick_under {B} p b x y = inner (under (path_in p) (path_in b)) (begins p b) refl
  where
    inner : (d : Dec (Under (path_in p) (path_in b))) (t : Bool) → begins p b ≡ t → pick d x y ≡ (if t then x else y)
    inner (yes u) true e = refl
    inner (yes u) false e = absurd (true≢false (sym (in_under p b u) ∙ e))
    inner (no n) true e = absurd (n (under_in p b e))
    inner (no n) false e = refl
