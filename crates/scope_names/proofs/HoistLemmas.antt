-- Names gathered from statements.
use Rattle.std.specs.Prelude.{ℕ, zero, suc, ◌+◌, ◌-◌, ◌<◌, ◌≤◌, ◌≡◌, refl, List, [], ◌∷◌, ◌++◌, length, map, take, Result, Ok, Err, IfOk}
use Rattle.std.proofs.Common.{arith, ap, sym, ◌∙◌, subst, get_or, append_assoc, take_all}
use Rattle.std.proofs.Math.Seq.{take-suc}
use Rattle.js_tree.specs.declared.Stmt.{Stmt}
use Rattle.turk_base.specs.Names.{Units}
use Rattle.js_tree.specs.Trees.{stmt_level}
use Rattle.js_tree.specs.Calls.{gather, variables_to, variables_of}
use Rattle.scope_names.specs.Gathered.{gathered, with_name}
use Rattle.scope_names.proofs.NameLemmas.{gathered-append}

pub append-none : {A : Type 0} (xs : List A) → xs ++ [] ≡ xs
append-none [] = refl
append-none (x ∷ xs) = ap (λ l. x ∷ l) (append-none xs)

gather-append : {A : Type 0} (f : A → List Units) (xs ys : List A) → gather f (xs ++ ys) ≡ gather f xs ++ gather f ys
gather-append f [] ys = refl
gather-append f (x ∷ xs) ys = ap (λ l. f x ++ l) (gather-append f xs ys) ∙ sym (append_assoc (f x) (gather f xs) (gather f ys))

map-append : {A : Type 0} (f : A → Units) (xs ys : List A) → map f (xs ++ ys) ≡ map f xs ++ map f ys
map-append f [] ys = refl
map-append f (x ∷ xs) ys = ap (λ l. f x ∷ l) (map-append f xs ys)

-- the items of a list up to the next one
pub take_next : {A : Type 0} (xs : List A) (i : ℕ) (x : A) → i < length xs → x ≡ get_or xs i x → take (i + 1) xs ≡ take i xs ++ x ∷ []
take_next xs i x h e =
    let next : i + 1 ≡ suc i = omega arith in
    ap (λ n. take n xs) next ∙ take-suc xs i x h ∙ ap (λ y. take i xs ++ y ∷ []) (sym e)

-- all items of a list
pub take_whole : {A : Type 0} (xs : List A) (i : ℕ) → length xs ≤ i → take i xs ≡ xs
take_whole xs i h = take_all i xs h

pub gather_next : {A : Type 0} (f : A → List Units) (ns : List Units) (xs : List A) (i : ℕ) (x : A) → i < length xs → x ≡ get_or xs i x
    → gathered (gathered ns (gather f (take i xs))) (f x) ≡ gathered ns (gather f (take (i + 1) xs))
gather_next f ns xs i x h e =
    sym (gathered-append ns (gather f (take i xs)) (f x))
    ∙ ap (gathered ns) (sym (ap (gather f) (take_next xs i x h e) ∙ gather-append f (take i xs) (x ∷ []) ∙ ap (λ l. gather f (take i xs) ++ l) (append-none (f x))))

pub map_next : {A : Type 0} (f : A → Units) (ns : List Units) (xs : List A) (i : ℕ) (x : A) → i < length xs → x ≡ get_or xs i x
    → with_name (gathered ns (map f (take i xs))) (f x) ≡ gathered ns (map f (take (i + 1) xs))
map_next f ns xs i x h e =
    sym (ap (λ l. gathered ns (map f l)) (take_next xs i x h e) ∙ ap (gathered ns) (map-append f (take i xs) (x ∷ [])) ∙ gathered-append ns (map f (take i xs)) (f x ∷ []))

-- names, then more names
pub then_names : (ns ms ls xs ys : List Units) → ms ≡ gathered ns xs → ls ≡ gathered ms ys → ls ≡ gathered ns (xs ++ ys)
then_names ns ms ls xs ys e f = f ∙ ap (λ l. gathered l ys) e ∙ sym (gathered-append ns xs ys)

pub then_more : {E : Type 0} (o : Result (List Units) E) (ns ms xs ys zs : List Units) → ms ≡ gathered ns xs → zs ≡ xs ++ ys → IfOk o (λ made. made ≡ gathered ms ys) → IfOk o (λ made. made ≡ gathered ns zs)
then_more (Ok made) ns ms xs ys zs e f h = then_names ns ms made xs ys e h ∙ ap (gathered ns) (sym f)
then_more (Err fault) ns ms xs ys zs e f h = h

pub same_names : {E : Type 0} (o : Result (List Units) E) (ns ys zs : List Units) → zs ≡ ys → IfOk o (λ made. made ≡ gathered ns ys) → IfOk o (λ made. made ≡ gathered ns zs)
same_names (Ok made) ns ys zs f h = h ∙ ap (gathered ns) (sym f)
same_names (Err fault) ns ys zs f h = h

-- one level less
pub variables_step : (n : ℕ) (s : Stmt) → (n ≡ 0 → ⊥) → variables_to n s ≡ variables_of (variables_to (n - 1)) (stmt_level s)
variables_step zero s h = absurd (h refl)
variables_step (suc n) s h = let less : suc n - 1 ≡ n = omega arith in ap (λ m. variables_of (variables_to m) (stmt_level s)) (sym less)

-- the names of a frame: parameters, functions, variables
pub frame_gathered : {E : Type 0} (o : Result (List Units) E) (ns ms ps fs vs ss ts : List Units) → ns ≡ gathered [] ps → ms ≡ gathered ns ss → ss ≡ fs → ts ≡ vs → IfOk o (λ made. made ≡ gathered ms ts)
    → IfOk o (λ made. made ≡ gathered [] (ps ++ (fs ++ vs)))
frame_gathered o ns ms ps fs vs ss ts e f g h i =
    let whole : ps ++ (fs ++ vs) ≡ (ps ++ ss) ++ ts = sym (append_assoc ps fs vs) ∙ (λ j. (ps ++ sym g j) ++ sym h j) in
    then_more o [] ms (ps ++ ss) ts (ps ++ (fs ++ vs)) (then_names [] ns ms ps ss e f) whole i
