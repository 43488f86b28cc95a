-- Lists that are gathered part after part, and one level less of a tree.
use Rattle.std.specs.Prelude.{ℕ, zero, suc, ◌+◌, ◌-◌, ◌<◌, ◌≤◌, ◌≡◌, refl, List, [], ◌∷◌, ◌++◌, length, map, take, Result, Ok, Err, IfOk}
use Rattle.std.proofs.Common.{arith, ap, sym, ◌∙◌, get_or, append_assoc, take_all}
use Rattle.std.proofs.Math.Seq.{take-suc}
use Rattle.js_tree.specs.declared.Expr.{Expr}
use Rattle.js_tree.specs.declared.Script.{Script}
use Rattle.js_tree.specs.declared.Stmt.{Stmt}
use Rattle.js_tree.specs.Trees.{Units, expr_level, stmt_level}
use Rattle.js_tree.specs.Calls.{Code, gather, variables_to, variables_of}
use Rattle.tree_rows.specs.declared.codes.Codes.{Codes}
use Rattle.tree_rows.specs.Codes.{table_in}
use Rattle.js_tree.specs.Table.{all_in, expr_codes, stmt_codes, body_codes, in_expr, in_stmt, in_script}

pub append-none : {A : Type 0} (xs : List A) → xs ++ [] ≡ xs
append-none [] = refl
append-none (x ∷ xs) = ap (λ l. x ∷ l) (append-none xs)

-- a list, and nothing more
pub nothing_more : {A : Type 0} (xs ys : List A) → ys ≡ [] → xs ≡ xs ++ ys
nothing_more xs ys e = sym (append-none xs) ∙ ap (λ l. xs ++ l) (sym e)

-- a list, then more
pub then_more : {A : Type 0} (ns ms ls xs ys : List A) → ms ≡ ns ++ xs → ls ≡ ms ++ ys → ls ≡ ns ++ (xs ++ ys)
then_more ns ms ls xs ys e f = f ∙ ap (λ l. l ++ ys) e ∙ append_assoc ns xs ys

-- a list, then what equals more
pub more_same : {A : Type 0} (ns ls xs ys : List A) → ls ≡ ns ++ xs → xs ≡ ys → ls ≡ ns ++ ys
more_same ns ls xs ys e f = e ∙ ap (λ l. ns ++ l) f

-- codes, then more, in what a call made
pub then_codes : {E : Type 0} (o : Result Codes E) (ns ms xs ys zs : List Code) → ms ≡ ns ++ xs → zs ≡ xs ++ ys
    → IfOk o (λ made. table_in made ≡ ms ++ ys) → IfOk o (λ made. table_in made ≡ ns ++ zs)
then_codes (Ok made) ns ms xs ys zs e f h = then_more ns ms (table_in made) xs ys e h ∙ ap (λ l. ns ++ l) (sym f)
then_codes (Err fault) ns ms xs ys zs e f h = h

-- the items of a list up to the next one
take_next : {A : Type 0} (xs : List A) (i : ℕ) (x : A) → i < length xs → x ≡ get_or xs i x → take (i + 1) xs ≡ take i xs ++ x ∷ []
take_next xs i x h e =
    let next : i + 1 ≡ suc i = omega arith in
    ap (λ n. take n xs) next ∙ take-suc xs i x h ∙ ap (λ y. take i xs ++ y ∷ []) (sym e)

all-append : {A : Type 0} (f : A → List Code) (xs ys : List A) → all_in f (xs ++ ys) ≡ all_in f xs ++ all_in f ys
all-append f [] ys = refl
all-append f (x ∷ xs) ys = ap (λ l. f x ++ l) (all-append f xs ys) ∙ sym (append_assoc (f x) (all_in f xs) (all_in f ys))

gather-append : {A : Type 0} (f : A → List Units) (xs ys : List A) → gather f (xs ++ ys) ≡ gather f xs ++ gather f ys
gather-append f [] ys = refl
gather-append f (x ∷ xs) ys = ap (λ l. f x ++ l) (gather-append f xs ys) ∙ sym (append_assoc (f x) (gather f xs) (gather f ys))

map-append : {A : Type 0} (f : A → Units) (xs ys : List A) → map f (xs ++ ys) ≡ map f xs ++ map f ys
map-append f [] ys = refl
map-append f (x ∷ xs) ys = ap (λ l. f x ∷ l) (map-append f xs ys)

-- what a loop has gathered, past one item more
pub all_next : {A : Type 0} (f : A → List Code) (ns ms ls : List Code) (xs : List A) (i : ℕ) (x : A) → i < length xs → x ≡ get_or xs i x
    → ms ≡ ns ++ all_in f (take i xs) → ls ≡ ms ++ f x → ls ≡ ns ++ all_in f (take (i + 1) xs)
all_next f ns ms ls xs i x h e before now =
    then_more ns ms ls (all_in f (take i xs)) (f x) before now
    ∙ ap (λ l. ns ++ l) (sym (ap (all_in f) (take_next xs i x h e) ∙ all-append f (take i xs) (x ∷ []) ∙ ap (λ l. all_in f (take i xs) ++ l) (append-none (f x))))

pub gather_next : {A : Type 0} (f : A → List Units) (ns ms ls : List Units) (xs : List A) (i : ℕ) (x : A) → i < length xs → x ≡ get_or xs i x
    → ms ≡ ns ++ gather f (take i xs) → ls ≡ ms ++ f x → ls ≡ ns ++ gather f (take (i + 1) xs)
gather_next f ns ms ls xs i x h e before now =
    then_more ns ms ls (gather f (take i xs)) (f x) before now
    ∙ ap (λ l. ns ++ l) (sym (ap (gather f) (take_next xs i x h e) ∙ gather-append f (take i xs) (x ∷ []) ∙ ap (λ l. gather f (take i xs) ++ l) (append-none (f x))))

pub map_next : {A : Type 0} (f : A → Units) (ns ms ls : List Units) (xs : List A) (i : ℕ) (x : A) → i < length xs → x ≡ get_or xs i x
    → ms ≡ ns ++ map f (take i xs) → ls ≡ ms ++ f x ∷ [] → ls ≡ ns ++ map f (take (i + 1) xs)
map_next f ns ms ls xs i x h e before now =
    then_more ns ms ls (map f (take i xs)) (f x ∷ []) before now ∙ ap (λ l. ns ++ l) (sym (ap (map f) (take_next xs i x h e) ∙ map-append f (take i xs) (x ∷ [])))

-- all items of a list
pub take_whole : {A : Type 0} (xs : List A) (i : ℕ) → length xs ≤ i → take i xs ≡ xs
take_whole xs i h = take_all i xs h

-- no level
pub expr_end : (n : ℕ) (e : Expr) → n ≡ 0 → expr_codes n e ≡ []
unfolding expr_codes
expr_end n e h = ap (λ m. expr_codes m e) h

pub stmt_end : (n : ℕ) (s : Stmt) → n ≡ 0 → stmt_codes n s ≡ []
unfolding stmt_codes
stmt_end n s h = ap (λ m. stmt_codes m s) h

pub body_end : (n : ℕ) (ps : List Units) (b : Script) → n ≡ 0 → body_codes n ps b ≡ []
unfolding body_codes
body_end n ps b h = ap (λ m. body_codes m ps b) h

-- one level less
pub variables_step : (n : ℕ) (s : Stmt) → (n ≡ 0 → ⊥) → variables_to n s ≡ variables_of (variables_to (n - 1)) (stmt_level s)
variables_step zero s h = absurd (h refl)
variables_step (suc n) s h = let less : suc n - 1 ≡ n = omega arith in ap (λ m. variables_of (variables_to m) (stmt_level s)) (sym less)

pub expr_step : (n : ℕ) (e : Expr) → (n ≡ 0 → ⊥) → expr_codes n e ≡ in_expr (expr_codes (n - 1)) (stmt_codes (n - 1)) (body_codes (n - 1)) (expr_level e)
unfolding expr_codes
expr_step zero e h = absurd (h refl)
expr_step (suc n) e h = let less : suc n - 1 ≡ n = omega arith in ap (λ m. in_expr (expr_codes m) (stmt_codes m) (body_codes m) (expr_level e)) (sym less)

pub stmt_step : (n : ℕ) (s : Stmt) → (n ≡ 0 → ⊥) → stmt_codes n s ≡ in_stmt (expr_codes (n - 1)) (stmt_codes (n - 1)) (body_codes (n - 1)) (stmt_level s)
unfolding stmt_codes
stmt_step zero s h = absurd (h refl)
stmt_step (suc n) s h = let less : suc n - 1 ≡ n = omega arith in ap (λ m. in_stmt (expr_codes m) (stmt_codes m) (body_codes m) (stmt_level s)) (sym less)

pub body_step : (n : ℕ) (ps : List Units) (b : Script) → (n ≡ 0 → ⊥)
    → body_codes n ps b ≡ record { parameters = ps; body = b } ∷ in_script (expr_codes (n - 1)) (stmt_codes (n - 1)) (body_codes (n - 1)) b
unfolding body_codes
body_step zero ps b h = absurd (h refl)
body_step (suc n) ps b h =
    let less : suc n - 1 ≡ n = omega arith in
    ap (λ m. record { parameters = ps; body = b } ∷ in_script (expr_codes m) (stmt_codes m) (body_codes m) b) (sym less)
