-- Parts of the walk, one after the other.
use Rattle.std.specs.Prelude.{ℕ, zero, suc, ◌+◌, ◌≤◌, ◌<◌, ◌≡◌, refl, min, List, [], ◌∷◌, ◌++◌, length, map, sum_by, slice_get, Option, Some, None}
use Rattle.std.proofs.Common.{arith, ap, sym, ◌∙◌, subst, length-append, append_assoc, get_or, take}
use Rattle.std.proofs.lemmas.List.Sums.{sum_by_push}
use Rattle.scope_names.proofs.HoistLemmas.{append-none, take_next, take_whole}
use Rattle.js_tree.specs.Trees.{number_of}
use Rattle.js_tree.specs.Calls.{Code}
use Rattle.js_tree.specs.Table.{Codes, all_in, if_there}
use Rattle.js_tree.specs.Lawful.{Around, Each}
use Rattle.js_tree.specs.Binds.{Frames, FrameNames}
use Rattle.scope_names.specs.declared.walk.Walk.{Walk}
use Rattle.scope_names.specs.Gathered.{collected}
use Rattle.scope_names.specs.Walks.{Sits, Moves, Part, Kind, Resolves, list_kind, option_kind}

-- ---- functions in the table

get_left : (xs ys : Codes) (k : ℕ) (code : Code) → slice_get xs k ≡ Some code → slice_get (xs ++ ys) k ≡ Some code
get_left [] ys k code e = absurd (let never : ⊥ = cc in never)
get_left (x ∷ xs) ys zero code e = e
get_left (x ∷ xs) ys (suc k) code e = get_left xs ys k code e

get_right : (xs ys : Codes) (k : ℕ) (code : Code) → slice_get ys k ≡ Some code → slice_get (xs ++ ys) (length xs + k) ≡ Some code
get_right [] ys k code e = let same : k ≡ 0 + k = omega arith in subst (λ n. slice_get ys n ≡ Some code) same e
get_right (x ∷ xs) ys k code e =
    let same : suc (length xs + k) ≡ length (x ∷ xs) + k = omega arith in
    subst (λ n. slice_get (x ∷ (xs ++ ys)) n ≡ Some code) same (get_right xs ys k code e)

pub sits_left : (table : Codes) (from : ℕ) (xs ys : Codes) → Sits table from (xs ++ ys) → Sits table from xs
sits_left table from xs ys sits k code e = sits k code (get_left xs ys k code e)

pub sits_right : (table : Codes) (from mid : ℕ) (xs ys : Codes) → mid ≡ from + length xs → Sits table from (xs ++ ys) → Sits table mid ys
sits_right table from mid xs ys at sits k code e =
    let same : from + (length xs + k) ≡ mid + k = omega arith in
    subst (λ n. slice_get table n ≡ Some code) same (sits (length xs + k) code (get_right xs ys k code e))

numbered_append : (xs ys : Codes) (a b : ℕ) → b ≡ a + length xs
    → ((k : ℕ) (code : Code) → slice_get xs k ≡ Some code → number_of code.body ≡ a + k)
    → ((k : ℕ) (code : Code) → slice_get ys k ≡ Some code → number_of code.body ≡ b + k)
    → (k : ℕ) (code : Code) → slice_get (xs ++ ys) k ≡ Some code → number_of code.body ≡ a + k
numbered_append [] ys a b e f g k code at = let same : b + k ≡ a + k = omega arith in g k code at ∙ same
numbered_append (x ∷ xs) ys a b e f g zero code at = f zero code at
numbered_append (x ∷ xs) ys a b e f g (suc k) code at =
    let next : b ≡ suc a + length xs = omega arith in
    let same : suc a + k ≡ a + suc k = omega arith in
    numbered_append xs ys (suc a) b next (λ j d h. (let one : a + suc j ≡ suc a + j = omega arith in f (suc j) d h ∙ one)) g k code at ∙ same

-- ---- where the walk is

pub still : (w : Walk) → Moves w w [] 0
still w = record {
  scopes = refl;
  counted = (let same : w.names ≡ w.names + 0 = omega arith in ap (λ n. min n 65536) same);
  next = (let same : w.next ≡ w.next + 0 = omega arith in same);
  numbered = λ k code e. absurd (let never : ⊥ = cc in never);
}

counted_then : (a b c n m : ℕ) → min b 65536 ≡ min (a + n) 65536 → min c 65536 ≡ min (b + m) 65536 → min c 65536 ≡ min (a + (n + m)) 65536
counted_then a b c n m e f = omega arith

pub after : {a b c : Walk} {xs ys : Codes} {n m : ℕ} → Moves a b xs n → Moves b c ys m → Moves a c (xs ++ ys) (n + m)
after {a} {b} {c} {xs} {ys} {n} {m} f g = record {
  scopes = g.scopes ∙ f.scopes;
  counted = counted_then a.names b.names c.names n m f.counted g.counted;
  next = omega (arith, f.next, g.next, length-append xs ys);
  numbered = numbered_append xs ys a.next b.next f.next f.numbered g.numbered;
}

pub recounted : {a b : Walk} {xs ys : Codes} {n m : ℕ} → n ≡ m → xs ≡ ys → Moves a b xs n → Moves a b ys m
recounted {a} {b} {xs} {ys} {n} {m} e f h = subst (λ k. Moves a b ys k) e (subst (λ zs. Moves a b zs n) f h)

-- ---- parts

pub none : (w : Walk) (L : ℕ) → Part w w 0 (λ _. []) L (λ _ _. Unit {0})
none w L = record { codes = []; listed = λ d h. refl; moves = still w; bound = λ table frames at sits. tt }

pub two : {a b c : Walk} {n m L : ℕ} {f g : ℕ → Codes} {A B : Codes → Frames → Type 0} → Part a b n f L A → Part b c m g L B
    → Part a c (n + m) (λ d. f d ++ g d) L (λ table frames. A table frames × B table frames)
two {a} {b} {c} p q = record {
  codes = p.codes ++ q.codes;
  listed = λ d h. (λ i. p.listed d h i ++ q.listed d h i);
  moves = after p.moves q.moves;
  bound = λ table frames at sits. (
    p.bound table frames at (sits_left table a.next p.codes q.codes sits),
    q.bound table frames (p.moves.scopes ∙ at) (sits_right table a.next b.next p.codes q.codes p.moves.next sits),
  );
}

-- the same part, said otherwise
pub said : {a b : Walk} {n m L : ℕ} {f g : ℕ → Codes} {A B : Codes → Frames → Type 0} → n ≡ m → ((d : ℕ) → g d ≡ f d) → ((table : Codes) (frames : Frames) → A table frames → B table frames)
    → Part a b n f L A → Part a b m g L B
said {a} {b} e same turn p = record {
  codes = p.codes;
  listed = λ d h. same d ∙ p.listed d h;
  moves = recounted e refl p.moves;
  bound = λ table frames at sits. turn table frames (p.bound table frames at sits);
}

pub three : {a b c d : Walk} {n m k L : ℕ} {f g h : ℕ → Codes} {A B C : Codes → Frames → Type 0} → Part a b n f L A → Part b c m g L B → Part c d k h L C
    → Part a d (n + (m + k)) (λ d. (f d ++ g d) ++ h d) L (λ table frames. A table frames × B table frames × C table frames)
three {a} {b} {c} {d} {n} {m} {k} p q r =
    let same : (n + m) + k ≡ n + (m + k) = omega arith in
    said same (λ _. refl) (λ table frames x. (x.0.0, x.0.1, x.1)) (two (two p q) r)

pub four : {a b c d e : Walk} {n m k l L : ℕ} {f g h j : ℕ → Codes} {A B C D : Codes → Frames → Type 0} → Part a b n f L A → Part b c m g L B → Part c d k h L C → Part d e l j L D
    → Part a e (n + (m + (k + l))) (λ d. ((f d ++ g d) ++ h d) ++ j d) L (λ table frames. A table frames × B table frames × C table frames × D table frames)
four {a} {b} {c} {d} {e} {n} {m} {k} {l} p q r s =
    let same : ((n + m) + k) + l ≡ n + (m + (k + l)) = omega arith in
    said same (λ _. refl) (λ table frames x. (x.0.0.0, x.0.0.1, x.0.1, x.1)) (two (two (two p q) r) s)

-- a level more
deeper : (f g : ℕ → Codes) (codes : Codes) (L M : ℕ) → suc L ≤ M → ((d : ℕ) → g (suc d) ≡ f d) → ((d : ℕ) → L ≤ d → f d ≡ codes) → (d : ℕ) → M ≤ d → g d ≡ codes
deeper f g codes L M less same listed zero h = absurd (omega arith)
deeper f g codes L M less same listed (suc d) h = same d ∙ listed d (omega arith)

pub raised : {a b : Walk} {n m L M : ℕ} {f g : ℕ → Codes} {A B : Codes → Frames → Type 0} → suc L ≤ M → n ≡ m → ((d : ℕ) → g (suc d) ≡ f d) → ((table : Codes) (frames : Frames) → A table frames → B table frames)
    → Part a b n f L A → Part a b m g M B
raised {a} {b} {n} {m} {L} {M} {f} {g} less e same turn p = record {
  codes = p.codes;
  listed = deeper f g p.codes L M less same p.listed;
  moves = recounted e refl p.moves;
  bound = λ table frames at sits. turn table frames (p.bound table frames at sits);
}

-- ---- lists and options

each-last : {A : Type 0} (P : A → Type 0) (xs : List A) (x : A) → Each P xs → P x → Each P (xs ++ x ∷ [])
each-last P [] x ps p = (p, tt)
each-last P (y ∷ ys) x ps p = (ps.0, each-last P ys x ps.1 p)

each-front : {A : Type 0} (P : A → Type 0) (xs : List A) (x : A) → Each P (xs ++ x ∷ []) → Each P xs
each-front P [] x ps = tt
each-front P (y ∷ ys) x ps = (ps.0, each-front P ys x ps.1)

each-end : {A : Type 0} (P : A → Type 0) (xs : List A) (x : A) → Each P (xs ++ x ∷ []) → P x
each-end P [] x ps = ps.0
each-end P (y ∷ ys) x ps = each-end P ys x ps.1

all_in-last : {A : Type 0} (f : A → Codes) (xs : List A) (x : A) → all_in f (xs ++ x ∷ []) ≡ all_in f xs ++ f x
all_in-last f [] x = append-none (f x)
all_in-last f (y ∷ ys) x = ap (λ l. f y ++ l) (all_in-last f ys x) ∙ sym (append_assoc (f y) (all_in f ys) (f x))

sum-last : {A : Type 0} (f : A → ℕ) (xs : List A) (x : A) → sum_by f xs + f x ≡ sum_by f (xs ++ x ∷ [])
sum-last f xs x = sym (sum_by_push f xs x)

map-last : {A B : Type 0} (f : A → B) (xs : List A) (x : A) → map f (xs ++ x ∷ []) ≡ map f xs ++ f x ∷ []
map-last f [] x = refl
map-last f (y ∷ ys) x = ap (λ l. f y ∷ l) (map-last f ys x)

pub list_none : {A : Type 0} (kind : Kind A) (w : Walk) → Resolves (list_kind kind) w [] [] w
list_none kind w = record { part = none w kind.least; same = refl; lawful = λ c h. tt }

pub list_next : {A : Type 0} (kind : Kind A) {a b c : Walk} {xs ys : List A} {x y : A} → Resolves (list_kind kind) a xs ys b → Resolves kind b x y c → Resolves (list_kind kind) a (xs ++ x ∷ []) (ys ++ y ∷ []) c
list_next kind {a} {b} {c} {xs} {ys} {x} {y} p q = record {
  part = said (sum-last kind.count xs x) (λ d. all_in-last (kind.codes d) ys y) (λ table frames h. each-last (kind.Bound table frames) ys y h.0 h.1) (two p.part q.part);
  same = map-last kind.bare ys y ∙ (λ i. p.same i ++ q.same i ∷ []) ∙ sym (map-last kind.bare xs x);
  lawful = λ c h. each-last (kind.Lawful c) ys y (p.lawful c (each-front (kind.Lawful c) xs x h)) (q.lawful c (each-end (kind.Lawful c) xs x h));
}

pub option_none : {A : Type 0} (kind : Kind A) (w : Walk) → Resolves (option_kind kind) w None None w
option_none kind w = record { part = none w kind.least; same = refl; lawful = λ c h. tt }

pub option_some : {A : Type 0} (kind : Kind A) {a b : Walk} {x y : A} → Resolves kind a x y b → Resolves (option_kind kind) a (Some x) (Some y) b
option_some kind p = record { part = said refl (λ d. refl) (λ table frames h. h) p.part; same = ap Some p.same; lawful = p.lawful }

-- a list up to the next item, as a loop has it
pub list_step : {A : Type 0} (kind : Kind A) {a b c : Walk} (xs : List A) {ys zs : List A} (i : ℕ) {x y : A} → i < length xs → x ≡ get_or xs i x → zs ≡ ys ++ y ∷ []
    → Resolves (list_kind kind) a (take i xs) ys b → Resolves kind b x y c → Resolves (list_kind kind) a (take (i + 1) xs) zs c
list_step kind {a} {b} {c} xs {ys} {zs} i {x} {y} h e f p q =
    subst (λ l. Resolves (list_kind kind) a l zs c) (sym (take_next xs i x h e)) (subst (λ l. Resolves (list_kind kind) a (take i xs ++ x ∷ []) l c) (sym f) (list_next kind p q))

pub list_end : {A : Type 0} (kind : Kind A) {a b : Walk} (xs : List A) {ys : List A} (i : ℕ) → length xs ≤ i → Resolves (list_kind kind) a (take i xs) ys b → Resolves (list_kind kind) a xs ys b
list_end kind {a} {b} xs {ys} i h p = subst (λ l. Resolves (list_kind kind) a l ys b) (take_whole xs i h) p
