-- Bytes spell one value at most, and no spelling of a record or a task begins another.
use Rattle.std.proofs.Common.{◌≡◌, ℕ, ◌^◌, List, [], ◌∷◌, ◌++◌, length, Option, Some, None, refl, sym, ap, ◌∙◌, arith}
use Rattle.std.specs.Prelude.{is_some}
use Rattle.std.proofs.lemmas.Bool.{false≢true}
use Rattle.std.proofs.lemmas.List.{append-nil}
use Rattle.turk_base.specs.declared.Entry.{Entry}
use Rattle.std.specs.Int.{w64, to_be_bytes}
use Rattle.record_bytes.specs.declared.Head.{Head}
use Rattle.record_bytes.specs.Spelling.{entry_bytes, named_bytes, head_bytes, task_bytes}
use Rattle.record_bytes.specs.Limits.{Spells, SpellsHead, SpellsTask}
use Rattle.record_bytes.specs.Reading.{◌>>=◌, number_at, entry_at, task_at, only, whole}
use Rattle.record_bytes.specs.Again.{number_again, holds64, entry_again, task_again}

abbrev read : {A : Type 0} → A → List ℕ → Option (A × List ℕ)
read x rest = Some (x, rest)

value_in : {A : Type 0} → A → Option (A × List ℕ) → A
value_in x None = x
value_in x (Some p) = p.0

rest_in : {A : Type 0} → Option (A × List ℕ) → List ℕ
rest_in None = []
rest_in (Some p) = p.1

some_is : {A : Type 0} (x y : A) (a b : List ℕ) → read x a ≡ read y b → (x ≡ y) × (a ≡ b)
unfolding value_in rest_in
some_is x y a b e = (ap (value_in x) e, ap rest_in e)

head_in : List ℕ → ℕ
head_in [] = 0
head_in (x ∷ xs) = x

tail_in : List ℕ → List ℕ
tail_in [] = []
tail_in (x ∷ xs) = xs

heads : (x y : ℕ) (xs ys : List ℕ) → x ∷ xs ≡ y ∷ ys → x ≡ y
unfolding head_in
heads x y xs ys e = ap head_in e

rests : (x y : ℕ) (xs ys : List ℕ) → x ∷ xs ≡ y ∷ ys → xs ≡ ys
unfolding tail_in
rests x y xs ys e = ap tail_in e

-- two fronts of one length
fronts : (a b x y : List ℕ) → length a ≡ length b → a ++ x ≡ b ++ y → (a ≡ b) × (x ≡ y)
fronts [] [] x y same e = (refl, e)
fronts [] (c ∷ b) x y same e = absurd (omega arith)
fronts (c ∷ a) [] x y same e = absurd (omega arith)
fronts (c ∷ a) (d ∷ b) x y same e =
    let more = fronts a b x y (omega arith) (rests c d (a ++ x) (b ++ y) e) in
    ((λ i. heads c d (a ++ x) (b ++ y) e i ∷ more.0 i), more.1)

-- no spelling begins another
pub no_front : (a b x y : List ℕ) (e f : Entry) → Spells a e → Spells b f → a ++ x ≡ b ++ y → (e ≡ f) × (x ≡ y)
no_front a b x y e f of_e of_f same =
    let first : entry_at (a ++ x) ≡ Some (e, x) = ap (λ (l : List ℕ). entry_at (l ++ x)) of_e.bytes_are ∙ entry_again e x of_e.within of_e.typed in
    let second : entry_at (b ++ y) ≡ Some (f, y) = ap (λ (l : List ℕ). entry_at (l ++ y)) of_f.bytes_are ∙ entry_again f y of_f.within of_f.typed in
    some_is e f x y (sym first ∙ ap entry_at same ∙ second)

pub one_entry : (bytes : List ℕ) (e f : Entry) → Spells bytes e → Spells bytes f → e ≡ f
one_entry bytes e f of_e of_f = (no_front bytes bytes [] [] e f of_e of_f refl).0

-- what is spelled is what all of the bytes read as
pub entry_whole : (bytes : List ℕ) (e : Entry) → Spells bytes e → whole entry_at bytes ≡ Some e
entry_whole bytes e spelled =
    let all : bytes ≡ entry_bytes e ++ [] = spelled.bytes_are ∙ sym (append-nil (entry_bytes e)) in
    ap (λ (l : List ℕ). entry_at l >>= only) all ∙ ap (λ o. o >>= only) (entry_again e [] spelled.within spelled.typed)

pub task_whole : (bytes token text : List ℕ) → SpellsTask bytes token text → whole task_at bytes ≡ Some (token, text)
task_whole bytes token text spelled =
    let all : bytes ≡ task_bytes token text ++ [] = spelled.bytes_are ∙ sym (append-nil (task_bytes token text)) in
    ap (λ (l : List ℕ). task_at l >>= only) all ∙ ap (λ o. o >>= only) (task_again token text [] spelled.token_within spelled.text_within spelled.token_units spelled.text_units)

abbrev pair : List ℕ → List ℕ → Option (List ℕ × List ℕ)
pair a b = Some (a, b)

first_in : Option (List ℕ × List ℕ) → List ℕ
first_in None = []
first_in (Some p) = p.0

second_in : Option (List ℕ × List ℕ) → List ℕ
second_in None = []
second_in (Some p) = p.1

pair_is : (a c b d : List ℕ) → pair a b ≡ pair c d → (a ≡ c) × (b ≡ d)
unfolding first_in second_in
pair_is a c b d e = (ap first_in e, ap second_in e)

pub one_task : (bytes a b c d : List ℕ) → SpellsTask bytes a b → SpellsTask bytes c d → (a ≡ c) × (b ≡ d)
one_task bytes a b c d of_a of_c = pair_is a c b d (sym (task_whole bytes a b of_a) ∙ task_whole bytes c d of_c)

pub none_apart : {A : Type 0} (o : Option A) (x : A) → o ≡ None → o ≡ Some x → ⊥
none_apart o x none some = false≢true (sym (ap is_some none) ∙ ap is_some some)

-- ---- heads

-- the name and what follows it are known from the bytes
pub one_name : (name front rest back : List ℕ) → named_bytes name rest ≡ named_bytes front back → (name ≡ front) × (rest ≡ back)
unfolding named_bytes
one_name name front rest back e = fronts name front rest back (heads _ _ _ _ (rests _ _ _ _ (rests _ _ _ _ e))) (rests _ _ _ _ (rests _ _ _ _ (rests _ _ _ _ e)))

-- what follows the name is the fuel and the script
pub head_rest : (bytes name rest : List ℕ) (h : Head) → bytes ≡ named_bytes name rest → SpellsHead bytes h → (name ≡ h.name) × (number_at w64 rest ≡ Some (h.fuel, h.script))
unfolding head_bytes
head_rest bytes name rest h is spelled =
    let two = one_name name h.name rest (to_be_bytes w64 h.fuel ++ h.script) (sym is ∙ spelled.bytes_are) in
    (two.0, ap (number_at w64) two.1 ∙ number_again w64 (2 ^ 64) holds64 h.fuel h.script (omega (arith, spelled.within.fuel)))

pub one_head : (bytes : List ℕ) (g h : Head) → SpellsHead bytes g → SpellsHead bytes h → g ≡ h
unfolding head_bytes
one_head bytes g h of_g of_h =
    let two = head_rest bytes g.name (to_be_bytes w64 g.fuel ++ g.script) h of_g.bytes_are of_h in
    let again = number_again w64 (2 ^ 64) holds64 g.fuel g.script (omega (arith, of_g.within.fuel)) in
    let same = some_is g.fuel h.fuel g.script h.script (sym again ∙ two.1) in
    λ i. record { name = two.0 i; fuel = same.0 i; script = same.1 i }
