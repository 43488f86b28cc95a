-- What is read of a head, and what is written.
use Rattle.std.proofs.Common.{◌≡◌, ℕ, ◌^◌, ◌<◌, ◌≤◌, List, [], ◌∷◌, ◌++◌, length, Option, Some, None, refl, sym, ap, subst, ◌∙◌, append_assoc, arith, ◌⊎◌, inl, inr, Bool, true, false, ◌||◌, ◌&&◌, leb, eqb, Result, Ok, Err}
use Rattle.std.proofs.lemmas.Bool.{leb-true, eqb-true}
use Rattle.std.proofs.lemmas.Str.Ascii.{IsAscii-from_all}
use Rattle.std.specs.List.{AllByRecursion}
use Rattle.std.specs.Int.{w64, to_be_bytes}
use Rattle.std.specs.Str.{IsUtf8}
use Rattle.std.proofs.lemmas.Str.{IsUtf8-from_ascii}
use Rattle.turk_base.specs.SessionName.{IsName, is_name_byte}
use Rattle.record_bytes.specs.declared.Head.{Head}
use Rattle.record_bytes.specs.declared.stop.ReadStop.{ReadStop}
use Rattle.record_bytes.specs.declared.stop.ReadStop.TheVariants.{Bad}
use Rattle.record_bytes.specs.Spelling.{named_bytes, head_bytes}
use Rattle.record_bytes.specs.Limits.{SpellsHead}
use Rattle.record_bytes.specs.Reading.{number_at, Fails}
use Rattle.record_bytes.specs.Unique.{head_rest, none_apart}
use Rattle.record_bytes.proofs.Takes.{IsBytes, IsBytes-rest, number_takes, wide64}

IsBytes-after : (a b : List ℕ) → IsBytes (a ++ b) → IsBytes b
IsBytes-after [] b h = h
IsBytes-after (x ∷ a) b h = IsBytes-after a b (IsBytes-rest x (a ++ b) h)

pub all_bytes : (xs : List ℕ) → IsBytes xs → AllByRecursion (λ b. b < 2 ^ 8) xs
all_bytes [] h = tt
all_bytes (x ∷ xs) h = (h 0, all_bytes xs (IsBytes-rest x xs h))

behind_name : (bytes name rest : List ℕ) → IsBytes bytes → bytes ≡ named_bytes name rest → IsBytes rest
unfolding named_bytes
behind_name bytes name rest fits is =
    IsBytes-after name rest (IsBytes-rest (length name) (name ++ rest) (IsBytes-rest 1 (length name ∷ name ++ rest) (IsBytes-rest 72 (1 ∷ length name ∷ name ++ rest) (subst IsBytes is fits))))

-- what was read is spelled so
pub head_made : (bytes name rest : List ℕ) (fuel : ℕ) (script : List ℕ) → IsBytes bytes → bytes ≡ named_bytes name rest → IsName name → number_at w64 rest ≡ Some (fuel, script) → 0 < fuel → fuel ≤ 20000000 → length script ≤ 1048576
    → SpellsHead bytes (record { name = name; fuel = fuel; script = script })
unfolding head_bytes
head_made bytes name rest fuel script fits is of_name read some most short =
    let t = number_takes w64 (2 ^ 64) wide64 rest fuel script (behind_name bytes name rest fits is) read in
    record { within = record { some = some; fuel = most; script = short }; name = of_name; script = all_bytes script t.0.rest_fits; bytes_are = is ∙ ap (named_bytes name) t.0.parts }

-- what was read is that of each head that the bytes spell
abbrev read : ℕ → List ℕ → Option (ℕ × List ℕ)
read fuel script = Some (fuel, script)

fuel_in : Option (ℕ × List ℕ) → ℕ
fuel_in None = 0
fuel_in (Some p) = p.0

script_in : Option (ℕ × List ℕ) → List ℕ
script_in None = []
script_in (Some p) = p.1

pub head_same : (bytes name rest : List ℕ) (fuel : ℕ) (script : List ℕ) (h : Head) → bytes ≡ named_bytes name rest → number_at w64 rest ≡ Some (fuel, script) → SpellsHead bytes h → (name ≡ h.name) × (fuel ≡ h.fuel) × (script ≡ h.script)
unfolding fuel_in script_in
head_same bytes name rest fuel script h is was spelled =
    let two = head_rest bytes name rest h is spelled in
    let same : read fuel script ≡ read h.fuel h.script = sym was ∙ two.1 in
    (two.0, ap fuel_in same, ap script_in same)

-- where no fuel can be read, no head is spelled
pub no_fuel : (bytes name rest : List ℕ) (h : Head) (e : ReadStop) → bytes ≡ named_bytes name rest → Fails e (number_at w64 rest) → e ≡ Bad → SpellsHead bytes h → ⊥
no_fuel bytes name rest h e is fails bad spelled =
    none_apart (number_at w64 rest) (h.fuel, h.script) (subst (λ (x : ReadStop). Fails x (number_at w64 rest)) bad fails) (head_rest bytes name rest h is spelled).1

pub unnamed : (bytes : List ℕ) (h : Head) → ((name rest : List ℕ) → bytes ≡ named_bytes name rest → ⊥) → SpellsHead bytes h → ⊥
unfolding head_bytes
unnamed bytes h none spelled = none h.name (to_be_bytes w64 h.fuel ++ h.script) spelled.bytes_are

pub head_written : (h : Head) (o a b c d name script fuel : List ℕ) (n : ℕ) → o ≡ [] → name ≡ h.name → script ≡ h.script → fuel ≡ to_be_bytes w64 h.fuel → a ≡ o ++ 72 ∷ 1 ∷ n ∷ [] → n ≡ length name → b ≡ a ++ name → c ≡ b ++ fuel → d ≡ c ++ script → d ≡ head_bytes h
unfolding head_bytes named_bytes
head_written h o a b c d name script fuel n o_is name_is script_is fuel_is a_is n_is b_is c_is d_is =
    d_is ∙ ap (λ (l : List ℕ). l ++ script) (c_is ∙ ap (λ (l : List ℕ). l ++ fuel) (b_is ∙ ap (λ (l : List ℕ). l ++ name) (a_is ∙ ap (λ (l : List ℕ). l ++ 72 ∷ 1 ∷ n ∷ []) o_is)))
    ∙ ap (λ (k : ℕ). 72 ∷ 1 ∷ k ∷ ((name ++ fuel) ++ script)) n_is
    ∙ ap (λ (l : List ℕ). 72 ∷ 1 ∷ length name ∷ l) (append_assoc name fuel script)
    ∙ (λ i. 72 ∷ 1 ∷ length (name_is i) ∷ (name_is i ++ (fuel_is i ++ script_is i)))

-- a session name is ASCII
or_cases : (a b : Bool) → (a || b) ≡ true → (a ≡ true) ⊎ (b ≡ true)
or_cases true b e = inl refl
or_cases false b e = inr e

second_true : (a b : Bool) → (a && b) ≡ true → b ≡ true
second_true true b e = e
second_true false b e = absurd cc

letter_small : (b : ℕ) → is_name_byte b ≡ true → b < 128
letter_small b h =
    let lines : Bool = eqb b 45 || eqb b 95 in
    let lowers : Bool = leb 97 b && leb b 122 in
    let uppers : Bool = leb 65 b && leb b 90 in
    let digits : Bool = leb 48 b && leb b 57 in
    elim (or_cases digits (uppers || (lowers || lines)) h) [
      | inl is ↦ omega (arith, leb-true b 57 (second_true (leb 48 b) (leb b 57) is))
      | inr h2 ↦ elim (or_cases uppers (lowers || lines) h2) [
        | inl is ↦ omega (arith, leb-true b 90 (second_true (leb 65 b) (leb b 90) is))
        | inr h3 ↦ elim (or_cases lowers lines h3) [
          | inl is ↦ omega (arith, leb-true b 122 (second_true (leb 97 b) (leb b 122) is))
          | inr h4 ↦ elim (or_cases (eqb b 45) (eqb b 95) h4) [
            | inl is ↦ omega (arith, eqb-true b 45 is)
            | inr is ↦ omega (arith, eqb-true b 95 is)
          ]
        ]
      ]
    ]

name_utf8 : (bytes : List ℕ) → IsName bytes → IsUtf8 bytes
name_utf8 bytes h = IsUtf8-from_ascii bytes (IsAscii-from_all bytes (λ k d lt. letter_small _ (h.letters k d lt)))

pub no_utf8 : (bytes : List ℕ) → ¬ (IsUtf8 bytes) → IsName bytes → ⊥
no_utf8 bytes none h = none (name_utf8 bytes h)

stop_in : Result Head ReadStop → ReadStop
stop_in (Ok h) = Bad
stop_in (Err e) = e

abbrev failed : ReadStop → Result Head ReadStop
failed x = Err x

pub same_stop : (x y : ReadStop) → failed x ≡ failed y → x ≡ y
unfolding stop_in
same_stop x y is = ap stop_in is
