-- The entries that are read off a file are those of its log.
use Rattle.std.proofs.Common.{◌≡◌, ◌≢◌, ◌⊎◌, inl, inr, ℕ, zero, suc, ◌+◌, ◌^◌, ◌<◌, ◌≤◌, Bool, true, false, List, [], ◌∷◌, ◌++◌, length, take, drop, refl, sym, ap, ◌∙◌, arith, append_assoc, length-append}
use Rattle.std.specs.Prelude.{◌==◌, nat_le, if◌then◌else◌}
use Rattle.std.specs.Int.{w32, from_be_bytes}
use Rattle.std.proofs.lemmas.Bool.{eqb-true, leb-true, leb-false}
use Rattle.std.proofs.lemmas.List.{take_at, drop_at}
use Rattle.std.proofs.lemmas.Nat.{from_be_bytes-to_be_bytes_4}
use Rattle.gate_log.specs.Log.{size_bytes, length-size_bytes, blocks, AreShort, IsLog}
use Rattle.gate_log.specs.Unique.{one_log}
use Rattle.ledger_board.specs.Bytes.{size_said, entries_from, entries_in}

said_size : (n : ℕ) → n < 2 ^ 32 → from_be_bytes w32 (size_bytes n) ≡ n
unfolding size_bytes
said_size n small = from_be_bytes-to_be_bytes_4 n small

apart : (a b : ℕ) → a ≢ b → (a == b) ≡ false
apart a b far = by_test (a == b) refl
  where
    by_test : (t : Bool) → (a == b) ≡ t → (a == b) ≡ false
    by_test true is = absurd (far (eqb-true a b is))
    by_test false is = is

regroup : (e : List ℕ) (es : List (List ℕ)) (x : List ℕ) → (size_bytes (length e) ++ (e ++ blocks es)) ++ x ≡ size_bytes (length e) ++ (e ++ (blocks es ++ x))
regroup e es x = append_assoc (size_bytes (length e)) (e ++ blocks es) x ∙ ap (λ (l : List ℕ). size_bytes (length e) ++ l) (append_assoc e (blocks es) x)

pub count_blocks : (es : List (List ℕ)) → length es ≤ length (blocks es)
count_blocks [] = omega arith
count_blocks (e ∷ es) = omega (arith, count_blocks es, length-append (size_bytes (length e)) (e ++ blocks es), length-append e (blocks es))

read_blocks : (n : ℕ) (es : List (List ℕ)) (gate : ℕ) (rest : List ℕ) → AreShort es → gate ≢ 165 → length es < n → entries_from n (blocks es ++ gate ∷ rest) ≡ es
unfolding entries_from
read_blocks zero es gate rest short closed lt = absurd (let never : ⊥ = omega (arith, lt) in never)
read_blocks (suc n) [] gate rest short closed lt = ap (λ (b : Bool). if b then take (size_said rest) (drop 4 rest) ∷ entries_from n (drop (size_said rest) (drop 4 rest)) else []) (apart gate 165 closed)
read_blocks (suc n) (e ∷ es) gate rest short closed lt =
    let more : List ℕ = blocks es ++ gate ∷ rest in
    let all : List ℕ = (size_bytes (length e) ++ (e ++ blocks es)) ++ gate ∷ rest in
    let split : all ≡ size_bytes (length e) ++ (e ++ more) = regroup e es (gate ∷ rest) in
    let four : length (size_bytes (length e)) ≡ 4 = length-size_bytes (length e) in
    let front : take 4 all ≡ size_bytes (length e) = ap (λ (l : List ℕ). take 4 l) split ∙ take_at (size_bytes (length e)) (e ++ more) 4 four in
    let back : drop 4 all ≡ e ++ more = ap (λ (l : List ℕ). drop 4 l) split ∙ drop_at (size_bytes (length e)) (e ++ more) 4 four in
    let said : size_said all ≡ length e = ap (λ (l : List ℕ). from_be_bytes w32 l) front ∙ said_size (length e) short.0 in
    let rest_is : entries_from n (drop (length e) (e ++ more)) ≡ es = ap (λ (l : List ℕ). entries_from n l) (drop_at e more (length e) refl) ∙ read_blocks n es gate rest short.1 closed (omega (arith, lt)) in
    ap (λ (k : ℕ). take k (drop 4 all) ∷ entries_from n (drop k (drop 4 all))) said
    ∙ ap (λ (l : List ℕ). take (length e) l ∷ entries_from n (drop (length e) l)) back
    ∙ ap (λ (l : List ℕ). l ∷ entries_from n (drop (length e) (e ++ more))) (take_at e more (length e) refl)
    ∙ ap (λ (l : List (List ℕ)). e ∷ l) rest_is

gated_read : (bytes : List ℕ) (es : List (List ℕ)) → 1 < length bytes → IsLog bytes es → entries_from (length bytes) bytes ≡ es
gated_read bytes es long (inl few) = absurd (let never : ⊥ = omega (arith, long, few.0) in never)
gated_read bytes es long (inr g) =
    ap (λ (l : List ℕ). entries_from (length bytes) l) g.4
    ∙ read_blocks (length bytes) es g.0 g.1 g.2 g.3 (omega (arith, count_blocks es, ap length g.4, length-append (blocks es) (g.0 ∷ g.1)))

pub entries_are : (bytes : List ℕ) (es : List (List ℕ)) → IsLog bytes es → entries_in bytes ≡ es
unfolding entries_in
entries_are bytes es log = by_test (nat_le (length bytes) 1) refl
  where
    by_test : (b : Bool) → nat_le (length bytes) 1 ≡ b → (if nat_le (length bytes) 1 then [] else entries_from (length bytes) bytes) ≡ es
    by_test true is = ap (λ (b : Bool). if b then [] else entries_from (length bytes) bytes) is ∙ one_log bytes [] es (inl (leb-true (length bytes) 1 is, refl)) log
    by_test false is = ap (λ (b : Bool). if b then [] else entries_from (length bytes) bytes) is ∙ gated_read bytes es (leb-false (length bytes) 1 is) log
