-- Blocks at places of a file.
use Rattle.std.proofs.Common.{◌≡◌, ℕ, ◌+◌, ◌-◌, ◌^◌, ◌≤◌, ◌<◌, List, [], ◌∷◌, ◌++◌, length, get_or, take, drop, refl, sym, ◌∙◌, ap, arith, append_assoc, length-append, length-take, length-drop, take-append-drop}
use Rattle.std.proofs.lemmas.List.{take_at, drop_at, drop_more, take_all, append-nil}
use Rattle.gate_log.specs.Log.{size_bytes, length-size_bytes, size_bytes-same, framed, blocks, NoBlock, Begins}
use Rattle.gate_log.specs.Entries.{entry_of, entries}
use Rattle.gate_log.specs.declared.block.Block.{Block}

pub rest_is : (k : ℕ) (bytes : List ℕ) → take (length bytes - k) (drop k bytes) ≡ drop k bytes
rest_is k bytes = take_all (length bytes - k) (drop k bytes) (omega (arith, length-drop k bytes))

pub too_short : (bytes : List ℕ) (n : ℕ) → size_bytes n ≡ take 4 bytes → n < 2 ^ 32 → length (drop 4 bytes) ≤ n → NoBlock bytes
too_short bytes n front small few e after gate short is =
    let front2 : take 4 bytes ≡ size_bytes (length e) = ap (λ (l : List ℕ). take 4 l) is ∙ take_at (size_bytes (length e)) (e ++ gate ∷ after) 4 (length-size_bytes (length e)) in
    let back : drop 4 bytes ≡ e ++ gate ∷ after = ap (λ (l : List ℕ). drop 4 l) is ∙ drop_at (size_bytes (length e)) (e ++ gate ∷ after) 4 (length-size_bytes (length e)) in
    let same : n ≡ length e = size_bytes-same n (length e) small short (front ∙ front2) in
    omega (arith, ap length back, length-append e (gate ∷ after), same, few)

pub block_found : (bytes block : List ℕ) (n : ℕ) → size_bytes n ≡ take 4 bytes → n < 2 ^ 32 → n < length (drop 4 bytes) → block ≡ framed (take n (drop 4 bytes)) → Begins block bytes
block_found bytes block n front small enough is =
    let rest : List ℕ = drop 4 bytes in
    let e : List ℕ = take n rest in
    let size : length e ≡ n = omega (arith, length-take n rest, enough) in
    let whole : bytes ≡ size_bytes (length e) ++ (e ++ get_or rest n 0 ∷ drop (n + 1) rest) =
    sym (take-append-drop 4 bytes) ∙ ap (λ (l : List ℕ). l ++ rest) (sym front ∙ ap size_bytes (sym size)) ∙ ap (λ (l : List ℕ). size_bytes (length e) ++ l) (sym (take-append-drop n rest) ∙ ap (λ (l : List ℕ). e ++ l) (drop_more rest n 0 enough)) in
    (e, drop (n + 1) rest, get_or rest n 0, omega (arith, size, small), is, whole)

pub length-framed : (e : List ℕ) → length (framed e) ≡ length e + 5
length-framed e = omega (arith, length-append (size_bytes (length e)) (e ++ 0 ∷ []), length-append e (0 ∷ []), length-size_bytes (length e))

-- the entry of a block
pub entry_framed : (b : Block) (e : List ℕ) → b.bytes.items ≡ framed e → entry_of b ≡ e
entry_framed b e is =
    let back : drop 4 b.bytes.items ≡ e ++ 0 ∷ [] = ap (λ (l : List ℕ). drop 4 l) is ∙ drop_at (size_bytes (length e)) (e ++ 0 ∷ []) 4 (length-size_bytes (length e)) in
    let n : length b.bytes.items - 1 - 4 ≡ length e = omega (arith, ap length is, length-framed e) in
    (λ i. take (n i) (back i)) ∙ take_at e (0 ∷ []) (length e) refl

pub entries-push : (bs : List Block) (b : Block) → entries (bs ++ b ∷ []) ≡ entries bs ++ entry_of b ∷ []
entries-push [] b = refl
entries-push (c ∷ bs) b = ap (λ (l : List (List ℕ)). entry_of c ∷ l) (entries-push bs b)

pub blocks-append : (es : List (List ℕ)) (e rest : List ℕ) → blocks (es ++ e ∷ []) ++ rest ≡ blocks es ++ (165 ∷ (size_bytes (length e) ++ (e ++ rest)))
blocks-append [] e rest =
    ap (λ (l : List ℕ). 165 ∷ l) (append_assoc (size_bytes (length e)) (e ++ []) rest ∙ ap (λ (l : List ℕ). size_bytes (length e) ++ (l ++ rest)) (append-nil e))
blocks-append (f ∷ es) e rest =
    ap (λ (l : List ℕ). 165 ∷ l) (append_assoc (size_bytes (length f)) (f ++ blocks (es ++ e ∷ [])) rest ∙ ap (λ (l : List ℕ). size_bytes (length f) ++ l) (append_assoc f (blocks (es ++ e ∷ [])) rest ∙ ap (λ (l : List ℕ). f ++ l) (blocks-append es e rest) ∙ sym (append_assoc f (blocks es) (165 ∷ (size_bytes (length e) ++ (e ++ rest))))) ∙ sym (append_assoc (size_bytes (length f)) (f ++ blocks es) (165 ∷ (size_bytes (length e) ++ (e ++ rest)))))

pub length-blocks : (es : List (List ℕ)) (e : List ℕ) → length (blocks (es ++ e ∷ [])) ≡ length (blocks es) + 5 + length e
length-blocks es e =
    let whole : blocks (es ++ e ∷ []) ≡ blocks es ++ (165 ∷ (size_bytes (length e) ++ (e ++ []))) = sym (append-nil (blocks (es ++ e ∷ []))) ∙ blocks-append es e [] in
    omega (arith, ap length whole, length-append (blocks es) (165 ∷ (size_bytes (length e) ++ (e ++ []))), length-append (size_bytes (length e)) (e ++ []), length-append e [], length-size_bytes (length e))

-- one block more
pub record Grown (bytes : List ℕ) (bs : List Block) (at : ℕ) : Type 0 where
  pub inside : at < length bytes
  pub size : at ≡ length (blocks (entries bs))
  pub split : bytes ≡ blocks (entries bs) ++ drop at bytes

pub grown : (bytes : List ℕ) (bs : List Block) (b : Block) (at : ℕ) → Grown bytes bs at → get_or bytes at 0 ≡ 165 → Begins b.bytes.items (drop (at + 1) bytes) → Grown bytes (bs ++ b ∷ []) (at + length b.bytes.items)
grown bytes bs b at old is_open found =
    let e = found.0 in
    let rest : List ℕ = found.2 ∷ found.1 in
    let es = entries bs in
    let entry : entry_of b ≡ e = entry_framed b e found.4 in
    let all : entries (bs ++ b ∷ []) ≡ es ++ e ∷ [] = entries-push bs b ∙ ap (λ (x : List ℕ). es ++ x ∷ []) entry in
    let here : drop at bytes ≡ 165 ∷ (size_bytes (length e) ++ (e ++ rest)) = drop_more bytes at 0 old.inside ∙ (λ i. is_open i ∷ found.5 i) in
    let whole : bytes ≡ blocks (es ++ e ∷ []) ++ rest = old.split ∙ ap (λ (l : List ℕ). blocks es ++ l) here ∙ sym (blocks-append es e rest) in
    let step : at + length b.bytes.items ≡ length (blocks (es ++ e ∷ [])) = omega (arith, old.size, length-blocks es e, ap length found.4, length-framed e) in
    let back : drop (at + length b.bytes.items) bytes ≡ rest = ap (λ (l : List ℕ). drop (at + length b.bytes.items) l) whole ∙ drop_at (blocks (es ++ e ∷ [])) rest (at + length b.bytes.items) (sym step) in
    record {
      inside = omega (arith, step, ap length whole, length-append (blocks (es ++ e ∷ [])) rest);
      size = step ∙ ap (λ (l : List (List ℕ)). length (blocks l)) (sym all);
      split = whole ∙ (λ i. blocks (sym all i) ++ sym back i);
    }
