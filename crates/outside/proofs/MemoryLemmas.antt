-- What a read from memory takes off the front of the bytes that are left.
use Rattle.std.proofs.Common.{◌≡◌, ℕ, ◌+◌, ◌-◌, ◌<◌, List, [], ◌++◌, length, take, drop, min, sym, ap, ◌∙◌, arith}
use Rattle.std.proofs.lemmas.List.{take-append-drop, drop-drop, take_rest}
use Rattle.std.proofs.lemmas.Grind.{common_steps}

pub takes_front : (bytes got : List ℕ) (at n : ℕ) → take n got ≡ take n (take (length bytes - at) (drop at bytes))
    → drop at bytes ≡ take n got ++ drop (at + n) bytes
takes_front bytes got at n same =
    sym (take-append-drop n (drop at bytes))
    ∙ ap (λ (l : List ℕ). take n (drop at bytes) ++ l) (drop-drop n at bytes)
    ∙ ap (λ (l : List ℕ). l ++ drop (at + n) bytes) (sym (same ∙ ap (take n) (take_rest bytes at)))

pub ends : (bytes : List ℕ) (at n room : ℕ) → n ≡ min (length (take (length bytes - at) (drop at bytes))) room
    → n ≡ 0 → 0 < room → drop (at + n) bytes ≡ []
ends bytes at n room m z p = grind (arith, common_steps)
