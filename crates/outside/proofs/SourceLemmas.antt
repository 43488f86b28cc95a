-- Two readings in a row are one reading of both pieces.
use Rattle.std.proofs.Common.{ℕ, List, ◌++◌, Option, Some, None, ap, ◌∙◌, sym, append_assoc}
use Rattle.std.specs.Io.KnownBytes.{Consumes}

pub consumes-then : (a b c : Option (List ℕ)) (xs ys : List ℕ)
    → Consumes a b xs → Consumes b c ys → Consumes a c (xs ++ ys)
consumes-then None b c xs ys h k = tt
consumes-then (Some a) None c xs ys h k = absurd h
consumes-then (Some a) (Some b) None xs ys h k = absurd k
consumes-then (Some a) (Some b) (Some c) xs ys h k =
    h ∙ ap (λ (l : List ℕ). xs ++ l) k ∙ sym (append_assoc xs ys c)
