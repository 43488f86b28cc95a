-- What the four calls of an append leave. Own rules.
use Rattle.std.specs.Prelude.{◌≡◌, ◌⊎◌, ◌+◌, ℕ, List, [], ◌∷◌, length, Result, OnOk}
use Rattle.disk_model.specs.Disk.{Torn, Holds, LeavesOnly}

-- Where one image stood there, each image is that one after a torn write behind the gate, or that with the bytes
-- behind the gate and the gate torn; at the end the gate is open.
pub record Appends {T D E : Type 0} (bytes : D → List ℕ) (moment : D → ℕ) (left_since : D → ℕ → List ℕ → Type 0) (gate : ℕ) (block : List ℕ) (old new : D) (result : Result T E) : Type 0 where
  pub any_moment : ((c : List ℕ) → left_since old (moment old) c → c ≡ bytes old)
      → LeavesOnly moment left_since old new (λ c. Torn (gate + 1) (length block) (bytes old) c
      ⊎ ((d : List ℕ) × Holds (gate + 1) block (bytes old) d × Torn gate 1 d c))
  pub done : OnOk result ((d : List ℕ) × Holds (gate + 1) block (bytes old) d × Holds gate (165 ∷ []) d (bytes new)
      × ((c : List ℕ) → left_since new (moment new) c → c ≡ bytes new))
