-- Session names (own rule): 1 to 32 of ASCII letters, digits, `-` and `_`.
use Rattle.std.specs.Prelude.{ℕ, ◌<◌, ◌≤◌, Bool, ◌||◌, ◌&&◌, nat_le, ◌==◌, List, length, All, IsTrue}
use Rattle.turk_base.specs.declared.NameStop.{NameStop}
use Rattle.turk_base.specs.declared.NameStop.TheVariants as stop

abbrev pub is_name_byte : ℕ → Bool
is_name_byte b = (nat_le 48 b && nat_le b 57) || ((nat_le 65 b && nat_le b 90) || ((nat_le 97 b && nat_le b 122) || ((b == 45) || (b == 95))))

pub record IsName (t : List ℕ) : Type 0 where
  pub some : 0 < length t
  pub short : length t ≤ 32
  pub letters : All (λ b. IsTrue (is_name_byte b)) t

-- when each refusal comes: Bad for no name, and want of memory for a name alone
abbrev pub HasCause : NameStop → List ℕ → Type 0
HasCause stop.Bad t = ¬ IsName t
HasCause stop.Memory t = IsName t
