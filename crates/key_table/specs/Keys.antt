-- Keys by numbers from 1 on: the number of a key is one more than its place in the list (own rule).
use Rattle.std.specs.Prelude.{◌≡◌, ℕ, suc, List, Option, Some, None, slice_get}

abbrev pub Key : Type 0
Key = List ℕ

-- the key has that number
pub record HasNumber (keys : List Key) (key : Key) (number : ℕ) : Type 0 where
  pub place : ℕ
  pub number_is : number ≡ suc place
  pub stands : slice_get keys place ≡ Some key

-- the key has no number
pub record HasNone (keys : List Key) (key : Key) : Type 0 where
  pub missing : (i : ℕ) → slice_get keys i ≡ Some key → ⊥

-- no key has that number
pub record NamesNone (keys : List Key) (number : ℕ) : Type 0 where
  pub none : (key : Key) → HasNumber keys key number → ⊥

-- the number of a key, or none where it has none
abbrev pub Numbers : List Key → Key → Option ℕ → Type 0
Numbers keys key (Some number) = HasNumber keys key number
Numbers keys key None = HasNone keys key

-- no key stands twice
pub record AreDistinct (keys : List Key) : Type 0 where
  pub once : (i j : ℕ) (k : Key) → slice_get keys i ≡ Some k → slice_get keys j ≡ Some k → i ≡ j

-- the first of the keys are those that there were
pub record Grows (old new : List Key) : Type 0 where
  pub stays : (i : ℕ) (k : Key) → slice_get old i ≡ Some k → slice_get new i ≡ Some k
