-- How the fields give what a contract sees, and what is true of them.
use Rattle.std.specs.Prelude.{◌≡◌, ℕ, suc, Some, slice_get}
use Rattle.std.specs.Map.{keys_of}
use Rattle.key_table.specs.declared.KeyTable.TheInside.{Inside as KeysInside}
use Rattle.key_table.specs.Keys.{Key, AreDistinct}

pub record IsTable (a : KeysInside) : Type 0 where
  pub numbered : (i : ℕ) (e : Key × ℕ) → slice_get a.entries i ≡ Some e → e.1 ≡ suc i
  pub distinct : AreDistinct (keys_of a.entries)
