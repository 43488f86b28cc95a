-- Why a reading stopped (own rule).
use Rattle.std.specs.Prelude.{ℕ, ◌<◌, List, length, Option, IfSome, ⊤}
use Rattle.outside.specs.Faults.{Rose}
use Rattle.outside.specs.declared.source.ReadStop.{ReadStop}
use Rattle.outside.specs.declared.source.ReadStop.TheVariants.{Fault, TooLarge, Memory}

-- A fault was counted, or there were more bytes than the limit. Want of memory has no cause here.
abbrev pub HasCause : ℕ → ℕ → Option (List ℕ) → ℕ → ReadStop → Type 0
HasCause before after left limit Fault = Rose before after
HasCause before after left limit TooLarge = IfSome left (λ bytes. limit < length bytes)
HasCause before after left limit Memory = ⊤
