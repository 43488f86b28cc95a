-- What a built-in call did.
use Rattle.std.specs.Prelude.{◌≡◌, ℕ, zero, suc, ◌<◌, Some, slice_get, Result, Ok, Err}
use Rattle.turk_base.specs.Names.{root, Name, cell}
use Rattle.turk_base.specs.Values as model
use Rattle.turk_base.specs.Values.{Normal}
use Rattle.turk_base.specs.Prog.{Prog}
use Rattle.turk_base.specs.Errors.{built_in, throw_error}
use Rattle.value_cells.specs.declared.Value.{Value}
use Rattle.value_cells.specs.declared.OpStop.{OpStop}
use Rattle.value_cells.specs.declared.OpStop.TheVariants as heap
use Rattle.value_cells.specs.Seen.{Naming, Seen, val_in}
use Rattle.value_cells.specs.Does.{Says, Refuses, Spends, Fails, Runs, Onward}
use Rattle.builtin_calls.specs.declared.CallStop.{CallStop}
use Rattle.builtin_calls.specs.declared.CallStop.TheVariants.{Throw, NotWhole, NoPrimitive, TooLong, Spent, Memory}

-- a heap's stop as a call's
abbrev pub call_stop : OpStop → CallStop
call_stop heap.NotWhole = NotWhole
call_stop heap.NoPrimitive = NoPrimitive
call_stop heap.TooLong = TooLong
call_stop heap.Spent = Spent
call_stop heap.Memory = Memory

-- the prototype of an error by its kind: 0 for TypeError, else ReferenceError
abbrev pub error_prototype : ℕ → Name
error_prototype zero = built_in 3
error_prototype (suc n) = built_in 5

-- A value or a stop is what the program came to. Where an error is thrown, the heap is as before, and what is left of the
-- program is to throw it: the message is not paid and the error's cell not made yet.
abbrev pub Called : (Naming → Prog) → Result Value CallStop → Seen → Seen → Type 0
Called f (Ok v) old new = Runs f (λ nu. Says (Normal (val_in nu v))) old new
Called f (Err (Throw kind message)) old new = (new ≡ old) × Onward f (λ nu. throw_error (error_prototype kind) message) old new
Called f (Err NotWhole) old new = Runs f (λ nu. Refuses model.NotWhole) old new
Called f (Err NoPrimitive) old new = Runs f (λ nu. Refuses model.NoPrimitive) old new
Called f (Err TooLong) old new = Runs f (λ nu. Refuses model.TooLong) old new
Called f (Err Spent) old new = Runs f (λ nu. Spends) old new
Called f (Err Memory) old new = Runs f (λ nu. Fails) old new

-- the first seven cells are the built-in ones
pub record HasBuiltIns (s : Seen) : Type 0 where
  pub named : (i : ℕ) → i < 7 → slice_get s.names i ≡ Some (cell root i)
