-- A heap's stop as an exit of an evaluator.
use Rattle.std.specs.Prelude.{Result, Ok, Err}
use Rattle.ask_model.specs.declared.AskStop.TheVariants as ask
use Rattle.builtin_calls.specs.declared.CallEnd.{CallEnd}
use Rattle.builtin_calls.specs.declared.CallEnd.TheVariants as end
use Rattle.value_cells.specs.declared.Value.{Value}
use Rattle.value_cells.specs.declared.Value.TheVariants.{Object}
use Rattle.value_cells.specs.declared.OpStop.{OpStop}
use Rattle.value_cells.specs.declared.OpStop.TheVariants as heap
use Rattle.run_host.specs.declared.Refusal.TheVariants as refusal
use Rattle.run_host.specs.declared.Halt.TheVariants.{Refused, Spent}
use Rattle.run_host.specs.declared.Exit.{Exit}
use Rattle.run_host.specs.declared.Exit.TheVariants.{Throw, Halted, Stopped}

abbrev pub exit_at : OpStop → Exit
exit_at heap.NotWhole = Halted (Refused refusal.NotWhole)
exit_at heap.NoPrimitive = Halted (Refused refusal.NoPrimitive)
exit_at heap.TooLong = Halted (Refused refusal.TooLong)
exit_at heap.Spent = Halted Spent
exit_at heap.Memory = Stopped ask.Memory

abbrev pub answer_at : {B : Type 0} → Result B OpStop → Result B Exit
answer_at (Ok b) = Ok b
answer_at (Err stop) = Err (exit_at stop)

-- how a built-in call ended
abbrev pub value_at : Result CallEnd OpStop → Result Value Exit
value_at (Ok (end.Value v)) = Ok v
value_at (Ok (end.Thrown cell)) = Err (Throw (Object cell))
value_at (Err stop) = Err (exit_at stop)
