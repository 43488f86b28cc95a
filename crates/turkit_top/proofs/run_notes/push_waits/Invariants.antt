use Rattle.std.proofs.Common.{◌≡◌, ◌++◌, take}
use Rattle.std.specs.List.{flat_map}
use Rattle.turkit_top.specs.Notes.{wait_line}
use Rattle.turkit_top.proofs.run_notes.push_waits.Given as goal

abbrev pub invariant-loop-wait : goal.invariant-loop-wait
invariant-loop-wait l = l.text ≡ l.initial.text ++ flat_map wait_line (take l.wait-index l.waits)
