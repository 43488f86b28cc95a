use Rattle.std.proofs.Common.{map, drop, ◌++◌}
use Rattle.turk_base.specs.BuiltIns as spec
use Rattle.value_cells.specs.Seen.{Seen, val_in}
use Rattle.builtin_calls.specs.Gives.{Leads}
use Rattle.builtin_calls.proofs.texts.codes.Given as goal

abbrev pub invariant-loop-value : goal.invariant-loop-value
invariant-loop-value l = (s : Seen) → Leads (λ nu. spec.codes_in (map (val_in nu) l.values)) (λ nu go. spec.codes_in (map (val_in nu) (drop l.value-index l.values)) (λ us. go (l.units ++ us))) s s
