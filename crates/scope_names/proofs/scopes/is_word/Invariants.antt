use Rattle.std.proofs.Common.{◌≡◌, drop}
use Rattle.turk_base.specs.Conversions.{same_units}
use Rattle.scope_names.proofs.scopes.is_word.Given as goal

abbrev pub invariant-loop-at : goal.invariant-loop-at
invariant-loop-at l = same_units (drop l.at l.word) (drop l.at l.name) ≡ same_units l.word l.name
