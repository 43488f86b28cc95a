use Rattle.std.proofs.Common.{◌≡◌, map, take, ◌∷◌, []}
use Rattle.builtin_calls.proofs.texts.units_apart.Given as goal

abbrev pub invariant-loop-unit : goal.invariant-loop-unit
invariant-loop-unit l = l.pieces.items ≡ map (λ unit. unit ∷ []) (take l.unit-index l.text)
