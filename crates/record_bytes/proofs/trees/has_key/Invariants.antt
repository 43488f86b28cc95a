use Rattle.std.proofs.Common.{◌≡◌, drop, map}
use Rattle.std.specs.Prelude.{nat_eq}
use Rattle.std.specs.List.{list_any}
use Rattle.std.specs.Cmp.Lexicographic.{pointwise}
use Rattle.record_bytes.proofs.trees.has_key.Given as goal

abbrev pub invariant-loop-field : goal.invariant-loop-field
invariant-loop-field l = list_any (λ k. pointwise nat_eq l.key k) (map (λ f. f.0) (drop l.field-index l.fields)) ≡ list_any (λ k. pointwise nat_eq l.key k) (map (λ f. f.0) l.fields)
