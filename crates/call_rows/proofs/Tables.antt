-- Codes by their numbers.
use Rattle.std.specs.Prelude.{Some, None, List, map, slice_get}
use Rattle.std.specs.Option.{option_map}
use Rattle.std.proofs.Common.{◌≡◌, ◌≤◌, ◌<◌, ◌∙◌, ℕ, length, get_or, refl, ap}
use Rattle.std.proofs.lemmas.Option.{slice_get-map, slice_get_read, slice_get_past}
use Rattle.tree_rows.specs.declared.codes.CodeRef.{CodeRef}
use Rattle.tree_rows.specs.Codes.{code_in}

pub code_there : (all : List CodeRef) (i : ℕ) (c : CodeRef) → i < length all → c ≡ get_or all i c → slice_get (map code_in all) i ≡ Some (code_in c)
code_there all i c h e = slice_get-map code_in all i ∙ ap (option_map code_in) (slice_get_read all (length all) i c refl h e)

pub code_past : (all : List CodeRef) (i : ℕ) → length all ≤ i → slice_get (map code_in all) i ≡ None
code_past all i h = slice_get-map code_in all i ∙ ap (option_map code_in) (slice_get_past all i h)
