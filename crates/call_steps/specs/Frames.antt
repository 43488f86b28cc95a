-- The names that a frame has while code is entered (ECMA-262 3rd ed. 10.1.3).
use Rattle.std.specs.Prelude.{List, [], ◌∷◌}
use Rattle.turk_base.specs.Names.{Units}
use Rattle.js_tree.specs.declared.Declaration.{Declaration}
use Rattle.js_tree.specs.Trees.{declared_name}

-- after these functions were declared, the last one first
abbrev pub after : List Units → List Declaration → List Units
after names [] = names
after names (d ∷ ds) = after (declared_name d ∷ names) ds
