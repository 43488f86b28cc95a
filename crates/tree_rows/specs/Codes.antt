-- The codes of a script's functions by their numbers, as the evaluator holds them.
use Rattle.std.specs.Prelude.{List, map}
use Rattle.js_tree.specs.Calls.{Code}
use Rattle.tree_rows.specs.declared.codes.CodeRef.{CodeRef}
use Rattle.tree_rows.specs.declared.codes.Codes.{Codes}

abbrev pub code_in : CodeRef → Code
code_in c = record { parameters = c.parameters.now; body = c.body.now }

abbrev pub table_in : Codes → List Code
table_in codes = map code_in codes.all.items
