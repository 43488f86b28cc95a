-- A line of the output from its first text on.
use Rattle.std.specs.Prelude.{List, [], ◌∷◌, ◌++◌}
use Rattle.turk_base.specs.Names.{Units}
use Rattle.turk_base.specs.Values.{Val}
use Rattle.turk_base.specs.Prog.{Prog}
use Rattle.turk_base.specs.Errors.{text_from}

-- the texts of further values, each after a space
abbrev pub line_from : Units → List Val → (Units → Prog) → Prog
line_from line [] go = go line
line_from line (v ∷ vs) go = text_from v (λ t. line_from (line ++ 32 ∷ t) vs go)
