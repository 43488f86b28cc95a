-- Names gathered for a frame, each once.
use Rattle.std.specs.Prelude.{List, [], ◌∷◌, ◌++◌, if◌then◌else◌}
use Rattle.turk_base.specs.Names.{Units}
use Rattle.js_tree.specs.Calls.{has}
use Rattle.js_tree.specs.Binds.{FrameNames}

abbrev pub with_name : List Units → Units → List Units
with_name names x = if has names x then names else names ++ x ∷ []

abbrev pub gathered : List Units → List Units → List Units
gathered names [] = names
gathered names (x ∷ xs) = gathered (with_name names x) xs

-- a frame with each of its names once
abbrev pub collected : FrameNames → FrameNames
collected f = record { names = gathered [] f.names; own = f.own }
