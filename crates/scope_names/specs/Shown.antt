-- Frames as contracts see them: the innermost first.
use Rattle.std.specs.Prelude.{List, map, reverse}
use Rattle.js_tree.specs.Binds.{FrameNames}
use Rattle.scope_names.specs.declared.scopes.Scope.{Scope}

abbrev pub frame_shown : Scope → FrameNames
frame_shown s = record { names = s.names; own = s.own }

abbrev pub shown : List Scope → List FrameNames
shown frames = map frame_shown (reverse frames)
