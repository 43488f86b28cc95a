-- How a run does not end, whatever the script (own rules).
use Rattle.std.specs.Prelude.{◌≡◌, ℕ, List, []}
use Rattle.turk_base.specs.Asks.{Rec}
use Rattle.turk_base.specs.Prog.{Prog}
use Rattle.js_tree.specs.World.{World, Divergence, words}
use Rattle.js_tree.specs.Eval.{eval}
use Rattle.js_tree.specs.Run.{halted, undrawn, diverged}

-- Over an empty trace no run diverges.
abbrev pub NeverDiverges : Type 0
NeverDiverges = (S : Prog) (E : World) (n : ℕ) (d : Divergence) → (eval S E [] n).out ≡ halted (diverged d) → ⊥

-- Where the draws are the words of a source, no run lacks one.
abbrev pub NeverUndrawn : Type 0
NeverUndrawn = (S : Prog) (E : World) (T : List Rec) (n : ℕ) (word : ℕ → ℕ) → E.dice ≡ words word → (eval S E T n).out ≡ halted undrawn → ⊥
