-- How a plain heap is seen: the script's scope is the only one, no branch is open, and nothing is kept to be taken back.
use Rattle.std.specs.Prelude.{◌≡◌, ℕ, [], false}
use Rattle.turk_base.specs.Names.{root}
use Rattle.turk_base.specs.Start.{start}
use Rattle.value_cells.specs.Seen.{Naming, Seen, Fits, Grows}
use Rattle.run_heap.specs.Core.{Core, names_in}
use Rattle.run_heap.specs.Placed.{Around, seen_in}
use Rattle.run_heap.specs.Begins.{first_names}

abbrev pub alone : Around
alone = record { base = λ nu. start; body = false; back = λ nu. start; outer = [] }

abbrev pub plain_seen : Core → Seen
plain_seen h = seen_in alone h

-- The script's scope runs, and the first cells are the built-in ones.
pub record IsPlain (h : Core) : Type 0 where
  pub path : h.place.path ≡ []
  pub branch : h.place.branch ≡ []
  pub outer : h.outer ≡ []
  pub first : Grows first_names (names_in h.cells.now)

-- What a run begins with: the built-in cells alone, the state at the start, the script's scope, and so much fuel.
pub record AtStart (fuel : ℕ) (s : Seen) : Type 0 where
  pub names : s.names ≡ first_names
  pub first : (nu : Naming) → Fits nu first_names → s.first nu ≡ start
  pub scope : s.scope ≡ record { path = root; branch = root; body = false; back = λ nu. start }
  pub outer : s.outer ≡ []
  pub left : s.left ≡ fuel
