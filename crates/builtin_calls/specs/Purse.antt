-- A heap for tests: the built-in cells, all said to be plain, and fuel.
use Rattle.std.specs.Prelude.{ℕ, [], ◌∷◌, Some, None, false}
use Rattle.turk_base.specs.Names.{root, cell}
use Rattle.turk_base.specs.Values.{Plain}
use Rattle.turk_base.specs.Start.{start}
use Rattle.value_cells.specs.Seen.{Seen}

abbrev pub purse : ℕ → Seen
purse left = record {
  names = cell root 0 ∷ cell root 1 ∷ cell root 2 ∷ cell root 3 ∷ cell root 4 ∷ cell root 5 ∷ cell root 6 ∷ [];
  first = λ nu. record start { known = λ n. Some (record { kind = Plain None; chain = [] }) };
  scope = record { path = root; branch = root; body = false; back = λ nu. start };
  outer = [];
  left = left;
}
