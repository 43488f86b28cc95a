-- The path that a Spot stands for.
use Rattle.std.specs.Prelude.{◌≡◌, ◌<◌, ◌≤◌, ℕ, List, [], length, take, Option, Some, None, slice_get, IsSome}
use Rattle.turk_base.specs.declared.Entry.{Entry}
use Rattle.turk_base.specs.Trace.{at}
use Rattle.trace_tree.specs.declared.spot.Spot.{Spot}
use Rattle.trace_tree.specs.declared.TraceStop.{TraceStop}
use Rattle.trace_tree.specs.declared.TraceStop.TheVariants.{Repeated, Full, Memory}
use Rattle.trace_tree.specs.Traces.{Kept}

-- the path of an entry, if there is one
abbrev pub path_in : Option Entry → List ℕ
path_in None = []
path_in (Some e) = e.path

-- the first indexes of an entry's path, as many as the Spot says
abbrev pub path_of : List Entry → Spot → List ℕ
path_of es s = take s.depth (path_in (slice_get es s.number))

-- the Spot is good for these entries
abbrev pub IsSpot : List Entry → Spot → Type 0
IsSpot es s = s.depth ≤ length (path_in (slice_get es s.number))

-- a Spot that is good for these entries and stands for this path
pub record StandsAt (es : List Entry) (s : Spot) (path : List ℕ) : Type 0 where
  pub good : IsSpot es s
  pub path_is : path_of es s ≡ path

-- why an entry isn't pushed, and that it is handed back
abbrev pub Refuses : Kept → Entry → TraceStop → Type 0
Refuses t e (Repeated back) = (back ≡ e) × IsSome (at t.entries e.path)
Refuses t e (Full back) = (back ≡ e) × (at t.entries e.path ≡ None) × (65536 ≤ length t.entries)
Refuses t e (Memory back) = (back ≡ e) × (at t.entries e.path ≡ None) × (length t.entries < 65536) × (t.room ≤ length e.path)
