-- What a run of a script comes to, as the worked examples say it.
use package.Prim.Native.String.{String}
use Rattle.std.specs.Prelude.{ℕ, List, [], ◌∷◌, ◌++◌, ◌≡◌, codes}
use Rattle.js_tree.specs.declared.Script.{Script}
use Rattle.turk_base.specs.declared.Record.{Record}
use Rattle.turk_base.specs.Names.{Units, path_in}
use Rattle.turk_base.specs.Values.{Wait}
use Rattle.turk_base.specs.State.{Verdict}
use Rattle.turk_base.specs.Asks.{Rec, rec}
use Rattle.js_tree.specs.World.{words}
use Rattle.js_tree.specs.Run.{Res}
use Rattle.js_tree.specs.Report.{EndOfRun, end_of}
use Rattle.js_tree.specs.Eval.{eval, meaning, world}

-- the output of these lines
abbrev pub lines : List String → Units
lines [] = []
lines (l ∷ ls) = codes l ++ (10 ∷ lines ls)

-- a record at this path
abbrev pub at_path : List ℕ → Record → Rec
at_path p x = rec (path_in p) x

-- the run of a script in the session `s` with these replies, over this trace, whose draws it tells of
abbrev pub runs : Script → List (Units × Units) → List Rec → ℕ → Res
runs script replies trace fuel = eval (meaning script) (world (codes "s") replies trace) trace fuel

-- the same with draws by these words
abbrev pub runs_by : Script → (ℕ → ℕ) → List Rec → ℕ → Res
runs_by script word trace fuel = eval (meaning script) (record { session = codes "s"; pairs = []; dice = words word }) trace fuel

-- with this fuel and these replies, this script comes to this end, has so much fuel left there, and writes these lines
abbrev pub Does : Script → ℕ → List (Units × Units) → EndOfRun → ℕ → List String → Type 0
Does script fuel replies end left output =
    (end_of (runs script replies [] fuel).out (runs script replies [] fuel).st ≡ end) × ((runs script replies [] fuel).rest.left ≡ left)
    × ((runs script replies [] fuel).st.text ≡ lines output)

-- a run comes to this end, writes these lines, and has this verdict, these waits and these records made
abbrev pub Comes : Res → EndOfRun → List String → Verdict → List Wait → List Rec → Type 0
Comes r end output verdict waits made =
    (end_of r.out r.st ≡ end) × (r.st.text ≡ lines output) × (r.st.verdict ≡ verdict) × (r.rest.waits ≡ waits) × (r.made ≡ made)
