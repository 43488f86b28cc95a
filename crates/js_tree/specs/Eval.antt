-- Whole runs of a script, the plain run, what a stopped run leaves, histories of runs, and the budget (own rules).
use Rattle.std.specs.Prelude.{ℕ, ◌*◌, List, Bool, true, false, ◌≡◌}
use Rattle.std.proofs.Common.{suc, [], ◌∷◌, ◌++◌}
use Rattle.turk_base.specs.Names.{root, Units}
use Rattle.turk_base.specs.State.{any_gone}
use Rattle.turk_base.specs.Asks.{Rec, rec}
use Rattle.turk_base.specs.declared.Record.{Record}
use Rattle.turk_base.specs.declared.Record.TheVariants as kept
use Rattle.turk_base.specs.Prog.{Prog}
use Rattle.turk_base.specs.Start.{start}
use Rattle.js_tree.specs.declared.Script.{Script}
use Rattle.js_tree.specs.World.{told_by, World, Rest}
use Rattle.js_tree.specs.Run.{Out, ended, waits, halted, Res, run, branch_end}
use Rattle.js_tree.specs.Report.{Report, report}
use Rattle.js_tree.specs.Table.{table_of}
use Rattle.js_tree.specs.Rows.{program}

abbrev pub fuel : ℕ → Rest
fuel n = record { left = n; drawn = 0; forks = 0; waits = [] }

-- The script waits at its end where a branch is absent.
abbrev pub closed : Bool → Out → Out
closed true (ended e) = waits
closed false (ended e) = ended e
closed g waits = waits
closed g (halted w) = halted w

abbrev pub close : Res → Res
close r = record r { out = closed (any_gone root r.st.gone) r.out }

-- The run of a whole program over the trace T in the world E with fuel n.
abbrev pub eval : Prog → World → List Rec → ℕ → Res
eval S E T n = close (run S E T (suc n) root root false branch_end start (fuel n))

-- the program of a script
abbrev pub meaning : Script → Prog
meaning S = program (table_of S) S

-- What is told of the run of the script S over the trace T in the world E with fuel n.
abbrev pub Eval : Script → World → List Rec → ℕ → Report
Eval S E T n = report (eval (meaning S) E T n)

-- The plain run: nothing is kept from before.
abbrev pub PlainRun : Script → World → ℕ → Report
PlainRun S E n = Eval S E [] n

-- a session, its replies, and the draws that a trace tells of
abbrev pub world : Units → List (Units × Units) → List Rec → World
world name R l = record { session = name; pairs = R; dice = told_by l }

-- T2 is T followed by a front of the records that the run makes, whose draws are those of T2.
abbrev pub Left : Units → Prog → ℕ → List Rec → List (Units × Units) → List Rec → Type 0
Left name S n T R T2 = (front : List Rec) × (rest : List Rec) × (T2 ≡ T ++ front) × ((eval S (world name R T2) T n).made ≡ front ++ rest)

-- A history: each run leaves its trace with a front of the records that it made; replies are only added.
pub data Grown (name : Units) (S : Prog) (n : ℕ) : List Rec → List (Units × Units) → Type 0 where
  begun : {R : List (Units × Units)} → Grown name S n [] R
  grew : {T T2 : List Rec} {R : List (Units × Units)} (added : List (Units × Units)) → Grown name S n T R → Left name S n T R T2 → Grown name S n T2 (R ++ added)

-- how many once records a trace has
abbrev pub once_of : Record → ℕ → ℕ
once_of (kept.Post t) n = n
once_of (kept.Reply t x) n = n
once_of (kept.Draw m k) n = n
once_of (kept.Once d) n = suc n

abbrev pub onces : List Rec → ℕ
onces [] = 0
onces (rec p x ∷ T) = once_of x (onces T)

-- the fuel that is enough for the plain run
abbrev pub Budget : List Rec → ℕ → ℕ
Budget T n = n * suc (onces T)
