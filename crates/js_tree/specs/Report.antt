-- What is told of a whole run: how it ended, the output, the verdict, the forks, the waits and the records made (own rules).
use Rattle.std.specs.Prelude.{ℕ, List, Option, Some, None, Result, Ok, Err, codes}
use Rattle.std.proofs.Common.{[], ◌∷◌, ◌++◌}
use Rattle.turk_base.specs.Names.{Units, Name}
use Rattle.turk_base.specs.Values.{Val, Text, Object, Known, Refusal, Wait}
use Rattle.turk_base.specs.Conversions.{text_in}
use Rattle.turk_base.specs.Cells.{found}
use Rattle.turk_base.specs.State.{St, Verdict}
use Rattle.turk_base.specs.Asks.{Rec}
use Rattle.js_tree.specs.World.{Divergence}
use Rattle.js_tree.specs.Run.{ret, thr, bar, spent, undrawn, missing, diverged, Out, ended, waits, halted, Res}

pub data EndOfRun : Type 0 where
  Finished : EndOfRun
  Uncaught : (text : Units) → EndOfRun
  Refused : (why : Refusal) → EndOfRun
  Waiting : EndOfRun
  Spent : EndOfRun
  Undrawn : EndOfRun
  Diverged : (d : Divergence) → EndOfRun
  Missing : EndOfRun  -- a name that is no cell was used; no script does

-- ---- the text of an uncaught value; it touches and costs nothing

abbrev pub first_found : Option Val → Option Val → Option Val
first_found (Some v) o = Some v
first_found None o = o

-- the key looked up in cell after cell
abbrev pub found_in : St → List Name → Units → Option Val
found_in σ [] key = None
found_in σ (c ∷ cs) key = first_found (found key (σ.props c)) (found_in σ cs key)

abbrev pub chain_of : Name → Option Known → List Name
chain_of c (Some k) = c ∷ k.chain
chain_of c None = c ∷ []

abbrev pub found_on : St → Name → Units → Option Val
found_on σ c key = found_in σ (chain_of c (σ.known c)) key

-- `name: message`, where both are texts
abbrev pub error_text : Option Val → Option Val → Units
error_text (Some (Text n)) (Some (Text m)) = n ++ codes ": " ++ m
error_text n m = codes "object"

abbrev pub text_or_object : Result Units Refusal → Units
text_or_object (Ok t) = t
text_or_object (Err why) = codes "object"

abbrev pub uncaught_text : Val → St → Units
uncaught_text (Object c) σ = error_text (found_on σ c (codes "name")) (found_on σ c (codes "message"))
uncaught_text v σ = text_or_object (text_in v)

abbrev pub end_of : Out → St → EndOfRun
end_of (ended (ret x)) σ = Finished
end_of (ended (thr v)) σ = Uncaught (uncaught_text v σ)
end_of (ended (bar why)) σ = Refused why
end_of waits σ = Waiting
end_of (halted spent) σ = Spent
end_of (halted undrawn) σ = Undrawn
end_of (halted missing) σ = Missing
end_of (halted (diverged d)) σ = Diverged d

pub record Report : Type 0 where
  pub end : EndOfRun
  pub output : Units
  pub verdict : Verdict
  pub forks : ℕ
  pub waits : List Wait
  pub made : List Rec

abbrev pub report : Res → Report
report r = record { end = end_of r.out r.st; output = r.st.text; verdict = r.st.verdict; forks = r.rest.forks; waits = r.rest.waits; made = r.made }
