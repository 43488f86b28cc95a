-- What is asked of the outside, the records that keep the answers, replies, and tokens.
use Rattle.std.specs.Prelude.{ℤ, List, Bool, true, false, Option, Some, None, if◌then◌else◌, decimal}
use Rattle.std.proofs.Common.{◌≡◌, [], ◌∷◌, ◌++◌}
use Rattle.turk_base.specs.Names.{Path, root, sub, Under, Units, pick, path_eq, under, units_eq}
use Rattle.turk_base.specs.declared.Record.{Record}

-- an ask that is answered from outside: a post of a text, a reply to a task, a draw below a bound
pub data Question : Type 0 where
  posts : (text : Units) → Question
  replies : (token : Units) → Question
  draws : (bound : ℤ) → Question

abbrev pub AnsOf : Question → Type 0
AnsOf (posts t) = Units
AnsOf (replies t) = Units
AnsOf (draws n) = ℤ

-- a record: the path of the call that made it, and what it keeps
pub data Rec : Type 0 where
  rec : (path : Path) → (what : Record) → Rec

abbrev pub path_of : Rec → Path
path_of (rec p x) = p

-- the record at p
abbrev pub find : Path → List Rec → Option Rec
find p [] = None
find p (r ∷ l) = pick (path_eq (path_of r) p) (Some r) (find p l)

-- a record stands below p
abbrev pub strictly : {p q : Path} → Dec (p ≡ q) → Dec (Under p q) → Bool
strictly (yes e) u = false
strictly (no n) (yes u) = true
strictly (no n) (no u) = false

abbrev pub below : Path → List Rec → Bool
below p [] = false
below p (r ∷ l) = if strictly (path_eq p (path_of r)) (under p (path_of r)) then true else below p l

-- the first reply to t
abbrev pub answer : List (Units × Units) → Units → Option Units
answer [] t = None
answer ((u, x) ∷ l) t = pick (units_eq u t) (Some x) (answer l t)

-- ---- tokens

-- the indexes in decimal, joined by `.` (46)
abbrev pub written : Path → Units
written root = []
written (sub i root) = decimal i
written (sub i (sub j p)) = written (sub j p) ++ (46 ∷ decimal i)

-- the name of the session, `/` (47) and the path
abbrev pub token : Units → Path → Units
token session p = session ++ (47 ∷ written p)
