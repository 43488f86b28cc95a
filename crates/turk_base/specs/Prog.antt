-- What a script asks of the state: a program is a tree of requests, and learns of the state by their answers alone.
use Rattle.std.specs.Prelude.{ℕ, Bool, List, length, ℤ, Option, nat_lt, if◌then◌else◌, Result, Ok, Err, ◌^◌}
use Rattle.turk_base.specs.Names.{Units, Name}
use Rattle.turk_base.specs.Values.{Val, Undefined, Kind, Refusal, TooLong, Outcome, Normal}

-- ---- requests

pub data Prim : Type 0 where
  -- a charge
  Pay : (n : ℕ) → Prim
  -- a cell's kind, which is fixed; looking at it touches and costs nothing
  KindOf : (c : Name) → Prim
  -- a new cell of the scope that runs
  Make : (kind : Kind) → Prim
  -- whether the second stands on the chain of prototypes of the first; it touches and costs nothing
  Inherits : (c : Name) → (from : Name) → Prim
  -- the own property, else that of the prototypes in order (ES3 8.6.2.1)
  Get : (c : Name) → (key : Units) → Prim
  -- the own property set, or created last, with the rules of arrays (ES3 8.6.2.2, 15.4.5.1)
  Put : (c : Name) → (key : Units) → (v : Val) → Prim
  -- the own property deleted; false for what can't be (ES3 8.6.2.5)
  Remove : (c : Name) → (key : Units) → Prim
  -- the keys that for-in lists
  Keys : (c : Name) → Prim
  -- a name that the frame has, read and set, and a name that it has not
  ReadName : (frame : Name) → (name : Units) → Prim
  WriteName : (frame : Name) → (name : Units) → (v : Val) → Prim
  Declare : (frame : Name) → (name : Units) → (v : Val) → Prim
  -- a line of the output
  Print : (line : Units) → Prim
  -- the asks that take an index of the scope: a token, a reply, a draw
  Post : (text : Units) → Prim
  Reply : (token : Units) → Prim
  Draw : (bound : ℤ) → Prim
  -- the branches of the scope joined; where wanted, an array of their values
  Join : (wanted : Bool) → Prim
  -- refused in a once body
  MayFork : Prim
  Crash : Prim
  Refuse : (why : Refusal) → Prim

abbrev pub AnswerOf : Prim → Type 0
AnswerOf (Pay n) = Unit {0}
AnswerOf (KindOf c) = Kind
AnswerOf (Make kind) = Name
AnswerOf (Inherits c from) = Bool
AnswerOf (Get c key) = Option Val
AnswerOf (Put c key v) = Unit {0}
AnswerOf (Remove c key) = Bool
AnswerOf (Keys c) = List Units
AnswerOf (ReadName frame name) = Val
AnswerOf (WriteName frame name v) = Unit {0}
AnswerOf (Declare frame name v) = Unit {0}
AnswerOf (Print line) = Unit {0}
AnswerOf (Post text) = Units
AnswerOf (Reply token) = Units
AnswerOf (Draw bound) = ℤ
AnswerOf (Join wanted) = Val
AnswerOf MayFork = Unit {0}
AnswerOf Crash = Unit {0}
AnswerOf (Refuse why) = Unit {0}

-- ---- programs

pub data Prog : Type 0 where
  Done : (o : Outcome) → Prog
  Ask : (p : Prim) → (go : AnswerOf p → Prog) → Prog
  -- the first, and with its value the rest, unless it ends otherwise
  Then : (first : Prog) → (go : Val → Prog) → Prog
  -- the first, and the rest however it ends
  Always : (first : Prog) → (go : Outcome → Prog) → Prog
  -- the body runs in a scope of its own
  Once : (body : Prog) → Prog
  Fork : (body : Prog) → Prog
  -- the turn again while it ends normally
  Loop : (turn : Prog) → Prog

-- ---- words to write rows with: a step is given what comes after it; `x ← step` stands for step (λ x. the rest)

infixr 20 ◌>>=◌
abbrev pub ◌>>=◌ : {A : Type 0} → ((A → Prog) → Prog) → (A → Prog) → Prog
step >>= go = step go

abbrev pub ask : (p : Prim) → (AnswerOf p → Prog) → Prog
ask p go = Ask p go

abbrev pub value : Val → Prog
value v = Done (Normal v)

-- a statement's end
abbrev pub nothing : Prog
nothing = value Undefined

abbrev pub refuse : Refusal → Prog
refuse why = Ask (Refuse why) (λ _. nothing)

-- what is computed of values alone: a value or a refusal
abbrev pub given : {A : Type 0} → Result A Refusal → (A → Prog) → Prog
given (Ok a) go = go a
given (Err why) go = refuse why

-- the longest text (own rule: 1,048,576 units)
abbrev pub text_limit : ℕ
text_limit = 2 ^ 20

-- a text is made: too long is tested before its length is paid
abbrev pub made : Units → (Units → Prog) → Prog
made t go = if nat_lt text_limit (length t) then refuse TooLong else Ask (Pay (length t)) (λ _. go t)
