-- The state of a run that can be taken back, the verdict rule, and what one step does to the state.
use Rattle.std.specs.Prelude.{ℕ, List, Bool, true, false, Option, Some, None, nat_lt, length, pos}
use Rattle.std.proofs.Common.{suc, [], ◌∷◌, ◌++◌}
use Rattle.turk_base.specs.Names.{Path, root, sub, Units, Name, cell, name_eq, Part, Slot, slot, slot_eq, home, holder, part_of, pick, under}
use Rattle.turk_base.specs.Values.{Val, Number, Kind, Frame, Plain, Array, Function, BuiltIn, Known, property, Refusal, TooLong, ForkInOnce, Wait, crashed}
use Rattle.turk_base.specs.Cells.{Props, Edit, SaysOf, says, new_props, touches, writes, edit_cost, length_key, Seen, seen}

-- A slot that a branch wrote outside itself.
pub data Opening : Type 0 where
  opening : (what : Slot) → (by : Path) → Opening

pub data Verdict : Type 0 where
  independent : Verdict
  touched_open : (what : Slot) → Verdict
  once_while_open : (what : Slot) → Verdict
  branch_threw : (where_from : Path) → Verdict

-- `calls`, `cells` and `vals` are those of the scope that runs: the calls that took an index, the cells made, the values
-- of branches. Those of the outer scopes stand where the scope was entered. `gone` has the paths of the absent branches.
pub record St : Type 0 where
  pub calls : ℕ
  pub cells : ℕ
  pub vals : List Val
  pub known : Name → Option Known
  pub props : Name → Props
  pub text : Units
  pub opened : List Opening
  pub verdict : Verdict
  pub gone : List Path

-- what a slot holds
abbrev pub sees : St → Slot → Seen
sees σ x = seen (part_of x) (σ.props (holder x))

-- ---- the verdict rule

-- Some pair of this slot has a path that is no prefix of b.
abbrev pub touched : Path → Slot → List Opening → Bool
touched b x [] = false
touched b x (opening y p ∷ l) = pick (slot_eq y x) (pick (under p b) (touched b x l) true) (touched b x l)

-- The first slot that is open by a path that is no prefix of b.
abbrev pub first_open : Path → List Opening → Option Slot
first_open b [] = None
first_open b (opening y p ∷ l) = pick (under p b) (first_open b l) (Some y)

abbrev pub open_at : Slot → Path → List Opening → List Opening
open_at x b [] = opening x b ∷ []
open_at x b (opening y p ∷ l) = pick (slot_eq y x) (opening x b ∷ l) (opening y p ∷ open_at x b l)

-- a pair with the empty path is dropped
abbrev pub open_by : Slot → Path → List Opening → List Opening
open_by y root l = l
open_by y (sub i p) l = opening y (sub i p) ∷ l

-- Joining in s.
abbrev pub cut : Path → List Opening → List Opening
cut s [] = []
cut s (opening y p ∷ l) = pick (under s p) (open_by y s (cut s l)) (opening y p ∷ cut s l)

-- An absent branch stands in the scope s.
abbrev pub any_gone : Path → List Path → Bool
any_gone s [] = false
any_gone s (a ∷ l) = pick (under s a) true (any_gone s l)

-- The first reason stays.
abbrev pub first_reason : Verdict → Verdict → Verdict
first_reason independent new = new
first_reason (touched_open x) new = touched_open x
first_reason (once_while_open x) new = once_while_open x
first_reason (branch_threw p) new = branch_threw p

abbrev pub touch_reason : Slot → Bool → Verdict
touch_reason x true = touched_open x
touch_reason x false = independent

abbrev pub once_reason : Option Slot → Verdict
once_reason None = independent
once_reason (Some x) = once_while_open x

-- the slots of the cell c touched in order
abbrev pub touch_all : Path → Name → List Part → List Opening → Verdict → Verdict
touch_all b c [] l v = v
touch_all b c (y ∷ ys) l v = touch_all b c ys l (first_reason v (touch_reason (slot c y) (touched b (slot c y) l)))

-- the slots of the cell c written in order
abbrev pub write_all : Path → Name → List Part → List Opening → List Opening
write_all b c [] l = l
write_all b c (y ∷ ys) l = write_all b c ys (open_at (slot c y) b l)

abbrev pub once_call : Path → St → St
once_call b σ = record σ { verdict = first_reason σ.verdict (once_reason (first_open b σ.opened)) }

-- ---- changes of the state

abbrev pub with_props : Name → Props → (Name → Props) → Name → Props
with_props c p old m = pick (name_eq m c) p (old m)

abbrev pub edited : Path → Name → Edit → St → St
edited b c e σ = record σ {
  verdict = touch_all b c (touches e (σ.props c)) σ.opened σ.verdict;
  props = with_props c (new_props e (σ.props c)) σ.props;
  opened = pick (under b (home c)) σ.opened (write_all b c (writes e (σ.props c)) σ.opened);
}

abbrev pub first_props : Kind → Props
first_props (Frame p) = []
first_props (Plain p) = []
first_props Array = property length_key (Number (pos 0)) ∷ []
first_props (Function n f) = []
first_props (BuiltIn w) = []

abbrev pub make_cell : Path → Kind → List Name → St → St
make_cell s kind chain σ = record σ {
  cells = suc σ.cells;
  known = λ n. pick (name_eq n (cell s σ.cells)) (Some (record { kind = kind; chain = chain })) (σ.known n);
  props = with_props (cell s σ.cells) (first_props kind) σ.props;
}

abbrev pub print_line : Units → St → St
print_line line σ = record σ { text = σ.text ++ (line ++ (10 ∷ [])) }

abbrev pub join_scope : Path → St → St
join_scope s σ = record σ { vals = []; opened = cut s σ.opened }

abbrev pub next_call : St → St
next_call σ = record σ { calls = suc σ.calls }

-- Into a new scope.
abbrev pub enter : St → St
enter σ = record σ { calls = 0; cells = 0; vals = [] }

-- Back into the scope that was left in σ, with what the inner scope did in τ.
abbrev pub leave : St → St → St
leave σ τ = record τ { calls = σ.calls; cells = σ.cells; vals = σ.vals }

abbrev pub give_value : Val → St → St
give_value v σ = record σ { vals = σ.vals ++ (v ∷ []) }

abbrev pub cut_all : Path → St → St
cut_all p σ = record σ { opened = cut p σ.opened }

abbrev pub threw : Path → St → St
threw p σ = record σ { verdict = first_reason σ.verdict (branch_threw p) }

abbrev pub absent : Path → St → St
absent p σ = record σ { gone = p ∷ σ.gone }

-- ---- steps: all that a program can do to the state, but for asks and scopes

pub data Op : Type 0 where
  charge : (n : ℕ) → Op
  known_at : (c : Name) → Op  -- a cell's kind and chain; touches and costs nothing
  make : (paid : Bool) → (kind : Kind) → Op
  change : (paid : Bool) → (c : Name) → (e : Edit) → Op
  print : (line : Units) → Op
  join : (wanted : Bool) → Op  -- the values of the scope's branches
  forks_here : Op  -- refused in a once body
  crash : Op

abbrev pub AnswerTo : Op → Type 0
AnswerTo (charge n) = Unit {0}
AnswerTo (known_at c) = Known
AnswerTo (make paid kind) = Name
AnswerTo (change paid c e) = SaysOf e
AnswerTo (print line) = Unit {0}
AnswerTo (join wanted) = List Val
AnswerTo forks_here = Unit {0}
AnswerTo crash = Unit {0}

-- What a step does: it answers and goes on, is refused, waits, or names a cell that is not there.
pub data Act (A : Type 0) : Type 0 where
  gives : (a : A) → (σ : St) → Act A
  refused : (why : Refusal) → Act A
  waiting : (x : List Wait) → Act A
  stuck : Act A

abbrev pub if_paid : Bool → ℕ → ℕ
if_paid true n = n
if_paid false n = 0

-- what a step costs; it is paid first
abbrev pub op_cost : Op → St → ℕ
op_cost (charge n) σ = n
op_cost (known_at c) σ = 0
op_cost (make paid kind) σ = if_paid paid 1
op_cost (change paid c e) σ = if_paid paid (edit_cost e (σ.props c))
op_cost (print line) σ = suc (length line)
op_cost (join wanted) σ = 0
op_cost forks_here σ = 0
op_cost crash σ = 0

abbrev pub act_known : Option Known → St → Act Known
act_known (Some k) σ = gives k σ
act_known None σ = stuck

-- the chain of a new cell whose prototype is p, of which k is known
abbrev pub act_chained : Option Known → Name → Path → Kind → St → Act Name
act_chained (Some k) p s kind σ = gives (cell s σ.cells) (make_cell s kind (p ∷ k.chain) σ)
act_chained None p s kind σ = stuck

abbrev pub act_make : Path → Kind → St → Act Name
act_make s (Frame p) σ = gives (cell s σ.cells) (make_cell s (Frame p) [] σ)
act_make s (Plain None) σ = gives (cell s σ.cells) (make_cell s (Plain None) [] σ)
act_make s (Plain (Some p)) σ = act_chained (σ.known p) p s (Plain (Some p)) σ
act_make s Array σ = gives (cell s σ.cells) (make_cell s Array [] σ)
act_make s (Function n f) σ = gives (cell s σ.cells) (make_cell s (Function n f) [] σ)
act_make s (BuiltIn w) σ = gives (cell s σ.cells) (make_cell s (BuiltIn w) [] σ)

abbrev pub act_change : Option Known → Path → Name → (e : Edit) → St → Act (SaysOf e)
act_change (Some k) b c e σ = gives (says e (σ.props c)) (edited b c e σ)
act_change None b c e σ = stuck

-- more values than an array can hold
abbrev pub too_many : Bool → List Val → Bool
too_many true l = nat_lt 1000000 (length l)
too_many false l = false

abbrev pub act_join : Bool → Bool → Bool → Path → St → Act (List Val)
act_join true g t s σ = refused ForkInOnce
act_join false true t s σ = waiting []
act_join false false true s σ = refused TooLong
act_join false false false s σ = gives σ.vals (join_scope s σ)

abbrev pub act_forks : Bool → St → Act (Unit {0})
act_forks true σ = refused ForkInOnce
act_forks false σ = gives tt σ

-- s is the scope, b its branch; `body` says that it is in a once body.
unfoldable pub act : (o : Op) → Path → Path → Bool → St → Act (AnswerTo o)
act (charge n) s b body σ = gives tt σ
act (known_at c) s b body σ = act_known (σ.known c) σ
act (make paid kind) s b body σ = act_make s kind σ
act (change paid c e) s b body σ = act_change (σ.known c) b c e σ
act (print line) s b body σ = gives tt (print_line line σ)
act (join wanted) s b body σ = act_join body (any_gone s σ.gone) (too_many wanted σ.vals) s σ
act forks_here s b body σ = act_forks body σ
act crash s b body σ = waiting (crashed s ∷ [])
