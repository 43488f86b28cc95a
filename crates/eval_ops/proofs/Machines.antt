-- A machine after one of its parts changed.
use Rattle.std.proofs.Common.{◌≡◌, true, false, refl, ap, sym, ◌∙◌, subst, ℕ, ◌<◌, ◌≤◌, length, take, Some, slice_get, arith}
use Rattle.std.specs.Prelude.{Result, Ok, Err, IsOk, is_ok, if◌then◌else◌}
use Rattle.std.specs.Result.{IsErrAnd}
use Rattle.std.proofs.lemmas.Option.{slice_get_within}
use Rattle.turk_base.specs.Names.{path_in}
use Rattle.turk_base.specs.State.{St, charge}
use Rattle.turk_base.specs.Prog.{Prim, AnswerOf, Pay, KindOf}
use Rattle.turk_base.specs.Steps.{Small, give, step, steps_of}
use Rattle.value_cells.specs.declared.CellKind.{CellKind}
use Rattle.value_cells.specs.Held.{IsWhole, kinds_of}
use Rattle.run_heap.proofs.Chains.{works_known}
use Rattle.run_heap.proofs.Turn.{works_give}
use Rattle.value_cells.specs.Seen.{Naming, Seen, Fits, kind_in}
use Rattle.value_cells.specs.declared.OpStop.{OpStop}
use Rattle.value_cells.specs.Does.{Told, Says, Fails, told, told_stop, Stays, Does}
use Rattle.value_cells.proofs.Turns.{grows_length}
use Rattle.run_heap.specs.Core as core
use Rattle.run_heap.specs.Core.{Core, names_in, Rests}
use Rattle.run_heap.specs.Placed.{Around, seen_in}
use Rattle.run_heap.specs.Works.{Performs, Works}
use Rattle.run_heap.proofs.Tables.{count_names}
use Rattle.eval_ops.specs.declared.Outer.{Outer}
use Rattle.eval_ops.specs.Run.{Run, stands, back_of, scopes, around, seen_of}
use Rattle.eval_ops.specs.Stored.{IsRun, HasRoom}
use Rattle.eval_ops.specs.Calls.{Changes}
use Rattle.eval_ops.proofs.Marks.{Fronts, SameAt, Alike, back_same, scopes_same}

-- the scopes around, and whether the scope that runs is in a once body, are the same
pub record SameAround (m m' : Run) : Type 0 where
  pub body : m'.body ≡ m.body
  pub many : length m'.outer ≡ length m.outer
  pub alike : Alike (length m.outer) m m'

-- and so are the calls, values, output and absent branches
pub record SameBase (m m' : Run) : Type 0 where
  pub calls : m'.heap.place.calls ≡ m.heap.place.calls
  pub values : m'.values ≡ m.values
  pub text : m'.text ≡ m.text
  pub gone : m'.gone ≡ m.gone
  pub scopes : SameAround m m'

module _ (m m' : Run) (s : SameAround m m') where
  pub back_is : back_of m' (length m'.outer) ≡ back_of m (length m.outer)
  back_is = ap (λ n. back_of m' n) s.many ∙ back_same (length m.outer) m m' s.alike (length m.outer) (omega arith)

  pub scopes_are : scopes m' (length m'.outer) ≡ scopes m (length m.outer)
  scopes_are = ap (λ n. scopes m' n) s.many ∙ scopes_same (length m.outer) m m' s.alike (length m.outer) (omega arith)

pub around_same : (m m' : Run) → SameBase m m' → around m' ≡ around m
around_same m m' s =
    let b = back_is m m' s.scopes in
    let o = scopes_are m m' s.scopes in
    λ i. record { base = stands (s.calls i) (s.values i) (s.text i) (s.gone i); body = s.scopes.body i; back = b i; outer = o i }

-- ---- a heap that did something

abbrev pub with_heap : Run → Core → Run
with_heap m h = record m { heap = h }

pub fronts_same : (m m' : Run) (o : Outer) → m'.text ≡ m.text → m'.gone ≡ m.gone → Fronts m m' o
fronts_same m m' o t g = record { printed = ap (take o.printed) t; absent = ap (take o.absent) g }

pub rests_at : (m m' : Run) (i : ℕ) → Rests m.heap m'.heap → m'.outer ≡ m.outer → ((o : Outer) → slice_get m.outer i ≡ Some o → Fronts m m' o) → SameAt m m' i
rests_at m m' i r o f = record {
  cells = ap (λ l. slice_get l i) r.cells;
  slots = ap (λ l. slice_get l i) r.slots.marks;
  place = ap (λ l. slice_get l i) r.outer;
  outer = ap (λ l. slice_get l i) o;
  meaning = λ nu k e. r.slots.meaning nu i k e;
  fronts = f;
}

pub rests_base : (m : Run) (h : Core) → Rests m.heap h → SameBase m (with_heap m h)
rests_base m h r = record {
  calls = r.calls;
  values = refl;
  text = refl;
  gone = refl;
  scopes = record {
    body = refl;
    many = refl;
    alike = record { same = λ i l. rests_at m (with_heap m h) i r refl (λ o e. fronts_same m (with_heap m h) o refl refl) };
  };
}

module _ (m : Run) (h : Core) (r : Rests m.heap h) where
  pub heap_did : {A : Type 0} (g : Naming → Small A) (said : Naming → Told A) → Works g said m.heap h → Performs g said (seen_of m) (seen_of (with_heap m h))
  heap_did g said w = subst (λ (x : Around). Performs g said (seen_of m) (seen_in x h)) (sym (around_same m (with_heap m h) (rests_base m h r))) (w.all (around m))

  pub pay_does : (n : ℕ) (said : Naming → Told (Unit {0})) → Works (λ nu. step (charge n) give) said m.heap h → Does (λ nu. Pay n) said (seen_of m) (seen_of (with_heap m h))
  unfolding steps_of
  pay_does n said w = let l = heap_did (λ nu. step (charge n) give) said w in record { stays = l.stays; did = l.did }

-- no call takes a cell away
pub more_seen : {A : Type 0} (g : Naming → Small A) (said : Naming → Told A) (r : Around) (old new : Core) → Works g said old new → length (names_in old.cells.now) ≤ length (names_in new.cells.now)
more_seen g said r old new w = grows_length (names_in old.cells.now) (names_in new.cells.now) (w.all r).stays.grows

pub more : {A : Type 0} (g : Naming → Small A) (said : Naming → Told A) (r : Around) (old new : Core) → Works g said old new → core.count old ≤ core.count new
more g said r old new w =
    let l = grows_length (names_in old.cells.now) (names_in new.cells.now) (w.all r).stays.grows in
    omega (arith, l, count_names old.cells.now, count_names new.cells.now)

pub run_kept : (m : Run) (h : Core) → IsRun m → Rests m.heap h → core.count m.heap ≤ core.count h → IsRun (with_heap m h)
run_kept m h k r l = record {
  values = omega (arith, l, k.values);
  kept_values = λ i o cells e f. k.kept_values i o cells e (ap (λ l. slice_get l i) (sym r.cells) ∙ f);
  as_many = k.as_many ∙ ap length (sym r.outer);
  printed = k.printed;
  absent = k.absent;
  ordered = k.ordered;
}

-- the cells and the scopes around are the same
pub run_same : (m : Run) (h : Core) → IsRun m → h.cells ≡ m.heap.cells → h.outer ≡ m.heap.outer → IsRun (with_heap m h)
run_same m h k c o = record {
  values = (let l : length h.cells.now ≡ length m.heap.cells.now = λ i. length (c i).now in omega (arith, k.values, l));
  kept_values = λ i q cells e f. k.kept_values i q cells e ((λ x. slice_get (sym c x).marks i) ∙ f);
  as_many = k.as_many ∙ ap length (sym o);
  printed = k.printed;
  absent = k.absent;
  ordered = k.ordered;
}

pub room_kept : (m : Run) (h : Core) (n : ℕ) → HasRoom m n → HasRoom (with_heap m h) n
room_kept m h n k = record { kept = k.kept; now = k.now }

-- ---- the first part of the state changes

module _ (m m' : Run) (s : SameAround m m') (path : m'.heap.place.path ≡ m.heap.place.path) (branch : m'.heap.place.branch ≡ m.heap.place.branch) where
  pub scope_is : (seen_of m').scope ≡ (seen_of m).scope
  scope_is = λ i. record { path = path_in (path i); branch = path_in (branch i); body = s.body i; back = back_is m m' s i }

  pub changes : (f : Naming → St → St) → names_in m'.heap.cells.now ≡ names_in m.heap.cells.now → m'.heap.left ≡ m.heap.left
      → ((nu : Naming) → Fits nu (names_in m'.heap.cells.now) → (seen_of m').first nu ≡ f nu ((seen_of m).first nu)) → Changes f (seen_of m) (seen_of m')
  changes f names left first = record { names = names; scope = scope_is; outer = scopes_are m m' s; left = left; first = first }

  pub stays_of : names_in m'.heap.cells.now ≡ names_in m.heap.cells.now → Stays (seen_of m) (seen_of m')
  stays_of names = record {
    scope = scope_is;
    outer = scopes_are m m' s;
    grows = λ i n e. ap (λ l. slice_get l i) names ∙ e;
    below = λ i n e l. absurd (let w = slice_get_within (names_in m'.heap.cells.now) i n e in omega (arith, w, l, ap length names));
  }

-- after want of memory nothing is known but what stays
pub does_fail : (p : Naming → Prim) (s t : Seen) → Stays s t → Does p (λ nu. Fails) s t
does_fail p s t h = record { stays = h; did = λ nu f. tt }

-- nothing that is seen changed, and the room is no less
pub same_machine : (m m' : Run) (n n' : ℕ) → m' ≡ m → n ≤ n' → IsRun m → HasRoom m n → IsRun m' × HasRoom m' n'
same_machine m m' n n' e l k r = (
  subst IsRun (sym e) k,
  subst (λ (m : Run). HasRoom m n') (sym e) (record {
    kept = λ i o f. let h = r.kept i o f in omega (arith, h, l);
    now = λ p f. let h = r.now p f in omega (arith, h, l);
  }),
)

-- a request that ended the run, at an exit
pub does_exit : {B : Type 0} (p : Naming → Prim) (f : (nu : Naming) → B → AnswerOf (p nu)) (r : Result B OpStop) (x : OpStop) (s t : Seen) → IsErrAnd r (λ e. e ≡ x) → Does p (λ nu. told_stop x) s t → Does p (λ nu. told (f nu) r) s t
does_exit p f (Ok b) x s t h y = absurd h
does_exit p f (Err e) x s t h y = subst (λ e. Does p (λ nu. told_stop e) s t) (sym h) y

-- a push that succeeds
pub pushed_all : {A E B : Type 0} (r : Result A E) (x a b : B) → IsOk r → x ≡ (if is_ok r then a else b) → x ≡ a
pushed_all (Ok v) x a b h e = e
pushed_all (Err v) x a b h e = let q : false ≡ true = h in let z : ⊥ = cc in absurd z

pub kind_does : (m : Run) → IsWhole m.heap.cells.now → (i : ℕ) → i < length (names_in m.heap.cells.now) → (kind : CellKind) → slice_get (kinds_of m.heap.cells.now) i ≡ Some kind
    → Does (λ nu. KindOf (nu i)) (λ nu. Says (kind_in nu kind)) (seen_of m) (seen_of m)
unfolding steps_of
kind_does m whole i here kind e =
    let w = works_known m.heap whole i (omega (arith, here, count_names m.heap.cells.now)) kind e (λ nu k. give k.kind) (λ nu. Says (kind_in nu kind)) m.heap (works_give (λ nu. kind_in nu kind) m.heap) in
    let l = w.all (around m) in
    record { stays = l.stays; did = l.did }
