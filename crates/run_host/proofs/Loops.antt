-- Loops, by what the functions of an evaluator did in each turn.
use Rattle.std.specs.Prelude.{List}
use Rattle.std.proofs.Common.{◌≡◌, ◌<◌, ◌≤◌, ℕ, zero, suc, ap, subst, ◌∙◌, arith, ◌++◌, append_assoc}
use Rattle.turk_base.specs.Asks.{Rec}
use Rattle.turk_base.specs.State.{St}
use Rattle.turk_base.specs.Values.{Val, Outcome, Normal}
use Rattle.turk_base.specs.Prog.{Prog, Loop}
use Rattle.js_tree.specs.Run.{Out, Res, res, add, run, turns}
use Rattle.js_tree.specs.World.{words, World, Rest}
use Rattle.run_laws.proofs.Sequel.{Place, run_at, Ends, EndsIn, loop, turn_on, turn_out}
use Rattle.run_laws.proofs.Cuts.{Next, CutsIn, loop_cut, turn_cut, turn_then_cut}
use Rattle.ask_model.specs.declared.AskStop.{AskStop}
use Rattle.value_cells.specs.Seen.{Naming, Fits}
use Rattle.run_host.specs.declared.Halt.{Halt}
use Rattle.run_host.specs.Moment.{Chain, Moment, rest_of, draws_in, AllDealt, Moves, Suits, Clear, place, Same, Within}
use Rattle.run_host.specs.Told.{Told, Says, Halts, Fails, GoesOn, next_of, IsShown, IsOut}
use Rattle.run_host.specs.Ends.{Like, Comes, says, halts, fails}
use Rattle.run_host.specs.Did.{Runs}
use Rattle.run_host.proofs.Comes.{ends_of, add_add, NoValue}
use Rattle.run_host.proofs.Moments.{shown_on, nowhere, moves_twice, dealt_twice, fits_before, same_trans, within_trans, suits_before, place_after, clear_after}

pub record StopsIn (c : Place) (n : ℕ) (g : Prog) (σ : St) (w : Rest) (r : Res) : Type 0 where
  pub holds : (k : Outcome → St → Rest → Res) → turns n (λ k' υ y. run_at c g k' υ y) k σ w ≡ r

pub record HaltedIn (c : Place) (n : ℕ) (g : Prog) (σ : St) (w : Rest) (l : List Rec) (h : Halt) (τ : St) (w' : Rest) : Type 0 where
  pub out : Out
  pub is : IsOut h out
  pub at : St
  pub left : ℕ
  pub like : Like at τ
  pub fuel : GoesOn (Halts h) → left ≡ w'.left
  pub stops : StopsIn c n g σ w (add l (res out at (record w' { left = left })))

-- what n turns at most come to
pub data ComesIn (c : Place) (n : ℕ) (g : Prog) (σ : St) (w : Rest) (l : List Rec) (next : AskStop → Next) : Told → St → Rest → Type 0 where
  says_in : {o : Outcome} {τ : St} {w' : Rest} → EndsIn c n g o σ w τ w' l → ComesIn c n g σ w l next (Says o) τ w'
  halts_in : {h : Halt} {τ : St} {w' : Rest} → HaltedIn c n g σ w l h τ w' → ComesIn c n g σ w l next (Halts h) τ w'
  fails_in : {why : AskStop} {τ : St} {w' : Rest} → CutsIn c n g σ w l (next why) → ComesIn c n g σ w l next (Fails why) τ w'

-- What a loop did from here on: the same as Runs, of the turns that are left.
pub record Turns {κ : Chain} (g : Naming → Prog) (told : Naming → Told) (old new : Moment κ) : Type 0 where
  pub same : Same old new
  pub within : (nu : Naming) → GoesOn (told nu) → Within old new
  pub added : List Rec
  pub made : new.made ≡ old.made ++ added
  pub dealt : AllDealt (words old.words) 0 added
  pub moved : (nu : Naming) → GoesOn (told nu) → Moves old new added
  pub shown : (nu : Naming) → IsShown (told nu) old.stopped new.stopped
  pub ran : (nu : Naming) → Fits nu new.heap.names → (E : World) → Suits E new → (bound n : ℕ) → n ≤ bound → old.heap.left < n → Clear nu old →
      ComesIn (place E bound old) n (g nu) (old.heap.first nu) (rest_of old) added (next_of E (draws_in new.made) new.unmade) (told nu) (new.heap.first nu) (rest_of new)

-- ---- one loop

comes_loop : {c : Place} {g : Prog} {σ τ : St} {w w' : Rest} {l : List Rec} {next : AskStop → Next} {t : Told} →
    ComesIn c c.bound g σ w l next t τ w' → Comes c (Loop g) σ w l next t τ w'
unfolding run
comes_loop (says_in e) = says (loop e)
comes_loop (halts_in h) = halts (record { out = h.out; is = h.is; at = h.at; left = h.left; like = h.like; fuel = h.fuel; stops = record { holds = λ k. h.stops.holds k } })
comes_loop (fails_in e) = fails (loop_cut e)

pub loop_runs : {κ : Chain} {g : Naming → Prog} {t : Naming → Told} {old new : Moment κ} → Turns g t old new → Runs (λ nu. Loop (g nu)) t old new
loop_runs x = record {
  same = x.same;
  within = x.within;
  added = x.added;
  made = x.made;
  dealt = x.dealt;
  moved = x.moved;
  shown = x.shown;
  ran = λ nu f E s b l c. comes_loop (x.ran nu f E s b b (omega arith) l c);
}

-- ---- one turn more

stop_turn : {c : Place} {n : ℕ} {g : Prog} {v : Val} {σ τ : St} {w x : Rest} {l : List Rec} {r : Res} → Ends c g (Normal v) σ w τ x l → StopsIn c n g τ x r → StopsIn c (suc n) g σ w (add l r)
unfolding turns
stop_turn {l = l} e s = record { holds = λ k. e.holds _ ∙ ap (add l) (s.holds k) }

comes_turn : {c : Place} {n : ℕ} {g : Prog} {v : Val} {σ τ υ : St} {w x y : Rest} {l m : List Rec} {next : AskStop → Next} {t : Told} →
    Ends c g (Normal v) σ w τ x l → ComesIn c n g τ x m next t υ y → ComesIn c (suc n) g σ w (l ++ m) next t υ y
comes_turn e (says_in k) = says_in (turn_on e k)
comes_turn {c} {n} {g} {σ = σ} {w = w} {y = y} {l = l} {m = m} e (halts_in k) = halts_in (record {
  out = k.out;
  is = k.is;
  at = k.at;
  left = k.left;
  like = k.like;
  fuel = k.fuel;
  stops = subst (λ r. StopsIn c (suc n) g σ w r) (add_add l m (res k.out k.at (record y { left = k.left }))) (stop_turn e k.stops);
})
comes_turn e (fails_in k) = fails_in (turn_then_cut e k)

pub turns_on : {κ : Chain} {g : Naming → Prog} {v : Naming → Val} {t : Naming → Told} {old mid new : Moment κ} →
    Runs g (λ nu. Says (Normal (v nu))) old mid → mid.heap.left < old.heap.left → Turns g t mid new → Turns g t old new
turns_on {κ} {g} {v} {t} {old} {mid} {new} x less y = record {
  same = same_trans x.same y.same;
  within = λ nu z. within_trans y.same (x.within nu tt) (y.within nu z);
  added = x.added ++ y.added;
  made = y.made ∙ ap (λ z. z ++ y.added) x.made ∙ append_assoc old.made x.added y.added;
  dealt = dealt_twice x.added y.added x.dealt (x.moved nowhere tt) y.dealt;
  moved = λ nu z. moves_twice x.added y.added (x.moved nu tt) (y.moved nu z);
  shown = λ nu. shown_on (t nu) old.stopped mid.stopped new.stopped (x.shown nu) (y.shown nu);
  ran = turn;
}
  where
    turn : (nu : Naming) → Fits nu new.heap.names → (E : World) → Suits E new → (bound n : ℕ) → n ≤ bound → old.heap.left < n → Clear nu old →
        ComesIn (place E bound old) n (g nu) (old.heap.first nu) (rest_of old) (x.added ++ y.added) (next_of E (draws_in new.made) new.unmade) (t nu) (new.heap.first nu) (rest_of new)
    turn nu f E s bound zero le l c = absurd (omega (arith, l))
    turn nu f E s bound (suc n) le l c =
        let first = ends_of (x.ran nu (fits_before y.same.grows f) E (suits_before y.same y.added y.made s) bound (omega (arith, le, l)) c) in
        let w = x.within nu tt in
        comes_turn first (subst (λ p. ComesIn p n (g nu) (mid.heap.first nu) (rest_of mid) y.added (next_of E (draws_in new.made) new.unmade) (t nu) (new.heap.first nu) (rest_of new))
        (place_after x.same w)
        (y.ran nu f E s bound n (omega (arith, le)) (omega (arith, less, l)) (clear_after w x.made first c)))

last_turn : {c : Place} {n : ℕ} {g : Prog} {σ υ : St} {w y : Rest} {l : List Rec} {next : AskStop → Next} {t : Told} → NoValue t →
    Comes c g σ w l next t υ y → ComesIn c (suc n) g σ w l next t υ y
unfolding turns
last_turn z (says k) = says_in (turn_out z k)
last_turn z (halts k) = halts_in (record { out = k.out; is = k.is; at = k.at; left = k.left; like = k.like; fuel = k.fuel; stops = record { holds = λ j. k.stops.holds _ } })
last_turn z (fails k) = fails_in (turn_cut k)

-- the turn that ends the loop
pub turns_out : {κ : Chain} {g : Naming → Prog} {t : Naming → Told} {old new : Moment κ} → ((nu : Naming) → NoValue (t nu)) → Runs g t old new → Turns g t old new
turns_out {κ} {g} {t} {old} {new} z x = record { same = x.same; within = x.within; added = x.added; made = x.made; dealt = x.dealt; moved = x.moved; shown = x.shown; ran = turn }
  where
    turn : (nu : Naming) → Fits nu new.heap.names → (E : World) → Suits E new → (bound n : ℕ) → n ≤ bound → old.heap.left < n → Clear nu old →
        ComesIn (place E bound old) n (g nu) (old.heap.first nu) (rest_of old) x.added (next_of E (draws_in new.made) new.unmade) (t nu) (new.heap.first nu) (rest_of new)
    turn nu f E s bound zero le l c = absurd (omega (arith, l))
    turn nu f E s bound (suc n) le l c = last_turn (z nu) (x.ran nu f E s bound (omega (arith, le, l)) c)

-- What a loop does from the one moment on, it does from the other on.
pub record Rounds {κ : Chain} (g : Naming → Prog) (old new : Moment κ) : Type 0 where
  pub goes : (told : Naming → Told) (last : Moment κ) → Turns g told new last → Turns g told old last

pub rounds_same : {κ : Chain} {g : Naming → Prog} {m : Moment κ} → Rounds g m m
rounds_same = record { goes = λ t last r. r }

pub rounds_on : {κ : Chain} {g : Naming → Prog} {v : Naming → Val} {old mid new : Moment κ} → Rounds g old mid → Runs g (λ nu. Says (Normal (v nu))) mid new → new.heap.left < mid.heap.left → Rounds g old new
rounds_on x y less = record { goes = λ t last r. x.goes t last (turns_on y less r) }
