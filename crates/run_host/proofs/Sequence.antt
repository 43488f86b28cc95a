-- Programs one after another, by what the functions of an evaluator did.
use Rattle.std.specs.Prelude.{List, Result, Ok, Err}
use Rattle.std.proofs.Common.{inl, ◌≡◌, ◌<◌, ℕ, refl, sym, ap, subst, ◌∙◌, arith, [], ◌++◌, append_assoc, append-nil}
use Rattle.turk_base.specs.Values.{Val, Outcome, Normal}
use Rattle.turk_base.specs.Prog.{Prog, Done, Then, Always, refuse}
use Rattle.turk_base.specs.Steps.{steps_of}
use Rattle.js_tree.specs.Run.{run, run_steps, ended, bar}
use Rattle.run_laws.proofs.Fronts.{front}
use Rattle.ask_model.specs.declared.AskStop.TheVariants as stop
use Rattle.run_host.specs.declared.Refusal.{Refusal}
use Rattle.run_host.specs.declared.Halt.TheVariants as halt
use Rattle.js_tree.specs.World.{World}
use Rattle.run_laws.proofs.Sequel.{Ends, done}
use Rattle.value_cells.specs.declared.Value.{Value}
use Rattle.value_cells.specs.Seen.{Naming, Fits, val_in}
use Rattle.run_host.specs.declared.Exit.{Exit}
use Rattle.run_host.specs.declared.Exit.TheVariants as exit
use Rattle.run_host.specs.Moment.{Chain, Moment, rest_of, draws_in, Suits, Clear, place}
use Rattle.run_host.specs.Told.{Told, Says, Halts, Fails, next_of, told_exit, told_value, refusal_in}
use Rattle.run_host.specs.Ends.{Comes, says, halts, fails}
use Rattle.run_host.specs.Did.{Runs}
use Rattle.run_host.specs.Steps.{Onward, Step, Leads, Leaves, Gives, Takes}
use Rattle.run_host.proofs.Comes.{ends_of, NoValue, NoOutcome, comes_then, comes_out, comes_always, comes_always_out}
use Rattle.run_host.proofs.Moments.{shown_on, nowhere, moves_none, moves_twice, dealt_twice, fits_before, same_refl, same_trans, within_refl, within_trans, suits_before, place_after, clear_after}

made_twice : {A : Type 0} {b c : List A} (a l m : List A) → b ≡ a ++ l → c ≡ b ++ m → c ≡ a ++ (l ++ m)
made_twice a l m e f = f ∙ ap (λ z. z ++ m) e ∙ append_assoc a l m

-- what comes after a part that ended, at the moment where it ended
later : {κ : Chain} {g h : Naming → Prog} {o : Naming → Outcome} {t : Naming → Told} {old mid new : Moment κ} (x : Runs g (λ nu. Says (o nu)) old mid) (y : Runs h t mid new) →
    (nu : Naming) → Fits nu new.heap.names → (E : World) → Suits E new → (bound : ℕ) → old.heap.left < bound → Clear nu old →
    Ends (place E bound old) (g nu) (o nu) (old.heap.first nu) (rest_of old) (mid.heap.first nu) (rest_of mid) x.added
    × Comes (place E bound old) (h nu) (mid.heap.first nu) (rest_of mid) y.added (next_of E (draws_in new.made) new.unmade) (t nu) (new.heap.first nu) (rest_of new)
later {κ} {g} {h} {o} {t} {old} {mid} {new} x y nu f E s bound l c =
    let first = ends_of (x.ran nu (fits_before y.same.grows f) E (suits_before y.same y.added y.made s) bound l c) in
    let w = x.within nu tt in (
      first,
      subst (λ p. Comes p (h nu) (mid.heap.first nu) (rest_of mid) y.added (next_of E (draws_in new.made) new.unmade) (t nu) (new.heap.first nu) (rest_of new))
          (place_after x.same w)
          (y.ran nu f E s bound (let z = w.falls in omega (arith, z, l)) (clear_after w x.made first c)),
    )

pub ends_with : {κ : Chain} {o : Naming → Outcome} {m : Moment κ} → Runs (λ nu. Done (o nu)) (λ nu. Says (o nu)) m m
ends_with {κ} {o} {m} = record {
  same = same_refl;
  within = λ nu z. within_refl;
  added = [];
  made = sym (append-nil m.made);
  dealt = tt;
  moved = λ nu z. moves_none;
  shown = λ nu. refl;
  ran = λ nu f E s b l c. says done;
}

pub refused : {κ : Chain} {m : Moment κ} (y : Refusal) → Runs (λ nu. refuse (refusal_in y)) (λ nu. Halts (halt.Refused y)) m m
unfolding run run_steps steps_of
refused {κ} {m} y = record {
  same = same_refl;
  within = λ nu z. within_refl;
  added = [];
  made = sym (append-nil m.made);
  dealt = tt;
  moved = λ nu z. moves_none;
  shown = λ nu. refl;
  ran = λ nu f E s b l c. halts (record { out = ended (bar (refusal_in y)); is = refl; at = m.heap.first nu; left = m.heap.left; like = record { text = refl; verdict = refl; gone = refl }; fuel = λ z. refl; stops = record { holds = λ k. refl } });
}

-- memory ran out, whatever the program
pub no_memory : {κ : Chain} {g : Naming → Prog} {m : Moment κ} → Runs g (λ nu. Fails stop.Memory) m m
no_memory {κ} {g} {m} = record {
  same = same_refl;
  within = λ nu z. absurd z;
  added = [];
  made = sym (append-nil m.made);
  dealt = tt;
  moved = λ nu z. moves_none;
  shown = λ nu. inl refl;
  ran = λ nu f E s b l c. fails (record { holds = λ k. front _ refl });
}

pub then_on : {κ : Chain} {g : Naming → Prog} (go : Naming → Val → Prog) {v : Naming → Val} {t : Naming → Told} {old mid new : Moment κ} →
    Runs g (λ nu. Says (Normal (v nu))) old mid → Runs (λ nu. go nu (v nu)) t mid new → Runs (λ nu. Then (g nu) (go nu)) t old new
then_on {κ} {g} go {v} {t} {old} {mid} {new} x y = record {
  same = same_trans x.same y.same;
  within = λ nu z. within_trans y.same (x.within nu tt) (y.within nu z);
  added = x.added ++ y.added;
  made = made_twice old.made x.added y.added x.made y.made;
  dealt = dealt_twice x.added y.added x.dealt (x.moved nowhere tt) y.dealt;
  moved = λ nu z. moves_twice x.added y.added (x.moved nu tt) (y.moved nu z);
  shown = λ nu. shown_on (t nu) old.stopped mid.stopped new.stopped (x.shown nu) (y.shown nu);
  ran = λ nu f E s b l c. let p = later x y nu f E s b l c in comes_then p.0 p.1;
}

pub then_out : {κ : Chain} {g : Naming → Prog} (go : Naming → Val → Prog) {t : Naming → Told} {old new : Moment κ} → ((nu : Naming) → NoValue (t nu)) →
    Runs g t old new → Runs (λ nu. Then (g nu) (go nu)) t old new
then_out {κ} {g} go {t} {old} {new} n x = record {
  same = x.same;
  within = x.within;
  added = x.added;
  made = x.made;
  dealt = x.dealt;
  moved = x.moved;
  shown = x.shown;
  ran = λ nu f E s b l c. comes_out (n nu) (x.ran nu f E s b l c);
}

pub always_on : {κ : Chain} {g : Naming → Prog} (go : Naming → Outcome → Prog) {o : Naming → Outcome} {t : Naming → Told} {old mid new : Moment κ} →
    Runs g (λ nu. Says (o nu)) old mid → Runs (λ nu. go nu (o nu)) t mid new → Runs (λ nu. Always (g nu) (go nu)) t old new
always_on {κ} {g} go {o} {t} {old} {mid} {new} x y = record {
  same = same_trans x.same y.same;
  within = λ nu z. within_trans y.same (x.within nu tt) (y.within nu z);
  added = x.added ++ y.added;
  made = made_twice old.made x.added y.added x.made y.made;
  dealt = dealt_twice x.added y.added x.dealt (x.moved nowhere tt) y.dealt;
  moved = λ nu z. moves_twice x.added y.added (x.moved nu tt) (y.moved nu z);
  shown = λ nu. shown_on (t nu) old.stopped mid.stopped new.stopped (x.shown nu) (y.shown nu);
  ran = λ nu f E s b l c. let p = later x y nu f E s b l c in comes_always p.0 p.1;
}

pub always_out : {κ : Chain} {g : Naming → Prog} (go : Naming → Outcome → Prog) {t : Naming → Told} {old new : Moment κ} → ((nu : Naming) → NoOutcome (t nu)) →
    Runs g t old new → Runs (λ nu. Always (g nu) (go nu)) t old new
always_out {κ} {g} go {t} {old} {new} n x = record {
  same = x.same;
  within = x.within;
  added = x.added;
  made = x.made;
  dealt = x.dealt;
  moved = x.moved;
  shown = x.shown;
  ran = λ nu f E s b l c. comes_always_out (n nu) (x.ran nu f E s b l c);
}

pub exit_no_value : (nu : Naming) (x : Exit) → NoValue (told_exit nu x)
exit_no_value nu (exit.Throw v) = tt
exit_no_value nu (exit.Halted h) = tt
exit_no_value nu (exit.Stopped why) = tt

-- ---- steps

pub onward_same : {κ : Chain} {f : Naming → Prog} {m : Moment κ} → Onward f f m m
onward_same = record { goes = λ t last r. r }

pub onward_then : {κ : Chain} {f g h : Naming → Prog} {a b c : Moment κ} → Onward f g a b → Onward g h b c → Onward f h a c
onward_then x y = record { goes = λ t last r. x.goes t last (y.goes t last r) }

-- a node that was evaluated is a step
pub evaluated : {κ : Chain} {g : Naming → Prog} {old new : Moment κ} (r : Result Value Exit) → Runs g (λ nu. told_value nu r) old new → Takes (λ nu. Then (g nu)) val_in r old new
evaluated (Ok v) x = record { goes = λ go. record { goes = λ t last y. then_on (go) x y } }
evaluated (Err e) x = record { ends = λ go. then_out go (λ nu. exit_no_value nu e) x }

-- a step that goes on with another
pub gives_on : {κ : Chain} {A B : Type 0} {f : Naming → Step A} {a : Naming → A} {s t : Moment κ} → Gives f a s t → (k : Naming → A → Step B) →
    Leads (λ nu go. f nu (λ a. k nu a go)) (λ nu. k nu (a nu)) s t
gives_on x k = record { goes = λ go. x.goes (λ nu a. k nu a (go nu)) }

pub leaves_on : {κ : Chain} {A B : Type 0} {f : Naming → Step A} {e : Exit} {s t : Moment κ} → Leaves f e s t → (k : Naming → A → Step B) →
    Leaves (λ nu go. f nu (λ a. k nu a go)) e s t
leaves_on x k = record { ends = λ go. x.ends (λ nu a. k nu a (go nu)) }

pub leads_same : {κ : Chain} {A : Type 0} {f : Naming → Step A} {s : Moment κ} → Leads f f s s
leads_same = record { goes = λ go. onward_same }

pub leads_then : {κ : Chain} {A : Type 0} {f g h : Naming → Step A} {s t u : Moment κ} → Leads f g s t → Leads g h t u → Leads f h s u
leads_then x y = record { goes = λ go. onward_then (x.goes go) (y.goes go) }

pub leads_out : {κ : Chain} {A : Type 0} {f g : Naming → Step A} {s t u : Moment κ} {e : Exit} → Leads f g s t → Leaves g e t u → Leaves f e s u
leads_out {κ} {A} {f} {g} {s} {t} {u} {e} x y = record { ends = λ go. (x.goes go).goes (λ nu. told_exit nu e) u (y.ends go) }

-- a program that a step leads to
pub onward_out : {κ : Chain} {f g : Naming → Prog} {s t u : Moment κ} (e : Exit) → Onward f g s t → Runs g (λ nu. told_exit nu e) t u → Runs f (λ nu. told_exit nu e) s u
onward_out {u = u} e x y = x.goes (λ nu. told_exit nu e) u y
