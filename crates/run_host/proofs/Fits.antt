-- What is known of the cells' names under a naming that fits, and steps whose programs are equal under such a naming.
use Rattle.std.specs.Prelude.{Some, Result, Ok, Err}
use Rattle.std.proofs.Common.{◌≡◌, ◌<◌, ◌∙◌, ℕ, sym, ap, subst}
use Rattle.std.proofs.lemmas.Option.{slice_get_within}
use Rattle.turk_base.specs.Errors.{built_in}
use Rattle.turk_base.specs.Prog.{Prog, refuse, value}
use Rattle.turk_base.specs.Values.{Val}
use Rattle.value_cells.specs.declared.Value.{Value}
use Rattle.value_cells.specs.Seen.{Naming, Fits, val_in}
use Rattle.run_host.specs.declared.Exit.{Exit}
use Rattle.run_host.specs.declared.Exit.TheVariants as exit
use Rattle.run_host.specs.declared.Halt.TheVariants as halt
use Rattle.run_host.specs.declared.Refusal.{Refusal}
use Rattle.ask_model.specs.declared.AskStop.TheVariants as stop
use Rattle.run_host.specs.Moment.{Chain, Moment, cells, rest_of, draws_in, place, HasBuiltIns, AreApart}
use Rattle.run_host.specs.Told.{Told, next_of, told_exit, told_value, refusal_in}
use Rattle.run_host.specs.Ends.{Comes}
use Rattle.run_host.specs.Did.{Runs}
use Rattle.run_host.specs.Steps.{Onward, Step, Leads, Leaves, Gives, Takes}
use Rattle.run_host.proofs.Moments.{fits_before, there}
use Rattle.run_host.proofs.Sequence.{leads_then, leads_out, gives_on, no_memory, refused, ends_with}

-- a program is another's equal, under each naming that fits
pub onward_fits : {κ : Chain} {f g : Naming → Prog} {m : Moment κ} → ((nu : Naming) → Fits nu m.heap.names → f nu ≡ g nu) → Onward f g m m
onward_fits {κ} {f} {g} {m} e = record {
  goes = λ t last r. record {
    same = r.same;
    within = r.within;
    added = r.added;
    made = r.made;
    dealt = r.dealt;
    moved = r.moved;
    shown = r.shown;
    ran = λ nu h E s b l c. subst (λ p. Comes (place E b m) p (m.heap.first nu) (rest_of m) r.added (next_of E (draws_in last.made) last.unmade) (t nu) (last.heap.first nu) (rest_of last))
        (sym (e nu (fits_before r.same.grows h))) (r.ran nu h E s b l c);
  };
}

pub leads_fits : {κ : Chain} {A : Type 0} {f g : Naming → Step A} {m : Moment κ} → ((nu : Naming) → Fits nu m.heap.names → (go : A → Prog) → f nu go ≡ g nu go) → Leads f g m m
leads_fits e = record { goes = λ go. onward_fits (λ nu h. e nu h (go nu)) }

pub leads_eq : {κ : Chain} {A : Type 0} {f g : Naming → Step A} {m : Moment κ} → ((nu : Naming) (go : A → Prog) → f nu go ≡ g nu go) → Leads f g m m
leads_eq e = leads_fits (λ nu h go. e nu go)

-- ---- the built-in cells

pub built_in_at : {κ : Chain} {m : Moment κ} (i : ℕ) → HasBuiltIns m → i < 7 → (nu : Naming) → Fits nu m.heap.names → nu i ≡ built_in i
built_in_at i h l nu f = f.agrees i (built_in i) (h.named i l)

pub built_in_there : {κ : Chain} {m : Moment κ} (i : ℕ) → HasBuiltIns m → i < 7 → i < cells m
built_in_there {κ} {m} i h l = slice_get_within m.heap.names i (built_in i) (h.named i l)

-- ---- cells with one name

pub one_name : {κ : Chain} {m : Moment κ} (i j : ℕ) → AreApart m → i < cells m → j < cells m → (nu : Naming) → Fits nu m.heap.names → nu i ≡ nu j → i ≡ j
one_name {κ} {m} i j a k l nu f e =
    let x = there m.heap.names i k in
    let y = there m.heap.names j l in
    let same : x.0 ≡ y.0 = sym (f.agrees i x.0 x.1) ∙ e ∙ f.agrees j y.0 y.1 in
    a.named i j x.0 x.1 (y.1 ∙ ap Some (sym same))

-- ---- steps after each other

pub takes_as : {κ : Chain} {A B : Type 0} {f g : Naming → Step A} {s t : Moment κ} (u : Moment κ) (h : Naming → B → A) (r : Result B Exit) → Leads f g s t → Takes g h r t u → Takes f h r s u
takes_as u h (Ok b) x y = leads_then x y
takes_as u h (Err e) x y = leads_out x y

-- a step that answered, and what goes on with the answer
pub takes_on : {κ : Chain} {A B C : Type 0} {f : Naming → Step A} {a : Naming → A} {s t : Moment κ} (u : Moment κ) (k : Naming → A → Step B) (h : Naming → C → B) (r : Result C Exit) → Gives f a s t → Takes (λ nu. k nu (a nu)) h r t u
    → Takes (λ nu go. f nu (λ a. k nu a go)) h r s u
takes_on u k h r x y = takes_as u h r (gives_on x k) y

pub leaves_lost : {κ : Chain} {A : Type 0} {f : Naming → Step A} {s : Moment κ} → Leaves f (exit.Stopped stop.Memory) s s
leaves_lost = record { ends = λ go. no_memory }

pub out_lost : {κ : Chain} {A : Type 0} {f g : Naming → Step A} {s t : Moment κ} → Leads f g s t → Leaves f (exit.Stopped stop.Memory) s t
out_lost x = leads_out x leaves_lost

-- a step that is a refusal, whatever comes after
pub leaves_refused : {κ : Chain} {A : Type 0} {f : Naming → Step A} {s : Moment κ} (y : Refusal) → ((nu : Naming) (go : A → Prog) → f nu go ≡ refuse (refusal_in y)) → Leaves f (exit.Halted (halt.Refused y)) s s
leaves_refused {κ} {A} {f} {s} y e = record { ends = λ go. (onward_fits (λ nu h. e nu (go nu))).goes (λ nu. told_exit nu (exit.Halted (halt.Refused y))) s (refused y) }

-- ---- programs that begin with a step

pub runs_on : {κ : Chain} {A : Type 0} {f : Naming → Step A} {a : Naming → A} {t : Naming → Told} {x y z : Moment κ} (go : Naming → A → Prog) → Gives f a x y → Runs (λ nu. go nu (a nu)) t y z → Runs (λ nu. f nu (go nu)) t x z
runs_on {t = t} {z = z} go s r = (s.goes go).goes t z r

pub runs_left : {κ : Chain} {A : Type 0} {f : Naming → Step A} {e : Exit} {x y : Moment κ} (go : Naming → A → Prog) → Leaves f e x y → Runs (λ nu. f nu (go nu)) (λ nu. told_exit nu e) x y
runs_left go s = s.ends go

-- a step whose answer is the value
pub valued : {κ : Chain} → (f : Naming → Step Val) {s t : Moment κ} (r : Result Value Exit) → Takes f val_in r s t → Runs (λ nu. f nu (λ v. value v)) (λ nu. told_value nu r) s t
valued f {s} {t} (Ok v) x = runs_on {f = f} {a = λ nu. val_in nu v} (λ nu v. value v) x ends_with
valued f {s} {t} (Err e) x = x.ends (λ nu v. value v)
