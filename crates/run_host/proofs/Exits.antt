-- Exits of the functions of an evaluator: a `?` hands an exit on.
use Rattle.std.specs.Prelude.{Result, Ok, Err}
use Rattle.std.proofs.Common.{◌≡◌, sym, subst, IsErrAnd}
use Rattle.turk_base.specs.Prog.{Prog, Done, Then, Always}
use Rattle.turk_base.specs.Values.{Val, Outcome, Throw}
use Rattle.value_cells.specs.declared.Value.{Value}
use Rattle.value_cells.specs.Seen.{Naming, val_in}
use Rattle.run_host.specs.declared.Exit.{Exit}
use Rattle.run_host.specs.declared.Flow.{Flow}
use Rattle.run_host.specs.Moment.{Chain, Moment}
use Rattle.run_host.specs.declared.Exit.TheVariants as exit
use Rattle.run_host.specs.Told.{Says, told_exit, told_value, told_flow}
use Rattle.run_host.specs.Did.{Runs}
use Rattle.run_host.specs.Steps.{Step, Leaves, Takes}
use Rattle.run_host.proofs.Sequence.{then_out, always_on, always_out, ends_with, exit_no_value}

pub value_exit : {κ : Chain} {f : Naming → Prog} {s t : Moment κ} (e : Exit) (r : Result Value Exit) → IsErrAnd r (λ x. x ≡ e) → Runs f (λ nu. told_exit nu e) s t → Runs f (λ nu. told_value nu r) s t
value_exit e (Ok b) m x = absurd m
value_exit {κ} {f} {s} {t} e (Err y) m x = subst (λ y. Runs f (λ nu. told_exit nu y) s t) (sym m) x

pub flow_exit : {κ : Chain} {f : Naming → Prog} {s t : Moment κ} (e : Exit) (r : Result Flow Exit) → IsErrAnd r (λ x. x ≡ e) → Runs f (λ nu. told_exit nu e) s t → Runs f (λ nu. told_flow nu r) s t
flow_exit e (Ok b) m x = absurd m
flow_exit {κ} {f} {s} {t} e (Err y) m x = subst (λ y. Runs f (λ nu. told_exit nu y) s t) (sym m) x

pub takes_exit : {κ : Chain} {A B : Type 0} {f : Naming → Step A} {s t : Moment κ} {e : Exit} (h : Naming → B → A) (r : Result B Exit) → IsErrAnd r (λ x. x ≡ e) → Leaves f e s t → Takes f h r s t
takes_exit h (Ok b) m x = absurd m
takes_exit {κ} {A} {B} {f} {s} {t} {e} h (Err y) m x = subst (λ y. Leaves f y s t) (sym m) x

-- the first of two programs ended otherwise than with a value
pub first_out : {κ : Chain} {g : Naming → Prog} (go : Naming → Val → Prog) {s t : Moment κ} (e : Exit) → Runs g (λ nu. told_exit nu e) s t → Runs (λ nu. Then (g nu) (go nu)) (λ nu. told_exit nu e) s t
first_out go e x = then_out go (λ nu. exit_no_value nu e) x

-- a program whose end another program passes on
pub always_exit : {κ : Chain} {g : Naming → Prog} (go : Naming → Outcome → Prog) {s t : Moment κ} (e : Exit) → ((nu : Naming) (v : Val) → go nu (Throw v) ≡ Done (Throw v)) →
    Runs g (λ nu. told_exit nu e) s t → Runs (λ nu. Always (g nu) (go nu)) (λ nu. told_exit nu e) s t
always_exit go {t = t} (exit.Throw v) k x = always_on go x (subst (λ h. Runs h (λ nu. Says (Throw (val_in nu v))) t t) (λ i nu. sym (k nu (val_in nu v)) i) ends_with)
always_exit go (exit.Halted h) k x = always_out go (λ nu. tt) x
always_exit go (exit.Stopped why) k x = always_out go (λ nu. tt) x

-- it ended with an outcome, and what comes after ends with another
pub always_done : {κ : Chain} {g : Naming → Prog} (go : Naming → Outcome → Prog) {o p : Naming → Outcome} {s t : Moment κ} → ((nu : Naming) → go nu (o nu) ≡ Done (p nu)) →
    Runs g (λ nu. Says (o nu)) s t → Runs (λ nu. Always (g nu) (go nu)) (λ nu. Says (p nu)) s t
always_done go {o} {p} {t = t} k x = always_on go x (subst (λ h. Runs h (λ nu. Says (p nu)) t t) (λ i nu. sym (k nu) i) ends_with)
