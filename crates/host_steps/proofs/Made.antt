-- Texts that are made, and texts of values.
use Rattle.std.specs.Prelude.{Option, Some, None, Result, Ok, Err}
use Rattle.std.proofs.Common.{◌≡◌, ◌∙◌, refl, sym, ap, subst, ℕ, ◌<◌, ◌≤◌, length, true, false, nat_lt, cond, arith}
use Rattle.std.proofs.lemmas.Bool.Decides.{nat_tests}
use Rattle.turk_base.specs.Names.{Name, Units}
use Rattle.turk_base.specs.Values as model
use Rattle.turk_base.specs.Values.{Val}
use Rattle.turk_base.specs.Prog.{Pay, Put, Prog, Ask, ask, refuse, given, made, text_limit}
use Rattle.turk_base.specs.Conversions.{text_in}
use Rattle.turk_base.specs.Errors.{text_from}
use Rattle.value_cells.specs.declared.Value.{Value}
use Rattle.value_cells.specs.declared.Value.TheVariants as code
use Rattle.value_cells.specs.Seen.{Naming, val_in}
use Rattle.run_host.specs.declared.Refusal.{Refusal}
use Rattle.run_host.specs.declared.Refusal.TheVariants as refusal
use Rattle.run_host.specs.declared.Halt.TheVariants as halt
use Rattle.run_host.specs.declared.Exit.TheVariants as exit
use Rattle.ask_model.specs.declared.AskStop.TheVariants as stop
use Rattle.run_host.specs.Moment.{Chain, Moment}
use Rattle.run_host.proofs.Sequence.{no_memory}
use Rattle.run_host.specs.declared.Exit.{Exit}
use Rattle.run_host.specs.Steps.{Step, Onward, Leads, Leaves, Gives}
use Rattle.run_host.specs.Told.{Told, told_exit, refusal_in}
use Rattle.run_host.specs.Did.{Runs}
use Rattle.run_host.proofs.Fits.{onward_fits, leads_eq, leaves_refused}
use Rattle.host_steps.specs.Answered.{text_or_none}

made_long : (t : Units) (go : Units → Prog) → text_limit < length t → made t go ≡ refuse model.TooLong
made_long t go h = let yes : nat_lt text_limit (length t) ≡ true = grind (arith, nat_tests) in ap (λ b. cond b (refuse model.TooLong) (Ask (Pay (length t)) (λ _. go t))) yes

made_short : (t : Units) (go : Units → Prog) → length t ≤ text_limit → made t go ≡ Ask (Pay (length t)) (λ _. go t)
made_short t go h = let no : nat_lt text_limit (length t) ≡ false = grind (arith, nat_tests) in ap (λ b. cond b (refuse model.TooLong) (Ask (Pay (length t)) (λ _. go t))) no

pub too_long : {κ : Chain} {s : Moment κ} (t : Units) → text_limit < length t → Leaves (λ nu. made t) (exit.Halted (halt.Refused refusal.TooLong)) s s
too_long t h = leaves_refused refusal.TooLong (λ nu go. made_long t go h)

-- the text is paid under a number that is its length
pub paid_leads : {κ : Chain} {s : Moment κ} (t : Units) (n : ℕ) → n ≡ length t → length t ≤ text_limit → Leads (λ nu. made t) (λ nu go. ask (Pay n) (λ _. go t)) s s
paid_leads t n e h = leads_eq (λ nu go. made_short t go h ∙ ap (λ m. Ask (Pay m) (λ _. go t)) (sym e))

text_given : (nu : Naming) (v : Value) (go : Units → Prog) → ((t : Units) → v ≡ code.Text t → ⊥) → text_from (val_in nu v) go ≡ given (text_in (val_in nu v)) (λ t. made t go)
text_given nu code.Undefined go n = refl
text_given nu code.Null go n = refl
text_given nu (code.Truth b) go n = refl
text_given nu (code.Number z) go n = refl
text_given nu (code.Text t) go n = absurd (n t refl)
text_given nu (code.Object c) go n = refl

pub text_leads : {κ : Chain} {s : Moment κ} (v : Value) (o : Option Units) (t : Units) → ((t : Units) → v ≡ code.Text t → ⊥) → ((nu : Naming) → text_in (val_in nu v) ≡ text_or_none o) → o ≡ Some t
    → Leads (λ nu. text_from (val_in nu v)) (λ nu. made t) s s
text_leads v o t n is e = leads_eq (λ nu go. text_given nu v go n ∙ ap (λ x. given x (λ t. made t go)) (is nu ∙ ap text_or_none e))

pub text_refused : {κ : Chain} {s : Moment κ} (v : Value) (o : Option Units) → ((t : Units) → v ≡ code.Text t → ⊥) → ((nu : Naming) → text_in (val_in nu v) ≡ text_or_none o) → o ≡ None
    → Leaves (λ nu. text_from (val_in nu v)) (exit.Halted (halt.Refused refusal.NoPrimitive)) s s
text_refused v o n is e = leaves_refused refusal.NoPrimitive (λ nu go. text_given nu v go n ∙ ap (λ x. given x (λ t. made t go)) (is nu ∙ ap text_or_none e))

-- a text is its own
pub text_kept : {κ : Chain} {s : Moment κ} (v : Value) (t u : Units) → v ≡ code.Text t → u ≡ t → Gives (λ nu. text_from (val_in nu v)) (λ nu. u) s s
text_kept v t u e f = leads_eq (λ nu go. ap (λ w. text_from (val_in nu w) go) e ∙ ap go (sym f))

-- ---- a property under a key that is another's equal

pub put_under : {κ : Chain} {at : Naming → Name} {key : Units} {v : Naming → Val} {s t : Moment κ} (k : Units) → key ≡ k → Gives (λ nu. ask (Put (at nu) key (v nu))) (λ nu. tt) s t → Gives (λ nu. ask (Put (at nu) k (v nu))) (λ nu. tt) s t
put_under {κ} {at} {key} {v} {s} {t} k e x = subst (λ k. Gives (λ nu. ask (Put (at nu) k (v nu))) (λ nu. tt) s t) e x

pub put_out_under : {κ : Chain} {at : Naming → Name} {key : Units} {v : Naming → Val} {s t : Moment κ} {y : Exit} (k : Units) → key ≡ k → Leaves (λ nu. ask (Put (at nu) key (v nu))) y s t → Leaves (λ nu. ask (Put (at nu) k (v nu))) y s t
put_out_under {κ} {at} {key} {v} {s} {t} {y} k e x = subst (λ k. Leaves (λ nu. ask (Put (at nu) k (v nu))) y s t) e x

pub onward_eq : {κ : Chain} {f g : Naming → Prog} {m : Moment κ} → ((nu : Naming) → f nu ≡ g nu) → Onward f g m m
onward_eq e = onward_fits (λ nu h. e nu)

-- ---- what throws, whatever comes after

pub leaves_thrown : {κ : Chain} {A : Type 0} {f : Naming → Step A} {g : Naming → Prog} {x : Exit} {s t : Moment κ} → ((nu : Naming) (go : A → Prog) → f nu go ≡ g nu) → Runs g (λ nu. told_exit nu x) s t → Leaves f x s t
leaves_thrown {κ} {A} {f} {g} {x} {s} {t} e r = record { ends = λ go. (onward_eq (λ nu. e nu (go nu))).goes (λ nu. told_exit nu x) t r }

pub exit_lost : {κ : Chain} {g : Naming → Prog} {s : Moment κ} (x : Exit) → x ≡ exit.Stopped stop.Memory → Runs g (λ nu. told_exit nu x) s s
exit_lost {κ} {g} {s} x e = subst (λ (x : Exit). Runs g (λ nu. told_exit nu x) s s) (sym e) no_memory

-- a program runs as its equal does
pub runs_as : {κ : Chain} {f g : Naming → Prog} {t : Naming → Told} {a b : Moment κ} → ((nu : Naming) → f nu ≡ g nu) → Runs g t a b → Runs f t a b
runs_as {t = t} {b = b} e r = (onward_eq e).goes t b r

-- ---- what is computed of values alone

pub given_goes : {κ : Chain} {A B : Type 0} {s : Moment κ} (x : Naming → Result A model.Refusal) (h : Naming → B → A) (b : B) → ((nu : Naming) → x nu ≡ Ok (h nu b)) → Gives (λ nu. given (x nu)) (λ nu. h nu b) s s
given_goes x h b e = leads_eq (λ nu go. ap (λ x. given x go) (e nu))

pub given_out : {κ : Chain} {A : Type 0} {s : Moment κ} (x : Naming → Result A model.Refusal) (why : Refusal) → ((nu : Naming) → x nu ≡ Err (refusal_in why)) → Leaves (λ nu. given (x nu)) (exit.Halted (halt.Refused why)) s s
given_out x why e = leaves_refused why (λ nu go. ap (λ x. given x go) (e nu))
