-- What is computed of values alone as a step, under the namings that fit.
use Rattle.std.specs.Prelude.{ℤ, Option, Some, None, Result, Ok, Err, is_some}
use Rattle.std.specs.Option.{option_map}
use Rattle.std.proofs.Common.{◌≡◌, refl, sym, ap, subst, ◌∙◌, ℕ, Bool, IsErrAnd, true, false}
use Rattle.turk_base.specs.Names.{Name, Units}
use Rattle.turk_base.specs.Values as model
use Rattle.turk_base.specs.Values.{Val}
use Rattle.turk_base.specs.Conversions.{text_in, reading}
use Rattle.turk_base.specs.Operators.{Pair, and_then, ordered, numbers_of}
use Rattle.turk_base.specs.Prog.{Prog, Get, Inherits, Ask, ask, value, given}
use Rattle.turk_base.specs.Errors.{type_error}
use Rattle.std.proofs.Common.{codes}
use Rattle.js_tree.specs.Operate.{in_object, on_chain, instance_of}
use Rattle.js_tree.specs.Pieces.{as_function}
use Rattle.value_cells.specs.declared.Value.{Value}
use Rattle.value_cells.specs.declared.Value.TheVariants as code
use Rattle.value_cells.specs.Seen.{Naming, Fits, val_in}
use Rattle.run_host.specs.declared.Exit.{Exit}
use Rattle.run_host.specs.declared.Exit.TheVariants as exit
use Rattle.run_host.specs.declared.Halt.TheVariants as halt
use Rattle.run_host.specs.declared.Refusal.{Refusal}
use Rattle.run_host.specs.Moment.{Chain, Moment}
use Rattle.run_host.specs.Told.{told_exit, told_value, refusal_in}
use Rattle.run_host.specs.Did.{Runs}
use Rattle.run_host.specs.Steps.{Gives, Leaves}
use Rattle.run_host.proofs.Sequence.{ends_with, refused}
use Rattle.run_host.proofs.Fits.{onward_fits, leads_fits, runs_on, runs_left}
use Rattle.host_steps.specs.Answered.{answer_of}
use Rattle.value_rows.specs.Kinds.{cell_in}
use Rattle.value_rows.specs.Pairs.{pair_then}

fits_given : {κ : Chain} {A B : Type 0} {m : Moment κ} (f : Naming → Result A model.Refusal) (h : Naming → B → A) (b : B) → ((nu : Naming) → Fits nu m.heap.names → f nu ≡ Ok (h nu b)) → Gives (λ nu. given (f nu)) (λ nu. h nu b) m m
fits_given f h b e = leads_fits (λ nu l go. ap (λ x. given x go) (e nu l))

fits_refused : {κ : Chain} {A : Type 0} {m : Moment κ} (f : Naming → Result A model.Refusal) (why : Refusal) → ((nu : Naming) → Fits nu m.heap.names → f nu ≡ Err (refusal_in why)) → Leaves (λ nu. given (f nu)) (exit.Halted (halt.Refused why)) m m
fits_refused {m = m} f why e = record { ends = λ go. (onward_fits (λ nu l. ap (λ x. given x (go nu)) (e nu l))).goes (λ nu. told_exit nu (exit.Halted (halt.Refused why))) m (refused why) }

pub answered_ok : {κ : Chain} {m : Moment κ} (f : Naming → Result Val model.Refusal) (v : Value) → ((nu : Naming) → Fits nu m.heap.names → f nu ≡ Ok (val_in nu v)) → Runs (λ nu. given (f nu) (λ v. value v)) (λ nu. told_value nu (Ok v)) m m
answered_ok f v e = runs_on (λ nu v. value v) (fits_given f val_in v e) ends_with

pub answered_err : {κ : Chain} {m : Moment κ} (f : Naming → Result Val model.Refusal) (why : Refusal) (x : Exit) → x ≡ exit.Halted (halt.Refused why) → ((nu : Naming) → Fits nu m.heap.names → f nu ≡ Err (refusal_in why)) → Runs (λ nu. given (f nu) (λ v. value v)) (λ nu. told_value nu (Err x)) m m
answered_err {κ} {m} f why x is e = subst (λ x. Runs (λ nu. given (f nu) (λ v. value v)) (λ nu. told_exit nu x) m m) (sym is) (runs_left (λ nu v. value v) (fits_refused f why e))

-- ---- a refusal that is handed on

pub refused_on : {A B : Type 0} (h : B → A) (r : Result B Refusal) (why : Refusal) → IsErrAnd r (λ x. x ≡ why) → Err (refusal_in why) ≡ answer_of h r
refused_on h (Ok b) why m = absurd m
refused_on h (Err y) why m = ap (λ y. Err (refusal_in y)) (sym m)

pub refused_pair : {A : Type 0} (go : ℤ → ℤ → Result A model.Refusal) (r : Result (ℤ × ℤ) Refusal) (why : Refusal) → IsErrAnd r (λ x. x ≡ why) → Err (refusal_in why) ≡ pair_then r go
refused_pair go (Ok b) why m = absurd m
refused_pair go (Err y) why m = ap (λ y. Err (refusal_in y)) (sym m)

-- ---- primitives and objects

pub primitive_given : (v : Value) → ((i : ℕ) → v ≡ code.Object i → ⊥) → (nu : Naming) (go : Prog) → given (text_in (val_in nu v)) (λ _. go) ≡ go
primitive_given code.Undefined n nu go = refl
primitive_given code.Null n nu go = refl
primitive_given (code.Truth true) n nu go = refl
primitive_given (code.Truth false) n nu go = refl
primitive_given (code.Number z) n nu go = refl
primitive_given (code.Text t) n nu go = refl
primitive_given (code.Object i) n nu go = absurd (n i refl)

pub not_in_object : (v : Value) → ((i : ℕ) → v ≡ code.Object i → ⊥) → (nu : Naming) (x : Val) → in_object x (val_in nu v) ≡ type_error (codes "not an object")
not_in_object code.Undefined n nu x = refl
not_in_object code.Null n nu x = refl
not_in_object (code.Truth b) n nu x = refl
not_in_object (code.Number z) n nu x = refl
not_in_object (code.Text t) n nu x = refl
not_in_object (code.Object i) n nu x = absurd (n i refl)

pub no_instance : (v : Value) → ((i : ℕ) → v ≡ code.Object i → ⊥) → (nu : Naming) (f : Name) → instance_of (val_in nu v) f ≡ value (model.Truth false)
no_instance code.Undefined n nu f = refl
no_instance code.Null n nu f = refl
no_instance (code.Truth b) n nu f = refl
no_instance (code.Number z) n nu f = refl
no_instance (code.Text t) n nu f = refl
no_instance (code.Object i) n nu f = absurd (n i refl)

pub no_function : (v : Value) → ((i : ℕ) → v ≡ code.Object i → ⊥) → (nu : Naming) (otherwise : Prog) (go : Name → Prog) → as_function (val_in nu v) otherwise go ≡ otherwise
no_function code.Undefined n nu otherwise go = refl
no_function code.Null n nu otherwise go = refl
no_function (code.Truth b) n nu otherwise go = refl
no_function (code.Number z) n nu otherwise go = refl
no_function (code.Text t) n nu otherwise go = refl
no_function (code.Object i) n nu otherwise go = absurd (n i refl)

-- two values that are not both texts are compared by their readings
pub numbers_compared : (holds : Pair → Bool) (x y : Value) → ((s t : Units) → x ≡ code.Text s → y ≡ code.Text t → ⊥) → (nu : Naming) → ordered holds (val_in nu x) (val_in nu y) ≡
    and_then (and_then (reading (val_in nu x)) (λ m. and_then (reading (val_in nu y)) (λ n. numbers_of m n))) (λ p. Ok (model.Truth (holds p)))
numbers_compared holds code.Undefined y n nu = refl
numbers_compared holds code.Null y n nu = refl
numbers_compared holds (code.Truth b) y n nu = refl
numbers_compared holds (code.Number z) y n nu = refl
numbers_compared holds (code.Object i) y n nu = refl
numbers_compared holds (code.Text s) code.Undefined n nu = refl
numbers_compared holds (code.Text s) code.Null n nu = refl
numbers_compared holds (code.Text s) (code.Truth b) n nu = refl
numbers_compared holds (code.Text s) (code.Number z) n nu = refl
numbers_compared holds (code.Text s) (code.Object i) n nu = refl
numbers_compared holds (code.Text s) (code.Text t) n nu = absurd (n s t refl refl)

-- ---- what was found

pub some_mapped : {A B : Type 0} (f : A → B) (o : Option A) → is_some (option_map f o) ≡ is_some o
some_mapped f None = refl
some_mapped f (Some a) = refl

pub on_chain_some : (found : Option Value) (i : ℕ) → cell_in found ≡ Some i → (nu : Naming) (c : Name) → on_chain c (option_map (val_in nu) found) ≡ Ask (Inherits c (nu i)) (λ b. value (model.Truth b))
on_chain_some None i e nu c = cc
on_chain_some (Some code.Undefined) i e nu c = cc
on_chain_some (Some code.Null) i e nu c = cc
on_chain_some (Some (code.Truth b)) i e nu c = cc
on_chain_some (Some (code.Number z)) i e nu c = cc
on_chain_some (Some (code.Text t)) i e nu c = cc
on_chain_some (Some (code.Object j)) i e nu c = let same : j ≡ i = cc in ap (λ k. Ask (Inherits c (nu k)) (λ b. value (model.Truth b))) same

pub on_chain_none : (found : Option Value) → cell_in found ≡ None → (nu : Naming) (c : Name) → on_chain c (option_map (val_in nu) found) ≡ type_error (codes "prototype is not an object")
on_chain_none None e nu c = refl
on_chain_none (Some code.Undefined) e nu c = refl
on_chain_none (Some code.Null) e nu c = refl
on_chain_none (Some (code.Truth b)) e nu c = refl
on_chain_none (Some (code.Number z)) e nu c = refl
on_chain_none (Some (code.Text t)) e nu c = refl
on_chain_none (Some (code.Object j)) e nu c = cc

-- ---- a property under a key that is another's equal

pub get_under : {κ : Chain} {at : Naming → Name} {key : Units} {v : Naming → Option Val} {s t : Moment κ} (k : Units) → key ≡ k → Gives (λ nu. ask (Get (at nu) key)) v s t → Gives (λ nu. ask (Get (at nu) k)) v s t
get_under {κ} {at} {key} {v} {s} {t} k e x = subst (λ k. Gives (λ nu. ask (Get (at nu) k)) v s t) e x

pub get_out_under : {κ : Chain} {at : Naming → Name} {key : Units} {s t : Moment κ} {y : Exit} (k : Units) → key ≡ k → Leaves (λ nu. ask (Get (at nu) key)) y s t → Leaves (λ nu. ask (Get (at nu) k)) y s t
get_out_under {κ} {at} {key} {s} {t} {y} k e x = subst (λ k. Leaves (λ nu. ask (Get (at nu) k)) y s t) e x
