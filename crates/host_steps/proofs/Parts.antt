-- Values that are no objects, and cells by their numbers.
use Rattle.std.specs.Prelude.{Ok, Bool, true, false, codes, ◌++◌, if◌then◌else◌}
use Rattle.std.proofs.Common.{◌≡◌, refl, sym, ap, ◌∙◌, ℕ, ◌<◌, ◌≤◌, nat_eq, ◌-◌, ◌+◌, suc, arith}
use Rattle.turk_base.specs.Names.{Name, Units, pick, name_eq}
use Rattle.std.proofs.lemmas.Bool.Decides.{nat_tests}
use Rattle.turk_base.specs.Operators.{same, same_name}
use Rattle.value_cells.specs.Needs.{needs}
use Rattle.turk_base.specs.Values as model
use Rattle.turk_base.specs.Prog.{Prog, KindOf, WriteName, ask}
use Rattle.js_tree.specs.Pieces.{Here, has_properties, get_property, set_property, frame_out, parent_in, set_bound, set_variable}
use Rattle.js_tree.specs.declared.Binding.{Binding}
use Rattle.js_tree.specs.declared.Binding.TheVariants as binding
use Rattle.js_tree.specs.declared.Named.{Named}
use Rattle.turk_base.specs.Values.{Val}
use Rattle.turk_base.specs.Errors.{built_in, type_error, reference_error}
use Rattle.js_tree.specs.Operate.{delete_property}
use Rattle.value_cells.specs.declared.Value.{Value}
use Rattle.value_cells.specs.declared.Value.TheVariants as code
use Rattle.value_cells.specs.Seen.{Naming, Fits, val_in}
use Rattle.run_host.specs.Moment.{Chain, Moment, cells, AreApart, HasBuiltIns}
use Rattle.run_host.specs.Told.{told_value}
use Rattle.run_host.specs.Did.{Runs}
use Rattle.run_host.specs.Steps.{Gives}
use Rattle.run_host.proofs.Sequence.{ends_with, leads_same}
use Rattle.run_host.proofs.Fits.{one_name, leads_eq, leads_fits, built_in_at}

pub has_some : {κ : Chain} {s : Moment κ} (v : Value) → (v ≡ code.Undefined → ⊥) → (v ≡ code.Null → ⊥) → Gives (λ nu. has_properties (val_in nu v)) (λ nu. tt) s s
has_some code.Undefined n m = absurd (n refl)
has_some code.Null n m = absurd (m refl)
has_some (code.Truth b) n m = leads_same
has_some (code.Number z) n m = leads_same
has_some (code.Text t) n m = leads_same
has_some (code.Object i) n m = leads_same

pub no_properties : {κ : Chain} {s : Moment κ} (v : Value) (key : Units) → ((i : ℕ) → v ≡ code.Object i → ⊥) → ((t : Units) → v ≡ code.Text t → ⊥) → Gives (λ nu. get_property (val_in nu v) key) (λ nu. model.Undefined) s s
no_properties code.Undefined key n m = leads_same
no_properties code.Null key n m = leads_same
no_properties (code.Truth b) key n m = leads_same
no_properties (code.Number z) key n m = leads_same
no_properties (code.Text t) key n m = absurd (m t refl)
no_properties (code.Object i) key n m = absurd (n i refl)

pub no_write : {κ : Chain} {s : Moment κ} (v : Value) (key : Units) (w : Value) → ((i : ℕ) → v ≡ code.Object i → ⊥) → Gives (λ nu. set_property (val_in nu v) key (val_in nu w)) (λ nu. tt) s s
no_write code.Undefined key w n = leads_same
no_write code.Null key w n = leads_same
no_write (code.Truth b) key w n = leads_same
no_write (code.Number z) key w n = leads_same
no_write (code.Text t) key w n = leads_same
no_write (code.Object i) key w n = absurd (n i refl)

pub no_delete : {κ : Chain} {s : Moment κ} (v : Value) (key : Units) → ((i : ℕ) → v ≡ code.Object i → ⊥) → ((t : Units) → v ≡ code.Text t → ⊥) → Runs (λ nu. delete_property (val_in nu v) key) (λ nu. told_value nu (Ok (code.Truth true))) s s
no_delete code.Undefined key n m = ends_with
no_delete code.Null key n m = ends_with
no_delete (code.Truth b) key n m = ends_with
no_delete (code.Number z) key n m = ends_with
no_delete (code.Text t) key n m = absurd (m t refl)
no_delete (code.Object i) key n m = absurd (n i refl)

-- ---- one cell, by its number

pick_yes : (p q : Name) → p ≡ q → same_name p q ≡ true
pick_yes p q e = by (name_eq p q)
  where
    by : (d : Dec (p ≡ q)) → pick d true false ≡ true
    by (yes h) = refl
    by (no n) = absurd (n e)

pick_no : (p q : Name) → (p ≡ q → ⊥) → same_name p q ≡ false
pick_no p q n = by (name_eq p q)
  where
    by : (d : Dec (p ≡ q)) → pick d true false ≡ false
    by (yes h) = absurd (n h)
    by (no m) = refl

pub same_cell : {κ : Chain} {m : Moment κ} (i j : ℕ) → AreApart m → i < cells m → j < cells m → (nu : Naming) → Fits nu m.heap.names → i ≡ j → same_name (nu i) (nu j) ≡ true
same_cell i j a k l nu f e = pick_yes (nu i) (nu j) (ap nu e)

pub other_cell : {κ : Chain} {m : Moment κ} (i j : ℕ) → AreApart m → i < cells m → j < cells m → (nu : Naming) → Fits nu m.heap.names → (i ≡ j → ⊥) → same_name (nu i) (nu j) ≡ false
other_cell i j a k l nu f n = pick_no (nu i) (nu j) (λ e. n (one_name i j a k l nu f e))

pub same_objects : {κ : Chain} {m : Moment κ} (v w : Value) (i j : ℕ) → v ≡ code.Object i → w ≡ code.Object j → AreApart m → needs v ≤ cells m → needs w ≤ cells m → (nu : Naming) → Fits nu m.heap.names → same (val_in nu v) (val_in nu w) ≡ nat_eq i j
same_objects {κ} {m} v w i j e f a k l nu fits = (λ t. same (val_in nu (e t)) (val_in nu (f t))) ∙ by (nat_eq i j) refl
  where
    first : i < cells m
    first = let q : needs v ≡ suc i = ap needs e in omega (arith, k, q)

    second : j < cells m
    second = let q : needs w ≡ suc j = ap needs f in omega (arith, l, q)

    by : (b : Bool) → nat_eq i j ≡ b → same_name (nu i) (nu j) ≡ b
    by true h = let q : i ≡ j = grind (arith, nat_tests) in same_cell i j a first second nu fits q
    by false h = other_cell i j a first second nu fits (λ q. grind (arith, nat_tests))

-- ---- frames

pub out_next : (steps i : ℕ) (f : Name) (go : Name → Prog) → i < steps → frame_out (steps - i) f go ≡ ask (KindOf f) (λ kind. frame_out (steps - (i + 1)) (parent_in kind f) go)
out_next steps i f go h = let e : steps - i ≡ suc (steps - (i + 1)) = omega arith in ap (λ k. frame_out k f go) e

-- ---- writes of names

bound_by : (x : Named) (b : Binding) → x.binding ≡ b → (here : Here) (v : Val) (go : Unit {0} → Prog) → set_variable here x v go ≡ set_bound here x.name x.own b v go
bound_by x b e here v go = ap (λ b. set_bound here x.name x.own b v go) e

pub own_stays : {κ : Chain} {s : Moment κ} (x : Named) (k : ℕ) → x.binding ≡ binding.Out k → x.own ≡ true → (here : Naming → Here) (v : Naming → Val) → Gives (λ nu. set_variable (here nu) x (v nu)) (λ nu. tt) s s
own_stays x k e o here v = leads_eq (λ nu go. bound_by x (binding.Out k) e (here nu) (v nu) go ∙ ap (λ o. set_bound (here nu) x.name o (binding.Out k) (v nu) go) o)

pub other_set : (x : Named) (k : ℕ) → x.binding ≡ binding.Out k → x.own ≡ false → (here : Here) (v : Val) (go : Unit {0} → Prog) →
    set_variable here x v go ≡ frame_out k here.frame (λ f. ask (WriteName f x.name v) (λ _. go tt))
other_set x k e o here v go = bound_by x (binding.Out k) e here v go ∙ ap (λ o. set_bound here x.name o (binding.Out k) v go) o

at_built_in : (here : Here) (name : Units) (own : Bool) (v : Val) (go : Unit {0} → Prog) → set_bound here name own binding.BuiltIn v go ≡ type_error (name ++ codes " is read only")
at_built_in here name true v go = refl
at_built_in here name false v go = refl

at_nothing : (here : Here) (name : Units) (own : Bool) (v : Val) (go : Unit {0} → Prog) → set_bound here name own binding.Nothing v go ≡ reference_error (name ++ codes " is not defined")
at_nothing here name true v go = refl
at_nothing here name false v go = refl

pub built_in_set : (x : Named) → x.binding ≡ binding.BuiltIn → (here : Here) (v : Val) (go : Unit {0} → Prog) → set_variable here x v go ≡ type_error (x.name ++ codes " is read only")
built_in_set x e here v go = bound_by x binding.BuiltIn e here v go ∙ at_built_in here x.name x.own v go

pub undeclared_set : (x : Named) → x.binding ≡ binding.Nothing → (here : Here) (v : Val) (go : Unit {0} → Prog) → set_variable here x v go ≡ reference_error (x.name ++ codes " is not defined")
undeclared_set x e here v go = bound_by x binding.Nothing e here v go ∙ at_nothing here x.name x.own v go

-- ---- values of built-in names

-- the cell with this number has that name
pub built_in_gives : {κ : Chain} {m : Moment κ} (i : ℕ) (x : Val) → HasBuiltIns m → i < 7 → x ≡ model.Object (built_in i) → Gives (λ nu go. go x) (λ nu. model.Object (nu i)) m m
built_in_gives i x h l e = leads_fits (λ nu f go. ap go (e ∙ ap model.Object (sym (built_in_at i h l nu f))))

-- the value of a name, by which of the four it is
abbrev pub by_names : Bool → Bool → Bool → Bool → Val
by_names a b c d = if a then model.Object (built_in 0) else (if b then model.Object (built_in 2) else (if c then model.Object (built_in 4) else (if d then model.Object (built_in 6) else model.Undefined)))
