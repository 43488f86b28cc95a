-- The names of a frame, as loops add them.
use Rattle.std.specs.Prelude.{Result, Ok, Err, IfOk, Bool, true, false, ◌||◌, ◌&&◌, map, if◌then◌else◌}
use Rattle.std.proofs.Common.{◌≡◌, ◌≤◌, ◌<◌, ◌+◌, ◌∙◌, ℕ, zero, suc, List, [], ◌∷◌, ◌++◌, length, get_or, drop, take, refl, sym, ap, subst, arith, nat_eq, add-one, drop-cons}
use Rattle.std.proofs.lemmas.List.{take_more}
use Rattle.std.proofs.lemmas.Bool.{false≢true}
use Rattle.std.proofs.lemmas.Bool.Decides.{nat_tests}
use Rattle.std.proofs.Math.ListN.{drop_of_length-le}
use Rattle.turk_base.specs.Names.{Units, Name}
use Rattle.turk_base.specs.Values.{Val, Object, Undefined}
use Rattle.turk_base.specs.Conversions.{same_units}
use Rattle.turk_base.specs.Prog.{Prog, Declare, Ask}
use Rattle.js_tree.specs.declared.Declaration.{Declaration}
use Rattle.js_tree.specs.Trees.{declared_name, declared_body, number_of}
use Rattle.js_tree.specs.Calls.{has, head_value, tail_values, add_name, add_parameters, add_functions, add_variables}
use Rattle.js_tree.specs.Pieces.{make_function}
use Rattle.value_cells.specs.declared.Value.{Value}
use Rattle.value_cells.specs.Needs.{needs, all_needs}
use Rattle.value_cells.specs.Seen.{Naming, val_in}
use Rattle.run_host.specs.Moment.{Chain, Moment}
use Rattle.run_host.specs.Steps.{Step, Leads, Leaves, Gives}
use Rattle.run_host.proofs.Sequence.{leads_then, leads_out, gives_on, leaves_on}
use Rattle.run_host.proofs.Fits.{leads_eq}
use Rattle.run_host.specs.declared.Exit.{Exit}
use Rattle.call_steps.specs.Frames.{after}

-- ---- which names a frame has

pub or_false : (a : Bool) → a ≡ (a || false)
or_false true = refl
or_false false = refl

or_moved : (a b c : Bool) → ((a || b) || c) ≡ (b || (a || c))
or_moved true true c = refl
or_moved true false c = refl
or_moved false true c = refl
or_moved false false c = refl

pub has_after : (ps : List Units) (ds : List Declaration) (x : Units) → has (after ps ds) x ≡ (has ps x || has (map declared_name ds) x)
has_after ps [] x = or_false (has ps x)
has_after ps (d ∷ ds) x = has_after (declared_name d ∷ ps) ds x ∙ or_moved (same_units (declared_name d) x) (has ps x) (has (map declared_name ds) x)

after_last : (ps : List Units) (ds : List Declaration) (d : Declaration) → after ps (ds ++ d ∷ []) ≡ declared_name d ∷ after ps ds
after_last ps [] d = refl
after_last ps (e ∷ ds) d = after_last (declared_name e ∷ ps) ds d

has_last : (xs : List Units) (y x : Units) → has (xs ++ y ∷ []) x ≡ (has xs x || same_units y x)
has_last [] y x = sym (or_false (same_units y x))
has_last (z ∷ xs) y x = ap (λ b. same_units z x || b) (has_last xs y x) ∙ or_grouped (same_units z x) (has xs x) (same_units y x)
  where
    or_grouped : (a b c : Bool) → (a || (b || c)) ≡ ((a || b) || c)
    or_grouped true b c = refl
    or_grouped false b c = refl

-- ---- parameters, the first i of them declared

tail_from : (f : Value → Val) (vs : List Value) (i : ℕ) → tail_values (map f (drop i vs)) ≡ map f (drop (suc i) vs)
tail_from f [] zero = refl
tail_from f [] (suc i) = refl
tail_from f (v ∷ vs) zero = refl
tail_from f (v ∷ vs) (suc i) = tail_from f vs i

pub needs_at : (vs : List Value) (i : ℕ) (v : Value) → i < length vs → v ≡ get_or vs i v → needs v ≤ all_needs vs
needs_at [] i v h e = absurd (omega (arith, h))
needs_at (w ∷ vs) zero v h e = let q : needs v ≡ needs w = ap needs e in omega (arith, q)
needs_at (w ∷ vs) (suc i) v h e = let r = needs_at vs i v (omega (arith, h)) e in omega (arith, r)

pub copied_needs : {E : Type 0} (r : Result Value E) (v : Value) (n : ℕ) → IfOk r (λ c. c ≡ v) → needs v ≤ n → IfOk r (λ c. needs c ≤ n)
copied_needs (Ok c) v n e h = let q : needs c ≡ needs v = ap needs e in omega (arith, q, h)
copied_needs (Err x) v n e h = tt

pub argument_there : (nu : Naming) (vs : List Value) (i : ℕ) (v : Value) → i < length vs → v ≡ get_or vs i v → head_value (map (val_in nu) (drop i vs)) ≡ val_in nu v
argument_there nu vs i v h e = ap (λ ws. head_value (map (val_in nu) ws)) (drop-cons vs i v h) ∙ ap (val_in nu) (sym e)

pub argument_past : (nu : Naming) (vs : List Value) (i : ℕ) → length vs ≤ i → head_value (map (val_in nu) (drop i vs)) ≡ Undefined
argument_past nu vs i h = ap (λ ws. head_value (map (val_in nu) ws)) (drop_of_length-le vs h)

module _ (at : Naming → Name) (all : List Units) (vs : List Value) (i : ℕ) where
  abbrev pub parameters_from : Naming → Step (Unit {0})
  parameters_from nu go = add_parameters (at nu) (drop i all) (map (val_in nu) (drop i vs)) go

  abbrev pub parameters_next : Naming → Step (Unit {0})
  parameters_next nu go = add_parameters (at nu) (drop (i + 1) all) (map (val_in nu) (drop (i + 1) vs)) go

  -- one parameter, where these are the later ones
  abbrev pub step_before : List Units → Units → Naming → Step (Unit {0})
  step_before later x nu go = if has later x then go tt else Ask (Declare (at nu) x (head_value (map (val_in nu) (drop i vs)))) (λ _. go tt)

  abbrev parameter_step : Units → Naming → Step (Unit {0})
  parameter_step x = step_before (drop (i + 1) all) x

  parameter_at : (x : Units) → i < length all → x ≡ get_or all i x → (nu : Naming) (go : Unit {0} → Prog) → parameters_from nu go ≡ parameter_step x nu (λ _. parameters_next nu go)
  parameter_at x h q nu go = ap (λ xs. add_parameters (at nu) xs (map (val_in nu) (drop i vs)) go) (drop-cons all i x h)
      ∙ (λ j. add_parameters (at nu) (sym q j ∷ drop (sym (add-one i) j) all) (map (val_in nu) (drop i vs)) go)
      ∙ ap (λ ws. parameter_step x nu (λ _. add_parameters (at nu) (drop (i + 1) all) ws go)) (tail_from (val_in nu) vs i ∙ ap (λ k. map (val_in nu) (drop k vs)) (sym (add-one i)))

  pub parameters_goes : {κ : Chain} → (x : Units) (later : List Units) {a b c : Moment κ} {whole : Naming → Step (Unit {0})} → i < length all → x ≡ get_or all i x → later ≡ drop (i + 1) all → Leads whole parameters_from a b →
      Gives (step_before later x) (λ nu. tt) b c → Leads whole parameters_next a c
  parameters_goes x later {b = b} {c = c} h q e rest ran = leads_then rest (leads_then (leads_eq (parameter_at x h q)) (gives_on (subst (λ l. Gives (step_before l x) (λ nu. tt) b c) e ran) (λ nu _. parameters_next nu)))

  pub parameters_out : {κ : Chain} → (x : Units) (later : List Units) (y : Exit) {a b c : Moment κ} {whole : Naming → Step (Unit {0})} → i < length all → x ≡ get_or all i x → later ≡ drop (i + 1) all → Leads whole parameters_from a b →
      Leaves (step_before later x) y b c → Leaves whole y a c
  parameters_out x later y {b = b} {c = c} h q e rest ran = leads_out rest (leads_out (leads_eq (parameter_at x h q)) (leaves_on (subst (λ l. Leaves (step_before l x) y b c) e ran) (λ nu _. parameters_next nu)))

  pub parameters_over : {κ : Chain} {a b : Moment κ} {whole : Naming → Step (Unit {0})} → length all ≤ i → Leads whole parameters_from a b → Gives whole (λ nu. tt) a b
  parameters_over h rest = leads_then rest (leads_eq (λ nu go. ap (λ xs. add_parameters (at nu) xs (map (val_in nu) (drop i vs)) go) (drop_of_length-le all h)))

-- ---- functions, the first i of them declared

take_over : {A : Type 0} (xs : List A) (i : ℕ) → length xs ≤ i → take i xs ≡ xs
take_over [] zero h = refl
take_over [] (suc i) h = refl
take_over (x ∷ xs) zero h = absurd (omega (arith, h))
take_over (x ∷ xs) (suc i) h = ap (λ l. x ∷ l) (take_over xs i (omega (arith, h)))

module _ (at : Naming → Name) (ps : List Units) (all : List Declaration) (i : ℕ) where
  -- the names that the frame has
  abbrev pub so_far : List Units
  so_far = after ps (take i all)

  abbrev pub functions_from : Naming → Step (List Units)
  functions_from nu go = add_functions (at nu) so_far (drop i all) go

  abbrev pub function_step : Declaration → Bool → Naming → Step (Unit {0})
  function_step d known nu go = make_function (number_of (declared_body d)) (at nu) (λ c. add_name known (at nu) (declared_name d) (Object c) go)

  abbrev pub functions_next : Declaration → Naming → Step (List Units)
  functions_next d nu go = add_functions (at nu) (declared_name d ∷ so_far) (drop (i + 1) all) go

  function_at : (d : Declaration) (known : Bool) → i < length all → d ≡ get_or all i d → has so_far (declared_name d) ≡ known → (nu : Naming) (go : List Units → Prog) →
      functions_from nu go ≡ function_step d known nu (λ _. functions_next d nu go)
  function_at d known h q k nu go = ap (λ ds. add_functions (at nu) so_far ds go) (drop-cons all i d h)
      ∙ (λ j. function_step (sym q j) (has so_far (declared_name (sym q j))) nu (λ _. add_functions (at nu) (declared_name (sym q j) ∷ so_far) (drop (sym (add-one i) j) all) go))
      ∙ ap (λ b. function_step d b nu (λ _. functions_next d nu go)) k

  pub functions_goes : {κ : Chain} → (d : Declaration) (known : Bool) {a b c : Moment κ} {whole : Naming → Step (List Units)} → i < length all → d ≡ get_or all i d → has so_far (declared_name d) ≡ known →
      Leads whole functions_from a b → Gives (function_step d known) (λ nu. tt) b c → Leads whole (functions_next d) a c
  functions_goes d known h q k rest ran = leads_then rest (leads_then (leads_eq (function_at d known h q k)) (gives_on ran (λ nu _. functions_next d nu)))

  pub functions_out : {κ : Chain} → (d : Declaration) (known : Bool) (x : Exit) {a b c : Moment κ} {whole : Naming → Step (List Units)} → i < length all → d ≡ get_or all i d → has so_far (declared_name d) ≡ known →
      Leads whole functions_from a b → Leaves (function_step d known) x b c → Leaves whole x a c
  functions_out d known x h q k rest ran = leads_out rest (leads_out (leads_eq (function_at d known h q k)) (leaves_on ran (λ nu _. functions_next d nu)))

  pub functions_over : {κ : Chain} {a b : Moment κ} {whole : Naming → Step (List Units)} → length all ≤ i → Leads whole functions_from a b → Gives whole (λ nu. after ps all) a b
  functions_over h rest = leads_then rest (leads_eq (λ nu go. ap (λ ds. add_functions (at nu) so_far ds go) (drop_of_length-le all h) ∙ ap (λ ds. go (after ps ds)) (take_over all i h)))

pub functions_more : {κ : Chain} → (at : Naming → Name) (ps : List Units) (all : List Declaration) (i : ℕ) (d : Declaration) {a b : Moment κ} {whole : Naming → Step (List Units)} → i < length all → d ≡ get_or all i d →
    Leads whole (functions_next at ps all i d) a b → Leads whole (functions_from at ps all (i + 1)) a b
functions_more at ps all i d h q rest = leads_then rest (leads_eq (λ nu go. ap (λ ns. add_functions (at nu) ns (drop (i + 1) all) go)
    (sym (ap (after ps) (take_more all i d h) ∙ after_last ps (take i all) (get_or all i d) ∙ ap (λ e. declared_name e ∷ after ps (take i all)) (sym q)))))

-- ---- variables, the first i of them declared

-- the names after one that was there, or was not
abbrev pub with_name : List Units → Units → Bool → List Units
with_name names x known = if known then names else x ∷ names

module _ (at : Naming → Name) (all : List Units) (i : ℕ) where
  abbrev pub variables_from : List Units → Naming → Step (Unit {0})
  variables_from names nu go = add_variables (at nu) names (drop i all) go

  abbrev pub variables_next : List Units → Naming → Step (Unit {0})
  variables_next names nu go = add_variables (at nu) names (drop (i + 1) all) go

  abbrev pub variable_step : Units → Bool → Naming → Step (Unit {0})
  variable_step x known nu go = if known then go tt else Ask (Declare (at nu) x Undefined) (λ _. go tt)

  variable_at : (names : List Units) (x : Units) (known : Bool) → i < length all → x ≡ get_or all i x → has names x ≡ known → (nu : Naming) (go : Unit {0} → Prog) →
      variables_from names nu go ≡ variable_step x known nu (λ _. variables_next (with_name names x known) nu go)
  variable_at names x known h q k nu go = ap (λ xs. add_variables (at nu) names xs go) (drop-cons all i x h)
      ∙ (λ j. add_variables (at nu) names (sym q j ∷ drop (sym (add-one i) j) all) go)
      ∙ ap (λ b. if b then variables_next names nu go else Ask (Declare (at nu) x Undefined) (λ _. variables_next (x ∷ names) nu go)) k
      ∙ by known
    where
      by : (b : Bool) → (if b then variables_next names nu go else Ask (Declare (at nu) x Undefined) (λ _. variables_next (x ∷ names) nu go)) ≡ variable_step x b nu (λ _. variables_next (with_name names x b) nu go)
      by true = refl
      by false = refl

  pub variables_goes : {κ : Chain} → (names : List Units) (x : Units) (known : Bool) {a b c : Moment κ} {whole : Naming → Step (Unit {0})} → i < length all → x ≡ get_or all i x → has names x ≡ known →
      Leads whole (variables_from names) a b → Gives (variable_step x known) (λ nu. tt) b c → Leads whole (variables_next (with_name names x known)) a c
  variables_goes names x known h q k rest ran = leads_then rest (leads_then (leads_eq (variable_at names x known h q k)) (gives_on ran (λ nu _. variables_next (with_name names x known) nu)))

  pub variables_out : {κ : Chain} → (names : List Units) (x : Units) (known : Bool) (e : Exit) {a b c : Moment κ} {whole : Naming → Step (Unit {0})} → i < length all → x ≡ get_or all i x → has names x ≡ known →
      Leads whole (variables_from names) a b → Leaves (variable_step x known) e b c → Leaves whole e a c
  variables_out names x known e h q k rest ran = leads_out rest (leads_out (leads_eq (variable_at names x known h q k)) (leaves_on ran (λ nu _. variables_next (with_name names x known) nu)))

  pub variables_over : {κ : Chain} → (names : List Units) {a b : Moment κ} {whole : Naming → Step (Unit {0})} → length all ≤ i → Leads whole (variables_from names) a b → Gives whole (λ nu. tt) a b
  variables_over names h rest = leads_then rest (leads_eq (λ nu go. ap (λ xs. add_variables (at nu) names xs go) (drop_of_length-le all h)))

-- ---- what is tested is what the frame has

units_same : (x y : Units) → same_units x y ≡ true → x ≡ y
units_same [] [] e = refl
units_same [] (b ∷ y) e = absurd (false≢true e)
units_same (a ∷ x) [] e = absurd (false≢true e)
units_same (a ∷ x) (b ∷ y) e = first_same (nat_eq a b) refl e (units_same x y)
  where
    first_same : (c : Bool) → nat_eq a b ≡ c → (c && same_units x y) ≡ true → (same_units x y ≡ true → x ≡ y) → a ∷ x ≡ b ∷ y
    first_same true f g others = let p : a ≡ b = grind (arith, nat_tests) in λ i. p i ∷ others g i
    first_same false f g others = absurd (false≢true g)

all_true : (b t : Bool) → true ≡ (b || (t || true))
all_true true t = refl
all_true false true = refl
all_true false false = refl

there_still : (names : List Units) (x y : Units) (b t : Bool) → has names x ≡ true → has names y ≡ (b || t) → has names y ≡ (b || (t || same_units x y))
there_still names x y b t k e = by (same_units x y) refl
  where
    by : (c : Bool) → same_units x y ≡ c → has names y ≡ (b || (t || c))
    by true q = ap (has names) (sym (units_same x y q)) ∙ k ∙ all_true b t
    by false q = e ∙ ap (λ z. b || z) (or_false t)

or_first : (a b c : Bool) → (a || (b || c)) ≡ (b || (c || a))
or_first true true c = refl
or_first true false true = refl
or_first true false false = refl
or_first false true c = refl
or_first false false true = refl
or_first false false false = refl

pub known_more : (base names all : List Units) (i : ℕ) (x : Units) (known : Bool) → i < length all → x ≡ get_or all i x → has names x ≡ known →
    ((y : Units) → has names y ≡ (has base y || has (take i all) y)) → (y : Units) → has (with_name names x known) y ≡ (has base y || has (take (i + 1) all) y)
known_more base names all i x known h q k same y = by known k ∙ ap (λ z. has base y || z) (sym (ap (λ l. has l y) (take_more all i x h) ∙ has_last (take i all) (get_or all i x) y ∙ ap (λ z. has (take i all) y || same_units z y) (sym q)))
  where
    by : (b : Bool) → has names x ≡ b → has (with_name names x b) y ≡ (has base y || (has (take i all) y || same_units x y))
    by true e = there_still names x y (has base y) (has (take i all) y) e (same y)
    by false e = ap (λ z. same_units x y || z) (same y) ∙ or_first (same_units x y) (has base y) (has (take i all) y)
