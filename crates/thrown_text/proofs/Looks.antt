-- Looking a property up changes no property, and finds what the definitions say.
use Rattle.std.proofs.Common.{◌≡◌, refl, ap, sym, ◌∙◌, subst, ℕ, ◌-◌, nat_lt, Bool, true, false, List, [], ◌∷◌, Option, Some, None, option_map, codes, Result, Ok, Err, IfOk, OnOk}
use Rattle.turk_base.specs.declared.NoMemory.{NoMemory}
use Rattle.turk_base.specs.Names.{Path, Name, Units, name_eq, pick}
use Rattle.turk_base.specs.Values.{Val, Known}
use Rattle.turk_base.specs.Cells.{Props, look, found}
use Rattle.turk_base.specs.State.{St, act, act_change, act_known, with_props, edited, gives}
use Rattle.turk_base.specs.Steps.{or_else, get_in, steps_of}
use Rattle.turk_base.specs.Prog.{Get}
use Rattle.js_tree.specs.Report.{first_found, found_in, found_on, chain_of, error_text}
use Rattle.value_cells.specs.Comes.{Comes, goes, stops, spends, other, then_goes, acted, charged, comes}
use Rattle.value_cells.specs.declared.Value.{Value}
use Rattle.value_cells.specs.Does.{Does, Says}
use Rattle.value_cells.specs.Seen.{Naming, Seen, Fits, Grows, val_in}
use Rattle.thrown_text.specs.Finds.{Alike, text_found, Finds}

same_props : (c m : Name) (f : Name → Props) → pick (name_eq m c) (f c) (f m) ≡ f m
same_props c m f = by (name_eq m c)
  where
    by : (d : Dec (m ≡ c)) → pick d (f c) (f m) ≡ f m
    by (yes e) = ap f (sym e)
    by (no n) = refl

look_alike : (b : Path) (c : Name) (key : Units) (σ : St) → Alike σ (edited b c (look key) σ)
look_alike b c key σ = record { known = refl; props = λ i m. same_props c m σ.props i }

found_alike : {σ τ : St} → Alike σ τ → (l : List Name) (key : Units) → found_in τ l key ≡ found_in σ l key
found_alike a [] key = refl
found_alike {σ} {τ} a (c ∷ cs) key =
    ap (λ p. first_found (found key (p c)) (found_in τ cs key)) a.props ∙ ap (first_found (found key (σ.props c))) (found_alike a cs key)

pub found_on_alike : {σ τ : St} → Alike σ τ → (c : Name) (key : Units) → found_on τ c key ≡ found_on σ c key
found_on_alike {σ} {τ} a c key = found_alike a (chain_of c (τ.known c)) key ∙ ap (λ k. found_in σ (chain_of c (k c)) key) a.known

-- where it answers, it is x, and nothing differs
abbrev pub Looks : St → Option Val → Comes (Option Val) → Type 0
Looks σ x (goes a τ n) = (a ≡ x) × Alike σ τ
Looks σ x (stops why τ n) = Unit {0}
Looks σ x (spends τ n) = Unit {0}
Looks σ x other = Unit {0}

after : {σ τ : St} {x y : Option Val} → Alike σ τ → x ≡ y → (r : Comes (Option Val)) → Looks τ x r → Looks σ y r
after a e (goes v υ n) h = (h.0 ∙ e, record { known = h.1.known ∙ a.known; props = h.1.props ∙ a.props })
after a e (stops why υ n) h = h
after a e (spends υ n) h = h
after a e other h = h

one : (cs : List Name) (c : Name) (key : Units) (s b : Path) (body : Bool) (σ : St) (o : Option Val) (m : ℕ)
    → Looks (edited b c (look key) σ) (found_in (edited b c (look key) σ) cs key) (comes (get_in cs key) s b body (edited b c (look key) σ) m)
    → Looks σ (first_found o (found_in σ cs key)) (comes (or_else o (get_in cs key)) s b body (edited b c (look key) σ) m)
unfolding comes
one cs c key s b body σ (Some v) m h = (refl, look_alike b c key σ)
one cs c key s b body σ None m h = after (look_alike b c key σ) (found_alike (look_alike b c key σ) cs key) _ h

by_known : (cs : List Name) (c : Name) (key : Units) (s b : Path) (body : Bool) (σ : St) (n : ℕ) (t : Bool) (o : Option Known) (m : ℕ)
    → Looks (edited b c (look key) σ) (found_in (edited b c (look key) σ) cs key) (comes (get_in cs key) s b body (edited b c (look key) σ) m)
    → Looks σ (found_in σ (c ∷ cs) key) (charged t 0 σ n (then_goes (acted (act_change o b c (look key) σ) m) (λ a τ k. comes (or_else a (get_in cs key)) s b body τ k)))
by_known cs c key s b body σ n true o m h = tt
by_known cs c key s b body σ n false None m h = tt
by_known cs c key s b body σ n false (Some k) m h = one cs c key s b body σ (found key (σ.props c)) m h

looks_in : (l : List Name) (key : Units) (s b : Path) (body : Bool) (σ : St) (n : ℕ) → Looks σ (found_in σ l key) (comes (get_in l key) s b body σ n)
unfolding comes act
looks_in [] key s b body σ n = (refl, record { known = refl; props = refl })
looks_in (c ∷ cs) key s b body σ n =
    by_known cs c key s b body σ n (nat_lt n 0) (σ.known c) (n - 0) (looks_in cs key s b body (edited b c (look key) σ) (n - 0))

pub looks : (c : Name) (key : Units) (s b : Path) (body : Bool) (σ : St) (n : ℕ) → Looks σ (found_on σ c key) (comes (steps_of (Get c key)) s b body σ n)
unfolding comes act steps_of
looks c key s b body σ n = by (nat_lt n 0) (σ.known c) (n - 0)
  where
    by : (t : Bool) (o : Option Known) (m : ℕ) → Looks σ (found_in σ (chain_of c o) key)
        (charged t 0 σ n (then_goes (acted (act_known o σ) m) (λ k τ j. comes (get_in (c ∷ k.chain) key) s b body τ j)))
    by true o m = tt
    by false None m = tt
    by false (Some k) m = looks_in (c ∷ k.chain) key s b body σ m

-- what a call answered
pub looked : {σ τ : St} {x a : Option Val} {n : ℕ} (r : Comes (Option Val)) → Looks σ x r → r ≡ goes a τ n → (a ≡ x) × Alike σ τ
looked {σ} {τ} {x} {a} {n} r h e = subst (Looks σ x) e h

pub finds : {cell : ℕ} {key : Units} {s t : Seen} (v : Option Value) (text : Option Units) → Does (λ nu. Get (nu cell) key) (λ nu. Says (option_map (val_in nu) v)) s t
    → ((nu : Naming) → text ≡ text_found (option_map (val_in nu) v)) → Finds cell key text s t
finds {cell} {key} {s} {t} v text d e = record {
  grows = d.stays.grows;
  alike = λ nu f. (answer nu f).1;
  found = λ nu f. e nu ∙ ap text_found ((answer nu f).0);
}
  where
    answer : (nu : Naming) → Fits nu t.names → (option_map (val_in nu) v ≡ found_on (s.first nu) (nu cell) key) × Alike (s.first nu) (t.first nu)
    answer nu f = looked _ (looks (nu cell) key s.scope.path s.scope.branch s.scope.body (s.first nu) s.left) (d.did nu f)

fits_before : {nu : Naming} {old new : List Name} → Grows old new → Fits nu new → Fits nu old
fits_before g f = record { agrees = λ i n e. f.agrees i n (g i n e) }

-- what is told of an object, by its name and its message
pub object_is : {cell : ℕ} {key key' : Units} {name message : Option Units} {s t u : Seen} (r : Result Units NoMemory)
    → key ≡ codes "name" → Finds cell key name s t → key' ≡ codes "message" → Finds cell key' message t u
    → IfOk r (λ text. (x y : Option Val) → name ≡ text_found x → message ≡ text_found y → text ≡ error_text x y)
    → IfOk r (λ text. (nu : Naming) → Fits nu u.names → text ≡ error_text (found_on (s.first nu) (nu cell) (codes "name")) (found_on (s.first nu) (nu cell) (codes "message")))
object_is (Err e) k f k' g h = h
object_is {cell} {key} {key'} {name} {message} {s} {t} {u} (Ok text) k f k' g h = λ nu fits.
    let before = fits_before g.grows fits in
    h _ _ (f.found nu before ∙ ap (λ k. text_found (found_on (s.first nu) (nu cell) k)) k)
    (g.found nu fits ∙ ap text_found (found_on_alike (f.alike nu before) (nu cell) key' ∙ ap (found_on (s.first nu) (nu cell)) k'))

pub always : {A B : Type 0} {P : Type 0} (r : Result A B) → P → OnOk r P
always (Ok a) p = p
always (Err e) p = tt
