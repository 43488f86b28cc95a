-- How steps of a program follow from what the calls on a heap did.
use Rattle.std.proofs.Common.{◌≡◌, ◌∙◌, subst, refl, sym, ap, ℕ, suc, ◌+◌, ◌-◌, ◌<◌, ◌≤◌, length, Bool, true, false, nat_lt, cond, Option, Some, None, Result, Ok, Err, arith, IsErrAnd, ℤ, pos, codes, option_map}
use Rattle.std.specs.Option.{is_some}
use Rattle.std.proofs.lemmas.Bool.Decides.{nat_tests}
use Rattle.turk_base.specs.Names.{Name, cell, root, Units}
use Rattle.turk_base.specs.Values as model
use Rattle.turk_base.specs.Values.{Val, Kind, Refusal, Outcome, Normal}
use Rattle.turk_base.specs.Prog.{Prim, Pay, KindOf, Make, Get, Put, Remove, Prog, Ask, ask, value, refuse, given, made, text_limit}
use Rattle.turk_base.specs.Conversions.{text_in}
use Rattle.turk_base.specs.Errors.{text_from, index_text, error_cell}
use Rattle.turk_base.specs.BuiltIns.{count_up, set_length, separator_in, item_text, spread, put_found, add_piece, swap, move_to, pieces_in, split_pieces, error_of}
use Rattle.turk_base.specs.BuiltIns as spec
use Rattle.convert_rules.specs.declared.kinds.Prim.{Prim as CodePrim}
use Rattle.convert_rules.specs.Prims.{val_of}
use Rattle.value_cells.specs.declared.Value.{Value}
use Rattle.value_cells.specs.declared.Value.TheVariants as code
use Rattle.value_cells.specs.declared.OpStop.{OpStop}
use Rattle.value_cells.specs.declared.OpStop.TheVariants.{NotWhole, NoPrimitive, TooLong, Spent, Memory}
use Rattle.value_cells.specs.Seen.{Naming, Seen, val_in, kind_in}
use Rattle.value_cells.specs.declared.CellKind.{CellKind}
use Rattle.value_cells.specs.declared.CellKind.TheVariants as kind
use Rattle.value_cells.specs.Does.{Says, Does, Onward, Runs, told, told_stop}
use Rattle.value_cells.proofs.Turns.{asks, asks_out, onward_then, onward_same, ended, refused, failed}
use Rattle.builtin_calls.specs.Gives.{Step, Leads, Leaves, Gives, Takes, Answers, IsPrimitive}

-- ---- steps of a program one after another

pub leads_same : {A : Type 0} {f g : Naming → Step A} {s : Seen} → ((nu : Naming) (go : A → Prog) → f nu go ≡ g nu go) → Leads f g s s
leads_same {A} {f} {g} {s} e = record { goes = λ go. subst (λ h. Onward (λ nu. f nu (go nu)) h s s) (λ i nu. e nu (go nu) i) (onward_same {f = λ nu. f nu (go nu)}) }

pub leads_then : {A : Type 0} {f g h : Naming → Step A} {s t u : Seen} → Leads f g s t → Leads g h t u → Leads f h s u
leads_then x y = record { goes = λ go. onward_then (x.goes go) (y.goes go) }

pub leads_out : {A : Type 0} {f g : Naming → Step A} {s t u : Seen} {e : OpStop} → Leads f g s t → Leaves g e t u → Leaves f e s u
leads_out {A} {f} {g} {s} {t} {u} {e} x y = record { ends = λ go. (x.goes go).goes (λ nu. told_stop e) u (y.ends go) }

-- a step that goes on with another
pub gives_on : {A B : Type 0} {f : Naming → Step A} {a : Naming → A} {s t : Seen} → Gives f a s t → (k : Naming → A → Step B) → Leads (λ nu go. f nu (λ a. k nu a go)) (λ nu. k nu (a nu)) s t
gives_on x k = record { goes = λ go. x.goes (λ nu a. k nu a (go nu)) }

pub leaves_on : {A B : Type 0} {f : Naming → Step A} {e : OpStop} {s t : Seen} → Leaves f e s t → (k : Naming → A → Step B) → Leaves (λ nu go. f nu (λ a. k nu a go)) e s t
leaves_on x k = record { ends = λ go. x.ends (λ nu a. k nu a (go nu)) }

pub leaves_lost : {A : Type 0} {f : Naming → Step A} {s : Seen} → Leaves f Memory s s
leaves_lost {A} {f} {s} = record { ends = λ go. failed }

-- ---- the exit of a `?`

pub takes_out : {A B : Type 0} {f : Naming → Step A} {s t : Seen} {e : OpStop} (h : Naming → B → A) (r : Result B OpStop) → IsErrAnd r (λ x. x ≡ e) → Leaves f e s t → Takes f h r s t
takes_out h (Ok b) m x = absurd m
takes_out {A} {B} {f} {s} {t} {e} h (Err y) m x = subst (λ y. Leaves f y s t) (sym m) x

pub runs_out : {B : Type 0} {f : Naming → Prog} {s t : Seen} (h : Naming → B → Outcome) (e : OpStop) (r : Result B OpStop) → IsErrAnd r (λ x. x ≡ e) → Runs f (λ nu. told_stop e) s t → Runs f (λ nu. told (h nu) r) s t
runs_out h e (Ok b) m x = absurd m
runs_out {B} {f} {s} {t} h e (Err y) m x = subst (λ y. Runs f (λ nu. told_stop y) s t) (sym m) x

-- ---- requests, under a key that is another's equal

pub get_takes : {B : Type 0} {cell : ℕ} {key : Units} {s t : Seen} (h : Naming → B → Option Val) (k : Units) (r : Result B OpStop) → key ≡ k
    → Does (λ nu. Get (nu cell) key) (λ nu. told (h nu) r) s t → Takes (λ nu. ask (Get (nu cell) k)) h r s t
get_takes {B} {cell} {key} {s} {t} h k (Ok b) e d = subst (λ k. Takes (λ nu. ask (Get (nu cell) k)) h (Ok b) s t) e (record { goes = λ go. asks {p = λ nu. Get (nu cell) key} {a = λ nu. h nu b} {go = go} d })
get_takes {B} {cell} {key} {s} {t} h k (Err x) e d = subst (λ k. Takes (λ nu. ask (Get (nu cell) k)) h (Err x) s t) e (record { ends = λ go. asks_out {p = λ nu. Get (nu cell) key} {go = go} x d })

pub put_takes : {cell : ℕ} {key : Units} {v : Naming → Val} {s t : Seen} (h : Naming → Unit {0} → Unit {0}) (k : Units) (r : Result (Unit {0}) OpStop) → key ≡ k
    → Does (λ nu. Put (nu cell) key (v nu)) (λ nu. told (h nu) r) s t → Takes (λ nu. ask (Put (nu cell) k (v nu))) h r s t
put_takes {cell} {key} {v} {s} {t} h k (Ok b) e d = subst (λ k. Takes (λ nu. ask (Put (nu cell) k (v nu))) h (Ok b) s t) e (record { goes = λ go. asks {p = λ nu. Put (nu cell) key (v nu)} {a = λ nu. h nu b} {go = go} d })
put_takes {cell} {key} {v} {s} {t} h k (Err x) e d = subst (λ k. Takes (λ nu. ask (Put (nu cell) k (v nu))) h (Err x) s t) e (record { ends = λ go. asks_out {p = λ nu. Put (nu cell) key (v nu)} {go = go} x d })

pub remove_takes : {cell : ℕ} {key : Units} {s t : Seen} (h : Naming → Bool → Bool) (k : Units) (r : Result Bool OpStop) → key ≡ k
    → Does (λ nu. Remove (nu cell) key) (λ nu. told (h nu) r) s t → Takes (λ nu. ask (Remove (nu cell) k)) h r s t
remove_takes {cell} {key} {s} {t} h k (Ok b) e d = subst (λ k. Takes (λ nu. ask (Remove (nu cell) k)) h (Ok b) s t) e (record { goes = λ go. asks {p = λ nu. Remove (nu cell) key} {a = λ nu. h nu b} {go = go} d })
remove_takes {cell} {key} {s} {t} h k (Err x) e d = subst (λ k. Takes (λ nu. ask (Remove (nu cell) k)) h (Err x) s t) e (record { ends = λ go. asks_out {p = λ nu. Remove (nu cell) key} {go = go} x d })

pub pay_takes : {n : ℕ} {s t : Seen} (h : Naming → Unit {0} → Unit {0}) (m : ℕ) (r : Result (Unit {0}) OpStop) → n ≡ m
    → Does (λ nu. Pay n) (λ nu. told (h nu) r) s t → Takes (λ nu. ask (Pay m)) h r s t
pay_takes {n} {s} {t} h m (Ok b) e d = subst (λ n. Takes (λ nu. ask (Pay n)) h (Ok b) s t) e (record { goes = λ go. asks {p = λ nu. Pay n} {a = λ nu. h nu b} {go = go} d })
pay_takes {n} {s} {t} h m (Err x) e d = subst (λ n. Takes (λ nu. ask (Pay n)) h (Err x) s t) e (record { ends = λ go. asks_out {p = λ nu. Pay n} {go = go} x d })

-- ---- what is computed of values alone

pub refuse_leaves : {A : Type 0} {s : Seen} (why : Refusal) (e : OpStop) → (told_stop {A = Outcome} e ≡ told_stop e) → {f : Naming → Step A} → ((nu : Naming) (go : A → Prog) → f nu go ≡ refuse why)
    → Runs (λ nu. refuse why) (λ nu. told_stop e) s s → Leaves f e s s
refuse_leaves {A} {s} why e m {f} same r = record { ends = λ go. subst (λ h. Runs h (λ nu. told_stop e) s s) (λ i nu. sym (same nu (go nu)) i) r }

pub given_takes : {A B : Type 0} (x : Naming → Result A Refusal) (h : B → A) (s : Seen) (r : Result B OpStop) → ((nu : Naming) → Answers h r (x nu)) → Takes (λ nu. given (x nu)) (λ nu. h) r s s
given_takes {A} {B} x h s (Ok b) e = leads_same (λ nu go. ap (λ x. given x go) (e nu))
given_takes {A} {B} x h s (Err NotWhole) e = refuse_leaves model.NotWhole NotWhole refl (λ nu go. ap (λ x. given x go) (e nu)) refused
given_takes {A} {B} x h s (Err NoPrimitive) e = refuse_leaves model.NoPrimitive NoPrimitive refl (λ nu go. ap (λ x. given x go) (e nu)) refused
given_takes {A} {B} x h s (Err TooLong) e = refuse_leaves model.TooLong TooLong refl (λ nu go. ap (λ x. given x go) (e nu)) refused
given_takes {A} {B} x h s (Err Spent) e = absurd (e (λ i. cell root 0))
given_takes {A} {B} x h s (Err Memory) e = leaves_lost

-- ---- a text that is made

made_long : (t : Units) (go : Units → Prog) → text_limit < length t → made t go ≡ refuse model.TooLong
made_long t go h = let yes : nat_lt text_limit (length t) ≡ true = grind (arith, nat_tests) in ap (λ b. cond b (refuse model.TooLong) (Ask (Pay (length t)) (λ _. go t))) yes

made_short : (t : Units) (go : Units → Prog) → length t ≤ text_limit → made t go ≡ Ask (Pay (length t)) (λ _. go t)
made_short t go h = let no : nat_lt text_limit (length t) ≡ false = grind (arith, nat_tests) in ap (λ b. cond b (refuse model.TooLong) (Ask (Pay (length t)) (λ _. go t))) no

pub too_long : {s : Seen} (t : Units) → text_limit < length t → Leaves (λ nu. made t) TooLong s s
too_long t h = refuse_leaves model.TooLong TooLong refl (λ nu go. made_long t go h) refused

pub paid_leads : {s : Seen} (t : Units) → length t ≤ text_limit → Leads (λ nu. made t) (λ nu go. ask (Pay (length t)) (λ _. go t)) s s
paid_leads t h = leads_same (λ nu go. made_short t go h)

-- ---- turns, as many as a count says

pub turns_start : {s : Seen} (turn : Naming → ℕ → Step (Unit {0})) (n : ℕ) → Leads (λ nu. count_up n 0 (turn nu)) (λ nu. count_up (n - 0) 0 (turn nu)) s s
turns_start turn n = let e : n ≡ n - 0 = omega arith in leads_same (λ nu go. ap (λ k. count_up k 0 (turn nu) go) e)

module _ {whole : Naming → Step (Unit {0})} {s t : Seen} (turn : Naming → ℕ → Step (Unit {0})) (n i : ℕ) (so_far : Leads whole (λ nu. count_up (n - i) i (turn nu)) s t) where
  next : i < n → (nu : Naming) (go : Unit {0} → Prog) → count_up (n - i) i (turn nu) go ≡ turn nu i (λ _. count_up (n - (i + 1)) (i + 1) (turn nu) go)
  next h nu go = let e : n - i ≡ suc (n - (i + 1)) = omega arith in let f : suc i ≡ i + 1 = omega arith in ap (λ k. count_up k i (turn nu) go) e ∙ ap (λ j. turn nu i (λ _. count_up (n - (i + 1)) j (turn nu) go)) f

  pub turn_goes : {u : Seen} → i < n → Gives (λ nu. turn nu i) (λ nu. tt) t u → Leads whole (λ nu. count_up (n - (i + 1)) (i + 1) (turn nu)) s u
  turn_goes h x = leads_then so_far (leads_then (leads_same (next h)) (gives_on x (λ nu a. count_up (n - (i + 1)) (i + 1) (turn nu))))

  pub turn_out : {u : Seen} {e : OpStop} → i < n → Leaves (λ nu. turn nu i) e t u → Leaves whole e s u
  turn_out h x = leads_out so_far (leads_out (leads_same (next h)) (leaves_on x (λ nu a. count_up (n - (i + 1)) (i + 1) (turn nu))))

  pub turns_end : n ≤ i → Gives whole (λ nu. tt) s t
  turns_end h = let e : n - i ≡ 0 = omega arith in leads_then so_far (leads_same (λ nu go. ap (λ k. count_up k i (turn nu) go) e))

-- ---- what another step leads to

pub takes_as : {A B : Type 0} {f g : Naming → Step A} {s t : Seen} (u : Seen) (h : Naming → B → A) (r : Result B OpStop) → Leads f g s t → Takes g h r t u → Takes f h r s u
takes_as u h (Ok b) x y = leads_then x y
takes_as u h (Err e) x y = leads_out x y

pub length_takes : {cell : ℕ} {key : Units} {z : ℤ} {s t : Seen} (n : ℕ) (r : Result (Unit {0}) OpStop) → key ≡ codes "length" → z ≡ pos n
    → Does (λ nu. Put (nu cell) key (model.Number z)) (λ nu. told (λ u. u) r) s t → Takes (λ nu. set_length (nu cell) n) (λ nu u. u) r s t
length_takes {cell} {key} {z} {s} {t} n (Ok b) e w d = subst (λ z. Takes (λ nu go. Ask (Put (nu cell) (codes "length") (model.Number z)) (λ _. go tt)) (λ nu u. u) (Ok b) s t) w
    (gives_on (put_takes (λ nu u. u) (codes "length") (Ok b) e d) (λ nu a go. go tt))
length_takes {cell} {key} {z} {s} {t} n (Err x) e w d = subst (λ z. Takes (λ nu go. Ask (Put (nu cell) (codes "length") (model.Number z)) (λ _. go tt)) (λ nu u. u) (Err x) s t) w
    (leaves_on (put_takes (λ nu u. u) (codes "length") (Err x) e d) (λ nu a go. go tt))

-- ---- the text of a primitive

IsText : Value → Type 0
IsText (code.Text t) = Unit {0}
IsText v = ⊥

text_given : (nu : Naming) (v : Value) (go : Units → Prog) → ¬ (IsText v) → text_from (val_in nu v) go ≡ given (text_in (val_in nu v)) (λ t. made t go)
unfolding IsText
text_given nu code.Undefined go n = refl
text_given nu code.Null go n = refl
text_given nu (code.Truth b) go n = refl
text_given nu (code.Number z) go n = refl
text_given nu (code.Text t) go n = absurd (n tt)
text_given nu (code.Object c) go n = refl

no_text : (v : Value) → ((t : Units) → v ≡ code.Text t → ⊥) → ¬ (IsText v)
unfolding IsText
no_text code.Undefined n = λ x. x
no_text code.Null n = λ x. x
no_text (code.Truth b) n = λ x. x
no_text (code.Number z) n = λ x. x
no_text (code.Text t) n = λ x. n t refl
no_text (code.Object c) n = λ x. x

pub text_leads : {s : Seen} (v : Value) (p : CodePrim) (t : Units) → ((t : Units) → v ≡ code.Text t → ⊥) → ((nu : Naming) → IsPrimitive (Some p) (val_in nu v)) → text_in (val_of p) ≡ Ok t
    → Leads (λ nu. text_from (val_in nu v)) (λ nu. made t) s s
text_leads v p t n is e = leads_same (λ nu go. text_given nu v go (no_text v n) ∙ ap (λ x. given x (λ t. made t go)) (ap text_in (sym (is nu)) ∙ e))

pub text_refused : {s : Seen} (v : Value) → ((nu : Naming) → IsPrimitive None (val_in nu v)) → Leaves (λ nu. text_from (val_in nu v)) NoPrimitive s s
text_refused v is = refuse_leaves model.NoPrimitive NoPrimitive refl (λ nu go. let x = is nu in ap (λ v. text_from v go) x.1) refused

-- ---- whole programs

pub onward_eq : {f g : Naming → Prog} {s : Seen} → ((nu : Naming) → f nu ≡ g nu) → Onward f g s s
onward_eq {f} {g} {s} e = subst (λ h. Onward f h s s) (λ i nu. e nu i) (onward_same {f = f})

pub onward_out : {f g : Naming → Prog} {s t u : Seen} (e : OpStop) → Onward f g s t → Runs g (λ nu. told_stop e) t u → Runs f (λ nu. told_stop e) s u
onward_out {f} {g} {s} {t} {u} e x y = x.goes (λ nu. told_stop e) u y

-- it ends with a value
pub runs_value : {f : Naming → Prog} {s t : Seen} (x y : Naming → Val) → Onward f (λ nu. value (x nu)) s t → ((nu : Naming) → x nu ≡ y nu) → Runs f (λ nu. Says (Normal (y nu))) s t
runs_value {f} {s} {t} x y o e = subst (λ (y : Naming → Val). Runs f (λ nu. Says (Normal (y nu))) s t) (λ i nu. e nu i) (o.goes (λ nu. Says (Normal (x nu))) t ended)

-- ---- want of memory

pub out_lost : {A : Type 0} {f g : Naming → Step A} {s t : Seen} → Leads f g s t → Leaves f Memory s t
out_lost x = leads_out x leaves_lost

pub runs_lost : {f g : Naming → Prog} {s t : Seen} → Onward f g s t → Runs f (λ nu. told_stop Memory) s t
runs_lost {f} {g} {s} {t} x = onward_out Memory x failed

-- ---- values that are not undefined, nor null

pub other_separator : {s : Seen} (v : Value) → (v ≡ code.Undefined → ⊥) → Leads (λ nu. separator_in (val_in nu v)) (λ nu. text_from (val_in nu v)) s s
other_separator code.Undefined n = absurd (n refl)
other_separator code.Null n = leads_same (λ nu go. refl)
other_separator (code.Truth b) n = leads_same (λ nu go. refl)
other_separator (code.Number z) n = leads_same (λ nu go. refl)
other_separator (code.Text t) n = leads_same (λ nu go. refl)
other_separator (code.Object c) n = leads_same (λ nu go. refl)

pub other_item : {s : Seen} (v : Value) → (v ≡ code.Undefined → ⊥) → (v ≡ code.Null → ⊥) → Leads (λ nu. item_text (Some (val_in nu v))) (λ nu. text_from (val_in nu v)) s s
other_item code.Undefined n m = absurd (n refl)
other_item code.Null n m = absurd (m refl)
other_item (code.Truth b) n m = leads_same (λ nu go. refl)
other_item (code.Number z) n m = leads_same (λ nu go. refl)
other_item (code.Text t) n m = leads_same (λ nu go. refl)
other_item (code.Object c) n m = leads_same (λ nu go. refl)

-- ---- cells

pub make_takes : {s t : Seen} (k : CellKind) (r : Result ℕ OpStop) → Does (λ nu. Make (kind_in nu k)) (λ nu. told nu r) s t → Takes (λ nu. ask (Make (kind_in nu k))) (λ nu. nu) r s t
make_takes k (Ok b) d = record { goes = λ go. asks {p = λ nu. Make (kind_in nu k)} {a = λ nu. nu b} {go = go} d }
make_takes k (Err x) d = record { ends = λ go. asks_out {p = λ nu. Make (kind_in nu k)} {go = go} x d }

pub kind_gives : {s : Seen} (at : ℕ) (k : CellKind) → Does (λ nu. KindOf (nu at)) (λ nu. Says (kind_in nu k)) s s → Gives (λ nu. ask (KindOf (nu at))) (λ nu. kind_in nu k) s s
kind_gives at k d = record { goes = λ go. asks {p = λ nu. KindOf (nu at)} {a = λ nu. kind_in nu k} {go = go} d }

-- ---- elements that are copied from or to the first index

pub from_first : (a out : Name) (n at : ℕ) (go : Unit {0} → Prog) → spread out a n at go ≡ count_up n 0 (λ i next. ask (Get a (index_text (0 + i))) (λ v. put_found out (at + i) v next)) go
from_first a out n at go = let z : (i : ℕ) → i ≡ 0 + i = λ i. omega arith in λ j. count_up n 0 (λ i next. ask (Get a (index_text (z i j))) (λ v. put_found out (at + i) v next)) go

pub to_first : (a out : Name) (n low : ℕ) (go : Unit {0} → Prog) → count_up n 0 (λ i next. ask (Get a (index_text (low + i))) (λ v. put_found out i v next)) go
    ≡ count_up n 0 (λ i next. ask (Get a (index_text (low + i))) (λ v. put_found out (0 + i) v next)) go
to_first a out n low go = let z : (i : ℕ) → i ≡ 0 + i = λ i. omega arith in λ j. count_up n 0 (λ i next. ask (Get a (index_text (low + i))) (λ v. put_found out (z i j) v next)) go

-- ---- pieces that are put as one value

pub other_kind : {s : Seen} (out i at : ℕ) (k : CellKind) → (k ≡ kind.Array → ⊥)
    → Leads (λ nu. add_piece (nu out) (model.Object (nu i)) at (kind_in nu k)) (λ nu go. ask (Put (nu out) (index_text at) (model.Object (nu i))) (λ _. go (at + 1))) s s
other_kind out i at k n = by k n
  where
    same : (nu : Naming) (go : ℕ → Prog) → ask (Put (nu out) (index_text at) (model.Object (nu i))) (λ _. go (suc at)) ≡ ask (Put (nu out) (index_text at) (model.Object (nu i))) (λ _. go (at + 1))
    same nu go = let e : suc at ≡ at + 1 = omega arith in ap (λ j. ask (Put (nu out) (index_text at) (model.Object (nu i))) (λ _. go j)) e

    by : {s : Seen} (k : CellKind) → (k ≡ kind.Array → ⊥)
        → Leads (λ nu. add_piece (nu out) (model.Object (nu i)) at (kind_in nu k)) (λ nu go. ask (Put (nu out) (index_text at) (model.Object (nu i))) (λ _. go (at + 1))) s s
    by (kind.Frame p) n = leads_same same
    by (kind.Plain p) n = leads_same same
    by kind.Array n = absurd (n refl)
    by (kind.Function m f) n = leads_same same
    by (kind.BuiltIn w) n = leads_same same

pub other_value : {s : Seen} (out at : ℕ) (v : Value) → ((i : ℕ) → v ≡ code.Object i → ⊥)
    → Leads (λ nu go. spec.kind_in (val_in nu v) (λ kind. add_piece (nu out) (val_in nu v) at kind go)) (λ nu go. ask (Put (nu out) (index_text at) (val_in nu v)) (λ _. go (at + 1))) s s
other_value out at v n = by v n
  where
    same : (v : Val) (nu : Naming) (go : ℕ → Prog) → ask (Put (nu out) (index_text at) v) (λ _. go (suc at)) ≡ ask (Put (nu out) (index_text at) v) (λ _. go (at + 1))
    same v nu go = let e : suc at ≡ at + 1 = omega arith in ap (λ j. ask (Put (nu out) (index_text at) v) (λ _. go j)) e

    by : {s : Seen} (v : Value) → ((i : ℕ) → v ≡ code.Object i → ⊥)
        → Leads (λ nu go. spec.kind_in (val_in nu v) (λ kind. add_piece (nu out) (val_in nu v) at kind go)) (λ nu go. ask (Put (nu out) (index_text at) (val_in nu v)) (λ _. go (at + 1))) s s
    by code.Undefined n = leads_same (same model.Undefined)
    by code.Null n = leads_same (same model.Null)
    by (code.Truth b) n = leads_same (same (model.Truth b))
    by (code.Number z) n = leads_same (same (model.Number z))
    by (code.Text t) n = leads_same (same (model.Text t))
    by (code.Object i) n = absurd (n i refl)

-- ---- elements that change places: one is there

pub swap_lower : {s : Seen} (at i j : ℕ) (l u : Option Value) → is_some l ≡ true
    → Leads (λ nu. swap (nu at) i j (option_map (val_in nu) l) (option_map (val_in nu) u)) (λ nu go. move_to (nu at) i (option_map (val_in nu) u) (λ _. move_to (nu at) j (option_map (val_in nu) l) go)) s s
swap_lower at i j None u e = cc
swap_lower at i j (Some v) u e = leads_same (λ nu go. refl)

pub swap_upper : {s : Seen} (at i j : ℕ) (l u : Option Value) → is_some u ≡ true
    → Leads (λ nu. swap (nu at) i j (option_map (val_in nu) l) (option_map (val_in nu) u)) (λ nu go. move_to (nu at) i (option_map (val_in nu) u) (λ _. move_to (nu at) j (option_map (val_in nu) l) go)) s s
swap_upper at i j l None e = cc
swap_upper at i j None (Some v) e = leads_same (λ nu go. refl)
swap_upper at i j (Some w) (Some v) e = leads_same (λ nu go. refl)

pub other_pieces : {s : Seen} (v : Value) (t : Units) → (v ≡ code.Undefined → ⊥) → Leads (λ nu. pieces_in (val_in nu v) t) (λ nu go. text_from (val_in nu v) (λ u. go (split_pieces u t))) s s
other_pieces code.Undefined t n = absurd (n refl)
other_pieces code.Null t n = leads_same (λ nu go. refl)
other_pieces (code.Truth b) t n = leads_same (λ nu go. refl)
other_pieces (code.Number z) t n = leads_same (λ nu go. refl)
other_pieces (code.Text u) t n = leads_same (λ nu go. refl)
other_pieces (code.Object c) t n = leads_same (λ nu go. refl)

pub other_error : {s : Seen} (v : Value) (at : ℕ) → (v ≡ code.Undefined → ⊥)
    → Onward (λ nu. error_of (nu at) (val_in nu v)) (λ nu. text_from (val_in nu v) (λ t. error_cell (nu at) t (λ c. value (model.Object c)))) s s
other_error code.Undefined at n = absurd (n refl)
other_error code.Null at n = onward_eq (λ nu. refl)
other_error (code.Truth b) at n = onward_eq (λ nu. refl)
other_error (code.Number z) at n = onward_eq (λ nu. refl)
other_error (code.Text u) at n = onward_eq (λ nu. refl)
other_error (code.Object c) at n = onward_eq (λ nu. refl)
