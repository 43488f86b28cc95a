-- What a function of the heap did, from what its parts did.
use Rattle.std.proofs.Common.{◌≡◌, refl, ap, sym, ◌∙◌, subst, ℕ, zero, suc, ◌-◌, ◌<◌, ◌≤◌, nat_lt, Bool, true, false, List, [], ◌∷◌, length, Option, Some, None, slice_get, arith}
use Rattle.std.proofs.lemmas.Option.{slice_get_within}
use Rattle.std.specs.Prelude.{Result, Ok, Err}
use Rattle.std.specs.Result.{IsErrAnd}
use Rattle.turk_base.specs.Names.{Path, path_in, Name}
use Rattle.turk_base.specs.Values.{Val, Refusal}
use Rattle.turk_base.specs.Cells.{Edit, SaysOf, says, edit_cost}
use Rattle.turk_base.specs.State.{St, Op, charge, change, AnswerTo, gives, act, op_cost, if_paid}
use Rattle.turk_base.specs.Steps.{Small, give, step, bind}
use Rattle.value_cells.specs.declared.OpStop.{OpStop}
use Rattle.value_cells.specs.declared.OpStop.TheVariants.{NotWhole, NoPrimitive, TooLong, Spent, Memory}
use Rattle.value_cells.specs.Comes.{Comes, goes, spends, then_goes, comes}
use Rattle.value_cells.specs.Held.{Cell, Held, Props, props_at, IsWhole}
use Rattle.value_cells.specs.Held as held
use Rattle.value_cells.specs.Seen.{Naming, Seen, Scope, Fits, Grows}
use Rattle.value_cells.specs.Does.{Told, Says, Refuses, Spends, Fails, told, told_stop, Did, Kept, Stays, comes_from}
use Rattle.value_cells.proofs.Turns.{stays_then, fits_before}
use Rattle.slot_watch.specs.Slots.{Slots}
use Rattle.run_heap.specs.declared.Place.{Place}
use Rattle.run_heap.specs.Core.{Core, count, names_in}
use Rattle.run_heap.specs.Placed.{placed, Around, seen_in}
use Rattle.run_heap.specs.Placed as spec
use Rattle.run_heap.specs.Works.{Performs, Works}
use Rattle.run_heap.proofs.Tables.{tells}
use Rattle.run_heap.proofs.Acts.{comes_bind, step_goes, step_spends, Edits, change_acts, change_cost}

-- the same scope runs, over the same cells
pub record Keeps (old new : Core) : Type 0 where
  pub path : new.place.path ≡ old.place.path
  pub branch : new.place.branch ≡ old.place.branch
  pub names : names_in new.cells.now ≡ names_in old.cells.now

pub stays_in : (r : Around) (old new : Core) → Keeps old new → Stays (seen_in r old) (seen_in r new)
stays_in r old new k = record {
  scope = λ i. record { path = path_in (k.path i); branch = path_in (k.branch i); body = r.body; back = r.back };
  outer = refl;
  grows = λ i n e. ap (λ l. slice_get l i) k.names ∙ e;
  below = λ i n e l. absurd (let h = slice_get_within (names_in new.cells.now) i n e in omega (arith, h, l, ap length k.names));
}

module _ {A : Type 0} where
  pub works_one : (g : Naming → Small A) (a : Naming → A) (old new : Core) → Keeps old new
      → ((r : Around) (nu : Naming) → Fits nu (names_in new.cells.now) → comes_from (g nu) nu (seen_in r old) ≡ goes (a nu) (placed nu new (r.base nu)) new.left)
      → Works g (λ nu. Says (a nu)) old new
  works_one g a old new k h = record { all = λ r. record { stays = stays_in r old new k; did = h r } }

  pub works_fails : (g : Naming → Small A) (old new : Core) → Keeps old new → Works g (λ nu. Fails) old new
  works_fails g old new k = record { all = λ r. record { stays = stays_in r old new k; did = λ nu f. tt } }

  pub works_spends : (g : Naming → Small A) (c : Core)
      → ((r : Around) (nu : Naming) → Fits nu (names_in c.cells.now) → comes_from (g nu) nu (seen_in r c) ≡ spends (placed nu c (r.base nu)) c.left)
      → Works g (λ nu. Spends) c c
  works_spends g c h = record {
    all = λ r. record {
      stays = stays_in r c c (record { path = refl; branch = refl; names = refl });
      did = λ nu f. (placed nu c (r.base nu), c.left, h r nu f, record { text = refl; opened = refl; verdict = refl });
    };
  }

  -- ---- one part after another

  then_is : {B : Type 0} (g : Small A) (k : A → Small B) (nu : Naming) (s t : Seen) (a : A) → t.scope ≡ s.scope → comes_from g nu s ≡ goes a (t.first nu) t.left
      → comes_from (bind g k) nu s ≡ comes_from (k a) nu t
  then_is g k nu s t a same did =
      comes_bind s.scope.path s.scope.branch s.scope.body g k (s.first nu) s.left
      ∙ ap (λ r. then_goes r (λ a τ m. comes (k a) s.scope.path s.scope.branch s.scope.body τ m)) did
      ∙ ap (λ c. comes (k a) c.path c.branch c.body (t.first nu) t.left) (sym same)

  pub works_then : {B : Type 0} (g : Naming → Small A) (a : Naming → A) (k : Naming → A → Small B) (said : Naming → Told B) (s t u : Core)
      → Works g (λ nu. Says (a nu)) s t → Works (λ nu. k nu (a nu)) said t u → Works (λ nu. bind (g nu) (k nu)) said s u
  works_then g a k said s t u x y = record {
    all = λ r.
        let f = x.all r in
        let l = y.all r in
        record {
          stays = stays_then (seen_in r s) (seen_in r t) (seen_in r u) f.stays l.stays;
          did = λ nu fits. subst (λ c. Did c (said nu) (placed nu u (r.base nu)) u.left)
              (sym (then_is (g nu) (k nu) nu (seen_in r s) (seen_in r t) (a nu) f.stays.scope (f.did nu (fits_before nu (names_in t.cells.now) (names_in u.cells.now) l.stays.grows fits))))
              (l.did nu fits);
        };
  }

  out_as : {B : Type 0} (r : Comes A) (k : A → St → ℕ → Comes B) (e : OpStop) (τ : St) (n : ℕ) → Did r (told_stop e) τ n → Did (then_goes r k) (told_stop e) τ n
  out_as r k NotWhole τ n h = ap (λ r. then_goes r k) h
  out_as r k NoPrimitive τ n h = ap (λ r. then_goes r k) h
  out_as r k TooLong τ n h = ap (λ r. then_goes r k) h
  out_as r k Spent τ n h = (h.0, h.1, ap (λ r. then_goes r k) h.2, h.3)
  out_as r k Memory τ n h = tt

  pub works_out : {B : Type 0} (g : Naming → Small A) (k : Naming → A → Small B) (e : OpStop) (s t : Core) → Works g (λ nu. told_stop e) s t → Works (λ nu. bind (g nu) (k nu)) (λ nu. told_stop e) s t
  works_out g k e s t x = record {
    all = λ r.
        let f = x.all r in
        record {
          stays = f.stays;
          did = λ nu fits. subst (λ c. Did c (told_stop e) (placed nu t (r.base nu)) t.left)
              (sym (comes_bind (path_in s.place.path) (path_in s.place.branch) r.body (g nu) (k nu) (placed nu s (r.base nu)) s.left))
              (out_as (comes_from (g nu) nu (seen_in r s)) (λ a τ m. comes (k nu a) (path_in s.place.path) (path_in s.place.branch) r.body τ m) e (placed nu t (r.base nu)) t.left (f.did nu fits));
        };
  }

-- nothing is done
pub works_give : {A : Type 0} (a : Naming → A) (c : Core) → Works (λ nu. give (a nu)) (λ nu. Says (a nu)) c c
unfolding comes
works_give a c = works_one (λ nu. give (a nu)) a c c (record { path = refl; branch = refl; names = refl }) (λ r nu f. refl)

-- ---- a charge

pub pay_works : (c : Core) (n : ℕ) (left : ℕ) → n ≤ c.left → left ≡ c.left - n → Works (λ nu. step (charge n) give) (λ nu. Says tt) c (record c { left = left })
unfolding act
pay_works c n left h e = works_one (λ nu. step (charge n) give) (λ nu. tt) c (record c { left = left }) (record { path = refl; branch = refl; names = refl })
    (λ r nu f. step_goes (charge n) (path_in c.place.path) (path_in c.place.branch) r.body (placed nu c (r.base nu)) c.left n tt (placed nu c (r.base nu)) refl h refl ∙ ap (goes tt (placed nu c (r.base nu))) (sym e))

pub pay_spends : (c : Core) (n : ℕ) → c.left < n → Works (λ nu. step (charge n) give) (λ nu. Spends) c c
pay_spends c n h = works_spends (λ nu. step (charge n) give) c (λ r nu f. step_spends (charge n) (path_in c.place.path) (path_in c.place.branch) r.body (placed nu c (r.base nu)) c.left h)

-- ---- an edit

pub edit_goes : (i : ℕ) (e : Naming → Edit) (old new : Core) → i < count old → IsWhole old.cells.now → Edits i e old new → names_in new.cells.now ≡ names_in old.cells.now
    → (paid : Bool) (cost : ℕ) → ((nu : Naming) → if_paid paid (edit_cost (e nu) (spec.props_in nu (props_at old.cells.now i))) ≡ cost) → cost ≤ old.left → new.left ≡ old.left - cost
    → (r : Around) (nu : Naming) → Fits nu (names_in new.cells.now)
    → comes_from (step (change paid (nu i) (e nu)) give) nu (seen_in r old) ≡ goes (says (e nu) (spec.props_in nu (props_at old.cells.now i))) (placed nu new (r.base nu)) new.left
edit_goes i e old new here whole h names paid cost is le left r nu fits =
    let before = subst (Fits nu) names fits in
    let apart = tells nu old.cells.now whole before in
    let a = says (e nu) (spec.props_in nu (props_at old.cells.now i)) in
    step_goes (change paid (nu i) (e nu)) (path_in old.place.path) (path_in old.place.branch) r.body (placed nu old (r.base nu)) old.left cost a (placed nu new (r.base nu))
    (change_cost i e old here nu apart (r.base nu) paid ∙ is nu) le (change_acts i e old new here h nu before apart (r.base nu) (path_in old.place.path) r.body paid)
    ∙ ap (goes a (placed nu new (r.base nu))) (sym left)

pub edit_spends : (i : ℕ) (e : Naming → Edit) (old : Core) → i < count old → IsWhole old.cells.now
    → (paid : Bool) → ((nu : Naming) → old.left < if_paid paid (edit_cost (e nu) (spec.props_in nu (props_at old.cells.now i))))
    → (r : Around) (nu : Naming) → Fits nu (names_in old.cells.now)
    → comes_from (step (change paid (nu i) (e nu)) give) nu (seen_in r old) ≡ spends (placed nu old (r.base nu)) old.left
edit_spends i e old here whole paid lt r nu fits =
    let apart = tells nu old.cells.now whole fits in
    step_spends (change paid (nu i) (e nu)) (path_in old.place.path) (path_in old.place.branch) r.body (placed nu old (r.base nu)) old.left
    (subst (λ c. old.left < c) (sym (change_cost i e old here nu apart (r.base nu) paid)) (lt nu))

abbrev pub core : Held → Slots → Place → List Place → ℕ → Core
core cells slots place outer left = record { cells = cells; slots = slots; place = place; outer = outer; left = left }

-- ---- want of memory at an exit

pub fails_exit : {A B : Type 0} (g : Naming → Small A) (f : Naming → B → A) (r : Result B OpStop) (old new : Core) → Keeps old new → IsErrAnd r (λ e. e ≡ Memory) → Works g (λ nu. told (f nu) r) old new
fails_exit g f (Ok b) old new k h = absurd h
fails_exit g f (Err e) old new k h = subst (λ e. Works g (λ nu. told_stop e) old new) (sym h) (works_fails g old new k)

pub keeps_same : (c : Core) → Keeps c c
keeps_same c = record { path = refl; branch = refl; names = refl }

pub err_exit : {A B : Type 0} (g : Naming → Small A) (f : Naming → B → A) (r : Result B OpStop) (x : OpStop) (old new : Core) → IsErrAnd r (λ e. e ≡ x) → Works g (λ nu. told_stop x) old new → Works g (λ nu. told (f nu) r) old new
err_exit g f (Ok b) x old new h y = absurd h
err_exit g f (Err e) x old new h y = subst (λ e. Works g (λ nu. told_stop e) old new) (sym h) y
