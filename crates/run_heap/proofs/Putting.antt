-- The setting of a property, from the steps that the code did.
use Rattle.std.proofs.Common.{◌≡◌, refl, ap, sym, ◌∙◌, subst, ℕ, ℤ, zero, suc, ◌<◌, ◌≤◌, nat_lt, Bool, true, false, true≢false, List, [], ◌∷◌, Option, Some, None, slice_get, cond, if◌then◌else◌, arith}
use Rattle.std.specs.Prelude.{pos, negsuc, Result, Ok, Err}
use Rattle.std.proofs.lemmas.Bool.Decides.{nat_tests}
use Rattle.turk_base.specs.Names.{Units, Name, pick, units_eq}
use Rattle.turk_base.specs.Values as model
use Rattle.turk_base.specs.Values.{Val, Number, Refusal}
use Rattle.turk_base.specs.Cells.{put, trim, grow, length_key, KeyClass, index, past, named, class_of}
use Rattle.turk_base.specs.State.{change}
use Rattle.turk_base.specs.Steps.{Small, give, refuse, step, bind, put_key, set_length, natural, length_from, put_element, put_in, steps_of}
use Rattle.turk_base.specs.Prog.{Put}
use Rattle.turk_base.specs.Conversions.{number_in}
use Rattle.value_cells.specs.declared.Value.{Value}
use Rattle.value_cells.specs.declared.OpStop.{OpStop}
use Rattle.value_cells.specs.declared.OpStop.TheVariants.{NotWhole, NoPrimitive, TooLong, Spent, Memory}
use Rattle.value_cells.specs.declared.CellKind.{CellKind}
use Rattle.value_cells.specs.declared.CellKind.TheVariants.{Frame, Plain, Array, Function, BuiltIn}
use Rattle.value_cells.specs.Comes.{comes, stops}
use Rattle.value_cells.specs.Held.{Key, key_eq, kinds_of, IsWhole}
use Rattle.value_cells.specs.Seen.{Naming, val_in, kind_in}
use Rattle.value_cells.specs.Does.{Told, Says, Refuses, told, told_stop}
use Rattle.run_heap.specs.Core.{Core, count}
use Rattle.run_heap.specs.Lengths.{is_array, length_or_none, NumberIs}
use Rattle.run_heap.specs.Placed.{chain_of}
use Rattle.run_heap.specs.Works.{Works}
use Rattle.run_heap.proofs.Keys.{pick_key}
use Rattle.run_heap.proofs.Chains.{works_known}
use Rattle.run_heap.proofs.Turn.{works_then, works_out, works_fails, keeps_same, stays_in}

-- it is refused, and nothing is done
pub works_refuse : {A : Type 0} (why : Refusal) (c : Core) → Works {A = A} (λ nu. refuse why) (λ nu. Refuses why) c c
unfolding comes
works_refuse why c = record { all = λ r. record { stays = stays_in r c c (keeps_same c); did = λ nu f. refl } }

works_same : {A : Type 0} (f g : Naming → Small A) (said : Naming → Told A) (s t : Core) → ((nu : Naming) → f nu ≡ g nu) → Works f said s t → Works g said s t
works_same f g said s t e y = let same : f ≡ g = λ x nu. e nu x in subst (λ h. Works h said s t) same y

module _ (i : ℕ) where
  -- ---- a length

  pub length_out_of_range : (z : ℤ) (c : Core) → length_or_none z ≡ None → Works (λ nu. set_length (nu i) (natural z)) (λ nu. told_stop TooLong) c c
  length_out_of_range (negsuc n) c e = works_refuse model.TooLong c
  length_out_of_range (pos n) c e = by (nat_lt 1000000 n) refl e
    where
      by : (t : Bool) → nat_lt 1000000 n ≡ t → (if t then None else Some n) ≡ None → Works (λ nu. set_length (nu i) (Some n)) (λ nu. Refuses model.TooLong) c c
      by true h e =
          works_same (λ nu. refuse model.TooLong) (λ nu. set_length (nu i) (Some n)) (λ nu. Refuses model.TooLong) c c
          (λ nu. ap (λ t. if t then refuse model.TooLong else step (change true (nu i) (trim n)) (λ _. put_key (nu i) length_key (Number (pos n)))) (sym h)) (works_refuse model.TooLong c)
      by false h e = cc

  trimmed : Naming → ℕ → Small (Unit {0})
  trimmed nu n = bind (step (change true (nu i) (trim n)) give) (λ _. put_key (nu i) length_key (Number (pos n)))

  fits : (n : ℕ) → n ≤ 1000000 → (nu : Naming) → trimmed nu n ≡ set_length (nu i) (Some n)
  unfolding trimmed
  fits n h nu =
      let t : nat_lt 1000000 n ≡ false = grind (arith, nat_tests) in
      ap (λ t. if t then refuse model.TooLong else step (change true (nu i) (trim n)) (λ _. put_key (nu i) length_key (Number (pos n)))) (sym t)

  pub length_set : (n : ℕ) (said : Naming → Told (Unit {0})) (s t u : Core) → n ≤ 1000000 → Works (λ nu. step (change true (nu i) (trim n)) give) (λ nu. Says tt) s t
      → Works (λ nu. step (change true (nu i) (put length_key (Number (pos n)))) give) said t u → Works (λ nu. set_length (nu i) (Some n)) said s u
  unfolding trimmed
  length_set n said s t u h x y =
      works_same (λ nu. trimmed nu n) (λ nu. set_length (nu i) (Some n)) said s u (fits n h)
      (works_then (λ nu. step (change true (nu i) (trim n)) give) (λ nu. tt) (λ nu _. put_key (nu i) length_key (Number (pos n))) said s t u x y)

  pub length_out : (n : ℕ) (e : OpStop) (s t : Core) → n ≤ 1000000 → Works (λ nu. step (change true (nu i) (trim n)) give) (λ nu. told_stop e) s t → Works (λ nu. set_length (nu i) (Some n)) (λ nu. told_stop e) s t
  unfolding trimmed
  length_out n e s t h x =
      works_same (λ nu. trimmed nu n) (λ nu. set_length (nu i) (Some n)) (λ nu. told_stop e) s t (fits n h)
      (works_out (λ nu. step (change true (nu i) (trim n)) give) (λ nu _. put_key (nu i) length_key (Number (pos n))) e s t x)

  -- a length that a value is
  pub from_ok : (f : Naming → Result ℤ Refusal) (z : ℤ) (said : Naming → Told (Unit {0})) (s t : Core) → ((nu : Naming) → f nu ≡ Ok z) → Works (λ nu. set_length (nu i) (natural z)) said s t → Works (λ nu. length_from (nu i) (f nu)) said s t
  from_ok f z said s t h y = works_same (λ nu. set_length (nu i) (natural z)) (λ nu. length_from (nu i) (f nu)) said s t (λ nu. ap (length_from (nu i)) (sym (h nu))) y

  refuses : (f : Naming → Result ℤ Refusal) (why : Refusal) (c : Core) → ((nu : Naming) → f nu ≡ Err why) → Works (λ nu. length_from (nu i) (f nu)) (λ nu. Refuses why) c c
  refuses f why c h = works_same (λ nu. refuse why) (λ nu. length_from (nu i) (f nu)) (λ nu. Refuses why) c c (λ nu. ap (length_from (nu i)) (sym (h nu))) (works_refuse why c)

  pub from_err : (f : Naming → Result ℤ Refusal) (e : OpStop) (c : Core) → ((nu : Naming) → NumberIs (Err e) (f nu)) → Naming → Works (λ nu. length_from (nu i) (f nu)) (λ nu. told_stop e) c c
  from_err f NotWhole c h nu = refuses f model.NotWhole c h
  from_err f NoPrimitive c h nu = refuses f model.NoPrimitive c h
  from_err f TooLong c h nu = absurd (h nu)
  from_err f Spent c h nu = absurd (h nu)
  from_err f Memory c h nu = works_fails (λ nu. length_from (nu i) (f nu)) c c (keeps_same c)

  -- ---- an element

  module _ (key : Key) (v : Value) where
    pub index_set : (at : ℕ) (said : Naming → Told (Unit {0})) (s t u : Core) → Works (λ nu. step (change true (nu i) (put key (val_in nu v))) give) (λ nu. Says tt) s t
        → Works (λ nu. step (change true (nu i) (grow at)) give) said t u → Works (λ nu. put_element (nu i) key (val_in nu v) (index at)) said s u
    index_set at said s t u x y = works_then (λ nu. step (change true (nu i) (put key (val_in nu v))) give) (λ nu. tt) (λ nu _. step (change true (nu i) (grow at)) give) said s t u x y

    pub index_out : (at : ℕ) (e : OpStop) (s t : Core) → Works (λ nu. step (change true (nu i) (put key (val_in nu v))) give) (λ nu. told_stop e) s t
        → Works (λ nu. put_element (nu i) key (val_in nu v) (index at)) (λ nu. told_stop e) s t
    index_out at e s t x = works_out (λ nu. step (change true (nu i) (put key (val_in nu v))) give) (λ nu _. step (change true (nu i) (grow at)) give) e s t x

    pub element_as : (c : KeyClass) (said : Naming → Told (Unit {0})) (s t : Core) → c ≡ class_of key → Works (λ nu. put_element (nu i) key (val_in nu v) c) said s t → Works (λ nu. put_element (nu i) key (val_in nu v) (class_of key)) said s t
    element_as c said s t e y = subst (λ c. Works (λ nu. put_element (nu i) key (val_in nu v) c) said s t) e y

    pub element_past : (c : Core) → past ≡ class_of key → Works (λ nu. put_element (nu i) key (val_in nu v) (class_of key)) (λ nu. told_stop TooLong) c c
    element_past c e = element_as past (λ nu. Refuses model.TooLong) c c e (works_refuse model.TooLong c)

    array_is : (t : Bool) → key_eq length_key key ≡ t → (nu : Naming) → put_in model.Array (nu i) key (val_in nu v) ≡ cond t (length_from (nu i) (number_in (val_in nu v))) (put_element (nu i) key (val_in nu v) (class_of key))
    array_is t e nu = pick_key key length_key (length_from (nu i) (number_in (val_in nu v))) (put_element (nu i) key (val_in nu v) (class_of key)) ∙ ap (λ t. cond t (length_from (nu i) (number_in (val_in nu v))) (put_element (nu i) key (val_in nu v) (class_of key))) e

    pub array_length : (said : Naming → Told (Unit {0})) (s t : Core) → key_eq length_key key ≡ true → Works (λ nu. length_from (nu i) (number_in (val_in nu v))) said s t → Works (λ nu. put_in model.Array (nu i) key (val_in nu v)) said s t
    array_length said s t e y =
        works_same (λ nu. length_from (nu i) (number_in (val_in nu v))) (λ nu. put_in model.Array (nu i) key (val_in nu v)) said s t (λ nu. sym (array_is true e nu)) y

    pub array_element : (said : Naming → Told (Unit {0})) (s t : Core) → key_eq length_key key ≡ false → Works (λ nu. put_element (nu i) key (val_in nu v) (class_of key)) said s t → Works (λ nu. put_in model.Array (nu i) key (val_in nu v)) said s t
    array_element said s t e y =
        works_same (λ nu. put_element (nu i) key (val_in nu v) (class_of key)) (λ nu. put_in model.Array (nu i) key (val_in nu v)) said s t (λ nu. sym (array_is false e nu)) y

    -- ---- the request

    put_is : (kind : CellKind) → is_array kind ≡ false → (nu : Naming) → put_in (kind_in nu kind) (nu i) key (val_in nu v) ≡ step (change true (nu i) (put key (val_in nu v))) give
    put_is (Frame p) e nu = refl
    put_is (Plain p) e nu = refl
    put_is Array e nu = absurd (true≢false e)
    put_is (Function n f) e nu = refl
    put_is (BuiltIn w) e nu = refl

    array_kind : (kind : CellKind) → is_array kind ≡ true → kind ≡ Array
    array_kind (Frame p) e = absurd (true≢false (sym e))
    array_kind (Plain p) e = absurd (true≢false (sym e))
    array_kind Array e = refl
    array_kind (Function n f) e = absurd (true≢false (sym e))
    array_kind (BuiltIn w) e = absurd (true≢false (sym e))

    puts : (old : Core) → IsWhole old.cells.now → i < count old → (kind : CellKind) → slice_get (kinds_of old.cells.now) i ≡ Some kind → (said : Naming → Told (Unit {0})) (last : Core)
        → Works (λ nu. put_in (kind_in nu kind) (nu i) key (val_in nu v)) said old last → Works (λ nu. steps_of (Put (nu i) key (val_in nu v))) said old last
    unfolding steps_of
    puts old whole here kind e said last y = works_known old whole i here kind e (λ nu k. put_in k.kind (nu i) key (val_in nu v)) said last y

    pub puts_array : (old : Core) → IsWhole old.cells.now → i < count old → (kind : CellKind) → slice_get (kinds_of old.cells.now) i ≡ Some kind → is_array kind ≡ true → (said : Naming → Told (Unit {0})) (last : Core)
        → Works (λ nu. put_in model.Array (nu i) key (val_in nu v)) said old last → Works (λ nu. steps_of (Put (nu i) key (val_in nu v))) said old last
    puts_array old whole here kind e a said last y =
        puts old whole here kind e said last (subst (λ k. Works (λ nu. put_in (kind_in nu k) (nu i) key (val_in nu v)) said old last) (sym (array_kind kind a)) y)

    pub puts_plain : (old : Core) → IsWhole old.cells.now → i < count old → (kind : CellKind) → slice_get (kinds_of old.cells.now) i ≡ Some kind → is_array kind ≡ false → (said : Naming → Told (Unit {0})) (last : Core)
        → Works (λ nu. step (change true (nu i) (put key (val_in nu v))) give) said old last → Works (λ nu. steps_of (Put (nu i) key (val_in nu v))) said old last
    puts_plain old whole here kind e a said last y =
        puts old whole here kind e said last
        (works_same (λ nu. step (change true (nu i) (put key (val_in nu v))) give) (λ nu. put_in (kind_in nu kind) (nu i) key (val_in nu v)) said old last (λ nu. sym (put_is kind a nu)) y)
