-- Keys that are looked up among keys with their numbers.
use Rattle.std.proofs.Common.{◌≡◌, refl, ap, sym, ◌∙◌, subst, ℕ, zero, suc, Bool, true, false, ◌&&◌, true≢false, List, [], ◌∷◌, ◌++◌, length, Some, None, Option, option_map, slice_get, cond, arith}
use Rattle.std.proofs.lemmas.Bool.Decides.{nat_tests}
use Rattle.std.proofs.Common.{insert}
use Rattle.std.proofs.Math.Seq.{drop-length, take-length}
use Rattle.std.proofs.lemmas.List.{map-append, length-map}
use Rattle.std.proofs.lemmas.Option.{slice_get-map}
use Rattle.std.proofs.lemmas.Map.Entries.{place_from_lookup}
use Rattle.std.specs.Prelude.{nat_eq, ◌==◌}
use Rattle.std.specs.Cmp.Lexicographic.{pointwise}
use Rattle.std.specs.Map.{lookup, keys_of}
use Rattle.key_table.specs.Keys.{Key, HasNumber, HasNone, Numbers, AreDistinct, Grows}

first_of : (x y : Bool) → x && y ≡ true → x ≡ true
first_of true y e = refl
first_of false y e = absurd (true≢false (sym e))

second_of : (x y : Bool) → x && y ≡ true → y ≡ true
second_of true y e = e
second_of false y e = absurd (true≢false (sym e))

pub same_key : (a b : Key) → pointwise nat_eq a b ≡ true → a ≡ b
same_key [] [] e = refl
same_key [] (y ∷ b) e = absurd (true≢false (sym e))
same_key (x ∷ a) [] e = absurd (true≢false (sym e))
same_key (x ∷ a) (y ∷ b) e =
    let h : (x == y) ≡ true = first_of (x == y) (pointwise nat_eq a b) e in
    let one : x ≡ y = grind (arith, nat_tests) in
    λ i. one i ∷ same_key a b (second_of (x == y) (pointwise nat_eq a b) e) i

pub key_same : (a : Key) → pointwise nat_eq a a ≡ true
key_same [] = refl
key_same (x ∷ a) = let h : (x == x) ≡ true = grind (arith, nat_tests) in rw (h, key_same a) refl

-- a pair of a key with its number
module _ (es : List (Key × ℕ)) (numbered : (i : ℕ) (e : Key × ℕ) → slice_get es i ≡ Some e → e.1 ≡ suc i) where
  pub found : (key : Key) (n : ℕ) → lookup (pointwise nat_eq key) es ≡ Some n → HasNumber (keys_of es) key n
  found key n e =
      let p = place_from_lookup (pointwise nat_eq key) es n e in
      record {
        place = p.0;
        number_is = numbered p.0 (p.1, n) p.2;
        stands = slice_get-map (λ e. e.0) es p.0 ∙ ap (option_map (λ (e : Key × ℕ). e.0)) p.2 ∙ ap Some (sym (same_key key p.1 p.3));
      }

missing_in : (es : List (Key × ℕ)) (key : Key) → lookup (pointwise nat_eq key) es ≡ None → (i : ℕ) → slice_get (keys_of es) i ≡ Some key → ⊥
missing_in [] key e i h = cc
missing_in (p ∷ es) key e i h = by (pointwise nat_eq key p.0) refl e i h (missing_in es key)
  where
    by : (b : Bool) → pointwise nat_eq key p.0 ≡ b → cond b (Some p.1) (lookup (pointwise nat_eq key) es) ≡ None → (i : ℕ) → slice_get (p.0 ∷ keys_of es) i ≡ Some key
        → (lookup (pointwise nat_eq key) es ≡ None → (i : ℕ) → slice_get (keys_of es) i ≡ Some key → ⊥) → ⊥
    by true t e i h rest = cc
    by false t e zero h rest = let s : p.0 ≡ key = cc in true≢false (sym (key_same key) ∙ ap (pointwise nat_eq key) (sym s) ∙ t)
    by false t e (suc i) h rest = rest e i h

pub missing : (es : List (Key × ℕ)) (key : Key) → lookup (pointwise nat_eq key) es ≡ None → HasNone (keys_of es) key
missing es key e = record { missing = missing_in es key e }

no_lookup : (es : List (Key × ℕ)) (key : Key) → ((i : ℕ) → slice_get (keys_of es) i ≡ Some key → ⊥) → lookup (pointwise nat_eq key) es ≡ None
no_lookup [] key h = refl
no_lookup (p ∷ es) key h = by (pointwise nat_eq key p.0) refl (no_lookup es key (λ i. h (suc i)))
  where
    by : (b : Bool) → pointwise nat_eq key p.0 ≡ b → lookup (pointwise nat_eq key) es ≡ None → cond b (Some p.1) (lookup (pointwise nat_eq key) es) ≡ None
    by true t r = absurd (h 0 (ap Some (sym (same_key key p.0 t))))
    by false t r = r

pub none : (es : List (Key × ℕ)) (key : Key) → HasNone (keys_of es) key → lookup (pointwise nat_eq key) es ≡ None
none es key h = no_lookup es key h.missing

-- what was looked up
pub told : (es : List (Key × ℕ)) (numbered : (i : ℕ) (e : Key × ℕ) → slice_get es i ≡ Some e → e.1 ≡ suc i) (key : Key) (o : Option ℕ) → lookup (pointwise nat_eq key) es ≡ o → Numbers (keys_of es) key o
told es numbered key (Some n) e = found es numbered key n e
told es numbered key None e = missing es key e

-- ---- a key is added

pub get_front : {A : Type 0} (xs ys : List A) (i : ℕ) (x : A) → slice_get xs i ≡ Some x → slice_get (xs ++ ys) i ≡ Some x
get_front [] ys i x h = cc
get_front (y ∷ xs) ys zero x h = h
get_front (y ∷ xs) ys (suc i) x h = get_front xs ys i x h

pub get_last : {A : Type 0} (xs : List A) (x : A) → slice_get (xs ++ x ∷ []) (length xs) ≡ Some x
get_last [] x = refl
get_last (y ∷ xs) x = get_last xs x

-- what stands in a list with one more at its end
pub pushed : {A : Type 0} (P : ℕ → A → Type 0) (xs : List A) (y : A) → ((i : ℕ) (x : A) → slice_get xs i ≡ Some x → P i x) → P (length xs) y
    → (i : ℕ) (x : A) → slice_get (xs ++ y ∷ []) i ≡ Some x → P i x
pushed P [] y old new zero x e = let h : y ≡ x = cc in subst (P 0) h new
pushed P [] y old new (suc i) x e = cc
pushed P (z ∷ xs) y old new zero x e = old 0 x e
pushed P (z ∷ xs) y old new (suc i) x e = pushed (λ j. P (suc j)) xs y (λ j. old (suc j)) new i x e

distinct_push : (ks : List Key) (key : Key) → AreDistinct ks → HasNone ks key → AreDistinct (ks ++ key ∷ [])
distinct_push ks key d h = record {
  once = λ i j k e f. pushed (λ i k. slice_get (ks ++ key ∷ []) j ≡ Some k → i ≡ j) ks key (old j) (new j) i k e f;
}
  where
    old : (j i : ℕ) (k : Key) → slice_get ks i ≡ Some k → slice_get (ks ++ key ∷ []) j ≡ Some k → i ≡ j
    old j i k e f = pushed (λ j m. m ≡ k → i ≡ j) ks key (λ j m g q. d.once i j k e (g ∙ ap Some q)) (λ q. absurd (h.missing i (e ∙ ap Some (sym q)))) j k f refl

    new : (j : ℕ) → slice_get (ks ++ key ∷ []) j ≡ Some key → length ks ≡ j
    new j f = pushed (λ j m. m ≡ key → length ks ≡ j) ks key (λ j m g q. absurd (h.missing j (g ∙ ap Some q))) (λ q. refl) j key f refl

module _ (es fs : List (Key × ℕ)) (key : Key) (place n : ℕ) (number : n ≡ suc place) (at_end : place ≡ length es) (is : fs ≡ insert es place (key, n)) where
  is_last : fs ≡ es ++ (key, n) ∷ []
  is_last = is ∙ ap (λ p. insert es p (key, n)) at_end ∙ (λ i. take-length es i ++ (key, n) ∷ drop-length es i)

  keys_are : keys_of fs ≡ keys_of es ++ key ∷ []
  keys_are = ap keys_of is_last ∙ map-append (λ (e : Key × ℕ). e.0) es ((key, n) ∷ [])

  pub numbered_more : ((i : ℕ) (e : Key × ℕ) → slice_get es i ≡ Some e → e.1 ≡ suc i) → (i : ℕ) (e : Key × ℕ) → slice_get fs i ≡ Some e → e.1 ≡ suc i
  numbered_more h i e f = pushed (λ i e. e.1 ≡ suc i) es (key, n) h (number ∙ ap suc at_end) i e (ap (λ l. slice_get l i) (sym is_last) ∙ f)

  pub distinct_more : AreDistinct (keys_of es) → HasNone (keys_of es) key → AreDistinct (keys_of fs)
  distinct_more d h = subst AreDistinct (sym keys_are) (distinct_push (keys_of es) key d h)

  pub has_number : HasNumber (keys_of fs) key n
  has_number = record {
    place = length (keys_of es);
    number_is = number ∙ ap suc (at_end ∙ sym (length-map es (λ (e : Key × ℕ). e.0)));
    stands = ap (λ l. slice_get l (length (keys_of es))) keys_are ∙ get_last (keys_of es) key;
  }

  pub grows_more : Grows (keys_of es) (keys_of fs)
  grows_more = record { stays = λ i k e. ap (λ l. slice_get l i) keys_are ∙ get_front (keys_of es) (key ∷ []) i k e }

pub grows_same : (ks js : List Key) → js ≡ ks → Grows ks js
grows_same ks js h = record { stays = λ i k e. ap (λ l. slice_get l i) h ∙ e }
