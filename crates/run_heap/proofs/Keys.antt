-- Properties by the code's words and by the meaning's.
use Rattle.std.proofs.Common.{◌≡◌, refl, ap, sym, ◌∙◌, subst, ℕ, zero, suc, Bool, true, false, ◌&&◌, true≢false, List, [], ◌∷◌, ◌++◌, length, Option, Some, None, is_some, option_map, cond, map, arith}
use Rattle.std.proofs.lemmas.Bool.Decides.{nat_tests}
use Rattle.std.proofs.lemmas.Map.Keys.{IsDistinct-head, IsDistinct-tail}
use Rattle.std.specs.Prelude.{nat_eq, ◌==◌, IsSome}
use Rattle.std.specs.List.{IsDistinct, AllByRecursion}
use Rattle.std.specs.Cmp.Lexicographic.{pointwise}
use Rattle.std.specs.Map.{lookup, set_value, remove_entry}
use Rattle.std.specs.Map as std
use Rattle.turk_base.specs.Names.{Units, pick, units_eq}
use Rattle.turk_base.specs.Values.{Val, Property, property}
use Rattle.turk_base.specs.Cells.{found, set_key, drop_key, keys_of}
use Rattle.value_cells.specs.declared.Value.{Value}
use Rattle.value_cells.specs.Held.{Key, Props, key_eq}
use Rattle.value_cells.specs.Seen.{Naming, val_in}
use Rattle.run_heap.specs.Placed.{props_in}

first_of : (x y : Bool) → x && y ≡ true → x ≡ true
first_of true y e = refl
first_of false y e = absurd (true≢false (sym e))

second_of : (x y : Bool) → x && y ≡ true → y ≡ true
second_of true y e = e
second_of false y e = absurd (true≢false (sym e))

pub same_key : (a b : Key) → key_eq a b ≡ true → a ≡ b
same_key [] [] e = refl
same_key [] (y ∷ b) e = absurd (true≢false (sym e))
same_key (x ∷ a) [] e = absurd (true≢false (sym e))
same_key (x ∷ a) (y ∷ b) e =
    let h : (x == y) ≡ true = first_of (x == y) (pointwise nat_eq a b) e in
    let one : x ≡ y = grind (arith, nat_tests) in
    λ i. one i ∷ same_key a b (second_of (x == y) (pointwise nat_eq a b) e) i

pub key_same : (a : Key) → key_eq a a ≡ true
key_same [] = refl
key_same (x ∷ a) = let h : (x == x) ≡ true = grind (arith, nat_tests) in rw (h, key_same a) refl

pub pick_key : {B : Type 0} (j k : Key) (u v : B) → pick (units_eq j k) u v ≡ cond (key_eq k j) u v
pick_key {B} j k u v = by (units_eq j k) (key_eq k j) refl
  where
    by : (d : Dec (j ≡ k)) (t : Bool) → key_eq k j ≡ t → pick d u v ≡ cond t u v
    by (yes e) true h = refl
    by (yes e) false h = absurd (true≢false (sym (key_same k) ∙ ap (key_eq k) (sym e) ∙ h))
    by (no n) true h = absurd (n (sym (same_key k j h)))
    by (no n) false h = refl

module _ (nu : Naming) where
  pub found_in : (k : Key) (ps : Props) → found k (props_in nu ps) ≡ option_map (val_in nu) (lookup (key_eq k) ps)
  found_in k [] = refl
  found_in k (e ∷ ps) = pick_key e.0 k (Some (val_in nu e.1)) (found k (props_in nu ps)) ∙ by (key_eq k e.0) (found_in k ps)
    where
      by : (t : Bool) → found k (props_in nu ps) ≡ option_map (val_in nu) (lookup (key_eq k) ps)
          → cond t (Some (val_in nu e.1)) (found k (props_in nu ps)) ≡ option_map (val_in nu) (cond t (Some e.1) (lookup (key_eq k) ps))
      by true h = refl
      by false h = h

  pub set_there : (k : Key) (v : Value) (ps : Props) → IsSome (lookup (key_eq k) ps) → set_key k (val_in nu v) (props_in nu ps) ≡ props_in nu (set_value (key_eq k) ps v)
  set_there k v [] h = absurd (true≢false (sym h))
  set_there k v (e ∷ ps) h =
      pick_key e.0 k (property e.0 (val_in nu v) ∷ props_in nu ps) (property e.0 (val_in nu e.1) ∷ set_key k (val_in nu v) (props_in nu ps)) ∙ by (key_eq k e.0) h (set_there k v ps)
    where
      by : (t : Bool) → IsSome (cond t (Some e.1) (lookup (key_eq k) ps)) → (IsSome (lookup (key_eq k) ps) → set_key k (val_in nu v) (props_in nu ps) ≡ props_in nu (set_value (key_eq k) ps v))
          → cond t (property e.0 (val_in nu v) ∷ props_in nu ps) (property e.0 (val_in nu e.1) ∷ set_key k (val_in nu v) (props_in nu ps)) ≡ props_in nu (cond t ((e.0, v) ∷ ps) (e ∷ set_value (key_eq k) ps v))
      by true h r = refl
      by false h r = ap (λ l. property e.0 (val_in nu e.1) ∷ l) (r h)

  pub set_new : (k : Key) (v : Value) (ps : Props) → lookup (key_eq k) ps ≡ None → set_key k (val_in nu v) (props_in nu ps) ≡ props_in nu (ps ++ (k, v) ∷ [])
  set_new k v [] h = refl
  set_new k v (e ∷ ps) h =
      pick_key e.0 k (property e.0 (val_in nu v) ∷ props_in nu ps) (property e.0 (val_in nu e.1) ∷ set_key k (val_in nu v) (props_in nu ps)) ∙ by (key_eq k e.0) h (set_new k v ps)
    where
      by : (t : Bool) → cond t (Some e.1) (lookup (key_eq k) ps) ≡ None → (lookup (key_eq k) ps ≡ None → set_key k (val_in nu v) (props_in nu ps) ≡ props_in nu (ps ++ (k, v) ∷ []))
          → cond t (property e.0 (val_in nu v) ∷ props_in nu ps) (property e.0 (val_in nu e.1) ∷ set_key k (val_in nu v) (props_in nu ps)) ≡ props_in nu (e ∷ (ps ++ (k, v) ∷ []))
      by true h r = absurd (true≢false (ap is_some h))
      by false h r = ap (λ l. property e.0 (val_in nu e.1) ∷ l) (r h)

  -- a key that no later property has
  drop_none : (k : Key) (ps : Props) → AllByRecursion (λ y. key_eq k y ≡ false) (std.keys_of ps) → drop_key k (props_in nu ps) ≡ props_in nu ps
  drop_none k [] h = refl
  drop_none k (e ∷ ps) h =
      pick_key e.0 k (drop_key k (props_in nu ps)) (property e.0 (val_in nu e.1) ∷ drop_key k (props_in nu ps))
      ∙ ap (λ t. cond t (drop_key k (props_in nu ps)) (property e.0 (val_in nu e.1) ∷ drop_key k (props_in nu ps))) h.0
      ∙ ap (λ l. property e.0 (val_in nu e.1) ∷ l) (drop_none k ps h.1)

  pub drop_in : (k : Key) (ps : Props) → IsDistinct key_eq (std.keys_of ps) → drop_key k (props_in nu ps) ≡ props_in nu (remove_entry (key_eq k) ps)
  drop_in k [] h = refl
  drop_in k (e ∷ ps) h =
      pick_key e.0 k (drop_key k (props_in nu ps)) (property e.0 (val_in nu e.1) ∷ drop_key k (props_in nu ps))
      ∙ by (key_eq k e.0) refl (drop_in k ps (IsDistinct-tail key_eq e.0 (std.keys_of ps) h))
    where
      by : (t : Bool) → key_eq k e.0 ≡ t → drop_key k (props_in nu ps) ≡ props_in nu (remove_entry (key_eq k) ps)
          → cond t (drop_key k (props_in nu ps)) (property e.0 (val_in nu e.1) ∷ drop_key k (props_in nu ps)) ≡ props_in nu (cond t ps (e ∷ remove_entry (key_eq k) ps))
      by true g r = drop_none k ps (subst (λ j. AllByRecursion (λ y. key_eq j y ≡ false) (std.keys_of ps)) (sym (same_key k e.0 g)) (IsDistinct-head key_eq e.0 (std.keys_of ps) h))
      by false g r = ap (λ l. property e.0 (val_in nu e.1) ∷ l) r

  pub keys_in : (ps : Props) → keys_of (props_in nu ps) ≡ std.keys_of ps
  keys_in [] = refl
  keys_in (e ∷ ps) = ap (λ l. e.0 ∷ l) (keys_in ps)

  pub drop_missing : (k : Key) (ps : Props) → lookup (key_eq k) ps ≡ None → drop_key k (props_in nu ps) ≡ props_in nu ps
  drop_missing k [] h = refl
  drop_missing k (e ∷ ps) h =
      pick_key e.0 k (drop_key k (props_in nu ps)) (property e.0 (val_in nu e.1) ∷ drop_key k (props_in nu ps)) ∙ by (key_eq k e.0) h (drop_missing k ps)
    where
      by : (t : Bool) → cond t (Some e.1) (lookup (key_eq k) ps) ≡ None → (lookup (key_eq k) ps ≡ None → drop_key k (props_in nu ps) ≡ props_in nu ps)
          → cond t (drop_key k (props_in nu ps)) (property e.0 (val_in nu e.1) ∷ drop_key k (props_in nu ps)) ≡ property e.0 (val_in nu e.1) ∷ props_in nu ps
      by true h r = absurd (true≢false (ap is_some h))
      by false h r = ap (λ l. property e.0 (val_in nu e.1) ∷ l) (r h)
