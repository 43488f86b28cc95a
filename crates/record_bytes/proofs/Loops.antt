-- Reading a count of values one after the other, as a loop does.
use Rattle.std.proofs.Common.{◌≡◌, ℕ, suc, ◌-◌, ◌+◌, ◌≤◌, ◌<◌, List, [], ◌∷◌, ◌++◌, Option, Some, None, Result, zero, refl, sym, ap, subst, ◌∙◌, append_assoc, arith}
use Rattle.std.proofs.lemmas.List.{append-nil}
use Rattle.std.specs.Int.{Width}
use Rattle.turk_base.specs.Data.{Data}
use Rattle.record_bytes.specs.declared.stop.ReadStop.{ReadStop}
use Rattle.record_bytes.specs.declared.stop.ReadStop.TheVariants as stops
use Rattle.record_bytes.specs.Again.{data_is}
use Rattle.record_bytes.specs.Reading.{◌>>=◌, Fails, Gives, Reader, byte_at, tagged_at, parts_at, data_at, number_at, numbers_at, items_at, fields_at, text_at, keyed, field_at}

-- what was read before, and what is still read
abbrev pub with_front : {A : Type 0} → List A → Option (List A × List ℕ) → Option (List A × List ℕ)
with_front front read = read >>= λ x. Some (front ++ x.0, x.1)

regroup : {A : Type 0} (front : List A) (n : A) (read : Option (List A × List ℕ)) → with_front front (read >>= λ x. Some (n ∷ x.0, x.1)) ≡ with_front (front ++ n ∷ []) read
regroup front n (Some x) = ap (λ (ns : List _). Some (ns, x.1)) (simp append_assoc)
regroup front n None = refl

-- a reader of a count of values, one step at a time
pub record IsCounted {A : Type 0} (one : Reader A) (many : ℕ → Reader (List A)) : Type 0 where
  pub none : (bytes : List ℕ) → many 0 bytes ≡ Some ([], bytes)
  pub more : (n : ℕ) (bytes : List ℕ) → many (suc n) bytes ≡ (one bytes >>= λ x. many n x.1 >>= λ xs. Some (x.0 ∷ xs.0, xs.1))

pub goes_on : {A : Type 0} (one : Reader A) (many : ℕ → Reader (List A)) → IsCounted one many → (front : List A) (count i : ℕ) (bytes : List ℕ) (x : A) (after : List ℕ) (total : Option (List A × List ℕ)) → i < count → one bytes ≡ Some (x, after)
    → with_front front (many (count - i) bytes) ≡ total → with_front (front ++ x ∷ []) (many (count - (i + 1)) after) ≡ total
goes_on one many counted front count i bytes x after total lt h so_far =
    let k : count - i ≡ suc (count - (i + 1)) = omega arith in
    let step : many (count - i) bytes ≡ (many (count - (i + 1)) after >>= λ xs. Some (x ∷ xs.0, xs.1)) = ap (λ (n : ℕ). many n bytes) k ∙ counted.more (count - (i + 1)) bytes ∙ ap (λ o. o >>= λ y. many (count - (i + 1)) y.1 >>= λ xs. Some (y.0 ∷ xs.0, xs.1)) h in
    sym (ap (with_front front) step ∙ regroup front x (many (count - (i + 1)) after)) ∙ so_far

pub ends : {A : Type 0} (one : Reader A) (many : ℕ → Reader (List A)) → IsCounted one many → (e : ReadStop) (front : List A) (count i : ℕ) (bytes : List ℕ) (total : Option (List A × List ℕ)) → i < count → Fails e (one bytes)
    → with_front front (many (count - i) bytes) ≡ total → Fails e total
ends one many counted stops.Memory front count i bytes total lt h so_far = tt
ends one many counted stops.Bad front count i bytes total lt h so_far =
    let k : count - i ≡ suc (count - (i + 1)) = omega arith in
    let step : many (count - i) bytes ≡ None = ap (λ (n : ℕ). many n bytes) k ∙ counted.more (count - (i + 1)) bytes ∙ ap (λ o. o >>= λ y. many (count - (i + 1)) y.1 >>= λ xs. Some (y.0 ∷ xs.0, xs.1)) h in
    sym so_far ∙ ap (with_front front) step

pub is_done : {A : Type 0} (one : Reader A) (many : ℕ → Reader (List A)) → IsCounted one many → (front : List A) (count i : ℕ) (bytes : List ℕ) (total : Option (List A × List ℕ)) → count ≤ i → with_front front (many (count - i) bytes) ≡ total → total ≡ Some (front, bytes)
is_done one many counted front count i bytes total le so_far =
    let k : count - i ≡ 0 = omega arith in
    sym so_far ∙ ap (with_front front) (ap (λ (n : ℕ). many n bytes) k ∙ counted.none bytes) ∙ ap (λ (ns : List _). Some (ns, bytes)) (append-nil front)

pub numbers_counted : (w : Width) → IsCounted (number_at w) (numbers_at w)
unfolding numbers_at
numbers_counted w = record { none = λ bytes. refl; more = λ n bytes. refl }

pub items_counted : (read : Reader Data) → IsCounted read (items_at read)
unfolding items_at
items_counted read = record { none = λ bytes. refl; more = λ n bytes. refl }

abbrev joined : {A : Type 0} → A → List A × List ℕ → Option (List A × List ℕ)
joined x xs = Some (x ∷ xs.0, xs.1)

abbrev pair : List ℕ → Data → List ℕ × Data
pair k d = (k, d)

regroup_data : (read : Reader Data) (n : ℕ) (k : List ℕ) (o : Option (Data × List ℕ)) → (o >>= λ d. fields_at read n d.1 >>= joined (pair k d.0)) ≡ ((o >>= keyed k) >>= λ x. fields_at read n x.1 >>= joined x.0)
regroup_data read n k None = refl
regroup_data read n k (Some d) = refl

regroup_field : (read : Reader Data) (n : ℕ) (o : Option (List ℕ × List ℕ)) → (o >>= λ k. read k.1 >>= λ d. fields_at read n d.1 >>= joined (pair k.0 d.0)) ≡ ((o >>= λ k. read k.1 >>= keyed k.0) >>= λ x. fields_at read n x.1 >>= joined x.0)
regroup_field read n None = refl
regroup_field read n (Some k) = regroup_data read n k.0 (read k.1)

pub fields_counted : (read : Reader Data) → IsCounted (field_at read) (fields_at read)
unfolding fields_at
fields_counted read = record { none = λ bytes. refl; more = λ n bytes. regroup_field read n (text_at bytes) }

-- ---- data by its tag

pub data_none : (left : ℕ) (bytes : List ℕ) (e : ReadStop) → Fails e (byte_at bytes) → Fails e (data_at left bytes)
unfolding data_at
data_none left bytes stops.Memory h = tt
data_none zero bytes stops.Bad h = ap (λ o. o >>= λ b. tagged_at None b.0 b.1) h
data_none (suc left) bytes stops.Bad h = ap (λ o. o >>= λ b. tagged_at (Some (data_at left)) b.0 b.1) h

pub data_gives : {X : Type 0} (view : X → Data × List ℕ) (r : Result X ReadStop) (left : ℕ) (bytes : List ℕ) (tag : ℕ) (rest : List ℕ) → byte_at bytes ≡ Some (tag, rest) → Gives view r (tagged_at (parts_at left) tag rest) → Gives view r (data_at left bytes)
data_gives view r left bytes tag rest is given = subst (λ o. Gives view r o) (sym (data_is left bytes tag rest is)) given
