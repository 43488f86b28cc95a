-- Bytes are the log of one list of entries at most, or broken at one place, and not both.
use Rattle.std.specs.Prelude.{◌≡◌, ◌≢◌, ◌^◌, ◌<◌, ◌≤◌, ℕ, List, [], ◌∷◌, ◌++◌, length, refl}
use Rattle.std.proofs.Common.{sym, ◌∙◌, ap, arith, append_assoc, inl, inr, length-append}
use Rattle.gate_log.specs.Log.{size_bytes, length-size_bytes, size_bytes-same, blocks, AreShort, IsGated, IsLog, NoBlock, IsBroken}

head_of : List ℕ → ℕ
head_of [] = 0
head_of (x ∷ xs) = x

rest_of : List ℕ → List ℕ
rest_of [] = []
rest_of (x ∷ xs) = xs

pub heads : (x y : ℕ) (xs ys : List ℕ) → x ∷ xs ≡ y ∷ ys → x ≡ y
unfolding head_of
heads x y xs ys e = ap head_of e

pub rests : (x y : ℕ) (xs ys : List ℕ) → x ∷ xs ≡ y ∷ ys → xs ≡ ys
unfolding rest_of
rests x y xs ys e = ap rest_of e

-- two fronts of one length
pub parts : (a b x y : List ℕ) → length a ≡ length b → a ++ x ≡ b ++ y → (a ≡ b) × (x ≡ y)
parts [] [] x y same e = (refl, e)
parts [] (c ∷ b) x y same e = absurd (let never : ⊥ = omega arith in never)
parts (c ∷ a) [] x y same e = absurd (let never : ⊥ = omega arith in never)
parts (c ∷ a) (d ∷ b) x y same e =
    let more = parts a b x y (omega arith) (rests c d (a ++ x) (b ++ y) e) in
    ((λ i. heads c d (a ++ x) (b ++ y) e i ∷ more.0 i), more.1)

-- no entry behind its length begins another
pub two_entries : (e f x y : List ℕ) → length e < 2 ^ 32 → length f < 2 ^ 32 → size_bytes (length e) ++ (e ++ x) ≡ size_bytes (length f) ++ (f ++ y) → (e ≡ f) × (x ≡ y)
two_entries e f x y short short_too is =
    let fronts = parts (size_bytes (length e)) (size_bytes (length f)) (e ++ x) (f ++ y) (length-size_bytes (length e) ∙ sym (length-size_bytes (length f))) is in
    parts e f x y (size_bytes-same (length e) (length f) short short_too fronts.0) fronts.1

regroup : (e : List ℕ) (es : List (List ℕ)) (x : List ℕ) → (size_bytes (length e) ++ (e ++ blocks es)) ++ x ≡ size_bytes (length e) ++ (e ++ (blocks es ++ x))
regroup e es x = append_assoc (size_bytes (length e)) (e ++ blocks es) x ∙ ap (λ (l : List ℕ). size_bytes (length e) ++ l) (append_assoc e (blocks es) x)

-- behind any entries stands something
front_of : (es : List (List ℕ)) (g : ℕ) (x : List ℕ) → (h : ℕ) × (y : List ℕ) × (blocks es ++ g ∷ x ≡ h ∷ y)
front_of [] g x = (g, x, refl)
front_of (e ∷ es) g x = (165, (size_bytes (length e) ++ (e ++ blocks es)) ++ g ∷ x, refl)

one_list : (es fs : List (List ℕ)) (g h : ℕ) (x y : List ℕ) → AreShort es → AreShort fs → g ≢ 165 → h ≢ 165 → blocks es ++ g ∷ x ≡ blocks fs ++ h ∷ y → es ≡ fs
one_list [] [] g h x y short short_too not_g not_h e = refl
one_list [] (f ∷ fs) g h x y short short_too not_g not_h e = absurd (not_g (heads _ _ _ _ e))
one_list (f ∷ es) [] g h x y short short_too not_g not_h e = absurd (not_h (sym (heads _ _ _ _ e)))
one_list (e1 ∷ es) (e2 ∷ fs) g h x y short short_too not_g not_h e =
    let two = two_entries e1 e2 (blocks es ++ g ∷ x) (blocks fs ++ h ∷ y) short.0 short_too.0 (sym (regroup e1 es (g ∷ x)) ∙ rests _ _ _ _ e ∙ regroup e2 fs (h ∷ y)) in
    λ i. two.0 i ∷ one_list es fs g h x y short.1 short_too.1 not_g not_h two.1 i

pub one_gated : (c : List ℕ) (es fs : List (List ℕ)) → IsGated c es → IsGated c fs → es ≡ fs
one_gated c es fs a b = one_list es fs a.0 b.0 a.1 b.1 a.2 b.2 a.3 b.3 (sym a.4 ∙ b.4)

-- entries stand only in more than one byte
gated_short : (c : List ℕ) (es : List (List ℕ)) → length c ≤ 1 → IsGated c es → es ≡ []
gated_short c [] few gated = refl
gated_short c (e ∷ es) few gated =
    absurd (let never : ⊥ = omega (arith, few, ap length gated.4, length-append (blocks (e ∷ es)) (gated.0 ∷ gated.1), length-append (size_bytes (length e)) (e ++ blocks es), length-size_bytes (length e)) in never)

-- a file is the log of one list at most
pub one_log : (c : List ℕ) (es fs : List (List ℕ)) → IsLog c es → IsLog c fs → es ≡ fs
one_log c es fs (inl a) (inl b) = a.1 ∙ sym b.1
one_log c es fs (inl a) (inr b) = a.1 ∙ sym (gated_short c fs a.0 b)
one_log c es fs (inr a) (inl b) = gated_short c es b.0 a ∙ sym b.1
one_log c es fs (inr a) (inr b) = one_gated c es fs a b

none_behind : (es fs : List (List ℕ)) (g : ℕ) (x y : List ℕ) → AreShort es → AreShort fs → NoBlock x → g ≢ 165 → blocks es ++ 165 ∷ x ≡ blocks fs ++ g ∷ y → ⊥
none_behind [] [] g x y short short_too none not_g e = not_g (sym (heads _ _ _ _ e))
none_behind [] (f ∷ fs) g x y short short_too none not_g e =
    let next = front_of fs g y in
    none f next.1 next.0 short_too.0 (rests _ _ _ _ e ∙ regroup f fs (g ∷ y) ∙ ap (λ (l : List ℕ). size_bytes (length f) ++ (f ++ l)) next.2)
none_behind (e1 ∷ es) [] g x y short short_too none not_g e = not_g (sym (heads _ _ _ _ e))
none_behind (e1 ∷ es) (e2 ∷ fs) g x y short short_too none not_g e =
    let two = two_entries e1 e2 (blocks es ++ 165 ∷ x) (blocks fs ++ g ∷ y) short.0 short_too.0 (sym (regroup e1 es (165 ∷ x)) ∙ rests _ _ _ _ e ∙ regroup e2 fs (g ∷ y)) in
    none_behind es fs g x y short.1 short_too.1 none not_g two.1

-- a file that is a log isn't broken
pub not_broken : (c : List ℕ) (es : List (List ℕ)) (place : ℕ) → IsLog c es → IsBroken c place → ⊥
not_broken c es place (inl few) broken = omega (arith, few.0, broken.2)
not_broken c es place (inr gated) broken = none_behind broken.0 es gated.0 broken.1 gated.1 broken.3 gated.2 broken.6 gated.3 (sym broken.5 ∙ gated.4)

one_end : (es fs : List (List ℕ)) (x y : List ℕ) → AreShort es → AreShort fs → NoBlock x → NoBlock y → blocks es ++ 165 ∷ x ≡ blocks fs ++ 165 ∷ y → es ≡ fs
one_end [] [] x y short short_too none none_too e = refl
one_end [] (f ∷ fs) x y short short_too none none_too e =
    let next = front_of fs 165 y in
    absurd (none f next.1 next.0 short_too.0 (rests _ _ _ _ e ∙ regroup f fs (165 ∷ y) ∙ ap (λ (l : List ℕ). size_bytes (length f) ++ (f ++ l)) next.2))
one_end (f ∷ es) [] x y short short_too none none_too e =
    let next = front_of es 165 x in
    absurd (none_too f next.1 next.0 short.0 (sym (rests _ _ _ _ e) ∙ regroup f es (165 ∷ x) ∙ ap (λ (l : List ℕ). size_bytes (length f) ++ (f ++ l)) next.2))
one_end (e1 ∷ es) (e2 ∷ fs) x y short short_too none none_too e =
    let two = two_entries e1 e2 (blocks es ++ 165 ∷ x) (blocks fs ++ 165 ∷ y) short.0 short_too.0 (sym (regroup e1 es (165 ∷ x)) ∙ rests _ _ _ _ e ∙ regroup e2 fs (165 ∷ y)) in
    λ i. two.0 i ∷ one_end es fs x y short.1 short_too.1 none none_too two.1 i

-- a broken file is broken at one place
pub one_place : (c : List ℕ) (place other : ℕ) → IsBroken c place → IsBroken c other → place ≡ other
one_place c place other a b =
    a.4 ∙ ap (λ (l : List (List ℕ)). length (blocks l)) (one_end a.0 b.0 a.1 b.1 a.3 b.3 a.6 b.6 (sym a.5 ∙ b.5)) ∙ sym b.4
