-- The steps of reading options.
use Rattle.std.proofs.Common.{◌≡◌, ℕ, ◌<◌, ◌≤◌, ◌+◌, Bor, List, [], ◌∷◌, length, get_or, drop, map, Option, Some, None, Err, suc, zero, refl, sym, ap, ◌∙◌, arith, add-one, option_map}
use Rattle.std.specs.Prelude.{option_and_then}
use Rattle.std.proofs.lemmas.Option.{none-some, same_Some}
use Rattle.command_words.specs.Options.{Answers, taken, options_from}
use Rattle.command_words.specs.declared.WordStop.{WordStop}
use Rattle.command_words.specs.declared.WordStop.TheVariants.{Usage, Memory}
use Rattle.command_words.specs.declared.options.Choices.{Choices}
use Rattle.command_words.specs.declared.options.Key.{Key}

pub map_some : {A B : Type 0} (f : A → B) (o : Option A) (y : B) → option_map f o ≡ Some y → (x : A) × (o ≡ Some x) × (f x ≡ y)
map_some f None y e = absurd (none-some y e)
map_some f (Some x) y e = (x, refl, same_Some _ _ e)

pub and_then_some : {A B : Type 0} (f : A → Option B) (o : Option A) (y : B) → option_and_then f o ≡ Some y → (x : A) × (o ≡ Some x) × (f x ≡ Some y)
and_then_some f None y e = absurd (none-some y e)
and_then_some f (Some x) y e = (x, refl, e)

-- ---- words that are lent

-- what is lent
abbrev pub lent : List (Bor (List ℕ)) → List (List ℕ)
lent ws = map (λ w. w.now) ws

drop_lent : (ws : List (Bor (List ℕ))) (i : ℕ) (d : Bor (List ℕ)) → i < length ws → drop i (lent ws) ≡ (get_or ws i d).now ∷ drop (suc i) (lent ws)
drop_lent [] i d lt = absurd (omega arith)
drop_lent (w ∷ ws) zero d lt = refl
drop_lent (w ∷ ws) (suc i) d lt = drop_lent ws i d (omega arith)

none_left : (ws : List (Bor (List ℕ))) (i : ℕ) → length ws ≤ i → drop i (lent ws) ≡ []
none_left [] zero le = refl
none_left [] (suc i) le = refl
none_left (w ∷ ws) zero le = absurd (omega arith)
none_left (w ∷ ws) (suc i) le = none_left ws i (omega arith)

-- the words from a place on, where there is one
at_word : (ws : List (Bor (List ℕ))) (i : ℕ) (d : Bor (List ℕ)) (k : Option Key) (c : Choices) → i < length ws
    → options_from (drop i (lent ws)) k c ≡ option_and_then (λ s. options_from (drop (i + 1) (lent ws)) s.0 s.1) (taken k (get_or ws i d).now c)
at_word ws i d k c lt =
    ap (λ l. options_from l k c) (drop_lent ws i d lt)
    ∙ ap (λ n. option_and_then (λ s. options_from (drop n (lent ws)) s.0 s.1) (taken k (get_or ws i d).now c)) (sym (add-one i))

pub word_taken : (ws : List (Bor (List ℕ))) (i : ℕ) (d : Bor (List ℕ)) (k : Option Key) (c : Choices) (l : Option Key) (e : Choices) (due : Option Choices) → i < length ws
    → taken k (get_or ws i d).now c ≡ Some (l, e) → options_from (drop i (lent ws)) k c ≡ due → options_from (drop (i + 1) (lent ws)) l e ≡ due
word_taken ws i d k c l e due lt is same = sym (at_word ws i d k c lt ∙ ap (option_and_then (λ s. options_from (drop (i + 1) (lent ws)) s.0 s.1)) is) ∙ same

pub word_refused : (ws : List (Bor (List ℕ))) (i : ℕ) (d : Bor (List ℕ)) (k : Option Key) (c : Choices) (stop : WordStop) (due : Option Choices) → i < length ws
    → Answers (taken k (get_or ws i d).now c) (Err stop) → options_from (drop i (lent ws)) k c ≡ due → Answers due (Err stop)
word_refused ws i d k c Usage due lt is same = sym same ∙ at_word ws i d k c lt ∙ ap (option_and_then (λ s. options_from (drop (i + 1) (lent ws)) s.0 s.1)) is
word_refused ws i d k c Memory due lt is same = tt

pub all_taken : (ws : List (Bor (List ℕ))) (i : ℕ) (k l : Option Key) (c : Choices) (due : Option Choices) → length ws ≤ i → k ≡ l → options_from (drop i (lent ws)) k c ≡ due → due ≡ options_from [] l c
all_taken ws i k l c due le is same = sym same ∙ ap (λ x. options_from x k c) (none_left ws i le) ∙ ap (λ x. options_from [] x c) is
