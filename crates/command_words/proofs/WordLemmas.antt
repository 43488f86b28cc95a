-- Lists of words that are lent.
use Rattle.std.proofs.Common.{◌≡◌, ℕ, ◌≤◌, List, [], ◌∷◌, length, get_or, take, drop, Bool, true, false, Some, None, refl, sym, ap, ◌∙◌, arith, cond, Bor, suc, ◌-◌}
use Rattle.std.specs.List.{list_all}
use Rattle.std.proofs.Math.Seq.{take-length}
use Rattle.std.proofs.lemmas.List.{take-map, drop-map}
use Rattle.std.proofs.lemmas.List.Folds.{list_all-map}
use Rattle.std.proofs.lemmas.Bool.Decides.{nat_tests}
use Rattle.command_words.specs.Words.{is_file, after_files}
use Rattle.command_words.proofs.OptionLemmas.{lent}

pub length-lent : (ws : List (Bor (List ℕ))) → length (lent ws) ≡ length ws
length-lent [] = refl
length-lent (w ∷ ws) = ap suc (length-lent ws)

at : (n : ℕ) (ws : List (List ℕ)) (m : ℕ) → m ≡ length ws → n ≤ m → (b : Bool) → b ≡ list_all is_file (take n ws) → after_files n ws ≡ cond b (Some (drop n ws)) None
at n ws m is le true e = grind (arith, nat_tests)
at n ws m is le false e = grind (arith, nat_tests)

files_then : (n : ℕ) (ws : List (Bor (List ℕ))) (b : Bool) → n ≤ length ws → b ≡ list_all (λ w. is_file w.now) (take n ws)
    → after_files n (lent ws) ≡ cond b (Some (lent (drop n ws))) None
files_then n ws b le e =
    at n (lent ws) (length ws) (sym (length-lent ws)) le b (e ∙ sym (list_all-map is_file (λ w. w.now) (take n ws)) ∙ ap (list_all is_file) (sym (take-map (λ w. w.now) n ws)))
    ∙ ap (λ l. cond b (Some l) None) (drop-map (λ w. w.now) n ws)

pub files_some : (n : ℕ) (ws front behind : List (Bor (List ℕ))) (b : Bool) → n ≤ length ws → front ≡ take n ws → behind ≡ drop n ws → b ≡ list_all (λ w. is_file w.now) front → b ≡ true
    → Some (lent behind) ≡ after_files n (lent ws)
files_some n ws front behind b le head tail e is =
    ap (λ l. Some (lent l)) tail ∙ sym (files_then n ws b le (e ∙ ap (list_all (λ w. is_file w.now)) head) ∙ ap (λ x. cond x (Some (lent (drop n ws))) None) is)

pub files_none : (n : ℕ) (ws front : List (Bor (List ℕ))) (b : Bool) → n ≤ length ws → front ≡ take n ws → b ≡ list_all (λ w. is_file w.now) front → b ≡ false
    → None ≡ after_files n (lent ws)
files_none n ws front b le head e is =
    sym (files_then n ws b le (e ∙ ap (list_all (λ w. is_file w.now)) head) ∙ ap (λ x. cond x (Some (lent (drop n ws))) None) is)

rest_all : (n : ℕ) (ws : List (Bor (List ℕ))) → n ≡ length ws → take n ws ≡ ws
rest_all n ws e = ap (λ k. take k ws) e ∙ take-length ws

-- the first word, and those behind it
pub first_word : (ws : List (Bor (List ℕ))) (d : Bor (List ℕ)) (v : List ℕ) → 1 ≤ length ws → (get_or ws 0 d).now ≡ v → lent ws ≡ v ∷ lent (take (length ws - 1) (drop 1 ws))
first_word [] d v le e = absurd (omega arith)
first_word (w ∷ ws) d v le e = ap (λ x. x ∷ lent ws) e ∙ ap (λ l. v ∷ lent l) (sym (rest_all (length (w ∷ ws) - 1) ws (omega arith)))
