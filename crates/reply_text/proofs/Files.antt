-- A file is read line by line.
use Rattle.std.proofs.Common.{◌≡◌, ℕ, ◌+◌, Bool, true, false, List, [], ◌∷◌, ◌++◌, length, Option, Some, None, inl, inr, refl, sym, ap, ◌∙◌, subst, append_assoc, arith}
use Rattle.std.proofs.Common.{is_some, true≢false, nat_lt, take, drop, cond, ◌≤◌, ◌-◌, not}
use Rattle.std.proofs.lemmas.List.Splits.{slice_split_first}
use Rattle.std.proofs.lemmas.Grind.{common_steps}
use Rattle.std.specs.List.{slice_split, position, onto_first, position_or_len}
use Rattle.std.specs.Option.{unwrap_or}
use Rattle.std.specs.Prelude.{MatchOption, ◌<◌}
use Rattle.std.specs.Borrow.{Bor}
use Rattle.reply_text.specs.Lines.{IsReplyLine, is_blank, answer_limit, lines_of, Reads, no_lines, blank_line, reply_line, OneMore, IsFault, HasCause}
use Rattle.reply_text.specs.declared.LineStop.{LineStop}
use Rattle.reply_text.specs.declared.LineStop.TheVariants.{BadLine, TooLong, Memory}

abbrev Pairs : Type 0
Pairs = List (List ℕ × List ℕ)

blank_last : (before : List (List ℕ)) (line : List ℕ) (ps : Pairs) → Reads before ps → is_blank line ≡ true → Reads (before ++ line ∷ []) ps
blank_last _ line _ no_lines h = blank_line h no_lines
blank_last _ line _ (blank_line b r) h = blank_line b (blank_last _ line _ r h)
blank_last _ line _ (reply_line k g n r) h = reply_line k g n (blank_last _ line _ r h)

reply_last : (before : List (List ℕ)) (line token answer : List ℕ) (size : ℕ) (ps : Pairs) → Reads before ps → is_blank line ≡ false → IsReplyLine line token answer size → size ≤ answer_limit → Reads (before ++ line ∷ []) (ps ++ (token, answer) ∷ [])
reply_last _ line token answer size _ no_lines w h m = reply_line w h m no_lines
reply_last _ line token answer size _ (blank_line b r) w h m = blank_line b (reply_last _ line token answer size _ r w h m)
reply_last _ line token answer size _ (reply_line k g n r) w h m = reply_line k g n (reply_last _ line token answer size _ r w h m)

pub reads_more : (before : List (List ℕ)) (line : List ℕ) (ps qs : Pairs) → Reads before ps → OneMore line ps qs → Reads (before ++ line ∷ []) qs
reads_more before line ps qs r (inl h) = subst (Reads (before ++ line ∷ [])) (sym h.1) (blank_last before line ps r h.0)
reads_more before line ps qs r (inr h) = subst (Reads (before ++ line ∷ [])) (sym h.6) (reply_last before line h.1 h.2 h.3 ps r h.0 h.4 h.5)

-- a fault in the line after those that read is the first
pub first_fault : (bytes : List ℕ) (before : List (List ℕ)) (line : List ℕ) (after : List (List ℕ)) (pairs : Pairs) (n : ℕ) (stop : LineStop)
    → lines_of bytes ≡ before ++ line ∷ after → Reads before pairs → n ≡ length before + 1 → IsFault line n stop → HasCause (lines_of bytes) stop
first_fault bytes before line after pairs n (BadLine m) cut reads e f =
    record { before = before; line = line; after = after; pairs = pairs; cut = cut; reads = reads; fault = subst (λ (k : ℕ). IsFault line k (BadLine m)) e f }
first_fault bytes before line after pairs n (TooLong m) cut reads e f =
    record { before = before; line = line; after = after; pairs = pairs; cut = cut; reads = reads; fault = subst (λ (k : ℕ). IsFault line k (TooLong m)) e f }
first_fault bytes before line after pairs n Memory cut reads e f = tt

pub grown : (all before now more : List (List ℕ)) (line : List ℕ) → all ≡ before ++ now → now ≡ line ∷ more → all ≡ (before ++ line ∷ []) ++ more
grown all before now more line e f = e ∙ ap (λ l. before ++ l) f ∙ sym (append_assoc before (line ∷ []) more)

-- some lines follow the first
pub first_is : (bytes line : List ℕ) (next : Option (Bor (List ℕ)))
    → MatchOption next (lines_of bytes ≡ line ∷ []) (λ n. (lines_of bytes ≡ line ∷ lines_of n.now) × (length n.now < length bytes))
    → (more : List (List ℕ)) × (lines_of bytes ≡ line ∷ more)
first_is bytes line None h = ([], h)
first_is bytes line (Some n) h = (lines_of n.now, h.0)

-- ---- the first line

pub split_whole : (p : ℕ → Bool) (xs : List ℕ) → length xs ≤ position_or_len p xs → slice_split p xs ≡ xs ∷ []
split_whole p [] h = refl
split_whole p (x ∷ xs) h = by (p x) (split_whole p xs) h
  where
    by : (b : Bool) → (length xs ≤ position_or_len p xs → slice_split p xs ≡ xs ∷ []) → length (x ∷ xs) ≤ cond (not b) (1 + position_or_len p xs) 0
        → cond b ([] ∷ slice_split p xs) (onto_first x (slice_split p xs)) ≡ (x ∷ xs) ∷ []
    by true rest q = absurd (let no : ⊥ = omega arith in no)
    by false rest q = ap (onto_first x) (rest (omega arith))

-- the place that `position` gives
found_place : (n m i : ℕ) → cond (nat_lt n m) (Some n) None ≡ Some i → (n ≡ i) × (n < m)
found_place n m i e = by (nat_lt n m) refl e
  where
    by : (b : Bool) → nat_lt n m ≡ b → cond b (Some n) None ≡ Some i → (n ≡ i) × (n < m)
    by true q e = (ap (λ (o : Option ℕ). unwrap_or o 0) e, grind (arith, common_steps, q))
    by false q e = absurd (true≢false (sym (ap is_some e)))

no_place : (n m : ℕ) → cond (nat_lt n m) (Some n) None ≡ None → m ≤ n
no_place n m e = by (nat_lt n m) refl e
  where
    by : (b : Bool) → nat_lt n m ≡ b → cond b (Some n) None ≡ None → m ≤ n
    by true q e = absurd (true≢false (ap is_some e))
    by false q e = grind (arith, common_steps, q)

pub first_line_is : (p : ℕ → Bool) (xs : List ℕ) (i : ℕ) → position p xs ≡ Some i
    → (slice_split p xs ≡ take i xs ∷ slice_split p (drop (i + 1) xs)) × (length (drop (i + 1) xs) < length xs)
first_line_is p xs i e =
    let at = found_place (position_or_len p xs) (length xs) i e in (
      subst (λ (n : ℕ). slice_split p xs ≡ take n xs ∷ slice_split p (drop (n + 1) xs)) at.0 (slice_split_first p xs 0 at.1),
      grind (arith, common_steps, at.0, at.1),
    )

pub one_line : (p : ℕ → Bool) (xs : List ℕ) → position p xs ≡ None → slice_split p xs ≡ xs ∷ []
one_line p xs e = split_whole p xs (no_place (position_or_len p xs) (length xs) e)

pub rest_is : (n : ℕ) (xs : List ℕ) → take (length xs - n) (drop n xs) ≡ drop n xs
rest_is n xs = grind (arith, common_steps)
