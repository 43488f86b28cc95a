-- The lines of a file of replies, and the first line that is none (own rules).
use Rattle.std.specs.Prelude.{◌≡◌, ℕ, ◌+◌, ◌^◌, ◌≤◌, ◌<◌, Bool, true, false, ◌||◌, ◌==◌, List, [], ◌∷◌, ◌++◌, length, ⊤, ◌⊎◌}
use Rattle.std.specs.List.{slice_split, list_all}
use Rattle.turk_base.specs.Encodings.{Spells}
use Rattle.reply_text.specs.Leaves.{text, IsLine}
use Rattle.reply_text.specs.declared.LineStop.{LineStop}
use Rattle.reply_text.specs.declared.LineStop.TheVariants.{BadLine, TooLong, Memory}

-- The lines end at line feeds and at the end of the file.
abbrev pub lines_of : List ℕ → List (List ℕ)
lines_of bytes = slice_split (λ b. b == 10) bytes

-- a line of spaces, tabs and carriage returns alone
abbrev pub is_blank : List ℕ → Bool
is_blank line = list_all (λ b. (b == 32) || (b == 9) || (b == 13)) line

-- the bytes are a text of these units, at most 2^20
abbrev pub IsText : List ℕ → List ℕ → Type 0
IsText bytes units = Spells bytes units × (length units ≤ 2 ^ 20)

-- the line is an array of two texts, a token and an answer of that many bytes of UTF-8
pub record IsReplyLine (line token answer : List ℕ) (size : ℕ) : Type 0 where
  pub token_bytes : List ℕ
  pub answer_bytes : List ℕ
  pub two_texts : IsLine line (text token_bytes ∷ text answer_bytes ∷ [])
  pub token_is : IsText token_bytes token
  pub answer_is : IsText answer_bytes answer
  pub size_is : size ≡ length answer_bytes

abbrev pub IsNoReplyLine : List ℕ → Type 0
IsNoReplyLine line = (token answer : List ℕ) (size : ℕ) → IsReplyLine line token answer size → ⊥

-- the most bytes of UTF-8 that an answer has
abbrev pub answer_limit : ℕ
answer_limit = 65536

-- the lines give these pairs of token and answer, in order
pub data Reads : List (List ℕ) → List (List ℕ × List ℕ) → Type 0 where
  no_lines : Reads [] []
  blank_line : {line : List ℕ} {lines : List (List ℕ)} {pairs : List (List ℕ × List ℕ)} → is_blank line ≡ true → Reads lines pairs → Reads (line ∷ lines) pairs
  reply_line : {line token answer : List ℕ} {size : ℕ} {lines : List (List ℕ)} {pairs : List (List ℕ × List ℕ)} → is_blank line ≡ false → IsReplyLine line token answer size → size ≤ answer_limit → Reads lines pairs
      → Reads (line ∷ lines) ((token, answer) ∷ pairs)

-- what is wrong with line n: it isn't of the form, or it is and its answer is too long
abbrev pub IsFault : List ℕ → ℕ → LineStop → Type 0
IsFault line n (BadLine m) = (m ≡ n) × (is_blank line ≡ false) × IsNoReplyLine line
IsFault line n (TooLong m) = (m ≡ n) × (is_blank line ≡ false) × (token : List ℕ) × (answer : List ℕ) × (size : ℕ) × IsReplyLine line token answer size × (answer_limit < size)
IsFault line n Memory = ⊤

-- the lines before the first fault read, and it is in the next line, which has the number n, counted from 1
pub record FirstFault (lines : List (List ℕ)) (stop : LineStop) : Type 0 where
  pub before : List (List ℕ)
  pub line : List ℕ
  pub after : List (List ℕ)
  pub pairs : List (List ℕ × List ℕ)
  pub cut : lines ≡ before ++ line ∷ after
  pub reads : Reads before pairs
  pub fault : IsFault line (length before + 1) stop

-- why the lines of a file give no replies
abbrev pub HasCause : List (List ℕ) → LineStop → Type 0
HasCause lines (BadLine n) = FirstFault lines (BadLine n)
HasCause lines (TooLong n) = FirstFault lines (TooLong n)
HasCause lines Memory = ⊤

-- one more line was taken
abbrev pub OneMore : List ℕ → List (List ℕ × List ℕ) → List (List ℕ × List ℕ) → Type 0
OneMore line old new = ((is_blank line ≡ true) × (new ≡ old))
    ⊎ ((is_blank line ≡ false) × (token : List ℕ) × (answer : List ℕ) × (size : ℕ) × IsReplyLine line token answer size × (size ≤ answer_limit) × (new ≡ old ++ (token, answer) ∷ []))
