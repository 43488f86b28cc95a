-- Of each kind of piece only those stand at a place whose first character is there.
use Rattle.std.proofs.Common.{◌≡◌, ◌≤◌, ◌+◌, ℕ, Bool, true, List, get_or, Some, ap, ◌⊎◌, inl, inr, arith}
use Rattle.js_lexer.specs.Chars.{is_digit}
use Rattle.js_lexer.specs.Marks.{single}
use Rattle.js_lexer.specs.Pieces.{IsWord, IsNumber, IsDigits, zero_alone, decimal, hexadecimal, IsText, IsMark, Spells, one, more}
use Rattle.js_lexer.specs.Tokens.{StandsAs, IsComment, to_line_end, closed, Stands, IsOther}
use Rattle.js_lexer.specs.declared.Mark.{Mark}
use Rattle.js_lexer.specs.declared.Kind.{Kind}
use Rattle.js_lexer.specs.declared.Kind.TheVariants as kind
use Rattle.js_lexer.specs.declared.Piece.{Piece}
use Rattle.js_lexer.specs.declared.Piece.TheVariants as piece
use Rattle.js_lexer.proofs.FirstLemmas.{sort, sort-white, sort-line, sort-digit, sort-quote, sort-slash, sort-single, sort-starts}
use Rattle.js_lexer.proofs.NumberLemmas.{clash}

-- the number of the kind of piece that a place begins
abbrev pub FitsKind : Kind → ℕ → Type 0
FitsKind (kind.Word us) s = s ≡ 3
FitsKind (kind.Reserved r) s = s ≡ 3
FitsKind (kind.Call c) s = s ≡ 3
FitsKind (kind.Number z) s = s ≡ 4
FitsKind (kind.Text us) s = s ≡ 5
FitsKind (kind.Mark m) s = 6 ≤ s
FitsKind kind.End s = s ≡ 8

abbrev pub Fits : Piece → ℕ → Type 0
Fits piece.Blank s = s ≡ 1
Fits piece.Line s = s ≡ 2
Fits (piece.Comment line) s = s ≡ 6
Fits (piece.Token k) s = FitsKind k s

number_sort : (text : List ℕ) (n i j : ℕ) → IsDigits text n i j → sort (get_or text i 0) ≡ 4
number_sort text n i j (zero_alone e f g) = ap sort e
number_sort text n i j (decimal e f g h) = sort-digit (get_or text i 0) (g i (omega arith) f)
number_sort text n i j (hexadecimal e f g h k) = ap sort e

pub first_single : {text : List ℕ} {i : ℕ} {m : Mark} {j : ℕ} → Spells text i m j → (x : Mark) × (single (get_or text i 0) ≡ Some x)
first_single (one {m = m} e f) = (m, e)
first_single (more t e f) = first_single t

kind_fits : (text : List ℕ) (k : Kind) (i j : ℕ) → StandsAs text k i j → FitsKind k (sort (get_or text i 0))
kind_fits text (kind.Word us) i j h = sort-starts (get_or text i 0) h.word.first
kind_fits text (kind.Reserved r) i j h = sort-starts (get_or text i 0) h.word.first
kind_fits text (kind.Call c) i j h = sort-starts (get_or text i 0) h.word.first
kind_fits text (kind.Number z) i j h = number_sort text h.0 i j h.2.digits
kind_fits text (kind.Text us) i j h = sort-quote (get_or text i 0) h.quote
kind_fits text (kind.Mark m) i j h = sort-single (get_or text i 0) (first_single h.spells).1
kind_fits text kind.End i j h = absurd h

comment_fits : (text : List ℕ) (line : Bool) (i j : ℕ) → IsComment text line i j → sort (get_or text i 0) ≡ 6
comment_fits text line i j (to_line_end e h) = sort-slash (get_or text i 0) h.slash
comment_fits text line i j (closed h) = sort-slash (get_or text i 0) h.slash

pub fits : (text : List ℕ) (p : Piece) (i j : ℕ) → Stands text p i j → Fits p (sort (get_or text i 0))
fits text piece.Blank i j h = sort-white (get_or text i 0) h.member
fits text piece.Line i j h = sort-line (get_or text i 0) h.member
fits text (piece.Comment line) i j h = comment_fits text line i j h
fits text (piece.Token k) i j h = kind_fits text k i j h

pub number_digit : (text : List ℕ) (n i j : ℕ) → IsDigits text n i j → is_digit 10 (get_or text i 0) ≡ true
number_digit text n i j (zero_alone e f g) = ap (is_digit 10) e
number_digit text n i j (decimal e f g h) = g i (omega arith) f
number_digit text n i j (hexadecimal e f g h k) = ap (is_digit 10) e

pub comment_slash : (text : List ℕ) (line : Bool) (i j : ℕ) → IsComment text line i j → get_or text i 0 ≡ 47
comment_slash text line i j (to_line_end e h) = h.slash
comment_slash text line i j (closed h) = h.slash

-- ---- what stands where

pub only_blank : (text : List ℕ) (q : Piece) (i j : ℕ) → Stands text q i j → sort (get_or text i 0) ≡ 1 → j ≡ i + 1
only_blank text piece.Blank i j h s = h.past
only_blank text piece.Line i j h s = let f = fits text piece.Line i j h in absurd (omega (arith, f, s))
only_blank text (piece.Comment line) i j h s = let f = fits text (piece.Comment line) i j h in absurd (omega (arith, f, s))
only_blank text (piece.Token (kind.Word us)) i j h s = let f = fits text (piece.Token (kind.Word us)) i j h in absurd (omega (arith, f, s))
only_blank text (piece.Token (kind.Reserved r)) i j h s = let f = fits text (piece.Token (kind.Reserved r)) i j h in absurd (omega (arith, f, s))
only_blank text (piece.Token (kind.Call c)) i j h s = let f = fits text (piece.Token (kind.Call c)) i j h in absurd (omega (arith, f, s))
only_blank text (piece.Token (kind.Number z)) i j h s = let f = fits text (piece.Token (kind.Number z)) i j h in absurd (omega (arith, f, s))
only_blank text (piece.Token (kind.Text us)) i j h s = let f = fits text (piece.Token (kind.Text us)) i j h in absurd (omega (arith, f, s))
only_blank text (piece.Token (kind.Mark m)) i j h s = let f = fits text (piece.Token (kind.Mark m)) i j h in absurd (omega (arith, f, s))
only_blank text (piece.Token kind.End) i j h s = absurd h

pub only_line : (text : List ℕ) (q : Piece) (i j : ℕ) → Stands text q i j → sort (get_or text i 0) ≡ 2 → j ≡ i + 1
only_line text piece.Blank i j h s = let f = fits text piece.Blank i j h in absurd (omega (arith, f, s))
only_line text piece.Line i j h s = h.past
only_line text (piece.Comment line) i j h s = let f = fits text (piece.Comment line) i j h in absurd (omega (arith, f, s))
only_line text (piece.Token (kind.Word us)) i j h s = let f = fits text (piece.Token (kind.Word us)) i j h in absurd (omega (arith, f, s))
only_line text (piece.Token (kind.Reserved r)) i j h s = let f = fits text (piece.Token (kind.Reserved r)) i j h in absurd (omega (arith, f, s))
only_line text (piece.Token (kind.Call c)) i j h s = let f = fits text (piece.Token (kind.Call c)) i j h in absurd (omega (arith, f, s))
only_line text (piece.Token (kind.Number z)) i j h s = let f = fits text (piece.Token (kind.Number z)) i j h in absurd (omega (arith, f, s))
only_line text (piece.Token (kind.Text us)) i j h s = let f = fits text (piece.Token (kind.Text us)) i j h in absurd (omega (arith, f, s))
only_line text (piece.Token (kind.Mark m)) i j h s = let f = fits text (piece.Token (kind.Mark m)) i j h in absurd (omega (arith, f, s))
only_line text (piece.Token kind.End) i j h s = absurd h

pub only_word : (text : List ℕ) (q : Piece) (i j : ℕ) → Stands text q i j → sort (get_or text i 0) ≡ 3 → IsWord text i j
only_word text piece.Blank i j h s = let f = fits text piece.Blank i j h in absurd (omega (arith, f, s))
only_word text piece.Line i j h s = let f = fits text piece.Line i j h in absurd (omega (arith, f, s))
only_word text (piece.Comment line) i j h s = let f = fits text (piece.Comment line) i j h in absurd (omega (arith, f, s))
only_word text (piece.Token (kind.Word us)) i j h s = h.word
only_word text (piece.Token (kind.Reserved r)) i j h s = h.word
only_word text (piece.Token (kind.Call c)) i j h s = h.word
only_word text (piece.Token (kind.Number z)) i j h s = let f = fits text (piece.Token (kind.Number z)) i j h in absurd (omega (arith, f, s))
only_word text (piece.Token (kind.Text us)) i j h s = let f = fits text (piece.Token (kind.Text us)) i j h in absurd (omega (arith, f, s))
only_word text (piece.Token (kind.Mark m)) i j h s = let f = fits text (piece.Token (kind.Mark m)) i j h in absurd (omega (arith, f, s))
only_word text (piece.Token kind.End) i j h s = absurd h

pub only_number : (text : List ℕ) (q : Piece) (i j : ℕ) → Stands text q i j → sort (get_or text i 0) ≡ 4 → (n : ℕ) × IsNumber text n i j
only_number text piece.Blank i j h s = let f = fits text piece.Blank i j h in absurd (omega (arith, f, s))
only_number text piece.Line i j h s = let f = fits text piece.Line i j h in absurd (omega (arith, f, s))
only_number text (piece.Comment line) i j h s = let f = fits text (piece.Comment line) i j h in absurd (omega (arith, f, s))
only_number text (piece.Token (kind.Word us)) i j h s = let f = fits text (piece.Token (kind.Word us)) i j h in absurd (omega (arith, f, s))
only_number text (piece.Token (kind.Reserved r)) i j h s = let f = fits text (piece.Token (kind.Reserved r)) i j h in absurd (omega (arith, f, s))
only_number text (piece.Token (kind.Call c)) i j h s = let f = fits text (piece.Token (kind.Call c)) i j h in absurd (omega (arith, f, s))
only_number text (piece.Token (kind.Number z)) i j h s = (h.0, h.2)
only_number text (piece.Token (kind.Text us)) i j h s = let f = fits text (piece.Token (kind.Text us)) i j h in absurd (omega (arith, f, s))
only_number text (piece.Token (kind.Mark m)) i j h s = let f = fits text (piece.Token (kind.Mark m)) i j h in absurd (omega (arith, f, s))
only_number text (piece.Token kind.End) i j h s = absurd h

pub only_text : (text : List ℕ) (q : Piece) (i j : ℕ) → Stands text q i j → sort (get_or text i 0) ≡ 5 → (us : List ℕ) × IsText text us i j
only_text text piece.Blank i j h s = let f = fits text piece.Blank i j h in absurd (omega (arith, f, s))
only_text text piece.Line i j h s = let f = fits text piece.Line i j h in absurd (omega (arith, f, s))
only_text text (piece.Comment line) i j h s = let f = fits text (piece.Comment line) i j h in absurd (omega (arith, f, s))
only_text text (piece.Token (kind.Word us)) i j h s = let f = fits text (piece.Token (kind.Word us)) i j h in absurd (omega (arith, f, s))
only_text text (piece.Token (kind.Reserved r)) i j h s = let f = fits text (piece.Token (kind.Reserved r)) i j h in absurd (omega (arith, f, s))
only_text text (piece.Token (kind.Call c)) i j h s = let f = fits text (piece.Token (kind.Call c)) i j h in absurd (omega (arith, f, s))
only_text text (piece.Token (kind.Number z)) i j h s = let f = fits text (piece.Token (kind.Number z)) i j h in absurd (omega (arith, f, s))
only_text text (piece.Token (kind.Text us)) i j h s = (us, h)
only_text text (piece.Token (kind.Mark m)) i j h s = let f = fits text (piece.Token (kind.Mark m)) i j h in absurd (omega (arith, f, s))
only_text text (piece.Token kind.End) i j h s = absurd h

pub only_slash : (text : List ℕ) (q : Piece) (i j : ℕ) → Stands text q i j → sort (get_or text i 0) ≡ 6 → ((line : Bool) × IsComment text line i j) ⊎ ((m : Mark) × IsMark text m i j)
only_slash text piece.Blank i j h s = let f = fits text piece.Blank i j h in absurd (omega (arith, f, s))
only_slash text piece.Line i j h s = let f = fits text piece.Line i j h in absurd (omega (arith, f, s))
only_slash text (piece.Comment line) i j h s = inl (line, h)
only_slash text (piece.Token (kind.Word us)) i j h s = let f = fits text (piece.Token (kind.Word us)) i j h in absurd (omega (arith, f, s))
only_slash text (piece.Token (kind.Reserved r)) i j h s = let f = fits text (piece.Token (kind.Reserved r)) i j h in absurd (omega (arith, f, s))
only_slash text (piece.Token (kind.Call c)) i j h s = let f = fits text (piece.Token (kind.Call c)) i j h in absurd (omega (arith, f, s))
only_slash text (piece.Token (kind.Number z)) i j h s = let f = fits text (piece.Token (kind.Number z)) i j h in absurd (omega (arith, f, s))
only_slash text (piece.Token (kind.Text us)) i j h s = let f = fits text (piece.Token (kind.Text us)) i j h in absurd (omega (arith, f, s))
only_slash text (piece.Token (kind.Mark m)) i j h s = inr (m, h)
only_slash text (piece.Token kind.End) i j h s = absurd h

pub only_mark : (text : List ℕ) (q : Piece) (i j : ℕ) → Stands text q i j → IsOther (get_or text i 0) → (m : Mark) × IsMark text m i j
only_mark text piece.Blank i j h o = absurd (clash h.member o.white)
only_mark text piece.Line i j h o = absurd (clash h.member o.line)
only_mark text (piece.Comment line) i j h o = absurd (o.comment (comment_slash text line i j h))
only_mark text (piece.Token (kind.Word us)) i j h o = absurd (clash h.word.first o.word)
only_mark text (piece.Token (kind.Reserved r)) i j h o = absurd (clash h.word.first o.word)
only_mark text (piece.Token (kind.Call c)) i j h o = absurd (clash h.word.first o.word)
only_mark text (piece.Token (kind.Number z)) i j h o = absurd (clash (number_digit text h.0 i j h.2.digits) o.number)
only_mark text (piece.Token (kind.Text us)) i j h o = absurd (clash h.quote o.text)
only_mark text (piece.Token (kind.Mark m)) i j h o = (m, h)
only_mark text (piece.Token kind.End) i j h o = absurd h
