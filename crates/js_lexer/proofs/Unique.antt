-- The bytes have one list of tokens or one first fault, and never both.
use Rattle.std.proofs.Common.{◌≡◌, ◌≤◌, ◌<◌, ◌+◌, ◌-◌, ℕ, Bool, true, false, List, ◌++◌, length, take, get_or, Result, Ok, Err, refl, sym, ◌∙◌, ap, subst, ◌⊎◌, inl, inr, pos, arith}
use Rattle.std.specs.Prelude.{slice_range, encode_utf8_all, MatchBool, Vec, IfOk}
use Rattle.std.specs.declared.alloc.Global.{Global}
use Rattle.std.specs.Str.{IsValidUpTo}
use Rattle.std.specs.Str.Lossy.{utf8_valid_len}
use Rattle.std.proofs.lemmas.Str.{encodes_same, utf8_valid_len-IsUtf8, utf8_valid_len-IsValidUpTo}
use Rattle.std.proofs.Math.Seq.{take-length}
use Rattle.js_lexer.specs.Pieces.{HasLineEnd, IsNumber, IsText, IsMark}
use Rattle.js_lexer.specs.Tokens.{IsWordAs, StandsAs, IsComment, to_line_end, closed, Stands, Longest, word_kind, IsOpen, open_comment, open_text, Reason, begins_number, line_after, token_of, byte_of, Cut, done, step, Fails, at_byte, refused, later, fault_at, Decodes, Tokens, FirstFault, first_place, Answers, IsOnly, EndsOnce, last, more, items_of}
use Rattle.js_lexer.specs.declared.Mark.{Mark}
use Rattle.js_lexer.specs.declared.Kind.{Kind}
use Rattle.js_lexer.specs.declared.Kind.TheVariants as kind
use Rattle.js_lexer.specs.declared.Piece.{Piece}
use Rattle.js_lexer.specs.declared.Piece.TheVariants as piece
use Rattle.js_lexer.specs.declared.Refusal.{Refusal}
use Rattle.js_lexer.specs.declared.Refusal.TheVariants as refusal
use Rattle.js_lexer.specs.declared.Token.{Token}
use Rattle.js_lexer.specs.declared.LexStop.{LexStop}
use Rattle.js_lexer.specs.declared.LexStop.TheVariants as stop
use Rattle.unicode_ident.proofs.Computing.{unicode_ident}
use Rattle.js_lexer.specs.Marks.{single}
use Rattle.std.proofs.lemmas.Bool.Decides.{leb_tells}
use Rattle.std.proofs.lemmas.List.{get_or_past}
use Rattle.js_lexer.proofs.FirstLemmas.{sort, sort-white, sort-line, sort-quote, sort-slash, sort-digit, sort-starts, sort-single}
use Rattle.js_lexer.proofs.KindLemmas.{fits, number_digit, first_single, comment_slash}
use Rattle.js_lexer.proofs.NumberLemmas.{clash, number_after}
use Rattle.js_lexer.proofs.PieceLemmas.{number_value, two_values, text_end, slash_mark_end, no_mark_star, quote_no_number, slash_no_number}
use Rattle.js_lexer.proofs.PunctuatorLemmas.{one_mark}

sort-nul : sort 0 ≡ 0
unfolding single unicode_ident
sort-nul = refl

-- ---- the bytes have one list of characters

broken_len : (bytes text : List ℕ) (broken : Bool) → Decodes bytes text broken → utf8_valid_len bytes ≡ length (encode_utf8_all text)
broken_len bytes text true d = utf8_valid_len-IsValidUpTo bytes (length (encode_utf8_all text)) d.stop
broken_len bytes text false d =
    let e : encode_utf8_all text ≡ bytes = d.front ∙ ap (λ n. take n bytes) d.stop ∙ take-length bytes in
    utf8_valid_len-IsUtf8 bytes (text, (d.scalars, e)) ∙ sym d.stop

same_flag : (bytes : List ℕ) (n m : ℕ) (a b : Bool) → n ≡ m → MatchBool a (IsValidUpTo bytes n) (n ≡ length bytes) → MatchBool b (IsValidUpTo bytes m) (m ≡ length bytes) → a ≡ b
same_flag bytes n m true true e f g = refl
same_flag bytes n m false false e f g = refl
same_flag bytes n m true false e f g = let s = f.short in absurd (omega arith)
same_flag bytes n m false true e f g = let s = g.short in absurd (omega arith)

pub one_text : (bytes t u : List ℕ) (a b : Bool) → Decodes bytes t a → Decodes bytes u b → (t ≡ u) × (a ≡ b)
one_text bytes t u a b d e =
    let n : length (encode_utf8_all t) ≡ length (encode_utf8_all u) = sym (broken_len bytes t a d) ∙ broken_len bytes u b e in
    (encodes_same t u (d.front ∙ ap (λ k. take k bytes) n ∙ sym e.front), same_flag bytes (length (encode_utf8_all t)) (length (encode_utf8_all u)) a b n d.stop e.stop)

-- ---- one longest piece stands at a place

comment_after : (text : List ℕ) (line : Bool) (i j : ℕ) → IsComment text line i j → (i < j) × (j ≤ length text)
comment_after text line i j (to_line_end e h) = let a = h.after in (omega (arith, a), h.within)
comment_after text line i j (closed h) = let a = h.after in (omega (arith, a), h.within)

text_within : (text us : List ℕ) (i j : ℕ) → IsText text us i j → i < length text
text_within text us i j h = within (get_or text i 0) refl (sort-quote (get_or text i 0) h.quote)
  where
    within : (c : ℕ) → get_or text i 0 ≡ c → sort (get_or text i 0) ≡ 5 → i < length text
    within c e s = elim (leb_tells (length text) i) [
      | inl t ↦ (let z : sort (get_or text i 0) ≡ 0 = ap sort (get_or_past text i 0 t.1) ∙ sort-nul in absurd (omega arith))
      | inr t ↦ t.1
    ]

mark_within : (text : List ℕ) (m : Mark) (i j : ℕ) → IsMark text m i j → i < length text
mark_within text m i j h = within (sort-single (get_or text i 0) (first_single h.spells).1)
  where
    within : 6 ≤ sort (get_or text i 0) → i < length text
    within s = elim (leb_tells (length text) i) [
      | inl t ↦ (let z : sort (get_or text i 0) ≡ 0 = ap sort (get_or_past text i 0 t.1) ∙ sort-nul in absurd (omega arith))
      | inr t ↦ t.1
    ]

piece_within : (text : List ℕ) (q : Piece) (i j : ℕ) → Stands text q i j → i < length text
piece_within text piece.Blank i j h = h.within
piece_within text piece.Line i j h = h.within
piece_within text (piece.Comment line) i j h = let a = comment_after text line i j h in let x = a.0 in let y = a.1 in omega (arith, x, y)
piece_within text (piece.Token (kind.Word us)) i j h = let x = h.word.some in let y = h.word.within in omega (arith, x, y)
piece_within text (piece.Token (kind.Reserved r)) i j h = let x = h.word.some in let y = h.word.within in omega (arith, x, y)
piece_within text (piece.Token (kind.Call c)) i j h = let x = h.word.some in let y = h.word.within in omega (arith, x, y)
piece_within text (piece.Token (kind.Number z)) i j h = let x = number_after text h.0 i j h.2.digits in let y = h.2.within in omega (arith, x, y)
piece_within text (piece.Token (kind.Text us)) i j h = text_within text us i j h
piece_within text (piece.Token (kind.Mark m)) i j h = mark_within text m i j h
piece_within text (piece.Token kind.End) i j h = absurd h

as_blank : (text : List ℕ) (q : Piece) (i j : ℕ) → Stands text q i j → sort (get_or text i 0) ≡ 1 → q ≡ piece.Blank
as_blank text piece.Blank i j h s = refl
as_blank text piece.Line i j h s = let f = fits text piece.Line i j h in absurd (omega (arith, f, s))
as_blank text (piece.Comment line) i j h s = let f = fits text (piece.Comment line) i j h in absurd (omega (arith, f, s))
as_blank text (piece.Token (kind.Word us)) i j h s = let f = fits text (piece.Token (kind.Word us)) i j h in absurd (omega (arith, f, s))
as_blank text (piece.Token (kind.Reserved r)) i j h s = let f = fits text (piece.Token (kind.Reserved r)) i j h in absurd (omega (arith, f, s))
as_blank text (piece.Token (kind.Call c)) i j h s = let f = fits text (piece.Token (kind.Call c)) i j h in absurd (omega (arith, f, s))
as_blank text (piece.Token (kind.Number z)) i j h s = let f = fits text (piece.Token (kind.Number z)) i j h in absurd (omega (arith, f, s))
as_blank text (piece.Token (kind.Text us)) i j h s = let f = fits text (piece.Token (kind.Text us)) i j h in absurd (omega (arith, f, s))
as_blank text (piece.Token (kind.Mark m)) i j h s = let f = fits text (piece.Token (kind.Mark m)) i j h in absurd (omega (arith, f, s))
as_blank text (piece.Token kind.End) i j h s = absurd h

as_line : (text : List ℕ) (q : Piece) (i j : ℕ) → Stands text q i j → sort (get_or text i 0) ≡ 2 → q ≡ piece.Line
as_line text piece.Blank i j h s = let f = fits text piece.Blank i j h in absurd (omega (arith, f, s))
as_line text piece.Line i j h s = refl
as_line text (piece.Comment line) i j h s = let f = fits text (piece.Comment line) i j h in absurd (omega (arith, f, s))
as_line text (piece.Token (kind.Word us)) i j h s = let f = fits text (piece.Token (kind.Word us)) i j h in absurd (omega (arith, f, s))
as_line text (piece.Token (kind.Reserved r)) i j h s = let f = fits text (piece.Token (kind.Reserved r)) i j h in absurd (omega (arith, f, s))
as_line text (piece.Token (kind.Call c)) i j h s = let f = fits text (piece.Token (kind.Call c)) i j h in absurd (omega (arith, f, s))
as_line text (piece.Token (kind.Number z)) i j h s = let f = fits text (piece.Token (kind.Number z)) i j h in absurd (omega (arith, f, s))
as_line text (piece.Token (kind.Text us)) i j h s = let f = fits text (piece.Token (kind.Text us)) i j h in absurd (omega (arith, f, s))
as_line text (piece.Token (kind.Mark m)) i j h s = let f = fits text (piece.Token (kind.Mark m)) i j h in absurd (omega (arith, f, s))
as_line text (piece.Token kind.End) i j h s = absurd h

as_word : (text : List ℕ) (q : Piece) (i j : ℕ) → Stands text q i j → sort (get_or text i 0) ≡ 3 → q ≡ piece.Token (word_kind (slice_range text i j))
as_word text piece.Blank i j h s = let f = fits text piece.Blank i j h in absurd (omega (arith, f, s))
as_word text piece.Line i j h s = let f = fits text piece.Line i j h in absurd (omega (arith, f, s))
as_word text (piece.Comment line) i j h s = let f = fits text (piece.Comment line) i j h in absurd (omega (arith, f, s))
as_word text (piece.Token (kind.Word us)) i j h s = ap piece.Token (sym h.is)
as_word text (piece.Token (kind.Reserved r)) i j h s = ap piece.Token (sym h.is)
as_word text (piece.Token (kind.Call c)) i j h s = ap piece.Token (sym h.is)
as_word text (piece.Token (kind.Number z)) i j h s = let f = fits text (piece.Token (kind.Number z)) i j h in absurd (omega (arith, f, s))
as_word text (piece.Token (kind.Text us)) i j h s = let f = fits text (piece.Token (kind.Text us)) i j h in absurd (omega (arith, f, s))
as_word text (piece.Token (kind.Mark m)) i j h s = let f = fits text (piece.Token (kind.Mark m)) i j h in absurd (omega (arith, f, s))
as_word text (piece.Token kind.End) i j h s = absurd h

as_number : (text : List ℕ) (q : Piece) (i j : ℕ) → Stands text q i j → sort (get_or text i 0) ≡ 4 → (n : ℕ) × (q ≡ piece.Token (kind.Number (pos n))) × IsNumber text n i j
as_number text piece.Blank i j h s = let f = fits text piece.Blank i j h in absurd (omega (arith, f, s))
as_number text piece.Line i j h s = let f = fits text piece.Line i j h in absurd (omega (arith, f, s))
as_number text (piece.Comment line) i j h s = let f = fits text (piece.Comment line) i j h in absurd (omega (arith, f, s))
as_number text (piece.Token (kind.Word us)) i j h s = let f = fits text (piece.Token (kind.Word us)) i j h in absurd (omega (arith, f, s))
as_number text (piece.Token (kind.Reserved r)) i j h s = let f = fits text (piece.Token (kind.Reserved r)) i j h in absurd (omega (arith, f, s))
as_number text (piece.Token (kind.Call c)) i j h s = let f = fits text (piece.Token (kind.Call c)) i j h in absurd (omega (arith, f, s))
as_number text (piece.Token (kind.Number z)) i j h s = (h.0, ap (λ v. piece.Token (kind.Number v)) h.1, h.2)
as_number text (piece.Token (kind.Text us)) i j h s = let f = fits text (piece.Token (kind.Text us)) i j h in absurd (omega (arith, f, s))
as_number text (piece.Token (kind.Mark m)) i j h s = let f = fits text (piece.Token (kind.Mark m)) i j h in absurd (omega (arith, f, s))
as_number text (piece.Token kind.End) i j h s = absurd h

as_text : (text : List ℕ) (q : Piece) (i j : ℕ) → Stands text q i j → sort (get_or text i 0) ≡ 5 → (us : List ℕ) × (q ≡ piece.Token (kind.Text us)) × IsText text us i j
as_text text piece.Blank i j h s = let f = fits text piece.Blank i j h in absurd (omega (arith, f, s))
as_text text piece.Line i j h s = let f = fits text piece.Line i j h in absurd (omega (arith, f, s))
as_text text (piece.Comment line) i j h s = let f = fits text (piece.Comment line) i j h in absurd (omega (arith, f, s))
as_text text (piece.Token (kind.Word us)) i j h s = let f = fits text (piece.Token (kind.Word us)) i j h in absurd (omega (arith, f, s))
as_text text (piece.Token (kind.Reserved r)) i j h s = let f = fits text (piece.Token (kind.Reserved r)) i j h in absurd (omega (arith, f, s))
as_text text (piece.Token (kind.Call c)) i j h s = let f = fits text (piece.Token (kind.Call c)) i j h in absurd (omega (arith, f, s))
as_text text (piece.Token (kind.Number z)) i j h s = let f = fits text (piece.Token (kind.Number z)) i j h in absurd (omega (arith, f, s))
as_text text (piece.Token (kind.Text us)) i j h s = (us, refl, h)
as_text text (piece.Token (kind.Mark m)) i j h s = let f = fits text (piece.Token (kind.Mark m)) i j h in absurd (omega (arith, f, s))
as_text text (piece.Token kind.End) i j h s = absurd h

as_slash : (text : List ℕ) (q : Piece) (i j : ℕ) → Stands text q i j → sort (get_or text i 0) ≡ 6 → ((line : Bool) × (q ≡ piece.Comment line) × IsComment text line i j) ⊎ ((m : Mark) × (q ≡ piece.Token (kind.Mark m)) × IsMark text m i j)
as_slash text piece.Blank i j h s = let f = fits text piece.Blank i j h in absurd (omega (arith, f, s))
as_slash text piece.Line i j h s = let f = fits text piece.Line i j h in absurd (omega (arith, f, s))
as_slash text (piece.Comment line) i j h s = inl (line, refl, h)
as_slash text (piece.Token (kind.Word us)) i j h s = let f = fits text (piece.Token (kind.Word us)) i j h in absurd (omega (arith, f, s))
as_slash text (piece.Token (kind.Reserved r)) i j h s = let f = fits text (piece.Token (kind.Reserved r)) i j h in absurd (omega (arith, f, s))
as_slash text (piece.Token (kind.Call c)) i j h s = let f = fits text (piece.Token (kind.Call c)) i j h in absurd (omega (arith, f, s))
as_slash text (piece.Token (kind.Number z)) i j h s = let f = fits text (piece.Token (kind.Number z)) i j h in absurd (omega (arith, f, s))
as_slash text (piece.Token (kind.Text us)) i j h s = let f = fits text (piece.Token (kind.Text us)) i j h in absurd (omega (arith, f, s))
as_slash text (piece.Token (kind.Mark m)) i j h s = inr (m, refl, h)
as_slash text (piece.Token kind.End) i j h s = absurd h

as_mark : (text : List ℕ) (q : Piece) (i j : ℕ) → Stands text q i j → 6 < sort (get_or text i 0) → (m : Mark) × (q ≡ piece.Token (kind.Mark m)) × IsMark text m i j
as_mark text piece.Blank i j h s = let f = fits text piece.Blank i j h in absurd (omega (arith, f, s))
as_mark text piece.Line i j h s = let f = fits text piece.Line i j h in absurd (omega (arith, f, s))
as_mark text (piece.Comment line) i j h s = let f = fits text (piece.Comment line) i j h in absurd (omega (arith, f, s))
as_mark text (piece.Token (kind.Word us)) i j h s = let f = fits text (piece.Token (kind.Word us)) i j h in absurd (omega (arith, f, s))
as_mark text (piece.Token (kind.Reserved r)) i j h s = let f = fits text (piece.Token (kind.Reserved r)) i j h in absurd (omega (arith, f, s))
as_mark text (piece.Token (kind.Call c)) i j h s = let f = fits text (piece.Token (kind.Call c)) i j h in absurd (omega (arith, f, s))
as_mark text (piece.Token (kind.Number z)) i j h s = let f = fits text (piece.Token (kind.Number z)) i j h in absurd (omega (arith, f, s))
as_mark text (piece.Token (kind.Text us)) i j h s = let f = fits text (piece.Token (kind.Text us)) i j h in absurd (omega (arith, f, s))
as_mark text (piece.Token (kind.Mark m)) i j h s = (m, refl, h)
as_mark text (piece.Token kind.End) i j h s = absurd h

flags : (text : List ℕ) (a b : Bool) (i j : ℕ) → HasLineEnd text a i j → HasLineEnd text b i j → a ≡ b
flags text true true i j g h = refl
flags text false false i j g h = refl
flags text true false i j g h = absurd (clash g.3 (h g.0 g.1 g.2))
flags text false true i j g h = absurd (clash h.3 (g h.0 h.1 h.2))

comment_same : (text : List ℕ) (a b : Bool) (i j : ℕ) → IsComment text a i j → IsComment text b i j → a ≡ b
comment_same text a b i j (to_line_end e g) (to_line_end f h) = e ∙ sym f
comment_same text a b i j (to_line_end e g) (closed h) = absurd (two_values h.star g.slash_again)
comment_same text a b i j (closed g) (to_line_end f h) = absurd (two_values g.star h.slash_again)
comment_same text a b i j (closed g) (closed h) = flags text a b (i + 2) (j - 2) g.lines h.lines

no_comment_mark : (text : List ℕ) (line : Bool) (m : Mark) (i j : ℕ) → IsComment text line i j → IsMark text m i j → ⊥
no_comment_mark text line m i j (to_line_end e g) h = let a = slash_mark_end text i j m g.slash g.slash_again h in let b = g.after in omega (arith, a, b)
no_comment_mark text line m i j (closed g) h = no_mark_star text i j m g.slash g.star h

slash_same : (text : List ℕ) (p q : Piece) (i j : ℕ) → Stands text p i j → Stands text q i j → sort (get_or text i 0) ≡ 6 → p ≡ q
slash_same text p q i j g h s = elim (as_slash text p i j g s) [
  | inl a ↦ elim (as_slash text q i j h s) [
    | inl b ↦ a.1 ∙ ap piece.Comment (comment_same text a.0 b.0 i j a.2 b.2) ∙ sym b.1
    | inr b ↦ absurd (no_comment_mark text a.0 b.0 i j a.2 b.2)
  ]
  | inr a ↦ elim (as_slash text q i j h s) [
    | inl b ↦ absurd (no_comment_mark text b.0 a.0 i j b.2 a.2)
    | inr b ↦ a.1 ∙ ap (λ m. piece.Token (kind.Mark m)) (one_mark a.2.spells b.2.spells refl) ∙ sym b.1
  ]
]

mark_same : (text : List ℕ) (m : Mark) (q : Piece) (i j : ℕ) → IsMark text m i j → Stands text q i j → piece.Token (kind.Mark m) ≡ q
mark_same text m q i j g h = elim (leb_tells (sort (get_or text i 0)) 6) [
  | inl t ↦ (let six = sort-single (get_or text i 0) (first_single g.spells).1 in
      let s : sort (get_or text i 0) ≡ 6 = (let x = t.1 in omega arith) in slash_same text (piece.Token (kind.Mark m)) q i j g h s)
  | inr t ↦ (let b = as_mark text q i j h t.1 in ap (λ m. piece.Token (kind.Mark m)) (one_mark g.spells b.2.spells refl) ∙ sym b.1)
]

word_same : (text : List ℕ) (k : Kind) (q : Piece) (i j : ℕ) → IsWordAs text k i j → Stands text q i j → piece.Token k ≡ q
word_same text k q i j g h = ap piece.Token (sym g.is) ∙ sym (as_word text q i j h (sort-starts (get_or text i 0) g.word.first))

comment_sort : (text : List ℕ) (line : Bool) (i j : ℕ) → IsComment text line i j → sort (get_or text i 0) ≡ 6
comment_sort text line i j h = sort-slash (get_or text i 0) (comment_slash text line i j h)

same_piece : (text : List ℕ) (p q : Piece) (i j : ℕ) → Stands text p i j → Stands text q i j → p ≡ q
same_piece text piece.Blank q i j g h = sym (as_blank text q i j h (sort-white (get_or text i 0) g.member))
same_piece text piece.Line q i j g h = sym (as_line text q i j h (sort-line (get_or text i 0) g.member))
same_piece text (piece.Comment line) q i j g h = slash_same text (piece.Comment line) q i j g h (comment_sort text line i j g)
same_piece text (piece.Token (kind.Word us)) q i j g h = word_same text (kind.Word us) q i j g h
same_piece text (piece.Token (kind.Reserved r)) q i j g h = word_same text (kind.Reserved r) q i j g h
same_piece text (piece.Token (kind.Call c)) q i j g h = word_same text (kind.Call c) q i j g h
same_piece text (piece.Token (kind.Number z)) q i j g h =
    let b = as_number text q i j h (sort-digit (get_or text i 0) (number_digit text g.0 i j g.2.digits)) in
    ap (λ v. piece.Token (kind.Number v)) (g.1 ∙ ap pos (number_value text g.0 b.0 i j g.2 b.2)) ∙ sym b.1
same_piece text (piece.Token (kind.Text us)) q i j g h =
    let b = as_text text q i j h (sort-quote (get_or text i 0) g.quote) in
    ap (λ v. piece.Token (kind.Text v)) (text_end text us b.0 i j j g b.2).0 ∙ sym b.1
same_piece text (piece.Token (kind.Mark m)) q i j g h = mark_same text m q i j g h
same_piece text (piece.Token kind.End) q i j g h = absurd g

pub one_piece : (text : List ℕ) (p q : Piece) (i j k : ℕ) → Longest text p i j → Longest text q i k → (p ≡ q) × (j ≡ k)
one_piece text p q i j k g h =
    let a = g.longest q k h.stands in
    let b = h.longest p j g.stands in
    let e : j ≡ k = omega arith in
    (same_piece text p q i j g.stands (subst (Stands text q i) (sym e) h.stands), e)

-- ---- one list of tokens, or one first fault

cut_one : {text : List ℕ} {a b : Bool} {i j : ℕ} {ts us : List Token} → Cut text a i ts → Cut text b j us → a ≡ b → i ≡ j → ts ≡ us
cut_one {text} {a} {b} {i} {j} (done e f) (done g h) same place = f ∙ ap (λ x. token_of (piece.Token kind.End) x x a) (ap (byte_of text) place) ∙ ap (token_of (piece.Token kind.End) (byte_of text j) (byte_of text j)) same ∙ sym h
cut_one {text} {i = i} {j} (done e f) (step {j = n} {p = q} l c g) same place = let w = piece_within text q j n l.stands in absurd (omega (arith, w, e, place))
cut_one {text} {i = i} {j} (step {j = m} {p = p} l c g) (done e f) same place = let w = piece_within text p i m l.stands in absurd (omega (arith, w, e, place))
cut_one {text} {a} {b} {i} {j} (step {j = m} {p = p} {us = vs} l c g) (step {j = n} {p = q} {us = ws} k d h) same place =
    let one = one_piece text p q i m n l (subst (λ x. Longest text q x n) (sym place) k) in
    let rest = cut_one c d (ap (λ x. line_after x a) one.0 ∙ ap (line_after q) same) one.1 in
    g ∙ ap (λ x. token_of x (byte_of text i) (byte_of text m) a ++ vs) one.0 ∙ ap (λ x. token_of q (byte_of text x) (byte_of text m) a ++ vs) place ∙ ap (λ x. token_of q (byte_of text j) (byte_of text x) a ++ vs) one.1
    ∙ ap (λ x. token_of q (byte_of text j) (byte_of text n) x ++ vs) same ∙ ap (λ x. token_of q (byte_of text j) (byte_of text n) b ++ x) rest ∙ sym h

cut_fails : {text : List ℕ} {broken a : Bool} {i j : ℕ} {ts : List Token} {f : LexStop} → broken ≡ false → Cut text a i ts → Fails text broken j f → i ≡ j → ⊥
cut_fails whole c (at_byte b e f) place = clash b whole
cut_fails whole (done e f) (refused w r g) place = omega (arith, e, w, place)
cut_fails {text} whole (step {j = m} {p = p} l c g) (refused {i = j} w r h) place = r.none p m (subst (λ x. Stands text p x m) place l.stands)
cut_fails {text} {j = j} whole (done e f) (later {j = n} {p = q} k d) place = let w = piece_within text q j n k.stands in omega (arith, w, e, place)
cut_fails {text} {i = i} whole (step {j = m} {p = p} l c g) (later {j = n} {p = q} k d) place =
    cut_fails whole c d (one_piece text p q i m n l (subst (λ x. Longest text q x n) (sym place) k)).1

open_no_number : (text : List ℕ) (i : ℕ) → IsOpen text i → begins_number (get_or text i 0) (get_or text (i + 1) 0) ≡ false
open_no_number text i (open_comment e f g) = slash_no_number (get_or text i 0) (get_or text (i + 1) 0) e
open_no_number text i (open_text q e) = quote_no_number (get_or text i 0) (get_or text (i + 1) 0) q

reasons : (text : List ℕ) (broken : Bool) (i : ℕ) (e f : Refusal) → Reason text broken i e → Reason text broken i f → e ≡ f
reasons text broken i refusal.Broken refusal.Broken g h = refl
reasons text broken i refusal.Broken refusal.Number g h = absurd (clash h (open_no_number text i g.1))
reasons text broken i refusal.Broken refusal.Token g h = absurd (h.1 g.0 g.1)
reasons text broken i refusal.Broken refusal.Memory g h = absurd h
reasons text broken i refusal.Number refusal.Broken g h = absurd (clash g (open_no_number text i h.1))
reasons text broken i refusal.Number refusal.Number g h = refl
reasons text broken i refusal.Number refusal.Token g h = absurd (clash g h.0)
reasons text broken i refusal.Number refusal.Memory g h = absurd h
reasons text broken i refusal.Token refusal.Broken g h = absurd (g.1 h.0 h.1)
reasons text broken i refusal.Token refusal.Number g h = absurd (clash h g.0)
reasons text broken i refusal.Token refusal.Token g h = refl
reasons text broken i refusal.Token refusal.Memory g h = absurd h
reasons text broken i refusal.Memory f g h = absurd g

fails_one : {text : List ℕ} {broken : Bool} {i j : ℕ} {f g : LexStop} → Fails text broken i f → Fails text broken j g → i ≡ j → f ≡ g
fails_one {text} (at_byte b e f) (at_byte c g h) place = f ∙ ap (λ x. stop.NotUtf8 (byte_of text x)) place ∙ sym h
fails_one (at_byte b e f) (refused w r g) place = absurd (omega (arith, e, w, place))
fails_one {text} {j = j} (at_byte b e f) (later {j = n} {p = q} k d) place = let w = piece_within text q j n k.stands in absurd (omega (arith, w, e, place))
fails_one (refused w r g) (at_byte b e f) place = absurd (omega (arith, e, w, place))
fails_one {text} {broken} {i} {j} (refused {e = e} w r g) (refused {e = x} v s h) place =
    g ∙ ap (λ y. fault_at text y e) place ∙ ap (fault_at text j) (reasons text broken j e x (subst (λ y. Reason text broken y e) place r.reason) s.reason) ∙ sym h
fails_one {text} (refused w r g) (later {j = n} {p = q} k d) place = absurd (r.none q n (subst (λ x. Stands text q x n) (sym place) k.stands))
fails_one {text} {i = i} (later {j = m} {p = p} l c) (at_byte b e f) place = let w = piece_within text p i m l.stands in absurd (omega (arith, w, e, place))
fails_one {text} (later {j = m} {p = p} l c) (refused w r g) place = absurd (r.none p m (subst (λ x. Stands text p x m) place l.stands))
fails_one {text} {i = i} (later {j = m} {p = p} l c) (later {j = n} {p = q} k d) place =
    fails_one c d (one_piece text p q i m n l (subst (λ x. Longest text q x n) (sym place) k)).1

-- At most one list of tokens is cut from the bytes.
pub one_list : (bytes : List ℕ) (ts us : List Token) → Tokens bytes ts → Tokens bytes us → ts ≡ us
one_list bytes ts us g h =
    let e = one_text bytes g.0 h.0 false false g.1 h.1 in
    cut_one g.2 (subst (λ t. Cut t false (first_place t) us) (sym e.0) h.2) refl refl

-- Bytes that are cut into tokens have no fault.
pub no_fault : (bytes : List ℕ) (ts : List Token) (f : LexStop) → Tokens bytes ts → FirstFault bytes f → ⊥
no_fault bytes ts f g h =
    let e = one_text bytes g.0 h.0 false h.1 g.1 h.2 in
    cut_fails (sym e.1) g.2 (subst (λ t. Fails t h.1 (first_place t) f) (sym e.0) h.3) refl

-- The bytes have at most one first fault.
pub one_fault : (bytes : List ℕ) (f g : LexStop) → FirstFault bytes f → FirstFault bytes g → f ≡ g
one_fault bytes f g x y =
    let e = one_text bytes x.0 y.0 x.1 y.1 x.2 y.2 in
    fails_one x.3 (subst (λ b. Fails x.0 b (first_place x.0) g) (sym e.1) (subst (λ t. Fails t y.1 (first_place t) g) (sym e.0) y.3)) refl

-- ---- the end

pub ends_once : {text : List ℕ} {a : Bool} {i : ℕ} {ts : List Token} → Cut text a i ts → EndsOnce ts
ends_once (done e f) = subst EndsOnce (sym f) (last refl)
ends_once {text} {a} {i} (step {j = j} {p = p} {us = us} l c g) = subst EndsOnce (sym g) (go p l.stands (ends_once c))
  where
    go : (p : Piece) → Stands text p i j → EndsOnce us → EndsOnce (token_of p (byte_of text i) (byte_of text j) a ++ us)
    go piece.Blank s x = x
    go piece.Line s x = x
    go (piece.Comment line) s x = x
    go (piece.Token k) s x = more (λ e. subst (λ y. StandsAs text y i j) e s) x

pub answer_ends : (bytes : List ℕ) (r : Result (Vec Token Global) LexStop) → Answers bytes (items_of r) → IfOk r (λ found. EndsOnce found.items)
answer_ends bytes (Ok found) a = ends_once a.1.2
answer_ends bytes (Err f) a = tt

-- ---- the answer on the bytes

pub tokens_only : (bytes : List ℕ) (r : Result (List Token) LexStop) → Answers bytes r → (ts : List Token) → length bytes ≤ 1048576 → Tokens bytes ts → IsOnly r (Ok ts)
tokens_only bytes (Ok us) a ts small h m = ap Ok (one_list bytes us ts a.1 h)
tokens_only bytes (Err stop.TooLarge) a ts small h m = absurd (omega arith)
tokens_only bytes (Err stop.Memory) a ts small h m = absurd (m refl)
tokens_only bytes (Err (stop.NotUtf8 p)) a ts small h m = absurd (no_fault bytes ts (stop.NotUtf8 p) h a.1)
tokens_only bytes (Err (stop.BadToken p)) a ts small h m = absurd (no_fault bytes ts (stop.BadToken p) h a.1)
tokens_only bytes (Err (stop.NumberForm p)) a ts small h m = absurd (no_fault bytes ts (stop.NumberForm p) h a.1)

pub fault_only : (bytes : List ℕ) (r : Result (List Token) LexStop) → Answers bytes r → (f : LexStop) → length bytes ≤ 1048576 → FirstFault bytes f → IsOnly r (Err f)
fault_only bytes (Ok us) a f small h m = absurd (no_fault bytes us f a.1 h)
fault_only bytes (Err stop.TooLarge) a f small h m = absurd (omega arith)
fault_only bytes (Err stop.Memory) a f small h m = absurd (m refl)
fault_only bytes (Err (stop.NotUtf8 p)) a f small h m = ap Err (one_fault bytes (stop.NotUtf8 p) f a.1 h)
fault_only bytes (Err (stop.BadToken p)) a f small h m = ap Err (one_fault bytes (stop.BadToken p) f a.1 h)
fault_only bytes (Err (stop.NumberForm p)) a f small h m = ap Err (one_fault bytes (stop.NumberForm p) f a.1 h)
