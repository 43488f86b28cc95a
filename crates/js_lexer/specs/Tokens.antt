-- The tokens of a script: at each place the longest piece (ECMA-262 3rd ed. 7), with the bytes that each token is,
-- and the first fault of a script that has no tokens.
use Rattle.std.specs.Prelude.{◌≡◌, ◌≢◌, ◌≤◌, ◌<◌, ◌+◌, ℕ, Bool, true, false, ◌||◌, ◌&&◌, ◌==◌, List, [], ◌∷◌, ◌++◌, length, take, slice_index, slice_range, Option, Some, None, Result, Ok, Err, MatchBool, encode_utf8_all, pos, if◌then◌else◌}
use Rattle.std.specs.List.{flat_map}
use Rattle.std.specs.Char.Escape.{encode_utf16}
use Rattle.std.specs.Str.{IsValidUpTo, all_scalars}
use Rattle.std.specs.Prelude.{Vec}
use Rattle.std.specs.declared.alloc.Global.{Global}
use Rattle.js_lexer.specs.Chars.{is_white, is_line_end, is_digit, is_quote, starts}
use Rattle.js_lexer.specs.Words.{reserved_of, call_of}
use Rattle.js_lexer.specs.Pieces.{IsLineComment, IsBlockComment, IsWord, IsNumber, IsText, IsMark, Ends}
use Rattle.js_lexer.specs.declared.Next.TheVariants as next
use Rattle.js_lexer.specs.declared.Kind.{Kind}
use Rattle.js_lexer.specs.declared.Kind.TheVariants as kind
use Rattle.js_lexer.specs.declared.Reserved.{Reserved}
use Rattle.js_lexer.specs.declared.CallWord.{CallWord}
use Rattle.js_lexer.specs.declared.Token.{Token}
use Rattle.js_lexer.specs.declared.Piece.{Piece}
use Rattle.js_lexer.specs.declared.Piece.TheVariants as piece
use Rattle.js_lexer.specs.declared.Refusal.{Refusal}
use Rattle.js_lexer.specs.declared.Refusal.TheVariants as refusal
use Rattle.js_lexer.specs.declared.LexStop.{LexStop}
use Rattle.js_lexer.specs.declared.LexStop.TheVariants as stop

-- ---- pieces

-- one character of a class
pub record IsOne (class : ℕ → Bool) (text : List ℕ) (i j : ℕ) : Type 0 where
  pub member : class (slice_index text i) ≡ true
  pub within : i < length text
  pub past : j ≡ i + 1

-- the units of characters (8.4, and 6 on characters past U+FFFF)
abbrev pub units_of : List ℕ → List ℕ
units_of cs = flat_map encode_utf16 cs

abbrev pub word_by : Option Reserved → Option CallWord → List ℕ → Kind
word_by (Some r) c cs = kind.Reserved r
word_by None (Some c) cs = kind.Call c
word_by None None cs = kind.Word (units_of cs)

-- what a word is by its characters: reserved, a script call, or a name (7.5, 7.6)
unfoldable pub word_kind : List ℕ → Kind
word_kind cs = word_by (reserved_of cs) (call_of cs) cs

-- a word stands between two places, and is of this kind
pub record IsWordAs (text : List ℕ) (k : Kind) (i j : ℕ) : Type 0 where
  pub word : IsWord text i j
  pub is : word_kind (slice_range text i j) ≡ k

-- a token of this kind stands between two places
abbrev pub StandsAs : List ℕ → Kind → ℕ → ℕ → Type 0
StandsAs text (kind.Word us) i j = IsWordAs text (kind.Word us) i j
StandsAs text (kind.Reserved r) i j = IsWordAs text (kind.Reserved r) i j
StandsAs text (kind.Call c) i j = IsWordAs text (kind.Call c) i j
StandsAs text (kind.Number z) i j = (n : ℕ) × (z ≡ pos n) × IsNumber text n i j
StandsAs text (kind.Text us) i j = IsText text us i j
StandsAs text (kind.Mark m) i j = IsMark text m i j
StandsAs text kind.End i j = ⊥

-- a comment, with a line terminator in it or none
pub data IsComment (text : List ℕ) (line : Bool) (i j : ℕ) : Type 0 where
  to_line_end : line ≡ false → IsLineComment text i j → IsComment text line i j
  closed : IsBlockComment text line i j → IsComment text line i j

-- a piece stands between two places
abbrev pub Stands : List ℕ → Piece → ℕ → ℕ → Type 0
Stands text piece.Blank i j = IsOne is_white text i j
Stands text piece.Line i j = IsOne is_line_end text i j
Stands text (piece.Comment line) i j = IsComment text line i j
Stands text (piece.Token k) i j = StandsAs text k i j

-- a piece stands there, and none that stands is longer
pub record Longest (text : List ℕ) (p : Piece) (i j : ℕ) : Type 0 where
  pub stands : Stands text p i j
  pub longest : (q : Piece) (k : ℕ) → Stands text q i k → k ≤ j

-- ---- faults

-- a comment or a text begins at a place and reaches the end of all characters
pub data IsOpen (text : List ℕ) (i : ℕ) : Type 0 where
  open_comment : slice_index text i ≡ 47 → slice_index text (i + 1) ≡ 42 → ((line : Bool) (j : ℕ) → IsBlockComment text line i j → ⊥) → IsOpen text i
  open_text : {us : List ℕ} {k : ℕ} → is_quote (slice_index text i) ≡ true → Ends text (slice_index text i) next.Open (i + 1) us k → IsOpen text i

-- a number begins at a place: a digit, or a point before a digit
abbrev pub begins_number : ℕ → ℕ → Bool
begins_number c d = is_digit 10 c || (c == 46 && is_digit 10 d)

-- Why no piece stands at a place: what stands there reaches the byte that begins no whole character,
-- or a number begins there, or neither.
abbrev pub Reason : List ℕ → Bool → ℕ → Refusal → Type 0
Reason text broken i refusal.Broken = (broken ≡ true) × IsOpen text i
Reason text broken i refusal.Number = begins_number (slice_index text i) (slice_index text (i + 1)) ≡ true
Reason text broken i refusal.Token = (begins_number (slice_index text i) (slice_index text (i + 1)) ≡ false) × (broken ≡ true → IsOpen text i → ⊥)
Reason text broken i refusal.Memory = ⊥

-- no piece stands at a place, for this reason
pub record Refused (text : List ℕ) (broken : Bool) (i : ℕ) (e : Refusal) : Type 0 where
  pub none : (p : Piece) (j : ℕ) → Stands text p i j → ⊥
  pub reason : Reason text broken i e

-- none of the classes that begin other pieces than punctuators has the character
pub record IsOther (c : ℕ) : Type 0 where
  pub white : is_white c ≡ false
  pub line : is_line_end c ≡ false
  pub word : starts c ≡ false
  pub number : is_digit 10 c ≡ false
  pub text : is_quote c ≡ false
  pub comment : c ≢ 47

-- what stands at a place, unless memory runs out
abbrev pub PieceAt : List ℕ → Bool → ℕ → Result (Piece × ℕ) Refusal → Type 0
PieceAt text broken i (Ok r) = Longest text r.0 i r.1 × (i < r.1) × (r.1 ≤ length text)
PieceAt text broken i (Err refusal.Memory) = Unit {0}
PieceAt text broken i (Err refusal.Broken) = Refused text broken i refusal.Broken
PieceAt text broken i (Err refusal.Number) = Refused text broken i refusal.Number
PieceAt text broken i (Err refusal.Token) = Refused text broken i refusal.Token

-- ---- the whole text

-- how many bytes stand before a place
abbrev pub byte_of : List ℕ → ℕ → ℕ
byte_of text i = length (encode_utf8_all (take i text))

-- whether a line terminator stands before what follows a piece; a comment with a line terminator counts as one (7.4)
abbrev pub line_after : Piece → Bool → Bool
line_after piece.Blank after = after
line_after piece.Line after = true
line_after (piece.Comment line) after = after || line
line_after (piece.Token k) after = false

-- the token that a piece is, with its bytes and whether a line terminator stands before it, or none
abbrev pub token_of : Piece → (start end : ℕ) → Bool → List Token
token_of piece.Blank start end after = []
token_of piece.Line start end after = []
token_of (piece.Comment line) start end after = []
token_of (piece.Token k) start end after = record { kind = k; start = start; end = end; after_newline = after } ∷ []

-- From a place on, before which a line terminator stands or none does, the text is cut into pieces, at each
-- place the longest, with these tokens and the one that is the end.
pub data Cut (text : List ℕ) : Bool → ℕ → List Token → Type 0 where
  done : {after : Bool} {i : ℕ} {ts : List Token} → i ≡ length text → ts ≡ token_of (piece.Token kind.End) (byte_of text i) (byte_of text i) after → Cut text after i ts
  step : {after : Bool} {i j : ℕ} {p : Piece} {ts us : List Token} → Longest text p i j → Cut text (line_after p after) j us → ts ≡ token_of p (byte_of text i) (byte_of text j) after ++ us → Cut text after i ts

-- the fault of a refusal at a place: where the text breaks off, or at the place
abbrev pub fault_at : List ℕ → ℕ → Refusal → LexStop
fault_at text i refusal.Broken = stop.NotUtf8 (byte_of text (length text))
fault_at text i refusal.Number = stop.NumberForm (byte_of text i)
fault_at text i refusal.Token = stop.BadToken (byte_of text i)
fault_at text i refusal.Memory = stop.Memory

-- From a place on the text is cut into pieces up to a place where none stands, with this fault.
pub data Fails (text : List ℕ) (broken : Bool) : ℕ → LexStop → Type 0 where
  at_byte : {i : ℕ} {f : LexStop} → broken ≡ true → i ≡ length text → f ≡ stop.NotUtf8 (byte_of text i) → Fails text broken i f
  refused : {i : ℕ} {e : Refusal} {f : LexStop} → i < length text → Refused text broken i e → f ≡ fault_at text i e → Fails text broken i f
  later : {i j : ℕ} {p : Piece} {f : LexStop} → Longest text p i j → Fails text broken j f → Fails text broken i f

-- the answer, with a list in the place of the vector
abbrev pub items_of : Result (Vec Token Global) LexStop → Result (List Token) LexStop
items_of (Ok v) = Ok v.items
items_of (Err e) = Err e

-- what the characters give, unless memory runs out
abbrev pub CutSo : List ℕ → Bool → ℕ → Result (List Token) LexStop → Type 0
CutSo text broken i (Ok ts) = (broken ≡ false) × Cut text false i ts
CutSo text broken i (Err stop.TooLarge) = ⊥
CutSo text broken i (Err stop.Memory) = Unit {0}
CutSo text broken i (Err (stop.NotUtf8 place)) = Fails text broken i (stop.NotUtf8 place)
CutSo text broken i (Err (stop.BadToken place)) = Fails text broken i (stop.BadToken place)
CutSo text broken i (Err (stop.NumberForm place)) = Fails text broken i (stop.NumberForm place)

-- The text is the longest front of the bytes that is UTF-8 (RFC 3629); broken says that bytes follow it.
pub record Decodes (bytes text : List ℕ) (broken : Bool) : Type 0 where
  pub scalars : all_scalars text ≡ true
  pub front : encode_utf8_all text ≡ take (length (encode_utf8_all text)) bytes
  pub stop : MatchBool broken (IsValidUpTo bytes (length (encode_utf8_all text))) (length (encode_utf8_all text) ≡ length bytes)

-- the place after one U+FEFF at the start, which is skipped (own rule)
abbrev pub first_place : List ℕ → ℕ
first_place text = if slice_index text 0 == 0xFEFF then 1 else 0

-- The bytes are cut into white space, comments and these tokens, at each place the longest.
abbrev pub Tokens : List ℕ → List Token → Type 0
Tokens bytes ts = (text : List ℕ) × Decodes bytes text false × Cut text false (first_place text) ts

-- the first fault of the bytes
abbrev pub FirstFault : List ℕ → LexStop → Type 0
FirstFault bytes f = (text : List ℕ) × (broken : Bool) × Decodes bytes text broken × Fails text broken (first_place text) f

-- the end is the last token, and no other is
pub data EndsOnce : List Token → Type 0 where
  last : {t : Token} → t.kind ≡ kind.End → EndsOnce (t ∷ [])
  more : {t : Token} {ts : List Token} → t.kind ≢ kind.End → EndsOnce ts → EndsOnce (t ∷ ts)

-- the answer on bytes (own rule: at most 1,048,576 of them)
abbrev pub Answers : List ℕ → Result (List Token) LexStop → Type 0
Answers bytes (Ok ts) = (length bytes ≤ 1048576) × Tokens bytes ts
Answers bytes (Err stop.TooLarge) = 1048576 < length bytes
Answers bytes (Err stop.Memory) = Unit {0}
Answers bytes (Err (stop.NotUtf8 place)) = (length bytes ≤ 1048576) × FirstFault bytes (stop.NotUtf8 place)
Answers bytes (Err (stop.BadToken place)) = (length bytes ≤ 1048576) × FirstFault bytes (stop.BadToken place)
Answers bytes (Err (stop.NumberForm place)) = (length bytes ≤ 1048576) × FirstFault bytes (stop.NumberForm place)

-- the answer is this one, unless memory runs out
abbrev pub IsOnly : Result (List Token) LexStop → Result (List Token) LexStop → Type 0
IsOnly r s = r ≢ Err stop.Memory → r ≡ s
