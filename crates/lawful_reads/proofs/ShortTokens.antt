-- The tokens of a script that is not too large are short.
use Rattle.std.proofs.Common.{◌≡◌, ◌≤◌, ◌+◌, ◌-◌, ◌/◌, ◌%◌, ℕ, Bool, true, false, cond, List, [], ◌∷◌, ◌++◌, length, take, drop, refl, sym, ◌∙◌, ap, subst, length-append, append-nil, Option, Some, None, arith, slice_range, flat_map, encode_utf8, encode_utf8_all, nat_lt}
use Rattle.std.specs.Char.{len_utf8}
use Rattle.std.specs.Char.Escape.{encode_utf16}
use Rattle.std.proofs.lemmas.Bool.Decides.{nat_tests}
use Rattle.std.proofs.lemmas.List.{take-append-drop}
use Rattle.std.proofs.lemmas.Str.{encodes-append, length-encode}
use Rattle.js_lexer.specs.Tokens.{units_of, word_by, word_kind, StandsAs, Stands, Cut, done, step, token_of, Tokens}
use Rattle.js_lexer.specs.Words.{reserved_of, call_of}
use Rattle.js_lexer.specs.declared.CallWord.{CallWord}
use Rattle.js_lexer.specs.declared.Kind.{Kind}
use Rattle.js_lexer.specs.declared.Kind.TheVariants as kind
use Rattle.js_lexer.specs.declared.Piece.{Piece}
use Rattle.js_lexer.specs.declared.Piece.TheVariants as piece
use Rattle.js_lexer.specs.declared.Reserved.{Reserved}
use Rattle.js_lexer.specs.declared.Token.{Token}
use Rattle.js_lexer.proofs.ScriptLemmas.{byte_le}
use Rattle.lawful_reads.specs.Short.{ShortKind, ShortTokens}

-- ---- units and bytes

-- A character that is one byte long is no pair of units.
by_tests : (a b d : Bool) (c x y : ℕ) → (a ≡ true → d ≡ true) → length (cond d (c ∷ []) (x ∷ y ∷ [])) ≤ cond a 1 (cond b 2 (cond d 3 4))
by_tests true b true c x y f = omega arith
by_tests true b false c x y f = absurd (let z : false ≡ true = f refl in cc)
by_tests false true true c x y f = omega arith
by_tests false true false c x y f = omega arith
by_tests false false true c x y f = omega arith
by_tests false false false c x y f = omega arith

one_byte : (c : ℕ) → nat_lt c 0x80 ≡ true → nat_lt c 0x1_0000 ≡ true
one_byte c h = grind (arith, nat_tests)

units_le : (c : ℕ) → length (encode_utf16 c) ≤ len_utf8 c
units_le c = by_tests (nat_lt c 0x80) (nat_lt c 0x800) (nat_lt c 0x1_0000) c (0xD800 + (c - 0x1_0000) / 0x400) (0xDC00 + (c - 0x1_0000) % 0x400) (one_byte c)

spelled : (cs : List ℕ) → length (flat_map encode_utf16 cs) ≤ length (encode_utf8_all cs)
spelled [] = omega arith
spelled (c ∷ cs) =
    let e : length (encode_utf8_all (c ∷ cs)) ≡ length (encode_utf8_all (c ∷ [])) + length (encode_utf8_all cs) = ap length (encodes-append (c ∷ []) cs) ∙ length-append (encode_utf8_all (c ∷ [])) (encode_utf8_all cs) in
    let f : length (encode_utf8_all (c ∷ [])) ≡ length (encode_utf8 c) = ap length (append-nil (encode_utf8 c)) in
    let g : length (encode_utf8 c) ≡ len_utf8 c = length-encode c in
    let h : length (flat_map encode_utf16 (c ∷ cs)) ≡ length (encode_utf16 c) + length (flat_map encode_utf16 cs) = length-append (encode_utf16 c) (flat_map encode_utf16 cs) in
    let i = spelled cs in let j = units_le c in
    omega arith

back_le : (text : List ℕ) (i : ℕ) → length (encode_utf8_all (drop i text)) ≤ length (encode_utf8_all text)
back_le text i =
    let e : length (encode_utf8_all text) ≡ length (encode_utf8_all (take i text)) + length (encode_utf8_all (drop i text)) =
    ap length (sym (ap encode_utf8_all (take-append-drop i text)) ∙ encodes-append (take i text) (drop i text))
    ∙ length-append (encode_utf8_all (take i text)) (encode_utf8_all (drop i text)) in
    omega arith

range_le : (text : List ℕ) (i j : ℕ) → length (units_of (slice_range text i j)) ≤ length (encode_utf8_all text)
range_le text i j = omega (arith, spelled (slice_range text i j), byte_le (drop i text) (j - i), back_le text i)

-- ---- tokens

word_units : (o : Option Reserved) (c : Option CallWord) (cs us : List ℕ) → word_by o c cs ≡ kind.Word us → units_of cs ≡ us
word_units (Some r) c cs us e = absurd (let z : kind.Reserved r ≡ kind.Word us = e in cc)
word_units None (Some w) cs us e = absurd (let z : kind.Call w ≡ kind.Word us = e in cc)
word_units None None cs us e = let z : kind.Word (units_of cs) ≡ kind.Word us = e in cc

word_short : (text us : List ℕ) (i j : ℕ) → length (encode_utf8_all text) ≤ 1048576 → word_kind (slice_range text i j) ≡ kind.Word us → length us ≤ 1048576
unfolding word_kind
word_short text us i j le e =
    let cs = slice_range text i j in
    subst (λ x. length x ≤ 1048576) (word_units (reserved_of cs) (call_of cs) cs us e) (let l = range_le text i j in omega arith)

kind_short : (text : List ℕ) (k : Kind) (i j : ℕ) → length (encode_utf8_all text) ≤ 1048576 → StandsAs text k i j → ShortKind k
kind_short text (kind.Word us) i j le h = word_short text us i j le h.is
kind_short text (kind.Reserved r) i j le h = tt
kind_short text (kind.Call c) i j le h = tt
kind_short text (kind.Number z) i j le h = tt
kind_short text (kind.Text us) i j le h = h.small
kind_short text (kind.Mark m) i j le h = tt
kind_short text kind.End i j le h = tt

piece_short : (text : List ℕ) (p : Piece) (i j start end : ℕ) (after : Bool) (us : List Token) → length (encode_utf8_all text) ≤ 1048576 → Stands text p i j → ShortTokens us → ShortTokens (token_of p start end after ++ us)
piece_short text piece.Blank i j start end after us le h s = s
piece_short text piece.Line i j start end after us le h s = s
piece_short text (piece.Comment line) i j start end after us le h s = s
piece_short text (piece.Token k) i j start end after us le h s = (kind_short text k i j le h, s)

cut_short : {text : List ℕ} {after : Bool} {i : ℕ} {ts : List Token} → Cut text after i ts → length (encode_utf8_all text) ≤ 1048576 → ShortTokens ts
cut_short (done e f) le = subst ShortTokens (sym f) (tt, tt)
cut_short {text} (step {i = i} {j = j} {p = p} {us = us} longest rest f) le = subst ShortTokens (sym f) (piece_short text p i j _ _ _ us le longest.stands (cut_short rest le))

pub tokens_short : (bytes : List ℕ) (ts : List Token) → length bytes ≤ 1048576 → Tokens bytes ts → ShortTokens ts
tokens_short bytes ts le h = cut_short h.2 (let e : length (encode_utf8_all h.0) ≡ length bytes = h.1.stop in omega arith)
