-- The whole text: how many bytes stand before a place, and how its tokens follow from those of the rest.
use Rattle.std.proofs.Common.{◌≡◌, ◌≤◌, ◌<◌, ◌+◌, ℕ, Bool, true, false, List, [], ◌∷◌, ◌++◌, length, take, drop, get_or, Err, refl, sym, ◌∙◌, ap, subst, append_assoc, append-nil, length-append, arith}
use Rattle.std.specs.Prelude.{encode_utf8, encode_utf8_all}
use Rattle.std.specs.Str.{IsUtf8, IsValidUpTo, chars, all_scalars}
use Rattle.std.proofs.lemmas.List.{take_more, take-append-drop, length-take-le}
use Rattle.std.proofs.Math.Seq.{take-length}
use Rattle.std.proofs.lemmas.Str.{encodes-append, encodes-chars, scalars-chars}
use Rattle.js_lexer.specs.Tokens.{byte_of, Longest, Cut, done, step, Fails, refused, line_after, token_of, fault_at, PieceAt, CutSo, Decodes}
use Rattle.js_lexer.specs.declared.Token.{Token}
use Rattle.js_lexer.specs.declared.Kind.TheVariants as kind
use Rattle.js_lexer.specs.declared.Piece.{Piece}
use Rattle.js_lexer.specs.declared.Piece.TheVariants as piece
use Rattle.js_lexer.specs.declared.Refusal.{Refusal}
use Rattle.js_lexer.specs.declared.Refusal.TheVariants as refusal
use Rattle.js_lexer.specs.declared.LexStop.{LexStop}

pub byte_step : (text : List ℕ) (i : ℕ) → i < length text → byte_of text (i + 1) ≡ byte_of text i + length (encode_utf8 (get_or text i 0))
byte_step text i h =
    ap length (ap encode_utf8_all (take_more text i 0 h) ∙ encodes-append (take i text) (get_or text i 0 ∷ []))
    ∙ length-append (encode_utf8_all (take i text)) (encode_utf8_all (get_or text i 0 ∷ []))
    ∙ ap (λ n. byte_of text i + n) (ap length (append-nil (encode_utf8 (get_or text i 0))))

pub byte_le : (text : List ℕ) (i : ℕ) → byte_of text i ≤ length (encode_utf8_all text)
byte_le text i =
    let e : length (encode_utf8_all text) ≡ byte_of text i + length (encode_utf8_all (drop i text)) =
    ap length (sym (ap encode_utf8_all (take-append-drop i text)) ∙ encodes-append (take i text) (drop i text))
    ∙ length-append (encode_utf8_all (take i text)) (encode_utf8_all (drop i text)) in
    omega arith

pub byte_more : (text : List ℕ) (i n b : ℕ) → length (encode_utf8_all text) ≤ 1048576 → i < length text → b ≡ byte_of text i → n ≡ length (encode_utf8 (get_or text i 0)) → (b + n ≡ byte_of text (i + 1)) × (b + n ≤ 1048576)
byte_more text i n b small within e f =
    let g = byte_step text i within in
    let h = byte_le text (i + 1) in
    (omega (arith, e, f, g), omega (arith, e, f, g, h))

pub cuts_next : (text : List ℕ) (first i j start end : ℕ) (after line : Bool) (p : Piece) (ts more : List Token) → start ≡ byte_of text i → end ≡ byte_of text j → line ≡ line_after p after → more ≡ ts ++ token_of p start end after → Longest text p i j
    → ((us : List Token) → Cut text after i us → Cut text false first (ts ++ us)) → (us : List Token) → Cut text line j us → Cut text false first (more ++ us)
cuts_next text first i j start end after line p ts more a b c d longest cuts us h =
    subst (Cut text false first)
    (sym (ap (λ x. x ++ us) (d ∙ ap (λ x. ts ++ token_of p x end after) a ∙ ap (λ x. ts ++ token_of p (byte_of text i) x after) b) ∙ append_assoc ts (token_of p (byte_of text i) (byte_of text j) after) us))
    (cuts (token_of p (byte_of text i) (byte_of text j) after ++ us) (step longest (subst (λ x. Cut text x j us) c h) refl))

pub cuts_done : (text : List ℕ) (first i byte : ℕ) (after : Bool) (ts more : List Token) → i ≡ length text → byte ≡ byte_of text i → more ≡ ts ++ token_of (piece.Token kind.End) byte byte after
    → ((us : List Token) → Cut text after i us → Cut text false first (ts ++ us)) → Cut text false first more
cuts_done text first i byte after ts more e b d cuts =
    subst (Cut text false first) (sym (d ∙ ap (λ x. ts ++ token_of (piece.Token kind.End) x x after) b))
    (cuts (token_of (piece.Token kind.End) (byte_of text i) (byte_of text i) after) (done e refl))

pub refused_so : (text : List ℕ) (broken : Bool) (first i : ℕ) (e : Refusal) → i < length text → ((f : LexStop) → Fails text broken i f → Fails text broken first f) → PieceAt text broken i (Err e) → CutSo text broken first (Err (fault_at text i e))
refused_so text broken first i refusal.Broken within fails h = fails (fault_at text i refusal.Broken) (refused within h refl)
refused_so text broken first i refusal.Number within fails h = fails (fault_at text i refusal.Number) (refused within h refl)
refused_so text broken first i refusal.Token within fails h = fails (fault_at text i refusal.Token) (refused within h refl)
refused_so text broken first i refusal.Memory within fails h = tt

-- ---- the characters of the bytes

take_all : (xs : List ℕ) (n : ℕ) → n ≡ length xs → take n xs ≡ xs
take_all xs n e = ap (λ k. take k xs) e ∙ take-length xs

pub decodes_whole : (bytes text found : List ℕ) → text ≡ bytes → IsUtf8 bytes → found ≡ chars text → Decodes bytes found false
decodes_whole bytes text found e utf8 f =
    let g : found ≡ chars bytes = f ∙ ap chars e in
    let h : encode_utf8_all found ≡ bytes = ap encode_utf8_all g ∙ encodes-chars bytes utf8 in
    record {
      scalars = ap all_scalars g ∙ scalars-chars bytes utf8;
      front = h ∙ sym (take_all bytes (length (encode_utf8_all found)) (ap length h));
      stop = ap length h;
    }

pub decodes_front : (bytes text found : List ℕ) (n : ℕ) → IsValidUpTo bytes n → text ≡ take n bytes → found ≡ chars text → Decodes bytes found true
decodes_front bytes text found n valid e f =
    let g : found ≡ chars (take n bytes) = f ∙ ap chars e in
    let h : encode_utf8_all found ≡ take n bytes = ap encode_utf8_all g ∙ encodes-chars (take n bytes) valid.front in
    let l : length (encode_utf8_all found) ≡ n = ap length h ∙ length-take-le n bytes (let s = valid.short in omega arith) in
    record {
      scalars = ap all_scalars g ∙ scalars-chars (take n bytes) valid.front;
      front = h ∙ ap (λ k. take k bytes) (sym l);
      stop = subst (IsValidUpTo bytes) (sym l) valid;
    }
