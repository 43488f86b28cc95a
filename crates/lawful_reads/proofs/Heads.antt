-- What comes of short tokens is short.
use Rattle.std.proofs.Common.{◌≡◌, ◌≤◌, ◌+◌, ◌/◌, ◌%◌, ◌==◌, ℕ, zero, suc, ℤ, pos, negsuc, Bool, true, false, if◌then◌else◌, List, [], ◌∷◌, Option, Some, None, length, subst, arith}
use Rattle.std.specs.Fmt.{digits, digits_onto, digit_glyph, decimal, signed_decimal}
use Rattle.js_lexer.specs.Words.{call_units}
use Rattle.js_lexer.specs.declared.CallWord.{CallWord}
use Rattle.js_lexer.specs.declared.CallWord.TheVariants as c
use Rattle.js_lexer.specs.declared.Kind.{Kind}
use Rattle.js_lexer.specs.declared.Kind.TheVariants as kind
use Rattle.js_lexer.specs.declared.Mark.TheVariants as m
use Rattle.js_lexer.specs.declared.Reserved.TheVariants as w
use Rattle.js_lexer.specs.declared.Token.{Token}
use Rattle.js_tree.specs.declared.Literal.{Literal}
use Rattle.js_tree.specs.Lawful.{Short}
use Rattle.script_grammar.specs.declared.Form.{Form}
use Rattle.script_grammar.specs.declared.classes.Name.{Name}
use Rattle.script_grammar.specs.declared.classes.Name.TheVariants as ident
use Rattle.script_grammar.specs.declared.classes.Head.{Head}
use Rattle.script_grammar.specs.declared.classes.Head.TheVariants as head
use Rattle.script_grammar.specs.Words.{Units, name_by, forbidden, name_of, key_of, literal_key_of, head_of, call_head}
use Rattle.script_grammar.specs.States.{Ended, Halted}
use Rattle.script_grammar.specs.States.Ended.{semicolon, left_out}
use Rattle.script_grammar.specs.States.Halted.{semicolon_here, line_ends}
use Rattle.lawful_reads.specs.Short.{ShortKind, ShortTokens}
use Rattle.lawful_reads.proofs.Nodes.{LiteralWithin, TakesOne}

-- ---- names

abbrev ShortName : Name → Type 0
ShortName (ident.Named units) = Short units
ShortName (ident.Out form) = Unit {0}
ShortName ident.Other = Unit {0}

by_form : (o : Option Form) (units : Units) → Short units → ShortName (name_by o units)
by_form (Some form) units s = tt
by_form None units s = s

kind_name : (k : Kind) → ShortKind k → ShortName (name_of k)
unfolding name_of
kind_name (kind.Word units) s = by_form (forbidden units) units s
kind_name (kind.Reserved r) s = tt
kind_name (kind.Call w) s = tt
kind_name (kind.Number z) s = tt
kind_name (kind.Text units) s = tt
kind_name (kind.Mark m) s = tt
kind_name kind.End s = tt

pub name_short : (t : Token) (units : Units) → ShortKind t.kind → name_of t.kind ≡ ident.Named units → Short units
name_short t units s e = subst ShortName e (kind_name t.kind s)

-- ---- keys

-- the decimal text of a number is its last 64 digits at most
chosen : (b : Bool) (x y : List ℕ) (n : ℕ) → length x ≤ n → length y ≤ n → length (if b then x else y) ≤ n
chosen true x y n e f = e
chosen false x y n e f = f

digits_le : (k base : ℕ) (upper : Bool) (n : ℕ) (after : List ℕ) → length (digits_onto k base upper n after) ≤ k + length after
digits_le zero base upper n after = omega arith
digits_le (suc k) base upper n after =
    let glyph = digit_glyph upper (n % base) in let l = digits_le k base upper (n / base) (glyph ∷ after) in
    chosen (n / base == 0) (glyph ∷ after) (digits_onto k base upper (n / base) (glyph ∷ after)) (suc k + length after) (omega arith) (omega arith)

decimal_le : (n : ℕ) → length (decimal n) ≤ 64
unfolding digits
decimal_le n = let l = digits_le 64 10 false n [] in omega arith

number_short : (z : ℤ) → Short (signed_decimal z)
number_short (pos n) = let l = decimal_le n in omega arith
number_short (negsuc n) = let l = decimal_le (suc n) in omega arith

call_short : (word : CallWord) → Short (call_units word)
unfolding call_units
call_short c.Once = omega arith
call_short c.Fork = omega arith
call_short c.Join = omega arith
call_short c.Crash = omega arith
call_short c.Print = omega arith
call_short c.Post = omega arith
call_short c.Reply = omega arith
call_short c.Prompt = omega arith
call_short c.Random = omega arith

abbrev ShortKey : Option Units → Type 0
ShortKey (Some units) = Short units
ShortKey None = Unit {0}

kind_key : (k : Kind) → ShortKind k → ShortKey (key_of k)
unfolding key_of
kind_key (kind.Word units) s = s
kind_key (kind.Reserved r) s = tt
kind_key (kind.Call word) s = call_short word
kind_key (kind.Number z) s = tt
kind_key (kind.Text units) s = tt
kind_key (kind.Mark m) s = tt
kind_key kind.End s = tt

pub key_short : (t : Token) (units : Units) → ShortKind t.kind → key_of t.kind ≡ Some units → Short units
key_short t units s e = subst ShortKey e (kind_key t.kind s)

kind_literal_key : (k : Kind) → ShortKind k → ShortKey (literal_key_of k)
unfolding literal_key_of
kind_literal_key (kind.Word units) s = s
kind_literal_key (kind.Reserved r) s = tt
kind_literal_key (kind.Call word) s = call_short word
kind_literal_key (kind.Number z) s = number_short z
kind_literal_key (kind.Text units) s = s
kind_literal_key (kind.Mark m) s = tt
kind_literal_key kind.End s = tt

pub literal_key_short : (t : Token) (units : Units) → ShortKind t.kind → literal_key_of t.kind ≡ Some units → Short units
literal_key_short t units s e = subst ShortKey e (kind_literal_key t.kind s)

-- ---- operands

-- what an operand is made of is short, and a call with one argument has a word for that
abbrev HeadWithin : ℕ → Head → Type 0
HeadWithin n (head.Identifier name) = ShortName name
HeadWithin n (head.Constant value) = LiteralWithin n value
HeadWithin n (head.One word) = TakesOne word
HeadWithin n _ = Unit {0}

call_within : (n : ℕ) (word : CallWord) → HeadWithin n (call_head word)
call_within n c.Once = tt
call_within n c.Fork = tt
call_within n c.Join = tt
call_within n c.Crash = tt
call_within n c.Print = tt
call_within n c.Post = tt
call_within n c.Reply = tt
call_within n c.Prompt = tt
call_within n c.Random = tt

kind_head : (n : ℕ) (k : Kind) → ShortKind k → HeadWithin n (head_of k)
unfolding head_of
kind_head n (kind.Word units) s = by_form (forbidden units) units s
kind_head n (kind.Call word) s = call_within n word
kind_head n (kind.Number z) s = tt
kind_head n (kind.Text units) s = s
kind_head n kind.End s = tt
kind_head n (kind.Reserved w.This) s = tt
kind_head n (kind.Reserved r) s = tt
kind_head n (kind.Mark m.OpenBracket) s = tt
kind_head n (kind.Mark x) s = tt

pub identifier_short : (t : Token) (units : Units) → ShortKind t.kind → head_of t.kind ≡ head.Identifier (ident.Named units) → Short units
identifier_short t units s e = subst (HeadWithin 0) e (kind_head 0 t.kind s)

pub constant_within : (n : ℕ) (t : Token) (value : Literal) → ShortKind t.kind → head_of t.kind ≡ head.Constant value → LiteralWithin n value
constant_within n t value s e = subst (HeadWithin n) e (kind_head n t.kind s)

pub takes_one : (t : Token) (word : CallWord) → ShortKind t.kind → head_of t.kind ≡ head.One word → TakesOne word
takes_one t word s e = subst (HeadWithin 0) e (kind_head 0 t.kind s)

-- ---- ends of statements

pub ended_short : {us rest : List Token} → Ended us rest → ShortTokens us → ShortTokens rest
ended_short (semicolon e) s = s.1
ended_short (left_out e e') s = s

pub halted_short : {us rest : List Token} → Halted us rest → ShortTokens us → ShortTokens rest
halted_short (semicolon_here e) s = s.1
halted_short (line_ends e e') s = s
