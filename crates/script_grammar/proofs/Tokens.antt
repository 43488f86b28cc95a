-- Which tokens are which: the classes of tokens that exclude one another.
use Rattle.std.proofs.Common.{◌≡◌, ℕ, nat_eq, Bool, true, false, Option, Some, None, refl, ap, sym, ◌∙◌, ◌⊎◌, inl, inr}
use Rattle.js_lexer.specs.declared.Mark.{Mark}
use Rattle.js_lexer.specs.declared.Mark.TheVariants as m
use Rattle.js_lexer.specs.declared.Reserved.{Reserved}
use Rattle.js_lexer.specs.declared.Reserved.TheVariants as w
use Rattle.js_tree.specs.declared.BinaryOperator.{BinaryOperator}
use Rattle.js_lexer.specs.declared.Kind.{Kind}
use Rattle.js_lexer.specs.declared.Token.{Token}
use Rattle.script_grammar.specs.declared.classes.Infix.{Infix}
use Rattle.script_grammar.specs.Words.{Units, is, is_word, is_end, kind_is, kind_is_word, kind_ends, same_mark, same_word, prefix_of, head_of, tail_of, step_of, infix_of, infix_at, infix_by, assign_of, key_of, literal_key_of, name_of, stops, kind_stops, start_of, kind_names, when, level_of}
use Rattle.script_grammar.specs.declared.classes.Start.TheVariants as start
use Rattle.script_grammar.specs.declared.classes.Infix.TheVariants as between
use Rattle.js_tree.specs.declared.BinaryOperator.TheVariants as op
use Rattle.js_lexer.specs.contracts.Mark as the_mark
use Rattle.js_lexer.specs.contracts.Reserved as the_reserved
use denote.Enum.Bare.{same_true}
use Rattle.std.proofs.Common.{◌&&◌}
use Rattle.js_lexer.specs.declared.Kind.TheVariants as kind
use Rattle.script_grammar.specs.declared.classes.Name.TheVariants as ident
use Rattle.script_grammar.specs.declared.classes.Head.TheVariants as head
use Rattle.script_grammar.specs.declared.classes.Prefix.TheVariants as prefix
use Rattle.script_grammar.specs.declared.classes.Tail.TheVariants as tail

-- what is said of the end is said of no other token
live_by : {A : Type 0} (f : Kind → A) (x : A) → (f kind.End ≡ x → ⊥) → (k : Kind) → f k ≡ x → kind_ends k ≡ false
live_by f x never kind.End e = absurd (never e)
live_by f x never _ e = refl

live : (t : Token) → kind_ends t.kind ≡ false → is_end t ≡ false
unfolding is_end
live t e = e

end_prefix : prefix_of kind.End ≡ prefix.Neither
unfolding prefix_of
end_prefix = refl

end_head : head_of kind.End ≡ head.Neither
unfolding head_of
end_head = refl

end_tail : tail_of kind.End ≡ tail.Neither
unfolding tail_of
end_tail = refl

end_step : step_of kind.End ≡ None
unfolding step_of
end_step = refl

end_infix : infix_of kind.End ≡ None
unfolding infix_of
end_infix = refl

end_assign : assign_of kind.End ≡ None
unfolding assign_of
end_assign = refl

end_key : key_of kind.End ≡ None
unfolding key_of
end_key = refl

end_literal_key : literal_key_of kind.End ≡ None
unfolding literal_key_of
end_literal_key = refl

end_name : name_of kind.End ≡ ident.Other
unfolding name_of
end_name = refl

pub live_prefix : (t : Token) (x : _) → prefix_of t.kind ≡ x → (prefix.Neither ≡ x → ⊥) → is_end t ≡ false
live_prefix t x e never = live t (live_by prefix_of x (λ q. never (sym end_prefix ∙ q)) t.kind e)

pub live_head : (t : Token) (x : _) → head_of t.kind ≡ x → (head.Neither ≡ x → ⊥) → is_end t ≡ false
live_head t x e never = live t (live_by head_of x (λ q. never (sym end_head ∙ q)) t.kind e)

pub live_tail : (t : Token) (x : _) → tail_of t.kind ≡ x → (tail.Neither ≡ x → ⊥) → is_end t ≡ false
live_tail t x e never = live t (live_by tail_of x (λ q. never (sym end_tail ∙ q)) t.kind e)

not_some : {A : Type 0} (x : A) → ◌≡◌ {A = Option A} None (Some x) → ⊥
not_some x e = cc

pub live_step : (t : Token) (x : _) → step_of t.kind ≡ Some x → is_end t ≡ false
live_step t x e = live t (live_by step_of (Some x) (λ q. not_some x (sym end_step ∙ q)) t.kind e)

pub live_assign : (t : Token) (x : _) → assign_of t.kind ≡ Some x → is_end t ≡ false
live_assign t x e = live t (live_by assign_of (Some x) (λ q. not_some x (sym end_assign ∙ q)) t.kind e)

pub live_key : (t : Token) (x : _) → key_of t.kind ≡ Some x → is_end t ≡ false
live_key t x e = live t (live_by key_of (Some x) (λ q. not_some x (sym end_key ∙ q)) t.kind e)

pub live_literal_key : (t : Token) (x : _) → literal_key_of t.kind ≡ Some x → is_end t ≡ false
live_literal_key t x e = live t (live_by literal_key_of (Some x) (λ q. not_some x (sym end_literal_key ∙ q)) t.kind e)

pub live_name : (t : Token) (x : Units) → name_of t.kind ≡ ident.Named x → is_end t ≡ false
live_name t x e = live t (live_by name_of (ident.Named x) (λ q. let z = sym end_name ∙ q in cc) t.kind e)

some_infix : (no_in : Bool) (level : ℕ) (o : Option Infix) (x : Infix) → o ≡ None → infix_by no_in level o ≡ Some x → ⊥
some_infix no_in level (Some y) x e q = not_some y (sym e)
some_infix no_in level None x e q = not_some x q

pub live_infix : (no_in : Bool) (level : ℕ) (t : Token) (x : Infix) → infix_at no_in level t ≡ Some x → is_end t ≡ false
unfolding infix_at
live_infix no_in level t x e = live t (live_by (λ k. infix_by no_in level (infix_of k)) (Some x) (λ q. some_infix no_in level (infix_of kind.End) x end_infix q) t.kind e)

mark_end : (x : Mark) → kind_is x kind.End ≡ true → ⊥
mark_end x e = cc

pub live_mark : (x : Mark) (t : Token) → is x t ≡ true → is_end t ≡ false
unfolding is
live_mark x t e = live t (live_by (kind_is x) true (mark_end x) t.kind e)

word_end : (x : Reserved) → kind_is_word x kind.End ≡ true → ⊥
word_end x e = cc

pub live_word : (x : Reserved) (t : Token) → is_word x t ≡ true → is_end t ≡ false
unfolding is_word
live_word x t e = live t (live_by (kind_is_word x) true (word_end x) t.kind e)

-- A token begins a unary operator, or an operand, or neither.
apart_kind : (k : Kind) → (prefix_of k ≡ prefix.Neither) ⊎ ((head_of k ≡ head.Neither) × (kind_is_word w.New k ≡ false))
unfolding prefix_of head_of same_word
apart_kind (kind.Reserved w.Delete) = inr (refl, refl)
apart_kind (kind.Reserved w.Void) = inr (refl, refl)
apart_kind (kind.Reserved w.Typeof) = inr (refl, refl)
apart_kind (kind.Mark m.PlusPlus) = inr (refl, refl)
apart_kind (kind.Mark m.MinusMinus) = inr (refl, refl)
apart_kind (kind.Mark m.Plus) = inr (refl, refl)
apart_kind (kind.Mark m.Minus) = inr (refl, refl)
apart_kind (kind.Mark m.BitNot) = inr (refl, refl)
apart_kind (kind.Mark m.Not) = inr (refl, refl)
apart_kind _ = inl refl

pub head_no_prefix : (t : Token) (x : _) → head_of t.kind ≡ x → (head.Neither ≡ x → ⊥) → prefix_of t.kind ≡ prefix.Neither
head_no_prefix t x e never = elim (apart_kind t.kind) [ inl q ↦ q | inr q ↦ absurd (never (sym q.0 ∙ e)) ]

false_true : false ≡ true → ⊥
false_true e = cc

pub new_no_prefix : (t : Token) → is_word w.New t ≡ true → prefix_of t.kind ≡ prefix.Neither
unfolding is_word
new_no_prefix t e = elim (apart_kind t.kind) [ inl q ↦ q | inr q ↦ absurd (false_true (sym q.1 ∙ e)) ]

-- `new` is no operand by itself
new_kind : (k : Kind) → (kind_is_word w.New k ≡ false) ⊎ (head_of k ≡ head.Neither)
unfolding head_of same_word
new_kind (kind.Reserved w.New) = inr refl
new_kind _ = inl refl

pub head_no_new : (t : Token) (x : _) → head_of t.kind ≡ x → (head.Neither ≡ x → ⊥) → is_word w.New t ≡ false
unfolding is_word
head_no_new t x e never = elim (new_kind t.kind) [ inl q ↦ q | inr q ↦ absurd (never (sym q ∙ e)) ]

-- An operator of assignment is no other operator.
assign_kind : (k : Kind) → (assign_of k ≡ None) ⊎ ((infix_of k ≡ None) × (step_of k ≡ None) × (kind_is m.Question k ≡ false))
unfolding assign_of infix_of step_of same_mark
assign_kind (kind.Mark m.Assign) = inr (refl, refl, refl)
assign_kind (kind.Mark m.AssignPlus) = inr (refl, refl, refl)
assign_kind (kind.Mark m.AssignMinus) = inr (refl, refl, refl)
assign_kind (kind.Mark m.AssignStar) = inr (refl, refl, refl)
assign_kind (kind.Mark m.AssignSlash) = inr (refl, refl, refl)
assign_kind (kind.Mark m.AssignPercent) = inr (refl, refl, refl)
assign_kind (kind.Mark m.AssignShiftLeft) = inr (refl, refl, refl)
assign_kind (kind.Mark m.AssignShiftRight) = inr (refl, refl, refl)
assign_kind (kind.Mark m.AssignShiftRightZero) = inr (refl, refl, refl)
assign_kind (kind.Mark m.AssignAnd) = inr (refl, refl, refl)
assign_kind (kind.Mark m.AssignOr) = inr (refl, refl, refl)
assign_kind (kind.Mark m.AssignXor) = inr (refl, refl, refl)
assign_kind _ = inl refl

pub assign_alone : (t : Token) (x : Option BinaryOperator) → assign_of t.kind ≡ Some x → (infix_of t.kind ≡ None) × (step_of t.kind ≡ None) × (is m.Question t ≡ false)
unfolding is
assign_alone t x e = elim (assign_kind t.kind) [ inl q ↦ absurd (not_some x (sym q ∙ e)) | inr q ↦ q ]

infix_none : (no_in : Bool) (level : ℕ) (o : Option Infix) → o ≡ None → infix_by no_in level o ≡ None
infix_none no_in level (Some y) e = absurd (not_some y (sym e))
infix_none no_in level None e = refl

pub no_infix : (no_in : Bool) (level : ℕ) (t : Token) → infix_of t.kind ≡ None → infix_at no_in level t ≡ None
unfolding infix_at
no_infix no_in level t e = infix_none no_in level (infix_of t.kind) e

-- a name is no punctuator
named_kind : (x : Mark) (k : Kind) (u : Units) → name_of k ≡ ident.Named u → kind_is x k ≡ false
unfolding name_of
named_kind x (kind.Word units) u e = refl
named_kind x _ u e = absurd (let z = e in cc)

pub name_no_mark : (x : Mark) (t : Token) (u : Units) → name_of t.kind ≡ ident.Named u → is x t ≡ false
unfolding is
name_no_mark x t u e = named_kind x t.kind u e

-- what a statement is that begins with a token that begins an expression
abbrev pub Express : Kind → Type 0
Express k = (start_of k ≡ start.Identifier) ⊎ ((start_of k ≡ start.Parenthesis) ⊎ ((start_of k ≡ start.Expression) ⊎ ((kind_is m.OpenBrace k ≡ true) ⊎ (kind_is_word w.Function k ≡ true))))

-- What closes a list or goes on with it begins no expression, and no other statement begins as one.
open_kind : (k : Kind) → ((kind_is m.CloseParen k ≡ false) × (kind_is m.CloseBracket k ≡ false) × (kind_is m.Comma k ≡ false) × (kind_is m.Semicolon k ≡ false) × (kind_stops k ≡ false) × (kind_is_word w.Var k ≡ false) × Express k)
    ⊎ ((prefix_of k ≡ prefix.Neither) × (head_of k ≡ head.Neither) × (kind_is_word w.New k ≡ false))
unfolding prefix_of head_of same_word same_mark start_of
open_kind (kind.Mark m.CloseParen) = inr (refl, refl, refl)
open_kind (kind.Mark m.CloseBracket) = inr (refl, refl, refl)
open_kind (kind.Mark m.Comma) = inr (refl, refl, refl)
open_kind (kind.Mark m.Semicolon) = inr (refl, refl, refl)
open_kind (kind.Mark m.CloseBrace) = inr (refl, refl, refl)
open_kind kind.End = inr (refl, refl, refl)
open_kind (kind.Reserved w.Case) = inr (refl, refl, refl)
open_kind (kind.Reserved w.Default) = inr (refl, refl, refl)
open_kind (kind.Reserved w.Var) = inr (refl, refl, refl)
open_kind (kind.Reserved w.If) = inr (refl, refl, refl)
open_kind (kind.Reserved w.Do) = inr (refl, refl, refl)
open_kind (kind.Reserved w.While) = inr (refl, refl, refl)
open_kind (kind.Reserved w.For) = inr (refl, refl, refl)
open_kind (kind.Reserved w.Continue) = inr (refl, refl, refl)
open_kind (kind.Reserved w.Break) = inr (refl, refl, refl)
open_kind (kind.Reserved w.Return) = inr (refl, refl, refl)
open_kind (kind.Reserved w.Throw) = inr (refl, refl, refl)
open_kind (kind.Reserved w.Switch) = inr (refl, refl, refl)
open_kind (kind.Reserved w.Try) = inr (refl, refl, refl)
open_kind (kind.Reserved w.With) = inr (refl, refl, refl)
open_kind (kind.Word units) = inl (refl, refl, refl, refl, refl, refl, inl refl)
open_kind (kind.Mark m.OpenParen) = inl (refl, refl, refl, refl, refl, refl, inr (inl refl))
open_kind (kind.Mark m.OpenBrace) = inl (refl, refl, refl, refl, refl, refl, inr (inr (inr (inl refl))))
open_kind (kind.Reserved w.Function) = inl (refl, refl, refl, refl, refl, refl, inr (inr (inr (inr refl))))
open_kind _ = inl (refl, refl, refl, refl, refl, refl, inr (inr (inl refl)))

abbrev pub Opening : Token → Type 0
Opening t = (is m.CloseParen t ≡ false) × (is m.CloseBracket t ≡ false) × (is m.Comma t ≡ false) × (is m.Semicolon t ≡ false) × (stops t ≡ false) × (is_word w.Var t ≡ false) × Express t.kind

pub opening_prefix : (t : Token) (x : _) → prefix_of t.kind ≡ x → (prefix.Neither ≡ x → ⊥) → Opening t
unfolding is is_word stops
opening_prefix t x e never = elim (open_kind t.kind) [ inl q ↦ q | inr q ↦ absurd (never (sym q.0 ∙ e)) ]

pub opening_head : (t : Token) (x : _) → head_of t.kind ≡ x → (head.Neither ≡ x → ⊥) → Opening t
unfolding is is_word stops
opening_head t x e never = elim (open_kind t.kind) [ inl q ↦ q | inr q ↦ absurd (never (sym q.1 ∙ e)) ]

pub opening_new : (t : Token) → is_word w.New t ≡ true → Opening t
unfolding is is_word stops
opening_new t e = elim (open_kind t.kind) [ inl q ↦ q | inr q ↦ absurd (false_true (sym q.2 ∙ e)) ]

-- ---- a token that is one word or one mark is no other

kind_word : (v : Reserved) (k : Kind) → kind_is_word v k ≡ true → k ≡ kind.Reserved v
unfolding same_word
kind_word v (kind.Reserved u) e = ap (λ y. kind.Reserved y) (sym (same_true the_reserved.the_type tt v u e))
kind_word v _ e = absurd (false_true e)

pub word_kind : (v : Reserved) (t : Token) → is_word v t ≡ true → t.kind ≡ kind.Reserved v
unfolding is_word
word_kind v t e = kind_word v t.kind e

kind_mark : (x : Mark) (k : Kind) → kind_is x k ≡ true → k ≡ kind.Mark x
unfolding same_mark
kind_mark x (kind.Mark y) e = ap (λ y. kind.Mark y) (sym (same_true the_mark.the_type tt x y e))
kind_mark x _ e = absurd (false_true e)

pub mark_kind : (x : Mark) (t : Token) → is x t ≡ true → t.kind ≡ kind.Mark x
unfolding is
mark_kind x t e = kind_mark x t.kind e

pub mark_no_word : (x : Mark) (v : Reserved) (t : Token) → is x t ≡ true → is_word v t ≡ false
unfolding is_word
mark_no_word x v t e = ap (kind_is_word v) (mark_kind x t e)

pub mark_no_mark : (x y : Mark) (t : Token) → same_mark y x ≡ false → is x t ≡ true → is y t ≡ false
unfolding is
mark_no_mark x y t f e = ap (kind_is y) (mark_kind x t e) ∙ f

pub word_no_word : (v u : Reserved) (t : Token) → same_word u v ≡ false → is_word v t ≡ true → is_word u t ≡ false
unfolding is_word
word_no_word v u t f e = ap (kind_is_word u) (word_kind v t e) ∙ f

pub word_no_mark : (v : Reserved) (y : Mark) (t : Token) → is_word v t ≡ true → is y t ≡ false
unfolding is
word_no_mark v y t e = ap (kind_is y) (word_kind v t e)

pub word_stops : (v : Reserved) (t : Token) → kind_stops (kind.Reserved v) ≡ false → is_word v t ≡ true → stops t ≡ false
unfolding stops
word_stops v t f e = ap kind_stops (word_kind v t e) ∙ f

pub mark_stops : (x : Mark) (t : Token) → kind_stops (kind.Mark x) ≡ false → is x t ≡ true → stops t ≡ false
unfolding stops
mark_stops x t f e = ap kind_stops (mark_kind x t e) ∙ f

named_no_word : (v : Reserved) (k : Kind) (u : Units) → name_of k ≡ ident.Named u → kind_is_word v k ≡ false
unfolding name_of
named_no_word v (kind.Word units) u e = refl
named_no_word v _ u e = absurd (let z = e in cc)

pub name_no_word : (v : Reserved) (t : Token) (u : Units) → name_of t.kind ≡ ident.Named u → is_word v t ≡ false
unfolding is_word
name_no_word v t u e = named_no_word v t.kind u e

word_start : (v : Reserved) → start_of (kind.Reserved v) ≡ start.Identifier → ⊥
unfolding start_of
word_start w.If e = cc
word_start _ e = cc

mark_start : (x : Mark) → start_of (kind.Mark x) ≡ start.Identifier → ⊥
unfolding start_of
mark_start m.OpenBrace e = cc
mark_start _ e = cc

other_start : start.Expression ≡ start.Identifier → ⊥
other_start e = cc

identifier_names : (k : Kind) → start_of k ≡ start.Identifier → kind_names k ≡ true
unfolding start_of
identifier_names (kind.Word units) e = refl
identifier_names (kind.Reserved v) e = absurd (word_start v e)
identifier_names (kind.Mark x) e = absurd (mark_start x e)
identifier_names _ e = absurd (other_start e)

pub identifier : (t : Token) → start_of t.kind ≡ start.Identifier → kind_names t.kind ≡ true
identifier t e = identifier_names t.kind e

when_false : {A : Type 0} (b : Bool) (x : A) → when (b && false) x ≡ None
when_false true x = refl
when_false false x = refl

in_none : (level : ℕ) → infix_by true level (infix_of (kind.Reserved w.In)) ≡ None
unfolding infix_of
in_none level = when_false (nat_eq (level_of (between.Plain op.In)) level) (between.Plain op.In)

-- `in` is no operator where it isn't allowed
pub in_alone : (level : ℕ) (t : Token) → is_word w.In t ≡ true → infix_at true level t ≡ None
unfolding infix_at
in_alone level t e = ap (λ k. infix_by true level (infix_of k)) (word_kind w.In t e) ∙ in_none level

in_kind : (assign_of (kind.Reserved w.In) ≡ None) × (step_of (kind.Reserved w.In) ≡ None)
unfolding assign_of step_of
in_kind = (refl, refl)

pub in_no_step : (t : Token) → is_word w.In t ≡ true → (assign_of t.kind ≡ None) × (step_of t.kind ≡ None)
in_no_step t e = (ap assign_of (word_kind w.In t e) ∙ in_kind.0, ap step_of (word_kind w.In t e) ∙ in_kind.1)

-- A key closes no object, and a parenthesis is no name.
key_kind : (k : Kind) (x : _) → literal_key_of k ≡ Some x → kind_is m.CloseBrace k ≡ false
unfolding literal_key_of same_mark
key_kind (kind.Mark x) y e = absurd (not_some y e)
key_kind _ y e = refl

pub key_no_brace : (t : Token) (x : _) → literal_key_of t.kind ≡ Some x → is m.CloseBrace t ≡ false
unfolding is
key_no_brace t x e = key_kind t.kind x e
