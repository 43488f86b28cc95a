-- What a token is to the grammar, and what it may begin or go on with.
use Rattle.std.specs.Prelude.{ℕ, Bool, true, false, not, ◌||◌, ◌&&◌, Option, Some, None, List, nat_eq, codes}
use Rattle.std.specs.Cmp.Lexicographic.{pointwise}
use Rattle.std.specs.Fmt.{signed_decimal}
use denote.Enum.Bare.{sameb}
use Rattle.js_lexer.specs.contracts.Mark as the_mark
use Rattle.js_lexer.specs.declared.Mark.{Mark}
use Rattle.js_lexer.specs.declared.Mark.TheVariants as m
use Rattle.js_lexer.specs.contracts.Reserved as the_reserved
use Rattle.js_lexer.specs.declared.Reserved.{Reserved}
use Rattle.js_lexer.specs.declared.Reserved.TheVariants as w
use Rattle.js_lexer.specs.declared.CallWord.{CallWord}
use Rattle.js_lexer.specs.declared.CallWord.TheVariants as c
use Rattle.js_lexer.specs.declared.Kind.{Kind}
use Rattle.js_lexer.specs.declared.Kind.TheVariants as kind
use Rattle.js_lexer.specs.declared.Token.{Token}
use Rattle.js_lexer.specs.Words.{call_units}
use Rattle.script_grammar.specs.declared.Form.{Form}
use Rattle.script_grammar.specs.declared.Form.TheVariants as form
use Rattle.script_grammar.specs.declared.stop.Stop.{Stop}
use Rattle.script_grammar.specs.declared.stop.Stop.TheVariants as stop
use Rattle.js_tree.specs.declared.BinaryOperator.{BinaryOperator}
use Rattle.script_grammar.specs.declared.classes.Start.{Start}
use Rattle.script_grammar.specs.declared.classes.Start.TheVariants as start
use Rattle.script_grammar.specs.declared.classes.Head.{Head}
use Rattle.script_grammar.specs.declared.classes.Head.TheVariants as head
use Rattle.script_grammar.specs.declared.classes.Lead.{Lead}
use Rattle.script_grammar.specs.declared.classes.Lead.TheVariants as lead
use Rattle.script_grammar.specs.declared.classes.Prefix.{Prefix}
use Rattle.script_grammar.specs.declared.classes.Prefix.TheVariants as prefix
use Rattle.script_grammar.specs.declared.classes.Tail.{Tail}
use Rattle.script_grammar.specs.declared.classes.Tail.TheVariants as tail
use Rattle.script_grammar.specs.declared.classes.Infix.{Infix}
use Rattle.script_grammar.specs.declared.classes.Infix.TheVariants as between
use Rattle.script_grammar.specs.declared.classes.Name.{Name}
use Rattle.script_grammar.specs.declared.classes.Name.TheVariants as ident
use Rattle.js_tree.specs.declared.BinaryOperator.TheVariants as op
use Rattle.js_tree.specs.declared.UnaryOperator.TheVariants as sign
use Rattle.js_tree.specs.declared.Sign.{Sign}
use Rattle.js_tree.specs.declared.Sign.TheVariants as step
use Rattle.js_tree.specs.declared.Literal.TheVariants as literal

-- the units of a word or of a text
abbrev pub Units : Type 0
Units = List ℕ

-- ---- one token or another

unfoldable pub same_mark : Mark → Mark → Bool
same_mark = sameb the_mark.the_type

unfoldable pub same_word : Reserved → Reserved → Bool
same_word = sameb the_reserved.the_type

abbrev pub kind_is : Mark → Kind → Bool
kind_is m (kind.Mark n) = same_mark m n
kind_is m _ = false

abbrev pub kind_is_word : Reserved → Kind → Bool
kind_is_word w (kind.Reserved v) = same_word w v
kind_is_word w _ = false

-- the token is this punctuator
unfoldable pub is : Mark → Token → Bool
is m token = kind_is m token.kind

-- the token is this word
unfoldable pub is_word : Reserved → Token → Bool
is_word w token = kind_is_word w token.kind

abbrev pub kind_ends : Kind → Bool
kind_ends kind.End = true
kind_ends _ = false

unfoldable pub is_end : Token → Bool
is_end token = kind_ends token.kind

-- Before the token a semicolon may be left out.
unfoldable pub closes : Token → Bool
closes token = is m.CloseBrace token || (is_end token || token.after_newline)

abbrev pub kind_stops : Kind → Bool
kind_stops (kind.Mark m.CloseBrace) = true
kind_stops (kind.Reserved w.Case) = true
kind_stops (kind.Reserved w.Default) = true
kind_stops kind.End = true
kind_stops _ = false

-- No statement stands before the token, and a list of statements ends.
unfoldable pub stops : Token → Bool
stops token = kind_stops token.kind

-- ---- names

-- `eval` and `arguments`
abbrev pub eval_word : Units
eval_word = codes "eval"

abbrev pub arguments_word : Units
arguments_word = codes "arguments"

abbrev pub forbidden_by : Bool → Bool → Option Form
forbidden_by true second = Some form.Eval
forbidden_by false true = Some form.Arguments
forbidden_by false false = None

-- the left-out form that a name would be
unfoldable pub forbidden : Units → Option Form
forbidden units = forbidden_by (pointwise nat_eq units eval_word) (pointwise nat_eq units arguments_word)

abbrev pub name_by : Option Form → Units → Name
name_by (Some x) units = ident.Out x
name_by None units = ident.Named units

unfoldable pub name_of : Kind → Name
name_of (kind.Word units) = name_by (forbidden units) units
name_of _ = ident.Other

-- a key after a dot
unfoldable pub key_of : Kind → Option Units
key_of (kind.Word units) = Some units
key_of (kind.Call c) = Some (call_units c)
key_of _ = None

-- a key of an object literal; a number is its decimal text
unfoldable pub literal_key_of : Kind → Option Units
literal_key_of (kind.Word units) = Some units
literal_key_of (kind.Call c) = Some (call_units c)
literal_key_of (kind.Text units) = Some units
literal_key_of (kind.Number value) = Some (signed_decimal value)
literal_key_of _ = None

abbrev pub kind_names : Kind → Bool
kind_names (kind.Word units) = true
kind_names _ = false

-- the token is an identifier on the same line
unfoldable pub labels : Token → Bool
labels token = kind_names token.kind && not token.after_newline

-- ---- statements

-- what a statement is that begins so
unfoldable pub start_of : Kind → Start
start_of (kind.Mark m.OpenBrace) = start.Block
start_of (kind.Mark m.Semicolon) = start.Empty
start_of (kind.Mark m.OpenParen) = start.Parenthesis
start_of (kind.Reserved w.Var) = start.Var
start_of (kind.Reserved w.If) = start.If
start_of (kind.Reserved w.Do) = start.Do
start_of (kind.Reserved w.While) = start.While
start_of (kind.Reserved w.For) = start.For
start_of (kind.Reserved w.Continue) = start.Continue
start_of (kind.Reserved w.Break) = start.Break
start_of (kind.Reserved w.Return) = start.Return
start_of (kind.Reserved w.Throw) = start.Throw
start_of (kind.Reserved w.Switch) = start.Switch
start_of (kind.Reserved w.Try) = start.Try
start_of (kind.Reserved w.Function) = start.Neither
start_of (kind.Word units) = start.Identifier
start_of _ = start.Expression

-- ---- expressions

abbrev pub call_head : CallWord → Head
call_head c.Print = head.Many
call_head c.Join = head.Zero c.Join
call_head c.Crash = head.Zero c.Crash
call_head c.Once = head.One c.Once
call_head c.Fork = head.One c.Fork
call_head c.Post = head.One c.Post
call_head c.Reply = head.One c.Reply
call_head c.Prompt = head.One c.Prompt
call_head c.Random = head.One c.Random

-- what an operand is that begins so
unfoldable pub head_of : Kind → Head
head_of (kind.Reserved w.This) = head.This
head_of (kind.Reserved w.Null) = head.Constant literal.Null
head_of (kind.Reserved w.True) = head.Constant (literal.Truth true)
head_of (kind.Reserved w.False) = head.Constant (literal.Truth false)
head_of (kind.Reserved w.Function) = head.Function
head_of (kind.Word units) = head.Identifier (name_by (forbidden units) units)
head_of (kind.Number value) = head.Constant (literal.Number value)
head_of (kind.Text units) = head.Constant (literal.Text units)
head_of (kind.Call c) = call_head c
head_of (kind.Mark m.OpenBracket) = head.Array
head_of (kind.Mark m.OpenBrace) = head.Object
head_of (kind.Mark m.OpenParen) = head.Parenthesis
head_of (kind.Mark m.Slash) = head.RegExp
head_of (kind.Mark m.AssignSlash) = head.RegExp
head_of _ = head.Neither

-- what stands with the first token of an operand
abbrev pub lead_of : Head → Lead
lead_of head.Parenthesis = lead.Open
lead_of (head.Identifier (ident.Out x)) = lead.Refused (Some x)
lead_of (head.Identifier ident.Other) = lead.Refused None
lead_of head.RegExp = lead.Refused (Some form.RegExp)
lead_of head.Neither = lead.Refused None
lead_of _ = lead.Node

-- what an expression begins with
unfoldable pub prefix_of : Kind → Prefix
prefix_of (kind.Reserved w.Delete) = prefix.Delete
prefix_of (kind.Reserved w.Void) = prefix.Void
prefix_of (kind.Reserved w.Typeof) = prefix.Typeof
prefix_of (kind.Mark m.PlusPlus) = prefix.Update step.Plus
prefix_of (kind.Mark m.MinusMinus) = prefix.Update step.Minus
prefix_of (kind.Mark m.Plus) = prefix.Signed sign.Plus
prefix_of (kind.Mark m.Minus) = prefix.Signed sign.Minus
prefix_of (kind.Mark m.BitNot) = prefix.Signed sign.BitNot
prefix_of (kind.Mark m.Not) = prefix.Signed sign.Not
prefix_of _ = prefix.Neither

abbrev pub some_prefix : Prefix → Bool
some_prefix prefix.Neither = false
some_prefix _ = true

-- an operator stands before an operand
unfoldable pub prefixed : Kind → Bool
prefixed k = some_prefix (prefix_of k)

-- what stands after an operand
unfoldable pub tail_of : Kind → Tail
tail_of (kind.Mark m.OpenBracket) = tail.Computed
tail_of (kind.Mark m.Dot) = tail.Fixed
tail_of (kind.Mark m.OpenParen) = tail.Call
tail_of _ = tail.Neither

unfoldable pub step_of : Kind → Option Sign
step_of (kind.Mark m.PlusPlus) = Some step.Plus
step_of (kind.Mark m.MinusMinus) = Some step.Minus
step_of _ = None

-- an operator between two operands
unfoldable pub infix_of : Kind → Option Infix
infix_of (kind.Mark m.Star) = Some (between.Plain op.Multiply)
infix_of (kind.Mark m.Slash) = Some (between.Plain op.Divide)
infix_of (kind.Mark m.Percent) = Some (between.Plain op.Remainder)
infix_of (kind.Mark m.Plus) = Some (between.Plain op.Add)
infix_of (kind.Mark m.Minus) = Some (between.Plain op.Subtract)
infix_of (kind.Mark m.ShiftLeft) = Some (between.Plain op.ShiftLeft)
infix_of (kind.Mark m.ShiftRight) = Some (between.Plain op.ShiftRight)
infix_of (kind.Mark m.ShiftRightZero) = Some (between.Plain op.ShiftRightZero)
infix_of (kind.Mark m.Less) = Some (between.Plain op.Less)
infix_of (kind.Mark m.Greater) = Some (between.Plain op.Greater)
infix_of (kind.Mark m.LessEqual) = Some (between.Plain op.LessOrEqual)
infix_of (kind.Mark m.GreaterEqual) = Some (between.Plain op.GreaterOrEqual)
infix_of (kind.Mark m.Equal) = Some (between.Plain op.Equal)
infix_of (kind.Mark m.NotEqual) = Some (between.Plain op.NotEqual)
infix_of (kind.Mark m.Same) = Some (between.Plain op.Same)
infix_of (kind.Mark m.NotSame) = Some (between.Plain op.NotSame)
infix_of (kind.Mark m.BitAnd) = Some (between.Plain op.BitAnd)
infix_of (kind.Mark m.BitXor) = Some (between.Plain op.BitXor)
infix_of (kind.Mark m.BitOr) = Some (between.Plain op.BitOr)
infix_of (kind.Reserved w.Instanceof) = Some (between.Plain op.InstanceOf)
infix_of (kind.Reserved w.In) = Some (between.Plain op.In)
infix_of (kind.Mark m.And) = Some between.And
infix_of (kind.Mark m.Or) = Some between.Or
infix_of _ = None

-- the levels of binary operators, from 1, the tightest
unfoldable pub level_of : Infix → ℕ
level_of (between.Plain op.Multiply) = 1
level_of (between.Plain op.Divide) = 1
level_of (between.Plain op.Remainder) = 1
level_of (between.Plain op.Add) = 2
level_of (between.Plain op.Subtract) = 2
level_of (between.Plain op.ShiftLeft) = 3
level_of (between.Plain op.ShiftRight) = 3
level_of (between.Plain op.ShiftRightZero) = 3
level_of (between.Plain op.Less) = 4
level_of (between.Plain op.Greater) = 4
level_of (between.Plain op.LessOrEqual) = 4
level_of (between.Plain op.GreaterOrEqual) = 4
level_of (between.Plain op.InstanceOf) = 4
level_of (between.Plain op.In) = 4
level_of (between.Plain op.Equal) = 5
level_of (between.Plain op.NotEqual) = 5
level_of (between.Plain op.Same) = 5
level_of (between.Plain op.NotSame) = 5
level_of (between.Plain op.BitAnd) = 6
level_of (between.Plain op.BitXor) = 7
level_of (between.Plain op.BitOr) = 8
level_of between.And = 9
level_of between.Or = 10

abbrev pub is_in : Infix → Bool
is_in (between.Plain op.In) = true
is_in _ = false

abbrev pub when : {A : Type 0} → Bool → A → Option A
when true a = Some a
when false a = None

abbrev pub infix_by : (no_in : Bool) (level : ℕ) → Option Infix → Option Infix
infix_by no_in level (Some op) = when (nat_eq (level_of op) level && not (no_in && is_in op)) op
infix_by no_in level None = None

-- the operator of a level that a token is; where `in` doesn't stand, it is none
unfoldable pub infix_at : (no_in : Bool) (level : ℕ) → Token → Option Infix
infix_at no_in level token = infix_by no_in level (infix_of token.kind)

-- an operator of assignment: with the operator that it applies, or with none
unfoldable pub assign_of : Kind → Option (Option BinaryOperator)
assign_of (kind.Mark m.Assign) = Some None
assign_of (kind.Mark m.AssignPlus) = Some (Some op.Add)
assign_of (kind.Mark m.AssignMinus) = Some (Some op.Subtract)
assign_of (kind.Mark m.AssignStar) = Some (Some op.Multiply)
assign_of (kind.Mark m.AssignSlash) = Some (Some op.Divide)
assign_of (kind.Mark m.AssignPercent) = Some (Some op.Remainder)
assign_of (kind.Mark m.AssignShiftLeft) = Some (Some op.ShiftLeft)
assign_of (kind.Mark m.AssignShiftRight) = Some (Some op.ShiftRight)
assign_of (kind.Mark m.AssignShiftRightZero) = Some (Some op.ShiftRightZero)
assign_of (kind.Mark m.AssignAnd) = Some (Some op.BitAnd)
assign_of (kind.Mark m.AssignOr) = Some (Some op.BitOr)
assign_of (kind.Mark m.AssignXor) = Some (Some op.BitXor)
assign_of _ = None

-- ---- faults

-- A token that fits nothing is a fault of syntax, or a form that is left out.
abbrev pub fault : Option Form → ℕ → Stop
fault (Some form) place = stop.LeftOut place form
fault None place = stop.Syntax place

-- Where a token fits nothing, the word `with` is the form that is left out, whatever was due.
unfoldable pub form_at : Option Form → Token → Option Form
form_at (Some x) token = Some x
form_at None token = when (is_word w.With token) form.With
