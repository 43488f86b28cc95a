-- What operators do with the values of their operands (ECMA-262 3rd ed. 11.3 to 11.10).
use Rattle.std.specs.Prelude.{Bool, true, false, not, ◌||◌, ◌++◌, ℤ, pos, neg_ℤ, Option, Some, is_some, Result, Ok, codes}
use Rattle.js_tree.specs.declared.Binding.{Binding}
use Rattle.js_tree.specs.declared.Binding.TheVariants as binding
use Rattle.js_tree.specs.declared.Sign.{Sign}
use Rattle.js_tree.specs.declared.Sign.TheVariants as sign
use Rattle.js_tree.specs.declared.Fix.{Fix}
use Rattle.js_tree.specs.declared.Fix.TheVariants as fix
use Rattle.js_tree.specs.declared.UnaryOperator.{UnaryOperator}
use Rattle.js_tree.specs.declared.UnaryOperator.TheVariants as unary
use Rattle.js_tree.specs.declared.BinaryOperator.{BinaryOperator}
use Rattle.js_tree.specs.declared.BinaryOperator.TheVariants as op
use Rattle.turk_base.specs.Names.{Units, Name}
use Rattle.turk_base.specs.Values.{Val, Undefined, Null, Truth, Number, Text, Object, Kind, Function, BuiltIn, Refusal}
use Rattle.turk_base.specs.Conversions.{truth, text_in, number_in, integer_in}
use Rattle.turk_base.specs.Operators.{and_then, total, difference, product, quotient, remainder, numeric, bitwise, bits_and, bits_or, bits_xor, bits_not, shift_left, shift_right, shift_right_unsigned, ordered, less, greater, less_or_equal, greater_or_equal, same, equal}
use Rattle.turk_base.specs.Prog.{KindOf, Inherits, Get, Remove, Prog, Ask, ◌>>=◌, ask, value, given, made}
use Rattle.turk_base.specs.Errors.{is_key, choose, type_error, not_a_function, text_from}
use Rattle.js_tree.specs.Pieces.{Here, get_variable, Place, Variable, get_place, as_function}

-- ---- operators with one operand

-- 11.3, 11.4.4, 11.4.5: the number stepped, and which of the two the update answers
abbrev pub stepped : Sign → ℤ → Option ℤ
stepped sign.Plus n = total n (pos 1)
stepped sign.Minus n = difference n (pos 1)

abbrev pub answered : Fix → ℤ → Val → Val
answered fix.Prefix old new = new
answered fix.Postfix old new = Number old

-- 11.4.1
abbrev pub delete_property : Val → Units → Prog
delete_property (Object c) key = Ask (Remove c key) (λ b. value (Truth b))
delete_property (Text t) key = value (Truth (not (is_key "length" key)))
delete_property v key = value (Truth true)

-- 11.4.3
abbrev pub kind_type : Kind → Val
kind_type (Function number frame) = Text (codes "function")
kind_type (BuiltIn which) = Text (codes "function")
kind_type kind = Text (codes "object")

abbrev pub type_of : Val → Prog
type_of Undefined = value (Text (codes "undefined"))
type_of Null = value (Text (codes "object"))
type_of (Truth b) = value (Text (codes "boolean"))
type_of (Number n) = value (Text (codes "number"))
type_of (Text t) = value (Text (codes "string"))
type_of (Object c) = Ask (KindOf c) (λ kind. value (kind_type kind))

-- a name that nothing declares is undefined
abbrev pub undeclared : Binding → Bool
undeclared binding.Nothing = true
undeclared b = false

abbrev pub typeof_place : Here → Place → Prog
typeof_place here (Variable x) = choose (undeclared x.binding) (type_of Undefined) (get_variable here x type_of)
typeof_place here p = get_place here p type_of

-- 11.4.6 to 11.4.9
abbrev pub unary_result : UnaryOperator → Val → Result Val Refusal
unary_result unary.Plus v = and_then (number_in v) (λ n. Ok (Number n))
unary_result unary.Minus v = and_then (number_in v) (λ n. Ok (Number (neg_ℤ n)))
unary_result unary.BitNot v = and_then (integer_in v) (λ n. Ok (Number (bits_not n)))
unary_result unary.Not v = Ok (Truth (not (truth v)))

-- ---- `+`, `in`, `instanceof`

-- 11.6.1: an object is refused before anything is converted
abbrev pub concatenate : Val → Val → Prog
concatenate x y = do
  s ← text_from x
  t ← text_from y
  u ← made (s ++ t)
  value (Text u)

unfoldable pub sum_row : Val → Val → Prog
sum_row x y = do
  v ← given (numeric total x y)
  value v

abbrev pub is_text : Val → Bool
is_text (Text t) = true
is_text v = false

abbrev pub add_values : Val → Val → Prog
add_values x y = do
  _ ← given (text_in x)
  _ ← given (text_in y)
  choose (is_text x || is_text y) (concatenate x y) (sum_row x y)

-- 11.8.7
abbrev pub in_object : Val → Val → Prog
in_object x (Object c) = do
  key ← text_from x
  found ← ask (Get c key)
  value (Truth (is_some found))
in_object x y = type_error (codes "not an object")

-- 11.8.6, 15.3.5.3
abbrev pub on_chain : Name → Option Val → Prog
on_chain c (Some (Object p)) = Ask (Inherits c p) (λ b. value (Truth b))
on_chain c v = type_error (codes "prototype is not an object")

abbrev pub instance_of : Val → Name → Prog
instance_of (Object c) f = Ask (Get f (codes "prototype")) (λ p. on_chain c p)
instance_of v f = value (Truth false)

-- ---- the binary operators

-- 11.5 to 11.10, all but the three above
abbrev pub operate : BinaryOperator → Val → Val → Result Val Refusal
operate op.Subtract x y = numeric difference x y
operate op.Multiply x y = numeric product x y
operate op.Divide x y = numeric quotient x y
operate op.Remainder x y = numeric remainder x y
operate op.ShiftLeft x y = bitwise shift_left x y
operate op.ShiftRight x y = bitwise shift_right x y
operate op.ShiftRightZero x y = bitwise shift_right_unsigned x y
operate op.BitAnd x y = bitwise bits_and x y
operate op.BitOr x y = bitwise bits_or x y
operate op.BitXor x y = bitwise bits_xor x y
operate op.Less x y = ordered less x y
operate op.Greater x y = ordered greater x y
operate op.LessOrEqual x y = ordered less_or_equal x y
operate op.GreaterOrEqual x y = ordered greater_or_equal x y
operate op.Equal x y = and_then (equal x y) (λ b. Ok (Truth b))
operate op.NotEqual x y = and_then (equal x y) (λ b. Ok (Truth (not b)))
operate op.Same x y = Ok (Truth (same x y))
operate op.NotSame x y = Ok (Truth (not (same x y)))
-- the other three have rows of their own
operate o x y = Ok x

abbrev pub operate_values : BinaryOperator → Val → Val → Prog
operate_values op.Add x y = add_values x y
operate_values op.In x y = in_object x y
operate_values op.InstanceOf x y = as_function y not_a_function (λ f. instance_of x f)
operate_values o x y = given (operate o x y) (λ v. value v)
