-- Pieces that rows and built-in calls share: the built-in cells, errors that are thrown, and texts with their charge.
use package.Prim.Native.String.{String}
use Rattle.std.specs.Prelude.{ℕ, Bool, true, false, Option, Some, None, codes, decimal}
use Rattle.turk_base.specs.Names.{root, Units, Name, cell}
use Rattle.turk_base.specs.Values.{Val, Undefined, Text, Object, Plain, Throw}
use Rattle.turk_base.specs.Conversions.{same_units, text_in}
use Rattle.turk_base.specs.Prog.{Make, Put, Prog, Done, ◌>>=◌, ask, given, made}

-- the cells that a run begins with: 0 Error, 1 its prototype, 2 TypeError, 3 its prototype, 4 ReferenceError,
-- 5 its prototype, 6 String
abbrev pub built_in : ℕ → Name
built_in n = cell root n

abbrev pub is_key : String → Units → Bool
is_key name key = same_units (codes name) key

abbrev pub choose : {A : Type 0} → Bool → A → A → A
choose true a b = a
choose false a b = b

abbrev pub or_undefined : Option Val → Val
or_undefined (Some v) = v
or_undefined None = Undefined

-- the decimal text of an index; as a key it costs nothing
abbrev pub index_text : ℕ → Units
index_text = decimal

-- ---- errors (own rule: the message is paid, then the cell, then its property)

abbrev pub error_cell : Name → Units → (Name → Prog) → Prog
error_cell prototype message go = do
  c ← ask (Make (Plain (Some prototype)))
  _ ← ask (Put c (codes "message") (Text message))
  go c

abbrev pub throw_error : Name → Units → Prog
throw_error prototype message = do
  t ← made message
  c ← error_cell prototype t
  Done (Throw (Object c))

abbrev pub type_error : Units → Prog
type_error = throw_error (built_in 3)

abbrev pub reference_error : Units → Prog
reference_error = throw_error (built_in 5)

abbrev pub not_a_function : Prog
not_a_function = type_error (codes "not a function")

-- ---- conversion to a text (ES3 9.8): it pays its length, but for a text, which isn't made anew

abbrev pub text_from : Val → (Units → Prog) → Prog
text_from (Text t) go = go t
text_from v go = given (text_in v) (λ t. made t go)
