-- The rows of expressions, but for the script calls (ECMA-262 3rd ed. 11; sections in numbers). A row takes the meaning of
-- the nodes below it as a parameter, and asks of the state by requests alone.
use Rattle.std.specs.Prelude.{ℕ, suc, List, [], ◌∷◌, Option, Some, None}
use Rattle.js_tree.specs.declared.Named.{Named}
use Rattle.js_tree.specs.declared.Sign.{Sign}
use Rattle.js_tree.specs.declared.Fix.{Fix}
use Rattle.js_tree.specs.declared.Literal.{Literal}
use Rattle.js_tree.specs.declared.Literal.TheVariants as literal
use Rattle.js_tree.specs.declared.UnaryOperator.{UnaryOperator}
use Rattle.js_tree.specs.declared.BinaryOperator.{BinaryOperator}
use Rattle.js_tree.specs.declared.ExprNode.TheOpen.{ExprNode-F, Key-F}
use Rattle.js_tree.specs.declared.Key.{Key, out-Key}
use Rattle.js_tree.specs.declared.Field.{Field, out-Field}
use Rattle.js_tree.specs.declared.Script.{Script}
use Rattle.js_tree.specs.declared.Expr.{Expr}
use Rattle.js_tree.specs.declared.Stmt.{Stmt}
use Rattle.js_tree.specs.Trees.{ExprLevel, KeyLevel, expr_level, number_of}
use Rattle.turk_base.specs.Names.{Units, Name}
use Rattle.turk_base.specs.Values.{Val, Undefined, Null, Truth, Number, Text, Object, Frame, Plain, Array}
use Rattle.turk_base.specs.Conversions.{truth, number_in}
use Rattle.turk_base.specs.Operators.{number_or_refused}
use Rattle.turk_base.specs.Prog.{Make, Put, Declare, Prog, Then, ◌>>=◌, ask, value, given}
use Rattle.turk_base.specs.Errors.{choose, index_text, text_from}
use Rattle.js_tree.specs.Pieces.{Here, get_variable, has_properties, get_property, Place, Variable as Var, Property, Given, get_place, set_place, make_function}
use Rattle.js_tree.specs.Calls.{Code, call_place, construct}
use Rattle.js_tree.specs.Operate.{stepped, answered, delete_property, typeof_place, unary_result, operate_values}

-- ---- expressions without parts that are evaluated

-- 11.1.1
unfoldable pub this_row : Here → Prog
this_row here = value here.this

-- 11.1.2
unfoldable pub name_row : Here → Named → Prog
name_row here x = do
  v ← get_variable here x
  value v

-- 11.1.3
unfoldable pub literal_row : Literal → Prog
literal_row literal.Null = value Null
literal_row (literal.Truth b) = value (Truth b)
literal_row (literal.Number n) = value (Number n)
literal_row (literal.Text t) = value (Text t)

-- 13: a name of its own stands in a frame of its own
unfoldable pub function_row : Here → Option Units → Script → Prog
function_row here None body = do
  f ← make_function (number_of body) here.frame
  value (Object f)
function_row here (Some own) body = do
  g ← ask (Make (Frame (Some here.frame)))
  f ← make_function (number_of body) g
  _ ← ask (Declare g own (Object f))
  value (Object f)

-- ---- expressions whose parts are expressions: `expr` is their meaning

module _ (expr : Here → Expr → Prog) where
  abbrev pub eval : Here → Expr → (Val → Prog) → Prog
  eval here e go = Then (expr here e) go

  -- in order from left to right
  abbrev pub each : Here → List Expr → (List Val → Prog) → Prog
  each here [] go = go []
  each here (e ∷ es) go = do
    v ← eval here e
    vs ← each here es
    go (v ∷ vs)

  -- 11.2.1: base, key, undefined or null throws, the key becomes a text; the property isn't looked up yet
  abbrev pub member : Here → Expr → KeyLevel → (Val × Units → Prog) → Prog
  member here b (Key-F.Fixed key) go = do
    base ← eval here b
    _ ← has_properties base
    go (base, key)
  member here b (Key-F.Computed k) go = do
    base ← eval here b
    v ← eval here k
    _ ← has_properties base
    key ← text_from v
    go (base, key)

  -- a target, a callee or the operand of typeof: a name or a member isn't counted as a node
  abbrev pub place_of : Here → Expr → ExprLevel → (Place → Prog) → Prog
  place_of here e (ExprNode-F.Name x) go = go (Var x)
  place_of here e (ExprNode-F.Member b k) go = do
    (base, key) ← member here b (out-Key k)
    go (Property base key)
  place_of here e node go = do
    v ← eval here e
    go (Given v)

  abbrev pub place : Here → Expr → (Place → Prog) → Prog
  place here e go = place_of here e (expr_level e) go

  -- 11.1.4: the cell, then its items
  abbrev pub items : Here → Name → ℕ → List Expr → Prog
  items here a i [] = value (Object a)
  items here a i (e ∷ es) = do
    v ← eval here e
    _ ← ask (Put a (index_text i) v)
    items here a (suc i) es

  unfoldable pub array_row : Here → List Expr → Prog
  array_row here es = do
    a ← ask (Make Array)
    items here a 0 es

  -- 11.1.5: the cell, then its fields; it has no prototype
  abbrev pub fields : Here → Name → List Field → Prog
  fields here o [] = value (Object o)
  fields here o (x ∷ xs) = do
    v ← eval here (out-Field x).value
    _ ← ask (Put o (out-Field x).key v)
    fields here o xs

  unfoldable pub object_row : Here → List Field → Prog
  object_row here xs = do
    o ← ask (Make (Plain None))
    fields here o xs

  -- 11.2.1
  unfoldable pub member_row : Here → Expr → Key → Prog
  member_row here b k = do
    (base, key) ← member here b (out-Key k)
    v ← get_property base key
    value v

  unfoldable pub update_row : Here → Expr → Sign → Fix → Prog
  update_row here e s f = do
    p ← place here e
    v ← get_place here p
    old ← given (number_in v)
    new ← given (number_or_refused (stepped s old))
    _ ← set_place here p new
    value (answered f old new)

  unfoldable pub delete_row : Here → Expr → Key → Prog
  delete_row here b k = do
    (base, key) ← member here b (out-Key k)
    delete_property base key

  -- 11.4.2
  unfoldable pub void_row : Here → Expr → Prog
  void_row here e = do
    _ ← eval here e
    value Undefined

  unfoldable pub typeof_row : Here → Expr → Prog
  typeof_row here e = do
    p ← place here e
    typeof_place here p

  unfoldable pub unary_row : Here → UnaryOperator → Expr → Prog
  unary_row here o e = do
    v ← eval here e
    r ← given (unary_result o v)
    value r

  -- 11.5 to 11.10
  unfoldable pub binary_row : Here → BinaryOperator → Expr → Expr → Prog
  binary_row here o a b = do
    x ← eval here a
    y ← eval here b
    operate_values o x y

  -- 11.11
  unfoldable pub and_row : Here → Expr → Expr → Prog
  and_row here a b = do
    x ← eval here a
    choose (truth x) (expr here b) (value x)

  unfoldable pub or_row : Here → Expr → Expr → Prog
  or_row here a b = do
    x ← eval here a
    choose (truth x) (value x) (expr here b)

  -- 11.12
  unfoldable pub conditional_row : Here → Expr → Expr → Expr → Prog
  conditional_row here t a b = do
    x ← eval here t
    choose (truth x) (expr here a) (expr here b)

  -- 11.13: the place, the old value where there is an operator, the right side, the write
  unfoldable pub assign_row : Here → Option BinaryOperator → Expr → Expr → Prog
  assign_row here None t e = do
    p ← place here t
    v ← eval here e
    _ ← set_place here p v
    value v
  assign_row here (Some o) t e = do
    p ← place here t
    x ← get_place here p
    y ← eval here e
    v ← Then (operate_values o x y)
    _ ← set_place here p v
    value v

  -- 11.14
  unfoldable pub comma_row : Here → Expr → Expr → Prog
  comma_row here a b = do
    _ ← eval here a
    expr here b

-- ---- calls: `stmt` is the meaning of the statements of a called body

module _ (table : List Code) (expr : Here → Expr → Prog) (stmt : Here → Stmt → Prog) where
  -- 11.2.3
  unfoldable pub call_row : Here → Expr → List Expr → Prog
  call_row here e es = do
    p ← place expr here e
    args ← each expr here es
    call_place table stmt here p args

  -- 11.2.2: the callee's value is read before the arguments and tested after them
  unfoldable pub new_row : Here → Expr → List Expr → Prog
  new_row here e es = do
    p ← place expr here e
    f ← get_place here p
    args ← each expr here es
    construct table stmt f args
