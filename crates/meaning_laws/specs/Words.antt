-- Words to write scripts as trees that read like their texts.
use package.Prim.Native.String.{String}
use Rattle.std.specs.Prelude.{ℕ, Bool, false, true, List, map, pos, Option, Some, None, codes}
use Rattle.js_tree.specs.declared.Binding.TheVariants as binding
use Rattle.js_tree.specs.declared.Named.{Named}
use Rattle.js_tree.specs.declared.Sign.TheVariants as sign
use Rattle.js_tree.specs.declared.Fix.TheVariants as fix
use Rattle.js_tree.specs.declared.UnaryOperator.TheVariants as unary
use Rattle.js_tree.specs.declared.BinaryOperator.{BinaryOperator}
use Rattle.js_tree.specs.declared.BinaryOperator.TheVariants as op
use Rattle.js_tree.specs.declared.Literal.TheVariants as literal
use Rattle.js_tree.specs.declared.Key.TheVariants as key
use Rattle.js_tree.specs.declared.ForStart.{ForStart}
use Rattle.js_tree.specs.declared.ForStart.TheVariants as start
use Rattle.js_tree.specs.declared.ForTarget.{ForTarget}
use Rattle.js_tree.specs.declared.ForTarget.TheVariants as target
use Rattle.js_tree.specs.declared.ExprNode.TheVariants as e
use Rattle.js_tree.specs.declared.StmtNode.TheVariants as s
use Rattle.js_tree.specs.declared.Expr.{Expr}
use Rattle.js_tree.specs.declared.Stmt.{Stmt}
use Rattle.js_tree.specs.declared.Field.{Field}
use Rattle.js_tree.specs.declared.Variable.{Variable}
use Rattle.js_tree.specs.declared.Case.{Case}
use Rattle.js_tree.specs.declared.Declaration.{Declaration}
use Rattle.js_tree.specs.declared.Script.{Script}
use Rattle.js_tree.specs.Trees.{expr_of, stmt_of, field_of, variable_of, case_of, catch_of, declaration_of, script_numbered}

-- ---- names: a name declared in the frame where it stands, or so many frames out; a built-in one; one that nothing declares

abbrev pub name_out : ℕ → String → Named
name_out k x = record { name = codes x; binding = binding.Out k; own = false }

abbrev pub here : String → Expr
here x = expr_of (e.Name (name_out 0 x))

abbrev pub outer : ℕ → String → Expr
outer k x = expr_of (e.Name (name_out k x))

-- the own name of a function expression
abbrev pub own_name : ℕ → String → Expr
own_name k x = expr_of (e.Name (record { name = codes x; binding = binding.Out k; own = true }))

abbrev pub standard : String → Expr
standard x = expr_of (e.Name (record { name = codes x; binding = binding.BuiltIn; own = false }))

abbrev pub unknown : String → Expr
unknown x = expr_of (e.Name (record { name = codes x; binding = binding.Nothing; own = false }))

-- ---- expressions

abbrev pub num : ℕ → Expr
num n = expr_of (e.Literal (literal.Number (pos n)))

abbrev pub text : String → Expr
text t = expr_of (e.Literal (literal.Text (codes t)))

abbrev pub null : Expr
null = expr_of (e.Literal literal.Null)

abbrev pub truth : Bool → Expr
truth b = expr_of (e.Literal (literal.Truth b))

abbrev pub this : Expr
this = expr_of e.This

abbrev pub array : List Expr → Expr
array es = expr_of (e.Array es)

abbrev pub field : String → Expr → Field
field k v = field_of (codes k) v

abbrev pub object : List Field → Expr
object fs = expr_of (e.Object fs)

-- a function has its number in the script's table, its parameters, the functions declared in it, and its statements
abbrev pub function : ℕ → List String → List Declaration → List Stmt → Expr
function n ps ds ss = expr_of (e.Function None (map (λ x. codes x) ps) (script_numbered n ds ss))

abbrev pub function_named : String → ℕ → List String → List Declaration → List Stmt → Expr
function_named x n ps ds ss = expr_of (e.Function (Some (codes x)) (map (λ x. codes x) ps) (script_numbered n ds ss))

abbrev pub declares : String → ℕ → List String → List Declaration → List Stmt → Declaration
declares x n ps ds ss = declaration_of (codes x) (map (λ x. codes x) ps) (script_numbered n ds ss)

-- b.k, b[k], and their deletion
abbrev pub dot : Expr → String → Expr
dot b k = expr_of (e.Member b (key.Fixed (codes k)))

abbrev pub item : Expr → Expr → Expr
item b k = expr_of (e.Member b (key.Computed k))

abbrev pub delete_dot : Expr → String → Expr
delete_dot b k = expr_of (e.Delete b (key.Fixed (codes k)))

abbrev pub call : Expr → List Expr → Expr
call f es = expr_of (e.Call f es)

abbrev pub new : Expr → List Expr → Expr
new f es = expr_of (e.New f es)

abbrev pub plus_plus_before : Expr → Expr
plus_plus_before t = expr_of (e.Update t sign.Plus fix.Prefix)

abbrev pub plus_plus_after : Expr → Expr
plus_plus_after t = expr_of (e.Update t sign.Plus fix.Postfix)

abbrev pub minus_minus_before : Expr → Expr
minus_minus_before t = expr_of (e.Update t sign.Minus fix.Prefix)

abbrev pub typeof : Expr → Expr
typeof x = expr_of (e.Typeof x)

abbrev pub minus : Expr → Expr
minus x = expr_of (e.Unary unary.Minus x)

abbrev pub bit_not : Expr → Expr
bit_not x = expr_of (e.Unary unary.BitNot x)

abbrev pub not_ : Expr → Expr
not_ x = expr_of (e.Unary unary.Not x)

abbrev pub binary : BinaryOperator → Expr → Expr → Expr
binary o a b = expr_of (e.Binary o a b)

abbrev pub plus : Expr → Expr → Expr
plus = binary op.Add

abbrev pub less_by : Expr → Expr → Expr
less_by = binary op.Subtract

abbrev pub times : Expr → Expr → Expr
times = binary op.Multiply

abbrev pub over : Expr → Expr → Expr
over = binary op.Divide

abbrev pub modulo : Expr → Expr → Expr
modulo = binary op.Remainder

abbrev pub shl : Expr → Expr → Expr
shl = binary op.ShiftLeft

abbrev pub shr : Expr → Expr → Expr
shr = binary op.ShiftRight

abbrev pub ushr : Expr → Expr → Expr
ushr = binary op.ShiftRightZero

abbrev pub bit_and : Expr → Expr → Expr
bit_and = binary op.BitAnd

abbrev pub bit_or : Expr → Expr → Expr
bit_or = binary op.BitOr

abbrev pub bit_xor : Expr → Expr → Expr
bit_xor = binary op.BitXor

abbrev pub lt : Expr → Expr → Expr
lt = binary op.Less

abbrev pub gt : Expr → Expr → Expr
gt = binary op.Greater

abbrev pub eq : Expr → Expr → Expr
eq = binary op.Equal

abbrev pub same : Expr → Expr → Expr
same = binary op.Same

abbrev pub is_in : Expr → Expr → Expr
is_in = binary op.In

abbrev pub instance_of : Expr → Expr → Expr
instance_of = binary op.InstanceOf

abbrev pub conditional : Expr → Expr → Expr → Expr
conditional t a b = expr_of (e.Conditional t a b)

abbrev pub assign : Expr → Expr → Expr
assign t x = expr_of (e.Assign None t x)

abbrev pub assign_by : BinaryOperator → Expr → Expr → Expr
assign_by o t x = expr_of (e.Assign (Some o) t x)

abbrev pub comma : Expr → Expr → Expr
comma a b = expr_of (e.Comma a b)

abbrev pub print : List Expr → Expr
print es = expr_of (e.Print es)

abbrev pub post : Expr → Expr
post x = expr_of (e.Post x)

abbrev pub prompt : Expr → Expr
prompt x = expr_of (e.Prompt x)

abbrev pub random : Expr → Expr
random x = expr_of (e.Random x)

abbrev pub once : Expr → Expr
once f = expr_of (e.Once f)

abbrev pub fork : Expr → Expr
fork f = expr_of (e.Fork f)

abbrev pub join : Expr
join = expr_of e.Join

abbrev pub crash : Expr
crash = expr_of e.Crash

-- ---- statements

abbrev pub does : Expr → Stmt
does x = stmt_of (s.Expression x)

abbrev pub block : List Stmt → Stmt
block ss = stmt_of (s.Block ss)

-- x, and x = v, of a var statement
abbrev pub only : String → Variable
only x = variable_of (name_out 0 x) None

abbrev pub set : String → Expr → Variable
set x v = variable_of (name_out 0 x) (Some v)

abbrev pub vars : List Variable → Stmt
vars xs = stmt_of (s.Var xs)

abbrev pub if_ : Expr → Stmt → Stmt
if_ t a = stmt_of (s.If t a None)

abbrev pub if_else : Expr → Stmt → Stmt → Stmt
if_else t a b = stmt_of (s.If t a (Some b))

abbrev pub do_while : Stmt → Expr → Stmt
do_while b t = stmt_of (s.DoWhile b t)

abbrev pub while : Expr → Stmt → Stmt
while t b = stmt_of (s.While t b)

abbrev pub start_var : Stmt → ForStart
start_var v = start.VarStart v

abbrev pub for_ : ForStart → Option Expr → Option Expr → Stmt → Stmt
for_ a t n b = stmt_of (s.For a t n b)

abbrev pub each_var : String → ForTarget
each_var x = target.VarEach (name_out 0 x)

abbrev pub each_target : Expr → ForTarget
each_target t = target.TargetEach t

abbrev pub for_in : ForTarget → Expr → Stmt → Stmt
for_in t o b = stmt_of (s.ForIn t o b)

abbrev pub continue : Stmt
continue = stmt_of s.Continue

abbrev pub break : Stmt
break = stmt_of s.Break

abbrev pub returns : Expr → Stmt
returns x = stmt_of (s.Return (Some x))

abbrev pub case : Expr → List Stmt → Case
case t ss = case_of (Some t) ss

abbrev pub default : List Stmt → Case
default ss = case_of None ss

abbrev pub switch : Expr → List Case → Stmt
switch x cs = stmt_of (s.Switch x cs)

abbrev pub throw : Expr → Stmt
throw x = stmt_of (s.Throw x)

abbrev pub try_catch : Stmt → String → Stmt → Stmt
try_catch b x c = stmt_of (s.Try b (Some (catch_of (codes x) c)) None)

abbrev pub try_finally : Stmt → Stmt → Stmt
try_finally b f = stmt_of (s.Try b None (Some f))

-- a script has the functions that it declares, and its statements
abbrev pub script : List Declaration → List Stmt → Script
script ds ss = script_numbered 0 ds ss
