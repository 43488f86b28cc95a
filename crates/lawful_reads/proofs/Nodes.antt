-- One node of a lawful tree, from lawful parts.
use Rattle.std.proofs.Common.{◌≡◌, ◌≤◌, ◌+◌, ◌||◌, ℕ, zero, suc, Bool, true, false, List, [], ◌∷◌, Option, Some, None, count_by, cond, sym, ap, ◌∙◌, subst, arith}
use Rattle.js_lexer.specs.declared.CallWord.{CallWord}
use Rattle.js_lexer.specs.declared.CallWord.TheVariants as c
use Rattle.js_tree.specs.declared.BinaryOperator.{BinaryOperator}
use Rattle.js_tree.specs.declared.UnaryOperator.{UnaryOperator}
use Rattle.js_tree.specs.declared.Sign.{Sign}
use Rattle.js_tree.specs.declared.Fix.{Fix}
use Rattle.js_tree.specs.declared.Literal.{Literal}
use Rattle.js_tree.specs.declared.Key.{Key}
use Rattle.js_tree.specs.declared.Key.TheVariants as k
use Rattle.js_tree.specs.declared.Field.{Field}
use Rattle.js_tree.specs.declared.Variable.{Variable, out-roll-Variable}
use Rattle.js_tree.specs.declared.Script.{Script, out-roll-Script}
use Rattle.js_tree.specs.declared.Declaration.{Declaration}
use Rattle.js_tree.specs.declared.Case.{Case, out-roll-Case}
use Rattle.js_tree.specs.declared.Catch.{Catch}
use Rattle.js_tree.specs.declared.ForStart.{ForStart, out-ForStart, out-roll-ForStart}
use Rattle.js_tree.specs.declared.ForTarget.{ForTarget, out-ForTarget}
use Rattle.js_tree.specs.declared.Expr.{Expr}
use Rattle.js_tree.specs.declared.Stmt.{Stmt}
use Rattle.js_tree.specs.declared.ExprNode.{ExprNode, out-ExprNode, out-roll-ExprNode}
use Rattle.js_tree.specs.declared.ExprNode.TheOpen.{ExprNode-F, StmtNode-F, ForStart-F}
use Rattle.js_tree.specs.declared.ExprNode.TheVariants as expr_node
use Rattle.js_tree.specs.declared.StmtNode.{StmtNode, out-StmtNode, out-roll-StmtNode}
use Rattle.js_tree.specs.declared.StmtNode.TheVariants as stmt_node
use Rattle.js_tree.specs.declared.ForStart.TheVariants as for_start
use Rattle.std.proofs.lemmas.List.Sums.{sum_by-cons}
use Rattle.js_tree.specs.OpenTree.{opens_tree}
use Rattle.js_tree.specs.Trees.{Units, ExprLevel, StmtLevel, expr_level, expr_of, stmt_of, unbound, field_of, case_of, catch_of, declaration_of, script_of}
use Rattle.js_tree.specs.Lawful.{Around, Short, Each, IfThere, Target, IsBlock, IsVar, CatchOrFinally, is_default, around_body, loop_round, switch_round, LawfulElements, LawfulLiteral, LawfulField, LawfulExpr, LawfulVariable, LawfulStmt, LawfulStart, LawfulTarget, LawfulCase, LawfulCatch, ExprWithin, StmtWithin, DeclarationWithin}
use Rattle.script_grammar.specs.declared.classes.Infix.{Infix}
use Rattle.script_grammar.specs.declared.classes.Infix.TheVariants as between
use Rattle.script_grammar.specs.declared.classes.Operand.{Operand}
use Rattle.script_grammar.specs.Exprs as e
use Rattle.script_grammar.specs.Stmts as s
use Rattle.script_grammar.specs.Starts as from
use Rattle.script_grammar.specs.Targets as over
use Rattle.script_grammar.specs.Grammar.{plain, a_member, a_name_as, decl_of, joined, called, called_alone}

-- what is said of a field, a variable, an element and so on with so many levels
abbrev pub FieldWithin : ℕ → Field → Type 0
FieldWithin m x = LawfulField (ExprWithin m) (StmtWithin m) (DeclarationWithin m) x

abbrev pub VariableWithin : ℕ → Variable → Type 0
VariableWithin m x = LawfulVariable (ExprWithin m) (StmtWithin m) (DeclarationWithin m) x

abbrev pub CaseWithin : ℕ → Around → Case → Type 0
CaseWithin m c x = LawfulCase (ExprWithin m) (StmtWithin m) (DeclarationWithin m) c x

abbrev pub CatchWithin : ℕ → Around → Catch → Type 0
CatchWithin m c x = LawfulCatch (ExprWithin m) (StmtWithin m) (DeclarationWithin m) c x

abbrev pub StartWithin : ℕ → Around → ForStart → Type 0
StartWithin m c x = LawfulStart (ExprWithin m) (StmtWithin m) (DeclarationWithin m) (out-ForStart x) c

abbrev pub TargetWithin : ℕ → ForTarget → Type 0
TargetWithin m x = LawfulTarget (ExprWithin m) (StmtWithin m) (DeclarationWithin m) (out-ForTarget x)

abbrev pub ElementsWithin : ℕ → Around → Script → Type 0
ElementsWithin m c b = LawfulElements (ExprWithin m) (StmtWithin m) (DeclarationWithin m) c b

abbrev pub LiteralWithin : ℕ → Literal → Type 0
LiteralWithin m x = LawfulLiteral (ExprWithin m) (StmtWithin m) (DeclarationWithin m) x

-- an operand: what is said to be a target is one
abbrev pub Operated : ℕ → Operand → Type 0
Operated m a = ExprWithin m a.expr × (a.target ≡ true → Target a.expr)

pub whole : (m : ℕ) (x : Expr) → ExprWithin m x → Operated m (plain x)
whole m x h = (h, λ z. absurd (let y : false ≡ true = z in cc))

expr_in : (m : ℕ) (node : ExprNode) (level : ExprLevel) → out-ExprNode node ≡ level → LawfulExpr (ExprWithin m) (StmtWithin m) (DeclarationWithin m) level → ExprWithin (suc m) (expr_of node)
unfolding ExprWithin
expr_in m node level e h = subst (LawfulExpr (ExprWithin m) (StmtWithin m) (DeclarationWithin m)) (sym e) h

stmt_in : (m : ℕ) (c : Around) (node : StmtNode) (level : StmtLevel) → out-StmtNode node ≡ level → LawfulStmt (ExprWithin m) (StmtWithin m) (DeclarationWithin m) c level → StmtWithin (suc m) c (stmt_of node)
unfolding StmtWithin
stmt_in m c node level e h = subst (LawfulStmt (ExprWithin m) (StmtWithin m) (DeclarationWithin m) c) (sym e) h

-- ---- expressions

this_node : (m : ℕ) → ExprWithin (suc m) (e.This)
unfolding opens_tree ExprWithin
this_node m = tt

pub this : (m : ℕ) → Operated (suc m) (plain (e.This))
this m = whole (suc m) (e.This) (this_node m)

name_within : (m : ℕ) (units : Units) → Short units → ExprWithin (suc m) (e.Name units)
unfolding opens_tree ExprWithin
name_within m units x = x

literal_node : (m : ℕ) (value : Literal) → LiteralWithin m value → ExprWithin (suc m) (e.Literal value)
unfolding opens_tree ExprWithin
literal_node m value x = x

pub literal : (m : ℕ) (value : Literal) → LiteralWithin m value → Operated (suc m) (plain (e.Literal value))
literal m value x = whole (suc m) (e.Literal value) (literal_node m value x)

array_node : (m : ℕ) (all : List Expr) → Each (ExprWithin m) all → ExprWithin (suc m) (e.Array all)
array_node m all x = expr_in m (expr_node.Array all) (ExprNode-F.Array all) (ap out-ExprNode (sym (expr_node.rolls-Array all)) ∙ out-roll-ExprNode (ExprNode-F.Array all)) x

pub array : (m : ℕ) (all : List Expr) → Each (ExprWithin m) all → Operated (suc m) (plain (e.Array all))
array m all x = whole (suc m) (e.Array all) (array_node m all x)

object_node : (m : ℕ) (all : List Field) → Each (FieldWithin m) all → ExprWithin (suc m) (e.Object all)
object_node m all x = expr_in m (expr_node.Object all) (ExprNode-F.Object all) (ap out-ExprNode (sym (expr_node.rolls-Object all)) ∙ out-roll-ExprNode (ExprNode-F.Object all)) x

pub object : (m : ℕ) (all : List Field) → Each (FieldWithin m) all → Operated (suc m) (plain (e.Object all))
object m all x = whole (suc m) (e.Object all) (object_node m all x)

function_node : (m : ℕ) (own : Option Units) (names : List Units) (body : Script) → IfThere Short own → Each Short names → ElementsWithin m around_body body → ExprWithin (suc m) (e.Function own names body)
unfolding opens_tree ExprWithin
function_node m own names body x y z = (x, y, z)

pub function : (m : ℕ) (own : Option Units) (names : List Units) (body : Script) → IfThere Short own → Each Short names → ElementsWithin m around_body body → Operated (suc m) (plain (e.Function own names body))
function m own names body x y z = whole (suc m) (e.Function own names body) (function_node m own names body x y z)

computed : (m : ℕ) (a : Expr) (b : Expr) → ExprWithin m a → ExprWithin m b → ExprWithin (suc m) (e.Member a (k.Computed b))
unfolding opens_tree ExprWithin
computed m a b x y = (x, y)

fixed : (m : ℕ) (a : Expr) (units : Units) → ExprWithin m a → Short units → ExprWithin (suc m) (e.Member a (k.Fixed units))
unfolding opens_tree ExprWithin
fixed m a units x y = (x, y)

call_node : (m : ℕ) (a : Expr) (all : List Expr) → ExprWithin m a → Each (ExprWithin m) all → ExprWithin (suc m) (e.Call a all)
call_node m a all x y = expr_in m (expr_node.Call a all) (ExprNode-F.Call a all) (ap out-ExprNode (sym (expr_node.rolls-Call a all)) ∙ out-roll-ExprNode (ExprNode-F.Call a all)) (x, y)

pub call : (m : ℕ) (a : Expr) (all : List Expr) → ExprWithin m a → Each (ExprWithin m) all → Operated (suc m) (plain (e.Call a all))
call m a all x y = whole (suc m) (e.Call a all) (call_node m a all x y)

new_node : (m : ℕ) (a : Expr) (all : List Expr) → ExprWithin m a → Each (ExprWithin m) all → ExprWithin (suc m) (e.New a all)
new_node m a all x y = expr_in m (expr_node.New a all) (ExprNode-F.New a all) (ap out-ExprNode (sym (expr_node.rolls-New a all)) ∙ out-roll-ExprNode (ExprNode-F.New a all)) (x, y)

pub new : (m : ℕ) (a : Expr) (all : List Expr) → ExprWithin m a → Each (ExprWithin m) all → Operated (suc m) (plain (e.New a all))
new m a all x y = whole (suc m) (e.New a all) (new_node m a all x y)

update_node : (m : ℕ) (a : Expr) (step : Sign) (side : Fix) → Target a → ExprWithin m a → ExprWithin (suc m) (e.Update a step side)
unfolding opens_tree ExprWithin
update_node m a step side x y = (x, y)

pub update : (m : ℕ) (a : Expr) (step : Sign) (side : Fix) → Target a → ExprWithin m a → Operated (suc m) (plain (e.Update a step side))
update m a step side x y = whole (suc m) (e.Update a step side) (update_node m a step side x y)

void_node : (m : ℕ) (a : Expr) → ExprWithin m a → ExprWithin (suc m) (e.Void a)
unfolding opens_tree ExprWithin
void_node m a x = x

pub void : (m : ℕ) (a : Expr) → ExprWithin m a → Operated (suc m) (plain (e.Void a))
void m a x = whole (suc m) (e.Void a) (void_node m a x)

typeof_node : (m : ℕ) (a : Expr) → ExprWithin m a → ExprWithin (suc m) (e.Typeof a)
unfolding opens_tree ExprWithin
typeof_node m a x = x

pub typeof : (m : ℕ) (a : Expr) → ExprWithin m a → Operated (suc m) (plain (e.Typeof a))
typeof m a x = whole (suc m) (e.Typeof a) (typeof_node m a x)

signed_node : (m : ℕ) (op : UnaryOperator) (a : Expr) → ExprWithin m a → ExprWithin (suc m) (e.Unary op a)
unfolding opens_tree ExprWithin
signed_node m op a x = x

pub signed : (m : ℕ) (op : UnaryOperator) (a : Expr) → ExprWithin m a → Operated (suc m) (plain (e.Unary op a))
signed m op a x = whole (suc m) (e.Unary op a) (signed_node m op a x)

binary : (m : ℕ) (op : BinaryOperator) (a : Expr) (b : Expr) → ExprWithin m a → ExprWithin m b → ExprWithin (suc m) (e.Binary op a b)
unfolding opens_tree ExprWithin
binary m op a b x y = (x, y)

both : (m : ℕ) (a : Expr) (b : Expr) → ExprWithin m a → ExprWithin m b → ExprWithin (suc m) (e.And a b)
unfolding opens_tree ExprWithin
both m a b x y = (x, y)

one_of : (m : ℕ) (a : Expr) (b : Expr) → ExprWithin m a → ExprWithin m b → ExprWithin (suc m) (e.Or a b)
unfolding opens_tree ExprWithin
one_of m a b x y = (x, y)

conditional_node : (m : ℕ) (a : Expr) (b : Expr) (c : Expr) → ExprWithin m a → ExprWithin m b → ExprWithin m c → ExprWithin (suc m) (e.Conditional a b c)
unfolding opens_tree ExprWithin
conditional_node m a b c x y z = (x, y, z)

pub conditional : (m : ℕ) (a : Expr) (b : Expr) (c : Expr) → ExprWithin m a → ExprWithin m b → ExprWithin m c → Operated (suc m) (plain (e.Conditional a b c))
conditional m a b c x y z = whole (suc m) (e.Conditional a b c) (conditional_node m a b c x y z)

assign_node : (m : ℕ) (op : Option BinaryOperator) (a : Expr) (b : Expr) → Target a → ExprWithin m a → ExprWithin m b → ExprWithin (suc m) (e.Assign op a b)
unfolding opens_tree ExprWithin
assign_node m op a b x y z = (x, y, z)

pub assign : (m : ℕ) (op : Option BinaryOperator) (a : Expr) (b : Expr) → Target a → ExprWithin m a → ExprWithin m b → Operated (suc m) (plain (e.Assign op a b))
assign m op a b x y z = whole (suc m) (e.Assign op a b) (assign_node m op a b x y z)

comma_node : (m : ℕ) (a : Expr) (b : Expr) → ExprWithin m a → ExprWithin m b → ExprWithin (suc m) (e.Comma a b)
unfolding opens_tree ExprWithin
comma_node m a b x y = (x, y)

pub comma : (m : ℕ) (a : Expr) (b : Expr) → ExprWithin m a → ExprWithin m b → Operated (suc m) (plain (e.Comma a b))
comma m a b x y = whole (suc m) (e.Comma a b) (comma_node m a b x y)

print_node : (m : ℕ) (all : List Expr) → Each (ExprWithin m) all → ExprWithin (suc m) (e.Print all)
print_node m all x = expr_in m (expr_node.Print all) (ExprNode-F.Print all) (ap out-ExprNode (sym (expr_node.rolls-Print all)) ∙ out-roll-ExprNode (ExprNode-F.Print all)) x

pub print : (m : ℕ) (all : List Expr) → Each (ExprWithin m) all → Operated (suc m) (plain (e.Print all))
print m all x = whole (suc m) (e.Print all) (print_node m all x)

post : (m : ℕ) (a : Expr) → ExprWithin m a → ExprWithin (suc m) (e.Post a)
unfolding opens_tree ExprWithin
post m a x = x

reply : (m : ℕ) (a : Expr) → ExprWithin m a → ExprWithin (suc m) (e.Reply a)
unfolding opens_tree ExprWithin
reply m a x = x

prompt : (m : ℕ) (a : Expr) → ExprWithin m a → ExprWithin (suc m) (e.Prompt a)
unfolding opens_tree ExprWithin
prompt m a x = x

random : (m : ℕ) (a : Expr) → ExprWithin m a → ExprWithin (suc m) (e.Random a)
unfolding opens_tree ExprWithin
random m a x = x

once : (m : ℕ) (a : Expr) → ExprWithin m a → ExprWithin (suc m) (e.Once a)
unfolding opens_tree ExprWithin
once m a x = x

fork : (m : ℕ) (a : Expr) → ExprWithin m a → ExprWithin (suc m) (e.Fork a)
unfolding opens_tree ExprWithin
fork m a x = x

join : (m : ℕ) → ExprWithin (suc m) (e.Join)
unfolding opens_tree ExprWithin
join m = tt

crash : (m : ℕ) → ExprWithin (suc m) (e.Crash)
unfolding opens_tree ExprWithin
crash m = tt

pub name : (m : ℕ) (units : Units) → Short units → Operated (suc m) (a_name_as units)
unfolding opens_tree
name m units x = (name_within m units x, λ z. tt)

pub member_computed : (m : ℕ) (a b : Expr) → ExprWithin m a → ExprWithin m b → Operated (suc m) (a_member a (k.Computed b))
unfolding opens_tree
member_computed m a b x y = (computed m a b x y, λ z. tt)

pub member_fixed : (m : ℕ) (a : Expr) (units : Units) → ExprWithin m a → Short units → Operated (suc m) (a_member a (k.Fixed units))
unfolding opens_tree
member_fixed m a units x y = (fixed m a units x y, λ z. tt)

joined_node : (m : ℕ) (op : Infix) (a b : Expr) → ExprWithin m a → ExprWithin m b → ExprWithin (suc m) (joined op a b)
joined_node m (between.Plain op) a b x y = binary m op a b x y
joined_node m between.And a b x y = both m a b x y
joined_node m between.Or a b x y = one_of m a b x y

pub joined_within : (m : ℕ) (op : Infix) (a b : Expr) → ExprWithin m a → ExprWithin m b → Operated (suc m) (plain (joined op a b))
joined_within m op a b x y = whole (suc m) (joined op a b) (joined_node m op a b x y)

-- a member that is deleted
deleted_from : (m : ℕ) (base : Expr) (key : Key) → LawfulExpr (ExprWithin m) (StmtWithin m) (DeclarationWithin m) (ExprNode-F.Member base key) → ExprWithin (suc m) (e.Delete base key)
unfolding opens_tree ExprWithin
deleted_from m base key x = x

delete_node : (n : ℕ) (a base : Expr) (key : Key) → expr_level a ≡ ExprNode-F.Member base key → ExprWithin n a → ExprWithin n (e.Delete base key)
unfolding ExprWithin
delete_node zero a base key same x = absurd x
delete_node (suc m) a base key same x = deleted_from m base key (subst (LawfulExpr (ExprWithin m) (StmtWithin m) (DeclarationWithin m)) same x)

pub delete : (n : ℕ) (a base : Expr) (key : Key) → expr_level a ≡ ExprNode-F.Member base key → ExprWithin n a → Operated n (plain (e.Delete base key))
delete n a base key same x = whole n (e.Delete base key) (delete_node n a base key same x)

-- the words of script calls with one argument
abbrev pub TakesOne : CallWord → Type 0
TakesOne c.Post = Unit {0}
TakesOne c.Reply = Unit {0}
TakesOne c.Prompt = Unit {0}
TakesOne c.Random = Unit {0}
TakesOne c.Once = Unit {0}
TakesOne c.Fork = Unit {0}
TakesOne _ = ⊥

called_node : (m : ℕ) (word : CallWord) (a : Expr) → TakesOne word → ExprWithin m a → ExprWithin (suc m) (called word a)
called_node m c.Post a t x = post m a x
called_node m c.Reply a t x = reply m a x
called_node m c.Prompt a t x = prompt m a x
called_node m c.Random a t x = random m a x
called_node m c.Once a t x = once m a x
called_node m c.Fork a t x = fork m a x
called_node m c.Print a t x = absurd t
called_node m c.Join a t x = absurd t
called_node m c.Crash a t x = absurd t

pub called_within : (m : ℕ) (word : CallWord) (a : Expr) → TakesOne word → ExprWithin m a → Operated (suc m) (plain (called word a))
called_within m word a t x = whole (suc m) (called word a) (called_node m word a t x)

alone_node : (m : ℕ) (word : CallWord) → ExprWithin (suc m) (called_alone word)
alone_node m c.Join = join m
alone_node m word = crash m

pub alone_within : (m : ℕ) (word : CallWord) → Operated (suc m) (plain (called_alone word))
alone_within m word = whole (suc m) (called_alone word) (alone_node m word)

pub field : (m : ℕ) (key : Units) (a : Expr) → Short key → ExprWithin m a → FieldWithin m (field_of key a)
unfolding opens_tree
field m key a x y = (x, y)

-- ---- declarations and statements

pub elements : (m : ℕ) (c : Around) (fs : List Declaration) (ss : List Stmt) → Each (DeclarationWithin m) fs → Each (StmtWithin m c) ss → ElementsWithin m c (script_of fs ss)
elements m c fs ss x y = subst (λ r. Each (DeclarationWithin m) r.functions × Each (StmtWithin m c) r.statements) (sym (out-roll-Script (record { number = 0; functions = fs; statements = ss }))) (x, y)

pub declaration : (m : ℕ) (units : Units) (names : List Units) (body : Script) → Short units → Each Short names → ElementsWithin m around_body body → DeclarationWithin (suc m) (declaration_of units names body)
unfolding opens_tree DeclarationWithin
declaration m units names body x y z = (x, y, z)

pub variable : (m : ℕ) (units : Units) (value : Option Expr) → Short units → IfThere (ExprWithin m) value → VariableWithin m (decl_of units value)
variable m units value x y = subst (λ r. Short r.named.name × IfThere (ExprWithin m) r.value) (sym (out-roll-Variable (record { named = unbound units; value = value }))) (x, y)

is_block : (all : List Stmt) → IsBlock (s.Block all)
unfolding opens_tree
is_block all = tt

is_var : (all : List Variable) → IsVar (s.Var all)
unfolding opens_tree
is_var all = tt

pub block : (m : ℕ) (c : Around) (all : List Stmt) → Each (StmtWithin m c) all → IsBlock (s.Block all) × StmtWithin (suc m) c (s.Block all)
block m c all x = (is_block all, stmt_in m c (stmt_node.Block all) (StmtNode-F.Block all) (ap out-StmtNode (sym (stmt_node.rolls-Block all)) ∙ out-roll-StmtNode (StmtNode-F.Block all)) x)

pub var : (m : ℕ) (c : Around) (all : List Variable) → Each (VariableWithin m) all → StmtWithin (suc m) c (s.Var all)
var m c all x = stmt_in m c (stmt_node.Var all) (StmtNode-F.Var all) (ap out-StmtNode (sym (stmt_node.rolls-Var all)) ∙ out-roll-StmtNode (StmtNode-F.Var all)) x

pub empty : (m : ℕ) (c : Around) → StmtWithin (suc m) c (s.Empty)
unfolding opens_tree StmtWithin
empty m c = tt

pub expression : (m : ℕ) (c : Around) (a : Expr) → ExprWithin m a → StmtWithin (suc m) c (s.Expression a)
unfolding opens_tree StmtWithin
expression m c a x = x

pub branch : (m : ℕ) (c : Around) (a : Expr) (first : Stmt) (second : Option Stmt) → ExprWithin m a → StmtWithin m c first → IfThere (StmtWithin m c) second → StmtWithin (suc m) c (s.If a first second)
branch m c a first second x y z = stmt_in m c (stmt_node.If a first second) (StmtNode-F.If a first second) (ap out-StmtNode (sym (stmt_node.rolls-If a first second)) ∙ out-roll-StmtNode (StmtNode-F.If a first second)) (x, y, z)

pub do_while : (m : ℕ) (c : Around) (body : Stmt) (a : Expr) → StmtWithin m (loop_round c) body → ExprWithin m a → StmtWithin (suc m) c (s.DoWhile body a)
unfolding opens_tree StmtWithin
do_while m c body a x y = (x, y)

pub while_loop : (m : ℕ) (c : Around) (a : Expr) (body : Stmt) → ExprWithin m a → StmtWithin m (loop_round c) body → StmtWithin (suc m) c (s.While a body)
unfolding opens_tree StmtWithin
while_loop m c a body x y = (x, y)

pub start_none : (m : ℕ) (c : Around) → StartWithin m c from.Nothing
unfolding opens_tree
start_none m c = tt

pub start_expr : (m : ℕ) (c : Around) (a : Expr) → ExprWithin m a → StartWithin m c (from.Expr a)
unfolding opens_tree
start_expr m c a x = x

pub start_var : (m : ℕ) (c : Around) (all : List Variable) → Each (VariableWithin m) all → StartWithin (suc m) c (from.Var all)
start_var m c all x = subst (λ r. LawfulStart (ExprWithin (suc m)) (StmtWithin (suc m)) (DeclarationWithin (suc m)) r c) (sym (ap out-ForStart (sym (for_start.rolls-VarStart (s.Var all))) ∙ out-roll-ForStart (ForStart-F.VarStart (s.Var all)))) (is_var all, var m c all x)

pub for_loop : (m : ℕ) (c : Around) (start : ForStart) (test : Option Expr) (step : Option Expr) (body : Stmt) → StartWithin m c start → IfThere (ExprWithin m) test → IfThere (ExprWithin m) step → StmtWithin m (loop_round c) body → StmtWithin (suc m) c (s.For start test step body)
for_loop m c start test step body x y z w = stmt_in m c (stmt_node.For start test step body) (StmtNode-F.For start test step body) (ap out-StmtNode (sym (stmt_node.rolls-For start test step body)) ∙ out-roll-StmtNode (StmtNode-F.For start test step body)) (x, y, z, w)

pub for_in : (m : ℕ) (c : Around) (a : Expr) (b : Expr) (body : Stmt) → Target a → ExprWithin m a → ExprWithin m b → StmtWithin m (loop_round c) body → StmtWithin (suc m) c (s.ForIn (over.Target a) b body)
unfolding opens_tree StmtWithin
for_in m c a b body x y z w = ((x, y), z, w)

pub for_in_var : (m : ℕ) (c : Around) (units : Units) (b : Expr) (body : Stmt) → Short units → ExprWithin m b → StmtWithin m (loop_round c) body → StmtWithin (suc m) c (s.ForIn (over.Var units) b body)
unfolding opens_tree StmtWithin
for_in_var m c units b body x y z = (x, y, z)

pub continues : (m : ℕ) (c : Around) → c.in_loop ≡ true → StmtWithin (suc m) c (s.Continue)
unfolding opens_tree StmtWithin
continues m c x = x

pub breaks : (m : ℕ) (c : Around) → c.in_loop || c.in_switch ≡ true → StmtWithin (suc m) c (s.Break)
unfolding opens_tree StmtWithin
breaks m c x = x

pub returns : (m : ℕ) (c : Around) (value : Option Expr) → c.in_function ≡ true → IfThere (ExprWithin m) value → StmtWithin (suc m) c (s.Return value)
returns m c value x y = stmt_in m c (stmt_node.Return value) (StmtNode-F.Return value) (ap out-StmtNode (sym (stmt_node.rolls-Return value)) ∙ out-roll-StmtNode (StmtNode-F.Return value)) (x, y)

pub throws : (m : ℕ) (c : Around) (a : Expr) → ExprWithin m a → StmtWithin (suc m) c (s.Throw a)
unfolding opens_tree StmtWithin
throws m c a x = x

pub switched : (m : ℕ) (c : Around) (a : Expr) (all : List Case) → ExprWithin m a → count_by is_default all ≤ 1 → Each (CaseWithin m (switch_round c)) all → StmtWithin (suc m) c (s.Switch a all)
switched m c a all x y z = stmt_in m c (stmt_node.Switch a all) (StmtNode-F.Switch a all) (ap out-StmtNode (sym (stmt_node.rolls-Switch a all)) ∙ out-roll-StmtNode (StmtNode-F.Switch a all)) (x, y, z)

pub tries : (m : ℕ) (c : Around) (body : Stmt) (caught : Option Catch) (last : Option Stmt) → IsBlock body → StmtWithin m c body → CatchOrFinally caught last → IfThere (CatchWithin m c) caught → IfThere (λ x. IsBlock x × StmtWithin m c x) last → StmtWithin (suc m) c (s.Try body caught last)
tries m c body caught last x y z w u = stmt_in m c (stmt_node.Try body caught last) (StmtNode-F.Try body caught last) (ap out-StmtNode (sym (stmt_node.rolls-Try body caught last)) ∙ out-roll-StmtNode (StmtNode-F.Try body caught last)) (x, y, z, w, u)

pub catches : (m : ℕ) (c : Around) (units : Units) (body : Stmt) → Short units → IsBlock body → StmtWithin m c body → CatchWithin m c (catch_of units body)
unfolding opens_tree
catches m c units body x y z = (x, y, z)

pub clause : (m : ℕ) (c : Around) (test : Option Expr) (body : List Stmt) → IfThere (ExprWithin m) test → Each (StmtWithin m c) body → CaseWithin m c (case_of test body)
clause m c test body x y = subst (λ r. IfThere (ExprWithin m) r.test × Each (StmtWithin m c) r.statements) (sym (out-roll-Case (record { test = test; statements = body }))) (x, y)

-- ---- defaults

-- how many defaults may stand in clauses, where one stood before or none did
abbrev pub may_stand : Bool → ℕ
may_stand true = 0
may_stand false = 1

pub no_defaults : (stood : Bool) → count_by is_default [] ≤ may_stand stood
no_defaults true = omega arith
no_defaults false = omega arith

pub no_default : (test : Expr) (body : List Stmt) (all : List Case) (n : ℕ) → count_by is_default all ≤ n → count_by is_default (case_of (Some test) body ∷ all) ≤ n
unfolding opens_tree
no_default test body all n x = let z : count_by is_default (case_of (Some test) body ∷ all) ≡ 0 + count_by is_default all = sum_by-cons (λ x. cond (is_default x) 1 0) (case_of (Some test) body) all in omega arith

pub one_default : (body : List Stmt) (all : List Case) → count_by is_default all ≤ 0 → count_by is_default (case_of None body ∷ all) ≤ 1
unfolding opens_tree
one_default body all x = let z : count_by is_default (case_of None body ∷ all) ≡ 1 + count_by is_default all = sum_by-cons (λ x. cond (is_default x) 1 0) (case_of None body) all in omega arith
