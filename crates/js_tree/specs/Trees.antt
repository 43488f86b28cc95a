-- One level of a tree, under short names, and the parts of declarations and scripts. The types of a tree lead to each other in one ring, so each is opened over all of them.
use Rattle.std.specs.Prelude.{ℕ, false, List, Option}
use Rattle.js_tree.specs.declared.Binding.TheVariants as binding
use Rattle.js_tree.specs.declared.Named.{Named}
use Rattle.js_tree.specs.declared.ExprNode.{ExprNode, out-ExprNode}
use Rattle.js_tree.specs.declared.ExprNode.TheOpen.{ExprNode-F, ForStart-F, ForTarget-F, Key-F, StmtNode-F}
use Rattle.js_tree.specs.declared.ForStart.{ForStart}
use Rattle.js_tree.specs.declared.ForTarget.{ForTarget}
use Rattle.js_tree.specs.declared.Key.{Key}
use Rattle.js_tree.specs.declared.StmtNode.{StmtNode, out-StmtNode}
use Rattle.js_tree.specs.declared.Case.{Case, roll-Case}
use Rattle.js_tree.specs.declared.Catch.{Catch, roll-Catch}
use Rattle.js_tree.specs.declared.Declaration.{Declaration, out-Declaration, roll-Declaration}
use Rattle.js_tree.specs.declared.Expr.{Expr}
use Rattle.js_tree.specs.declared.Field.{Field, roll-Field}
use Rattle.js_tree.specs.declared.Script.{Script, out-Script, roll-Script}
use Rattle.js_tree.specs.declared.Stmt.{Stmt}
use Rattle.js_tree.specs.declared.Variable.{Variable, roll-Variable}

-- a text or a name: its units of 16 bits
abbrev pub Units : Type 0
Units = List ℕ

-- ---- one level

abbrev pub ExprLevel : Type 0
ExprLevel = ExprNode-F ExprNode ForStart ForTarget Key StmtNode Case Catch Declaration Expr Field Script Stmt Variable

abbrev pub StmtLevel : Type 0
StmtLevel = StmtNode-F ExprNode ForStart ForTarget Key StmtNode Case Catch Declaration Expr Field Script Stmt Variable

abbrev pub KeyLevel : Type 0
KeyLevel = Key-F ExprNode ForStart ForTarget Key StmtNode Case Catch Declaration Expr Field Script Stmt Variable

abbrev pub StartLevel : Type 0
StartLevel = ForStart-F ExprNode ForStart ForTarget Key StmtNode Case Catch Declaration Expr Field Script Stmt Variable

abbrev pub TargetLevel : Type 0
TargetLevel = ForTarget-F ExprNode ForStart ForTarget Key StmtNode Case Catch Declaration Expr Field Script Stmt Variable

abbrev pub expr_level : Expr → ExprLevel
expr_level e = out-ExprNode e.node

abbrev pub stmt_level : Stmt → StmtLevel
stmt_level s = out-StmtNode s.node

-- ---- trees from their parts

abbrev pub expr_of : ExprNode → Expr
expr_of node = record { node = node }

abbrev pub stmt_of : StmtNode → Stmt
stmt_of node = record { node = node }

-- a name as the parser makes it
abbrev pub unbound : Units → Named
unbound name = record { name = name; binding = binding.Nothing; own = false }

abbrev pub field_of : Units → Expr → Field
field_of key value = roll-Field (record { key = key; value = value })

abbrev pub variable_of : Named → Option Expr → Variable
variable_of named value = roll-Variable (record { named = named; value = value })

abbrev pub case_of : Option Expr → List Stmt → Case
case_of test statements = roll-Case (record { test = test; statements = statements })

abbrev pub catch_of : Units → Stmt → Catch
catch_of name body = roll-Catch (record { name = name; body = body })

abbrev pub declaration_of : Units → List Units → Script → Declaration
declaration_of name parameters body = roll-Declaration (record { name = name; parameters = parameters; body = body })

abbrev pub script_numbered : ℕ → List Declaration → List Stmt → Script
script_numbered number functions statements = roll-Script (record { number = number; functions = functions; statements = statements })

-- a script as the parser makes it
abbrev pub script_of : List Declaration → List Stmt → Script
script_of functions statements = script_numbered 0 functions statements

-- ---- their parts

abbrev pub declared_name : Declaration → Units
declared_name d = (out-Declaration d).name

abbrev pub declared_parameters : Declaration → List Units
declared_parameters d = (out-Declaration d).parameters

abbrev pub declared_body : Declaration → Script
declared_body d = (out-Declaration d).body

abbrev pub number_of : Script → ℕ
number_of s = (out-Script s).number

abbrev pub functions_of : Script → List Declaration
functions_of s = (out-Script s).functions

abbrev pub statements_of : Script → List Stmt
statements_of s = (out-Script s).statements
