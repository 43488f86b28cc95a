-- The kinds of tree, to so many levels.
use Rattle.std.specs.Prelude.{ℕ, suc, ◌+◌, List}
use Rattle.js_tree.specs.declared.Key.{Key, out-Key}
use Rattle.js_tree.specs.declared.Field.{Field, out-Field}
use Rattle.js_tree.specs.declared.Variable.{Variable, out-Variable}
use Rattle.js_tree.specs.declared.Declaration.{Declaration}
use Rattle.js_tree.specs.declared.Script.{Script}
use Rattle.js_tree.specs.declared.Case.{Case, out-Case}
use Rattle.js_tree.specs.declared.Catch.{Catch, out-Catch}
use Rattle.js_tree.specs.declared.ForStart.{ForStart, out-ForStart}
use Rattle.js_tree.specs.declared.ForTarget.{ForTarget, out-ForTarget}
use Rattle.js_tree.specs.declared.Expr.{Expr}
use Rattle.js_tree.specs.declared.Stmt.{Stmt}
use Rattle.turk_base.specs.Names.{Units}
use Rattle.js_tree.specs.Trees.{declared_parameters, declared_body}
use Rattle.js_tree.specs.Lawful.{ExprWithin, StmtWithin, DeclarationWithin, LawfulKey, LawfulField, LawfulVariable, LawfulStart, LawfulTarget, LawfulCase, LawfulCatch, LawfulBody}
use Rattle.js_tree.specs.Table.{expr_codes, stmt_codes, body_codes, in_key, in_start, in_target, in_case, if_there}
use Rattle.js_tree.specs.Binds.{ExprBound, StmtBound, DeclarationBound, BoundKey, BoundField, BoundVariable, BoundStart, BoundTarget, BoundCase, BoundCatch, BoundFunction}
use Rattle.js_tree.specs.Bare.{expr_bare, stmt_bare, declaration_bare, bare_key, bare_field, bare_variable, bare_start, bare_target, bare_case, bare_catch, bare_body}
use Rattle.js_tree.specs.NameCount.{expr_count, stmt_count, declaration_count, count_key, count_field, count_variable, count_start, count_target, count_case, count_catch, count_function, count_there}
use Rattle.scope_names.specs.Walks.{Kind}

abbrev pub expr_kind : ℕ → Kind Expr
expr_kind n = record {
  count = expr_count n;
  codes = expr_codes;
  least = n + n;
  Bound = λ table. ExprBound table n;
  bare = expr_bare n;
  Lawful = λ around. ExprWithin n;
}

abbrev pub stmt_kind : ℕ → Kind Stmt
stmt_kind n = record {
  count = stmt_count n;
  codes = stmt_codes;
  least = n + n;
  Bound = λ table. StmtBound table n;
  bare = stmt_bare n;
  Lawful = λ around. StmtWithin n around;
}

abbrev pub declaration_kind : ℕ → Kind Declaration
declaration_kind n = record {
  count = declaration_count n;
  codes = λ depth d. body_codes depth (declared_parameters d) (declared_body d);
  least = n + n;
  Bound = λ table. DeclarationBound table n;
  bare = declaration_bare n;
  Lawful = λ around. DeclarationWithin n;
}

-- the body of a function with these parameters
abbrev pub body_kind : ℕ → List Units → Kind Script
body_kind n parameters = record {
  count = count_function (expr_count n) (stmt_count n) (declaration_count n) parameters;
  codes = λ depth. body_codes depth parameters;
  least = suc (n + n);
  Bound = λ table frames. BoundFunction table (ExprBound table n) (StmtBound table n) (DeclarationBound table n) frames parameters;
  bare = bare_body (expr_bare n) (stmt_bare n) (declaration_bare n);
  Lawful = λ around. LawfulBody (ExprWithin n) (StmtWithin n) (DeclarationWithin n);
}

abbrev pub key_kind : ℕ → Kind Key
key_kind n = record {
  count = λ x. count_key (expr_count n) (stmt_count n) (declaration_count n) (out-Key x);
  codes = λ depth x. in_key (expr_codes depth) (stmt_codes depth) (body_codes depth) (out-Key x);
  least = n + n;
  Bound = λ table frames x. BoundKey table (ExprBound table n) (StmtBound table n) (DeclarationBound table n) frames (out-Key x);
  bare = λ x. bare_key (expr_bare n) (stmt_bare n) (declaration_bare n) (out-Key x);
  Lawful = λ around x. LawfulKey (ExprWithin n) (StmtWithin n) (DeclarationWithin n) (out-Key x);
}

abbrev pub field_kind : ℕ → Kind Field
field_kind n = record {
  count = count_field (expr_count n) (stmt_count n) (declaration_count n);
  codes = λ depth x. expr_codes depth (out-Field x).value;
  least = n + n;
  Bound = λ table. BoundField table (ExprBound table n) (StmtBound table n) (DeclarationBound table n);
  bare = bare_field (expr_bare n) (stmt_bare n) (declaration_bare n);
  Lawful = λ around. LawfulField (ExprWithin n) (StmtWithin n) (DeclarationWithin n);
}

abbrev pub variable_kind : ℕ → Kind Variable
variable_kind n = record {
  count = count_variable (expr_count n) (stmt_count n) (declaration_count n);
  codes = λ depth x. if_there (expr_codes depth) (out-Variable x).value;
  least = n + n;
  Bound = λ table. BoundVariable table (ExprBound table n) (StmtBound table n) (DeclarationBound table n);
  bare = bare_variable (expr_bare n) (stmt_bare n) (declaration_bare n);
  Lawful = λ around. LawfulVariable (ExprWithin n) (StmtWithin n) (DeclarationWithin n);
}

abbrev pub start_kind : ℕ → Kind ForStart
start_kind n = record {
  count = λ x. count_start (expr_count n) (stmt_count n) (declaration_count n) (out-ForStart x);
  codes = λ depth x. in_start (expr_codes depth) (stmt_codes depth) (body_codes depth) (out-ForStart x);
  least = n + n;
  Bound = λ table frames x. BoundStart table (ExprBound table n) (StmtBound table n) (DeclarationBound table n) frames (out-ForStart x);
  bare = λ x. bare_start (expr_bare n) (stmt_bare n) (declaration_bare n) (out-ForStart x);
  Lawful = λ around x. LawfulStart (ExprWithin n) (StmtWithin n) (DeclarationWithin n) (out-ForStart x) around;
}

abbrev pub target_kind : ℕ → Kind ForTarget
target_kind n = record {
  count = λ x. count_target (expr_count n) (stmt_count n) (declaration_count n) (out-ForTarget x);
  codes = λ depth x. in_target (expr_codes depth) (stmt_codes depth) (body_codes depth) (out-ForTarget x);
  least = n + n;
  Bound = λ table frames x. BoundTarget table (ExprBound table n) (StmtBound table n) (DeclarationBound table n) frames (out-ForTarget x);
  bare = λ x. bare_target (expr_bare n) (stmt_bare n) (declaration_bare n) (out-ForTarget x);
  Lawful = λ around x. LawfulTarget (ExprWithin n) (StmtWithin n) (DeclarationWithin n) (out-ForTarget x);
}

abbrev pub case_kind : ℕ → Kind Case
case_kind n = record {
  count = count_case (expr_count n) (stmt_count n) (declaration_count n);
  codes = λ depth. in_case (expr_codes depth) (stmt_codes depth) (body_codes depth);
  least = n + n;
  Bound = λ table. BoundCase table (ExprBound table n) (StmtBound table n) (DeclarationBound table n);
  bare = bare_case (expr_bare n) (stmt_bare n) (declaration_bare n);
  Lawful = LawfulCase (ExprWithin n) (StmtWithin n) (DeclarationWithin n);
}

abbrev pub catch_kind : ℕ → Kind Catch
catch_kind n = record {
  count = count_catch (expr_count n) (stmt_count n) (declaration_count n);
  codes = λ depth x. stmt_codes depth (out-Catch x).body;
  least = n + n;
  Bound = λ table. BoundCatch table (ExprBound table n) (StmtBound table n) (DeclarationBound table n);
  bare = bare_catch (expr_bare n) (stmt_bare n) (declaration_bare n);
  Lawful = LawfulCatch (ExprWithin n) (StmtWithin n) (DeclarationWithin n);
}
