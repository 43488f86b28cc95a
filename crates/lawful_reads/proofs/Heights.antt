-- What is read under a limit is no higher than the limit.
use Rattle.std.proofs.Common.{◌≡◌, ◌≤◌, ◌+◌, ◌⊎◌, inl, inr, ℕ, zero, suc, max, Bool, true, false, not, ◌&&◌, ◌||◌, List, [], ◌∷◌, ◌++◌, Option, Some, None, Ok, Err, refl, arith}
use Rattle.js_lexer.specs.declared.Mark.{Mark}
use Rattle.js_lexer.specs.declared.Mark.TheVariants as m
use Rattle.js_lexer.specs.declared.Reserved.{Reserved}
use Rattle.js_lexer.specs.declared.Reserved.TheVariants as w
use Rattle.js_lexer.specs.declared.Token.{Token}
use Rattle.js_tree.specs.declared.BinaryOperator.{BinaryOperator}
use Rattle.js_tree.specs.declared.Sign.{Sign}
use Rattle.js_tree.specs.declared.Expr as expr
use Rattle.js_tree.specs.declared.Script as script
use Rattle.js_tree.specs.declared.Variable as declared
use Rattle.js_tree.specs.declared.Field as field
use Rattle.js_tree.specs.declared.Case as clause
use Rattle.js_tree.specs.declared.Catch as catch
use Rattle.js_tree.specs.declared.ForStart.{ForStart}
use Rattle.js_tree.specs.declared.ForTarget.{ForTarget}
use Rattle.js_tree.specs.declared.Stmt.{Stmt}
use Rattle.js_tree.specs.declared.ExprNode.TheOpen.{ExprNode-F}
use Rattle.js_tree.specs.Trees.{ExprLevel, expr_level, catch_of, declaration_of}
use Rattle.js_tree.specs.declared.Key.TheVariants as k
use Rattle.script_grammar.specs.declared.Form.{Form}
use Rattle.script_grammar.specs.Exprs as e
use Rattle.script_grammar.specs.Stmts as st
use Rattle.script_grammar.specs.Starts as from
use Rattle.script_grammar.specs.Targets as over
use Rattle.script_grammar.specs.declared.classes.Name.{Name}
use Rattle.script_grammar.specs.declared.classes.Name.TheVariants as ident
use Rattle.script_grammar.specs.declared.classes.Start.{Start}
use Rattle.script_grammar.specs.declared.classes.Start.TheVariants as start
use Rattle.script_grammar.specs.declared.classes.Head.{Head}
use Rattle.script_grammar.specs.declared.classes.Head.TheVariants as head
use Rattle.script_grammar.specs.declared.classes.Prefix.{Prefix}
use Rattle.script_grammar.specs.declared.classes.Prefix.TheVariants as prefix
use Rattle.script_grammar.specs.declared.classes.Tail.{Tail}
use Rattle.script_grammar.specs.declared.classes.Tail.TheVariants as tail
use Rattle.script_grammar.specs.declared.classes.Infix.{Infix}
use Rattle.script_grammar.specs.declared.classes.Operand.{Operand}
use Rattle.script_grammar.specs.Words.{Units, is, is_word, is_end, closes, stops, labels, name_of, key_of, literal_key_of, start_of, head_of, prefix_of, prefixed, tail_of, step_of, infix_at, assign_of}
use Rattle.script_grammar.specs.Rules.{Context, Symbol, Value, Rule, Done, Outcome}
use Rattle.script_grammar.specs.Rules.{Symbol as s}
use Rattle.script_grammar.specs.Rules.Rule.{give, refuse, peek, eat, node, stand, read}
use Rattle.script_grammar.specs.Grammar.{grammar, target, either, expect, expect_word, name_by, a_name, as_read, ends, parameters, function, halts, block, in_parentheses, loop, switch, decl_of, plain, a_member, after_if, jump, after_return, for_body, for_step, for_test, for_in, for_decls, for_var, for_first, after_try, is_name, statement_as, case_body, go_on, next_decl, given_at, field_by, expr_after, assign_by, conditional_after, binary, more_by, delete_operand, unary_by, postfix_by, fixed, suffixes_by, deleted_level, deleted_step, deleted_by, with_suffixes, new_after, primary_by}
use Rattle.script_grammar.specs.Goes.{Goes}
use Rattle.script_grammar.specs.Goes.Goes.{given, refused, peeked, eaten, stands, too_deep, begins, begins_deep, passed, failed, ends_refuse, ends_peek, ends_eat, ends_node, ends_stand}

-- ---- rows in general

-- the symbols in which at least one node stands
abbrev Solid : Symbol → Type 0
Solid s.Declaration = Unit {0}
Solid (s.Statement c) = Unit {0}
Solid (s.Block c) = Unit {0}
Solid (s.Expr no_in) = Unit {0}
Solid (s.Assign no_in) = Unit {0}
Solid (s.Conditional no_in) = Unit {0}
Solid (s.Binary no_in level) = Unit {0}
Solid s.Unary = Unit {0}
Solid s.Postfix = Unit {0}
Solid s.Left = Unit {0}
Solid s.New = Unit {0}
Solid (s.Arguments so_far) = Unit {0}
Solid (s.Items so_far) = Unit {0}
Solid (s.Fields so_far) = Unit {0}
Solid s.Primary = Unit {0}
Solid _ = ⊥

-- Where so many levels stood in a row before, a member that stands deeper than these has a node.
data Steady : (n : Symbol) → ℕ → Rule n → Type 0 where
  gives : {n : Symbol} {j : ℕ} {v : Value n} → (Solid n → 1 ≤ j) → Steady n j (give v)
  refuses : {n : Symbol} {j : ℕ} {form : Option Form} → Steady n j (refuse form)
  peeks : {n : Symbol} {j : ℕ} {f : Token → Rule n} → ((t : Token) → Steady n j (f t)) → Steady n j (peek f)
  eats : {n : Symbol} {j : ℕ} {r : Rule n} → Steady n j r → Steady n j (eat r)
  nodes : {n : Symbol} {j k : ℕ} {r : Rule n} → Steady n (max j k) r → Steady n j (node k r)
  leads : {n : Symbol} {j k : ℕ} {r : Rule n} → Steady n (max j k) r → Steady n j (stand k r)
  shallow : {n m : Symbol} {j k : ℕ} {f : Value m → ℕ → Rule n} → k ≤ j → ((v : Value m) (i : ℕ) → Steady n j (f v i)) → Steady n j (read k m f)
  deep : {n m : Symbol} {j k : ℕ} {f : Value m → ℕ → Rule n} → Solid m → ((v : Value m) (i : ℕ) → Steady n (max j (k + 1)) (f v i)) → Steady n j (read k m f)

-- so many levels under the limit, or none
abbrev Under : ℕ → ℕ → ℕ → Type 0
Under limit b h = (h ≡ 0) ⊎ (b + h ≤ limit)

abbrev Kept : ℕ → (n : Symbol) → ℕ → ℕ → Outcome n → Type 0
Kept limit n b j (Ok d) = Under limit b (max j d.height) × (Solid n → 1 ≤ max j d.height)
Kept limit n b j (Err e) = Unit {0}

under_node : (limit b j k : ℕ) → b + k ≤ limit → Under limit b j → Under limit b (max j k)
under_node limit b j k le u = elim u [ inl e ↦ inr (omega arith) | inr l ↦ inr (omega arith) ]

under_same : (limit b i j : ℕ) → i ≡ j → Under limit b i → Under limit b j
under_same limit b i j e u = elim u [ inl z ↦ inl (omega arith) | inr l ↦ inr (omega arith) ]

-- a member at most as deep as what stood before
under_shallow : (limit b j k i h : ℕ) → k ≤ j → Under limit (b + k) i → Under limit b (max j h) → Under limit b (max j (max (k + i) h))
under_shallow limit b j k i h le u x = elim u [
  | inl z ↦ elim x [ inl y ↦ inl (omega arith) | inr y ↦ inr (omega arith) ]
  | inr z ↦ elim x [ inl y ↦ inr (omega arith) | inr y ↦ inr (omega arith) ]
]

under_solid : (limit b j k i : ℕ) → 1 ≤ i → Under limit (b + k) i → Under limit b j → Under limit b (max j (k + 1))
under_solid limit b j k i some u x = elim u [
  | inl z ↦ absurd (omega arith)
  | inr z ↦ elim x [ inl y ↦ inr (omega arith) | inr y ↦ inr (omega arith) ]
]

under_deep : (limit b j k i h : ℕ) → 1 ≤ i → Under limit (b + k) i → Under limit b (max (max j (k + 1)) h) → Under limit b (max j (max (k + i) h))
under_deep limit b j k i h some u x = elim u [
  | inl z ↦ absurd (omega arith)
  | inr z ↦ elim x [ inl y ↦ absurd (omega arith) | inr y ↦ inr (omega arith) ]
]

module _ (rows : (m : Symbol) → Steady m 0 (grammar m)) where
  keeps : {limit : ℕ} {n : Symbol} {b : ℕ} {r : Rule n} {ts : List Token} {o : Outcome n} → Goes limit n b r ts o → (j : ℕ) → Steady n j r → Under limit b j → Kept limit n b j o
  keeps {limit} {b = b} given j (gives y) u = (under_same limit b j (max j 0) (omega arith) u, λ z. let l = y z in omega arith)
  keeps refused j y u = tt
  keeps (peeked {t = t} g) j (peeks y) u = keeps g j (y t) u
  keeps (eaten q g) j (eats y) u = keeps g j y u
  keeps {limit} {b = b} (stands {k = k} {o = Ok x} q le g) j (nodes y) u =
      let h = keeps g (max j k) y (under_node limit b j k le u) in
      (under_same limit b (max (max j k) x.height) (max j (max k x.height)) (omega arith) h.0, λ z. let l = h.1 z in omega arith)
  keeps (stands {o = Err x} q le g) j y u = tt
  keeps (too_deep q x) j y u = tt
  keeps {limit} {b = b} (begins {k = k} {o = Ok x} le g) j (leads y) u =
      let h = keeps g (max j k) y (under_node limit b j k le u) in
      (under_same limit b (max (max j k) x.height) (max j (max k x.height)) (omega arith) h.0, λ z. let l = h.1 z in omega arith)
  keeps (begins {o = Err x} le g) j y u = tt
  keeps (begins_deep x higher g) j y u = tt
  keeps {limit} {b = b} (passed {m = m} {k = k} {d = d} {o = Ok x} g v) j (shallow le y) u =
      let c = keeps g 0 (rows m) (inl refl) in let h = keeps v j (y d.value d.height) u in
      (under_shallow limit b j k d.height x.height le (under_same limit (b + k) (max 0 d.height) d.height (omega arith) c.0) h.0, λ z. let l = h.1 z in omega arith)
  keeps {limit} {b = b} (passed {m = m} {k = k} {d = d} {o = Ok x} g v) j (deep solid y) u =
      let c = keeps g 0 (rows m) (inl refl) in
      let some : 1 ≤ d.height = (let l = c.1 solid in omega arith) in
      let member = under_same limit (b + k) (max 0 d.height) d.height (omega arith) c.0 in
      let h = keeps v (max j (k + 1)) (y d.value d.height) (under_solid limit b j k d.height some member u) in
      (under_deep limit b j k d.height x.height some member h.0, λ z. let l = h.1 z in omega arith)
  keeps (passed {o = Err x} g v) j y u = tt
  keeps (failed g) j y u = tt
  keeps ends_refuse j y u = tt
  keeps ends_peek j y u = tt
  keeps ends_eat j y u = tt
  keeps ends_node j y u = tt
  keeps ends_stand j y u = tt

  limited : {limit : ℕ} {n : Symbol} {ts : List Token} {d : Done n} → Goes limit n 0 (grammar n) ts (Ok d) → d.height ≤ limit
  limited {n = n} g = elim (keeps g 0 (rows n) (inl refl)).0 [ inl e ↦ omega arith | inr le ↦ omega arith ]

-- ---- the rows of this grammar

any : {n : Symbol} {j : ℕ} (b : Bool) {x y : Rule n} → Steady n j x → Steady n j y → Steady n j (either b x y)
any true f g = f
any false f g = g

past : {n : Symbol} {j : ℕ} (mark : Mark) {r : Rule n} → Steady n j r → Steady n j (expect mark r)
past mark f = peeks (λ t. any (is mark t) (eats f) refuses)

past_word : {n : Symbol} {j : ℕ} (word : Reserved) {r : Rule n} → Steady n j r → Steady n j (expect_word word r)
past_word word f = peeks (λ t. any (is_word word t) (eats f) refuses)

named_by : {n : Symbol} {j : ℕ} (o : Name) (rule : Units → Rule n) → ((units : Units) → Steady n j (rule units)) → Steady n j (name_by o rule)
named_by (ident.Named units) rule f = eats (f units)
named_by (ident.Out form) rule f = refuses
named_by ident.Other rule f = refuses

named : {n : Symbol} {j : ℕ} (rule : Units → Rule n) → ((units : Units) → Steady n j (rule units)) → Steady n j (a_name rule)
named rule f = peeks (λ t. named_by (name_of t.kind) rule f)

-- the symbol is read as another one is
as_one : {n m : Symbol} {j : ℕ} {f : Value m → Value n} → (Solid n → 1 ≤ j) → Steady n j (as_read m f)
as_one y = shallow (omega arith) (λ v i. gives y)

not_solid : {j : ℕ} → ⊥ → 1 ≤ j
not_solid z = absurd z

ended : {c : Context} {j : ℕ} (x : Stmt) → 1 ≤ j → Steady (s.Statement c) j (ends x)
ended x le = peeks (λ t. any (is m.Semicolon t) (eats (gives (λ z. le))) (any (closes t) (gives (λ z. le)) refuses))

halted : {c : Context} {j : ℕ} (x : Stmt) → 1 ≤ j → Steady (s.Statement c) j (halts x)
halted x le = peeks (λ t. any (is m.Semicolon t && not t.after_newline) (eats (gives (λ z. le))) (any (closes t) (gives (λ z. le)) refuses))

jumped : {c : Context} {j : ℕ} (x : Stmt) → 1 ≤ j → Steady (s.Statement c) j (jump x)
jumped x le = peeks (λ t. any (labels t) refuses (halted x le))

with_parameters : {n : Symbol} {j : ℕ} (rule : List Units → Rule n) → ((all : List Units) → Steady n j (rule all)) → Steady n j (parameters rule)
with_parameters rule f = past m.OpenParen (peeks (λ t. any (is m.CloseParen t) (eats (f [])) (shallow (omega arith) (λ all i. past m.CloseParen (f all)))))

with_body : {n : Symbol} {j : ℕ} (rule : List Units → script.Script → Rule n) → 1 ≤ j → ((all : List Units) (body : script.Script) → Steady n j (rule all body)) → Steady n j (function rule)
with_body rule le f = with_parameters (λ all. expect m.OpenBrace (read 1 (s.Elements true [] []) (λ body _. expect m.CloseBrace (rule all body))))
    (λ all. past m.OpenBrace (shallow le (λ body i. past m.CloseBrace (f all body))))

-- ---- statements

for_ends : {c : Context} {j : ℕ} (o : ForStart) (test step : Option expr.Expr) → Steady (s.Statement c) j (for_body o test step)
for_ends o test step = deep tt (λ v i. gives (λ z. omega arith))

for_steps : {c : Context} {j : ℕ} (o : ForStart) (test : Option expr.Expr) → Steady (s.Statement c) j (for_step o test)
for_steps o test = peeks (λ t. any (is m.CloseParen t) (eats (for_ends o test None)) (deep tt (λ v i. past m.CloseParen (for_ends o test (Some v.expr)))))

for_tests : {c : Context} {j : ℕ} (o : ForStart) → Steady (s.Statement c) j (for_test o)
for_tests o = peeks (λ t. any (is m.Semicolon t) (eats (for_steps o None)) (deep tt (λ v i. past m.Semicolon (for_steps o (Some v.expr)))))

for_each : {c : Context} {j : ℕ} (o : ForTarget) → Steady (s.Statement c) j (for_in o)
for_each o = deep tt (λ v i. past m.CloseParen (deep tt (λ body k. gives (λ z. omega arith))))

for_all : {c : Context} {j : ℕ} (so_far : List declared.Variable) → 2 ≤ j → Steady (s.Statement c) j (for_decls so_far)
for_all so_far le = shallow le (λ all i. past m.Semicolon (for_tests (from.Var all)))

for_named : {c : Context} {j : ℕ} (units : Units) → Steady (s.Statement c) j (for_var units)
for_named units = peeks (λ t. any (is_word w.In t) (eats (for_each (over.Var units)))
    (any (is m.Semicolon t) (nodes (for_tests (from.Var (decl_of units None ∷ []))))
    (any (is m.Comma t) (nodes (for_all (decl_of units None ∷ []) (omega arith)))
    (any (is m.Assign t) (nodes (deep tt (λ v i. peeks (λ u. any (is m.Comma u)
    (eats (for_all (decl_of units (Some v.expr) ∷ []) (omega arith)))
    (past m.Semicolon (for_tests (from.Var (decl_of units (Some v.expr) ∷ []))))))))
    refuses))))

for_starts : {c : Context} {j : ℕ} → Steady (s.Statement c) j for_first
for_starts = peeks (λ t. any (is m.Semicolon t) (eats (for_tests from.Nothing))
    (any (is_word w.Var t) (eats (named for_var for_named))
    (deep tt (λ v i. peeks (λ t. any (is_word w.In t && target v) (eats (for_each (over.Target v.expr))) (past m.Semicolon (for_tests (from.Expr v.expr))))))))

if_ends : {c : Context} {j : ℕ} (test : expr.Expr) → Steady (s.Statement c) j (after_if test)
if_ends test = deep tt (λ v i. peeks (λ t. any (is_word w.Else t) (eats (deep tt (λ y k. gives (λ z. omega arith)))) (gives (λ z. omega arith))))

try_ends : {c : Context} {j : ℕ} (body : Stmt) (caught : Option catch.Catch) (some : Bool) (t : Token) → 1 ≤ j → Steady (s.Statement c) j (after_try body caught some t)
try_ends body caught some t le = any (is_word w.Finally t) (eats (deep tt (λ v i. gives (λ z. omega arith)))) (any some (gives (λ z. le)) refuses)

return_ends : {c : Context} {j : ℕ} → 1 ≤ j → Steady (s.Statement c) j after_return
return_ends le = peeks (λ t. any (is m.Semicolon t || closes t) (halted (st.Return None) le) (deep tt (λ v i. ended (st.Return (Some v.expr)) (omega arith))))

enclosed : {n : Symbol} {j : ℕ} (rule : expr.Expr → Rule n) → ((v : expr.Expr) → Steady n (max j 2) (rule v)) → Steady n j (in_parentheses rule)
enclosed rule f = past m.OpenParen (deep tt (λ v i. past m.CloseParen (f v.expr)))

abbrev catch_rule : (c : Context) → Stmt → Units → Rule (s.Statement c)
catch_rule c body units = expect m.CloseParen (block c (λ inner. peek (after_try body (Some (catch_of units inner)) true)))

statement : (c : Context) (x : Start) → Steady (s.Statement c) 0 (statement_as c x)
statement c start.Block = deep tt (λ v i. gives (λ z. omega arith))
statement c start.Var = nodes (shallow (omega arith) (λ v i. ended (st.Var v) (omega arith)))
statement c start.Empty = nodes (gives (λ z. omega arith))
statement c start.If = nodes (enclosed after_if if_ends)
statement c start.Do = nodes (deep tt (λ v i. past_word w.While (enclosed (λ test. ends (st.DoWhile v test)) (λ test. ended (st.DoWhile v test) (omega arith)))))
statement c start.While = nodes (enclosed (λ test. read 1 (s.Statement (loop c)) (λ body _. give (st.While test body))) (λ test. deep tt (λ x k. gives (λ z. omega arith))))
statement c start.For = nodes (past m.OpenParen for_starts)
statement c start.Continue = any c.in_loop (nodes (jumped st.Continue (omega arith))) refuses
statement c start.Break = any (c.in_loop || c.in_switch) (nodes (jumped st.Break (omega arith))) refuses
statement c start.Return = any c.in_function (nodes (return_ends (omega arith))) refuses
statement c start.Throw = nodes (peeks (λ t. any t.after_newline refuses (deep tt (λ v i. ended (st.Throw v.expr) (omega arith)))))
statement c start.Switch = nodes (enclosed (λ value. expect m.OpenBrace (read 1 (s.Clauses (switch c) false []) (λ all _. expect m.CloseBrace (give (st.Switch value all)))))
    (λ value. past m.OpenBrace (shallow (omega arith) (λ x k. past m.CloseBrace (gives (λ z. omega arith))))))
statement c start.Try = nodes (deep tt (λ body i. peeks (λ t. any (is_word w.Catch t)
    (eats (past m.OpenParen (named (catch_rule c body) (λ units. past m.CloseParen (deep tt (λ inner k. peeks (λ t. try_ends body (Some (catch_of units inner)) true t (omega arith))))))))
    (try_ends body None false t (omega arith)))))
statement c start.Identifier = deep tt (λ v i. peeks (λ t. any (is m.Colon t && is_name v.expr) refuses (ended (st.Expression v.expr) (omega arith))))
statement c start.Parenthesis = leads (deep tt (λ v i. ended (st.Expression v.expr) (omega arith)))
statement c start.Expression = deep tt (λ v i. ended (st.Expression v.expr) (omega arith))
statement c start.Neither = refuses

case_bodies : {c : Context} {default_stood : Bool} {so_far : List clause.Case} {j : ℕ} (next : Bool) (test : Option expr.Expr) → Steady (s.Clauses c default_stood so_far) j (case_body next test)
case_bodies next test = past m.Colon (shallow (omega arith) (λ v i. as_one not_solid))

declarations : {no_in : Bool} {so_far : List declared.Variable} {j : ℕ} (units : Units) (value : Option expr.Expr) → Steady (s.Decls no_in so_far) j (next_decl units value)
declarations units value = peeks (λ t. any (is m.Comma t) (eats (as_one not_solid)) (gives not_solid))

abbrev decl_rule : (no_in : Bool) (so_far : List declared.Variable) → Units → Rule (s.Decls no_in so_far)
decl_rule no_in so_far units = peek (λ t. either (is m.Assign t) (eat (read 0 (s.Assign no_in) (λ v _. next_decl units (Some v.expr)))) (next_decl units None))

decl_steady : (no_in : Bool) (so_far : List declared.Variable) (units : Units) → Steady (s.Decls no_in so_far) 0 (decl_rule no_in so_far units)
decl_steady no_in so_far units = peeks (λ u. any (is m.Assign u) (eats (shallow (omega arith) (λ v i. declarations units (Some v.expr)))) (declarations units None))

abbrev name_rule : (so_far : List Units) → Units → Rule (s.Names so_far)
name_rule so_far units = go_on (as_read (s.Names (so_far ++ units ∷ [])) (λ v. v)) (give (so_far ++ units ∷ []))

name_steady : (so_far : List Units) (units : Units) → Steady (s.Names so_far) 0 (name_rule so_far units)
name_steady so_far units = peeks (λ u. any (is m.Comma u) (eats (as_one not_solid)) (gives not_solid))

-- ---- expressions

given_all : {n : Symbol} {j : ℕ} (k : ℕ) (rule : List expr.Expr → ℕ → Rule n) → ((i : ℕ) → j ≤ i → (all : List expr.Expr) (h : ℕ) → Steady n i (rule all h)) → Steady n j (given_at k rule)
given_all {j = j} k rule f = peeks (λ t. any (is m.CloseParen t) (eats (f j (omega arith) [] 0)) (deep tt (λ all h. past m.CloseParen (f (max j (k + 1)) (omega arith) all h))))

fixed_at : {n : Symbol} {j : ℕ} (o : Option Units) (rule : Units → Rule n) → ((units : Units) → Steady n j (rule units)) → Steady n j (fixed o rule)
fixed_at (Some key) rule f = eats (f key)
fixed_at None rule f = refuses

commas : (no_in : Bool) (left : Operand) (height : ℕ) (t : Token) → Steady (s.Commas no_in left height) 0 (expr_after no_in left height t)
commas no_in left height t = any (is m.Comma t) (nodes (deep tt (λ v i. as_one not_solid))) (gives not_solid)

assigned : {no_in : Bool} {j : ℕ} (left : Operand) (height : ℕ) (o : Option (Option BinaryOperator)) → 1 ≤ j → Steady (s.Assign no_in) j (assign_by left height o)
assigned left height (Some op) le = any (target left) (nodes (deep tt (λ v i. gives (λ z. omega arith)))) (gives (λ z. le))
assigned left height None le = gives (λ z. le)

questions : {no_in : Bool} {j : ℕ} (test : Operand) (height : ℕ) (t : Token) → 1 ≤ j → Steady (s.Conditional no_in) j (conditional_after test height t)
questions test height t le = any (is m.Question t) (nodes (deep tt (λ v i. past m.Colon (deep tt (λ x k. gives (λ z. omega arith)))))) (gives (λ z. le))

levels : (no_in : Bool) (level : ℕ) → Steady (s.Binary no_in level) 0 (binary no_in level)
levels no_in zero = deep tt (λ v i. gives (λ z. omega arith))
levels no_in (suc level) = deep tt (λ v i. as_one (λ z. omega arith))

operators : (no_in : Bool) (level : ℕ) (left : Operand) (height : ℕ) (o : Option Infix) → Steady (s.More no_in level left height) 0 (more_by no_in level left height o)
operators no_in level left height (Some op) = nodes (deep tt (λ v i. as_one not_solid))
operators no_in level left height None = gives not_solid

delete_from : {j : ℕ} (t : Token) → 1 ≤ j → Steady s.Unary j (delete_operand t)
delete_from t le = any (prefixed t.kind) (deep tt (λ v i. refuses)) (any (is_word w.New t) (deep tt (λ v i. as_one (λ z. omega arith))) (deep tt (λ v i. as_one (λ z. omega arith))))

prefixes : (o : Prefix) → Steady s.Unary 0 (unary_by o)
prefixes prefix.Delete = nodes (peeks (λ t. delete_from t (omega arith)))
prefixes prefix.Void = nodes (deep tt (λ v i. gives (λ z. omega arith)))
prefixes prefix.Typeof = nodes (deep tt (λ v i. gives (λ z. omega arith)))
prefixes (prefix.Update step) = nodes (deep tt (λ v i. any (target v) (gives (λ z. omega arith)) refuses))
prefixes (prefix.Signed sign) = nodes (deep tt (λ v i. gives (λ z. omega arith)))
prefixes prefix.Neither = deep tt (λ v i. gives (λ z. omega arith))

steps : {j : ℕ} (left : Operand) (height : ℕ) (o : Option Sign) → 1 ≤ j → Steady s.Postfix j (postfix_by left height o)
steps left height (Some step) le = nodes (gives (λ z. omega arith))
steps left height None le = gives (λ z. le)

abbrev fixed_rule : (calls : Bool) (left : Operand) (height : ℕ) → Units → Rule (s.Suffixes calls left height)
fixed_rule calls left height key = as_read (s.Suffixes calls (a_member left.expr (k.Fixed key)) (height + 1)) (λ v. v)

abbrev call_rule : (calls : Bool) (left : Operand) (height : ℕ) → List expr.Expr → ℕ → Rule (s.Suffixes calls left height)
call_rule calls left height all h = as_read (s.Suffixes calls (plain (e.Call left.expr all)) (max (height + 1) (h + 1))) (λ v. v)

suffixes : (calls : Bool) (left : Operand) (height : ℕ) (o : Tail) → Steady (s.Suffixes calls left height) 0 (suffixes_by calls left height o)
suffixes calls left height tail.Computed = nodes (deep tt (λ v i. past m.CloseBracket (as_one not_solid)))
suffixes calls left height tail.Fixed = nodes (peeks (λ t. fixed_at (key_of t.kind) (fixed_rule calls left height) (λ key. as_one not_solid)))
suffixes calls left height tail.Call = any calls (nodes (given_all 1 (call_rule calls left height) (λ i le all h. as_one not_solid))) (gives not_solid)
suffixes calls left height tail.Neither = gives not_solid

deleted_levels : {left : Operand} {height : ℕ} (target : Bool) (level : ExprLevel) → Steady (s.Deleted left height) 0 (deleted_level target level)
deleted_levels true (ExprNode-F.Member base key) = gives not_solid
deleted_levels true level = refuses
deleted_levels false level = refuses

deleted_steps : (left : Operand) (height : ℕ) (o : Option Sign) → Steady (s.Deleted left height) 0 (deleted_step left height o)
deleted_steps left height (Some step) = nodes refuses
deleted_steps left height None = deleted_levels left.target (expr_level left.expr)

abbrev deleted_fixed : (left : Operand) (height : ℕ) → Units → Rule (s.Deleted left height)
deleted_fixed left height key = as_read (s.Deleted (a_member left.expr (k.Fixed key)) (height + 1)) (λ v. v)

abbrev deleted_call : (left : Operand) (height : ℕ) → List expr.Expr → ℕ → Rule (s.Deleted left height)
deleted_call left height all h = as_read (s.Deleted (plain (e.Call left.expr all)) (max (height + 1) (h + 1))) (λ v. v)

deleted_row : (left : Operand) (height : ℕ) (t : Token) (o : Tail) → Steady (s.Deleted left height) 0 (deleted_by left height t o)
deleted_row left height t tail.Computed = nodes (deep tt (λ v i. past m.CloseBracket (as_one not_solid)))
deleted_row left height t tail.Fixed = nodes (peeks (λ u. fixed_at (key_of u.kind) (deleted_fixed left height) (λ key. as_one not_solid)))
deleted_row left height t tail.Call = nodes (given_all 2 (deleted_call left height) (λ i le all h. as_one not_solid))
deleted_row left height t tail.Neither = any (target left && not t.after_newline) (deleted_steps left height (step_of t.kind)) (deleted_levels left.target (expr_level left.expr))

lefts : (t : Token) → Steady s.Left 0 (with_suffixes 0 true (λ v. give v) t)
lefts t = any (is_word w.New t) (deep tt (λ v i. shallow (omega arith) (λ x k. gives (λ z. omega arith)))) (deep tt (λ v i. shallow (omega arith) (λ x k. gives (λ z. omega arith))))

new_ends : {j : ℕ} (callee : expr.Expr) (t : Token) → 1 ≤ j → Steady s.New j (new_after callee t)
new_ends callee t le = any (is m.OpenParen t) (eats (given_all 1 (λ all h. give (plain (e.New callee all))) (λ i high all h. gives (λ z. omega arith)))) (gives (λ z. le))

news : {j : ℕ} (t : Token) → 1 ≤ j → Steady s.New j (with_suffixes 1 false (λ callee. peek (new_after callee.expr)) t)
news t le = any (is_word w.New t)
    (deep tt (λ v i. shallow (omega arith) (λ x k. peeks (λ u. new_ends x.expr u (omega arith)))))
    (deep tt (λ v i. shallow (omega arith) (λ x k. peeks (λ u. new_ends x.expr u (omega arith)))))

field_at : {so_far : List field.Field} (o : Option Units) → Steady (s.Fields so_far) 0 (field_by o)
field_at (Some key) = eats (past m.Colon (deep tt (λ v i. peeks (λ t. any (is m.Comma t) (eats (as_one (λ z. omega arith))) (gives (λ z. omega arith))))))
field_at None = refuses

abbrev function_rule : Units → Rule s.Primary
function_rule units = function (λ names body. give (plain (e.Function (Some units) names body)))

primaries : (o : Head) → Steady s.Primary 0 (primary_by o)
primaries head.This = nodes (gives (λ z. omega arith))
primaries (head.Identifier (ident.Named units)) = nodes (gives (λ z. omega arith))
primaries (head.Identifier (ident.Out form)) = refuses
primaries (head.Identifier ident.Other) = refuses
primaries (head.Constant value) = nodes (gives (λ z. omega arith))
primaries head.Parenthesis = eats (deep tt (λ v i. past m.CloseParen (gives (λ z. omega arith))))
primaries head.Array = nodes (peeks (λ t. any (is m.CloseBracket t) (eats (gives (λ z. omega arith))) (deep tt (λ v i. past m.CloseBracket (gives (λ z. omega arith))))))
primaries head.Object = nodes (peeks (λ t. any (is m.CloseBrace t) (eats (gives (λ z. omega arith))) (deep tt (λ v i. past m.CloseBrace (gives (λ z. omega arith))))))
primaries head.Function = nodes (peeks (λ t. any (is m.OpenParen t)
    (with_body (λ names body. give (plain (e.Function None names body))) (omega arith) (λ all body. gives (λ z. omega arith)))
    (named_by (name_of t.kind) function_rule (λ units. with_body (λ names body. give (plain (e.Function (Some units) names body))) (omega arith) (λ all body. gives (λ z. omega arith))))))
primaries head.Many = nodes (past m.OpenParen (given_all 1 (λ all _. give (plain (e.Print all))) (λ i le all h. gives (λ z. omega arith))))
primaries (head.One word) = nodes (past m.OpenParen (deep tt (λ v i. past m.CloseParen (gives (λ z. omega arith)))))
primaries (head.Zero word) = nodes (past m.OpenParen (past m.CloseParen (gives (λ z. omega arith))))
primaries head.RegExp = refuses
primaries head.Neither = refuses

-- ---- all rows

abbrev declare_rule : Units → Rule s.Declaration
declare_rule units = function (λ names body. give (declaration_of units names body))

steady : (n : Symbol) → Steady n 0 (grammar n)
steady s.Script = shallow (omega arith) (λ v i. peeks (λ t. any (is_end t) (gives not_solid) refuses))
steady (s.Elements f functions statements) = peeks (λ t. any (stops t) (gives not_solid) (any (is_word w.Function t)
    (shallow (omega arith) (λ v i. as_one not_solid))
    (shallow (omega arith) (λ v i. as_one not_solid))))
steady s.Declaration = peeks (λ t. any (is_word w.Function t)
    (nodes (named declare_rule (λ units. with_body (λ names body. give (declaration_of units names body)) (omega arith) (λ all body. gives (λ z. omega arith)))))
    refuses)
steady (s.Names so_far) = named (name_rule so_far) (name_steady so_far)
steady (s.Statements c so_far) = peeks (λ t. any (stops t) (gives not_solid) (shallow (omega arith) (λ v i. as_one not_solid)))
steady (s.Statement c) = peeks (λ t. statement c (start_of t.kind))
steady (s.Block c) = peeks (λ t. any (is m.OpenBrace t) (nodes (shallow (omega arith) (λ v i. past m.CloseBrace (gives (λ z. omega arith))))) refuses)
steady (s.Decls no_in so_far) = named (decl_rule no_in so_far) (decl_steady no_in so_far)
steady (s.Clauses c stood so_far) = peeks (λ t. any (is_word w.Case t) (eats (shallow (omega arith) (λ v i. case_bodies stood (Some v.expr))))
    (any (is_word w.Default t && not stood) (eats (case_bodies true None)) (any (is m.CloseBrace t) (gives not_solid) refuses)))
steady (s.Expr no_in) = deep tt (λ v i. as_one (λ z. omega arith))
steady (s.Commas no_in left height) = peeks (commas no_in left height)
steady (s.Assign no_in) = deep tt (λ v i. peeks (λ t. assigned v i (assign_of t.kind) (omega arith)))
steady (s.Conditional no_in) = deep tt (λ v i. peeks (λ t. questions v i t (omega arith)))
steady (s.Binary no_in level) = levels no_in level
steady (s.More no_in level left height) = peeks (λ t. operators no_in level left height (infix_at no_in level t))
steady s.Unary = peeks (λ t. prefixes (prefix_of t.kind))
steady s.Postfix = deep tt (λ v i. peeks (λ t. any (target v && not t.after_newline) (steps v i (step_of t.kind) (omega arith)) (gives (λ z. omega arith))))
steady s.Left = peeks lefts
steady (s.Suffixes calls left height) = peeks (λ t. suffixes calls left height (tail_of t.kind))
steady (s.Deleted left height) = peeks (λ t. deleted_row left height t (tail_of t.kind))
steady s.New = peeks (λ t. any (is_word w.New t) (nodes (peeks (λ u. news u (omega arith)))) refuses)
steady (s.Arguments so_far) = deep tt (λ v i. peeks (λ t. any (is m.Comma t) (eats (as_one (λ z. omega arith))) (gives (λ z. omega arith))))
steady (s.Items so_far) = peeks (λ t. any (is m.Comma t) refuses (deep tt (λ v i. peeks (λ u. any (is m.Comma u)
    (eats (peeks (λ t. any (is m.CloseBracket t) (gives (λ z. omega arith)) (as_one (λ z. omega arith)))))
    (gives (λ z. omega arith))))))
steady (s.Fields so_far) = peeks (λ t. field_at (literal_key_of t.kind))
steady s.Primary = peeks (λ t. primaries (head_of t.kind))

-- What is read under a limit has no more levels.
pub height_le : {limit : ℕ} {n : Symbol} {ts : List Token} {d : Done n} → Goes limit n 0 (grammar n) ts (Ok d) → d.height ≤ limit
height_le g = limited steady g
