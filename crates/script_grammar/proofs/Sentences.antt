-- What the table reads as statements, declarations and scripts, the productions read.
use Rattle.std.proofs.Common.{◌≡◌, ℕ, ◌+◌, max, ◌&&◌, ◌||◌, not, Bool, true, false, Option, Some, None, List, [], ◌∷◌, ◌++◌, refl, ap, sym, ◌∙◌, subst, arith, ◌⊎◌, inl, inr, append_assoc}
use Rattle.js_lexer.specs.declared.Mark.TheVariants as m
use Rattle.js_lexer.specs.declared.Reserved.TheVariants as w
use Rattle.js_tree.specs.declared.Expr as tree
use Rattle.js_tree.specs.declared.Variable as decl
use Rattle.js_tree.specs.declared.Case as clause
use Rattle.js_tree.specs.declared.Stmt.{Stmt}
use Rattle.script_grammar.specs.Stmts as st
use Rattle.js_tree.specs.declared.ForStart.{ForStart}
use Rattle.script_grammar.specs.Starts as from
use Rattle.js_tree.specs.declared.Declaration as declaration
use Rattle.js_lexer.specs.declared.Kind.{Kind}
use Rattle.js_lexer.specs.declared.Token.{Token}
use Rattle.script_grammar.specs.declared.classes.Name.{Name}
use Rattle.script_grammar.specs.declared.classes.Start.{Start}
use Rattle.script_grammar.specs.Words.{Units, is, is_word, is_end, closes, stops, labels, name_of, kind_names, start_of, same_mark, same_word}
use Rattle.js_lexer.specs.declared.Kind.TheVariants as kind
use Rattle.script_grammar.specs.declared.classes.Name.TheVariants as ident
use Rattle.script_grammar.specs.declared.classes.Start.TheVariants as start
use Rattle.script_grammar.specs.declared.classes.Operand.{Operand}
use Rattle.script_grammar.specs.Rules.{Context, Symbol, Value, Rule}
use Rattle.script_grammar.specs.Rules.{Symbol as s}
use Rattle.script_grammar.specs.Rules.Rule.{give, refuse, peek, eat, read}
use Rattle.js_tree.specs.Trees.{case_of, catch_of, declaration_of, script_of}
use Rattle.script_grammar.specs.Grammar.{grammar, either, expect, ends, parameters, function, block, halts, in_parentheses, loop, switch, after_if, for_step, for_test, for_var, for_first, after_try, is_name, statement_as, case_body, next_decl, name_by, target, decl_of}
use Rattle.script_grammar.specs.Paths.{Path, Table}
use Rattle.script_grammar.specs.Productions.{Reads}
use Rattle.script_grammar.specs.Productions.{Part as part}
use Rattle.script_grammar.specs.Productions.{Reads as r}
use Rattle.script_grammar.specs.States.{Part, Of, States, Ended, Halted}
use Rattle.script_grammar.specs.States.{Part as p}
use Rattle.script_grammar.specs.States.{States as q}
use Rattle.script_grammar.specs.States.Ended.{semicolon, left_out}
use Rattle.script_grammar.specs.States.Halted.{semicolon_here, line_ends}
use Rattle.script_grammar.proofs.Paths.{least, built, mapped}
use Rattle.script_grammar.proofs.FromTable.{Body, from_table, target_of}
use Rattle.script_grammar.proofs.Rows.{Then, holds, on_peek, on_either, on_refuse, on_expect, on_eat, on_give, on_node, on_read, read_peek, read_expect, peek_after, expect_after, same, peek_known, on_stand}

abbrev S : (n : Part) → List Token → Of n → ℕ → List Token → Type 0
S = States Body

abbrev pub Meant : (n : Symbol) → List Token → Value n → ℕ → List Token → Type 0
Meant s.Script ts v h rest = S p.Script ts v h rest
Meant (s.Elements f functions statements) ts v h rest = (all : List declaration.Declaration × List Stmt) × (v ≡ script_of (functions ++ all.0) (statements ++ all.1)) × S (p.Elements f) ts all h rest
Meant s.Declaration ts v h rest = S p.Declaration ts v h rest
Meant (s.Statements c so_far) ts v h rest = (all : List Stmt) × (v ≡ so_far ++ all) × S (p.Statements c) ts all h rest
Meant (s.Statement c) ts v h rest = S (p.Statement c) ts v h rest
Meant (s.Block c) ts v h rest = S (p.Block c) ts v h rest
Meant (s.Decls no_in so_far) ts v h rest = (all : List decl.Variable) × (v ≡ so_far ++ all) × S (p.Decls no_in) ts all h rest
Meant (s.Clauses c stood so_far) ts v h rest = (all : List clause.Case) × (v ≡ so_far ++ all) × S (p.Clauses c stood) ts all h rest
Meant n ts v h rest = Unit {0}

abbrev pub Both : (n : Symbol) → List Token → Value n → ℕ → List Token → Type 0
Both n ts v h rest = Table n ts v h rest × Meant n ts v h rest

at : {n : Part} {ts rest : List Token} {v : Of n} {h i : ℕ} → h ≡ i → S n ts v h rest → S n ts v i rest
at {n} {ts} {rest} {v} e x = subst (λ y. S n ts v y rest) e x

abbrev Row : (n : Symbol) → Type 0
Row n = (ts : List Token) → Then Both n (grammar n) ts (λ v h rest. Meant n ts v h rest)

-- ---- scripts and lists

script_row : Row s.Script
script_row ts = read_peek (λ all i t us g. on_either (is_end t)
    (λ e. on_give (at {h = i} (omega arith) (subst (λ x. S p.Script ts x i (t ∷ us)) (sym g.1.1) (q.a_script g.1.2 e))))
    (λ e. on_refuse))

elements : (f : Bool) (functions : List declaration.Declaration) (statements : List Stmt) → Row (s.Elements f functions statements)
elements f functions statements ts = on_peek (Meant (s.Elements f functions statements)) ts (λ t us. on_either (stops t)
    (λ e. on_give (([], []), nil, q.no_more e))
    (λ e. on_either (is_word w.Function t)
    (λ e'. on_read (λ x i vs g. on_read (λ v j ws g'. on_give
    ((x ∷ g'.1.0.0, g'.1.0.1), g'.1.1 ∙ ap (λ y. script_of y (statements ++ g'.1.0.1)) (append_assoc functions (x ∷ []) g'.1.0.0), at {h = max i j} (omega arith) (q.declared g.1 g'.1.2)))))
    (λ e'. on_read (λ x i vs g. on_read (λ v j ws g'. on_give
    ((g'.1.0.0, x ∷ g'.1.0.1), g'.1.1 ∙ ap (λ y. script_of (functions ++ g'.1.0.0) y) (append_assoc statements (x ∷ []) g'.1.0.1), at {h = max i j} (omega arith) (q.stated g.1 g'.1.2)))))))
  where
    right : {A : Type 0} (x : List A) → x ≡ x ++ []
    right [] = refl
    right (y ∷ x) = ap (λ z. y ∷ z) (right x)

    nil : script_of functions statements ≡ script_of (functions ++ []) (statements ++ [])
    nil = ap (λ x. script_of x statements) (right functions) ∙ ap (λ x. script_of (functions ++ []) x) (right statements)

right_nil : {A : Type 0} (x : List A) → x ≡ x ++ []
right_nil [] = refl
right_nil (y ∷ x) = ap (λ z. y ∷ z) (right_nil x)

statements : (c : Context) (so_far : List Stmt) → Row (s.Statements c so_far)
statements c so_far ts = on_peek (Meant (s.Statements c so_far)) ts (λ t us. on_either (stops t)
    (λ e. on_give ([], right_nil so_far, q.none e))
    (λ e. on_read (λ x i vs g. on_read (λ v j ws g'. on_give
    (x ∷ g'.1.0, g'.1.1 ∙ append_assoc so_far (x ∷ []) g'.1.0, at {h = max i j} (omega arith) (q.one_more g.1 g'.1.2))))))

-- what the table reads as names
all_names : {ts rest : List Token} {all : List Units} {h : ℕ} → Table (s.Names []) ts all h rest → (h ≡ 0) × Reads Body part.Names ts all 0 rest
all_names {ts} {rest} {all} g = let x = from_table g in (x.2, subst (λ y. Reads Body part.Names ts y 0 rest) (sym x.1) x.3)

on_parameters : {n : Symbol} (rule : List Units → Rule n) (ts : List Token) {Q : Value n → ℕ → List Token → Type 0}
    → ((names : List Units) (us : List Token) → Reads Body part.Parameters ts names 0 us → Then Both n (rule names) us Q) → Then Both n (parameters rule) ts Q
on_parameters {n} rule ts {Q} k = expect_after m.OpenParen (λ ts. (names : List Units) (us : List Token) → Reads Body part.Parameters ts names 0 us → Then Both n (rule names) us Q) ts k
    (λ t us k e. peek_after (λ us. (names : List Units) (vs : List Token) → Reads Body part.Parameters (t ∷ us) names 0 vs → Then Both n (rule names) vs Q) us k
    (λ u vs k. on_either (is m.CloseParen u)
    (λ e'. on_eat (k [] vs (r.no_parameters e e')))
    (λ e'. read_expect m.CloseParen (λ all i v ws g e''. same (λ x h rest y. subst (λ z. Q x z rest) (let z : i ≡ 0 = (all_names g.0).0 in let w : h ≡ max (0 + i) h = omega arith in w) y)
    (k all ws (r.parameters e (all_names g.0).1 e''))))))

declaration_at : (t : Token) (us : List Token) → is_word w.Function t ≡ true → (u : Token) (vs : List Token) (o : Name) → name_of u.kind ≡ o
    → Then Both s.Declaration (name_by o (λ units. function (λ names body. give (declaration_of units names body)))) (u ∷ vs) (λ v h rest. S p.Declaration (t ∷ u ∷ vs) v (max 1 h) rest)
declaration_at t us e u vs (ident.Named units) e' = on_eat (on_parameters (λ names. expect m.OpenBrace (read 1 (s.Elements true [] []) (λ body _. expect m.CloseBrace (give (declaration_of units names body))))) vs
    (λ names ws g. expect_after m.OpenBrace (Reads Body part.Parameters vs names 0) ws g (λ x xs g e1. read_expect m.CloseBrace (λ body i y ys b e2. on_give
    (at {h = 1 + i} (omega arith) (q.a_declaration e e' g e1 b.0 e2))))))
declaration_at t us e u vs (ident.Out form) e' = on_refuse
declaration_at t us e u vs ident.Other e' = on_refuse

declaration_row : Row s.Declaration
declaration_row ts = on_peek (Meant s.Declaration) ts (λ t us. on_either (is_word w.Function t)
    (λ e. on_node (on_peek (λ us v h rest. S p.Declaration (t ∷ us) v (max 1 h) rest) us (λ u vs. declaration_at t us e u vs (name_of u.kind) refl)))
    (λ e. on_refuse))

decls_value : (no_in : Bool) (so_far : List decl.Variable) (t u : Token) (units : Units) (vs : List Token) → name_of t.kind ≡ ident.Named units → is m.Assign u ≡ true
    → Then Both (s.Decls no_in so_far) (read 0 (s.Assign no_in) (λ v _. next_decl units (Some v.expr))) vs (λ v h rest. Meant (s.Decls no_in so_far) (t ∷ u ∷ vs) v h rest)
decls_value no_in so_far t u units vs e e' = read_peek (λ a i x ws g. on_either (is m.Comma x)
    (λ e''. on_eat (on_read (λ v j xs g'. on_give
    (decl_of units (Some a.expr) ∷ g'.1.0, g'.1.1 ∙ append_assoc so_far (decl_of units (Some a.expr) ∷ []) g'.1.0, at {h = max i j} (omega arith) (q.value e e' (from_table g.0) e'' g'.1.2)))))
    (λ e''. on_give (decl_of units (Some a.expr) ∷ [], refl, at {h = i} (omega arith) (q.last_value e e' (from_table g.0) e''))))

decls_at : (no_in : Bool) (so_far : List decl.Variable) (t : Token) (us : List Token) (o : Name) → name_of t.kind ≡ o
    → Then Both (s.Decls no_in so_far) (name_by o (λ units. peek (λ t. either (is m.Assign t) (eat (read 0 (s.Assign no_in) (λ v _. next_decl units (Some v.expr)))) (next_decl units None)))) (t ∷ us) (Meant (s.Decls no_in so_far) (t ∷ us))
decls_at no_in so_far t us (ident.Named units) e = on_eat (on_peek (λ us v h rest. Meant (s.Decls no_in so_far) (t ∷ us) v h rest) us (λ u vs. on_either (is m.Assign u)
    (λ e'. on_eat (decls_value no_in so_far t u units vs e e'))
    (λ e'. peek_known (on_either (is m.Comma u)
    (λ e''. on_eat (on_read (λ v j xs g'. on_give
    (decl_of units None ∷ g'.1.0, g'.1.1 ∙ append_assoc so_far (decl_of units None ∷ []) g'.1.0, at {h = j} (omega arith) (q.next_decl e e'' g'.1.2)))))
    (λ e''. on_give (decl_of units None ∷ [], refl, q.last_decl e e' e''))))))
decls_at no_in so_far t us (ident.Out form) e = on_refuse
decls_at no_in so_far t us ident.Other e = on_refuse

decls_row : (no_in : Bool) (so_far : List decl.Variable) → Row (s.Decls no_in so_far)
decls_row no_in so_far ts = on_peek (Meant (s.Decls no_in so_far)) ts (λ t us. decls_at no_in so_far t us (name_of t.kind) refl)

all_decls : {no_in : Bool} {ts rest : List Token} {all : List decl.Variable} {h : ℕ} → Both (s.Decls no_in []) ts all h rest → S (p.Decls no_in) ts all h rest
all_decls {no_in} {ts} {rest} {all} {h} g = subst (λ x. S (p.Decls no_in) ts x h rest) (sym g.1.1) g.1.2

all_statements : {c : Context} {ts rest : List Token} {all : List Stmt} {h : ℕ} → Both (s.Statements c []) ts all h rest → S (p.Statements c) ts all h rest
all_statements {c} {ts} {rest} {all} {h} g = subst (λ x. S (p.Statements c) ts x h rest) (sym g.1.1) g.1.2

all_clauses : {c : Context} {stood : Bool} {ts rest : List Token} {all : List clause.Case} {h : ℕ} → Both (s.Clauses c stood []) ts all h rest → S (p.Clauses c stood) ts all h rest
all_clauses {c} {stood} {ts} {rest} {all} {h} g = subst (λ x. S (p.Clauses c stood) ts x h rest) (sym g.1.1) g.1.2

-- ---- shared parts of statements

on_ends : {c : Context} (x : Stmt) (ts : List Token) {Q : Stmt → ℕ → List Token → Type 0} → ((rest : List Token) → Ended ts rest → Q x 0 rest) → Then Both (s.Statement c) (ends x) ts Q
on_ends x ts {Q} k = peek_after (λ ts. (rest : List Token) → Ended ts rest → Q x 0 rest) ts k (λ t us k. on_either (is m.Semicolon t)
    (λ e. on_eat (on_give (k us (semicolon e))))
    (λ e. on_either (closes t) (λ e'. on_give (k (t ∷ us) (left_out e e'))) (λ e'. on_refuse)))

on_halts : {c : Context} (x : Stmt) (ts : List Token) {Q : Stmt → ℕ → List Token → Type 0} → ((rest : List Token) → Halted ts rest → Q x 0 rest) → Then Both (s.Statement c) (halts x) ts Q
on_halts x ts {Q} k = peek_after (λ ts. (rest : List Token) → Halted ts rest → Q x 0 rest) ts k (λ t us k. on_either (is m.Semicolon t && not t.after_newline)
    (λ e. on_eat (on_give (k us (semicolon_here e))))
    (λ e. on_either (closes t) (λ e'. on_give (k (t ∷ us) (line_ends e e'))) (λ e'. on_refuse)))

on_block : {n : Symbol} (c : Context) (f : Stmt → Rule n) (ts : List Token) {Q : Value n → ℕ → List Token → Type 0}
    → ((x : Stmt) (i : ℕ) (us : List Token) → S (p.Block c) ts x i us → Then Both n (f x) us (λ v h rest. Q v (max (1 + i) h) rest)) → Then Both n (block c f) ts Q
on_block {n} c f ts {Q} k = on_read (λ x i us g. k x i us g.1)

block_row : (c : Context) → Row (s.Block c)
block_row c ts = on_peek (Meant (s.Block c)) ts (λ t us. on_either (is m.OpenBrace t)
    (λ e. on_node (read_expect m.CloseBrace (λ all i u vs g e'. on_give (at {h = 1 + i} (omega arith) (q.block e (all_statements g) e')))))
    (λ e. on_refuse))

on_condition : {n : Symbol} (f : tree.Expr → Rule n) (ts : List Token) {Q : Value n → ℕ → List Token → Type 0}
    → ((a : tree.Expr) (i : ℕ) (us : List Token) → S p.Condition ts a i us → Then Both n (f a) us (λ v h rest. Q v (max (1 + i) h) rest)) → Then Both n (in_parentheses f) ts Q
on_condition {n} f ts {Q} k = expect_after m.OpenParen (λ ts. (a : tree.Expr) (i : ℕ) (us : List Token) → S p.Condition ts a i us → Then Both n (f a) us (λ v h rest. Q v (max (1 + i) h) rest)) ts k
    (λ t us k e. read_expect m.CloseParen (λ a i u vs g e'. k a.expr i vs (q.condition e (from_table g.0) e')))

-- ---- what the first token of a statement is

abbrev Says : Start → Token → Type 0
Says start.Block t = is m.OpenBrace t ≡ true
Says start.Empty t = is m.Semicolon t ≡ true
Says start.Var t = is_word w.Var t ≡ true
Says start.If t = is_word w.If t ≡ true
Says start.Do t = is_word w.Do t ≡ true
Says start.While t = is_word w.While t ≡ true
Says start.For t = is_word w.For t ≡ true
Says start.Continue t = is_word w.Continue t ≡ true
Says start.Break t = is_word w.Break t ≡ true
Says start.Return t = is_word w.Return t ≡ true
Says start.Throw t = is_word w.Throw t ≡ true
Says start.Switch t = is_word w.Switch t ≡ true
Says start.Try t = is_word w.Try t ≡ true
Says start.Identifier t = (is m.OpenBrace t ≡ false) × (is_word w.Function t ≡ false)
Says start.Parenthesis t = (is m.OpenBrace t ≡ false) × (is_word w.Function t ≡ false) × (kind_names t.kind ≡ false)
Says start.Expression t = (is m.OpenBrace t ≡ false) × (is_word w.Function t ≡ false) × (kind_names t.kind ≡ false)
Says start.Neither t = Unit {0}

says_kind : (k : Kind) (place close : ℕ) (line : Bool) → Says (start_of k) (record { kind = k; start = place; end = close; after_newline = line })
unfolding start_of is is_word same_mark same_word
says_kind (kind.Mark m.OpenBrace) place close line = refl
says_kind (kind.Mark m.Semicolon) place close line = refl
says_kind (kind.Mark m.OpenParen) place close line = (refl, refl, refl)
says_kind (kind.Reserved w.Var) place close line = refl
says_kind (kind.Reserved w.If) place close line = refl
says_kind (kind.Reserved w.Do) place close line = refl
says_kind (kind.Reserved w.While) place close line = refl
says_kind (kind.Reserved w.For) place close line = refl
says_kind (kind.Reserved w.Continue) place close line = refl
says_kind (kind.Reserved w.Break) place close line = refl
says_kind (kind.Reserved w.Return) place close line = refl
says_kind (kind.Reserved w.Throw) place close line = refl
says_kind (kind.Reserved w.Switch) place close line = refl
says_kind (kind.Reserved w.Try) place close line = refl
says_kind (kind.Reserved w.Function) place close line = tt
says_kind (kind.Word units) place close line = (refl, refl)
says_kind _ place close line = (refl, refl, refl)

says : (t : Token) → Says (start_of t.kind) t
says t = says_kind t.kind t.start t.end t.after_newline

-- ---- statements

split_and : (a b : Bool) → a && b ≡ false → (a ≡ false) ⊎ (b ≡ false)
split_and true b e = inr e
split_and false b e = inl refl

or_right : (a b : Bool) → a || b ≡ false → b ≡ false
or_right true b e = absurd (let z : true ≡ false = e in cc)
or_right false b e = e

and_left : (a b : Bool) → a && b ≡ true → a ≡ true
and_left true b e = refl
and_left false b e = e

and_right : (a b : Bool) → a && b ≡ true → b ≡ true
and_right true b e = e
and_right false b e = absurd (let z : false ≡ true = e in cc)

semicolon_kind : (k : Kind) (place close : ℕ) (line : Bool) → is m.Semicolon (record { kind = k; start = place; end = close; after_newline = line }) ≡ true
    → (is m.Assign (record { kind = k; start = place; end = close; after_newline = line }) ≡ false) × (is m.Comma (record { kind = k; start = place; end = close; after_newline = line }) ≡ false)
unfolding is same_mark
semicolon_kind (kind.Mark m.Semicolon) place close line e = (refl, refl)
semicolon_kind _ place close line e = absurd (let z : false ≡ true = e in cc)

only_semicolon : (t : Token) → is m.Semicolon t ≡ true → (is m.Assign t ≡ false) × (is m.Comma t ≡ false)
only_semicolon t e = semicolon_kind t.kind t.start t.end t.after_newline e

express : {c : Context} {t : Token} {ts us rest : List Token} {a : Operand} {h : ℕ} → is m.OpenBrace t ≡ false → is_word w.Function t ≡ false → kind_names t.kind ≡ false
    → Reads Body (part.Expr false) (t ∷ ts) a h us → Ended us rest → S (p.Statement c) (t ∷ ts) (st.Expression a.expr) (1 + h) rest
express b f k g (semicolon e) = q.expression b f g (inr (inr k)) (semicolon e)
express b f k g (left_out e e') = q.expression b f g (inr (inr k)) (left_out e e')

-- an expression that is a target as written is one alone
target_of_expr : {no_in : Bool} {ts rest : List Token} {a : Operand} {h : ℕ} → Reads Body (part.Expr no_in) ts a h rest → target a ≡ true → Reads Body (part.Whole true) ts a h rest
target_of_expr (r.all_commas (r.first (r.assign g e e' g')) c) z = absurd (let y : false ≡ true = z in cc)
target_of_expr (r.all_commas (r.first (r.unassigned {no_in = no_in} g e)) c) z = target_of no_in g z
target_of_expr (r.all_commas (r.comma g e g') c) z = absurd (let y : false ≡ true = z in cc)

for_step_at : (c : Context) (start : ForStart) (test : Option tree.Expr) (xs : List Token) (i : ℕ) (us : List Token)
    → ((step : Option tree.Expr) (j : ℕ) (ws : List Token) (x : Stmt) (k : ℕ) (rest : List Token) → S (p.Optional m.CloseParen) us step j ws → S (p.Statement (loop c)) ws x k rest
    → S (p.Statement c) xs (st.For start test step x) (1 + max i (max j k)) rest)
    → Then Both (s.Statement c) (for_step start test) us (λ v l rest. S (p.Statement c) xs v (max (1 + i) l) rest)
for_step_at c start test xs i us make = peek_after
    (λ us. (step : Option tree.Expr) (j : ℕ) (ws : List Token) (x : Stmt) (k : ℕ) (rest : List Token) → S (p.Optional m.CloseParen) us step j ws → S (p.Statement (loop c)) ws x k rest
    → S (p.Statement c) xs (st.For start test step x) (1 + max i (max j k)) rest) us make
    (λ t us make. on_either (is m.CloseParen t)
    (λ e. on_eat (on_read (λ x k rest g. on_give (at {h = 1 + max i (max 0 k)} (omega arith) (make None 0 us x k rest (q.nothing e) g.1)))))
    (λ e. read_expect m.CloseParen (λ a j u vs g e'. on_read (λ x k rest g'. on_give (at {h = 1 + max i (max j k)} (omega arith) (make (Some a.expr) j vs x k rest (q.something (from_table g.0) e') g'.1))))))

for_test_at : (c : Context) (start : ForStart) (xs : List Token) (i : ℕ) (us : List Token)
    → ((test : Option tree.Expr) (o : ℕ) (vs : List Token) (step : Option tree.Expr) (j : ℕ) (ws : List Token) (x : Stmt) (k : ℕ) (rest : List Token) → S (p.Optional m.Semicolon) us test o vs
    → S (p.Optional m.CloseParen) vs step j ws → S (p.Statement (loop c)) ws x k rest → S (p.Statement c) xs (st.For start test step x) (1 + max i (max o (max j k))) rest)
    → Then Both (s.Statement c) (for_test start) us (λ v l rest. S (p.Statement c) xs v (max (1 + i) l) rest)
for_test_at c start xs i us make = peek_after
    (λ us. (test : Option tree.Expr) (o : ℕ) (vs : List Token) (step : Option tree.Expr) (j : ℕ) (ws : List Token) (x : Stmt) (k : ℕ) (rest : List Token) → S (p.Optional m.Semicolon) us test o vs
    → S (p.Optional m.CloseParen) vs step j ws → S (p.Statement (loop c)) ws x k rest → S (p.Statement c) xs (st.For start test step x) (1 + max i (max o (max j k))) rest) us make
    (λ t us make. on_either (is m.Semicolon t)
    (λ e. on_eat (for_step_at c start None xs i us (λ step j ws x k rest g g'. at {h = 1 + max i (max 0 (max j k))} (omega arith) (make None 0 us step j ws x k rest (q.nothing e) g g'))))
    (λ e. read_expect m.Semicolon (λ a o u vs g e'. same (λ v l rest z. at {h = max (1 + max i o) l} (omega arith) z)
    (for_step_at c start (Some a.expr) xs (max i o) vs (λ step j ws x k rest g1 g2. at {h = 1 + max i (max o (max j k))} (omega arith) (make (Some a.expr) o vs step j ws x k rest (q.something (from_table g.0) e') g1 g2))))))

-- `for` with a first part
for_at : (c : Context) (t u : Token) (ts : List Token) (start : ForStart) (i : ℕ) (us : List Token) → is_word w.For t ≡ true → is m.OpenParen u ≡ true → S p.First ts start i us
    → Then Both (s.Statement c) (for_test start) us (λ v l rest. S (p.Statement c) (t ∷ u ∷ ts) v (max (1 + i) l) rest)
for_at c t u ts start i us e e' g = for_test_at c start (t ∷ u ∷ ts) i us (λ test o vs step j ws x k rest g1 g2 g3. q.for_loop e e' g g1 g2 g3)

for_var_at : (c : Context) (t u v n : Token) (us : List Token) → is_word w.For t ≡ true → is m.OpenParen u ≡ true → is_word w.Var v ≡ true → (o : Name) → name_of n.kind ≡ o
    → Then Both (s.Statement c) (name_by o for_var) (n ∷ us) (λ x h rest. S (p.Statement c) (t ∷ u ∷ v ∷ n ∷ us) x (max 1 h) rest)
for_var_at c t u v n us e e' e'' (ident.Named units) en = on_eat (on_peek (λ us x h rest. S (p.Statement c) (t ∷ u ∷ v ∷ n ∷ us) x (max 1 h) rest) us (λ o vs.
    on_either (is_word w.In o)
    (λ z. on_eat (read_expect m.CloseParen (λ b i x ws g z'. on_read (λ y j xs g'. on_give (at {h = 1 + max i j} (omega arith) (q.for_in_var e e' e'' en z (from_table g.0) z' g'.1))))))
    (λ z. on_either (is m.Semicolon o)
    (λ z'. on_node (same (λ x l rest y. at {h = max (1 + (1 + 0)) l} (omega arith) y)
    (for_at c t u (v ∷ n ∷ o ∷ vs) (from.Var (decl_of units None ∷ [])) (1 + 0) vs e e' (q.first_var e'' (q.last_decl en (only_semicolon o z').0 (only_semicolon o z').1) z'))))
    (λ z'. on_either (is m.Comma o)
    (λ z''. on_node (read_expect m.Semicolon (λ all i x ws g zs. same (λ y l rest k. at {h = max (1 + (1 + i)) l} (omega arith) k)
    (for_at c t u (v ∷ n ∷ o ∷ vs) (from.Var all) (1 + i) ws e e' (q.first_var e'' (subst (λ y. S (p.Decls true) (n ∷ o ∷ vs) y i (x ∷ ws)) (sym g.1.1) (q.next_decl en z'' g.1.2)) zs)))))
    (λ z''. on_either (is m.Assign o)
    (λ za. on_node (read_peek (λ a i x ws g. on_either (is m.Comma x)
    (λ zc. on_eat (read_expect m.Semicolon (λ all j y ys g' zs. same (λ y l rest k. at {h = max (1 + (1 + max i j)) l} (omega arith) k)
    (for_at c t u (v ∷ n ∷ o ∷ vs) (from.Var all) (1 + max i j) ys e e' (q.first_var e'' (subst (λ z. S (p.Decls true) (n ∷ o ∷ vs) z (max i j) (y ∷ ys)) (sym g'.1.1) (q.value en za (from_table g.0) zc g'.1.2)) zs)))))
    (λ zc. peek_known (on_either (is m.Semicolon x)
    (λ zs. on_eat (same (λ y l rest k. at {h = max (1 + (1 + i)) l} (omega arith) k)
    (for_at c t u (v ∷ n ∷ o ∷ vs) (from.Var (decl_of units (Some a.expr) ∷ [])) (1 + i) ws e e' (q.first_var e'' (q.last_value en za (from_table g.0) zc) zs))))
    (λ zs. on_refuse))))))
    (λ za. on_refuse))))))
for_var_at c t u v n us e e' e'' (ident.Out form) en = on_refuse
for_var_at c t u v n us e e' e'' ident.Other en = on_refuse

for_first_at : (c : Context) (t u : Token) (us : List Token) → is_word w.For t ≡ true → is m.OpenParen u ≡ true
    → Then Both (s.Statement c) for_first us (λ x h rest. S (p.Statement c) (t ∷ u ∷ us) x (max 1 h) rest)
for_first_at c t u us e e' = on_peek (λ us x h rest. S (p.Statement c) (t ∷ u ∷ us) x (max 1 h) rest) us (λ v vs. on_either (is m.Semicolon v)
    (λ z. on_eat (same (λ x l rest y. at {h = max (1 + 0) l} (omega arith) y) (for_at c t u (v ∷ vs) from.Nothing 0 vs e e' (q.first_none z))))
    (λ z. on_either (is_word w.Var v)
    (λ z'. on_eat (on_peek (λ vs x h rest. S (p.Statement c) (t ∷ u ∷ v ∷ vs) x (max 1 h) rest) vs (λ n ws. for_var_at c t u v n ws e e' z' (name_of n.kind) refl)))
    (λ z'. read_peek (λ a i x ws g. on_either (is_word w.In x && target a)
    (λ zi. on_eat (read_expect m.CloseParen (λ b j y xs g' zc. on_read (λ y' k ys g''. on_give (at {h = 1 + max i (max j k)} (omega arith)
    (q.for_in e e' (target_of_expr (from_table g.0) (and_right (is_word w.In x) (target a) zi)) (and_right (is_word w.In x) (target a) zi) (and_left (is_word w.In x) (target a) zi) (from_table g'.0) zc g''.1))))))
    (λ zi. peek_known (on_either (is m.Semicolon x)
    (λ zs. on_eat (same (λ y l rest k. at {h = max (1 + i) l} (omega arith) k) (for_at c t u (v ∷ vs) (from.Expr a.expr) i ws e e' (q.first_expr (from_table g.0) zs))))
    (λ zs. on_refuse)))))))

catch_at : (c : Context) (t : Token) (ts : List Token) (body : Stmt) (i : ℕ) (u v n : Token) (us : List Token) → is_word w.Try t ≡ true → is_word w.Catch u ≡ true → is m.OpenParen v ≡ true
    → S (p.Block c) ts body i (u ∷ v ∷ n ∷ us) → (o : Name) → name_of n.kind ≡ o
    → Then Both (s.Statement c) (name_by o (λ units. expect m.CloseParen (block c (λ inner. peek (after_try body (Some (catch_of units inner)) true))))) (n ∷ us)
    (λ x h rest. S (p.Statement c) (t ∷ ts) x (max 1 (max (1 + i) h)) rest)
catch_at c t ts body i u v n us e e1 e2 g (ident.Named units) e3 = on_eat (expect_after m.CloseParen (λ us. S (p.Block c) ts body i (u ∷ v ∷ n ∷ us)) us g (λ x zs g e4. on_block c _ zs (λ caught j vs g'.
    peek_after (S (p.Block c) zs caught j) vs g' (λ y ws g'. on_either (is_word w.Finally y)
    (λ e5. on_eat (on_block c _ ws (λ last k xs g''. on_give (at {h = 1 + max i (max j k)} (omega arith) (q.try_both e g e1 e2 e3 e4 g' (q.last e5 g''))))))
    (λ e5. on_give (at {h = 1 + max i j} (omega arith) (q.try_catch e g e1 e2 e3 e4 g' e5)))))))
catch_at c t ts body i u v n us e e1 e2 g (ident.Out form) e3 = on_refuse
catch_at c t ts body i u v n us e e1 e2 g ident.Other e3 = on_refuse

statement_at : (c : Context) (o : Start) (t : Token) (us : List Token) → Says o t → Then Both (s.Statement c) (statement_as c o) (t ∷ us) (S (p.Statement c) (t ∷ us))
statement_at c start.Block t us e = on_read (λ x i vs g. on_give (at {h = i} (omega arith) (q.braces g.1)))
statement_at c start.Empty t us e = on_node (on_give (at {h = 1} (omega arith) (q.empty e)))
statement_at c start.Var t us e = on_node (on_read (λ all i vs g. on_ends (st.Var all) vs (λ rest z. at {h = 1 + i} (omega arith) (q.var e (all_decls g) z))))
statement_at c start.If t us e = on_node (on_condition after_if us (λ a i vs g. read_peek (λ x j u ws g'. on_either (is_word w.Else u)
    (λ e'. on_eat (on_read (λ y k xs g''. on_give (at {h = 1 + max i (max j k)} (omega arith) (q.if_else e g g'.1 e' g''.1)))))
    (λ e'. on_give (at {h = 1 + max i j} (omega arith) (q.if_alone e g g'.1 e'))))))
statement_at c start.Do t us e = on_node (read_peek (λ x i u vs g. on_either (is_word w.While u)
    (λ e'. on_eat (on_condition (λ test. ends (st.DoWhile x test)) vs (λ a j ws g'. on_ends (st.DoWhile x a) ws (λ rest z. at {h = 1 + max i j} (omega arith) (q.do_while e g.1 e' g' z)))))
    (λ e'. on_refuse)))
statement_at c start.While t us e = on_node (on_condition (λ test. read 1 (s.Statement (loop c)) (λ body _. give (st.While test body))) us (λ a i vs g. on_read (λ x j ws g'. on_give (at {h = 1 + max i j} (omega arith) (q.while_loop e g g'.1)))))
statement_at c start.For t us e = on_node (on_expect m.OpenParen (λ us x h rest. S (p.Statement c) (t ∷ us) x (max 1 h) rest) us (λ u vs e'. for_first_at c t u vs e e'))
statement_at c start.Continue t us e = on_either c.in_loop
    (λ z. on_node (on_peek (λ us x h rest. S (p.Statement c) (t ∷ us) x (max 1 h) rest) us (λ u vs. on_either (labels u) (λ l. on_refuse)
    (λ l. on_halts st.Continue (u ∷ vs) (λ rest x. at {h = 1} (omega arith) (q.continue e z l x))))))
    (λ z. on_refuse)
statement_at c start.Break t us e = on_either (c.in_loop || c.in_switch)
    (λ z. on_node (on_peek (λ us x h rest. S (p.Statement c) (t ∷ us) x (max 1 h) rest) us (λ u vs. on_either (labels u) (λ l. on_refuse)
    (λ l. on_halts st.Break (u ∷ vs) (λ rest x. at {h = 1} (omega arith) (q.break e z l x))))))
    (λ z. on_refuse)
statement_at c start.Return t us e = on_either c.in_function
    (λ z. on_node (on_peek (λ us x h rest. S (p.Statement c) (t ∷ us) x (max 1 h) rest) us (λ u vs. on_either (is m.Semicolon u || closes u)
    (λ l. on_halts (st.Return None) (u ∷ vs) (λ rest x. at {h = 1} (omega arith) (q.return_alone e z x)))
    (λ l. on_read (λ a i ws g. on_ends (st.Return (Some a.expr)) ws (λ rest x. at {h = 1 + i} (omega arith) (q.return_value e z (or_right (is m.Semicolon u) (closes u) l) (from_table g.0) x)))))))
    (λ z. on_refuse)
statement_at c start.Throw t us e = on_node (on_peek (λ us x h rest. S (p.Statement c) (t ∷ us) x (max 1 h) rest) us (λ u vs. on_either u.after_newline (λ l. on_refuse)
    (λ l. on_read (λ a i ws g. on_ends (st.Throw a.expr) ws (λ rest x. at {h = 1 + i} (omega arith) (q.throw e l (from_table g.0) x))))))
statement_at c start.Switch t us e = on_node (on_condition (λ value. expect m.OpenBrace (read 1 (s.Clauses (switch c) false []) (λ all _. expect m.CloseBrace (give (st.Switch value all))))) us (λ a i vs g.
    expect_after m.OpenBrace (S p.Condition us a i) vs g (λ u ws g e'. read_expect m.CloseBrace (λ all j x xs g' e''. on_give (at {h = 1 + max i j} (omega arith) (q.a_switch e g e' (all_clauses g') e''))))))
statement_at c start.Try t us e = on_node (on_block c _ us (λ body i vs g. peek_after (S (p.Block c) us body i) vs g (λ u ws g. on_either (is_word w.Catch u)
    (λ e1. on_eat (expect_after m.OpenParen (λ ws. S (p.Block c) us body i (u ∷ ws)) ws g (λ v xs g e2. peek_after (λ xs. S (p.Block c) us body i (u ∷ v ∷ xs)) xs g (λ n ys g.
    catch_at c t us body i u v n ys e e1 e2 g (name_of n.kind) refl))))
    (λ e1. on_either (is_word w.Finally u)
    (λ e2. on_eat (on_block c _ ws (λ last j xs g'. on_give (at {h = 1 + max i j} (omega arith) (q.try_finally e g (q.last e2 g'))))))
    (λ e2. on_refuse)))))
statement_at c start.Identifier t us e = read_peek (λ a i u vs g. on_either (is m.Colon u && is_name a.expr) (λ l. on_refuse)
    (λ l. on_ends (st.Expression a.expr) (u ∷ vs) (λ rest x. at {h = 1 + i} (omega arith) (q.expression e.0 e.1 (from_table g.0) (elim (split_and (is m.Colon u) (is_name a.expr) l) [ inl y ↦ inl y | inr y ↦ inr (inl y) ]) x))))
statement_at c start.Parenthesis t us e = on_stand (on_read (λ a i vs g. on_ends (st.Expression a.expr) vs (λ rest x. at {h = 1 + i} (omega arith) (express e.0 e.1 e.2 (from_table g.0) x))))
statement_at c start.Expression t us e = on_read (λ a i vs g. on_ends (st.Expression a.expr) vs (λ rest x. at {h = 1 + i} (omega arith) (express e.0 e.1 e.2 (from_table g.0) x)))
statement_at c start.Neither t us e = on_refuse

statement_row : (c : Context) → Row (s.Statement c)
statement_row c ts = on_peek (Meant (s.Statement c)) ts (λ t us. statement_at c (start_of t.kind) t us (says t))

clauses_row : (c : Context) (stood : Bool) (so_far : List clause.Case) → Row (s.Clauses c stood so_far)
clauses_row c stood so_far ts = on_peek (Meant (s.Clauses c stood so_far)) ts (λ t us. on_either (is_word w.Case t)
    (λ e. on_eat (read_expect m.Colon (λ a i u vs g e'. on_read (λ body j ws g'. on_read (λ v k xs g''. on_give
    (case_of (Some a.expr) body ∷ g''.1.0, g''.1.1 ∙ append_assoc so_far (case_of (Some a.expr) body ∷ []) g''.1.0, at {h = max i (max j k)} (omega arith) (q.case e (from_table g.0) e' (all_statements g') g''.1.2)))))))
    (λ e. default_at stood t us))
  where
    default_at : (stood : Bool) (t : Token) (us : List Token)
        → Then Both (s.Clauses c stood so_far) (either (is_word w.Default t && not stood) (eat (case_body true None)) (either (is m.CloseBrace t) (give so_far) (refuse None))) (t ∷ us) (Meant (s.Clauses c stood so_far) (t ∷ us))
    default_at true t us = on_either (is_word w.Default t && not true) (λ z. absurd (let y : false ≡ true = and_right (is_word w.Default t) (not true) z in cc))
        (λ z. on_either (is m.CloseBrace t) (λ e. on_give ([], right_nil so_far, q.no_clause e)) (λ e. on_refuse))
    default_at false t us = on_either (is_word w.Default t && not false)
        (λ z. on_eat (on_expect m.Colon (λ us x h rest. Meant (s.Clauses c false so_far) (t ∷ us) x h rest) us (λ u vs e'. on_read (λ body j ws g'. on_read (λ v k xs g''. on_give
        (case_of None body ∷ g''.1.0, g''.1.1 ∙ append_assoc so_far (case_of None body ∷ []) g''.1.0, at {h = max j k} (omega arith) (q.default (and_left (is_word w.Default t) (not false) z) e' (all_statements g') g''.1.2)))))))
        (λ z. on_either (is m.CloseBrace t) (λ e. on_give ([], right_nil so_far, q.no_clause e)) (λ e. on_refuse))

-- ---- all rows

rows : (n : Symbol) (ts : List Token) (v : Value n) (h : ℕ) (rest : List Token) → Path Both n (grammar n) ts v h rest → Meant n ts v h rest
rows s.Script ts v h rest x = holds (script_row ts) v h rest x
rows (s.Elements f functions statements) ts v h rest x = holds (elements f functions statements ts) v h rest x
rows s.Declaration ts v h rest x = holds (declaration_row ts) v h rest x
rows (s.Statements c so_far) ts v h rest x = holds (statements c so_far ts) v h rest x
rows (s.Statement c) ts v h rest x = holds (statement_row c ts) v h rest x
rows (s.Block c) ts v h rest x = holds (block_row c ts) v h rest x
rows (s.Decls no_in so_far) ts v h rest x = holds (decls_row no_in so_far ts) v h rest x
rows (s.Clauses c stood so_far) ts v h rest x = holds (clauses_row c stood so_far ts) v h rest x
rows (s.Expr no_in) ts v h rest x = tt
rows (s.Commas no_in a i) ts v h rest x = tt
rows (s.Assign no_in) ts v h rest x = tt
rows (s.Conditional no_in) ts v h rest x = tt
rows (s.Binary no_in level) ts v h rest x = tt
rows (s.More no_in level a i) ts v h rest x = tt
rows s.Unary ts v h rest x = tt
rows s.Postfix ts v h rest x = tt
rows s.Left ts v h rest x = tt
rows (s.Suffixes calls a i) ts v h rest x = tt
rows (s.Deleted a i) ts v h rest x = tt
rows s.New ts v h rest x = tt
rows (s.Arguments so_far) ts v h rest x = tt
rows (s.Items so_far) ts v h rest x = tt
rows (s.Fields so_far) ts v h rest x = tt
rows (s.Names so_far) ts v h rest x = tt
rows s.Primary ts v h rest x = tt

-- What the table reads as a symbol, the productions read.
pub sentences : {n : Symbol} {ts rest : List Token} {v : Value n} {h : ℕ} → Table n ts v h rest → Meant n ts v h rest
sentences g = (least Both (λ n ts v h rest x. (built (mapped {P = Both} {Q = Table} (λ m ts v h rest y. y.0) x), rows n ts v h rest x)) g).1
