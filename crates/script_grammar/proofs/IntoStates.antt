-- What the productions read as statements, declarations and scripts, the table reads.
use Rattle.std.proofs.Common.{◌≡◌, ℕ, zero, suc, ◌+◌, max, ◌&&◌, ◌||◌, not, Bool, true, false, Option, Some, None, List, [], ◌∷◌, ◌++◌, refl, ap, sym, ◌∙◌, subst, arith, ◌⊎◌, inl, inr, append_assoc}
use Rattle.js_lexer.specs.declared.Mark.{Mark}
use Rattle.js_lexer.specs.declared.Mark.TheVariants as m
use Rattle.js_lexer.specs.declared.Reserved.TheVariants as w
use Rattle.js_tree.specs.declared.Expr as tree
use Rattle.js_tree.specs.declared.Variable as decl
use Rattle.js_tree.specs.declared.Catch as catch
use Rattle.js_tree.specs.declared.Case as clause
use Rattle.js_tree.specs.declared.Stmt.{Stmt}
use Rattle.script_grammar.specs.Stmts as st
use Rattle.script_grammar.specs.Starts as from
use Rattle.script_grammar.specs.Targets as over
use Rattle.js_tree.specs.declared.Script as script
use Rattle.js_tree.specs.declared.Declaration as declaration
use Rattle.js_lexer.specs.declared.Token.{Token}
use Rattle.script_grammar.specs.Words.{Units, kind_stops, is, is_word, closes, stops, name_of, kind_names, start_of, same_mark, same_word}
use Rattle.script_grammar.specs.declared.classes.Operand.{Operand}
use Rattle.script_grammar.specs.Rules.{Context, Symbol, Value, Rule}
use Rattle.script_grammar.specs.Rules.{Symbol as s}
use Rattle.script_grammar.specs.Rules.Rule.{give, peek, eat, read}
use Rattle.js_tree.specs.Trees.{case_of, catch_of, declaration_of, script_of}
use Rattle.script_grammar.specs.Grammar.{either, expect, ends, function, block, halts, in_parentheses, loop, switch, outer, after_if, for_body, for_step, for_test, for_in, for_var, for_first, after_try, is_name, statement_as, next_decl, name_by, target, decl_of}
use Rattle.script_grammar.specs.Paths.{Path, Table}
use Rattle.script_grammar.specs.Productions.{Reads}
use Rattle.script_grammar.specs.Productions.{Part as part}
use Rattle.script_grammar.specs.Productions.{Reads as r}
use Rattle.script_grammar.specs.States.{Part, Of, States, Ended, Halted}
use Rattle.script_grammar.specs.States.{Part as p}
use Rattle.script_grammar.specs.States.{States as q}
use Rattle.js_lexer.specs.declared.Kind.TheVariants as kind
use Rattle.script_grammar.specs.States.Ended.{semicolon, left_out}
use Rattle.script_grammar.specs.States.Halted.{semicolon_here, line_ends}
use Rattle.script_grammar.specs.Words.{assign_of}
use Rattle.script_grammar.specs.Grammar.{more_by, assign_by, expect_word}
use Rattle.script_grammar.specs.Paths.Path.{gives, peeks, eats, nodes, begins, reads}
use Rattle.script_grammar.proofs.Paths.{built}
use Rattle.script_grammar.proofs.FromTable.{Body}
use Rattle.script_grammar.proofs.ToTable.{opens_begun, table_at, value_at, first, second, expects, by, Opens, opens_assign, begun_whole, as_unary, as_left, as_postfix, as_conditional, into}
use Rattle.script_grammar.proofs.Tokens.{Opening, live_mark, live_word, live_name, word_kind, mark_kind, mark_no_word, mark_no_mark, word_no_word, word_no_mark, word_stops, mark_stops, identifier, in_alone, in_no_step}

abbrev S : (n : Part) → List Token → Of n → ℕ → List Token → Type 0
S = States Body

-- what a part is in the table
abbrev pub Into : (n : Part) → List Token → Of n → ℕ → List Token → Type 0
Into p.Script ts v h us = Table s.Script ts v h us
Into (p.Elements f) ts all h us = (functions : List declaration.Declaration) (statements : List Stmt) → Table (s.Elements f functions statements) ts (script_of (functions ++ all.0) (statements ++ all.1)) h us
Into p.Declaration ts v h us = Table s.Declaration ts v h us
Into (p.Statements c) ts all h us = (so_far : List Stmt) → Table (s.Statements c so_far) ts (so_far ++ all) h us
Into (p.Statement c) ts v h us = Table (s.Statement c) ts v h us
Into (p.Decls no_in) ts all h us = (so_far : List decl.Variable) → Table (s.Decls no_in so_far) ts (so_far ++ all) h us
Into (p.Clauses c stood) ts all h us = (so_far : List clause.Case) → Table (s.Clauses c stood so_far) ts (so_far ++ all) h us
Into p.Condition ts a h us = (n : Symbol) (f : tree.Expr → Rule n) (x : Value n) (i : ℕ) (rest : List Token) → Path Table n (f a) us x i rest → Path Table n (in_parentheses f) ts x (max (1 + h) i) rest
Into (p.Block c) ts x h us = Table (s.Block c) ts x h us
Into p.First ts start h us = (c : Context) (x : Stmt) (i : ℕ) (rest : List Token) → Path Table (s.Statement c) (for_test start) us x i rest → (g : ℕ) × (max 1 g ≡ max (1 + h) i) × Path Table (s.Statement c) for_first ts x g rest
Into (p.Optional mark) ts o h us = (n : Symbol) (k : Option tree.Expr → Rule n) (x : Value n) (i : ℕ) (rest : List Token) → ((t : Token) → Opening t → is mark t ≡ false) → Path Table n (k o) us x i rest
    → (g : ℕ) × (max 1 g ≡ max (1 + h) i) × Path Table n (peek (λ t. either (is mark t) (eat (k None)) (read 1 (s.Expr false) (λ v _. expect mark (k (Some v.expr)))))) ts x g rest
Into (p.Finally c) ts x h us = (t : Token) × (vs : List Token) × (ts ≡ t ∷ vs) × (is_word w.Finally t ≡ true) × Table (s.Block c) vs x h us

-- ---- first tokens

Leads : List Token → Type 0
Leads ts = (t : Token) × (vs : List Token) × (ts ≡ t ∷ vs) × (stops t ≡ false) × (is_word w.Function t ≡ false)

word_leads : (v : _) (t : Token) (vs : List Token) → kind_stops (kind.Reserved v) ≡ false → same_word w.Function v ≡ false → is_word v t ≡ true → Leads (t ∷ vs)
unfolding Leads
word_leads v t vs f g e = (t, vs, refl, word_stops v t f e, word_no_word v w.Function t g e)

opens_commas : {no_in : Bool} {ts us : List Token} {v : Operand} {h : ℕ} → Reads Body (part.Commas no_in) ts v h us → Opens ts
opens_commas (r.first g) = opens_assign g
opens_commas (r.comma g e g') = opens_commas g

opens_expr : {no_in : Bool} {ts us : List Token} {v : Operand} {h : ℕ} → Reads Body (part.Expr no_in) ts v h us → Opens ts
opens_expr (r.all_commas g e) = opens_commas g

stop_at : (t u : Token) (ts us : List Token) → t ∷ ts ≡ u ∷ us → stops u ≡ false → stops t ≡ false
stop_at t u ts us e f = let z : t ≡ u = cc in subst (λ x. stops x ≡ false) (sym z) f

leads : {c : Context} {ts us : List Token} {v : Stmt} {h : ℕ} → S (p.Statement c) ts v h us → Leads ts
unfolding Leads same_word
leads (q.braces (q.block {t = t} e g e')) = (t, _, refl, mark_stops m.OpenBrace t refl e, mark_no_word m.OpenBrace w.Function t e)
leads (q.var {t = t} e g x) = word_leads w.Var t _ refl refl e
leads (q.empty {t = t} e) = (t, _, refl, mark_stops m.Semicolon t refl e, mark_no_word m.Semicolon w.Function t e)
leads (q.expression {t = t} b f g x y) = let o = opens_expr g in (t, _, refl, stop_at t o.0 _ o.1 o.2 o.3.4, f)
leads (q.if_alone {t = t} e g g' e') = word_leads w.If t _ refl refl e
leads (q.if_else {t = t} e g g' e' g'') = word_leads w.If t _ refl refl e
leads (q.do_while {t = t} e g e' g' x) = word_leads w.Do t _ refl refl e
leads (q.while_loop {t = t} e g g') = word_leads w.While t _ refl refl e
leads (q.for_loop {t = t} e e' g g1 g2 g3) = word_leads w.For t _ refl refl e
leads (q.for_in {t = t} e e' g z e2 g1 e3 g2) = word_leads w.For t _ refl refl e
leads (q.for_in_var {t = t} e e1 e2 e3 e4 g e5 g1) = word_leads w.For t _ refl refl e
leads (q.continue {t = t} e z l x) = word_leads w.Continue t _ refl refl e
leads (q.break {t = t} e z l x) = word_leads w.Break t _ refl refl e
leads (q.return_alone {t = t} e z x) = word_leads w.Return t _ refl refl e
leads (q.return_value {t = t} e z l g x) = word_leads w.Return t _ refl refl e
leads (q.throw {t = t} e l g x) = word_leads w.Throw t _ refl refl e
leads (q.a_switch {t = t} e g e1 g1 e2) = word_leads w.Switch t _ refl refl e
leads (q.try_catch {t = t} e g e1 e2 e3 e4 g1 e5) = word_leads w.Try t _ refl refl e
leads (q.try_both {t = t} e g e1 e2 e3 e4 g1 g2) = word_leads w.Try t _ refl refl e
leads (q.try_finally {t = t} e g g1) = word_leads w.Try t _ refl refl e

-- ---- steps

ended : {c : Context} {x : Stmt} {us rest : List Token} → Ended us rest → Path Table (s.Statement c) (ends x) us x 0 rest
ended (semicolon {t = t} e) = peeks (first _ _ _ e (eats (live_mark m.Semicolon t e) gives))
ended (left_out e e') = peeks (second _ _ _ e (first _ _ _ e' gives))

and_left : (a b : Bool) → a && b ≡ true → a ≡ true
and_left true b e = refl
and_left false b e = e

halted : {c : Context} {x : Stmt} {us rest : List Token} → Halted us rest → Path Table (s.Statement c) (halts x) us x 0 rest
halted (semicolon_here {t = t} e) = peeks (first _ _ _ e (eats (live_mark m.Semicolon t (and_left (is m.Semicolon t) (not t.after_newline) e)) gives))
halted (line_ends e e') = peeks (second _ _ _ e (first _ _ _ e' gives))

expects_word : {n : Symbol} (v : _) {r : Rule n} {t : Token} {ts rest : List Token} {x : Value n} {h : ℕ} → is_word v t ≡ true → Path Table n r ts x h rest → Path Table n (expect_word v r) (t ∷ ts) x h rest
expects_word v {t = t} e z = peeks (first _ _ _ e (eats (live_word v t e) z))

-- a target before `in`
in_binary : (level : ℕ) {ts us : List Token} {t : Token} {v : Operand} {h : ℕ} → is_word w.In t ≡ true → Table s.Unary ts v h (t ∷ us) → Table (s.Binary true level) ts v h (t ∷ us)
in_binary zero {h = h} e g = table_at {h = max (0 + h) 0} (omega arith) (built (reads g gives))
in_binary (suc level) {t = t} {v = v} {h = h} e g = table_at {h = max (0 + h) (max (0 + 0) 0)} (omega arith)
    (built (reads (in_binary level e g) (reads (built (peeks (by (more_by true (suc level) v h) (in_alone (suc level) t e) gives))) gives)))

in_expr : {ts us : List Token} {t : Token} {v : Operand} {h : ℕ} → Reads Body (part.Whole true) ts v h (t ∷ us) → is_word w.In t ≡ true → Table (s.Expr true) ts v h (t ∷ us)
in_expr {t = t} {v = v} {h = h} g e = let lone = in_no_step t e in
    let c = as_conditional true (word_no_mark w.In m.Question t e) (in_binary 10 e (as_unary _ (begun_whole g).1 (as_postfix (as_left (into g)) (inr lone.1)))) in
    table_at {h = max (0 + h) (max (0 + 0) 0)} (omega arith) (built (reads (built' (assigned c lone.0)) (reads (built (peeks (second _ _ _ (word_no_mark w.In m.Comma t e) gives))) gives)))
  where
    built' : {ts us : List Token} {v : Operand} {h : ℕ} → Table (s.Assign true) ts v h us → Table (s.Assign true) ts v h us
    built' g = g

    assigned : {ts us : List Token} {t : Token} {v : Operand} {h : ℕ} → Table (s.Conditional true) ts v h (t ∷ us) → assign_of t.kind ≡ None → Table (s.Assign true) ts v h (t ∷ us)
    assigned {v = v} {h = h} g e = table_at {h = max (0 + h) 0} (omega arith) (built (reads g (peeks (by (assign_by v h) e gives))))

or_first : (a b : Bool) → a ≡ false → b ≡ false → a || b ≡ false
or_first true b e f = absurd (let z : true ≡ false = e in cc)
or_first false b e f = f

both_true : (a b : Bool) → a ≡ true → b ≡ true → a && b ≡ true
both_true true b e f = f
both_true false b e f = absurd (let z : false ≡ true = e in cc)

and_false : (a b : Bool) → (a ≡ false) ⊎ (b ≡ false) → a && b ≡ false
and_false true b (inl e) = absurd (let z : true ≡ false = e in cc)
and_false true b (inr e) = e
and_false false b e = refl

closed : (t : Token) → is m.Semicolon t ≡ true → is m.Semicolon t || closes t ≡ true
closed t e = ap (λ x. x || closes t) e

or_right_true : (a b : Bool) → b ≡ true → a || b ≡ true
or_right_true true b e = refl
or_right_true false b e = e

closed_out : (t : Token) → closes t ≡ true → is m.Semicolon t || closes t ≡ true
closed_out t e = or_right_true (is m.Semicolon t) (closes t) e

ended_some : {us rest : List Token} → Ended us rest → (t : Token) × (vs : List Token) × (us ≡ t ∷ vs)
ended_some (semicolon {t = t} e) = (t, _, refl)
ended_some (left_out {t = t} e e') = (t, _, refl)

same_head : (t u : Token) (ts us : List Token) → t ∷ ts ≡ u ∷ us → t ≡ u
same_head t u ts us e = cc

-- an expression statement
stated : {c : Context} {t u : Token} {ts us rest : List Token} {a : Operand} {h : ℕ} → is m.OpenBrace t ≡ false → is_word w.Function t ≡ false → Opening t → Table (s.Expr false) (t ∷ ts) a h (u ∷ us)
    → (is m.Colon u ≡ false) ⊎ ((is_name a.expr ≡ false) ⊎ (kind_names t.kind ≡ false)) → Ended (u ∷ us) rest → Table (s.Statement c) (t ∷ ts) (st.Expression a.expr) (1 + h) rest
unfolding is is_word
stated {c} {t} {u} {a = a} {h = h} b f o g l z = elim o.6 [
  | inl x ↦ table_at {h = max (1 + h) 0} (omega arith) (built (peeks (by (statement_as c) x (reads g (peeks (second _ _ _ (and_false (is m.Colon u) (is_name a.expr) (elim l [
    | inl y ↦ inl y
    | inr y ↦ elim y [ inl k ↦ inr k | inr k ↦ absurd (let i : true ≡ false = sym (identifier t x) ∙ k in cc) ]
  ])) (ended z)))))))
  | inr y ↦ elim y [
    | inl x ↦ table_at {h = max 1 (max (1 + h) 0)} (omega arith) (built (peeks (by (statement_as c) x (begins (reads g (ended z))))))
    | inr y ↦ elim y [
      | inl x ↦ table_at {h = max (1 + h) 0} (omega arith) (built (peeks (by (statement_as c) x (reads g (ended z)))))
      | inr y ↦ absurd (elim y [ inl x ↦ (let i : true ≡ false = sym x ∙ b in cc) | inr x ↦ (let i : true ≡ false = sym x ∙ f in cc) ])
    ]
  ]
]

state_first : {f : Bool} {functions : List declaration.Declaration} {ss : List Stmt} {ts us rest : List Token} {x : Stmt} {v : script.Script} {h i : ℕ} → Leads ts → Table (s.Statement (outer f)) ts x h us
    → Table (s.Elements f functions (ss ++ x ∷ [])) us v i rest → Table (s.Elements f functions ss) ts v (max h i) rest
unfolding Leads
state_first {f} {functions} {ss} {ts} {us} {rest} {x} {v} {h} {i} l g k = subst (λ y. Table (s.Elements f functions ss) y v (max h i) rest) (sym l.2)
    (table_at {h = max (0 + h) (max (0 + i) 0)} (omega arith) (built (peeks (second _ _ _ l.3 (second _ _ _ l.4 (reads (subst (λ y. Table (s.Statement (outer f)) y x h us) l.2 g) (reads k gives)))))))

list_first : {c : Context} {ss : List Stmt} {ts us rest : List Token} {x : Stmt} {v : List Stmt} {h i : ℕ} → Leads ts → Table (s.Statement c) ts x h us
    → Table (s.Statements c (ss ++ x ∷ [])) us v i rest → Table (s.Statements c ss) ts v (max h i) rest
unfolding Leads
list_first {c} {ss} {ts} {us} {rest} {x} {v} {h} {i} l g k = subst (λ y. Table (s.Statements c ss) y v (max h i) rest) (sym l.2)
    (table_at {h = max (0 + h) (max (0 + i) 0)} (omega arith) (built (peeks (second _ _ _ l.3 (reads (subst (λ y. Table (s.Statement c) y x h us) l.2 g) (reads k gives))))))

declare_first : {f : Bool} {functions : List declaration.Declaration} {ss : List Stmt} {t : Token} {ts us rest : List Token} {x : declaration.Declaration} {v : script.Script} {h i : ℕ} → is_word w.Function t ≡ true
    → Table s.Declaration (t ∷ ts) x h us → Table (s.Elements f (functions ++ x ∷ []) ss) us v i rest → Table (s.Elements f functions ss) (t ∷ ts) v (max h i) rest
declare_first {t = t} {h = h} {i = i} e g k = table_at {h = max (0 + h) (max (0 + i) 0)} (omega arith) (built (peeks (second _ _ _ (word_stops w.Function t refl e) (first _ _ _ e (reads g (reads k gives))))))

declared_first : {ts us : List Token} {v : declaration.Declaration} {h : ℕ} → S p.Declaration ts v h us → (t : Token) × (vs : List Token) × (ts ≡ t ∷ vs) × (is_word w.Function t ≡ true)
declared_first (q.a_declaration {t = t} e e' g e1 b e2) = (t, _, refl, e)

some_first : {n : Symbol} (x : Mark) (k : Option tree.Expr → Rule n) {ts us rest : List Token} {t : Token} {a : Operand} {h i : ℕ} {v : Value n} → Opens ts → ((t : Token) → Opening t → is x t ≡ false) → Table (s.Expr false) ts a h (t ∷ us) → is x t ≡ true
    → Path Table n (k (Some a.expr)) us v i rest → Path Table n (peek (λ t. either (is x t) (eat (k None)) (read 1 (s.Expr false) (λ v _. expect x (k (Some v.expr)))))) ts v (max (1 + h) i) rest
some_first {n} x k {ts} {us} {rest} {t} {a} {h} {i} {v} o f g e z = subst (λ y. Path Table n (peek (λ t. either (is x t) (eat (k None)) (read 1 (s.Expr false) (λ v _. expect x (k (Some v.expr)))))) y v (max (1 + h) i) rest) (sym o.2)
    (peeks (second _ _ _ (f o.0 o.3) (reads (subst (λ y. Table (s.Expr false) y a h (t ∷ us)) o.2 g) (expects x e z))))

first_of_expr : {c : Context} {ts us rest : List Token} {t : Token} {a : Operand} {h i : ℕ} {v : Stmt} → Opens ts → Table (s.Expr true) ts a h (t ∷ us) → is m.Semicolon t ≡ true → Path Table (s.Statement c) (for_test (from.Expr a.expr)) us v i rest
    → Path Table (s.Statement c) for_first ts v (max (1 + h) i) rest
first_of_expr {c} {ts} {us} {rest} {t} {a} {h} {i} {v} o g e z = subst (λ y. Path Table (s.Statement c) for_first y v (max (1 + h) i) rest) (sym o.2)
    (peeks (second _ _ _ o.3.3 (second _ _ _ o.3.5 (reads (subst (λ y. Table (s.Expr true) y a h (t ∷ us)) o.2 g) (peeks (second _ _ _ (and_false (is_word w.In t) (target a) (inl (mark_no_word m.Semicolon w.In t e))) (expects m.Semicolon e z)))))))

first_of_target : {c : Context} {ts us rest : List Token} {t : Token} {a : Operand} {h i : ℕ} {v : Stmt} → Opens ts → Table (s.Expr true) ts a h (t ∷ us) → is_word w.In t ≡ true → target a ≡ true
    → Path Table (s.Statement c) (for_in (over.Target a.expr)) us v i rest → Path Table (s.Statement c) for_first ts v (max (1 + h) i) rest
first_of_target {c} {ts} {us} {rest} {t} {a} {h} {i} {v} o g e e' z = subst (λ y. Path Table (s.Statement c) for_first y v (max (1 + h) i) rest) (sym o.2)
    (peeks (second _ _ _ o.3.3 (second _ _ _ o.3.5 (reads (subst (λ y. Table (s.Expr true) y a h (t ∷ us)) o.2 g) (peeks (first _ _ _ (both_true (is_word w.In t) (target a) e e') (eats (live_word w.In t e) z)))))))

right_nil : {A : Type 0} (x : List A) → x ≡ x ++ []
right_nil [] = refl
right_nil (y ∷ x) = ap (λ z. y ∷ z) (right_nil x)

abbrev declare_rule : Units → Rule s.Declaration
declare_rule units = function (λ names body. give (declaration_of units names body))

abbrev declare_body : Units → List Units → Rule s.Declaration
declare_body units names = expect m.OpenBrace (read 1 (s.Elements true [] []) (λ body _. expect m.CloseBrace (give (declaration_of units names body))))

abbrev decl_rule : (no_in : Bool) (so_far : List decl.Variable) → Units → Rule (s.Decls no_in so_far)
decl_rule no_in so_far units = peek (λ t. either (is m.Assign t) (eat (read 0 (s.Assign no_in) (λ v _. next_decl units (Some v.expr)))) (next_decl units None))

abbrev catch_rule : (c : Context) → Stmt → Units → Rule (s.Statement c)
catch_rule c body units = expect m.CloseParen (block c (λ inner. peek (after_try body (Some (catch_of units inner)) true)))

abbrev try_rule : (c : Context) → Stmt → Rule (s.Statement c)
try_rule c body = peek (λ t. either (is_word w.Catch t) (eat (expect m.OpenParen (peek (λ t. name_by (name_of t.kind) (catch_rule c body))))) (after_try body None false t))

finish : (c : Context) (body : Stmt) (caught : Option catch.Catch) (some : Bool) (last : Stmt) (us rest : List Token) (i : ℕ) → Into (p.Finally c) us last i rest
    → Path Table (s.Statement c) (peek (after_try body caught some)) us (st.Try body caught (Some last)) (max (1 + i) 0) rest
finish c body caught some last us rest i g = subst (λ y. Path Table (s.Statement c) (peek (after_try body caught some)) y (st.Try body caught (Some last)) (max (1 + i) 0) rest) (sym g.2)
    (peeks (first _ _ _ g.3 (eats (live_word w.Finally g.0 g.3) (reads g.4 gives))))

finish_try : (c : Context) (body last : Stmt) (us rest : List Token) (i : ℕ) → Into (p.Finally c) us last i rest → Path Table (s.Statement c) (try_rule c body) us (st.Try body None (Some last)) (max (1 + i) 0) rest
unfolding same_word
finish_try c body last us rest i g = subst (λ y. Path Table (s.Statement c) (try_rule c body) y (st.Try body None (Some last)) (max (1 + i) 0) rest) (sym g.2)
    (peeks (second _ _ _ (word_no_word w.Finally w.Catch g.0 refl g.3) (first _ _ _ g.3 (eats (live_word w.Finally g.0 g.3) (reads g.4 gives)))))

braced : {c : Context} {t u : Token} {ts rest : List Token} {all : List Stmt} {h : ℕ} → is m.OpenBrace t ≡ true → Table (s.Statements c []) ts all h (u ∷ rest) → is m.CloseBrace u ≡ true
    → Table (s.Block c) (t ∷ ts) (st.Block all) (1 + h) rest
braced {t = t} {h = h} e g e' = table_at {h = max 1 (max (1 + h) 0)} (omega arith) (built (peeks (first _ _ _ e (nodes (live_mark m.OpenBrace t e) (reads g (expects _ e' gives))))))

pub put : {n : Part} {ts us : List Token} {v : Of n} {h : ℕ} → S n ts v h us → Into n ts v h us
unfolding same_mark same_word start_of
put (q.a_script {h = h} g e) = table_at {h = max (0 + h) 0} (omega arith) (built (reads (put g [] []) (peeks (first _ _ _ e gives))))
put (q.no_more e) = λ fs ss. value_at (ap (λ x. script_of x ss) (right_nil fs) ∙ ap (λ x. script_of (fs ++ []) x) (right_nil ss)) (built (peeks (first _ _ _ e gives)))
put (q.declared {f = f} {ts = ts} {us = us} {rest = rest} {x = x} {all = all} {h = h} {i = i} g g') = λ fs ss. let d = declared_first g in
    subst (λ y. Table (s.Elements f fs ss) y (script_of (fs ++ x ∷ all.0) (ss ++ all.1)) (max h i) rest) (sym d.2)
    (declare_first d.3 (subst (λ y. Table s.Declaration y x h us) d.2 (put g)) (value_at (ap (λ y. script_of y (ss ++ all.1)) (append_assoc fs (x ∷ []) all.0)) (put g' (fs ++ x ∷ []) ss)))
put (q.stated {x = x} {all = all} g g') = λ fs ss. state_first (leads g) (put g) (value_at (ap (λ y. script_of (fs ++ all.0) y) (append_assoc ss (x ∷ []) all.1)) (put g' fs (ss ++ x ∷ [])))
put (q.a_declaration {t = t} {n = n} {units = units} {h = h} e e' g e1 b e2) = table_at {h = max 1 (max (1 + h) 0)} (omega arith) (built (peeks (first _ _ _ e (nodes (live_word w.Function t e)
    (peeks (by (λ o. name_by o declare_rule) e' (eats (live_name n units e') (into g s.Declaration (declare_body units) _ (max (1 + h) 0) _ (expects _ e1 (reads b (expects _ e2 gives)))))))))))
put (q.none e) = λ so_far. value_at (right_nil so_far) (built (peeks (first _ _ _ e gives)))
put (q.one_more {x = x} {all = all} g g') = λ so_far. list_first (leads g) (put g) (value_at (append_assoc so_far (x ∷ []) all) (put g' (so_far ++ x ∷ [])))
put (q.block e g e') = braced e (put g []) e'
put (q.condition e g e') = λ n f x i rest z. expects _ e (reads (into g) (expects _ e' z))
put (q.last_decl {no_in = no_in} {t = t} {units = units} en ea ec) = λ so_far. built (peeks (by (λ o. name_by o (decl_rule no_in so_far)) en (eats (live_name t units en) (peeks (second _ _ _ ea (peeks (second _ _ _ ec gives)))))))
put (q.next_decl {no_in = no_in} {t = t} {u = u} {units = units} {all = all} {h = h} en ec g) = λ so_far. value_at (append_assoc so_far (decl_of units None ∷ []) all) (table_at {h = max (0 + h) 0} (omega arith)
    (built (peeks (by (λ o. name_by o (decl_rule no_in so_far)) en (eats (live_name t units en) (peeks (second _ _ _ (mark_no_mark m.Comma m.Assign u refl ec) (peeks (first _ _ _ ec (eats (live_mark m.Comma u ec) (reads (put g (so_far ++ decl_of units None ∷ [])) gives)))))))))))
put (q.last_value {no_in = no_in} {t = t} {u = u} {units = units} {h = h} en ea g ec) = λ so_far. table_at {h = max (0 + h) 0} (omega arith)
    (built (peeks (by (λ o. name_by o (decl_rule no_in so_far)) en (eats (live_name t units en) (peeks (first _ _ _ ea (eats (live_mark m.Assign u ea) (reads (into g) (peeks (second _ _ _ ec gives))))))))))
put (q.value {no_in = no_in} {t = t} {u = u} {v = v} {units = units} {a = a} {all = all} {h = h} {i = i} en ea g ec g') = λ so_far. value_at (append_assoc so_far (decl_of units (Some a.expr) ∷ []) all) (table_at {h = max (0 + h) (max (0 + i) 0)} (omega arith)
    (built (peeks (by (λ o. name_by o (decl_rule no_in so_far)) en (eats (live_name t units en) (peeks (first _ _ _ ea (eats (live_mark m.Assign u ea) (reads (into g) (peeks (first _ _ _ ec (eats (live_mark m.Comma v ec) (reads (put g' (so_far ++ decl_of units (Some a.expr) ∷ [])) gives)))))))))))))
put (q.braces {c = c} (q.block {t = t} {h = h} e g e')) = table_at {h = max (0 + (1 + h)) 0} (omega arith) (built (peeks (by (statement_as c) (ap start_of (mark_kind m.OpenBrace t e)) (reads (braced e (put g []) e') gives))))
put (q.var {c = c} {t = t} {h = h} e g z) = table_at {h = max 1 (max (1 + h) 0)} (omega arith) (built (peeks (by (statement_as c) (ap start_of (word_kind w.Var t e)) (nodes (live_word w.Var t e) (reads (put g []) (ended z))))))
put (q.empty {c = c} {t = t} e) = built (peeks (by (statement_as c) (ap start_of (mark_kind m.Semicolon t e)) (nodes (live_mark m.Semicolon t e) gives)))
put (q.expression {t = t} b f g l z) = let o = opens_expr g in stated b f (subst Opening (sym (same_head t o.0 _ o.1 o.2)) o.3) (into g) l z
put (q.if_alone {c = c} {t = t} {h = h} {i = i} e g g' e') = table_at {h = max 1 (max (1 + h) (max (1 + i) 0))} (omega arith)
    (built (peeks (by (statement_as c) (ap start_of (word_kind w.If t e)) (nodes (live_word w.If t e) (put g (s.Statement c) after_if _ (max (1 + i) 0) _ (reads (put g') (peeks (second _ _ _ e' gives))))))))
put (q.if_else {c = c} {t = t} {u = u} {h = h} {i = i} {j = j} e g g' e' g'') = table_at {h = max 1 (max (1 + h) (max (1 + i) (max (1 + j) 0)))} (omega arith)
    (built (peeks (by (statement_as c) (ap start_of (word_kind w.If t e)) (nodes (live_word w.If t e) (put g (s.Statement c) after_if _ (max (1 + i) (max (1 + j) 0)) _ (reads (put g') (peeks (first _ _ _ e' (eats (live_word w.Else u e') (reads (put g'') gives))))))))))
put (q.do_while {c = c} {t = t} {x = x} {h = h} {i = i} e g e' g' z) = table_at {h = max 1 (max (1 + h) (max (1 + i) 0))} (omega arith)
    (built (peeks (by (statement_as c) (ap start_of (word_kind w.Do t e)) (nodes (live_word w.Do t e) (reads (put g) (expects_word _ e' (put g' (s.Statement c) (λ test. ends (st.DoWhile x test)) _ 0 _ (ended z))))))))
put (q.while_loop {c = c} {t = t} {h = h} {i = i} e g g') = table_at {h = max 1 (max (1 + h) (max (1 + i) 0))} (omega arith)
    (built (peeks (by (statement_as c) (ap start_of (word_kind w.While t e)) (nodes (live_word w.While t e) (put g (s.Statement c) (λ test. read 1 (s.Statement (loop c)) (λ body _. give (st.While test body))) _ (max (1 + i) 0) _ (reads (put g') gives))))))
put (q.first_none {t = t} e) = λ c x i rest z. (i, omega arith, peeks (first _ _ _ e (eats (live_mark m.Semicolon t e) z)))
put (q.first_expr {h = h} g e) = λ c x i rest z. (max (1 + h) i, omega arith, first_of_expr (opens_expr g) (into g) e z)
put (q.first_var {t = t} e (q.last_decl {t = n} {u = u} {units = units} en ea ec) es) = λ c x i rest z. (
  max 2 i,
  omega arith,
  peeks (second _ _ _ (word_no_mark w.Var m.Semicolon t e) (first _ _ _ e (eats (live_word w.Var t e) (peeks (by (λ o. name_by o for_var) en (eats (live_name n units en)
      (peeks (second _ _ _ (mark_no_word m.Semicolon w.In u es) (first _ _ _ es (nodes (live_mark m.Semicolon u es) z)))))))))),
)
put (q.first_var {t = t} e (q.next_decl {t = n} {u = u} {units = units} {h = h} en ec g) es) = λ c x i rest z. (
  max 2 (max (2 + h) i),
  omega arith,
  peeks (second _ _ _ (word_no_mark w.Var m.Semicolon t e) (first _ _ _ e (eats (live_word w.Var t e) (peeks (by (λ o. name_by o for_var) en (eats (live_name n units en)
      (peeks (second _ _ _ (mark_no_word m.Comma w.In u ec) (second _ _ _ (mark_no_mark m.Comma m.Semicolon u refl ec) (first _ _ _ ec (nodes (live_mark m.Comma u ec) (reads (put g (decl_of units None ∷ [])) (expects _ es z))))))))))))),
)
put (q.first_var {t = t} e (q.last_value {t = n} {u = u} {units = units} {h = h} en ea g ec) es) = λ c x i rest z. (
  max 2 (max (2 + h) i),
  omega arith,
  peeks (second _ _ _ (word_no_mark w.Var m.Semicolon t e) (first _ _ _ e (eats (live_word w.Var t e) (peeks (by (λ o. name_by o for_var) en (eats (live_name n units en)
      (peeks (second _ _ _ (mark_no_word m.Assign w.In u ea) (second _ _ _ (mark_no_mark m.Assign m.Semicolon u refl ea) (second _ _ _ (mark_no_mark m.Assign m.Comma u refl ea) (first _ _ _ ea (nodes (live_mark m.Assign u ea)
      (reads (into g) (peeks (second _ _ _ ec (expects _ es z)))))))))))))))),
)
put (q.first_var {t = t} e (q.value {t = n} {u = u} {v = v} {units = units} {a = a} {h = h} {i = j} en ea g ec g') es) = λ c x i rest z. (
  max 2 (max (2 + h) (max (2 + j) i)),
  omega arith,
  peeks (second _ _ _ (word_no_mark w.Var m.Semicolon t e) (first _ _ _ e (eats (live_word w.Var t e) (peeks (by (λ o. name_by o for_var) en (eats (live_name n units en)
      (peeks (second _ _ _ (mark_no_word m.Assign w.In u ea) (second _ _ _ (mark_no_mark m.Assign m.Semicolon u refl ea) (second _ _ _ (mark_no_mark m.Assign m.Comma u refl ea) (first _ _ _ ea (nodes (live_mark m.Assign u ea)
      (reads (into g) (peeks (first _ _ _ ec (eats (live_mark m.Comma v ec) (reads (put g' (decl_of units (Some a.expr) ∷ [])) (expects _ es z)))))))))))))))))),
)
put (q.nothing {mark = mk} {t = t} e) = λ n k x i rest f z. (i, omega arith, peeks (first _ _ _ e (eats (live_mark mk t e) z)))
put (q.something {mark = mk} {h = h} g e) = λ n k x i rest f z. (max (1 + h) i, omega arith, some_first mk k (opens_expr g) f (into g) e z)
put (q.for_loop {c = c} {rest = rest} {t = t} {start = o} {test = test} {step = step} {x = x} {h = h} {i = i} {j = j} {k = k} e e' g g1 g2 g3) =
    let c2 = put g2 (s.Statement c) (λ y. for_body o test y) (st.For o test step x) (max (1 + k) 0) rest (λ t o. o.0) (reads (put g3) gives) in
    let c1 = put g1 (s.Statement c) (λ y. for_step o y) (st.For o test step x) c2.0 rest (λ t o. o.3) c2.2 in
    let c0 = put g c (st.For o test step x) c1.0 rest c1.2 in
    table_at {h = max 1 c0.0} (let x0 : max 1 c0.0 ≡ max (1 + h) c1.0 = c0.1 in let x1 : max 1 c1.0 ≡ max (1 + i) c2.0 = c1.1 in let x2 : max 1 c2.0 ≡ max (1 + j) (max (1 + k) 0) = c2.1 in omega arith)
    (built (peeks (by (statement_as c) (ap start_of (word_kind w.For t e)) (nodes (live_word w.For t e) (expects _ e' c0.2)))))
put (q.for_in {c = c} {t = t} {h = h} {i = i} {j = j} e e' g z e2 g1 e3 g2) = table_at {h = max 1 (max (1 + h) (max (1 + i) (max (1 + j) 0)))} (omega arith)
    (built (peeks (by (statement_as c) (ap start_of (word_kind w.For t e)) (nodes (live_word w.For t e) (expects _ e' (first_of_target (opens_begun (begun_whole g)) (in_expr g e2) e2 z (reads (into g1) (expects _ e3 (reads (put g2) gives)))))))))
put (q.for_in_var {c = c} {t = t} {v = v} {n = n} {o = o} {units = units} {i = i} {j = j} e e1 e2 e3 e4 g e5 g1) = table_at {h = max 1 (max (1 + i) (max (1 + j) 0))} (omega arith)
    (built (peeks (by (statement_as c) (ap start_of (word_kind w.For t e)) (nodes (live_word w.For t e) (expects _ e1 (peeks (second _ _ _ (word_no_mark w.Var m.Semicolon v e2) (first _ _ _ e2 (eats (live_word w.Var v e2)
    (peeks (by (λ o. name_by o for_var) e3 (eats (live_name n units e3) (peeks (first _ _ _ e4 (eats (live_word w.In o e4) (reads (into g) (expects _ e5 (reads (put g1) gives))))))))))))))))))
put (q.continue {c = c} {t = t} e z l x) = built (peeks (by (statement_as c) (ap start_of (word_kind w.Continue t e)) (first _ _ _ z (nodes (live_word w.Continue t e) (peeks (second _ _ _ l (halted x)))))))
put (q.break {c = c} {t = t} e z l x) = built (peeks (by (statement_as c) (ap start_of (word_kind w.Break t e)) (first _ _ _ z (nodes (live_word w.Break t e) (peeks (second _ _ _ l (halted x)))))))
put (q.return_alone {c = c} {t = t} e z (semicolon_here {t = u} e1)) = built (peeks (by (statement_as c) (ap start_of (word_kind w.Return t e)) (first _ _ _ z (nodes (live_word w.Return t e) (peeks (first _ _ _ (closed u (and_left (is m.Semicolon u) (not u.after_newline) e1)) (halted (semicolon_here e1))))))))
put (q.return_alone {c = c} {t = t} e z (line_ends {t = u} e1 e2)) = built (peeks (by (statement_as c) (ap start_of (word_kind w.Return t e)) (first _ _ _ z (nodes (live_word w.Return t e) (peeks (first _ _ _ (closed_out u e2) (halted (line_ends e1 e2))))))))
put (q.return_value {c = c} {t = t} {u = u} {h = h} e z l g x) = let o = opens_expr g in let y = subst Opening (sym (same_head u o.0 _ o.1 o.2)) o.3 in table_at {h = max 1 (max (1 + h) 0)} (omega arith)
    (built (peeks (by (statement_as c) (ap start_of (word_kind w.Return t e)) (first _ _ _ z (nodes (live_word w.Return t e) (peeks (second _ _ _ (or_first (is m.Semicolon u) (closes u) y.3 l) (reads (into g) (ended x)))))))))
put (q.throw {c = c} {t = t} {h = h} e l g x) = table_at {h = max 1 (max (1 + h) 0)} (omega arith)
    (built (peeks (by (statement_as c) (ap start_of (word_kind w.Throw t e)) (nodes (live_word w.Throw t e) (peeks (second _ _ _ l (reads (into g) (ended x))))))))
put (q.a_switch {c = c} {t = t} {h = h} {i = i} e g e1 g1 e2) = table_at {h = max 1 (max (1 + h) (max (1 + i) 0))} (omega arith)
    (built (peeks (by (statement_as c) (ap start_of (word_kind w.Switch t e)) (nodes (live_word w.Switch t e) (put g (s.Statement c) (λ value. expect m.OpenBrace (read 1 (s.Clauses (switch c) false []) (λ all _. expect m.CloseBrace (give (st.Switch value all))))) _ (max (1 + i) 0) _
    (expects _ e1 (reads (put g1 []) (expects _ e2 gives))))))))
put (q.no_clause {c = c} {stood = stood} {t = t} e) = λ so_far. value_at (right_nil so_far) (built (peeks (second _ _ _ (mark_no_word m.CloseBrace w.Case t e) (second _ _ _ (and_false (is_word w.Default t) (not stood) (inl (mark_no_word m.CloseBrace w.Default t e))) (first _ _ _ e gives)))))
put (q.case {t = t} {a = a} {body = body} {all = all} {h = h} {i = i} {j = j} e g e1 g1 g2) = λ so_far. value_at (append_assoc so_far (case_of (Some a.expr) body ∷ []) all) (table_at {h = max (0 + h) (max (0 + i) (max (0 + j) 0))} (omega arith)
    (built (peeks (first _ _ _ e (eats (live_word w.Case t e) (reads (into g) (expects _ e1 (reads (put g1 []) (reads (put g2 (so_far ++ case_of (Some a.expr) body ∷ [])) gives)))))))))
put (q.default {t = t} {body = body} {all = all} {i = i} {j = j} e e1 g g1) = λ so_far. value_at (append_assoc so_far (case_of None body ∷ []) all) (table_at {h = max (0 + i) (max (0 + j) 0)} (omega arith)
    (built (peeks (second _ _ _ (word_no_word w.Default w.Case t refl e) (first _ _ _ (both_true (is_word w.Default t) (not false) e refl) (eats (live_word w.Default t e) (expects _ e1 (reads (put g []) (reads (put g1 (so_far ++ case_of None body ∷ [])) gives)))))))))
put (q.last {t = t} e g) = (t, _, refl, e, put g)
put (q.try_catch {c = c} {t = t} {u = u} {n = n} {units = units} {body = body} {caught = caught} {h = h} {i = i} e g e1 e2 e3 e4 g1 e5) = table_at {h = max 1 (max (1 + h) (max (1 + i) 0))} (omega arith)
    (built (peeks (by (statement_as c) (ap start_of (word_kind w.Try t e)) (nodes (live_word w.Try t e) (reads (put g) (peeks (first _ _ _ e1 (eats (live_word w.Catch u e1) (expects _ e2 (peeks (by (λ o. name_by o (catch_rule c body)) e3 (eats (live_name n units e3)
    (expects _ e4 (reads (put g1) (peeks (second _ _ _ e5 gives))))))))))))))))
put (q.try_both {c = c} {vs = vs} {rest = rest} {t = t} {u = u} {n = n} {units = units} {body = body} {caught = caught} {ended = ended} {h = h} {i = i} {j = j} e g e1 e2 e3 e4 g1 g2) = table_at {h = max 1 (max (1 + h) (max (1 + i) (max (1 + j) 0)))} (omega arith)
    (built (peeks (by (statement_as c) (ap start_of (word_kind w.Try t e)) (nodes (live_word w.Try t e) (reads (put g) (peeks (first _ _ _ e1 (eats (live_word w.Catch u e1) (expects _ e2 (peeks (by (λ o. name_by o (catch_rule c body)) e3 (eats (live_name n units e3)
    (expects _ e4 (reads (put g1) (finish c body (Some (catch_of units caught)) true ended vs rest j (put g2))))))))))))))))
put (q.try_finally {c = c} {us = us} {rest = rest} {t = t} {body = body} {ended = ended} {h = h} {j = j} e g g1) = table_at {h = max 1 (max (1 + h) (max (1 + j) 0))} (omega arith)
    (built (peeks (by (statement_as c) (ap start_of (word_kind w.Try t e)) (nodes (live_word w.Try t e) (reads (put g) (finish_try c body ended us rest j (put g1)))))))
