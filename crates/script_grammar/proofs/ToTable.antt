-- What the productions read, the table reads.
use Rattle.std.proofs.Common.{◌≡◌, ℕ, zero, suc, ◌+◌, max, ◌&&◌, not, Bool, true, false, Option, Some, None, List, [], ◌∷◌, ◌++◌, refl, ap, sym, ◌∙◌, subst, arith, ◌⊎◌, inl, inr, ◌≤◌, append_assoc}
use Rattle.js_lexer.specs.declared.Mark.{Mark}
use Rattle.js_lexer.specs.declared.Mark.TheVariants as m
use Rattle.js_lexer.specs.declared.Reserved.TheVariants as w
use Rattle.js_tree.specs.declared.BinaryOperator.{BinaryOperator}
use Rattle.js_tree.specs.declared.Expr as expr
use Rattle.script_grammar.specs.Exprs as made
use Rattle.js_tree.specs.declared.Key.{Key}
use Rattle.js_tree.specs.declared.Key.TheVariants as k
use Rattle.js_lexer.specs.declared.Token.{Token}
use Rattle.script_grammar.specs.declared.classes.Tail.{Tail}
use Rattle.script_grammar.specs.Words.{Units, is, is_word, infix_of, assign_of, prefix_of, prefixed, some_prefix, step_of, tail_of, head_of, name_of}
use Rattle.script_grammar.specs.declared.classes.Prefix.TheVariants as prefix
use Rattle.script_grammar.specs.declared.classes.Head.TheVariants as head
use Rattle.script_grammar.specs.declared.classes.Tail.TheVariants as tail
use Rattle.script_grammar.specs.declared.classes.Operand.{Operand}
use Rattle.script_grammar.specs.Rules.{Symbol, Value, Rule}
use Rattle.script_grammar.specs.Rules.{Symbol as s}
use Rattle.script_grammar.specs.Rules.Rule.{give, peek, eat, read}
use Rattle.js_tree.specs.Trees.{field_of}
use Rattle.js_tree.specs.Trees.{expr_level}
use Rattle.js_tree.specs.declared.ExprNode.TheOpen.{ExprNode-F}
use Rattle.js_lexer.specs.declared.Kind.{Kind}
use Rattle.script_grammar.specs.Grammar.{either, expect, more_by, assign_by, target, deleted_level, deleted_step, deleted_end, deleted_by, delete_operand, unary_by, postfix_by, with_suffixes, given_at, given_arguments, fixed, as_read, a_member, suffixes_by, new_after, plain, field_by, name_by, parameters, primary_by, go_on, function}
use Rattle.script_grammar.specs.Paths.{Path, Table}
use Rattle.script_grammar.specs.Paths.Path.{gives, peeks, eats, nodes, reads}
use Rattle.script_grammar.specs.Productions.{Part, Of, Reads, goes_on}
use Rattle.script_grammar.specs.Productions.{Part as p}
use Rattle.script_grammar.specs.Productions.{Reads as r}
use Rattle.script_grammar.proofs.Paths.{built}
use Rattle.script_grammar.proofs.FromTable.{Body, primary_no_member, new_no_member}
use Rattle.script_grammar.proofs.Tokens.{live_prefix, live_head, live_tail, live_step, live_assign, live_key, live_literal_key, live_name, live_infix, live_mark, live_word, head_no_prefix, new_no_prefix, head_no_new, assign_alone, no_infix, name_no_mark, Opening, opening_prefix, opening_head, opening_new, key_no_brace}

-- What is read of these tokens is what stands first in the operand of `delete`. It is one deeper, but a member as written that is all of it is not.
pub record Erased (ts : List Token) (v : Operand) (h : ℕ) (us : List Token) : Type 0 where
  pub deeper : ℕ
  pub most : deeper ≤ 1
  pub written : (base : expr.Expr) (key : Key) → v.target ≡ true → expr_level v.expr ≡ ExprNode-F.Member base key → deeper ≡ 0
  pub path : (x : Operand) (i : ℕ) (rest : List Token) → Table (s.Deleted v h) us x i rest → Path Table s.Unary (peek delete_operand) ts x (max (deeper + h) i) rest

-- what a part is in the table
abbrev pub Into : (n : Part) → List Token → Of n → ℕ → List Token → Type 0
Into (p.Expr no_in) ts v h rest = Table (s.Expr no_in) ts v h rest
Into (p.Commas no_in) ts v h us = (x : Operand) (i : ℕ) (rest : List Token) → Table (s.Commas no_in v h) us x i rest → Table (s.Expr no_in) ts x (max h i) rest
Into (p.Assign no_in) ts v h rest = Table (s.Assign no_in) ts v h rest
Into (p.Conditional no_in) ts v h rest = Table (s.Conditional no_in) ts v h rest
Into (p.Chain no_in zero) ts v h us = Unit {0}
Into (p.Chain no_in (suc level)) ts v h us = (x : Operand) (i : ℕ) (rest : List Token) → Table (s.More no_in (suc level) v h) us x i rest → Table (s.Binary no_in (suc level)) ts x (max h i) rest
Into (p.Binary no_in level) ts v h rest = Table (s.Binary no_in level) ts v h rest
Into p.Unary ts v h rest = Table s.Unary ts v h rest
Into p.Postfix ts v h rest = Table s.Postfix ts v h rest
Into (p.Stem calls) ts v h us = ((n : Symbol) (j : ℕ) (f : Operand → Rule n) (x : Value n) (i : ℕ) (rest : List Token)
    → Path Table n (read j (s.Suffixes calls v h) (λ y _. f y)) us x i rest → Path Table n (peek (with_suffixes j calls f)) ts x (max (j + h) i) rest) × Erased ts v h us
Into (p.Whole calls) ts v h us = (n : Symbol) (j : ℕ) (f : Operand → Rule n) (x : Value n) (i : ℕ) (rest : List Token)
    → Path Table n (f v) us x i rest → Path Table n (peek (with_suffixes j calls f)) ts x (max (j + h) i) rest
Into p.New ts v h rest = Table s.New ts v h rest
Into p.Given ts all h us = (n : Symbol) (k : ℕ) (rule : List expr.Expr → ℕ → Rule n) (x : Value n) (i : ℕ) (rest : List Token)
    → Path Table n (rule all h) us x i rest → (g : ℕ) × (max k g ≡ max (k + h) i) × Path Table n (given_at k rule) ts x g rest
Into p.Arguments ts all h rest = (so_far : List expr.Expr) → Table (s.Arguments so_far) ts (so_far ++ all) h rest
Into p.Items ts all h rest = (so_far : List expr.Expr) → Table (s.Items so_far) ts (so_far ++ all) h rest
Into p.Fields ts all h rest = (so_far : _) → Table (s.Fields so_far) ts (so_far ++ all) h rest
Into p.Names ts all h rest = (so_far : List Units) → Table (s.Names so_far) ts (so_far ++ all) h rest
Into p.Parameters ts all h us = (n : Symbol) (rule : List Units → Rule n) (x : Value n) (i : ℕ) (rest : List Token) → Path Table n (rule all) us x i rest → Path Table n (parameters rule) ts x i rest
Into p.Primary ts v h rest = Table s.Primary ts v h rest

-- ---- steps along a row

module _ {n : Symbol} where
  pub at : {r : Rule n} {ts rest : List Token} {v : Value n} {h i : ℕ} → h ≡ i → Path Table n r ts v h rest → Path Table n r ts v i rest
  at {r} {ts} {rest} {v} e x = subst (λ y. Path Table n r ts v y rest) e x

  pub table_at : {ts rest : List Token} {v : Value n} {h i : ℕ} → h ≡ i → Table n ts v h rest → Table n ts v i rest
  table_at {ts} {rest} {v} e x = subst (λ y. Table n ts v y rest) e x

  pub value_at : {ts rest : List Token} {v x : Value n} {h : ℕ} → v ≡ x → Table n ts v h rest → Table n ts x h rest
  value_at {ts} {rest} {h = h} e x = subst (λ y. Table n ts y h rest) e x

  pub first : (b : Bool) (r t : Rule n) {ts rest : List Token} {v : Value n} {h : ℕ} → b ≡ true → Path Table n r ts v h rest → Path Table n (either b r t) ts v h rest
  first b r t {ts} {rest} {v} {h} e x = subst (λ y. Path Table n (either y r t) ts v h rest) (sym e) x

  pub second : (b : Bool) (r t : Rule n) {ts rest : List Token} {v : Value n} {h : ℕ} → b ≡ false → Path Table n t ts v h rest → Path Table n (either b r t) ts v h rest
  second b r t {ts} {rest} {v} {h} e x = subst (λ y. Path Table n (either y r t) ts v h rest) (sym e) x

  pub expects : (mark : Mark) {r : Rule n} {t : Token} {ts rest : List Token} {v : Value n} {h : ℕ} → is mark t ≡ true → Path Table n r ts v h rest → Path Table n (expect mark r) (t ∷ ts) v h rest
  expects mark {r} {t} e x = peeks (first _ _ _ e (eats (live_mark mark t e) x))

  pub by : {A : Type 0} (f : A → Rule n) {x y : A} {ts rest : List Token} {v : Value n} {h : ℕ} → y ≡ x → Path Table n (f x) ts v h rest → Path Table n (f y) ts v h rest
  by f {x} {y} {ts} {rest} {v} {h} e z = subst (λ o. Path Table n (f o) ts v h rest) (sym e) z

-- ---- what begins an operand

-- The tokens begin with one that begins an operand, which is `new` or isn't.
abbrev pub Begun : Bool → List Token → Type 0
Begun b ts = (t : Token) × (us : List Token) × (ts ≡ t ∷ us) × (prefix_of t.kind ≡ prefix.Neither) × (is_word w.New t ≡ b) × Opening t

begun_head : (t : Token) (us : List Token) (x : _) → head_of t.kind ≡ x → (head.Neither ≡ x → ⊥) → Begun false (t ∷ us)
begun_head t us x q f = (t, us, refl, head_no_prefix t x q f, head_no_new t x q f, opening_head t x q f)

begun_primary : {ts rest : List Token} {v : Operand} {h : ℕ} → Reads Body p.Primary ts v h rest → Begun false ts
begun_primary (r.this {rest = us} {t = t} q) = begun_head t _ _ q (λ z. cc)
begun_primary (r.identifier {rest = us} {t = t} q) = begun_head t _ _ q (λ z. cc)
begun_primary (r.literal {rest = us} {t = t} q) = begun_head t _ _ q (λ z. cc)
begun_primary (r.parentheses {ts = us} {t = t} q g e) = begun_head t _ _ q (λ z. cc)
begun_primary (r.array_empty {t = t} q e) = begun_head t _ _ q (λ z. cc)
begun_primary (r.array {ts = us} {t = t} q g e) = begun_head t _ _ q (λ z. cc)
begun_primary (r.object_empty {t = t} q e) = begun_head t _ _ q (λ z. cc)
begun_primary (r.object {ts = us} {t = t} q g e) = begun_head t _ _ q (λ z. cc)
begun_primary (r.print {t = t} q e g) = begun_head t _ _ q (λ z. cc)
begun_primary (r.with_one {t = t} q e g e') = begun_head t _ _ q (λ z. cc)
begun_primary (r.with_none {t = t} q e e') = begun_head t _ _ q (λ z. cc)
begun_primary (r.function_alone {ts = us} {t = t} q g e b e') = begun_head t _ _ q (λ z. cc)
begun_primary (r.function_named {t = t} q e' g e b e'') = begun_head t _ _ q (λ z. cc)

begun_new : {ts rest : List Token} {v : Operand} {h : ℕ} → Reads Body p.New ts v h rest → Begun true ts
begun_new (r.new_with {ts = us} {t = t} q g e g') = (t, us, refl, new_no_prefix t q, q, opening_new t q)
begun_new (r.new_alone {ts = us} {t = t} q g e) = (t, us, refl, new_no_prefix t q, q, opening_new t q)

begun_stem : {calls : Bool} {ts rest : List Token} {v : Operand} {h : ℕ} → Reads Body (p.Stem calls) ts v h rest → (b : Bool) × Begun b ts
begun_stem (r.primary g) = (false, begun_primary g)
begun_stem (r.new g) = (true, begun_new g)
begun_stem (r.computed g e g' e') = begun_stem g
begun_stem (r.fixed g e e') = begun_stem g
begun_stem (r.call g e g') = begun_stem g

pub begun_whole : {calls : Bool} {ts rest : List Token} {v : Operand} {h : ℕ} → Reads Body (p.Whole calls) ts v h rest → (b : Bool) × Begun b ts
begun_whole (r.left g e) = begun_stem g

begun_postfix : {ts rest : List Token} {v : Operand} {h : ℕ} → Reads Body p.Postfix ts v h rest → (b : Bool) × Begun b ts
begun_postfix (r.step g e e' e'') = begun_whole g
begun_postfix (r.no_step g e) = begun_whole g

-- what begins an expression
abbrev pub Opens : List Token → Type 0
Opens ts = (t : Token) × (us : List Token) × (ts ≡ t ∷ us) × Opening t

pub opens_begun : {ts : List Token} → (b : Bool) × Begun b ts → Opens ts
opens_begun x = (x.1.0, x.1.1, x.1.2, x.1.5)

opens_unary : {ts rest : List Token} {v : Operand} {h : ℕ} → Reads Body p.Unary ts v h rest → Opens ts
opens_unary (r.delete {ts = us} {t = t} q g e e1) = (t, us, refl, opening_prefix t _ q (λ z. cc))
opens_unary (r.void {ts = us} {t = t} q g) = (t, us, refl, opening_prefix t _ q (λ z. cc))
opens_unary (r.typeof {ts = us} {t = t} q g) = (t, us, refl, opening_prefix t _ q (λ z. cc))
opens_unary (r.signed {ts = us} {t = t} q g) = (t, us, refl, opening_prefix t _ q (λ z. cc))
opens_unary (r.update {ts = us} {t = t} q g e) = (t, us, refl, opening_prefix t _ q (λ z. cc))
opens_unary (r.postfix g) = opens_begun (begun_postfix g)

opens_chain : {no_in : Bool} (level : ℕ) {ts rest : List Token} {v : Operand} {h : ℕ} → ((us vs : List Token) (x : Operand) (i : ℕ) → Reads Body (p.Binary no_in level) us x i vs → Opens us)
    → Reads Body (p.Chain no_in (suc level)) ts v h rest → Opens ts
opens_chain level f (r.operand g) = f _ _ _ _ g
opens_chain level f (r.operator g e g') = opens_chain level f g

opens_binary : {no_in : Bool} (level : ℕ) {ts rest : List Token} {v : Operand} {h : ℕ} → Reads Body (p.Binary no_in level) ts v h rest → Opens ts
opens_binary zero (r.unary g) = opens_unary g
opens_binary (suc level) (r.binary g e) = opens_chain level (λ us vs x i g. opens_binary level g) g

pub opens_assign : {no_in : Bool} {ts rest : List Token} {v : Operand} {h : ℕ} → Reads Body (p.Assign no_in) ts v h rest → Opens ts
opens_assign (r.assign g q e g') = opens_begun (begun_whole g)
opens_assign (r.unassigned (r.conditional g e g' e' g'') q) = opens_binary 10 g
opens_assign (r.unassigned (r.unconditional g e) q) = opens_binary 10 g

opens_arguments : {ts rest : List Token} {v : List expr.Expr} {h : ℕ} → Reads Body p.Arguments ts v h rest → Opens ts
opens_arguments (r.last_argument g e) = opens_assign g
opens_arguments (r.argument g e g') = opens_assign g

opens_items : {ts rest : List Token} {v : List expr.Expr} {h : ℕ} → Reads Body p.Items ts v h rest → Opens ts
opens_items (r.last_item g e) = opens_assign g
opens_items (r.last_item_comma g e e') = opens_assign g
opens_items (r.item g e g') = opens_assign g

-- a postfix expression is a unary one
pub as_unary : (b : Bool) {ts rest : List Token} {v : Operand} {h : ℕ} → Begun b ts → Table s.Postfix ts v h rest → Table s.Unary ts v h rest
as_unary b {ts} {rest} {v} {h} x g = subst (λ y. Table s.Unary y v h rest) (sym x.2)
    (built (peeks (by unary_by x.3 (at {h = max (0 + h) 0} (omega arith) (reads (subst (λ y. Table s.Postfix y v h rest) x.2 g) gives)))))

-- ---- a target before an operator of assignment

pub as_left : {ts us : List Token} {v : Operand} {h : ℕ} → Into (p.Whole true) ts v h us → Table s.Left ts v h us
as_left {ts} {us} {v} {h} g = table_at {h = max (0 + h) 0} (omega arith) (built (g s.Left 0 (λ x. give x) v 0 us gives))

pub as_postfix : {ts us : List Token} {t : Token} {v : Operand} {h : ℕ} → Table s.Left ts v h (t ∷ us) → (target v && not t.after_newline ≡ false) ⊎ (step_of t.kind ≡ None) → Table s.Postfix ts v h (t ∷ us)
as_postfix {ts} {us} {t} {v} {h} g (inl e) = table_at {h = max (0 + h) 0} (omega arith) (built (reads g (peeks (second _ _ _ e gives))))
as_postfix {ts} {us} {t} {v} {h} g (inr e) = table_at {h = max (0 + h) 0} (omega arith) (built (reads g (peeks (go (target v && not t.after_newline)))))
  where
    go : (b : Bool) → Path Table s.Postfix (either b (postfix_by v h (step_of t.kind)) (give v)) (t ∷ us) v 0 (t ∷ us)
    go true = by (postfix_by v h) e gives
    go false = gives

as_binary : (no_in : Bool) (level : ℕ) {ts us : List Token} {t : Token} {v : Operand} {h : ℕ} → infix_of t.kind ≡ None → Table s.Unary ts v h (t ∷ us) → Table (s.Binary no_in level) ts v h (t ∷ us)
as_binary no_in zero {h = h} e g = table_at {h = max (0 + h) 0} (omega arith) (built (reads g gives))
as_binary no_in (suc level) {t = t} {v = v} {h = h} e g = table_at {h = max (0 + h) (max (0 + 0) 0)} (omega arith)
    (built (reads (as_binary no_in level e g) (reads (built (peeks (by (more_by no_in (suc level) v h) (no_infix no_in (suc level) t e) gives))) gives)))

pub as_conditional : (no_in : Bool) {ts us : List Token} {t : Token} {v : Operand} {h : ℕ} → is m.Question t ≡ false → Table (s.Binary no_in 10) ts v h (t ∷ us) → Table (s.Conditional no_in) ts v h (t ∷ us)
as_conditional no_in {h = h} e g = table_at {h = max (0 + h) 0} (omega arith) (built (reads g (peeks (second _ _ _ e gives))))

not_assigned : (no_in : Bool) (us : List Token) (t : Token) (v : Operand) (h : ℕ) → (target v ≡ false) ⊎ (assign_of t.kind ≡ None)
    → Path Table (s.Assign no_in) (assign_by v h (assign_of t.kind)) (t ∷ us) v 0 (t ∷ us)
not_assigned no_in us t v h (inr e) = by (assign_by v h) e gives
not_assigned no_in us t v h (inl e) = go (assign_of t.kind)
  where
    go : (o : Option (Option BinaryOperator)) → Path Table (s.Assign no_in) (assign_by v h o) (t ∷ us) v 0 (t ∷ us)
    go (Some op) = second _ _ _ e gives
    go None = gives

-- what doesn't go on after an operand
stops : (calls : Bool) (t : Token) (us : List Token) (v : Operand) (h : ℕ) (o : Tail) → goes_on calls o ≡ false
    → Path Table (s.Suffixes calls v h) (suffixes_by calls v h o) (t ∷ us) v 0 (t ∷ us)
stops calls t us v h tail.Computed e = absurd (let z : true ≡ false = e in cc)
stops calls t us v h tail.Fixed e = absurd (let z : true ≡ false = e in cc)
stops calls t us v h tail.Call e = second _ _ _ e gives
stops calls t us v h tail.Neither e = gives

more_height : {no_in : Bool} {level : ℕ} {ts rest : List Token} {v x : Operand} {h i j : ℕ} → h ≡ i → Table (s.More no_in level v h) ts x j rest → Table (s.More no_in level v i) ts x j rest
more_height {no_in} {level} {ts} {rest} {v} {x} {j = j} e g = subst (λ y. Table (s.More no_in level v y) ts x j rest) e g

commas_height : {no_in : Bool} {ts rest : List Token} {v x : Operand} {h i j : ℕ} → h ≡ i → Table (s.Commas no_in v h) ts x j rest → Table (s.Commas no_in v i) ts x j rest
commas_height {no_in} {ts} {rest} {v} {x} {j = j} e g = subst (λ y. Table (s.Commas no_in v y) ts x j rest) e g

suffixes_height : {calls : Bool} {ts rest : List Token} {v x : Operand} {h i j : ℕ} → h ≡ i → Table (s.Suffixes calls v h) ts x j rest → Table (s.Suffixes calls v i) ts x j rest
suffixes_height {calls} {ts} {rest} {v} {x} {j = j} e g = subst (λ y. Table (s.Suffixes calls v y) ts x j rest) e g

-- one more step after an operand
grow : {n : Symbol} {j : ℕ} {calls : Bool} {f : Operand → Rule n} {a b : Operand} (h k : ℕ) {us ts rest : List Token} {x : Value n} {l : ℕ}
    → ((y : Operand) (i : ℕ) (vs : List Token) → Table (s.Suffixes calls b k) ts y i vs → Table (s.Suffixes calls a h) us y (max k i) vs)
    → Path Table n (read j (s.Suffixes calls b k) (λ y _. f y)) ts x l rest → Path Table n (read j (s.Suffixes calls a h) (λ y _. f y)) us x (max (j + k) l) rest
grow {j = j} h k step (reads {us = vs} {w = y} {i = i} {h = g} t p) = at {h = max (j + max k i) g} (omega arith) (reads (step y i vs t) p)

stem_primary : {n : Symbol} {j : ℕ} {calls : Bool} {f : Operand → Rule n} {ts us rest : List Token} {a : Operand} {h i : ℕ} {x : Value n} → Begun false ts → Table s.Primary ts a h us
    → Path Table n (read j (s.Suffixes calls a h) (λ y _. f y)) us x i rest → Path Table n (peek (with_suffixes j calls f)) ts x (max (j + h) i) rest
stem_primary {n} {j} {calls} {f} {ts} {us} {rest} {a} {h} {i} {x} b g q = subst (λ y. Path Table n (peek (with_suffixes j calls f)) y x (max (j + h) i) rest) (sym b.2)
    (peeks (second _ _ _ b.4 (reads (subst (λ y. Table s.Primary y a h us) b.2 g) q)))

stem_new : {n : Symbol} {j : ℕ} {calls : Bool} {f : Operand → Rule n} {ts us rest : List Token} {a : Operand} {h i : ℕ} {x : Value n} → Begun true ts → Table s.New ts a h us
    → Path Table n (read j (s.Suffixes calls a h) (λ y _. f y)) us x i rest → Path Table n (peek (with_suffixes j calls f)) ts x (max (j + h) i) rest
stem_new {n} {j} {calls} {f} {ts} {us} {rest} {a} {h} {i} {x} b g q = subst (λ y. Path Table n (peek (with_suffixes j calls f)) y x (max (j + h) i) rest) (sym b.2)
    (peeks (first _ _ _ b.4 (reads (subst (λ y. Table s.New y a h us) b.2 g) q)))

given_some : {n : Symbol} (k : ℕ) (rule : List expr.Expr → ℕ → Rule n) {ts us rest : List Token} {t : Token} {all : List expr.Expr} {h i : ℕ} {x : Value n} → Opens ts → Table (s.Arguments []) ts all h (t ∷ us)
    → is m.CloseParen t ≡ true → Path Table n (rule all h) us x i rest → Path Table n (given_at k rule) ts x (max (k + h) i) rest
given_some {n} k rule {ts} {us} {rest} {t} {all} {h} {i} {x} o g q p = subst (λ y. Path Table n (given_at k rule) y x (max (k + h) i) rest) (sym o.2)
    (peeks (second _ _ _ o.3.0 (reads (subst (λ y. Table (s.Arguments []) y all h (t ∷ us)) o.2 g) (expects _ q p))))

-- ---- the operand of `delete`

not_prefixed : (k : Kind) → prefix_of k ≡ prefix.Neither → prefixed k ≡ false
unfolding prefixed
not_prefixed k e = ap some_prefix e

erased_primary : {ts us : List Token} {a : Operand} {h : ℕ} → Begun false ts → Table s.Primary ts a h us → ((base : expr.Expr) (key : Key) → a.target ≡ true → expr_level a.expr ≡ ExprNode-F.Member base key → ⊥) → Erased ts a h us
erased_primary {ts} {us} {a} {h} b g never = record {
  deeper = 1;
  most = omega arith;
  written = λ base key y z. absurd (never base key y z);
  path = λ x i rest t. subst (λ y. Path Table s.Unary (peek delete_operand) y x (max (1 + h) i) rest) (sym b.2) (at {h = max (1 + h) (max (0 + i) 0)} (omega arith)
      (peeks (second _ _ _ (not_prefixed b.0.kind b.3) (second _ _ _ b.4 (reads (subst (λ y. Table s.Primary y a h us) b.2 g) (reads t gives))))));
}

erased_new : {ts us : List Token} {a : Operand} {h : ℕ} → Begun true ts → Table s.New ts a h us → ((base : expr.Expr) (key : Key) → a.target ≡ true → expr_level a.expr ≡ ExprNode-F.Member base key → ⊥) → Erased ts a h us
erased_new {ts} {us} {a} {h} b g never = record {
  deeper = 1;
  most = omega arith;
  written = λ base key y z. absurd (never base key y z);
  path = λ x i rest t. subst (λ y. Path Table s.Unary (peek delete_operand) y x (max (1 + h) i) rest) (sym b.2) (at {h = max (1 + h) (max (0 + i) 0)} (omega arith)
      (peeks (second _ _ _ (not_prefixed b.0.kind b.3) (first _ _ _ b.4 (reads (subst (λ y. Table s.New y a h us) b.2 g) (reads t gives))))));
}

-- one more step, after which a member stands, or a call
erased_member : {ts us ws : List Token} {a b : Operand} {h i : ℕ} (k : ℕ) → (start : Erased ts a h us) → ((j : ℕ) → max (start.deeper + h) (max k j) ≡ max (0 + i) j)
    → ((y : Operand) (l : ℕ) (vs : List Token) → Table (s.Deleted b i) ws y l vs → Table (s.Deleted a h) us y (max k l) vs) → Erased ts b i ws
erased_member {i = i} k x e step = record {
  deeper = 0;
  most = omega arith;
  written = λ base key y z. refl;
  path = λ y l vs t. at (e l) (x.path y (max k l) vs (step y l vs t));
}

erased_call : {ts us ws : List Token} {a b : Operand} {h i : ℕ} (k : ℕ) → (start : Erased ts a h us) → b.target ≡ false → ((j : ℕ) → max (start.deeper + h) (max k j) ≡ max (1 + i) j)
    → ((y : Operand) (l : ℕ) (vs : List Token) → Table (s.Deleted b i) ws y l vs → Table (s.Deleted a h) us y (max k l) vs) → Erased ts b i ws
erased_call {i = i} k x n e step = record {
  deeper = 1;
  most = omega arith;
  written = λ base key y z. absurd (let q : false ≡ true = sym n ∙ y in cc);
  path = λ y l vs t. at (e l) (x.path y (max k l) vs (step y l vs t));
}

deleted_height : {ts rest : List Token} {v x : Operand} {h i j : ℕ} → h ≡ i → Table (s.Deleted v h) ts x j rest → Table (s.Deleted v i) ts x j rest
deleted_height {ts} {rest} {v} {x} {j = j} e g = subst (λ y. Table (s.Deleted v y) ts x j rest) e g

-- a member as written that is all of the operand
deleted_stops : {us : List Token} {u : Token} {a : Operand} {h : ℕ} {base : expr.Expr} {key : Key} (o : Tail) → goes_on true o ≡ false → (target a && not u.after_newline ≡ false) ⊎ (step_of u.kind ≡ None)
    → a.target ≡ true → expr_level a.expr ≡ ExprNode-F.Member base key → Path Table (s.Deleted a h) (deleted_by a h u o) (u ∷ us) (plain (made.Delete base key)) 0 (u ∷ us)
deleted_stops tail.Computed e n y q = absurd (let z : true ≡ false = e in cc)
deleted_stops tail.Fixed e n y q = absurd (let z : true ≡ false = e in cc)
deleted_stops tail.Call e n y q = absurd (let z : true ≡ false = e in cc)
deleted_stops {us} {u} {a} {h} {base} {key} tail.Neither e n y q = elim n [
  | inl f ↦ second _ _ _ f whole
  | inr f ↦ go (target a && not u.after_newline) f
]
  where
    whole : Path Table (s.Deleted a h) (deleted_level a.target (expr_level a.expr)) (u ∷ us) (plain (made.Delete base key)) 0 (u ∷ us)
    whole = by (λ x. deleted_level x (expr_level a.expr)) y (by (λ x. deleted_level true x) q gives)

    go : (b : Bool) → step_of u.kind ≡ None → Path Table (s.Deleted a h) (either b (deleted_step a h (step_of u.kind)) (deleted_level a.target (expr_level a.expr))) (u ∷ us) (plain (made.Delete base key)) 0 (u ∷ us)
    go true f = by (deleted_step a h) f whole
    go false f = whole

item_first : (so_far : List expr.Expr) {ts us rest : List Token} {a : Operand} {h i : ℕ} {x : List expr.Expr} → Opens ts → Table (s.Assign false) ts a h us
    → Path Table (s.Items so_far) (go_on (peek (λ u. either (is m.CloseBracket u) (give (so_far ++ a.expr ∷ [])) (as_read (s.Items (so_far ++ a.expr ∷ [])) (λ all. all)))) (give (so_far ++ a.expr ∷ []))) us x i rest
    → Table (s.Items so_far) ts x (max (0 + h) i) rest
item_first so_far {ts} {us} {rest} {a} {h} {i} {x} o g p = subst (λ y. Table (s.Items so_far) y x (max (0 + h) i) rest) (sym o.2)
    (built (peeks (second _ _ _ o.3.2 (reads (subst (λ y. Table (s.Assign false) y a h us) o.2 g) p))))

item_next : (so_far : List expr.Expr) (a : Operand) {ts rest : List Token} {h : ℕ} {x : List expr.Expr} → Opens ts → Table (s.Items (so_far ++ a.expr ∷ [])) ts x h rest
    → Path Table (s.Items so_far) (peek (λ u. either (is m.CloseBracket u) (give (so_far ++ a.expr ∷ [])) (as_read (s.Items (so_far ++ a.expr ∷ [])) (λ all. all)))) ts x (max (0 + h) 0) rest
item_next so_far a {ts} {rest} {h} {x} o g = subst (λ y. Path Table (s.Items so_far) (peek (λ u. either (is m.CloseBracket u) (give (so_far ++ a.expr ∷ [])) (as_read (s.Items (so_far ++ a.expr ∷ [])) (λ all. all)))) y x (max (0 + h) 0) rest) (sym o.2)
    (peeks (second _ _ _ o.3.1 (reads (subst (λ y. Table (s.Items (so_far ++ a.expr ∷ [])) y x h rest) o.2 g) gives)))

array_first : {ts us : List Token} {u : Token} {all : List expr.Expr} {h : ℕ} → Opens ts → Table (s.Items []) ts all h (u ∷ us) → is m.CloseBracket u ≡ true
    → Path Table s.Primary (peek (λ t. either (is m.CloseBracket t) (eat (give (plain (made.Array [])))) (read 1 (s.Items []) (λ all _. expect m.CloseBracket (give (plain (made.Array all))))))) ts (plain (made.Array all)) (max (1 + h) 0) us
array_first {ts} {us} {u} {all} {h} o g e = subst (λ y. Path Table s.Primary (peek (λ t. either (is m.CloseBracket t) (eat (give (plain (made.Array [])))) (read 1 (s.Items []) (λ all _. expect m.CloseBracket (give (plain (made.Array all))))))) y (plain (made.Array all)) (max (1 + h) 0) us) (sym o.2)
    (peeks (second _ _ _ o.3.1 (reads (subst (λ y. Table (s.Items []) y all h (u ∷ us)) o.2 g) (expects _ e gives))))

-- the tokens begin with one that isn't this
abbrev Not : Mark → List Token → Type 0
Not mark ts = (t : Token) × (us : List Token) × (ts ≡ t ∷ us) × (is mark t ≡ false)

opens_fields : {ts rest : List Token} {v : _} {h : ℕ} → Reads Body p.Fields ts v h rest → Not m.CloseBrace ts
opens_fields (r.last_field {t = t} q q' g q'') = (t, _, refl, key_no_brace t _ q)
opens_fields (r.next_field {t = t} q q' g q'' g') = (t, _, refl, key_no_brace t _ q)

object_first : {ts us : List Token} {u : Token} {all : _} {h : ℕ} → Not m.CloseBrace ts → Table (s.Fields []) ts all h (u ∷ us) → is m.CloseBrace u ≡ true
    → Path Table s.Primary (peek (λ t. either (is m.CloseBrace t) (eat (give (plain (made.Object [])))) (read 1 (s.Fields []) (λ all _. expect m.CloseBrace (give (plain (made.Object all))))))) ts (plain (made.Object all)) (max (1 + h) 0) us
object_first {ts} {us} {u} {all} {h} o g e = subst (λ y. Path Table s.Primary (peek (λ t. either (is m.CloseBrace t) (eat (give (plain (made.Object [])))) (read 1 (s.Fields []) (λ all _. expect m.CloseBrace (give (plain (made.Object all))))))) y (plain (made.Object all)) (max (1 + h) 0) us) (sym o.2)
    (peeks (second _ _ _ o.3 (reads (subst (λ y. Table (s.Fields []) y all h (u ∷ us)) o.2 g) (expects _ e gives))))

opens_names : {ts rest : List Token} {v : List Units} {h : ℕ} → Reads Body p.Names ts v h rest → Not m.CloseParen ts
opens_names (r.last_name {t = t} {units = units} q e) = (t, _, refl, name_no_mark m.CloseParen t units q)
opens_names (r.name {t = t} {units = units} q e g) = (t, _, refl, name_no_mark m.CloseParen t units q)

names_first : {n : Symbol} (rule : List Units → Rule n) {ts us rest : List Token} {u : Token} {all : List Units} {i : ℕ} {x : Value n} → Not m.CloseParen ts → Table (s.Names []) ts all 0 (u ∷ us) → is m.CloseParen u ≡ true
    → Path Table n (rule all) us x i rest
    → Path Table n (peek (λ t. either (is m.CloseParen t) (eat (rule [])) (read 0 (s.Names []) (λ names _. expect m.CloseParen (rule names))))) ts x i rest
names_first {n} rule {ts} {us} {rest} {u} {all} {i} {x} o g e p = subst (λ y. Path Table n (peek (λ t. either (is m.CloseParen t) (eat (rule [])) (read 0 (s.Names []) (λ names _. expect m.CloseParen (rule names))))) y x i rest) (sym o.2)
    (peeks (second _ _ _ o.3 (at {h = max (0 + 0) i} (omega arith) (reads (subst (λ y. Table (s.Names []) y all 0 (u ∷ us)) o.2 g) (expects _ e p)))))

abbrev Is : Mark → List Token → Type 0
Is mark ts = (t : Token) × (us : List Token) × (ts ≡ t ∷ us) × (is mark t ≡ true)

opens_parameters : {ts rest : List Token} {v : List Units} {h : ℕ} → Reads Body p.Parameters ts v h rest → Is m.OpenParen ts
opens_parameters (r.no_parameters {t = t} q q') = (t, _, refl, q)
opens_parameters (r.parameters {t = t} q g q') = (t, _, refl, q)

function_first : {n : Symbol} (f : Token → Rule n) {g : Rule n} {ts rest : List Token} {x : Value n} {i : ℕ} → Is m.OpenParen ts → Path Table n g ts x i rest → Path Table n (peek (λ t. either (is m.OpenParen t) g (f t))) ts x i rest
function_first {n} f {g} {ts} {rest} {x} {i} o z = subst (λ y. Path Table n (peek (λ t. either (is m.OpenParen t) g (f t))) y x i rest) (sym o.2) (peeks (first _ _ _ o.3 (subst (λ y. Path Table n g y x i rest) o.2 z)))

abbrev names_rule : (so_far : List Units) → Units → Rule (s.Names so_far)
names_rule so_far units = go_on (as_read (s.Names (so_far ++ units ∷ [])) (λ v. v)) (give (so_far ++ units ∷ []))

abbrev function_rule : Option Units → List Units → Rule s.Primary
function_rule o names = expect m.OpenBrace (read 1 (s.Elements true [] []) (λ body _. expect m.CloseBrace (give (plain (made.Function o names body)))))

abbrev named_rule : Units → Rule s.Primary
named_rule units = function (λ names body. give (plain (made.Function (Some units) names body)))

abbrev fixed_rule : (calls : Bool) (a : Operand) (h : ℕ) → Units → Rule (s.Suffixes calls a h)
fixed_rule calls a h key = as_read (s.Suffixes calls (a_member a.expr (k.Fixed key)) (h + 1)) (λ v. v)

abbrev deleted_fixed_rule : (a : Operand) (h : ℕ) → Units → Rule (s.Deleted a h)
deleted_fixed_rule a h key = as_read (s.Deleted (a_member a.expr (k.Fixed key)) (h + 1)) (λ v. v)

pub into : {n : Part} {ts rest : List Token} {v : Of n} {h : ℕ} → Reads Body n ts v h rest → Into n ts v h rest
into (r.first {h = h} g) = λ x i rest t. table_at {h = max (0 + h) (max (0 + i) 0)} (omega arith) (built (reads (into g) (reads t gives)))
into (r.comma {t = c} {h = h} {i = j} g e g') = λ x i rest t. table_at {h = max h (max (h + 1) (max (1 + j) (max (0 + i) 0)))} (omega arith)
    (into g x (max (h + 1) (max (1 + j) (max (0 + i) 0))) rest (built (peeks (first _ _ _ e (nodes (live_mark m.Comma c e) (reads (into g') (reads (commas_height {h = 1 + max h j} (omega arith) t) gives)))))))
into (r.all_commas {us = us} {t = t} {a = a} {h = h} g e) = table_at {h = max h 0} (omega arith) (into g a 0 (t ∷ us) (built (peeks (second _ _ _ e gives))))
into (r.assign {no_in = no_in} {t = t} {a = a} {h = h} {i = i} {op = op} g e q g') = let lone = assign_alone t op q in
    table_at {h = max (0 + h) (max (h + 1) (max (1 + i) 0))} (omega arith) (built (reads
    (as_conditional no_in lone.2 (as_binary no_in 10 lone.0 (as_unary _ (begun_whole g).1 (as_postfix (as_left (into g)) (inr lone.1)))))
    (peeks (by (assign_by a h) q (first _ _ _ e (nodes (live_assign t op q) (reads (into g') gives)))))))
into (r.unassigned {h = h} g e) = table_at {h = max (0 + h) 0} (omega arith) (built (reads (into g) (peeks (not_assigned _ _ _ _ _ e))))
into (r.conditional {t = t} {h = h} {i = i} {j = j} g e g' e' g'') = table_at {h = max (0 + h) (max (h + 1) (max (1 + i) (max (1 + j) 0)))} (omega arith)
    (built (reads (into g) (peeks (first _ _ _ e (nodes (live_mark m.Question t e) (reads (into g') (expects _ e' (reads (into g'') gives))))))))
into (r.unconditional {no_in = no_in} g e) = as_conditional no_in e (into g)
into (r.operand {h = h} g) = λ x i rest t. table_at {h = max (0 + h) (max (0 + i) 0)} (omega arith) (built (reads (into g) (reads t gives)))
into (r.operator {no_in = no_in} {level = level} {t = c} {a = a} {h = h} {i = j} {op = op} g e g') = λ x i rest t. table_at {h = max h (max (h + 1) (max (1 + j) (max (0 + i) 0)))} (omega arith)
    (into g x (max (h + 1) (max (1 + j) (max (0 + i) 0))) rest (built (peeks (by (more_by no_in (suc level) a h) e (nodes (live_infix no_in (suc level) c op e) (reads (into g') (reads (more_height {h = 1 + max h j} (omega arith) t) gives)))))))
into (r.binary {no_in = no_in} {level = level} {us = us} {t = t} {a = a} {h = h} g e) = table_at {h = max h 0} (omega arith) (into g a 0 (t ∷ us) (built (peeks (by (more_by no_in (suc level) a h) e gives))))
into (r.unary {h = h} g) = table_at {h = max (0 + h) 0} (omega arith) (built (reads (into g) gives))
into (r.delete {t = t} {base = base} {key = key} e (r.postfix (r.no_step (r.left {us = us} {t = u} {a = a} {h = h} g e') n)) y q) = let x = (into g).1 in
    table_at {h = max 1 (max (x.deeper + h) 0)} (let z : x.deeper ≡ 0 = x.written base key y q in omega arith)
    (built (peeks (by unary_by e (nodes (live_prefix t _ e (λ z. cc)) (x.path (plain (made.Delete base key)) 0 (u ∷ us) (built (peeks (deleted_stops (tail_of u.kind) e' n y q))))))))
into (r.delete e (r.postfix (r.step g e1 e2 e3)) y q) = absurd (let z : false ≡ true = y in cc)
into (r.delete e (r.delete e1 g e2 e3) y q) = absurd (let z : false ≡ true = y in cc)
into (r.delete e (r.void e1 g) y q) = absurd (let z : false ≡ true = y in cc)
into (r.delete e (r.typeof e1 g) y q) = absurd (let z : false ≡ true = y in cc)
into (r.delete e (r.signed e1 g) y q) = absurd (let z : false ≡ true = y in cc)
into (r.delete e (r.update e1 g e2) y q) = absurd (let z : false ≡ true = y in cc)
into (r.void {t = t} {h = h} e g) = table_at {h = max 1 (max (1 + h) 0)} (omega arith) (built (peeks (by unary_by e (nodes (live_prefix t _ e (λ z. cc)) (reads (into g) gives)))))
into (r.typeof {t = t} {h = h} e g) = table_at {h = max 1 (max (1 + h) 0)} (omega arith) (built (peeks (by unary_by e (nodes (live_prefix t _ e (λ z. cc)) (reads (into g) gives)))))
into (r.signed {t = t} {h = h} e g) = table_at {h = max 1 (max (1 + h) 0)} (omega arith) (built (peeks (by unary_by e (nodes (live_prefix t _ e (λ z. cc)) (reads (into g) gives)))))
into (r.update {t = t} {h = h} e g q) = table_at {h = max 1 (max (1 + h) 0)} (omega arith) (built (peeks (by unary_by e (nodes (live_prefix t _ e (λ z. cc)) (reads (as_left (into g)) (first _ _ _ q gives))))))
into (r.postfix g) = as_unary _ (begun_postfix g).1 (into g)
into (r.step {t = t} {a = a} {h = h} {step = step} g e e' e'') = table_at {h = max (0 + h) (max (h + 1) 0)} (omega arith)
    (built (reads (as_left (into g)) (peeks (first _ _ _ (both (target a) t.after_newline e e') (by (postfix_by a h) e'' (nodes (live_step t step e'') gives))))))
  where
    both : (a b : Bool) → a ≡ true → b ≡ false → a && not b ≡ true
    both a b e f = ap (λ x. x && not b) e ∙ ap not f
into (r.no_step g e) = as_postfix (as_left (into g)) e
into (r.primary {ts = ts} {rest = us} {a = a} {h = h} g) = (λ n j f x i rest q. stem_primary (begun_primary g) (into g) q, erased_primary (begun_primary g) (into g) (primary_no_member g))
into (r.new {ts = ts} {rest = us} {a = a} {h = h} g) = (λ n j f x i rest q. stem_new (begun_new g) (into g) q, erased_new (begun_new g) (into g) (new_no_member g))
into (r.computed {calls = calls} {t = t} {a = a} {h = h} {i = k} g e g' e') = (
  λ n j f x i rest q. at {h = max (j + h) (max (j + (1 + max h k)) i)} (omega arith)
      ((into g).0 n j f x (max (j + (1 + max h k)) i) rest (grow h (1 + max h k) (λ y l vs z. table_at {h = max (h + 1) (max (1 + k) (max (0 + l) 0))} (omega arith)
      (built (peeks (by (suffixes_by calls a h) e (nodes (live_tail t _ e (λ z. cc)) (reads (into g') (expects _ e' (reads (suffixes_height (let w : 1 + max h k ≡ max (h + 1) (k + 1) = omega arith in w) z) gives)))))))) q)),
  (let start = (into g).1 in let l : start.deeper ≤ 1 = start.most in erased_member {i = 1 + max h k} (max (h + 1) (1 + k)) start (λ j. omega arith) (λ y l vs z. table_at {h = max (h + 1) (max (1 + k) (max (0 + l) 0))} (omega arith)
      (built (peeks (by (deleted_by a h t) e (nodes (live_tail t _ e (λ z. cc)) (reads (into g') (expects _ e' (reads (deleted_height (let w : 1 + max h k ≡ max (h + 1) (k + 1) = omega arith in w) z) gives))))))))),
)
into (r.fixed {calls = calls} {t = t} {u = u} {a = a} {h = h} {units = units} g e e') = (
  λ n j f x i rest q. at {h = max (j + h) (max (j + (1 + h)) i)} (omega arith)
      ((into g).0 n j f x (max (j + (1 + h)) i) rest (grow h (1 + h) (λ y l vs z. table_at {h = max (h + 1) (max (0 + l) 0)} (omega arith)
      (built (peeks (by (suffixes_by calls a h) e (nodes (live_tail t _ e (λ z. cc)) (peeks (by (λ o. fixed o (fixed_rule calls a h)) e' (eats (live_key u units e') (reads (suffixes_height (let w : 1 + h ≡ h + 1 = omega arith in w) z) gives))))))))) q)),
  (let start = (into g).1 in let l : start.deeper ≤ 1 = start.most in erased_member {i = 1 + h} (h + 1) start (λ j. omega arith) (λ y l vs z. table_at {h = max (h + 1) (max (0 + l) 0)} (omega arith)
      (built (peeks (by (deleted_by a h t) e (nodes (live_tail t _ e (λ z. cc)) (peeks (by (λ o. fixed o (deleted_fixed_rule a h)) e' (eats (live_key u units e') (reads (deleted_height (let w : 1 + h ≡ h + 1 = omega arith in w) z) gives)))))))))),
)
into (r.call {t = t} {a = a} {all = all} {h = h} {i = k} g e g') = (
  λ n j f x i rest q. at {h = max (j + h) (max (j + (1 + max h k)) i)} (omega arith)
      ((into g).0 n j f x (max (j + (1 + max h k)) i) rest (grow h (1 + max h k) (λ y l vs z.
      let c = into g' (s.Suffixes true a h) 1 (λ all i. as_read (s.Suffixes true (plain (made.Call a.expr all)) (max (h + 1) (i + 1))) (λ v. v)) y (max (0 + l) 0) vs (reads (suffixes_height (let w : 1 + max h k ≡ max (h + 1) (k + 1) = omega arith in w) z) gives) in
      table_at {h = max (h + 1) c.0} (let w : max 1 c.0 ≡ max (1 + k) (max (0 + l) 0) = c.1 in omega arith) (built (peeks (by (suffixes_by true a h) e (nodes (live_tail t _ e (λ z. cc)) c.2))))) q)),
  (let start = (into g).1 in let l : start.deeper ≤ 1 = start.most in erased_call {i = 1 + max h k} (max (h + 2) (2 + k)) start refl (λ j. omega arith) (λ y l vs z.
      let c = into g' (s.Deleted a h) 2 (λ all i. as_read (s.Deleted (plain (made.Call a.expr all)) (max (h + 1) (i + 1))) (λ v. v)) y (max (0 + l) 0) vs (reads (deleted_height (let w : 1 + max h k ≡ max (h + 1) (k + 1) = omega arith in w) z) gives) in
      table_at {h = max (h + 2) c.0} (let w : max 2 c.0 ≡ max (2 + k) (max (0 + l) 0) = c.1 in omega arith) (built (peeks (by (deleted_by a h t) e (nodes (live_tail t _ e (λ z. cc)) c.2)))))),
)
into (r.left {calls = calls} {us = us} {t = t} {a = a} {h = h} g e) = λ n j f x i rest q. at {h = max (j + h) (max (j + 0) i)} (omega arith)
    ((into g).0 n j f x (max (j + 0) i) rest (reads (built (peeks (stops calls t us a h (tail_of t.kind) e))) q))
into (r.new_with {t = t} {u = u} {a = a} {all = all} {h = h} {i = k} q g e g') =
    let c = into g' s.New 1 (λ all _. give (plain (made.New a.expr all))) (plain (made.New a.expr all)) 0 _ gives in
    table_at {h = max 1 (max (1 + h) c.0)} (let w : max 1 c.0 ≡ max (1 + k) 0 = c.1 in omega arith)
    (built (peeks (first _ _ _ q (nodes (live_word w.New t q) (into g s.New 1 (λ callee. peek (new_after callee.expr)) _ c.0 _ (peeks (first _ _ _ e (eats (live_mark m.OpenParen u e) c.2))))))))
into (r.new_alone {us = us} {t = t} {u = u} {a = a} {h = h} q g e) = table_at {h = max 1 (max (1 + h) 0)} (omega arith)
    (built (peeks (first _ _ _ q (nodes (live_word w.New t q) (into g s.New 1 (λ callee. peek (new_after callee.expr)) _ 0 _ (peeks (second _ _ _ e gives)))))))
into (r.given_none {t = t} q) = λ n k rule x i rest p. (i, omega arith, peeks (first _ _ _ q (eats (live_mark m.CloseParen t q) p)))
into (r.given {h = h} g q) = λ n k rule x i rest p. (max (k + h) i, omega arith, given_some k rule (opens_arguments g) (into g []) q p)
into (r.last_argument {h = h} g e) = λ so_far. table_at {h = max (0 + h) 0} (omega arith) (built (reads (into g) (peeks (second _ _ _ e gives))))
into (r.argument {t = t} {a = a} {all = all} {h = h} {i = i} g e g') = λ so_far. value_at (append_assoc so_far (a.expr ∷ []) all) (table_at {h = max (0 + h) (max (0 + i) 0)} (omega arith)
    (built (reads (into g) (peeks (first _ _ _ e (eats (live_mark m.Comma t e) (reads (into g' (so_far ++ a.expr ∷ [])) gives)))))))
into (r.last_item {h = h} g e) = λ so_far. table_at {h = max (0 + h) 0} (omega arith) (item_first so_far (opens_assign g) (into g) (peeks (second _ _ _ e gives)))
into (r.last_item_comma {t = t} {h = h} g e e') = λ so_far. table_at {h = max (0 + h) 0} (omega arith)
    (item_first so_far (opens_assign g) (into g) (peeks (first _ _ _ e (eats (live_mark m.Comma t e) (peeks (first _ _ _ e' gives))))))
into (r.item {t = t} {a = a} {all = all} {h = h} {i = i} g e g') = λ so_far. value_at (append_assoc so_far (a.expr ∷ []) all) (table_at {h = max (0 + h) (max (0 + i) 0)} (omega arith)
    (item_first so_far (opens_assign g) (into g) (peeks (first _ _ _ e (eats (live_mark m.Comma t e) (item_next so_far a (opens_items g') (into g' (so_far ++ a.expr ∷ []))))))))
into (r.last_field {t = t} {h = h} q q' g q'') = λ so_far. table_at {h = max (0 + h) 0} (omega arith)
    (built (peeks (by field_by q (eats (live_literal_key t _ q) (expects _ q' (reads (into g) (peeks (second _ _ _ q'' gives))))))))
into (r.next_field {t = t} {v = v} {a = a} {all = all} {h = h} {i = i} {key = key} q q' g q'' g') = λ so_far. value_at (append_assoc so_far (field_of key a.expr ∷ []) all) (table_at {h = max (0 + h) (max (0 + i) 0)} (omega arith)
    (built (peeks (by field_by q (eats (live_literal_key t _ q) (expects _ q' (reads (into g) (peeks (first _ _ _ q'' (eats (live_mark m.Comma v q'') (reads (into g' (so_far ++ field_of key a.expr ∷ [])) gives)))))))))))
into (r.last_name {t = t} {units = units} q e) = λ so_far. built (peeks (by (λ o. name_by o (names_rule so_far)) q (eats (live_name t units q) (peeks (second _ _ _ e gives)))))
into (r.name {t = t} {u = u} {units = units} {all = all} q e g) = λ so_far. value_at (append_assoc so_far (units ∷ []) all)
    (built (peeks (by (λ o. name_by o (names_rule so_far)) q (eats (live_name t units q) (peeks (first _ _ _ e (eats (live_mark m.Comma u e) (reads (into g (so_far ++ units ∷ [])) gives))))))))
into (r.no_parameters {u = u} q q') = λ n rule x i rest p. expects _ q (peeks (first _ _ _ q' (eats (live_mark m.CloseParen u q') p)))
into (r.parameters q g q') = λ n rule x i rest p. expects _ q (names_first rule (opens_names g) (into g []) q' p)
into (r.this {t = t} q) = built (peeks (by primary_by q (nodes (live_head t _ q (λ z. cc)) gives)))
into (r.identifier {t = t} q) = built (peeks (by primary_by q (nodes (live_head t _ q (λ z. cc)) gives)))
into (r.literal {t = t} q) = built (peeks (by primary_by q (nodes (live_head t _ q (λ z. cc)) gives)))
into (r.parentheses {t = t} {h = h} q g e) = table_at {h = max (1 + h) 0} (omega arith) (built (peeks (by primary_by q (eats (live_head t _ q (λ z. cc)) (reads (into g) (expects _ e gives))))))
into (r.array_empty {t = t} {u = u} q e) = built (peeks (by primary_by q (nodes (live_head t _ q (λ z. cc)) (peeks (first _ _ _ e (eats (live_mark m.CloseBracket u e) gives))))))
into (r.array {t = t} {h = h} q g e) = table_at {h = max 1 (max (1 + h) 0)} (omega arith) (built (peeks (by primary_by q (nodes (live_head t _ q (λ z. cc)) (array_first (opens_items g) (into g []) e)))))
into (r.object_empty {t = t} {u = u} q e) = built (peeks (by primary_by q (nodes (live_head t _ q (λ z. cc)) (peeks (first _ _ _ e (eats (live_mark m.CloseBrace u e) gives))))))
into (r.object {t = t} {h = h} q g e) = table_at {h = max 1 (max (1 + h) 0)} (omega arith) (built (peeks (by primary_by q (nodes (live_head t _ q (λ z. cc)) (object_first (opens_fields g) (into g []) e)))))
into (r.print {t = t} {all = all} {h = h} q e g) = let c = into g s.Primary 1 (λ all _. give (plain (made.Print all))) (plain (made.Print all)) 0 _ gives in
    table_at {h = max 1 c.0} (let w : max 1 c.0 ≡ max (1 + h) 0 = c.1 in omega arith) (built (peeks (by primary_by q (nodes (live_head t _ q (λ z. cc)) (expects _ e c.2)))))
into (r.with_one {t = t} {h = h} q e g e') = table_at {h = max 1 (max (1 + h) 0)} (omega arith) (built (peeks (by primary_by q (nodes (live_head t _ q (λ z. cc)) (expects _ e (reads (into g) (expects _ e' gives)))))))
into (r.with_none {t = t} q e e') = built (peeks (by primary_by q (nodes (live_head t _ q (λ z. cc)) (expects _ e (expects _ e' gives)))))
into (r.function_alone {t = t} {h = h} q g e b e') = table_at {h = max 1 (max (1 + h) 0)} (omega arith) (built (peeks (by primary_by q (nodes (live_head t _ q (λ z. cc))
    (function_first (λ t. name_by (name_of t.kind) named_rule) (opens_parameters g) (into g s.Primary (function_rule None) _ (max (1 + h) 0) _ (expects _ e (reads b (expects _ e' gives)))))))))
into (r.function_named {t = t} {n = n} {units = units} {h = h} q q' g e b e') = table_at {h = max 1 (max (1 + h) 0)} (omega arith) (built (peeks (by primary_by q (nodes (live_head t _ q (λ z. cc))
    (peeks (second _ _ _ (name_no_mark m.OpenParen n units q') (by (λ o. name_by o named_rule) q' (eats (live_name n units q') (into g s.Primary (function_rule (Some units)) _ (max (1 + h) 0) _ (expects _ e (reads b (expects _ e' gives))))))))))))
