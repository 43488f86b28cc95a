-- What the table reads, the productions read.
use Rattle.std.proofs.Common.{◌≡◌, ℕ, zero, suc, ◌+◌, max, Bool, true, false, Option, Some, None, List, [], ◌∷◌, ◌++◌, refl, ap, sym, ◌∙◌, subst, arith, ◌≤◌, ◌⊎◌, inl, inr, append_assoc}
use Rattle.js_lexer.specs.declared.Mark.TheVariants as m
use Rattle.js_lexer.specs.declared.Reserved.TheVariants as w
use Rattle.js_tree.specs.declared.Script as script
use Rattle.js_lexer.specs.declared.Token.{Token}
use Rattle.script_grammar.specs.declared.classes.Infix.{Infix}
use Rattle.script_grammar.specs.declared.classes.Prefix.{Prefix}
use Rattle.script_grammar.specs.declared.classes.Tail.{Tail}
use Rattle.script_grammar.specs.Words.{is, is_word, Units, infix_at, assign_of, prefix_of, prefixed, step_of, tail_of, key_of}
use Rattle.script_grammar.specs.declared.classes.Prefix.TheVariants as prefix
use Rattle.script_grammar.specs.declared.classes.Tail.TheVariants as tail
use Rattle.js_tree.specs.declared.Sign.{Sign}
use Rattle.js_tree.specs.declared.Expr as expr
use Rattle.js_tree.specs.declared.Key.TheVariants as k
use Rattle.js_tree.specs.declared.Key.{Key}
use Rattle.script_grammar.specs.Productions.{goes_on}
use Rattle.std.proofs.Common.{◌&&◌, not}
use Rattle.script_grammar.specs.declared.classes.Operand.{Operand}
use Rattle.script_grammar.specs.Rules.{Symbol, Value, Rule}
use Rattle.script_grammar.specs.Rules.{Symbol as s}
use Rattle.script_grammar.specs.Rules.Rule.{give, peek, read}
use Rattle.js_tree.specs.Trees.{field_of}
use Rattle.js_tree.specs.Trees.{ExprLevel, expr_level}
use Rattle.js_tree.specs.declared.ExprNode.TheOpen.{ExprNode-F}
use Rattle.js_tree.specs.declared.ExprNode.{out-ExprNode}
use denote.Hole.Carrier.{out}
use Rattle.script_grammar.specs.Grammar.{grammar, expect, more_by, assign_by, target, level_names, deleted_level, deleted_step, deleted_by, delete_operand, unary_by, postfix_by, with_suffixes, given_at, given_arguments, fixed, as_read, a_member, a_name_as, suffixes_by, new_after, plain, go_on, field_by, name_by, parameters, function, primary_by}
use Rattle.script_grammar.specs.Exprs as made
use Rattle.js_tree.specs.declared.Field as field
use Rattle.script_grammar.specs.declared.classes.Name.{Name}
use Rattle.script_grammar.specs.declared.classes.Head.{Head}
use Rattle.script_grammar.specs.Words.{name_of, literal_key_of, head_of}
use Rattle.script_grammar.specs.declared.classes.Name.TheVariants as ident
use Rattle.script_grammar.specs.declared.classes.Head.TheVariants as head
use Rattle.script_grammar.specs.Paths.{Path, Table}
use Rattle.script_grammar.specs.Productions.{Part, Of, Reads}
use Rattle.script_grammar.specs.Productions.{Part as p}
use Rattle.script_grammar.specs.Productions.{Reads as r}
use Rattle.js_tree.specs.declared.BinaryOperator.{BinaryOperator}
use Rattle.script_grammar.proofs.Rows.Then.{so}
use Rattle.script_grammar.proofs.Paths.{least, built, mapped}
use Rattle.script_grammar.proofs.Rows.{Then, holds, on_peek, on_either, on_refuse, on_expect, on_eat, on_give, on_node, on_read, read_peek, read_expect, peek_after, expect_after, same}

-- what reads a function's body
abbrev pub Body : List Token → script.Script → ℕ → List Token → Type 0
Body = Table (s.Elements true [] [])

abbrev R : (n : Part) → List Token → Of n → ℕ → List Token → Type 0
R = Reads Body

-- What was deleted: a member as written, which is what stood to the left or a longer one.
pub record Removed (xs : List Token) (left : Operand) (height : ℕ) (v : Operand) (h : ℕ) (rest : List Token) : Type 0 where
  pub operand : Operand
  pub tall : ℕ
  pub base : expr.Expr
  pub key : Key
  pub value : v ≡ plain (made.Delete base key)
  pub written : operand.target ≡ true
  pub level : expr_level operand.expr ≡ ExprNode-F.Member base key
  pub reads : R p.Postfix xs operand tall rest
  pub longer : ((operand ≡ left) × (h ≡ 0) × (tall ≡ height)) ⊎ ((tall ≡ h) × (1 + height ≤ h))

-- What a symbol of the table is among the productions: a symbol that carries what stands to its left goes on from there.
abbrev pub Meant : (n : Symbol) → List Token → Value n → ℕ → List Token → Type 0
Meant (s.Expr no_in) ts v h rest = R (p.Expr no_in) ts v h rest
Meant (s.Commas no_in left height) ts v h rest = (xs : List Token) → R (p.Commas no_in) xs left height ts → R (p.Expr no_in) xs v (max height h) rest
Meant (s.Assign no_in) ts v h rest = R (p.Assign no_in) ts v h rest
Meant (s.Conditional no_in) ts v h rest = R (p.Conditional no_in) ts v h rest
Meant (s.Binary no_in level) ts v h rest = R (p.Binary no_in level) ts v h rest
Meant (s.More no_in zero left height) ts v h rest = Unit {0}
Meant (s.More no_in (suc level) left height) ts v h rest = (xs : List Token) → R (p.Chain no_in (suc level)) xs left height ts → R (p.Binary no_in (suc level)) xs v (max height h) rest
Meant s.Unary ts v h rest = R p.Unary ts v h rest
Meant s.Postfix ts v h rest = R p.Postfix ts v h rest
Meant s.Left ts v h rest = R (p.Whole true) ts v h rest
Meant (s.Suffixes calls left height) ts v h rest = (xs : List Token) → R (p.Stem calls) xs left height ts → R (p.Whole calls) xs v (max height h) rest
Meant (s.Deleted left height) ts v h rest = (xs : List Token) → R (p.Stem true) xs left height ts → Removed xs left height v h rest
Meant s.New ts v h rest = R p.New ts v h rest
Meant (s.Arguments so_far) ts v h rest = (all : _) × (v ≡ so_far ++ all) × R p.Arguments ts all h rest
Meant (s.Items so_far) ts v h rest = (all : _) × (v ≡ so_far ++ all) × R p.Items ts all h rest
Meant (s.Fields so_far) ts v h rest = (all : _) × (v ≡ so_far ++ all) × R p.Fields ts all h rest
Meant (s.Names so_far) ts v h rest = (all : _) × (v ≡ so_far ++ all) × (h ≡ 0) × R p.Names ts all 0 rest
Meant s.Primary ts v h rest = R p.Primary ts v h rest
Meant n ts v h rest = Table n ts v h rest

at : {n : Part} {ts rest : List Token} {v : Of n} {h i : ℕ} → h ≡ i → R n ts v h rest → R n ts v i rest
at {n} {ts} {rest} {v} e x = subst (λ y. R n ts v y rest) e x

-- the rows over this meaning
abbrev pub Row : (n : Symbol) → Type 0
Row n = (ts : List Token) → Then Meant n (grammar n) ts (λ v h rest. Meant n ts v h rest)

whole_expr : (no_in : Bool) → Row (s.Expr no_in)
whole_expr no_in ts = on_read (λ a i us g. on_read (λ b j vs g'. on_give (at {h = max i j} (omega arith) (g' ts (r.first g)))))

commas : (no_in : Bool) (left : Operand) (height : ℕ) → Row (s.Commas no_in left height)
commas no_in left height ts = on_peek (Meant (s.Commas no_in left height)) ts (λ t us. on_either (is m.Comma t)
    (λ e. on_node (on_read (λ b i vs g. on_read (λ w j ws g'. on_give
    (λ xs start. at {h = max (max (height + 1) (i + 1)) j} (omega arith) (g' xs (at {h = 1 + max height i} (omega arith) (r.comma start e g))))))))
    (λ e. on_give (λ xs start. at {h = height} (omega arith) (r.all_commas start e))))

conditional : (no_in : Bool) → Row (s.Conditional no_in)
conditional no_in ts = read_peek (λ a i t us g. on_either (is m.Question t)
    (λ e. on_node (read_expect m.Colon (λ b j u vs g' e'. on_read (λ c k ws g''. on_give
    (at {h = 1 + max i (max j k)} (omega arith) (r.conditional g e g' e' g''))))))
    (λ e. on_give (at {h = i} (omega arith) (r.unconditional g e))))

-- what is read as a target before a token that no operand goes on with is a target
target_of_postfix : {ts rest : List Token} {a : Operand} {h : ℕ} → R p.Postfix ts a h rest → target a ≡ true → R (p.Whole true) ts a h rest
target_of_postfix (r.step g e e' e'') q = absurd (let x : false ≡ true = q in cc)
target_of_postfix (r.no_step g e) q = g

pub target_of_unary : {ts rest : List Token} {a : Operand} {h : ℕ} → R p.Unary ts a h rest → target a ≡ true → R (p.Whole true) ts a h rest
target_of_unary (r.delete e g e' e'') q = absurd (let x : false ≡ true = q in cc)
target_of_unary (r.void e g) q = absurd (let x : false ≡ true = q in cc)
target_of_unary (r.typeof e g) q = absurd (let x : false ≡ true = q in cc)
target_of_unary (r.signed e g) q = absurd (let x : false ≡ true = q in cc)
target_of_unary (r.update e g e') q = absurd (let x : false ≡ true = q in cc)
target_of_unary (r.postfix g) q = target_of_postfix g q

target_of_binary : (no_in : Bool) (level : ℕ) {ts rest : List Token} {a : Operand} {h : ℕ} → R (p.Binary no_in level) ts a h rest → target a ≡ true → R (p.Whole true) ts a h rest
target_of_binary no_in zero (r.unary g) q = target_of_unary g q
target_of_binary no_in (suc level) (r.binary (r.operand g) e) q = target_of_binary no_in level g q
target_of_binary no_in (suc level) (r.binary (r.operator g e' g') e) q = absurd (let x : false ≡ true = q in cc)

pub target_of : (no_in : Bool) {ts rest : List Token} {a : Operand} {h : ℕ} → R (p.Conditional no_in) ts a h rest → target a ≡ true → R (p.Whole true) ts a h rest
target_of no_in (r.conditional g e g' e' g'') q = absurd (let x : false ≡ true = q in cc)
target_of no_in (r.unconditional g e) q = target_of_binary no_in 10 g q

assign_at : (no_in : Bool) (ts : List Token) (a : Operand) (i : ℕ) (t : Token) (us : List Token) → R (p.Conditional no_in) ts a i (t ∷ us) → (o : Option (Option BinaryOperator)) → assign_of t.kind ≡ o
    → Then Meant (s.Assign no_in) (assign_by a i o) (t ∷ us) (λ v h rest. Meant (s.Assign no_in) ts v (max (0 + i) h) rest)
assign_at no_in ts a i t us g (Some op) e = on_either (target a)
    (λ q. on_node (on_read (λ b j vs g'. on_give (at {h = 1 + max i j} (omega arith) (r.assign (target_of no_in g q) q e g')))))
    (λ q. on_give (at {h = i} (omega arith) (r.unassigned g (inl q))))
assign_at no_in ts a i t us g None e = on_give (at {h = i} (omega arith) (r.unassigned g (inr e)))

assign : (no_in : Bool) → Row (s.Assign no_in)
assign no_in ts = read_peek (λ a i t us g. assign_at no_in ts a i t us g (assign_of t.kind) refl)

binary : (no_in : Bool) (level : ℕ) → Row (s.Binary no_in level)
binary no_in zero ts = on_read (λ a i us g. on_give (at {h = i} (omega arith) (r.unary g)))
binary no_in (suc level) ts = on_read (λ a i us g. on_read (λ b j vs g'. on_give (at {h = max i j} (omega arith) (g' ts (r.operand g)))))

more_at : (no_in : Bool) (level : ℕ) (left : Operand) (height : ℕ) (t : Token) (us : List Token) (o : Option Infix) → infix_at no_in (suc level) t ≡ o
    → Then Meant (s.More no_in (suc level) left height) (more_by no_in (suc level) left height o) (t ∷ us) (Meant (s.More no_in (suc level) left height) (t ∷ us))
more_at no_in level left height t us (Some op) e = on_node (on_read (λ b i vs g. on_read (λ w j ws g'. on_give
    (λ xs start. at {h = max (max (height + 1) (i + 1)) j} (omega arith) (g' xs (at {h = 1 + max height i} (omega arith) (r.operator start e g)))))))
more_at no_in level left height t us None e = on_give (λ xs start. at {h = height} (omega arith) (r.binary start e))

more : (no_in : Bool) (level : ℕ) (left : Operand) (height : ℕ) → Row (s.More no_in level left height)
more no_in zero left height ts = so (λ v h rest x. tt)
more no_in (suc level) left height ts = on_peek (Meant (s.More no_in (suc level) left height)) ts (λ t us. more_at no_in level left height t us (infix_at no_in (suc level) t) refl)

-- ---- unary, postfix

-- no operand is a member as written before a suffix stands after it
abbrev NoMember : Operand → Type 0
NoMember a = (base : expr.Expr) (key : Key) → a.target ≡ true → expr_level a.expr ≡ ExprNode-F.Member base key → ⊥

name_no_member : (units : Units) → NoMember (a_name_as units)
unfolding out-ExprNode out
name_no_member units base key y z = let x : true ≡ false = ap level_names z in cc

pub primary_no_member : {ts rest : List Token} {a : Operand} {h : ℕ} → R p.Primary ts a h rest → NoMember a
primary_no_member (r.this q) = λ base key y z. let x : false ≡ true = y in cc
primary_no_member (r.identifier {units = units} q) = name_no_member units
primary_no_member (r.literal q) = λ base key y z. let x : false ≡ true = y in cc
primary_no_member (r.parentheses q g e) = λ base key y z. let x : false ≡ true = y in cc
primary_no_member (r.array_empty q e) = λ base key y z. let x : false ≡ true = y in cc
primary_no_member (r.array q g e) = λ base key y z. let x : false ≡ true = y in cc
primary_no_member (r.object_empty q e) = λ base key y z. let x : false ≡ true = y in cc
primary_no_member (r.object q g e) = λ base key y z. let x : false ≡ true = y in cc
primary_no_member (r.print q e g) = λ base key y z. let x : false ≡ true = y in cc
primary_no_member (r.with_one q e g e') = λ base key y z. let x : false ≡ true = y in cc
primary_no_member (r.with_none q e e') = λ base key y z. let x : false ≡ true = y in cc
primary_no_member (r.function_alone q g e b e') = λ base key y z. let x : false ≡ true = y in cc
primary_no_member (r.function_named q q' g e b e') = λ base key y z. let x : false ≡ true = y in cc

pub new_no_member : {ts rest : List Token} {a : Operand} {h : ℕ} → R p.New ts a h rest → NoMember a
new_no_member (r.new_with q g e g') = λ base key y z. let x : false ≡ true = y in cc
new_no_member (r.new_alone q g e) = λ base key y z. let x : false ≡ true = y in cc

removed : {t : Token} {us rest : List Token} {a b : Operand} {i j : ℕ} → prefix_of t.kind ≡ prefix.Delete → NoMember a → Removed us a i b j rest
    → R p.Unary (t ∷ us) b (max 1 (max (1 + i) (max (0 + j) 0))) rest
removed {t} {us} {rest} {a} {b} {i} {j} e never s = elim s.longer [
  | inl q ↦ absurd (never s.base s.key (ap (λ x. x.target) (sym q.0) ∙ s.written) (ap (λ x. expr_level x.expr) (sym q.0) ∙ s.level))
  | inr q ↦ (let k : s.tall ≡ j = q.0 in let l : 1 + i ≤ j = q.1 in
      subst (λ x. R p.Unary (t ∷ us) x (max 1 (max (1 + i) (max (0 + j) 0))) rest) (sym s.value)
      (at {h = max 1 s.tall} (omega arith) (r.delete e (r.postfix s.reads) s.written s.level)))
]

unary_at : (t : Token) (ts : List Token) (o : Prefix) → prefix_of t.kind ≡ o → Then Meant s.Unary (unary_by o) (t ∷ ts) (Meant s.Unary (t ∷ ts))
unary_at t ts prefix.Delete e = on_node (on_peek (λ ts v h rest. R p.Unary (t ∷ ts) v (max 1 h) rest) ts (λ u us. on_either (prefixed u.kind)
    (λ q. on_read (λ a i vs g. on_refuse))
    (λ q. on_either (is_word w.New u)
    (λ q'. on_read (λ a i vs g. on_read (λ b j ws g'. on_give (removed e (new_no_member g) (g' (u ∷ us) (r.new g))))))
    (λ q'. on_read (λ a i vs g. on_read (λ b j ws g'. on_give (removed e (primary_no_member g) (g' (u ∷ us) (r.primary g)))))))))
unary_at t ts prefix.Void e = on_node (on_read (λ a i us g. on_give (at {h = 1 + i} (omega arith) (r.void e g))))
unary_at t ts prefix.Typeof e = on_node (on_read (λ a i us g. on_give (at {h = 1 + i} (omega arith) (r.typeof e g))))
unary_at t ts (prefix.Update step) e = on_node (on_read (λ a i us g. on_either (target a)
    (λ q. on_give (at {h = 1 + i} (omega arith) (r.update e g q))) (λ q. on_refuse)))
unary_at t ts (prefix.Signed sign) e = on_node (on_read (λ a i us g. on_give (at {h = 1 + i} (omega arith) (r.signed e g))))
unary_at t ts prefix.Neither e = on_read (λ a i us g. on_give (at {h = i} (omega arith) (r.postfix g)))

unary : Row s.Unary
unary ts = on_peek (Meant s.Unary) ts (λ t us. unary_at t us (prefix_of t.kind) refl)

and_left : (a b : Bool) → a && b ≡ true → a ≡ true
and_left true b e = refl
and_left false b e = e

and_right : (a b : Bool) → a && b ≡ true → b ≡ true
and_right true b e = e
and_right false b e = absurd (let x : false ≡ true = e in cc)

not_true : (a : Bool) → not a ≡ true → a ≡ false
not_true true e = sym e
not_true false e = refl

step_at : (ts : List Token) (t : Token) (us : List Token) (a : Operand) (i : ℕ) → R (p.Whole true) ts a i (t ∷ us) → target a && not t.after_newline ≡ true → (o : Option Sign) → step_of t.kind ≡ o
    → Then Meant s.Postfix (postfix_by a i o) (t ∷ us) (λ v h rest. R p.Postfix ts v (max (0 + i) h) rest)
step_at ts t us a i g q (Some step) e = on_node (on_give (at {h = 1 + i} (omega arith)
    (r.step g (and_left (target a) (not t.after_newline) q) (not_true t.after_newline (and_right (target a) (not t.after_newline) q)) e)))
step_at ts t us a i g q None e = on_give (at {h = i} (omega arith) (r.no_step g (inr e)))

postfix : Row s.Postfix
postfix ts = read_peek (λ a i t us g. on_either (target a && not t.after_newline)
    (λ q. step_at ts t us a i g q (step_of t.kind) refl)
    (λ q. on_give (at {h = i} (omega arith) (r.no_step g (inl q)))))

-- ---- operands with what stands after them

stem : {n : Symbol} (j : ℕ) (calls : Bool) (f : Operand → Rule n) (ts : List Token) {Q : Value n → ℕ → List Token → Type 0}
    → ((a : Operand) (i : ℕ) (us : List Token) → R (p.Whole calls) ts a i us → Then Meant n (f a) us (λ v h rest. Q v (max (j + i) h) rest))
    → Then Meant n (peek (with_suffixes j calls f)) ts Q
stem {n} j calls f ts {Q} k = peek_after (λ ts. (a : Operand) (i : ℕ) (us : List Token) → R (p.Whole calls) ts a i us → Then Meant n (f a) us (λ v h rest. Q v (max (j + i) h) rest)) ts k
    (λ t us k. on_either (is_word w.New t)
    (λ e. on_read (λ a i vs g. on_read (λ b l ws g'. same (λ v h rest x. subst (λ y. Q v y rest) (let q : max (j + max i l) h ≡ max (j + i) (max (j + l) h) = omega arith in q) x) (k b (max i l) ws (g' (t ∷ us) (r.new g))))))
    (λ e. on_read (λ a i vs g. on_read (λ b l ws g'. same (λ v h rest x. subst (λ y. Q v y rest) (let q : max (j + max i l) h ≡ max (j + i) (max (j + l) h) = omega arith in q) x) (k b (max i l) ws (g' (t ∷ us) (r.primary g)))))))

left : Row s.Left
left ts = stem 0 true (λ v. give v) ts (λ a i us g. on_give (at {h = i} (omega arith) g))

-- the arguments of a call, after its parenthesis
all_of : {ts rest : List Token} {all : List expr.Expr} {h : ℕ} → Meant (s.Arguments []) ts all h rest → R p.Arguments ts all h rest
all_of {ts} {rest} {all} {h} g = subst (λ x. R p.Arguments ts x h rest) (sym g.1) g.2

on_given_at : {n : Symbol} (k : ℕ) (rule : List expr.Expr → ℕ → Rule n) (ts : List Token) {Q : Value n → ℕ → List Token → Type 0}
    → ((us : List Token) → R p.Given ts [] 0 us → Then Meant n (rule [] 0) us Q)
    → ((all : List expr.Expr) (i : ℕ) (us : List Token) → R p.Given ts all i us → Then Meant n (rule all i) us (λ v h rest. Q v (max (k + i) h) rest))
    → Then Meant n (given_at k rule) ts Q
on_given_at {n} k rule ts {Q} none some = peek_after
    (λ ts. ((us : List Token) → R p.Given ts [] 0 us → Then Meant n (rule [] 0) us Q)
    × ((all : List expr.Expr) (i : ℕ) (us : List Token) → R p.Given ts all i us → Then Meant n (rule all i) us (λ v h rest. Q v (max (k + i) h) rest)))
    ts (none, some)
    (λ t us f. on_either (is m.CloseParen t)
    (λ e. on_eat (f.0 us (r.given_none e)))
    (λ e. read_expect m.CloseParen (λ all i u vs g e'. f.1 all i vs (r.given (all_of g) e'))))

on_given : {n : Symbol} (rule : List expr.Expr → ℕ → Rule n) (ts : List Token) {Q : Value n → ℕ → List Token → Type 0}
    → ((us : List Token) → R p.Given ts [] 0 us → Then Meant n (rule [] 0) us Q)
    → ((all : List expr.Expr) (i : ℕ) (us : List Token) → R p.Given ts all i us → Then Meant n (rule all i) us (λ v h rest. Q v (max (1 + i) h) rest))
    → Then Meant n (given_arguments rule) ts Q
on_given rule ts none some = on_given_at 1 rule ts none some

fixed_at : (calls : Bool) (a : Operand) (height : ℕ) (t u : Token) (us : List Token) → tail_of t.kind ≡ tail.Fixed → (o : Option Units) → key_of u.kind ≡ o
    → Then Meant (s.Suffixes calls a height) (fixed o (λ key. as_read (s.Suffixes calls (a_member a.expr (k.Fixed key)) (height + 1)) (λ v. v))) (u ∷ us)
    (λ v h rest. Meant (s.Suffixes calls a height) (t ∷ u ∷ us) v (max (height + 1) h) rest)
fixed_at calls a height t u us e (Some units) q = on_eat (on_read (λ b j ws g. on_give
    (λ xs start. at {h = max (height + 1) j} (omega arith) (g xs (at {h = 1 + height} (omega arith) (r.fixed start e q))))))
fixed_at calls a height t u us e None q = on_refuse

suffixes_at : (calls : Bool) (a : Operand) (height : ℕ) (t : Token) (us : List Token) (o : Tail) → tail_of t.kind ≡ o
    → Then Meant (s.Suffixes calls a height) (suffixes_by calls a height o) (t ∷ us) (Meant (s.Suffixes calls a height) (t ∷ us))
suffixes_at calls a height t us tail.Computed e = on_node (read_expect m.CloseBracket (λ b i u vs g e'. on_read (λ c j ws g'. on_give
    (λ xs start. at {h = max (max (height + 1) (i + 1)) j} (omega arith) (g' xs (at {h = 1 + max height i} (omega arith) (r.computed start e g e')))))))
suffixes_at calls a height t us tail.Fixed e = on_node (on_peek (λ us v h rest. Meant (s.Suffixes calls a height) (t ∷ us) v (max (height + 1) h) rest) us
    (λ u vs. fixed_at calls a height t u vs e (key_of u.kind) refl))
suffixes_at true a height t us tail.Call e = on_node (on_given (λ all h. as_read (s.Suffixes true (plain (made.Call a.expr all)) (max (height + 1) (h + 1))) (λ v. v)) us
    (λ vs g. on_read (λ c j ws g'. on_give (λ xs start. at {h = max (max (height + 1) (0 + 1)) j} (omega arith) (g' xs (at {h = 1 + max height 0} (omega arith) (r.call start e g))))))
    (λ all i vs g. on_read (λ c j ws g'. on_give (λ xs start. at {h = max (max (height + 1) (i + 1)) j} (omega arith) (g' xs (at {h = 1 + max height i} (omega arith) (r.call start e g)))))))
suffixes_at false a height t us tail.Call e = on_give (λ xs start. at {h = height} (omega arith) (r.left start (ap (goes_on false) e)))
suffixes_at calls a height t us tail.Neither e = on_give (λ xs start. at {h = height} (omega arith) (r.left start (ap (goes_on calls) e)))

suffixes : (calls : Bool) (a : Operand) (height : ℕ) → Row (s.Suffixes calls a height)
suffixes calls a height ts = on_peek (Meant (s.Suffixes calls a height)) ts (λ t us. suffixes_at calls a height t us (tail_of t.kind) refl)

-- ---- the operand of `delete`

-- A longer member is deleted: what stood to the left is one deeper.
longer : {xs rest : List Token} {a b v : Operand} {height : ℕ} (i : ℕ) {j : ℕ} (h : ℕ) → b.target ≡ true → h ≡ max (height + 1) (max (1 + i) j) → Removed xs b (max (height + 1) (i + 1)) v j rest → Removed xs a height v h rest
longer {height = height} i {j} h y e x = record {
  operand = x.operand;
  tall = x.tall;
  base = x.base;
  key = x.key;
  value = x.value;
  written = x.written;
  level = x.level;
  reads = x.reads;
  longer = elim x.longer [
    | inl q ↦ (let l : j ≡ 0 = q.1 in let k : x.tall ≡ max (height + 1) (i + 1) = q.2 in inr (omega arith, omega arith))
    | inr q ↦ (let k : x.tall ≡ j = q.0 in let l : 1 + max (height + 1) (i + 1) ≤ j = q.1 in inr (omega arith, omega arith))
  ];
}

-- A call is no member, so a member follows.
called_on : {xs rest : List Token} {a b v : Operand} {height : ℕ} (i : ℕ) {j : ℕ} (h : ℕ) → b.target ≡ false → h ≡ max (height + 2) (max (2 + i) j) → Removed xs b (max (height + 1) (i + 1)) v j rest → Removed xs a height v h rest
called_on {height = height} i {j} h y e x = record {
  operand = x.operand;
  tall = x.tall;
  base = x.base;
  key = x.key;
  value = x.value;
  written = x.written;
  level = x.level;
  reads = x.reads;
  longer = elim x.longer [
    | inl q ↦ absurd (let z : false ≡ true = sym y ∙ ap (λ z. z.target) (sym q.0) ∙ x.written in cc)
    | inr q ↦ (let k : x.tall ≡ j = q.0 in let l : 1 + max (height + 1) (i + 1) ≤ j = q.1 in inr (omega arith, omega arith))
  ];
}

deleted_at : (a : Operand) (height : ℕ) (t : Token) (us : List Token) → goes_on true (tail_of t.kind) ≡ false → (target a && not t.after_newline ≡ false) ⊎ (step_of t.kind ≡ None)
    → (b : Bool) → a.target ≡ b → (x : ExprLevel) → expr_level a.expr ≡ x
    → Then Meant (s.Deleted a height) (deleted_level b x) (t ∷ us) (Meant (s.Deleted a height) (t ∷ us))
deleted_at a height t us e n true y (ExprNode-F.Member base key) q = on_give (λ xs start. record {
  operand = a;
  tall = height;
  base = base;
  key = key;
  value = refl;
  written = y;
  level = q;
  reads = r.no_step (r.left start e) n;
  longer = inl (refl, refl, refl);
})
deleted_at a height t us e n _ y _ q = on_refuse

deleted_step_at : (a : Operand) (height : ℕ) (t : Token) (us : List Token) → goes_on true (tail_of t.kind) ≡ false → (o : Option Sign) → step_of t.kind ≡ o
    → Then Meant (s.Deleted a height) (deleted_step a height o) (t ∷ us) (Meant (s.Deleted a height) (t ∷ us))
deleted_step_at a height t us e (Some step) q = on_node on_refuse
deleted_step_at a height t us e None q = deleted_at a height t us e (inr q) a.target refl (expr_level a.expr) refl

deleted_fixed_at : (a : Operand) (height : ℕ) (t u : Token) (us : List Token) → tail_of t.kind ≡ tail.Fixed → (o : Option Units) → key_of u.kind ≡ o
    → Then Meant (s.Deleted a height) (fixed o (λ key. as_read (s.Deleted (a_member a.expr (k.Fixed key)) (height + 1)) (λ v. v))) (u ∷ us)
    (λ v h rest. Meant (s.Deleted a height) (t ∷ u ∷ us) v (max (height + 1) h) rest)
deleted_fixed_at a height t u us e (Some units) q = on_eat (on_read (λ b j ws g. on_give (λ xs start.
    longer 0 _ refl (omega arith) (tall_as (omega arith) (g xs (at {h = 1 + height} (omega arith) (r.fixed start e q)))))))
  where
    tall_as : {xs rest : List Token} {b v : Operand} {h i j : ℕ} → h ≡ i → Removed xs b h v j rest → Removed xs b i v j rest
    tall_as {xs} {rest} {b} {v} {h} {i} {j} e x = subst (λ y. Removed xs b y v j rest) e x
deleted_fixed_at a height t u us e None q = on_refuse

deleted_tail : (a : Operand) (height : ℕ) (t : Token) (us : List Token) (o : Tail) → tail_of t.kind ≡ o
    → Then Meant (s.Deleted a height) (deleted_by a height t o) (t ∷ us) (Meant (s.Deleted a height) (t ∷ us))
deleted_tail a height t us tail.Computed e = on_node (read_expect m.CloseBracket (λ b i u vs g e'. on_read (λ c j ws g'. on_give (λ xs start.
    longer i _ refl (omega arith) (g' xs (at {h = 1 + max height i} (omega arith) (r.computed start e g e')))))))
deleted_tail a height t us tail.Fixed e = on_node (on_peek (λ us v h rest. Meant (s.Deleted a height) (t ∷ us) v (max (height + 1) h) rest) us
    (λ u vs. deleted_fixed_at a height t u vs e (key_of u.kind) refl))
deleted_tail a height t us tail.Call e = on_node (on_given_at 2 (λ all h. as_read (s.Deleted (plain (made.Call a.expr all)) (max (height + 1) (h + 1))) (λ v. v)) us
    (λ vs g. on_read (λ c j ws g'. on_give (λ xs start. called_on 0 _ refl (omega arith) (g' xs (at {h = 1 + max height 0} (omega arith) (r.call start e g))))))
    (λ all i vs g. on_read (λ c j ws g'. on_give (λ xs start. called_on i _ refl (omega arith) (g' xs (at {h = 1 + max height i} (omega arith) (r.call start e g)))))))
deleted_tail a height t us tail.Neither e = on_either (target a && not t.after_newline)
    (λ q. deleted_step_at a height t us (ap (goes_on true) e) (step_of t.kind) refl)
    (λ q. deleted_at a height t us (ap (goes_on true) e) (inl q) a.target refl (expr_level a.expr) refl)

deleted : (a : Operand) (height : ℕ) → Row (s.Deleted a height)
deleted a height ts = on_peek (Meant (s.Deleted a height)) ts (λ t us. deleted_tail a height t us (tail_of t.kind) refl)

new : Row s.New
new ts = on_peek (Meant s.New) ts (λ t us. on_either (is_word w.New t)
    (λ e. on_node (stem 1 false (λ callee. peek (new_after callee.expr)) us (λ a i vs g. peek_after (R (p.Whole false) us a i) vs g (λ u ws g. on_either (is m.OpenParen u)
    (λ e'. on_eat (on_given _ ws
    (λ xs g'. on_give (at {h = 1 + max i 0} (omega arith) (r.new_with e g e' g')))
    (λ all j xs g'. on_give (at {h = 1 + max i j} (omega arith) (r.new_with e g e' g')))))
    (λ e'. on_give (at {h = 1 + i} (omega arith) (r.new_alone e g e')))))))
    (λ e. on_refuse))

-- ---- lists

arguments : (so_far : List expr.Expr) → Row (s.Arguments so_far)
arguments so_far ts = read_peek (λ a i t us g. on_either (is m.Comma t)
    (λ q. on_eat (on_read (λ all j vs g'. on_give
    (a.expr ∷ g'.0, g'.1 ∙ append_assoc so_far (a.expr ∷ []) g'.0, at {h = max i j} (omega arith) (r.argument g q g'.2)))))
    (λ q. on_give (a.expr ∷ [], refl, at {h = i} (omega arith) (r.last_argument g q))))

items : (so_far : List expr.Expr) → Row (s.Items so_far)
items so_far ts = on_peek (Meant (s.Items so_far)) ts (λ t us. on_either (is m.Comma t) (λ q. on_refuse)
    (λ q. read_peek (λ a i u vs g. on_either (is m.Comma u)
    (λ q'. on_eat (peek_after (λ vs. R (p.Assign false) (t ∷ us) a i (u ∷ vs)) vs g (λ v ws g. on_either (is m.CloseBracket v)
    (λ q''. on_give (a.expr ∷ [], refl, at {h = i} (omega arith) (r.last_item_comma g q' q'')))
    (λ q''. on_read (λ all j xs g'. on_give
    (a.expr ∷ g'.0, g'.1 ∙ append_assoc so_far (a.expr ∷ []) g'.0, at {h = max i j} (omega arith) (r.item g q' g'.2)))))))
    (λ q'. on_give (a.expr ∷ [], refl, at {h = i} (omega arith) (r.last_item g q'))))))

fields_at : (so_far : List field.Field) (t : Token) (us : List Token) (o : Option Units) → literal_key_of t.kind ≡ o
    → Then Meant (s.Fields so_far) (field_by o) (t ∷ us) (Meant (s.Fields so_far) (t ∷ us))
fields_at so_far t us (Some key) q = on_eat (on_expect m.Colon (λ us v h rest. Meant (s.Fields so_far) (t ∷ us) v h rest) us (λ u vs q'. read_peek (λ a i v ws g. on_either (is m.Comma v)
    (λ q''. on_eat (on_read (λ all j xs g'. on_give
    (field_of key a.expr ∷ g'.0, g'.1 ∙ append_assoc so_far (field_of key a.expr ∷ []) g'.0, at {h = max i j} (omega arith) (r.next_field q q' g q'' g'.2)))))
    (λ q''. on_give (field_of key a.expr ∷ [], refl, at {h = i} (omega arith) (r.last_field q q' g q''))))))
fields_at so_far t us None q = on_refuse

fields : (so_far : List field.Field) → Row (s.Fields so_far)
fields so_far ts = on_peek (Meant (s.Fields so_far)) ts (λ t us. fields_at so_far t us (literal_key_of t.kind) refl)

names_at : (so_far : List Units) (t : Token) (us : List Token) (o : Name) → name_of t.kind ≡ o
    → Then Meant (s.Names so_far) (name_by o (λ units. go_on (as_read (s.Names (so_far ++ units ∷ [])) (λ v. v)) (give (so_far ++ units ∷ [])))) (t ∷ us) (Meant (s.Names so_far) (t ∷ us))
names_at so_far t us (ident.Named units) q = on_eat (on_peek (λ us v h rest. Meant (s.Names so_far) (t ∷ us) v h rest) us (λ u vs. on_either (is m.Comma u)
    (λ q'. on_eat (on_read (λ all j xs g. on_give
    (units ∷ g.0, g.1 ∙ append_assoc so_far (units ∷ []) g.0, (let z : j ≡ 0 = g.2 in omega arith), r.name q q' g.3))))
    (λ q'. on_give (units ∷ [], refl, refl, r.last_name q q'))))
names_at so_far t us (ident.Out form) q = on_refuse
names_at so_far t us ident.Other q = on_refuse

names : (so_far : List Units) → Row (s.Names so_far)
names so_far ts = on_peek (Meant (s.Names so_far)) ts (λ t us. names_at so_far t us (name_of t.kind) refl)

-- ---- primary

on_parameters : {n : Symbol} (rule : List Units → Rule n) (ts : List Token) {Q : Value n → ℕ → List Token → Type 0}
    → ((names : List Units) (us : List Token) → R p.Parameters ts names 0 us → Then Meant n (rule names) us Q) → Then Meant n (parameters rule) ts Q
on_parameters {n} rule ts {Q} k = expect_after m.OpenParen (λ ts. (names : List Units) (us : List Token) → R p.Parameters ts names 0 us → Then Meant n (rule names) us Q) ts k
    (λ t us k q. peek_after (λ us. (names : List Units) (vs : List Token) → R p.Parameters (t ∷ us) names 0 vs → Then Meant n (rule names) vs Q) us k
    (λ u vs k. on_either (is m.CloseParen u)
    (λ q'. on_eat (k [] vs (r.no_parameters q q')))
    (λ q'. read_expect m.CloseParen (λ all i v ws g q''. same (λ x h rest y. subst (λ z. Q x z rest) (let z : i ≡ 0 = g.2 in let e : h ≡ max (0 + i) h = omega arith in e) y)
    (k all ws (r.parameters q (subst (λ x. R p.Names (u ∷ vs) x 0 (v ∷ ws)) (sym g.1) g.3) q''))))))

primary_at : (t : Token) (us : List Token) (o : Head) → head_of t.kind ≡ o → Then Meant s.Primary (primary_by o) (t ∷ us) (Meant s.Primary (t ∷ us))
primary_at t us head.This q = on_node (on_give (at {h = 1} (omega arith) (r.this q)))
primary_at t us (head.Identifier (ident.Named units)) q = on_node (on_give (at {h = 1} (omega arith) (r.identifier q)))
primary_at t us (head.Identifier (ident.Out form)) q = on_refuse
primary_at t us (head.Identifier ident.Other) q = on_refuse
primary_at t us (head.Constant value) q = on_node (on_give (at {h = 1} (omega arith) (r.literal q)))
primary_at t us head.Parenthesis q = on_eat (read_expect m.CloseParen (λ a i u vs g q'. on_give (at {h = 1 + i} (omega arith) (r.parentheses q g q'))))
primary_at t us head.Array q = on_node (on_peek (λ us v h rest. R p.Primary (t ∷ us) v (max 1 h) rest) us (λ u vs. on_either (is m.CloseBracket u)
    (λ q'. on_eat (on_give (at {h = 1} (omega arith) (r.array_empty q q'))))
    (λ q'. read_expect m.CloseBracket (λ all i v ws g q''. on_give
    (at {h = 1 + i} (omega arith) (r.array q (subst (λ x. R p.Items (u ∷ vs) x i (v ∷ ws)) (sym g.1) g.2) q''))))))
primary_at t us head.Object q = on_node (on_peek (λ us v h rest. R p.Primary (t ∷ us) v (max 1 h) rest) us (λ u vs. on_either (is m.CloseBrace u)
    (λ q'. on_eat (on_give (at {h = 1} (omega arith) (r.object_empty q q'))))
    (λ q'. read_expect m.CloseBrace (λ all i v ws g q''. on_give
    (at {h = 1 + i} (omega arith) (r.object q (subst (λ x. R p.Fields (u ∷ vs) x i (v ∷ ws)) (sym g.1) g.2) q''))))))
primary_at t us head.Function q = on_node (on_peek (λ us v h rest. R p.Primary (t ∷ us) v (max 1 h) rest) us (λ u vs. on_either (is m.OpenParen u)
    (λ q'. on_parameters (λ names. expect m.OpenBrace (read 1 (s.Elements true [] []) (λ body _. expect m.CloseBrace (give (plain (made.Function None names body)))))) (u ∷ vs)
    (λ names ws g. expect_after m.OpenBrace (R p.Parameters (u ∷ vs) names 0) ws g (λ x xs g e1. read_expect m.CloseBrace (λ body i y ys b e2. on_give
    (at {h = 1 + i} (omega arith) (r.function_alone q g e1 b e2))))))
    (λ q'. named_at t us u vs q (name_of u.kind) refl)))
  where
    named_at : (t : Token) (us : List Token) (u : Token) (vs : List Token) → head_of t.kind ≡ head.Function → (o : Name) → name_of u.kind ≡ o
        → Then Meant s.Primary (name_by o (λ units. function (λ names body. give (plain (made.Function (Some units) names body))))) (u ∷ vs) (λ v h rest. R p.Primary (t ∷ u ∷ vs) v (max 1 h) rest)
    named_at t us u vs q (ident.Named units) q' = on_eat (on_parameters (λ names. expect m.OpenBrace (read 1 (s.Elements true [] []) (λ body _. expect m.CloseBrace (give (plain (made.Function (Some units) names body)))))) vs
        (λ names ws g. expect_after m.OpenBrace (R p.Parameters vs names 0) ws g (λ x xs g e1. read_expect m.CloseBrace (λ body i y ys b e2. on_give
        (at {h = 1 + i} (omega arith) (r.function_named q q' g e1 b e2))))))
    named_at t us u vs q (ident.Out form) q' = on_refuse
    named_at t us u vs q ident.Other q' = on_refuse
primary_at t us head.Many q = on_node (on_expect m.OpenParen (λ us v h rest. R p.Primary (t ∷ us) v (max 1 h) rest) us (λ u vs q'. on_given (λ all h. give (plain (made.Print all))) vs
    (λ ws g. on_give (at {h = 1 + 0} (omega arith) (r.print q q' g)))
    (λ all i ws g. on_give (at {h = 1 + i} (omega arith) (r.print q q' g)))))
primary_at t us (head.One word) q = on_node (on_expect m.OpenParen (λ us v h rest. R p.Primary (t ∷ us) v (max 1 h) rest) us (λ u vs q'. read_expect m.CloseParen (λ a i v ws g q''. on_give
    (at {h = 1 + i} (omega arith) (r.with_one q q' g q'')))))
primary_at t us (head.Zero word) q = on_node (on_expect m.OpenParen (λ us v h rest. R p.Primary (t ∷ us) v (max 1 h) rest) us (λ u vs q'.
    on_expect m.CloseParen (λ vs v h rest. R p.Primary (t ∷ u ∷ vs) v (max 1 h) rest) vs (λ v ws q''. on_give (at {h = 1} (omega arith) (r.with_none q q' q'')))))
primary_at t us head.RegExp q = on_refuse
primary_at t us head.Neither q = on_refuse

primary : Row s.Primary
primary ts = on_peek (Meant s.Primary) ts (λ t us. primary_at t us (head_of t.kind) refl)

-- ---- all rows

rows : (n : Symbol) (ts : List Token) (v : Value n) (h : ℕ) (rest : List Token) → Path Meant n (grammar n) ts v h rest → Table n ts v h rest → Meant n ts v h rest
rows (s.Expr no_in) ts v h rest x t = holds (whole_expr no_in ts) v h rest x
rows (s.Commas no_in a i) ts v h rest x t = holds (commas no_in a i ts) v h rest x
rows (s.Assign no_in) ts v h rest x t = holds (assign no_in ts) v h rest x
rows (s.Conditional no_in) ts v h rest x t = holds (conditional no_in ts) v h rest x
rows (s.Binary no_in level) ts v h rest x t = holds (binary no_in level ts) v h rest x
rows (s.More no_in level a i) ts v h rest x t = holds (more no_in level a i ts) v h rest x
rows s.Unary ts v h rest x t = holds (unary ts) v h rest x
rows s.Postfix ts v h rest x t = holds (postfix ts) v h rest x
rows s.Left ts v h rest x t = holds (left ts) v h rest x
rows (s.Suffixes calls a i) ts v h rest x t = holds (suffixes calls a i ts) v h rest x
rows (s.Deleted a i) ts v h rest x t = holds (deleted a i ts) v h rest x
rows s.New ts v h rest x t = holds (new ts) v h rest x
rows (s.Arguments so_far) ts v h rest x t = holds (arguments so_far ts) v h rest x
rows (s.Items so_far) ts v h rest x t = holds (items so_far ts) v h rest x
rows (s.Fields so_far) ts v h rest x t = holds (fields so_far ts) v h rest x
rows (s.Names so_far) ts v h rest x t = holds (names so_far ts) v h rest x
rows s.Primary ts v h rest x t = holds (primary ts) v h rest x
rows s.Script ts v h rest x t = t
rows (s.Elements in_function functions statements) ts v h rest x t = t
rows s.Declaration ts v h rest x t = t
rows (s.Statements c so_far) ts v h rest x t = t
rows (s.Statement c) ts v h rest x t = t
rows (s.Block c) ts v h rest x t = t
rows (s.Decls no_in so_far) ts v h rest x t = t
rows (s.Clauses c stood so_far) ts v h rest x t = t

abbrev Both : (n : Symbol) → List Token → Value n → ℕ → List Token → Type 0
Both n ts v h rest = Table n ts v h rest × Meant n ts v h rest

-- What the table reads as a symbol, the productions read.
pub from_table : {n : Symbol} {ts rest : List Token} {v : Value n} {h : ℕ} → Table n ts v h rest → Meant n ts v h rest
from_table g = (least Both (λ n ts v h rest x. let t = built (mapped {P = Both} {Q = Table} (λ m ts v h rest y. y.0) x) in
    (t, rows n ts v h rest (mapped {P = Both} {Q = Meant} (λ m ts v h rest y. y.1) x) t)) g).1
