-- What the productions read as expressions is lawful.
use Rattle.std.proofs.Common.{◌≤◌, ◌<◌, ℕ, zero, suc, List, [], ◌∷◌, Some, None, arith}
use Rattle.js_tree.specs.declared.Fix.TheVariants as side
use Rattle.js_tree.specs.declared.Script as script
use Rattle.js_lexer.specs.declared.Token.{Token}
use Rattle.js_tree.specs.Lawful.{Each, Short, ExprWithin, around_body}
use Rattle.script_grammar.specs.Productions.{Part, Of, Reads}
use Rattle.script_grammar.specs.Productions.{Part as p}
use Rattle.script_grammar.specs.Productions.{Reads as r}
use Rattle.script_grammar.proofs.FromTable.{Body}
use Rattle.lawful_reads.specs.Short.{ShortTokens}
use Rattle.lawful_reads.proofs.Heads.{name_short, key_short, literal_key_short, identifier_short, constant_within, takes_one}
use Rattle.lawful_reads.proofs.Nodes as node
use Rattle.lawful_reads.proofs.Nodes.{Operated, FieldWithin, ElementsWithin, whole}

-- ---- bodies

-- A function's body that has at most so many levels is lawful within them.
abbrev pub Bodies : ℕ → Type 0
Bodies m = (ts rest : List Token) (b : script.Script) (i : ℕ) → Body ts b i rest → i ≤ m → ShortTokens ts → ElementsWithin m around_body b × ShortTokens rest

abbrev pub Below : ℕ → Type 0
Below n = (m : ℕ) → m < n → Bodies m

pub down : (m : ℕ) → Below (suc m) → Below m
down m k = λ i lt. k i (omega arith)

pub here : (m : ℕ) → Below (suc m) → Bodies m
here m k = k m (omega arith)

-- ---- expressions

-- What is read as a part is lawful within so many levels.
abbrev pub Within : (n : Part) → ℕ → Of n → Type 0
Within (p.Expr no_in) n v = Operated n v
Within (p.Commas no_in) n v = Operated n v
Within (p.Assign no_in) n v = Operated n v
Within (p.Conditional no_in) n v = Operated n v
Within (p.Chain no_in level) n v = Operated n v
Within (p.Binary no_in level) n v = Operated n v
Within p.Unary n v = Operated n v
Within p.Postfix n v = Operated n v
Within (p.Stem calls) n v = Operated n v
Within (p.Whole calls) n v = Operated n v
Within p.New n v = Operated n v
Within p.Given n all = Each (ExprWithin n) all
Within p.Arguments n all = Each (ExprWithin n) all
Within p.Items n all = Each (ExprWithin n) all
Within p.Fields n all = Each (FieldWithin n) all
Within p.Names n all = Each Short all
Within p.Parameters n all = Each Short all
Within p.Primary n v = Operated n v

pub part : {q : Part} {ts rest : List Token} {v : Of q} {h : ℕ} → Reads Body q ts v h rest → (n : ℕ) → h ≤ n → Below n → ShortTokens ts → Within q n v × ShortTokens rest
part (r.first g) n le k s = part g n le k s
part (r.comma {a = a} {b = b} {h = h} {i = i} g e g') (suc m) le k s =
    let x = part g m (omega arith) (down m k) s in let y = part g' m (omega arith) (down m k) x.1.1 in
    (node.comma m a.expr b.expr x.0.0 y.0.0, y.1)
part (r.all_commas g e) n le k s = part g n le k s
part (r.assign {a = a} {b = b} {h = h} {i = i} {op = op} g z e g') (suc m) le k s =
    let x = part g m (omega arith) (down m k) s in let y = part g' m (omega arith) (down m k) x.1.1 in
    (node.assign m op a.expr b.expr (x.0.1 z) x.0.0 y.0.0, y.1)
part (r.unassigned g z) n le k s = part g n le k s
part (r.conditional {a = a} {b = b} {c = c} {h = h} {i = i} {j = j} g e g' e' g'') (suc m) le k s =
    let x = part g m (omega arith) (down m k) s in let y = part g' m (omega arith) (down m k) x.1.1 in let z = part g'' m (omega arith) (down m k) y.1.1 in
    (node.conditional m a.expr b.expr c.expr x.0.0 y.0.0 z.0.0, z.1)
part (r.unconditional g e) n le k s = part g n le k s
part (r.operand g) n le k s = part g n le k s
part (r.operator {a = a} {b = b} {h = h} {i = i} {op = op} g e g') (suc m) le k s =
    let x = part g m (omega arith) (down m k) s in let y = part g' m (omega arith) (down m k) x.1.1 in
    (node.joined_within m op a.expr b.expr x.0.0 y.0.0, y.1)
part (r.binary g e) n le k s = part g n le k s
part (r.unary g) n le k s = part g n le k s
part (r.delete {a = a} {h = h} {base = base} {key = key} q g z e) n le k s =
    let x = part g n (omega arith) k s.1 in (node.delete n a.expr base key e x.0.0, x.1)
part (r.void {a = a} {h = h} q g) (suc m) le k s = let x = part g m (omega arith) (down m k) s.1 in (node.void m a.expr x.0.0, x.1)
part (r.typeof {a = a} {h = h} q g) (suc m) le k s = let x = part g m (omega arith) (down m k) s.1 in (node.typeof m a.expr x.0.0, x.1)
part (r.signed {a = a} {h = h} {sign = sign} q g) (suc m) le k s = let x = part g m (omega arith) (down m k) s.1 in (node.signed m sign a.expr x.0.0, x.1)
part (r.update {a = a} {h = h} {step = step} q g z) (suc m) le k s = let x = part g m (omega arith) (down m k) s.1 in
    (node.update m a.expr step side.Prefix (x.0.1 z) x.0.0, x.1)
part (r.postfix g) n le k s = part g n le k s
part (r.step {a = a} {h = h} {step = step} g z l e) (suc m) le k s = let x = part g m (omega arith) (down m k) s in
    (node.update m a.expr step side.Postfix (x.0.1 z) x.0.0, x.1.1)
part (r.no_step g z) n le k s = part g n le k s
part (r.primary g) n le k s = part g n le k s
part (r.new g) n le k s = part g n le k s
part (r.computed {a = a} {b = b} {h = h} {i = i} g q g' e) (suc m) le k s =
    let x = part g m (omega arith) (down m k) s in let y = part g' m (omega arith) (down m k) x.1.1 in
    (node.member_computed m a.expr b.expr x.0.0 y.0.0, y.1.1)
part (r.fixed {u = u} {a = a} {h = h} {units = units} g q e) (suc m) le k s = let x = part g m (omega arith) (down m k) s in
    (node.member_fixed m a.expr units x.0.0 (key_short u units x.1.1.0 e), x.1.1.1)
part (r.call {a = a} {all = all} {h = h} {i = i} g q g') (suc m) le k s =
    let x = part g m (omega arith) (down m k) s in let y = part g' m (omega arith) (down m k) x.1.1 in
    (node.call m a.expr all x.0.0 y.0, y.1)
part (r.left g e) n le k s = part g n le k s
part (r.new_with {a = a} {all = all} {h = h} {i = i} e g e' g') (suc m) le k s =
    let x = part g m (omega arith) (down m k) s.1 in let y = part g' m (omega arith) (down m k) x.1.1 in
    (node.new m a.expr all x.0.0 y.0, y.1)
part (r.new_alone {a = a} {h = h} e g e') (suc m) le k s = let x = part g m (omega arith) (down m k) s.1 in
    (node.new m a.expr [] x.0.0 tt, x.1)
part (r.given_none e) n le k s = (tt, s.1)
part (r.given g e) n le k s = let x = part g n le k s in (x.0, x.1.1)
part (r.last_argument g e) n le k s = let x = part g n le k s in ((x.0.0, tt), x.1)
part (r.argument {h = h} {i = i} g e g') n le k s = let x = part g n (omega arith) k s in let y = part g' n (omega arith) k x.1.1 in ((x.0.0, y.0), y.1)
part (r.last_item g e) n le k s = let x = part g n le k s in ((x.0.0, tt), x.1)
part (r.last_item_comma g e e') n le k s = let x = part g n le k s in ((x.0.0, tt), x.1.1)
part (r.item {h = h} {i = i} g e g') n le k s = let x = part g n (omega arith) k s in let y = part g' n (omega arith) k x.1.1 in ((x.0.0, y.0), y.1)
part (r.last_field {t = t} {a = a} {key = key} q e g e') n le k s = let x = part g n le k s.1.1 in
    ((node.field n key a.expr (literal_key_short t key s.0 q) x.0.0, tt), x.1)
part (r.next_field {t = t} {a = a} {h = h} {i = i} {key = key} q e g e' g') n le k s =
    let x = part g n (omega arith) k s.1.1 in let y = part g' n (omega arith) k x.1.1 in
    ((node.field n key a.expr (literal_key_short t key s.0 q) x.0.0, y.0), y.1)
part (r.last_name {t = t} {units = units} q e) n le k s = ((name_short t units s.0 q, tt), s.1)
part (r.name {t = t} {units = units} q e g) n le k s = let x = part g n le k s.1.1 in ((name_short t units s.0 q, x.0), x.1)
part (r.no_parameters e e') n le k s = (tt, s.1.1)
part (r.parameters e g e') n le k s = let x = part g n le k s.1 in (x.0, x.1.1)
part (r.this q) (suc m) le k s = (node.this m, s.1)
part (r.identifier {t = t} {units = units} q) (suc m) le k s = (node.name m units (identifier_short t units s.0 q), s.1)
part (r.literal {t = t} {value = value} q) (suc m) le k s = (node.literal m value (constant_within m t value s.0 q), s.1)
part (r.parentheses {a = a} {h = h} q g e) n le k s = let x = part g n (omega arith) k s.1 in (whole n a.expr x.0.0, x.1.1)
part (r.array_empty q e) (suc m) le k s = (node.array m [] tt, s.1.1)
part (r.array {all = all} {h = h} q g e) (suc m) le k s = let x = part g m (omega arith) (down m k) s.1 in (node.array m all x.0, x.1.1)
part (r.object_empty q e) (suc m) le k s = (node.object m [] tt, s.1.1)
part (r.object {all = all} {h = h} q g e) (suc m) le k s = let x = part g m (omega arith) (down m k) s.1 in (node.object m all x.0, x.1.1)
part (r.print {all = all} {h = h} q e g) (suc m) le k s = let x = part g m (omega arith) (down m k) s.1.1 in (node.print m all x.0, x.1)
part (r.with_one {t = t} {a = a} {h = h} {word = word} q e g e') (suc m) le k s = let x = part g m (omega arith) (down m k) s.1.1 in
    (node.called_within m word a.expr (takes_one t word s.0 q) x.0.0, x.1.1)
part (r.with_none {word = word} q e e') (suc m) le k s = (node.alone_within m word, s.1.1.1)
part (r.function_alone {us = us} {rest = rest} {v = v} {names = names} {body = body} {h = h} q g e b e') (suc m) le k s =
    let x = part g m (omega arith) (down m k) s.1 in let y = here m k us (v ∷ rest) body h b (omega arith) x.1.1 in
    (node.function m None names body tt x.0 y.0, y.1.1)
part (r.function_named {us = us} {rest = rest} {n = id} {v = v} {units = units} {names = names} {body = body} {h = h} q q' g e b e') (suc m) le k s =
    let x = part g m (omega arith) (down m k) s.1.1 in let y = here m k us (v ∷ rest) body h b (omega arith) x.1.1 in
    (node.function m (Some units) names body (name_short id units s.1.0 q') x.0 y.0, y.1.1)
part g zero le k s = absurd (omega arith)
