-- What the productions read as statements, declarations and scripts is lawful.
use Rattle.std.proofs.Common.{◌≡◌, ◌≤◌, ◌<◌, ◌⊎◌, inl, inr, ℕ, zero, suc, true, false, List, ◌∷◌, Some, None, count_by, sym, subst, arith}
use Rattle.std.proofs.Math.Nat.{eq-or-lt_of_le}
use Rattle.js_tree.specs.declared.Script.{Script}
use Rattle.js_lexer.specs.declared.Token.{Token}
use Rattle.js_tree.specs.Lawful.{Around, Each, IfThere, IsBlock, is_default, around_script, LawfulScript, ExprWithin, StmtWithin, DeclarationWithin}
use Rattle.js_tree.specs.Trees.{catch_of}
use Rattle.script_grammar.specs.Goes.{Reads as Read}
use Rattle.script_grammar.specs.Rules.{Context}
use Rattle.script_grammar.specs.States.{Part, Of, States}
use Rattle.script_grammar.specs.States.{Part as p}
use Rattle.script_grammar.specs.States.{States as q}
use Rattle.script_grammar.proofs.FromTable.{Body}
use Rattle.script_grammar.proofs.Paths.{from_limit}
use Rattle.script_grammar.proofs.Sentences.{sentences}
use Rattle.lawful_reads.specs.Short.{ShortTokens}
use Rattle.lawful_reads.proofs.Heads.{name_short, ended_short, halted_short}
use Rattle.lawful_reads.proofs.Heights.{height_le}
use Rattle.lawful_reads.proofs.Nodes as node
use Rattle.lawful_reads.proofs.Nodes.{CaseWithin, VariableWithin, StartWithin, ElementsWithin, may_stand}
use Rattle.lawful_reads.proofs.Parts.{Bodies, Below, down, here, part}

-- what stands round a statement, in the words of lawful scripts
abbrev pub around : Context → Around
around c = record { in_function = c.in_function; in_loop = c.in_loop; in_switch = c.in_switch }

-- What is read as a part is lawful within so many levels.
abbrev pub Within : (x : Part) → ℕ → Of x → Type 0
Within p.Script n v = ElementsWithin n around_script v
Within (p.Elements f) n all = Each (DeclarationWithin n) all.0 × Each (StmtWithin n record { in_function = f; in_loop = false; in_switch = false }) all.1
Within p.Declaration n v = DeclarationWithin n v
Within (p.Statements c) n all = Each (StmtWithin n (around c)) all
Within (p.Statement c) n v = StmtWithin n (around c) v
Within (p.Decls no_in) n all = Each (VariableWithin n) all
Within (p.Clauses c stood) n all = Each (CaseWithin n (around c)) all × (count_by is_default all ≤ may_stand stood)
Within p.Condition n a = ExprWithin n a
Within (p.Block c) n v = IsBlock v × StmtWithin n (around c) v
Within p.First n v = (c : Around) → StartWithin n c v
Within (p.Optional mark) n o = IfThere (ExprWithin n) o
Within (p.Finally c) n v = IsBlock v × StmtWithin n (around c) v

pub state : {x : Part} {ts rest : List Token} {v : Of x} {h : ℕ} → States Body x ts v h rest → (n : ℕ) → h ≤ n → Below n → ShortTokens ts → Within x n v × ShortTokens rest
state (q.a_script {all = all} g e) n le w s = let x = state g n le w s in (node.elements n around_script all.0 all.1 x.0.0 x.0.1, x.1)
state (q.no_more e) n le w s = ((tt, tt), s)
state (q.declared {h = h} {i = i} g g') n le w s = let x = state g n (omega arith) w s in let y = state g' n (omega arith) w x.1 in (((x.0, y.0.0), y.0.1), y.1)
state (q.stated {h = h} {i = i} g g') n le w s = let x = state g n (omega arith) w s in let y = state g' n (omega arith) w x.1 in ((y.0.0, (x.0, y.0.1)), y.1)
state (q.a_declaration {us = us} {rest = rest} {n = id} {v = v} {units = units} {names = names} {body = body} {h = h} e e' g e1 b e2) (suc m) le w s =
    let x = part g m (omega arith) (down m w) s.1.1 in let y = here m w us (v ∷ rest) body h b (omega arith) x.1.1 in
    (node.declaration m units names body (name_short id units s.1.0 e') x.0 y.0, y.1.1)
state (q.none e) n le w s = (tt, s)
state (q.one_more {h = h} {i = i} g g') n le w s = let x = state g n (omega arith) w s in let y = state g' n (omega arith) w x.1 in ((x.0, y.0), y.1)
state (q.block {c = c} {all = all} {h = h} e g e') (suc m) le w s = let x = state g m (omega arith) (down m w) s.1 in (node.block m (around c) all x.0, x.1.1)
state (q.condition e g e') n le w s = let x = part g n le w s.1 in (x.0.0, x.1.1)
state (q.last_decl {t = t} {units = units} e ea ec) n le w s = ((node.variable n units None (name_short t units s.0 e) tt, tt), s.1)
state (q.next_decl {t = t} {units = units} e ec g) n le w s = let y = state g n le w s.1.1 in ((node.variable n units None (name_short t units s.0 e) tt, y.0), y.1)
state (q.last_value {t = t} {units = units} {a = a} e ea g ec) n le w s = let x = part g n le w s.1.1 in
    ((node.variable n units (Some a.expr) (name_short t units s.0 e) x.0.0, tt), x.1)
state (q.value {t = t} {units = units} {a = a} {h = h} {i = i} e ea g ec g') n le w s = let x = part g n (omega arith) w s.1.1 in let y = state g' n (omega arith) w x.1.1 in
    ((node.variable n units (Some a.expr) (name_short t units s.0 e) x.0.0, y.0), y.1)
state (q.braces g) n le w s = let x = state g n le w s in (x.0.1, x.1)
state (q.var {c = c} {all = all} {h = h} e g z) (suc m) le w s = let x = state g m (omega arith) (down m w) s.1 in (node.var m (around c) all x.0, ended_short z x.1)
state (q.empty {c = c} e) (suc m) le w s = (node.empty m (around c), s.1)
state (q.expression {c = c} {a = a} {h = h} b f g l z) (suc m) le w s = let x = part g m (omega arith) (down m w) s in (node.expression m (around c) a.expr x.0.0, ended_short z x.1)
state (q.if_alone {c = c} {a = a} {x = x1} {h = h} {i = i} e g g' e') (suc m) le w s =
    let x = state g m (omega arith) (down m w) s.1 in let y = state g' m (omega arith) (down m w) x.1 in
    (node.branch m (around c) a x1 None x.0 y.0 tt, y.1)
state (q.if_else {c = c} {a = a} {x = x1} {y = y1} {h = h} {i = i} {j = j} e g g' e' g'') (suc m) le w s =
    let x = state g m (omega arith) (down m w) s.1 in let y = state g' m (omega arith) (down m w) x.1 in let z = state g'' m (omega arith) (down m w) y.1.1 in
    (node.branch m (around c) a x1 (Some y1) x.0 y.0 z.0, z.1)
state (q.do_while {c = c} {a = a} {x = x1} {h = h} {i = i} e g e' g' z) (suc m) le w s =
    let x = state g m (omega arith) (down m w) s.1 in let y = state g' m (omega arith) (down m w) x.1.1 in
    (node.do_while m (around c) x1 a x.0 y.0, ended_short z y.1)
state (q.while_loop {c = c} {a = a} {x = x1} {h = h} {i = i} e g g') (suc m) le w s =
    let x = state g m (omega arith) (down m w) s.1 in let y = state g' m (omega arith) (down m w) x.1 in
    (node.while_loop m (around c) a x1 x.0 y.0, y.1)
state (q.first_none e) n le w s = (node.start_none n, s.1)
state (q.first_expr {a = a} g e) n le w s = let x = part g n le w s in (λ c. node.start_expr n c a.expr x.0.0, x.1.1)
state (q.first_var {all = all} {h = h} e g e') (suc m) le w s = let x = state g m (omega arith) (down m w) s.1 in (λ c. node.start_var m c all x.0, x.1.1)
state (q.nothing e) n le w s = (tt, s.1)
state (q.something g e) n le w s = let x = part g n le w s in (x.0.0, x.1.1)
state (q.for_loop {c = c} {start = start} {test = test} {step = step} {x = x1} {h = h} {i = i} {j = j} {k = k} e e' g g1 g2 g3) (suc m) le w s =
    let a = state g m (omega arith) (down m w) s.1.1 in let b = state g1 m (omega arith) (down m w) a.1 in let d = state g2 m (omega arith) (down m w) b.1 in let y = state g3 m (omega arith) (down m w) d.1 in
    (node.for_loop m (around c) start test step x1 (a.0 (around c)) b.0 d.0 y.0, y.1)
state (q.for_in {c = c} {a = a} {b = b} {y = y1} {h = h} {i = i} {j = j} e e' g z e2 g1 e3 g2) (suc m) le w s =
    let x = part g m (omega arith) (down m w) s.1.1 in let y = part g1 m (omega arith) (down m w) x.1.1 in let d = state g2 m (omega arith) (down m w) y.1.1 in
    (node.for_in m (around c) a.expr b.expr y1 (x.0.1 z) x.0.0 y.0.0 d.0, d.1)
state (q.for_in_var {c = c} {n = id} {units = units} {b = b} {y = y1} {i = i} {j = j} e e1 e2 e3 e4 g e5 g1) (suc m) le w s =
    let y = part g m (omega arith) (down m w) s.1.1.1.1.1 in let d = state g1 m (omega arith) (down m w) y.1.1 in
    (node.for_in_var m (around c) units b.expr y1 (name_short id units s.1.1.1.0 e3) y.0.0 d.0, d.1)
state (q.continue {c = c} e z l x) (suc m) le w s = (node.continues m (around c) z, halted_short x s.1)
state (q.break {c = c} e z l x) (suc m) le w s = (node.breaks m (around c) z, halted_short x s.1)
state (q.return_alone {c = c} e z x) (suc m) le w s = (node.returns m (around c) None z tt, halted_short x s.1)
state (q.return_value {c = c} {a = a} {h = h} e z l g d) (suc m) le w s = let x = part g m (omega arith) (down m w) s.1 in
    (node.returns m (around c) (Some a.expr) z x.0.0, ended_short d x.1)
state (q.throw {c = c} {a = a} {h = h} e l g d) (suc m) le w s = let x = part g m (omega arith) (down m w) s.1 in (node.throws m (around c) a.expr x.0.0, ended_short d x.1)
state (q.a_switch {c = c} {a = a} {all = all} {h = h} {i = i} e g e1 g1 e2) (suc m) le w s =
    let x = state g m (omega arith) (down m w) s.1 in let y = state g1 m (omega arith) (down m w) x.1.1 in
    (node.switched m (around c) a all x.0 y.0.1 y.0.0, y.1.1)
state (q.no_clause {stood = stood} e) n le w s = ((tt, node.no_defaults stood), s)
state (q.case {c = c} {stood = stood} {a = a} {body = body} {all = all} {h = h} {i = i} {j = j} e g e1 g1 g2) n le w s =
    let x = part g n (omega arith) w s.1 in let y = state g1 n (omega arith) w x.1.1 in let z = state g2 n (omega arith) w y.1 in
    (((node.clause n (around c) (Some a.expr) body x.0.0 y.0, z.0.0), node.no_default a.expr body all (may_stand stood) z.0.1), z.1)
state (q.default {c = c} {body = body} {all = all} {i = i} {j = j} e e1 g1 g2) n le w s =
    let y = state g1 n (omega arith) w s.1.1 in let z = state g2 n (omega arith) w y.1 in
    (((node.clause n (around c) None body tt y.0, z.0.0), node.one_default body all z.0.1), z.1)
state (q.last e g) n le w s = state g n le w s.1
state (q.try_catch {c = c} {n = id} {units = units} {body = body} {caught = caught} {h = h} {i = i} e g e1 e2 e3 e4 g1 e5) (suc m) le w s =
    let x = state g m (omega arith) (down m w) s.1 in let y = state g1 m (omega arith) (down m w) x.1.1.1.1.1 in
    (node.tries m (around c) body (Some (catch_of units caught)) None x.0.0 x.0.1 tt (node.catches m (around c) units caught (name_short id units x.1.1.1.0 e3) y.0.0 y.0.1) tt, y.1)
state (q.try_both {c = c} {n = id} {units = units} {body = body} {caught = caught} {ended = ended} {h = h} {i = i} {j = j} e g e1 e2 e3 e4 g1 g2) (suc m) le w s =
    let x = state g m (omega arith) (down m w) s.1 in let y = state g1 m (omega arith) (down m w) x.1.1.1.1.1 in let z = state g2 m (omega arith) (down m w) y.1 in
    (node.tries m (around c) body (Some (catch_of units caught)) (Some ended) x.0.0 x.0.1 tt (node.catches m (around c) units caught (name_short id units x.1.1.1.0 e3) y.0.0 y.0.1) z.0, z.1)
state (q.try_finally {c = c} {body = body} {ended = ended} {h = h} {j = j} e g g2) (suc m) le w s =
    let x = state g m (omega arith) (down m w) s.1 in let z = state g2 m (omega arith) (down m w) x.1 in
    (node.tries m (around c) body None (Some ended) x.0.0 x.0.1 tt tt z.0, z.1)
state g zero le w s = absurd (omega arith)

-- ---- bodies and scripts

body_made : (n : ℕ) → Below n → Bodies n
body_made n w ts rest b i g le s =
    let read = sentences g in let x = state read.2 n le w s in
    (subst (ElementsWithin n (around record { in_function = true; in_loop = false; in_switch = false })) (sym read.1) (node.elements n (around record { in_function = true; in_loop = false; in_switch = false }) read.0.0 read.0.1 x.0.0 x.0.1), x.1)

below : (n : ℕ) → Below n
below zero = λ m lt. absurd (omega arith)
below (suc n) = λ m lt. elim (last_or_less m n lt) [
  | inl e ↦ subst Bodies (sym e) (body_made n (below n))
  | inr less ↦ below n m less
]
  where
    last_or_less : (m n : ℕ) → m < suc n → (m ≡ n) ⊎ (m < n)
    last_or_less m n lt = eq-or-lt_of_le (omega arith)

pub read_lawful : (ts : List Token) (tree : Script) → ShortTokens ts → Read ts tree 200 → LawfulScript tree
unfolding LawfulScript
read_lawful ts tree s read = (state (sentences (from_limit read.2)) 200 (height_le read.2) (below 200) s).0
