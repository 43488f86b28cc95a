-- Rows that take a token where they read at all.
use Rattle.std.proofs.Common.{◌≡◌, ℕ, zero, suc, ◌<◌, ◌≤◌, Bool, true, false, Option, List, length, Ok, Err, refl, ap, subst, arith}
use Rattle.js_lexer.specs.declared.Token.{Token}
use Rattle.script_grammar.specs.declared.Form.{Form}
use Rattle.script_grammar.specs.declared.stop.Stop.{Stop}
use Rattle.script_grammar.specs.declared.classes.Head.{Head}
use Rattle.script_grammar.specs.declared.classes.Head.TheVariants as head
use Rattle.script_grammar.specs.declared.classes.Name.TheVariants as ident
use Rattle.script_grammar.specs.declared.classes.Prefix.{Prefix}
use Rattle.script_grammar.specs.declared.classes.Prefix.TheVariants as prefix
use Rattle.script_grammar.specs.declared.classes.Start.{Start}
use Rattle.script_grammar.specs.declared.classes.Start.TheVariants as start
use Rattle.script_grammar.specs.Words.{head_of, prefix_of, start_of}
use Rattle.script_grammar.specs.Rules.{Context, Symbol, Value, Rule, Done, Outcome}
use Rattle.script_grammar.specs.Rules.Symbol.{Declaration, Statement, Block, Expr, Assign, Conditional, Binary, Unary, Postfix, Left, New, Primary}
use Rattle.script_grammar.specs.Rules.Rule.{give, refuse, peek, eat, node, stand, read}
use Rattle.script_grammar.specs.Grammar.{grammar, either, primary_by, unary_by, statement_as}
use Rattle.script_grammar.specs.Goes.{Goes}
use Rattle.script_grammar.specs.Goes.Goes.{given, refused, peeked, eaten, stands, too_deep, begins, begins_deep, passed, failed, ends_refuse, ends_peek, ends_eat, ends_node, ends_stand}
use Rattle.script_grammar.proofs.Generic.{shorter}

pub data Hungry : (n : Symbol) → Rule n → Type 0 where
  of_refuse : {n : Symbol} {form : Option Form} → Hungry n (refuse form)
  of_eat : {n : Symbol} {r : Rule n} → Hungry n (eat r)
  of_node : {n : Symbol} {k : ℕ} {r : Rule n} → Hungry n (node k r)
  of_stand : {n : Symbol} {k : ℕ} {r : Rule n} → Hungry n r → Hungry n (stand k r)
  of_peek : {n : Symbol} {f : Token → Rule n} → ((t : Token) → Hungry n (f t)) → Hungry n (peek f)
  of_member : {n m : Symbol} {k : ℕ} {f : Value m → ℕ → Rule n} → Hungry m (grammar m) → Hungry n (read k m f)

same_done : {n : Symbol} {d e : Done n} → ◌≡◌ {A = Outcome n} (Ok d) (Ok e) → d ≡ e
same_done e = cc

no_done : {n : Symbol} {d : Done n} {e : Stop} → ◌≡◌ {A = Outcome n} (Err e) (Ok d) → ⊥
no_done e = cc

not_given : {n : Symbol} {v : Value n} → Hungry n (give v) → ⊥
not_given h = elim h [ ]

at_most : {L : ℕ} {n : Symbol} {b : ℕ} {r : Rule n} {ts : List Token} {o : Outcome n} → Goes L n b r ts o → (d : Done n) → o ≡ Ok d → length d.rest ≤ length ts
at_most {L} {n} {b} {r} {ts} g d e = shorter (subst (λ x. Goes L n b r ts x) e g)

fed : {L : ℕ} {n : Symbol} {b : ℕ} {r : Rule n} {ts : List Token} {o : Outcome n} → Goes L n b r ts o → Hungry n r → (d : Done n) → o ≡ Ok d → length d.rest < length ts
fed given h d e = absurd (not_given h)
fed refused h d e = absurd (no_done e)
fed (peeked {t = t} g) (of_peek f) d e = fed g (f t) d e
fed (eaten p g) h d e = omega (arith, at_most g d e)
fed (stands {o = Ok x} p y g) h d e = omega (arith, at_most g x refl, ap (λ (z : Done _). length z.rest) (same_done e))
fed (stands {o = Err x} p y g) h d e = absurd (no_done e)
fed (too_deep q x) h d e = absurd (no_done e)
fed (begins {o = Ok x} y g) (of_stand h) d e = omega (arith, fed g h x refl, ap (λ (z : Done _). length z.rest) (same_done e))
fed (begins {o = Err x} y g) h d e = absurd (no_done e)
fed (begins_deep x higher g) h d e = absurd (no_done e)
fed (passed {d = c} {o = Ok x} g w) (of_member h) d e = omega (arith, fed g h c refl, at_most w x refl, ap (λ (z : Done _). length z.rest) (same_done e))
fed (passed {o = Err x} g w) h d e = absurd (no_done e)
fed (failed g) h d e = absurd (no_done e)
fed ends_refuse h d e = absurd (no_done e)
fed ends_peek h d e = absurd (no_done e)
fed ends_eat h d e = absurd (no_done e)
fed ends_node h d e = absurd (no_done e)
fed ends_stand h d e = absurd (no_done e)

one_of : {n : Symbol} {r t : Rule n} (b : Bool) → Hungry n r → Hungry n t → Hungry n (either b r t)
one_of true g h = g
one_of false g h = h

primary_at : (o : Head) → Hungry Primary (primary_by o)
primary_at head.This = of_node
primary_at (head.Identifier (ident.Named units)) = of_node
primary_at (head.Identifier (ident.Out form)) = of_refuse
primary_at (head.Identifier ident.Other) = of_refuse
primary_at (head.Constant value) = of_node
primary_at head.Parenthesis = of_eat
primary_at head.Array = of_node
primary_at head.Object = of_node
primary_at head.Function = of_node
primary_at head.Many = of_node
primary_at (head.One word) = of_node
primary_at (head.Zero word) = of_node
primary_at head.RegExp = of_refuse
primary_at head.Neither = of_refuse

primary : Hungry Primary (grammar Primary)
primary = of_peek (λ t. primary_at (head_of t.kind))

new : Hungry New (grammar New)
new = of_peek (λ t. one_of _ of_node of_refuse)

left : Hungry Left (grammar Left)
left = of_peek (λ t. one_of _ (of_member new) (of_member primary))

postfix : Hungry Postfix (grammar Postfix)
postfix = of_member left

unary_at : (o : Prefix) → Hungry Unary (unary_by o)
unary_at prefix.Delete = of_node
unary_at prefix.Void = of_node
unary_at prefix.Typeof = of_node
unary_at (prefix.Update step) = of_node
unary_at (prefix.Signed sign) = of_node
unary_at prefix.Neither = of_member postfix

unary : Hungry Unary (grammar Unary)
unary = of_peek (λ t. unary_at (prefix_of t.kind))

binary : (no_in : Bool) (level : ℕ) → Hungry (Binary no_in level) (grammar (Binary no_in level))
binary no_in zero = of_member unary
binary no_in (suc level) = of_member (binary no_in level)

conditional : (no_in : Bool) → Hungry (Conditional no_in) (grammar (Conditional no_in))
conditional no_in = of_member (binary no_in 10)

assign : (no_in : Bool) → Hungry (Assign no_in) (grammar (Assign no_in))
assign no_in = of_member (conditional no_in)

expr : (no_in : Bool) → Hungry (Expr no_in) (grammar (Expr no_in))
expr no_in = of_member (assign no_in)

block : (c : Context) → Hungry (Block c) (grammar (Block c))
block c = of_peek (λ t. one_of _ of_node of_refuse)

statement_at : (c : Context) (o : Start) → Hungry (Statement c) (statement_as c o)
statement_at c start.Block = of_member (block c)
statement_at c start.Var = of_node
statement_at c start.Empty = of_node
statement_at c start.If = of_node
statement_at c start.Do = of_node
statement_at c start.While = of_node
statement_at c start.For = of_node
statement_at c start.Continue = one_of _ of_node of_refuse
statement_at c start.Break = one_of _ of_node of_refuse
statement_at c start.Return = one_of _ of_node of_refuse
statement_at c start.Throw = of_node
statement_at c start.Switch = of_node
statement_at c start.Try = of_node
statement_at c start.Identifier = of_member (expr false)
statement_at c start.Parenthesis = of_stand (of_member (expr false))
statement_at c start.Expression = of_member (expr false)
statement_at c start.Neither = of_refuse

statement : (c : Context) → Hungry (Statement c) (grammar (Statement c))
statement c = of_peek (λ t. statement_at c (start_of t.kind))

declaration : Hungry Declaration (grammar Declaration)
declaration = of_peek (λ t. one_of _ of_node of_refuse)

-- a statement and a declaration take a token
pub statement_shorter : {c : Context} {L b : ℕ} {ts : List Token} {d : Done (Statement c)} → Goes L (Statement c) b (grammar (Statement c)) ts (Ok d) → length d.rest < length ts
statement_shorter {c} {d = d} g = fed g (statement c) d refl

pub declaration_shorter : {L b : ℕ} {ts : List Token} {d : Done Declaration} → Goes L Declaration b (grammar Declaration) ts (Ok d) → length d.rest < length ts
declaration_shorter {d = d} g = fed g declaration d refl
