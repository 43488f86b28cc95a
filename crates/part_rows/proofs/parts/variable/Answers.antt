use Rattle.std.proofs.Common.{◌≢◌, Bool, None, Some, sym, ◌∙◌, arith}
use Rattle.js_lexer.specs.declared.Mark.TheVariants as m
use Rattle.js_tree.specs.declared.Variable as variable
use Rattle.script_grammar.specs.Words.{Units, is}
use Rattle.script_grammar.specs.Rules.{Symbol, Rule}
use Rattle.script_grammar.specs.Rules.Rule.{peek, eat, read}
use Rattle.script_grammar.specs.Rules.Symbol.{Assign}
use Rattle.script_grammar.specs.Grammar.{either, decl_of}
use Rattle.script_grammar.specs.declared.stop.Stop.TheVariants.{Memory}
use Rattle.script_grammar.proofs.Along.{peeks, peeks_end, eats, passes_level, fails_level, yes, no, as_high, handed_on}
use Rattle.script_grammar.proofs.Tokens.{live_mark}
use Rattle.part_rows.specs.Lines.{TookVariable, MissesVariable}
use Rattle.part_rows.proofs.Joints.{named_shorter, given_shorter, of_variable}
use Rattle.part_rows.proofs.parts.variable.Goals as goal

-- what stands after the name
abbrev after : {n : Symbol} → (no_in : Bool) → (variable.Variable → Rule n) → Units → Rule n
after no_in rule units = peek (λ t. either (is m.Assign t) (eat (read 0 (Assign no_in) (λ v _. rule (decl_of units (Some v.expr))))) (rule (decl_of units None)))

pub returns-in_err-units-clause-takes : goal.returns-in_err-units-clause-takes
returns-in_err-units-clause-takes g c = handed_on (λ r. TookVariable c.args.no_in c.args.base c.args.tokens.now r.0 r.1 r.2.now) (λ e. e ≢ Memory → MissesVariable c.args.no_in c.args.base c.args.tokens.now e)
    c.from_residual.result c.from_residual.ensures.1 (λ not. record { row = λ n h rule. (c.in_err-units.ensures not).row n c.args.base h (after c.args.no_in rule) })

pub returns-in_err-token-clause-takes : goal.returns-in_err-token-clause-takes
returns-in_err-token-clause-takes g c = handed_on (λ r. TookVariable c.args.no_in c.args.base c.args.tokens.now r.0 r.1 r.2.now) (λ e. e ≢ Memory → MissesVariable c.args.no_in c.args.base c.args.tokens.now e)
    c.from_residual-in_err-token.result c.from_residual-in_err-token.ensures.1
    (λ not. record { row = λ n h rule. c.in_ok-units.ensures.row n c.args.base h (after c.args.no_in rule) _ (peeks_end c.in_err-token.ensures.0 c.in_err-token.ensures.1) })

pub returns-then-not-is-clause-takes : goal.returns-then-not-is-clause-takes
returns-then-not-is-clause-takes g c = record {
  row = λ n h rule o w. c.in_ok-units.ensures.row n c.args.base h (after c.args.no_in rule) o (peeks c.in_ok-token.ensures (no _ (sym c.is.ensures ∙ c.if-not-is.true) (of_variable rule c.variable.ensures (as_high (omega arith) w))));
  shorter = named_shorter c.in_ok-units.ensures;
}

pub returns-in_err-value-clause-takes : goal.returns-in_err-value-clause-takes
returns-in_err-value-clause-takes g c = let q = sym c.is.ensures ∙ c.if-not-is.false in handed_on (λ r. TookVariable c.args.no_in c.args.base c.args.tokens.now r.0 r.1 r.2.now) (λ e. e ≢ Memory → MissesVariable c.args.no_in c.args.base c.args.tokens.now e)
    c.from_residual-in_err-value.result c.from_residual-in_err-value.ensures.1
    (λ not. record { row = λ n h rule. c.in_ok-units.ensures.row n c.args.base h (after c.args.no_in rule) _ (peeks c.in_ok-token.ensures (yes _ q (eats (live_mark m.Assign _ q) c.in_ok-token.ensures (fails_level (c.in_err-value.ensures.meets not))))) })

pub returns-clause-takes : goal.returns-clause-takes
returns-clause-takes g c = let q = sym c.is.ensures ∙ c.if-not-is.false in record {
  row = λ n h rule o w. c.in_ok-units.ensures.row n c.args.base h (after c.args.no_in rule) o (peeks c.in_ok-token.ensures (yes _ q (eats (live_mark m.Assign _ q) c.in_ok-token.ensures (passes_level c.in_ok-value.ensures.meets (of_variable rule c.variable-2.ensures w)))));
  shorter = given_shorter c.in_ok-units.ensures c.in_ok-token.ensures c.in_ok-value.ensures.meets;
}
