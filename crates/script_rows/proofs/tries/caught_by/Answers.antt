use Rattle.std.proofs.Common.{◌≢◌, arith}
use Rattle.js_lexer.specs.declared.Mark.TheVariants as m
use Rattle.js_tree.specs.declared.Catch as caught
use Rattle.js_tree.specs.Trees.{catch_of}
use Rattle.script_grammar.specs.Grammar.{a_name, block, expect}
use Rattle.script_grammar.specs.Rules.{Context, Symbol, Rule}
use Rattle.script_grammar.specs.Words.{Units}
use Rattle.script_grammar.specs.declared.stop.Stop.TheVariants.{Memory}
use Rattle.script_grammar.proofs.Along.{passes, fails, by, as_high, expects, misses, handed_on}
use Rattle.script_rows.specs.Parts.{TookCatch, MissesCatch}
use Rattle.script_rows.proofs.tries.caught_by.Goals as goal

abbrev after : {n : Symbol} (c : Context) → (caught.Catch → Rule n) → Units → Rule n
after c rule units = expect m.CloseParen (block c (λ inner. rule (catch_of units inner)))

pub returns-in_err-open-clause-takes : goal.returns-in_err-open-clause-takes
returns-in_err-open-clause-takes g c = handed_on (λ p. TookCatch c.args.around c.args.base c.args.tokens.now p.0 p.1 p.2.now) (λ e. e ≢ Memory → MissesCatch c.args.around c.args.base c.args.tokens.now e)
    c.from_residual.result c.from_residual.ensures.1 (λ not. record { row = λ n h rule. misses m.OpenParen (a_name (after c.args.around rule)) c.in_err-open.ensures })

pub returns-in_err-units-clause-takes : goal.returns-in_err-units-clause-takes
returns-in_err-units-clause-takes g c = handed_on (λ p. TookCatch c.args.around c.args.base c.args.tokens.now p.0 p.1 p.2.now) (λ e. e ≢ Memory → MissesCatch c.args.around c.args.base c.args.tokens.now e)
    c.from_residual-in_err-units.result c.from_residual-in_err-units.ensures.1 (λ not. record { row = λ n h rule. expects c.in_ok-open.ensures ((c.in_err-units.ensures not).row n c.args.base h (after c.args.around rule)) })

pub returns-in_err-closed-clause-takes : goal.returns-in_err-closed-clause-takes
returns-in_err-closed-clause-takes g c = handed_on (λ p. TookCatch c.args.around c.args.base c.args.tokens.now p.0 p.1 p.2.now) (λ e. e ≢ Memory → MissesCatch c.args.around c.args.base c.args.tokens.now e)
    c.from_residual-in_err-closed.result c.from_residual-in_err-closed.ensures.1 (λ not. record { row = λ n h rule. expects c.in_ok-open.ensures (c.in_ok-units.ensures.row n c.args.base h (after c.args.around rule) _ (misses _ _ c.in_err-closed.ensures)) })

pub returns-in_err-inner-clause-takes : goal.returns-in_err-inner-clause-takes
returns-in_err-inner-clause-takes g c = handed_on (λ p. TookCatch c.args.around c.args.base c.args.tokens.now p.0 p.1 p.2.now) (λ e. e ≢ Memory → MissesCatch c.args.around c.args.base c.args.tokens.now e)
    c.from_residual-in_err-inner.result c.from_residual-in_err-inner.ensures.1 (λ not. record { row = λ n h rule. expects c.in_ok-open.ensures (c.in_ok-units.ensures.row n c.args.base h (after c.args.around rule) _ (expects c.in_ok-closed.ensures (fails (c.in_err-inner.ensures.meets not)))) })

pub returns-clause-takes : goal.returns-clause-takes
returns-clause-takes g c = record { row = λ n h rule o x. expects c.in_ok-open.ensures (c.in_ok-units.ensures.row n c.args.base h (after c.args.around rule) o (expects c.in_ok-closed.ensures (passes c.in_ok-inner.ensures.meets (by rule c.in_ok-made.ensures (as_high (omega arith) x))))) }
