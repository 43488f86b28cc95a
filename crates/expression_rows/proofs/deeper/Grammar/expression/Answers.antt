use Rattle.std.proofs.Common.{refl, arith}
use Rattle.script_grammar.specs.Grammar.{grammar}
use Rattle.script_grammar.specs.Rules.Symbol.{Expr}
use Rattle.script_grammar.proofs.Along.{row, gives, passes_level, fails_level, handed}
use Rattle.expression_rows.proofs.deeper.Grammar.expression.Goals as goal

pub returns-in_err-left-clause-meets : goal.returns-in_err-left-clause-meets
returns-in_err-left-clause-meets g c = handed (Expr c.args.no_in) c.args.base (grammar (Expr c.args.no_in)) c.args.tokens.now c.from_residual.result c.from_residual.ensures.1
    (λ not. fails_level (c.in_err-left.ensures.meets not))

pub returns-in_err-all-clause-meets : goal.returns-in_err-all-clause-meets
returns-in_err-all-clause-meets g c = handed (Expr c.args.no_in) c.args.base (grammar (Expr c.args.no_in)) c.args.tokens.now c.from_residual-in_err-all.result c.from_residual-in_err-all.ensures.1
    (λ not. passes_level c.in_ok-left.ensures.meets (fails_level (c.in_err-all.ensures.meets not)))

pub returns-clause-meets : goal.returns-clause-meets
returns-clause-meets g c = row (passes_level c.in_ok-left.ensures.meets (passes_level c.in_ok-all.ensures.meets (gives refl (omega arith))))
