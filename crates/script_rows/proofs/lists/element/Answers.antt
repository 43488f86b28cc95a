use Rattle.std.proofs.Common.{◌≢◌, sym, MatchResult, subst}
use Rattle.script_grammar.specs.declared.stop.Stop.TheVariants.{Memory}
use Rattle.script_rows.specs.Parts.{TookElement, MissesElement}
use Rattle.script_rows.proofs.lists.element.Goals as goal

pub returns-then-declares-clause-takes : goal.returns-then-declares-clause-takes
returns-then-declares-clause-takes g c = subst (λ d. MatchResult c.with_declaration.result (λ p. TookElement c.args.in_function d c.args.functions c.args.statements c.args.base c.args.tokens.now p.0 p.1 p.2 p.3.now) (λ e. e ≢ Memory → MissesElement c.args.in_function d c.args.functions c.args.statements c.args.base c.args.tokens.now e)) (sym c.if-declares.true) (c.with_declaration.ensures.takes c.args.in_function)

pub returns-else-declares-clause-takes : goal.returns-else-declares-clause-takes
returns-else-declares-clause-takes g c = subst (λ d. MatchResult c.with_statement.result (λ p. TookElement c.args.in_function d c.args.functions c.args.statements c.args.base c.args.tokens.now p.0 p.1 p.2 p.3.now) (λ e. e ≢ Memory → MissesElement c.args.in_function d c.args.functions c.args.statements c.args.base c.args.tokens.now e)) (sym c.if-declares.false) (c.with_statement.ensures.takes)
