use Rattle.std.proofs.Common.{sym, ◌∙◌}
use Rattle.js_lexer.specs.declared.Mark.TheVariants as m
use Rattle.script_grammar.specs.Rules.Symbol.{Statement}
use Rattle.script_grammar.specs.Grammar.{for_decls}
use Rattle.script_grammar.proofs.Along.{row, peeks, peeks_end, eats, yes, no, onward as onwards}
use Rattle.script_grammar.proofs.Tokens.{live_mark}
use Rattle.part_rows.specs.Lines.{for_more_rule, for_declared_rule}
use Rattle.loop_rows.proofs.for_more.Goals as goal

pub returns-then-is-clause-meets : goal.returns-then-is-clause-meets
returns-then-is-clause-meets g c = onwards {n = Statement c.args.around} {b = c.args.base} {r = for_decls c.args.all} {s = for_more_rule c.args.all} {us = c.args.tokens.now} c.for_declarations.result (λ o x. peeks c.in-Ok.ensures (yes _ (sym c.is.ensures ∙ c.if-is.true) (eats (live_mark m.Comma _ (sym c.is.ensures ∙ c.if-is.true)) c.in-Ok.ensures x))) c.for_declarations.ensures.meets

pub returns-else-is-clause-meets : goal.returns-else-is-clause-meets
returns-else-is-clause-meets g c = onwards {n = Statement c.args.around} {b = c.args.base} {r = for_declared_rule c.args.all} {s = for_more_rule c.args.all} {us = c.args.tokens.now} c.for_declared.result (λ o x. peeks c.in-Ok.ensures (no _ (sym c.is.ensures ∙ c.if-is.false) x)) c.for_declared.ensures.meets

pub returns-in-Err-clause-meets : goal.returns-in-Err-clause-meets
returns-in-Err-clause-meets g c _ = row (peeks_end c.in-Err.ensures.0 c.in-Err.ensures.1)
