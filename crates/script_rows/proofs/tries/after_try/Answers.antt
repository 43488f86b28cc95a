use Rattle.std.proofs.Common.{sym, ◌∙◌, arith}
use Rattle.js_lexer.specs.declared.Reserved.TheVariants as w
use Rattle.script_grammar.specs.Grammar.{after_try}
use Rattle.script_grammar.specs.Rules.Rule.{peek}
use Rattle.script_grammar.specs.Rules.Symbol.{Statement}
use Rattle.script_grammar.proofs.Along.{row, whole, gives, refuses, peeks, peeks_end, eats, rises, sinks, passes, fails, passes_level, fails_level, yes, no, by, as_high, at, expects, misses, unpeeks, handed, handed_by, handed_on}
use Rattle.script_grammar.proofs.Along as along
use Rattle.script_grammar.proofs.Tokens.{live_word}
use Rattle.script_rows.specs.Parts.{last_rule}
use Rattle.script_rows.proofs.tries.after_try.Goals as goal

pub returns-then-is_word-clause-meets : goal.returns-then-is_word-clause-meets
returns-then-is_word-clause-meets g c = along.onward {n = (Statement c.args.around)} {b = c.args.base} {r = last_rule c.args.body c.args.caught} {s = peek (after_try c.args.body c.args.caught c.args.some)} c.finally.result (λ o x. peeks c.in-Ok.ensures (yes _ (sym c.is_word.ensures ∙ c.if-is_word.true) (eats (live_word w.Finally _ (sym c.is_word.ensures ∙ c.if-is_word.true)) c.in-Ok.ensures x))) c.finally.ensures.meets

pub returns-then-some-clause-meets : goal.returns-then-some-clause-meets
returns-then-some-clause-meets g c = row (peeks c.in-Ok.ensures (no _ (sym c.is_word.ensures ∙ c.if-is_word.false) (yes _ c.if-some.true (gives c.in_ok-made-in-Ok.ensures (omega arith)))))

pub returns-else-some-clause-meets : goal.returns-else-some-clause-meets
returns-else-some-clause-meets g c not = row (peeks c.in-Ok.ensures (no _ (sym c.is_word.ensures ∙ c.if-is_word.false) (no _ c.if-some.false (refuses c.in-Ok.ensures c.refused.ensures))))

pub returns-in-Err-clause-meets : goal.returns-in-Err-clause-meets
returns-in-Err-clause-meets g c not = row (peeks_end c.in-Err.ensures.0 c.in-Err.ensures.1)
