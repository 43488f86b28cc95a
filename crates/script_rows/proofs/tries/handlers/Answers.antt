use Rattle.std.proofs.Common.{sym, ◌∙◌, None, false}
use Rattle.js_lexer.specs.declared.Reserved.TheVariants as w
use Rattle.part_rows.specs.Lines.{catch_rule}
use Rattle.script_grammar.specs.Grammar.{after_try}
use Rattle.script_grammar.specs.Rules.Rule.{peek}
use Rattle.script_grammar.specs.Rules.Symbol.{Statement}
use Rattle.script_grammar.proofs.Along.{row, whole, gives, refuses, peeks, peeks_end, eats, rises, sinks, passes, fails, passes_level, fails_level, yes, no, by, as_high, at, expects, misses, unpeeks, handed, handed_by, handed_on}
use Rattle.script_grammar.proofs.Along as along
use Rattle.script_grammar.proofs.Tokens.{live_word}
use Rattle.script_rows.specs.Parts.{handlers_rule}
use Rattle.script_rows.proofs.tries.handlers.Goals as goal

pub returns-then-is_word-clause-meets : goal.returns-then-is_word-clause-meets
returns-then-is_word-clause-meets g c = along.onward {n = (Statement c.args.around)} {b = c.args.base} {r = catch_rule c.args.body} {s = handlers_rule c.args.body} c.catch.result (λ o x. peeks c.in-Ok.ensures (yes _ (sym c.is_word.ensures ∙ c.if-is_word.true) (eats (live_word w.Catch _ (sym c.is_word.ensures ∙ c.if-is_word.true)) c.in-Ok.ensures x))) c.catch.ensures.meets

pub returns-else-is_word-clause-meets : goal.returns-else-is_word-clause-meets
returns-else-is_word-clause-meets g c = along.onward {n = (Statement c.args.around)} {b = c.args.base} {r = peek (after_try c.args.body None false)} {s = handlers_rule c.args.body} c.after_try.result (λ o x. peeks c.in-Ok.ensures (no _ (sym c.is_word.ensures ∙ c.if-is_word.false) (unpeeks c.in-Ok.ensures x))) c.after_try.ensures.meets

pub returns-in-Err-clause-meets : goal.returns-in-Err-clause-meets
returns-in-Err-clause-meets g c not = row (peeks_end c.in-Err.ensures.0 c.in-Err.ensures.1)
