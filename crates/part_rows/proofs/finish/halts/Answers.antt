use Rattle.std.proofs.Common.{sym, ◌∙◌, refl}
use Rattle.script_grammar.proofs.Along.{gives, refuses, peeks, peeks_end, eats, yes, no, handed_on}
use Rattle.script_grammar.proofs.Tokens.{live_mark}
use Rattle.js_lexer.specs.declared.Mark.TheVariants as m
use Rattle.part_rows.proofs.Joints.{left_true}
use Rattle.script_grammar.specs.Grammar.{halts}
use Rattle.part_rows.specs.Lines.{Finished, Unfinished}
use Rattle.part_rows.proofs.finish.halts.Goals as goal

pub returns-in_err-token : goal.returns-in_err-token
returns-in_err-token c = handed_on (λ r. Finished (λ d made. halts made) c.args.tokens.now r.now) (λ e. Unfinished (λ d made. halts made) c.args.tokens.now e)
    c.from_residual.result c.from_residual.ensures.1 (record { row = λ d b h made. peeks_end c.in_err-token.ensures.0 c.in_err-token.ensures.1 })

pub returns-then-on_line : goal.returns-then-on_line
returns-then-on_line c = let q = sym c.on_line.ensures ∙ c.if-on_line.true in record { row = λ d b h made. peeks c.in_ok-token.ensures (yes _ q (eats (live_mark m.Semicolon _ (left_true _ _ q)) c.in_ok-token.ensures (gives refl refl))) }

pub returns-then-closes : goal.returns-then-closes
returns-then-closes c = record { row = λ d b h made. peeks c.in_ok-token.ensures (no _ (sym c.on_line.ensures ∙ c.if-on_line.false) (yes _ (sym c.closes.ensures ∙ c.if-closes.true) (gives refl refl))) }

pub returns : goal.returns
returns c = record { row = λ d b h made. peeks c.in_ok-token.ensures (no _ (sym c.on_line.ensures ∙ c.if-on_line.false) (no _ (sym c.closes.ensures ∙ c.if-closes.false) (refuses c.in_ok-token.ensures c.refused.ensures))) }
