use Rattle.std.proofs.Common.{sym, ◌∙◌, rules, refl, []}
use Rattle.part_rows.proofs.Turns.{at_last, chain}
use Rattle.script_grammar.specs.Grammar.{grammar}
use Rattle.script_grammar.specs.Rules.Symbol.{Elements}
use Rattle.script_grammar.proofs.Along.{row, gives, peeks, peeks_end, yes, handed_by}
use Rattle.script_rows.proofs.lists.elements.Goals as goal

pub returns-in-Err-clause-meets : goal.returns-in-Err-clause-meets
returns-in-Err-clause-meets g c not = c.loop-token.invariant.so_far.stops _ (row (peeks_end c.in-Err.ensures.0 c.in-Err.ensures.1))

pub returns-then-stops-clause-meets : goal.returns-then-stops-clause-meets
returns-then-stops-clause-meets g c = at_last c.loop-token.invariant.so_far refl (row (peeks c.in-Ok.ensures (yes _ (sym c.stops.ensures ∙ c.if-stops.true) (gives c.make.ensures refl))))

pub returns-in_err-more-in-Ok-clause-meets : goal.returns-in_err-more-in-Ok-clause-meets
returns-in_err-more-in-Ok-clause-meets g c = handed_by (Elements c.args.in_function [] []) c.args.base (grammar (Elements c.args.in_function [] [])) c.args.tokens.now c.from_residual.result c.from_residual.ensures.1
    (λ not. c.loop-token.invariant.so_far.stops _ ((c.in_err-more-in-Ok.ensures.takes not).row _ _ c.in-Ok.ensures (sym c.stops.ensures ∙ c.if-stops.false) (sym c.is_word-declares.ensures)))

pub loop-token-smaller : goal.loop-token-smaller
loop-token-smaller g c = c.in_ok-more-in-Ok.ensures.takes.shorter

pub loop-token-preserved : goal.loop-token-preserved
loop-token-preserved g c = record {
  so_far = chain c.loop-token.invariant.so_far (c.in_ok-more-in-Ok.ensures.takes.row _ _ c.in-Ok.ensures (sym c.stops.ensures ∙ c.if-stops.false) (sym c.is_word-declares.ensures)) (search rules);
  small = search rules;
}
