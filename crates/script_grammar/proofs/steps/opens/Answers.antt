use Rattle.std.proofs.Common.{sym, ◌∙◌}
use Rattle.script_grammar.proofs.TooDeep.{deep_prefix, deep_new, led}
use Rattle.script_grammar.proofs.steps.opens.Goals as goal

pub returns-then-prefixed : goal.returns-then-prefixed
returns-then-prefixed c _ b ts deep = deep_prefix c.args.token.now b ts (sym c.prefixed.ensures ∙ c.if-prefixed.true) deep

pub returns-then-is_word : goal.returns-then-is_word
returns-then-is_word c _ b ts deep = deep_new c.args.token.now b ts (sym c.is_word.ensures ∙ c.if-is_word.true) deep

pub returns-in-Ok : goal.returns-in-Ok
returns-in-Ok c = led c.args.token.now (sym c.prefixed.ensures ∙ c.if-prefixed.false) (sym c.is_word.ensures ∙ c.if-is_word.false) _ c.in-Ok.ensures _ c.lead_of.ensures c.leads.result c.leads.ensures
