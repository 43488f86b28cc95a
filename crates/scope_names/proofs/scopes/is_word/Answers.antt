use Rattle.std.proofs.Common.{◌≡◌, ◌∙◌, ap, sym, length, get_or, refl, drop}
use Rattle.scope_names.proofs.ScopeLemmas.{apart_long, differ_at, same_next, same_all}
use Rattle.scope_names.proofs.scopes.is_word.Goals as goal

pub returns-then-units-word : goal.returns-then-units-word
returns-then-units-word c = apart_long c.args.word.now c.args.name.now (λ e. c.if-units-word.true (ap length c.as_slice-units.ensures ∙ e))

pub returns-then-word-at : goal.returns-then-word-at
returns-then-word-at c =
    differ_at c.args.word.now c.args.name.now c.loop-at.at c.loop-at-test.true (sym (ap length c.as_slice-units.ensures) ∙ c.if-units-word.false)
    (λ e. c.if-word-at.true (e ∙ ap (λ s. get_or s c.loop-at.at 0) (sym c.as_slice-units.ensures))) c.loop-at.invariant

pub loop-at-preserved : goal.loop-at-preserved
loop-at-preserved c =
    same_next c.args.word.now c.args.name.now c.loop-at.at c.loop-at-test.true (sym (ap length c.as_slice-units.ensures) ∙ c.if-units-word.false)
    (c.if-word-at.false ∙ ap (λ s. get_or s c.loop-at.at 0) c.as_slice-units.ensures) c.loop-at.invariant

pub returns : goal.returns
returns c =
    same_all c.args.word.now c.args.name.now c.loop-at.at c.loop-at-test.false (sym (ap length c.as_slice-units.ensures) ∙ c.if-units-word.false) c.loop-at.invariant
