use Rattle.std.proofs.Common.{sym, ◌∙◌}
use Rattle.run_texts.proofs.Escaping.{one_added, two_added}
use Rattle.run_texts.proofs.quotes.push_next.Goals as goal

pub returns-then-is_pair_at-clause-added : goal.returns-then-is_pair_at-clause-added
returns-then-is_pair_at-clause-added c =
    two_added c.args.units.now c.args.at _ _ c.push.new.self (sym c.is_pair_at.ensures ∙ c.if-is_pair_at.true) c.in_ok-push.ensures.ok c.in_ok-push-2.ensures.ok

pub returns-clause-added : goal.returns-clause-added
returns-clause-added c = one_added c.args.units.now c.args.at _ _ c.requires (sym c.is_pair_at.ensures ∙ c.if-is_pair_at.false) c.in_ok-push_single.ensures
