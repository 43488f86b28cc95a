use Rattle.std.proofs.Common.{sym}
use Rattle.run_texts.proofs.Escaping.{last_begins_none}
use Rattle.run_texts.proofs.quotes.is_pair_at.Goals as goal

pub returns-then-at-units : goal.returns-then-at-units
returns-then-at-units c = sym (last_begins_none _ _ c.requires c.if-at-units.true)
