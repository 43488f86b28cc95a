use Rattle.std.proofs.Common.{sym, ◌∙◌}
use lib.Pointwise.{bytes_decides}
use Rattle.machine_host.proofs.Indexes.{post_gives}
use Rattle.machine_host.proofs.kept.post_kept.Goals as goal

pub returns-then-eq-clause-gives : goal.returns-then-eq-clause-gives
returns-then-eq-clause-gives c = post_gives c.args.text.now c.args.session.now c.args.path c.args.what.now c.in-Post.kept c.token_at.result c.in-Post.is ((bytes_decides c.in-Post.kept c.args.text.now).0 (sym c.eq.ensures ∙ c.if-eq.true)) c.token_at.ensures.ok c.token_at.ensures.lost
