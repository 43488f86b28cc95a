use Rattle.std.proofs.Common.{refl, arith}
use Rattle.run_heap.proofs.Index_keys.{put_end}
use Rattle.run_heap.proofs.classes.place_of.Goals as goal

pub returns-then-at-lowest-clause-place : goal.returns-then-at-lowest-clause-place
returns-then-at-lowest-clause-place c = λ k e. put_end k c.args.at c.args.lowest _ c.args.keys.now e c.requires c.if-at-lowest.true refl
