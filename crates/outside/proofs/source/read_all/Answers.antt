use Rattle.std.proofs.Common.{◌++◌, take}
use Rattle.outside.proofs.SourceLemmas.{consumes-then}
use Rattle.outside.proofs.source.read_all.Goals as goal

pub returns-then-limit-len-clause-front : goal.returns-then-limit-len-clause-front
returns-then-limit-len-clause-front g c = (
  c.loop-got.bytes.items ++ take c.in-Ok.got c.read.new.into,
  consumes-then (g.S.Source.left c.args.source.now) (g.S.Source.left c.loop-got.source) (g.S.Source.left c.read.new.self) c.loop-got.bytes.items (take c.in-Ok.got c.read.new.into) c.loop-got.invariant.front c.in-Ok.ensures.bytes.0,
)

pub returns-then-is_err-clause-front : goal.returns-then-is_err-clause-front
returns-then-is_err-clause-front g c = (
  c.loop-got.bytes.items ++ take c.in-Ok.got c.read.new.into,
  consumes-then (g.S.Source.left c.args.source.now) (g.S.Source.left c.loop-got.source) (g.S.Source.left c.read.new.self) c.loop-got.bytes.items (take c.in-Ok.got c.read.new.into) c.loop-got.invariant.front c.in-Ok.ensures.bytes.0,
)
