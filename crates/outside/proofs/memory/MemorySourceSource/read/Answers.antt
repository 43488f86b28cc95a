use Rattle.std.proofs.Common.{◌<◌, length, arith}
use Rattle.outside.proofs.MemoryLemmas.{takes_front, ends}
use Rattle.outside.proofs.memory.MemorySourceSource.read.Goals as goal

pub returns-clause-bytes : goal.returns-clause-bytes
returns-clause-bytes c = (
  takes_front c.args.self.now.bytes.items c.copy_front-n.new.into c.args.self.now.at c.copy_front-n.result
      (rw c.deref.ensures.value at c.copy_front-n.ensures.copied),
  λ none some.
      let room : 0 < length c.args.into.now = omega arith in
      ends c.args.self.now.bytes.items c.args.self.now.at c.copy_front-n.result (length c.args.into.now)
      (rw c.deref.ensures.value at c.copy_front-n.ensures.count) none room,
)
