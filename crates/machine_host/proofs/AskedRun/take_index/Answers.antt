use Rattle.std.proofs.Common.{arith, length, length-append, ap, ◌∷◌, []}
use Rattle.machine_host.proofs.Indexes.{indexed}
use Rattle.machine_host.proofs.AskedRun.take_index.Goals as goal

pub returns-in-Ok-clause-taken : goal.returns-in-Ok-clause-taken
returns-in-Ok-clause-taken g c = indexed g.A.Asker.seen g.A.Asker.words c.args.self.now c.next_call-answer.new.self c.in-Ok.path c.in-Ok.ensures.path c.in-Ok.ensures.ok

pub returns-in-Ok-clause-short : goal.returns-in-Ok-clause-short
returns-in-Ok-clause-short g c = omega (arith, c.if-len-ge-MOST_INDEXES.false, c.len.ensures, ap length c.path.ensures.place, ap length c.in-Ok.ensures.path, length-append c.args.self.now.guarded.machine.heap.place.path (c.args.self.now.guarded.machine.heap.place.calls ∷ []))
