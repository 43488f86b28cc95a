use Rattle.std.proofs.Common.{ap, arith, length}
use Rattle.eval_ops.specs.Run.{seen_of}
use Rattle.machine_host.specs.Runs.{heap_of}
use Rattle.machine_host.proofs.Leaving.{open_left, good_kept}
use Rattle.machine_host.proofs.AskedRun.keep_done.Goals as goal

pub returns-clause-sound : goal.returns-clause-sound
returns-clause-sound g c =
    let s = heap_of c.args.self.now in
    let t = seen_of c.leave_keep.new.self in
    let e = c.leave_keep.ensures.left in
    record {
      asked = c.requires.sound.asked;
      good = good_kept s t c.requires.sound.good e c.known.ensures;
      entered = open_left c.pop.new.self.items c.args.self.now.entered.items c.in-Some.entered s.outer t.outer t.scope c.in-Some.ensures.items c.requires.sound.entered e.around;
    }

pub returns-clause-more : goal.returns-clause-more
returns-clause-more g c = let a = ap length c.leave_keep.ensures.left.names in omega (arith, a)
