use Rattle.eval_ops.specs.Run.{seen_of}
use Rattle.machine_host.specs.Runs.{heap_of}
use Rattle.machine_host.proofs.Leaving.{open_left, good_back}
use Rattle.machine_host.proofs.AskedRun.take_back.Goals as goal

pub returns-clause-sound : goal.returns-clause-sound
returns-clause-sound g c =
    let s = heap_of c.args.self.now in
    let t = seen_of c.leave_back.new.self in
    let e = c.leave_back.ensures.left in
    record {
      asked = c.requires.sound.asked;
      good = good_back s t c.requires.sound.good e c.known.ensures;
      entered = open_left c.pop.new.self.items c.args.self.now.entered.items c.in-Some.entered s.outer t.outer t.scope c.in-Some.ensures.items c.requires.sound.entered e.around;
    }
