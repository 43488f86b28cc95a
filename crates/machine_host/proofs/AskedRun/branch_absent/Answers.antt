use Rattle.std.proofs.Common.{subst}
use Rattle.eval_ops.specs.Run.{seen_of}
use Rattle.eval_ops.specs.Calls.{Changes, notes}
use Rattle.machine_host.specs.Moments.{moment_at}
use Rattle.machine_host.specs.Runs.{heap_of, notes_of}
use Rattle.machine_host.proofs.AskedRun.branch_absent.Goals as goal

pub returns-clause-ok : goal.returns-clause-ok
returns-clause-ok g c =
    let e = c.in_ok-take_back.ensures in
    record {
      mid = heap_of c.take_back.new.self;
      leaves = e.left;
      changes = subst (λ o. Changes (λ nu σ. notes o σ) (heap_of c.take_back.new.self) (seen_of c.absent.new.self)) e.noted c.absent.ensures.did;
      was = c.requires.sound.good.told;
      is = e.sound.good.told;
      rest = λ i. moment_at (seen_of c.absent.new.self) (g.A.Asker.seen (e.asker i)) (g.A.Asker.words (e.asker i)) (notes_of (e.notes i));
    }
