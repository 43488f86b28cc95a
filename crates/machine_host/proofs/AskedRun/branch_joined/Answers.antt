use Rattle.std.specs.Prelude.{Ok, false, Option}
use Rattle.std.proofs.Common.{subst}
use Rattle.value_cells.specs.declared.Value.{Value}
use Rattle.eval_ops.specs.Run.{seen_of}
use Rattle.eval_ops.specs.Calls.{Joins}
use Rattle.machine_host.specs.Moments.{moment_at}
use Rattle.machine_host.specs.Runs.{heap_of, notes_of, moment_of}
use Rattle.machine_host.proofs.Leaving.{joined_with, cut_by, ok_then}
use Rattle.machine_host.proofs.AskedRun.branch_joined.Goals as goal

pub returns-in-Ok-Some-clause-ok : goal.returns-in-Ok-Some-clause-ok
returns-in-Ok-Some-clause-ok g c =
    let s = heap_of c.args.self.now in
    let mid = seen_of c.join-joined.new.self in
    let j = subst (λ (o : Option Value). Joins false (Ok o) s mid) c.in-Ok-Some.field-0-is c.in-Ok-Some.ensures.did in
    let e = c.keep_done.ensures in
    let old = moment_of g.A.Asker.seen g.A.Asker.words c.args.self.now in
    ok_then c.keep_done.result (λ k. joined_with old (moment_of g.A.Asker.seen g.A.Asker.words c.keep_done.new.self) mid j.stays (λ nu fits. cut_by s mid nu _ (j.did nu fits)) k
    (λ i. moment_at (heap_of c.keep_done.new.self) (g.A.Asker.seen (e.asker i)) (g.A.Asker.words (e.asker i)) (notes_of (e.notes i)))) e.left
