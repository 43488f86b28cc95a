use Rattle.std.proofs.Common.{sym, ap, subst, ◌∙◌, true, map}
use Rattle.std.specs.Prelude.{reverse}
use Rattle.turk_base.specs.Names.{path_in}
use Rattle.turk_base.specs.Prog.{Join, ask}
use Rattle.eval_ops.specs.Run.{seen_of}
use Rattle.run_host.specs.Steps.{Leaves}
use Rattle.machine_host.specs.Runs.{moment_of}
use Rattle.machine_host.proofs.Turns.{with_heap}
use Rattle.machine_host.proofs.Halting.{join_refused, join_gives, join_waits, join_leaves}
use Rattle.machine_host.proofs.AskedRun.join.Goals as goal

pub returns-then-in_once-clause-did : goal.returns-then-in_once-clause-did
returns-then-in_once-clause-did g c = join_refused (moment_of g.A.Asker.seen g.A.Asker.words c.args.self.now) (sym c.in_once.ensures ∙ c.if-in_once.true)

pub returns-in-Ok-Some-clause-did : goal.returns-in-Ok-Some-clause-did
returns-in-Ok-Some-clause-did g c =
    join_gives (moment_of g.A.Asker.seen g.A.Asker.words c.args.self.now) (seen_of c.join-joined.new.self) (sym c.in_once.ensures ∙ c.if-in_once.false) c.in-Ok-Some.field-0 c.in-Ok-Some.value c.in-Ok-Some.field-0-is c.in-Ok-Some.ensures.did (λ nu. ap (λ l. map path_in (reverse l)) c.in-Ok-Some.ensures.gone)

pub returns-in-Ok-None-clause-did : goal.returns-in-Ok-None-clause-did
returns-in-Ok-None-clause-did g c = join_waits (moment_of g.A.Asker.seen g.A.Asker.words c.args.self.now) (seen_of c.join-joined.new.self) (sym c.in_once.ensures ∙ c.if-in_once.false) c.in-Ok-None.field-0 c.in-Ok-None.field-0-is c.in-Ok-None.ensures.did

pub returns-in-Err-clause-did : goal.returns-in-Err-clause-did
returns-in-Err-clause-did g c =
    let m = moment_of g.A.Asker.seen g.A.Asker.words c.args.self.now in
    subst (λ x. Leaves (λ nu. ask (Join true)) x m (with_heap m (seen_of c.join-joined.new.self))) (sym c.exit_of.ensures)
    (join_leaves m (seen_of c.join-joined.new.self) (sym c.in_once.ensures ∙ c.if-in_once.false) c.in-Err.stop c.in-Err.ensures.did (λ nu. ap (λ l. map path_in (reverse l)) c.in-Err.ensures.gone))
