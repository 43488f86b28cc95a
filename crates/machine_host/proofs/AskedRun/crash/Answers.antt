use Rattle.std.proofs.Common.{◌∙◌, refl, ap, map, ◌∷◌, ◌++◌, []}
use Rattle.turk_base.specs.Names.{path_in}
use Rattle.turk_base.specs.Values.{crashed}
use Rattle.run_host.proofs.Fits.{leaves_lost}
use Rattle.machine_host.specs.Moments.{wait_in}
use Rattle.machine_host.specs.declared.Wait.TheVariants.{Crashed}
use Rattle.machine_host.specs.Runs.{moment_of}
use Rattle.machine_host.proofs.Halting.{lost_leaves, crashes, more_waits}
use Rattle.machine_host.proofs.AskedRun.crash.Goals as goal

pub returns-in_default-clause-did : goal.returns-in_default-clause-did
returns-in_default-clause-did g c = leaves_lost

pub returns-in-Err-clause-did : goal.returns-in-Err-clause-did
returns-in-Err-clause-did g c = lost_leaves _ _ (record { later = tt; session = refl; trace = refl; pairs = refl; grows = λ i n e. e }) refl refl

pub returns-in-Ok-note-clause-did : goal.returns-in-Ok-note-clause-did
returns-in-Ok-note-clause-did g c =
    let m = moment_of g.A.Asker.seen g.A.Asker.words c.args.self.now in
    crashes m _ (ap (λ w. record m { waits = w })
    (ap (map wait_in) c.in-Ok-note.ensures.ok ∙ more_waits c.args.self.now.notes.waits.items (Crashed c.in-Ok.scope)
    ∙ ap (λ p. m.waits ++ crashed p ∷ []) (ap path_in c.in-Ok.ensures ∙ c.path.ensures.scope)))
