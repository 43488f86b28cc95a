use Rattle.std.proofs.Common.{◌∙◌, ap, subst, sym, ◌∷◌, ◌++◌, []}
use Rattle.turk_base.specs.Names.{path_in}
use Rattle.eval_ops.specs.Run.{seen_of}
use Rattle.machine_host.specs.Sound.{AreOpen}
use Rattle.machine_host.specs.Runs.{heap_of}
use Rattle.machine_host.proofs.Opening.{good_entered, open_entered}
use Rattle.machine_host.proofs.AskedRun.enter.Goals as goal

pub returns-in-Ok-clause-sound : goal.returns-in-Ok-clause-sound
returns-in-Ok-clause-sound g c =
    let h = c.args.self.now in
    let t = seen_of c.enter-answer.new.self in
    let e = c.in-Ok.ensures.ok in
    record {
      asked = c.requires.sound.asked;
      good = good_entered (heap_of h) t (path_in c.args.path.now) c.args.branch c.requires.sound.good e c.known.ensures;
      entered = subst (λ l. AreOpen l t.outer) (sym (c.push_reserved.ensures.items ∙ ap (λ l. l ++ c.in-Ok.entered ∷ []) c.reserve.ensures.items))
          (open_entered h.entered.items c.in-Ok.entered (heap_of h) t (path_in c.args.path.now) c.args.branch c.requires.sound.entered e c.in-Ok.ensures.entered);
    }
