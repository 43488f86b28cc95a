-- What a run did, along the chain of its asker.
use Rattle.std.specs.Prelude.{IfOk, IfErr, OnOk, Option, Some, None, Result, Ok, Err}
use Rattle.std.proofs.Common.{◌≡◌}
use Rattle.std.specs.Option.{IfSome}
use Rattle.turk_base.specs.Values.{Normal}
use Rattle.turk_base.specs.Prog.{Prog, Once, Fork}
use Rattle.value_cells.specs.declared.Value.{Value}
use Rattle.value_cells.specs.Seen.{Naming, val_in}
use Rattle.run_host.specs.declared.Exit.{Exit}
use Rattle.run_host.specs.Moment.{Chain, Moment, apart, cells}
use Rattle.run_host.specs.Told.{Told, Says, told_exit}
use Rattle.run_host.specs.Did.{Runs}
use Rattle.run_host.specs.Scopes.{Local, OpensOnce, OpensFork}
use Rattle.run_host.proofs.Along.{runs_apart, runs_along, once_apart, once_along, fork_apart, fork_along}
use Rattle.machine_host.specs.Bodies.{EndsOnce}
use Rattle.machine_host.specs.Leaving.{EndsFork}

module _ {κ : Chain} (old new : Moment κ) (later : κ.To old.asker new.asker) where
  pub kept_along : (r : Result (Option Value) Exit) → IfOk r (λ o. IfSome o (λ v. (g : Naming → Prog) → Runs (λ nu. Once (g nu)) (λ nu. Says (Normal (val_in nu v))) (apart old) (apart new)))
      → IfOk r (λ o. IfSome o (λ v. (g : Naming → Prog) → Runs (λ nu. Once (g nu)) (λ nu. Says (Normal (val_in nu v))) old new))
  kept_along (Ok (Some v)) h = λ g. runs_along later (h g)
  kept_along (Ok None) h = h
  kept_along (Err x) h = h

  pub opened_along : (r : Result (Option Value) Exit) → OnOk r ((r ≡ Ok None) → OpensOnce (apart old) (apart new)) → OnOk r ((r ≡ Ok None) → OpensOnce old new)
  opened_along (Ok o) h = λ is. once_along later (h is)
  opened_along (Err x) h = h

  pub forked_along : {B : Type 0} (r : Result B Exit) → OnOk r (OpensFork (apart old) (apart new)) → OnOk r (OpensFork old new)
  forked_along (Ok b) h = fork_along later h
  forked_along (Err x) h = h

  pub out_along : {B : Type 0} (f : (Naming → Prog) → Naming → Prog) (r : Result B Exit) → IfErr r (λ x. (g : Naming → Prog) → Runs (f g) (λ nu. told_exit nu x) (apart old) (apart new)) → IfErr r (λ x. (g : Naming → Prog) → Runs (f g) (λ nu. told_exit nu x) old new)
  out_along f (Ok b) h = h
  out_along f (Err x) h = λ g. runs_along later (h g)

  pub once_ends_along : (told said : Naming → Told) → EndsOnce told (apart old) said (apart new)
      → (g : Naming → Prog) (before opened : Moment κ) → Local (cells before) g → OpensOnce before opened → Runs g told opened old → Runs (λ nu. Once (g nu)) said before new
  once_ends_along told said h g before opened local opens runs =
      runs_along (κ.goes_on before.asker opened.asker new.asker opens.opens.later (κ.goes_on opened.asker old.asker new.asker runs.same.later later)) (h g (apart before) (apart opened) local (once_apart opens) (runs_apart runs))

  pub fork_ends_along : (told said : Naming → Told) → EndsFork told (apart old) said (apart new)
      → (g : Naming → Prog) (before opened : Moment κ) → Local (cells before) g → OpensFork before opened → Runs g told opened old → Runs (λ nu. Fork (g nu)) said before new
  fork_ends_along told said h g before opened local opens runs =
      runs_along (κ.goes_on before.asker opened.asker new.asker opens.opens.later (κ.goes_on opened.asker old.asker new.asker runs.same.later later)) (h g (apart before) (apart opened) local (fork_apart opens) (runs_apart runs))
