-- The replay law and the order law of what is told of whole runs.
use Rattle.std.proofs.Common.{◌≡◌, refl, ap, sym, ◌∙◌}
use Rattle.turk_base.specs.State.{St}
use Rattle.js_tree.specs.Eval.{meaning}
use Rattle.js_tree.specs.Report.{end_of}
use Rattle.js_tree.specs.Run.{End, spent, undrawn, missing, diverged, Out, ended, waits, halted}
use Rattle.run_laws.proofs.Budget.{in_budget}
use Rattle.run_laws.proofs.Replay.{replay_law}
use Rattle.run_laws.specs.Reports.{Ended, ReplayReports, OrderReports}

ended_of : (o : Out) (σ : St) → Ended (end_of o σ) → (e : End) × (o ≡ ended e)
ended_of (ended e) σ h = (e, refl)
ended_of waits σ h = absurd h
ended_of (halted spent) σ h = absurd h
ended_of (halted undrawn) σ h = absurd h
ended_of (halted missing) σ h = absurd h
ended_of (halted (diverged d)) σ h = absurd h

same_end : (o o' : Out) (σ σ' : St) → o' ≡ o → σ' ≡ σ → end_of o' σ' ≡ end_of o σ
same_end o o' σ σ' e s = ap (λ o. end_of o σ') e ∙ ap (λ σ. end_of o σ) s

pub replay_reports : ReplayReports
replay_reports S E T n h = let x = ended_of _ _ h in let a = replay_law (meaning S) n E T x.0 x.1 in
    (same_end _ _ _ _ (a.0 ∙ sym x.1) a.1, ap (λ σ. σ.text) a.1, ap (λ σ. σ.verdict) a.1, a.2)

pub order_reports : OrderReports
order_reports name S n T R g T2 is h v m b = let x = ended_of _ _ h in let a = in_budget name (meaning S) n T R g T2 is x.0 x.1 v m b in
    (same_end _ _ _ _ (a.0 ∙ sym x.1) a.1, ap (λ σ. σ.text) a.1)
