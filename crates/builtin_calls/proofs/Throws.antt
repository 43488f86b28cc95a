-- What a built-in call throws is made.
use Rattle.std.proofs.Common.{◌≡◌, refl, sym, ap, subst, ℕ, Result, Ok, Err}
use Rattle.turk_base.specs.Names.{Name, Units}
use Rattle.turk_base.specs.Values.{Outcome, Throw, Object}
use Rattle.turk_base.specs.Prog.{Prog, Done}
use Rattle.turk_base.specs.Errors.{throw_error}
use Rattle.value_cells.specs.declared.OpStop.{OpStop}
use Rattle.value_cells.specs.Seen.{Naming, Seen, Fits}
use Rattle.value_cells.specs.Does.{Told, Says, Runs, told}
use Rattle.value_cells.proofs.Turns.{ended}
use Rattle.builtin_calls.specs.declared.CallStop.{CallStop}
use Rattle.builtin_calls.specs.declared.CallStop.TheVariants as stop
use Rattle.builtin_calls.specs.Called.{Called, HasBuiltIns, error_prototype}
use Rattle.builtin_calls.specs.Gives.{Step, Takes}
use Rattle.builtin_calls.proofs.Rows.{runs_under}

-- the cell that a step answers is thrown
pub runs_throw : (f : Naming → Step Name) {s t : Seen} (r : Result ℕ OpStop) → Takes f (λ nu. nu) r s t → Runs (λ nu. f nu (λ a. Done (Throw (Object a)))) (λ nu. told (λ i. Throw (Object (nu i))) r) s t
runs_throw f {t = t} (Ok i) x = (x.goes (λ nu a. Done (Throw (Object a)))).goes (λ nu. Says (Throw (Object (nu i)))) t ended
runs_throw f (Err e) x = x.ends (λ nu a. Done (Throw (Object a)))

pub throw_made : {f : Naming → Prog} {said : Naming → Told Outcome} {s t u : Seen} (why : CallStop) (kind : ℕ) (message : Units) (p : ℕ) → why ≡ stop.Throw kind message → HasBuiltIns s
    → ((q : Seen) (nu : Naming) → HasBuiltIns q → Fits nu q.names → nu p ≡ error_prototype kind) → Called f (Err why) s t → Runs (λ nu. throw_error (nu p) message) said t u → Runs f said s u
throw_made {f} {said} {s} {t} {u} why kind message p e has known d r =
    let called : Called f (Err (stop.Throw kind message)) s t = subst (λ x. Called f (Err x) s t) e d in
    called.1.goes said u (runs_under (λ nu fits. ap (λ n. throw_error n message) (sym (known t nu (subst HasBuiltIns (sym called.0) has) fits))) r)
