-- Scopes that were opened for a call.
use Rattle.std.proofs.Common.{◌≡◌, ◌≤◌, ◌<◌, ℕ, zero, suc, List, length, refl, ap, arith}
use Rattle.std.specs.Prelude.{Some, slice_get}
use Rattle.std.proofs.lemmas.Option.{slice_get_within}
use Rattle.turk_base.specs.Names.{Name}
use Rattle.turk_base.specs.Prog.{Prog}
use Rattle.value_cells.specs.Seen.{Naming, Grows}
use Rattle.run_host.specs.Moment.{Chain, Moment, cells}
use Rattle.run_host.specs.Told.{Told}
use Rattle.run_host.specs.Did.{Runs}
use Rattle.run_host.specs.Scopes.{Local}
use Rattle.run_host.proofs.Moments.{there}

-- what was there stays there
grows_length : (a b : List Name) → Grows a b → (n : ℕ) → length a ≡ n → n ≤ length b
grows_length a b g zero e = omega arith
grows_length a b g (suc n) e =
    let f : (m : Name) × (slice_get a n ≡ Some m) = there a n (omega (arith, e)) in
    let h = slice_get_within b n f.0 (g n f.0 f.1) in
    omega (arith, h)

pub more_cells : {κ : Chain} {f : Naming → Prog} {t : Naming → Told} {old new : Moment κ} → Runs f t old new → cells old ≤ cells new
more_cells {old = old} {new = new} r = grows_length old.heap.names new.heap.names r.same.grows (length old.heap.names) refl

-- a program of one cell knows no others
pub local_of : (n i : ℕ) (g : Name → Prog) → i < n → Local n (λ nu. g (nu i))
local_of n i g h = λ nu mu e. ap g (e i h)
