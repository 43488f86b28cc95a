-- Statements one after another, and what they cost.
use Rattle.std.specs.Prelude.{Result, Ok, Err, OnOk}
use Rattle.std.proofs.Common.{◌≡◌, ◌≢◌, ◌<◌, refl, sym, subst, arith}
use Rattle.turk_base.specs.Names.{root, cell}
use Rattle.turk_base.specs.Prog.{Prog, Done, Then}
use Rattle.turk_base.specs.Values.{Val, Undefined, Outcome}
use Rattle.value_cells.specs.Seen.{Naming}
use Rattle.run_host.specs.declared.Exit.{Exit}
use Rattle.run_host.specs.declared.Flow.{Flow}
use Rattle.run_host.specs.declared.Flow.TheVariants as flow
use Rattle.run_host.specs.Moment.{Chain, Moment}
use Rattle.run_host.specs.Told.{Told, told_flow}
use Rattle.run_host.specs.Did.{Runs}
use Rattle.run_host.proofs.Sequence.{then_on, then_out, ends_with}
use Rattle.run_host.specs.declared.Exit.TheVariants as exit
use Rattle.tree_rows.specs.Ended.{EndsAs}
use Rattle.tree_rows.proofs.Lists.{not_normal}

-- the first ended normally
pub flow_on : {κ : Chain} {g : Naming → Prog} (go : Naming → Val → Prog) (f : Flow) {t : Naming → Told} {a b c : Moment κ} → f ≡ flow.Normal → Runs g (λ nu. told_flow nu (Ok f)) a b → Runs (λ nu. go nu Undefined) t b c
    → Runs (λ nu. Then (g nu) (go nu)) t a c
flow_on {κ} {g} go f {t} {a} {b} {c} e x y = then_on go {v = λ nu. Undefined} (subst (λ f. Runs g (λ nu. told_flow nu (Ok f)) a b) e x) y

-- or otherwise
pub flow_out : {κ : Chain} {g : Naming → Prog} (go : Naming → Val → Prog) (f : Flow) {a b : Moment κ} → f ≢ flow.Normal → Runs g (λ nu. told_flow nu (Ok f)) a b → Runs (λ nu. Then (g nu) (go nu)) (λ nu. told_flow nu (Ok f)) a b
flow_out go f n x = then_out go (λ nu. not_normal nu f n) x

-- no statement wins fuel
pub flow_paid : {κ : Chain} {g : Naming → Prog} (a : Moment κ) {b c : Moment κ} (r : Result Flow Exit) → Runs g (λ nu. told_flow nu r) b c → b.heap.left < a.heap.left → OnOk r (c.heap.left < a.heap.left)
flow_paid a (Ok f) x l = let z = (x.within (λ i. cell root 0) tt).falls in omega (arith, z, l)
flow_paid a (Err e) x l = tt

-- ---- how a part of a `try` ended

pub ends_as : {κ : Chain} {o : Naming → Outcome} {m : Moment κ} (r : Result Flow Exit) → EndsAs r o → Runs (λ nu. Done (o nu)) (λ nu. told_flow nu r) m m
ends_as {κ} {o} {m} (Ok f) e = subst (λ (p : Naming → Outcome). Runs (λ nu. Done (p nu)) (λ nu. told_flow nu (Ok f)) m m) (λ i nu. sym (e nu) i) ends_with
ends_as {κ} {o} {m} (Err (exit.Throw v)) e = subst (λ (p : Naming → Outcome). Runs (λ nu. Done (p nu)) (λ nu. told_flow nu (Err (exit.Throw v))) m m) (λ i nu. sym (e nu) i) ends_with
ends_as (Err (exit.Halted h)) e = absurd e
ends_as (Err (exit.Stopped y)) e = absurd e
