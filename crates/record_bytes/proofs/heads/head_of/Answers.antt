use Rattle.std.proofs.Common.{◌≡◌, arith, subst, ap, sym, ◌∙◌, length}
use Rattle.std.proofs.lemmas.Result.{err_from_is_err_and}
use Rattle.turk_base.specs.SessionName.{IsName}
use Rattle.record_bytes.specs.declared.stop.ReadStop.TheVariants.{Bad}
use Rattle.record_bytes.proofs.Named.{head_made, head_same, no_fuel, unnamed, same_stop}
use Rattle.record_bytes.proofs.heads.head_of.Goals.{then-fuel-eq0-via-then-fuel-eq0, then-fuel-eq0-via-else-fuel-eq0+then-fuel-gt-MOST_FUEL}
use Rattle.record_bytes.proofs.heads.head_of.Goals as goal

pub returns-in_default-clause-bad : goal.returns-in_default-clause-bad
returns-in_default-clause-bad c bad h spelled = unnamed c.args.bytes.now h c.in_default.ensures.none spelled

pub returns-in_err-fuel-clause-bad : goal.returns-in_err-fuel-clause-bad
returns-in_err-fuel-clause-bad c bad h spelled =
    let p = err_from_is_err_and c.from_residual.result c.from_residual.ensures.1 in
    let is : c.in_err-fuel.field-0.0 ≡ Bad = sym p.2 ∙ same_stop p.0 Bad (sym p.1 ∙ bad) in
    no_fuel c.args.bytes.now c.in-Some.name.now c.in-Some.rest.now h c.in_err-fuel.field-0.0 c.in-Some.ensures.some c.in_err-fuel.ensures is spelled

pub returns-then-fuel-eq0-clause-bad : goal.returns-then-fuel-eq0-clause-bad
returns-then-fuel-eq0-clause-bad c bad h spelled =
    let same = head_same c.args.bytes.now c.in-Some.name.now c.in-Some.rest.now c.in_ok-fuel.fuel c.in_ok-fuel.script.now h c.in-Some.ensures.some c.in_ok-fuel.ensures spelled in
    elim c.then-fuel-eq0.branch [
      | then-fuel-eq0-via-then-fuel-eq0 w ↦ omega (arith, w.if-fuel-eq0, same.1, spelled.within.some)
      | then-fuel-eq0-via-else-fuel-eq0+then-fuel-gt-MOST_FUEL w ↦ omega (arith, w.if-fuel-gt-MOST_FUEL, same.1, spelled.within.fuel)
    ]

pub returns-then-script-gt-LONGEST_SCRIPT-clause-bad : goal.returns-then-script-gt-LONGEST_SCRIPT-clause-bad
returns-then-script-gt-LONGEST_SCRIPT-clause-bad c bad h spelled =
    let same = head_same c.args.bytes.now c.in-Some.name.now c.in-Some.rest.now c.in_ok-fuel.fuel c.in_ok-fuel.script.now h c.in-Some.ensures.some c.in_ok-fuel.ensures spelled in
    let size : length c.in_ok-fuel.script.now ≡ length h.script = ap length same.2 in
    omega (arith, c.if-script-gt-LONGEST_SCRIPT.true, size, spelled.within.script)

pub returns-in_ok-from_slice-in-Ok-clause-good : goal.returns-in_ok-from_slice-in-Ok-clause-good
returns-in_ok-from_slice-in-Ok-clause-good c =
    let made = head_made c.args.bytes.now c.in-Some.name.now c.in-Some.rest.now c.in_ok-fuel.fuel c.in_ok-fuel.script.now (λ i. omega (arith, c.type_inv.bytes i)) c.in-Some.ensures.some c.in-Ok.ensures.name c.in_ok-fuel.ensures
    (omega (arith, c.if-fuel-eq0.false)) (omega (arith, c.if-fuel-gt-MOST_FUEL.false)) (omega (arith, c.if-script-gt-LONGEST_SCRIPT.false)) in
    rw (c.in-Ok.ensures.good, c.in_ok-from_slice-in-Ok.ensures) made

pub returns-in-Err-Bad-clause-bad : goal.returns-in-Err-Bad-clause-bad
returns-in-Err-Bad-clause-bad c bad h spelled =
    let same = head_same c.args.bytes.now c.in-Some.name.now c.in-Some.rest.now c.in_ok-fuel.fuel c.in_ok-fuel.script.now h c.in-Some.ensures.some c.in_ok-fuel.ensures spelled in
    (rw c.in-Err-Bad.field-0-is at c.in-Err-Bad.ensures.cause) (subst IsName (sym same.0) spelled.name)
