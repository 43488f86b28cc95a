use Rattle.std.proofs.Common.{◌≡◌, ◌-◌, ◌<◌, ◌≤◌, sym, ap, ◌∙◌, Bool, true, List, ℕ, length, take, get_or, arith}
use Rattle.std.specs.Prelude.{if◌then◌else◌}
use Rattle.turk_base.specs.Trace.{begins}
use Rattle.eval_ops.proofs.Notes.{gone_in, gone_step}
use Rattle.eval_ops.proofs.Scoping.{take_all}
use Rattle.eval_ops.proofs.branches.any_absent.Goals as goal

pub loop-place-init : goal.loop-place-init
loop-place-init c = record { within = omega arith; same = sym (ap (gone_in c.args.scope.now) (take_all c.args.gone.now)) }

step : (s p : List ℕ) (l : List (List ℕ)) (i : ℕ) (b : Bool) → 0 < i → i ≤ length l → p ≡ get_or l (i - 1) p → b ≡ begins s p → gone_in s (take i l) ≡ (if b then true else gone_in s (take (i - 1) l))
step s p l i b h w e is = gone_step s p l i h w e ∙ ap (λ (b : Bool). if b then true else gone_in s (take (i - 1) l)) (sym is)

pub loop-place-preserved : goal.loop-place-preserved
loop-place-preserved c =
    let s = c.args.scope.now in
    let l = c.args.gone.now in
    let i = c.loop-place.place in
    record {
      within = omega (arith, c.loop-place.invariant.within);
      same = c.loop-place.invariant.same ∙ step s c.index-gone-place.result l i c.begins.result c.loop-place-test.true c.loop-place.invariant.within c.index-gone-place.is c.begins.ensures
          ∙ ap (λ (b : Bool). if b then true else gone_in s (take (i - 1) l)) c.if-begins.false;
    }

pub returns-then-begins : goal.returns-then-begins
returns-then-begins c =
    let s = c.args.scope.now in
    let l = c.args.gone.now in
    let i = c.loop-place.place in
    sym (c.loop-place.invariant.same ∙ step s c.index-gone-place.result l i c.begins.result c.loop-place-test.true c.loop-place.invariant.within c.index-gone-place.is c.begins.ensures
    ∙ ap (λ (b : Bool). if b then true else gone_in s (take (i - 1) l)) c.if-begins.true)

pub returns : goal.returns
returns c =
    let s = c.args.scope.now in
    let l = c.args.gone.now in
    let z : c.loop-place.place ≡ 0 = omega (arith, c.loop-place-test.false) in
    sym (c.loop-place.invariant.same ∙ ap (λ (n : ℕ). gone_in s (take n l)) z)
