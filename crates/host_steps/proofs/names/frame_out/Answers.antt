use Rattle.std.proofs.Common.{◌≡◌, ◌-◌, ◌+◌, ap, arith}
use Rattle.js_tree.specs.Pieces.{frame_out, parent_in}
use Rattle.run_host.proofs.Sequence.{leads_then, gives_on}
use Rattle.run_host.proofs.Fits.{leads_eq}
use Rattle.host_steps.proofs.Parts.{out_next}
use Rattle.host_steps.proofs.names.frame_out.Goals as goal

pub loop-i-init : goal.loop-i-init
loop-i-init g c = let e : c.args.steps ≡ c.args.steps - 0 = omega arith in
    record { rest = leads_eq (λ nu go. ap (λ k. frame_out k (nu c.args.frame) go) e); exists = c.requires.frame }

pub kind-requires-clause-cell : goal.kind-requires-clause-cell
kind-requires-clause-cell g c = c.loop-i.invariant.exists

pub loop-i-preserved : goal.loop-i-preserved
loop-i-preserved g c = let i = c.loop-i.i in let n = c.args.steps in record {
  rest = leads_then c.loop-i.invariant.rest (leads_then (leads_eq (λ nu go. out_next n i (nu c.loop-i.at) go c.loop-i-test.true))
      (leads_then (gives_on c.kind.ensures.did (λ nu kind. frame_out (n - (i + 1)) (parent_in kind (nu c.loop-i.at)))) (leads_eq (λ nu go. ap (λ f. frame_out (n - (i + 1)) f go) (c.parent_of-at.ensures.value nu)))));
  exists = c.parent_of-at.ensures.exists _ c.kind.ensures.exists c.loop-i.invariant.exists;
}

pub returns-clause-did : goal.returns-clause-did
returns-clause-did g c = let e : c.args.steps - c.loop-i.i ≡ 0 = omega (arith, c.loop-i-test.false) in
    leads_then c.loop-i.invariant.rest (leads_eq (λ nu go. ap (λ k. frame_out k (nu c.loop-i.at) go) e))
