use Rattle.std.proofs.Common.{◌∙◌, ◌<◌, ap, sym, map, refl, arith}
use Rattle.turk_base.specs.Steps.{stands_in}
use Rattle.value_cells.specs.Held.{kinds_of}
use Rattle.run_heap.specs.Core.{count}
use Rattle.run_heap.specs.Placed.{chain_of}
use Rattle.eval_ops.proofs.Prototypes.{stands_here, stands_on}
use Rattle.eval_ops.proofs.chains.stands_above.Goals as goal

pub chain-init : goal.chain-init
chain-init c = record { here = c.requires.cell; leads = λ nu apart. refl }

pub returns-in-None : goal.returns-in-None
returns-in-None c nu apart = sym (c.chain.invariant.leads nu apart ∙ ap (λ l. stands_in (nu c.args.from) (map nu l)) c.in-None.ensures.chain)

pub returns-then-prototype-from : goal.returns-then-prototype-from
returns-then-prototype-from c nu apart =
    let n = count c.args.heap.now in
    let kinds = kinds_of c.args.heap.now.cells.now in
    let p = c.in-Some.prototype in
    sym (c.chain.invariant.leads nu apart ∙ ap (λ l. stands_in (nu c.args.from) (map nu l)) c.in-Some.ensures.chain ∙ stands_here nu n apart c.args.from c.requires.from p (chain_of kinds p) c.if-prototype-from.true)

pub chain-preserved : goal.chain-preserved
chain-preserved c =
    let n = count c.args.heap.now in
    let kinds = kinds_of c.args.heap.now.cells.now in
    let p = c.in-Some.prototype in
    let here : p < n = omega (arith, c.in-Some.ensures.older, c.chain.invariant.here) in
    record {
      here = here;
      leads = λ nu apart. c.chain.invariant.leads nu apart ∙ ap (λ l. stands_in (nu c.args.from) (map nu l)) c.in-Some.ensures.chain ∙ stands_on nu n apart c.args.from c.requires.from p (chain_of kinds p) here c.if-prototype-from.false;
    }
