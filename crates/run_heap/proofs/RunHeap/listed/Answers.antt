use Rattle.std.proofs.Common.{◌≡◌, refl, ap, sym, ◌∙◌, subst, ℕ, ◌<◌, List, [], ◌∷◌, length, map, arith}
use Rattle.turk_base.specs.Steps.{keys_in, steps_of}
use Rattle.turk_base.specs.Prog.{Keys}
use Rattle.value_cells.specs.Held.{Held, Key, kinds_of}
use Rattle.value_cells.specs.Seen.{Naming}
use Rattle.value_cells.specs.Does.{Told, Says, told, told_stop}
use Rattle.run_heap.specs.Core.{Core, count}
use Rattle.run_heap.specs.Placed.{chain_of}
use Rattle.run_heap.specs.Works.{Works}
use Rattle.run_heap.proofs.Turn.{err_exit, works_give}
use Rattle.run_heap.proofs.Whole.{rests_then, rests_same}
use Rattle.run_heap.proofs.Listed.{listed_start, listed_on, listed_out}
use Rattle.run_heap.proofs.RunHeap.listed.Goals as goal

pub chain-init : goal.chain-init
chain-init c = record {
  here = c.requires;
  rests = rests_same c.args.self.now;
  cells = refl;
  leads = λ said last y.
      listed_start c.args.cell c.args.self.now c.known.ensures.cells c.requires said last
      (subst (λ had. Works (λ nu. keys_in had (nu c.args.cell ∷ map nu (chain_of (kinds_of c.args.self.now.cells.now) c.args.cell))) said c.args.self.now last) c.new-had.ensures.items y);
}

pub returns-in_err-list_one-clause-did : goal.returns-in_err-list_one-clause-did
returns-in_err-list_one-clause-did c =
    let x = c.in_err-list_one.field-0.0 in
    err_exit (λ nu. steps_of (Keys (nu c.args.cell))) (λ nu keys. keys.items) c.from_residual.result x c.args.self.now c.list_one.new.self c.from_residual.ensures.1
    (c.chain.invariant.leads (λ nu. told_stop x) c.list_one.new.self
    (listed_out c.chain.at c.chain.had.items (chain_of (kinds_of c.chain.self.cells.now) c.chain.at) x c.chain.self c.list_one.new.self c.in_err-list_one.ensures.did))

pub returns-in-None-clause-did : goal.returns-in-None-clause-did
returns-in-None-clause-did c =
    let new = c.list_one.new.had.items in
    let empty : chain_of (kinds_of c.chain.self.cells.now) c.chain.at ≡ [] = subst (λ (h : Held). chain_of (kinds_of h.now) c.chain.at ≡ []) c.list_one.ensures.cells c.in-None.ensures.chain in
    c.chain.invariant.leads (λ nu. Says new) c.list_one.new.self
    (subst (λ ch. Works (λ nu. keys_in c.chain.had.items (nu c.chain.at ∷ map nu ch)) (λ nu. Says new) c.chain.self c.list_one.new.self) (sym empty)
    (listed_on c.chain.at c.chain.had.items [] new (λ nu. Says new) c.chain.self c.list_one.new.self c.list_one.new.self c.in_ok-list_one.ensures.did (works_give (λ nu. new) c.list_one.new.self)))

pub chain-preserved : goal.chain-preserved
chain-preserved c =
    let p = c.in-Some.prototype in
    let new = c.list_one.new.had.items in
    let up = subst (λ (h : Held). chain_of (kinds_of h.now) c.chain.at ≡ p ∷ chain_of (kinds_of h.now) p) c.list_one.ensures.cells c.in-Some.ensures.chain in
    let long : count c.list_one.new.self ≡ count c.chain.self = ap (λ (h : Held). length h.now) c.list_one.ensures.cells in
    record {
      here = omega (arith, c.in-Some.ensures.older, c.chain.invariant.here, long);
      rests = rests_then c.args.self.now c.chain.self c.list_one.new.self c.chain.invariant.rests c.list_one.ensures.rests;
      cells = c.list_one.ensures.cells ∙ c.chain.invariant.cells;
      leads = λ said last y. c.chain.invariant.leads said last
          (subst (λ ch. Works (λ nu. keys_in c.chain.had.items (nu c.chain.at ∷ map nu ch)) said c.chain.self last) (sym up)
          (listed_on c.chain.at c.chain.had.items (p ∷ chain_of (kinds_of c.chain.self.cells.now) p) new said c.chain.self c.list_one.new.self last c.in_ok-list_one.ensures.did
          (subst (λ (h : Held). Works (λ nu. keys_in new (nu p ∷ map nu (chain_of (kinds_of h.now) p))) said c.list_one.new.self last) c.list_one.ensures.cells y)));
    }
