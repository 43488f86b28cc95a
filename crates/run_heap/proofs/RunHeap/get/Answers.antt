use Rattle.std.proofs.Common.{◌≡◌, true, false, refl, ap, sym, ◌∙◌, subst, ℕ, ◌+◌, ◌<◌, ◌≤◌, length, arith, Some, None, option_map, OnOk, OnErr}
use Rattle.turk_base.specs.Cells.{look, put, remove}
use Rattle.turk_base.specs.State.{change}
use Rattle.turk_base.specs.Steps.{give, step}
use Rattle.std.specs.Map.{set_value, remove_entry}
use Rattle.value_cells.specs.Needs.{needs}
use Rattle.value_cells.specs.Held.{names_of, own, props_at, key_eq}
use Rattle.value_cells.specs.Seen.{val_in}
use Rattle.value_cells.specs.Does.{Says, Fails, told}
use Rattle.value_cells.proofs.Lists.{count-with}
use Rattle.run_heap.specs.Core.{Core, count, names_in, Rests}
use Rattle.run_heap.specs.Works.{Works}
use Rattle.run_heap.specs.Stored.{core_of}
use Rattle.run_heap.proofs.Turn.{Keeps, works_fails, fails_exit, keeps_same, core}
use Rattle.run_heap.proofs.Whole.{core_kept}
use Rattle.std.proofs.Common.{[], ◌∷◌, map}
use Rattle.turk_base.specs.Steps.{get_in, steps_of}
use Rattle.turk_base.specs.Prog.{Get}
use Rattle.value_cells.specs.Held.{Held, kinds_of}
use Rattle.value_cells.specs.Does.{told_stop}
use Rattle.run_heap.specs.Placed.{chain_of}
use Rattle.run_heap.proofs.Turn.{err_exit, works_give}
use Rattle.run_heap.proofs.Whole.{rests_then, rests_same}
use Rattle.run_heap.proofs.Accesses_facts.{gets_start, gets_on, gets_some, gets_err}
use Rattle.run_heap.proofs.RunHeap.get.Goals as goal

pub chain-init : goal.chain-init
chain-init c = record {
  here = c.requires;
  rests = rests_same c.args.self.now;
  leads = gets_start c.args.cell c.args.key.now c.args.self.now c.known.ensures.cells c.requires;
}

pub returns-in_err-value-clause-did : goal.returns-in_err-value-clause-did
returns-in_err-value-clause-did c =
    let x = c.in_err-value.field-0.0 in
    err_exit (λ nu. steps_of (Get (nu c.args.cell) c.args.key.now)) (λ nu. option_map (val_in nu)) c.from_residual.result x c.args.self.now c.look.new.self c.from_residual.ensures.1
    (c.chain.invariant.leads (λ nu. told_stop x) c.look.new.self (gets_err c.chain.at c.args.key.now (chain_of (kinds_of c.chain.self.cells.now) c.chain.at) x c.chain.self c.look.new.self c.in_err-value.ensures.did))

pub returns-in-Some-clause-did : goal.returns-in-Some-clause-did
returns-in-Some-clause-did c =
    c.chain.invariant.leads (λ nu. Says (Some (val_in nu c.in-Some.value))) c.look.new.self
    (gets_some c.chain.at c.args.key.now (chain_of (kinds_of c.chain.self.cells.now) c.chain.at) c.in-Some.value c.chain.self c.look.new.self
    (subst (λ o. Works (λ nu. step (change true (nu c.chain.at) (look c.args.key.now)) give) (λ nu. Says (option_map (val_in nu) o)) c.chain.self c.look.new.self) c.in-Some.is c.in_ok-value.ensures.did))

pub returns-in-None-above-clause-did : goal.returns-in-None-above-clause-did
returns-in-None-above-clause-did c =
    let none = subst (λ o. Works (λ nu. step (change true (nu c.chain.at) (look c.args.key.now)) give) (λ nu. Says (option_map (val_in nu) o)) c.chain.self c.look.new.self) c.in-None.is c.in_ok-value.ensures.did in
    let empty : chain_of (kinds_of c.chain.self.cells.now) c.chain.at ≡ [] = subst (λ (h : Held). chain_of (kinds_of h.now) c.chain.at ≡ []) c.look.ensures.cells c.in-None-above.ensures.chain in
    c.chain.invariant.leads (λ nu. Says None) c.look.new.self
    (subst (λ ch. Works (λ nu. get_in (nu c.chain.at ∷ map nu ch) c.args.key.now) (λ nu. Says None) c.chain.self c.look.new.self) (sym empty)
    (gets_on c.chain.at c.args.key.now [] (λ nu. Says None) c.chain.self c.look.new.self c.look.new.self none (works_give (λ nu. None) c.look.new.self)))

pub returns-in_err-value-clause-rests : goal.returns-in_err-value-clause-rests
returns-in_err-value-clause-rests c = rests_then c.args.self.now c.chain.self c.look.new.self c.chain.invariant.rests c.look.ensures.rests

pub returns-in-Some-clause-rests : goal.returns-in-Some-clause-rests
returns-in-Some-clause-rests c = rests_then c.args.self.now c.chain.self c.look.new.self c.chain.invariant.rests c.look.ensures.rests

pub returns-in-None-above-clause-rests : goal.returns-in-None-above-clause-rests
returns-in-None-above-clause-rests c = rests_then c.args.self.now c.chain.self c.look.new.self c.chain.invariant.rests c.look.ensures.rests

pub chain-preserved : goal.chain-preserved
chain-preserved c =
    let none = subst (λ o. Works (λ nu. step (change true (nu c.chain.at) (look c.args.key.now)) give) (λ nu. Says (option_map (val_in nu) o)) c.chain.self c.look.new.self) c.in-None.is c.in_ok-value.ensures.did in
    let p = c.in-Some-above.prototype in
    let up = subst (λ (h : Held). chain_of (kinds_of h.now) c.chain.at ≡ p ∷ chain_of (kinds_of h.now) p) c.look.ensures.cells c.in-Some-above.ensures.chain in
    let long : count c.look.new.self ≡ count c.chain.self = ap (λ (h : Held). length h.now) c.look.ensures.cells in
    record {
      here = omega (arith, c.in-Some-above.ensures.older, c.chain.invariant.here, long);
      rests = rests_then c.args.self.now c.chain.self c.look.new.self c.chain.invariant.rests c.look.ensures.rests;
      leads = λ said last y. c.chain.invariant.leads said last
          (subst (λ ch. Works (λ nu. get_in (nu c.chain.at ∷ map nu ch) c.args.key.now) said c.chain.self last) (sym up)
          (gets_on c.chain.at c.args.key.now (p ∷ chain_of (kinds_of c.chain.self.cells.now) p) said c.chain.self c.look.new.self last none
          (subst (λ (h : Held). Works (λ nu. get_in (nu p ∷ map nu (chain_of (kinds_of h.now) p)) c.args.key.now) said c.look.new.self last) c.look.ensures.cells y)));
    }
