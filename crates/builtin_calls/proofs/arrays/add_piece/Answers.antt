use Rattle.std.proofs.Common.{ap, sym, ◌+◌}
use Rattle.turk_base.specs.Prog.{Put, ask}
use Rattle.turk_base.specs.Errors.{index_text}
use Rattle.turk_base.specs.BuiltIns as spec
use Rattle.turk_base.specs.Values as model
use Rattle.value_cells.specs.Seen.{val_in, kind_in}
use Rattle.builtin_calls.proofs.Moves.{takes_as, leads_then, leads_same, gives_on, kind_gives, other_kind, other_value}
use Rattle.builtin_calls.proofs.arrays.add_piece.Goals as goal

pub returns-in-Array-clause-did : goal.returns-in-Array-clause-did
returns-in-Array-clause-did g c = takes_as _ (λ nu n. n) c.spread.result
    (leads_then (leads_then (leads_same (λ nu go. ap (λ v. spec.kind_in (val_in nu v) (λ kind. spec.add_piece (nu c.args.out) (val_in nu v) c.args.at kind go)) c.in-Object.is))
    (gives_on (kind_gives c.in-Object.cell c.kind.result.now c.kind.ensures.did) (λ nu kind. spec.add_piece (nu c.args.out) (model.Object (nu c.in-Object.cell)) c.args.at kind)))
    (leads_same (λ nu go. ap (λ k. spec.add_piece (nu c.args.out) (model.Object (nu c.in-Object.cell)) c.args.at (kind_in nu k) go) c.in-Array.is)))
    c.spread.ensures.did

pub returns-in_default-kind-clause-did : goal.returns-in_default-kind-clause-did
returns-in_default-kind-clause-did g c = takes_as _ (λ nu n. n) c.put_one.result
    (leads_then (leads_then (leads_then (leads_same (λ nu go. ap (λ v. spec.kind_in (val_in nu v) (λ kind. spec.add_piece (nu c.args.out) (val_in nu v) c.args.at kind go)) c.in-Object.is))
    (gives_on (kind_gives c.in-Object.cell c.kind.result.now c.kind.ensures.did) (λ nu kind. spec.add_piece (nu c.args.out) (model.Object (nu c.in-Object.cell)) c.args.at kind)))
    (other_kind c.args.out c.in-Object.cell c.args.at c.kind.result.now c.in_default-kind.not-Array))
    (leads_same (λ nu go. ap (λ v. ask (Put (nu c.args.out) (index_text c.args.at) (val_in nu v)) (λ _. go (c.args.at + 1))) (sym c.in-Object.is))))
    c.put_one.ensures.did

pub returns-in_default-clause-did : goal.returns-in_default-clause-did
returns-in_default-clause-did g c = takes_as _ (λ nu n. n) c.put_one-in_default.result
    (other_value c.args.out c.args.at c.args.value.now c.in_default.not-Object) c.put_one-in_default.ensures.did
