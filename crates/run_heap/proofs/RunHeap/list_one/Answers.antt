use Rattle.std.proofs.Common.{◌≡◌, ◌∷◌, subst, Some, slice_get}
use Rattle.std.specs.Map.{keys_of}
use Rattle.turk_base.specs.Steps.{add_keys, without_length}
use Rattle.value_cells.specs.Held.{Held, props_at, kinds_of}
use Rattle.value_cells.specs.declared.CellKind.{CellKind}
use Rattle.value_cells.specs.Seen.{Naming, kind_in}
use Rattle.run_heap.proofs.Tables.{kind_there}
use Rattle.run_heap.proofs.Listed.{lists_one}
use Rattle.run_heap.proofs.RunHeap.list_one.Goals as goal

pub returns-clause-did : goal.returns-clause-did
returns-clause-did c =
    let old = c.args.self.now in
    let ks = keys_of (props_at old.cells.now c.args.cell) in
    let kind = kind_there old.cells.now c.args.cell c.requires in
    let all : (kind : CellKind) (nu : Naming) → slice_get (kinds_of old.cells.now) c.args.cell ≡ Some kind → c.add_listed.new.had.items ≡ add_keys c.args.had.now.items (without_length (kind_in nu kind) ks) =
    subst (λ (h : Held). (kind : CellKind) (nu : Naming) → slice_get (kinds_of h.now) c.args.cell ≡ Some kind → c.add_listed.new.had.items ≡ add_keys c.args.had.now.items (without_length (kind_in nu kind) (keys_of (props_at h.now c.args.cell))))
    c.touch_keys.ensures.cells c.in_ok-add_listed.ensures in
    lists_one c.args.cell old c.known.ensures.cells c.requires kind.0 kind.1 c.args.had.now.items c.add_listed.new.had.items ks c.touch_keys.new.self (λ nu. all kind.0 nu kind.1) c.touch_keys.ensures.did
