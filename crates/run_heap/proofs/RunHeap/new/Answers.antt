use Rattle.std.proofs.Common.{◌≡◌, sym, subst, [], length}
use Rattle.run_heap.specs.Core.{Core}
use Rattle.run_heap.specs.Whole.{IsCore}
use Rattle.run_heap.specs.Begins.{Begins}
use Rattle.run_heap.proofs.Beginnings.{begun, begins_core, begins}
use Rattle.run_heap.proofs.RunHeap.new.Goals as goal

pub invariant_of-result : goal.invariant_of-result
invariant_of-result c =
    let e : begun c.in_ok-cells.cells c.new.result c.in_ok-cells.ensures.now c.in_ok-cells.ensures.marks c.new.ensures.opened c.new.ensures.verdict c.new.ensures.marks c.args.fuel
    ≡ record { cells = c.in_ok-cells.cells; slots = c.new.result; place = record { path = c.new-2.result; branch = c.new-3.result; made = 7; calls = 0 }; outer = c.new-4.result.items; left = c.args.fuel } =
    λ i. record { cells = c.in_ok-cells.cells; slots = c.new.result; place = record { path = sym c.new-2.ensures i; branch = sym c.new-3.ensures i; made = 7; calls = 0 }; outer = sym c.new-4.ensures.items i; left = c.args.fuel } in
    subst IsCore e (begins_core c.in_ok-cells.cells c.new.result c.in_ok-cells.ensures.now c.in_ok-cells.ensures.marks c.new.ensures.opened c.new.ensures.verdict c.new.ensures.marks c.args.fuel)

pub returns : goal.returns
returns c =
    let e : begun c.in_ok-cells.cells c.new.result c.in_ok-cells.ensures.now c.in_ok-cells.ensures.marks c.new.ensures.opened c.new.ensures.verdict c.new.ensures.marks c.args.fuel
    ≡ record { cells = c.in_ok-cells.cells; slots = c.new.result; place = record { path = c.new-2.result; branch = c.new-3.result; made = 7; calls = 0 }; outer = c.new-4.result.items; left = c.args.fuel } =
    λ i. record { cells = c.in_ok-cells.cells; slots = c.new.result; place = record { path = sym c.new-2.ensures i; branch = sym c.new-3.ensures i; made = 7; calls = 0 }; outer = sym c.new-4.ensures.items i; left = c.args.fuel } in
    subst (Begins c.args.fuel) e (begins c.in_ok-cells.cells c.new.result c.in_ok-cells.ensures.now c.in_ok-cells.ensures.marks c.new.ensures.opened c.new.ensures.verdict c.new.ensures.marks c.args.fuel c.known.ensures)
