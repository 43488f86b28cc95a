use Rattle.std.proofs.Common.{◌≡◌, refl, ap, sym, subst, length, [], ◌+◌, arith}
use Rattle.value_cells.specs.Needs.{kind_needs}
use Rattle.value_cells.specs.Held.{Cell}
use Rattle.run_heap.specs.Core.{Core, count}
use Rattle.run_heap.specs.Stored.{core_of}
use Rattle.run_heap.proofs.Made.{fresh_name, add_core}
use Rattle.run_heap.proofs.RunHeap.add_cell.Goals as goal

pub make-requires-clause-fresh : goal.make-requires-clause-fresh
make-requires-clause-fresh c =
    let a = c.self.inside in
    fresh_name (core_of a) c.self.invariant c.in-Ok.name
    (subst (λ (s : Core). c.in-Ok.name.scope ≡ s.place.path) (sym c.self.view_is) c.in-Ok.ensures.scope)
    (subst (λ (s : Core). c.in-Ok.name.number ≡ s.place.made) (sym c.self.view_is) c.in-Ok.ensures.number)

pub invariant_of-self : goal.invariant_of-self
invariant_of-self c =
    let a = c.self.inside in
    let cell : Cell = record { name = c.in-Ok.name; kind = c.args.kind; props = [] } in
    let new : Core = record { cells = c.make.new.self; slots = a.slots; place = record { path = a.place.path; branch = a.place.branch; made = a.place.made + 1; calls = a.place.calls }; outer = a.outer.items; left = a.left } in
    add_core cell (core_of a) new c.known.ensures
    (record {
      cells = c.in-Ok-make.ensures.ok;
      slots = refl;
      made = omega arith;
      path = refl;
      branch = refl;
      calls = refl;
      left = refl;
      scope = subst (λ (s : Core). c.in-Ok.name.scope ≡ s.place.path) (sym c.self.view_is) c.in-Ok.ensures.scope;
      number = subst (λ (s : Core). c.in-Ok.name.number ≡ s.place.made) (sym c.self.view_is) c.in-Ok.ensures.number;
    }) c.self.invariant c.make.ensures.marks refl
