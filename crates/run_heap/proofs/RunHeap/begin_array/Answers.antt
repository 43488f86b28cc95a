use Rattle.std.proofs.Common.{◌≡◌, refl, ap, sym, ◌∙◌, subst, [], ◌∷◌, ◌++◌, length, arith}
use Rattle.std.specs.Prelude.{pos}
use Rattle.value_cells.specs.declared.Value.{Value}
use Rattle.value_cells.specs.declared.Value.TheVariants.{Number}
use Rattle.value_cells.specs.Held.{Key, Props, props_at}
use Rattle.value_cells.proofs.Lists.{count-with}
use Rattle.slot_watch.specs.Within.{CellsWithin}
use Rattle.run_heap.specs.Core.{Core, names_in}
use Rattle.run_heap.specs.Stored.{core_of}
use Rattle.run_heap.proofs.Look.{names_same}
use Rattle.run_heap.proofs.Whole.{core_kept}
use Rattle.run_heap.proofs.RunHeap.begin_array.Goals as goal

pub invariant_of-self-2 : goal.invariant_of-self-2
invariant_of-self-2 c =
    let a = c.self.inside in
    let ps : Props = props_at a.cells.now c.args.cell ++ (c.in-Ok.key, Number c.from_u32.result) ∷ [] in
    core_kept (core_of a) c.self.invariant c.create.new.self a.slots a.left c.create.ensures.marks refl (ap names_in c.in_ok-create.ensures.ok ∙ names_same a.cells.now c.args.cell ps)
    (subst (λ n. CellsWithin n a.slots.current) (sym (ap length c.in_ok-create.ensures.ok ∙ count-with a.cells.now c.args.cell ps)) c.self.invariant.within)
