use Rattle.std.proofs.Common.{◌≡◌, ◌∙◌, sym, ap, subst, set, map, arith}
use Rattle.std.specs.Vec.{with_item}
use Rattle.value_cells.specs.Held.{own, IsWhole}
use Rattle.value_cells.specs.Named.{stored, IsNumbered}
use Rattle.value_cells.specs.Stored.{past}
use Rattle.value_cells.specs.Undone.{befores}
use Rattle.value_cells.proofs.Kept.{both, no-own, deleted, whole-deleted, numbers-deleted, data-is, past-put, good-same, good-changed, set-long}
use Rattle.value_cells.proofs.Cells.delete.Goals as goal

pub unreachable-requires : goal.unreachable-requires
unreachable-requires c = both (own c.args.self.now.now c.args.cell c.args.key.now) c.requires.there (no-own c.self.inside c.args.self.now c.self.view_is c.self.invariant c.args.cell c.args.key.now c.in_default.ensures)

pub invariant_of-self : goal.invariant_of-self
invariant_of-self c = good-same c.self.inside c.self.invariant c.note_all.new.self c.in_err-note_all.ensures.err c.note_all.ensures.marks

-- what there was at the marks stays
same : (c : goal.Joined-delete) → befores c.note_all.new.self.steps.items c.note_all.new.self.marks.items (set c.self.inside.cells.items c.args.cell (record c.index_mut-data.result.now { props = c.delete.new.self })) ≡ past c.self.inside
same c =
    let a = c.self.inside in
    past-put a c.args.self.now c.self.view_is c.self.invariant c.args.cell c.index_mut-data.result.now c.requires.cell c.index_mut-data.ensures.value c.note_all.new.self.steps.items c.note_all.new.self.marks.items c.delete.new.self
    (c.in_ok-note_all.ensures.ok a.cells.items c.delete.new.self (data-is a c.args.self.now c.self.view_is c.self.invariant c.args.cell c.index-kept.result.now c.requires.cell c.index-kept.ensures))

pub invariant_of-self-2 : goal.invariant_of-self-2
invariant_of-self-2 c =
    let a = c.self.inside in let d = c.index_mut-data.result.now in let n = c.in-Some.number in
    good-changed a c.self.invariant (with_item a.cells c.args.cell (record d { props = c.delete.new.self })) c.note_all.new.self
    (record {
      whole = subst (λ ps. IsWhole (stored a.keys (set a.cells.items c.args.cell (record d { props = ps })))) (sym c.delete.ensures.new)
          (whole-deleted a c.args.self.now c.self.view_is c.self.invariant c.args.cell d c.requires.cell c.index_mut-data.ensures.value c.args.key.now n c.in-Some.ensures);
      numbers = subst (λ ps. IsNumbered a.keys (set a.cells.items c.args.cell (record d { props = ps }))) (sym c.delete.ensures.new)
          (numbers-deleted a c.args.self.now c.self.view_is c.self.invariant c.args.cell d c.requires.cell c.index_mut-data.ensures.value c.args.key.now n c.in-Some.ensures);
    })
    (same c) c.note_all.ensures.marks c.note_all.ensures.more
    (let long = set-long a.cells.items c.args.cell (record d { props = c.delete.new.self }) in omega (arith, long))

pub returns-clause-ok : goal.returns-clause-ok
returns-clause-ok c =
    let a = c.self.inside in let d = c.index_mut-data.result.now in
    ap (λ ps. stored a.keys (set a.cells.items c.args.cell (record d { props = ps }))) c.delete.ensures.new
    ∙ deleted a c.args.self.now c.self.view_is c.self.invariant c.args.cell d c.requires.cell c.index_mut-data.ensures.value c.args.key.now c.in-Some.number c.in-Some.ensures

pub returns-clause-marks : goal.returns-clause-marks
returns-clause-marks c = ap (map (stored c.self.inside.keys)) (same c) ∙ ap (λ h. h.marks) c.self.view_is
