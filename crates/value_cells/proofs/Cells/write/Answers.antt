use Rattle.std.proofs.Common.{◌≡◌, ◌∙◌, sym, ap, subst, set, map, nat_eq, arith, IsSome}
use Rattle.std.specs.Map.{set_value}
use Rattle.std.specs.Vec.{with_item}
use Rattle.value_cells.specs.Held.{own, IsWhole}
use Rattle.value_cells.specs.Named.{stored, IsNumbered}
use Rattle.value_cells.specs.Stored.{past}
use Rattle.value_cells.specs.Undone.{befores, put}
use Rattle.value_cells.proofs.Kept.{both, no-own, value-told, written, whole-written, numbers-written, data-is, data-same, past-put, good-same, good-changed, set-long}
use Rattle.value_cells.proofs.Cells.write.Goals as goal

pub unreachable-requires : goal.unreachable-requires
unreachable-requires c = both (own c.args.self.now.now c.args.cell c.args.key.now) c.requires.there (no-own c.self.inside c.args.self.now c.self.view_is c.self.invariant c.args.cell c.args.key.now c.in_default.ensures)

pub note_write-requires-clause-there : goal.note_write-requires-clause-there
note_write-requires-clause-there c =
    subst (λ o. IsSome o)
    (sym (value-told c.self.inside c.args.self.now c.self.view_is c.self.invariant c.args.cell c.index-kept.result.now c.requires.cell c.index-kept.ensures c.args.key.now c.in-Some.number c.in-Some.ensures)) c.requires.there

pub invariant_of-self : goal.invariant_of-self
invariant_of-self c = good-same c.self.inside c.self.invariant c.note_write.new.self c.in_err-note_write.ensures.err c.note_write.ensures.marks

-- what there was at the marks stays
same : (c : goal.Joined-set) → befores c.note_write.new.self.steps.items c.note_write.new.self.marks.items (set c.self.inside.cells.items c.args.cell (record c.index_mut-data.result.now { props = c.set.new.self })) ≡ past c.self.inside
same c =
    let a = c.self.inside in let d = c.index_mut-data.result.now in let k = c.index-kept.result.now in
    let one : k ≡ d = data-same a c.args.self.now c.self.view_is c.self.invariant c.args.cell d c.requires.cell c.index_mut-data.ensures.value k c.index-kept.ensures in
    past-put a c.args.self.now c.self.view_is c.self.invariant c.args.cell d c.requires.cell c.index_mut-data.ensures.value c.note_write.new.self.steps.items c.note_write.new.self.marks.items c.set.new.self
    (ap (λ es. befores c.note_write.new.self.steps.items c.note_write.new.self.marks.items (put c.args.cell es a.cells.items)) (c.set.ensures.new ∙ (λ i. set_value (nat_eq c.in-Some.number) (sym one i).props c.args.value))
    ∙ c.in_ok-note_write.ensures.ok a.cells.items c.args.value (data-is a c.args.self.now c.self.view_is c.self.invariant c.args.cell k c.requires.cell c.index-kept.ensures))

pub invariant_of-self-2 : goal.invariant_of-self-2
invariant_of-self-2 c =
    let a = c.self.inside in let d = c.index_mut-data.result.now in let n = c.in-Some.number in
    good-changed a c.self.invariant (with_item a.cells c.args.cell (record d { props = c.set.new.self })) c.note_write.new.self
    (record {
      whole = subst (λ ps. IsWhole (stored a.keys (set a.cells.items c.args.cell (record d { props = ps })))) (sym c.set.ensures.new)
          (whole-written a c.args.self.now c.self.view_is c.self.invariant c.args.cell d c.requires.cell c.index_mut-data.ensures.value c.args.key.now n c.in-Some.ensures c.args.value c.requires.value);
      numbers = subst (λ ps. IsNumbered a.keys (set a.cells.items c.args.cell (record d { props = ps }))) (sym c.set.ensures.new)
          (numbers-written a c.args.self.now c.self.view_is c.self.invariant c.args.cell d c.requires.cell c.index_mut-data.ensures.value c.args.key.now n c.in-Some.ensures c.args.value);
    })
    (same c) c.note_write.ensures.marks c.note_write.ensures.more
    (let long = set-long a.cells.items c.args.cell (record d { props = c.set.new.self }) in omega (arith, long))

pub returns-clause-ok : goal.returns-clause-ok
returns-clause-ok c =
    let a = c.self.inside in let d = c.index_mut-data.result.now in
    ap (λ ps. stored a.keys (set a.cells.items c.args.cell (record d { props = ps }))) c.set.ensures.new
    ∙ written a c.args.self.now c.self.view_is c.self.invariant c.args.cell d c.requires.cell c.index_mut-data.ensures.value c.args.key.now c.in-Some.number c.in-Some.ensures c.args.value

pub returns-clause-marks : goal.returns-clause-marks
returns-clause-marks c = ap (map (stored c.self.inside.keys)) (same c) ∙ ap (λ h. h.marks) c.self.view_is
