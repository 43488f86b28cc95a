use Rattle.std.proofs.Common.{◌≡◌, ◌∙◌, sym, ap, subst, set, map, arith}
use Rattle.std.specs.Vec.{with_item}
use Rattle.value_cells.specs.declared.Cells.TheInside.{Inside}
use Rattle.value_cells.specs.Held.{IsWhole}
use Rattle.value_cells.specs.Named.{stored, IsNumbered}
use Rattle.value_cells.specs.Stored.{past, IsGood}
use Rattle.value_cells.specs.Undone.{befores, put}
use Rattle.value_cells.proofs.Lists.{insert-last}
use Rattle.value_cells.proofs.Kept.{on-err, same-seen, good-more, value-told, created, whole-created, numbers-created, whole-same, same-told, numbers-same, data-is, past-put, past-back, good-same, seen-same, good-changed, set-long}
use Rattle.value_cells.proofs.Cells.create.Goals as goal

pub invariant_of-self : goal.invariant_of-self
invariant_of-self c = subst (λ keys. IsGood (record c.self.inside { keys = keys })) (sym c.in_err-number.ensures.err) c.self.invariant

pub invariant_of-self-in_err-note_create : goal.invariant_of-self-in_err-note_create
invariant_of-self-in_err-note_create c =
    let a = c.self.inside in let keys = c.number.new.self in
    good-same (record a { keys = keys }) (good-more a c.self.invariant keys c.number.ensures.grows c.known.ensures) c.note_create.new.self c.in_err-note_create.ensures.err c.note_create.ensures.marks

pub returns-in_err-note_create-clause-err : goal.returns-in_err-note_create-clause-err
returns-in_err-note_create-clause-err c =
    on-err c.from_residual-in_err-note_create.result (ap (λ h. h.now) (same-seen c.self.inside c.self.invariant c.number.new.self c.number.ensures.grows ∙ c.self.view_is))

pub returns-in_err-note_create-clause-marks : goal.returns-in_err-note_create-clause-marks
returns-in_err-note_create-clause-marks c =
    let a = c.self.inside in let keys = c.number.new.self in
    ap (λ h. h.marks)
    (seen-same (record a { keys = keys }) (good-more a c.self.invariant keys c.number.ensures.grows c.known.ensures) c.note_create.new.self c.in_err-note_create.ensures.err c.note_create.ensures.marks
    ∙ same-seen a c.self.invariant keys c.number.ensures.grows ∙ c.self.view_is)

pub insert_at-requires-clause-fresh : goal.insert_at-requires-clause-fresh
insert_at-requires-clause-fresh c =
    let a = c.self.inside in let keys = c.number.new.self in let grows = c.number.ensures.grows in
    value-told (record a { keys = keys }) c.args.self.now (same-seen a c.self.invariant keys grows ∙ c.self.view_is) (good-more a c.self.invariant keys grows c.known.ensures)
    c.args.cell c.index_mut-data.result.now c.requires.cell c.index_mut-data.ensures.value c.args.key c.in_ok-number.number c.in_ok-number.ensures.ok
    ∙ c.requires.fresh

-- what there was at the marks stays, where the property was added
same : (c : goal.After-drop-key-inside-in-Ok)
    → befores c.note_create.new.self.steps.items c.note_create.new.self.marks.items (set c.self.inside.cells.items c.args.cell (record c.index_mut-data.result.now { props = c.insert_at.new.self })) ≡ past c.self.inside
same c =
    let a = c.self.inside in let keys = c.number.new.self in let grows = c.number.ensures.grows in
    let b : Inside = record a { keys = keys } in
    let view = same-seen a c.self.invariant keys grows ∙ c.self.view_is in
    let good = good-more a c.self.invariant keys grows c.known.ensures in
    let d = c.index_mut-data.result.now in let n = c.in_ok-number.number in
    past-put b c.args.self.now view good c.args.cell d c.requires.cell c.index_mut-data.ensures.value c.note_create.new.self.steps.items c.note_create.new.self.marks.items c.insert_at.new.self
    (ap (λ es. befores c.note_create.new.self.steps.items c.note_create.new.self.marks.items (put c.args.cell es a.cells.items)) (c.in-Ok.ensures.ok ∙ insert-last d.props c.len-place.result (n, c.args.value) c.len-place.ensures.len)
    ∙ (c.in_ok-note_create.ensures.ok a.cells.items d c.args.value (data-is b c.args.self.now view good c.args.cell d c.requires.cell c.index_mut-data.ensures.value)
    (value-told b c.args.self.now view good c.args.cell d c.requires.cell c.index_mut-data.ensures.value c.args.key n c.in_ok-number.ensures.ok ∙ c.requires.fresh)).0)

-- and where there was no memory for it
same-back : (c : goal.After-drop-key-inside-2)
    → befores c.note_create.new.self.steps.items c.note_create.new.self.marks.items (set c.self.inside.cells.items c.args.cell (record c.index_mut-data.result.now { props = c.insert_at.new.self })) ≡ past c.self.inside
same-back c =
    let a = c.self.inside in let keys = c.number.new.self in let grows = c.number.ensures.grows in
    let b : Inside = record a { keys = keys } in
    let view = same-seen a c.self.invariant keys grows ∙ c.self.view_is in
    let good = good-more a c.self.invariant keys grows c.known.ensures in
    let d = c.index_mut-data.result.now in let n = c.in_ok-number.number in
    ap (λ ps. befores c.note_create.new.self.steps.items c.note_create.new.self.marks.items (set a.cells.items c.args.cell (record d { props = ps }))) c.in-Err.ensures.err
    ∙ past-back b c.args.self.now view good c.args.cell d c.requires.cell c.index_mut-data.ensures.value c.note_create.new.self.steps.items c.note_create.new.self.marks.items
    (c.in_ok-note_create.ensures.ok a.cells.items d c.args.value (data-is b c.args.self.now view good c.args.cell d c.requires.cell c.index_mut-data.ensures.value)
    (value-told b c.args.self.now view good c.args.cell d c.requires.cell c.index_mut-data.ensures.value c.args.key n c.in_ok-number.ensures.ok ∙ c.requires.fresh)).1

pub invariant_of-self-in-Ok : goal.invariant_of-self-in-Ok
invariant_of-self-in-Ok c =
    let a = c.self.inside in let keys = c.number.new.self in let grows = c.number.ensures.grows in
    let b : Inside = record a { keys = keys } in
    let view = same-seen a c.self.invariant keys grows ∙ c.self.view_is in
    let good = good-more a c.self.invariant keys grows c.known.ensures in
    let d = c.index_mut-data.result.now in let n = c.in_ok-number.number in
    let last = c.in-Ok.ensures.ok ∙ insert-last d.props c.len-place.result (n, c.args.value) c.len-place.ensures.len in
    good-changed b good (with_item a.cells c.args.cell (record d { props = c.insert_at.new.self })) c.note_create.new.self
    (record {
      whole = subst (λ ps. IsWhole (stored keys (set a.cells.items c.args.cell (record d { props = ps })))) (sym last)
          (whole-created b c.args.self.now view good c.args.cell d c.requires.cell c.index_mut-data.ensures.value c.args.key n c.in_ok-number.ensures.ok c.args.value c.requires.value);
      numbers = subst (λ ps. IsNumbered keys (set a.cells.items c.args.cell (record d { props = ps }))) (sym last)
          (numbers-created b c.args.self.now view good c.args.cell d c.requires.cell c.index_mut-data.ensures.value c.args.key n c.in_ok-number.ensures.ok c.args.value);
    })
    (same c) c.note_create.ensures.marks c.note_create.ensures.more
    (let long = set-long a.cells.items c.args.cell (record d { props = c.insert_at.new.self }) in omega (arith, long))

pub returns-in-Ok-clause-ok : goal.returns-in-Ok-clause-ok
returns-in-Ok-clause-ok c =
    let a = c.self.inside in let keys = c.number.new.self in let grows = c.number.ensures.grows in
    let d = c.index_mut-data.result.now in let n = c.in_ok-number.number in
    ap (λ ps. stored keys (set a.cells.items c.args.cell (record d { props = ps }))) (c.in-Ok.ensures.ok ∙ insert-last d.props c.len-place.result (n, c.args.value) c.len-place.ensures.len)
    ∙ created (record a { keys = keys }) c.args.self.now (same-seen a c.self.invariant keys grows ∙ c.self.view_is) (good-more a c.self.invariant keys grows c.known.ensures)
    c.args.cell d c.requires.cell c.index_mut-data.ensures.value c.args.key n c.in_ok-number.ensures.ok c.args.value

pub returns-in-Ok-clause-marks : goal.returns-in-Ok-clause-marks
returns-in-Ok-clause-marks c =
    ap (map (stored c.number.new.self)) (same c) ∙ ap (λ h. h.marks) (same-seen c.self.inside c.self.invariant c.number.new.self c.number.ensures.grows ∙ c.self.view_is)

pub invariant_of-self-2 : goal.invariant_of-self-2
invariant_of-self-2 c =
    let a = c.self.inside in let keys = c.number.new.self in let grows = c.number.ensures.grows in
    let b : Inside = record a { keys = keys } in
    let view = same-seen a c.self.invariant keys grows ∙ c.self.view_is in
    let good = good-more a c.self.invariant keys grows c.known.ensures in
    let d = c.index_mut-data.result.now in
    good-changed b good (with_item a.cells c.args.cell (record d { props = c.insert_at.new.self })) c.note_create.new.self
    (record {
      whole = subst (λ ps. IsWhole (stored keys (set a.cells.items c.args.cell (record d { props = ps })))) (sym c.in-Err.ensures.err)
          (whole-same b c.args.self.now view good c.args.cell d c.requires.cell c.index_mut-data.ensures.value);
      numbers = subst (λ ps. IsNumbered keys (set a.cells.items c.args.cell (record d { props = ps }))) (sym c.in-Err.ensures.err)
          (numbers-same b c.args.self.now view good c.args.cell d c.requires.cell c.index_mut-data.ensures.value);
    })
    (same-back c) c.note_create.ensures.marks c.note_create.ensures.more
    (let long = set-long a.cells.items c.args.cell (record d { props = c.insert_at.new.self }) in omega (arith, long))

pub returns-clause-err : goal.returns-clause-err
returns-clause-err c =
    let a = c.self.inside in let keys = c.number.new.self in let grows = c.number.ensures.grows in
    let d = c.index_mut-data.result.now in
    ap (λ ps. stored keys (set a.cells.items c.args.cell (record d { props = ps }))) c.in-Err.ensures.err
    ∙ same-told (record a { keys = keys }) c.args.self.now (same-seen a c.self.invariant keys grows ∙ c.self.view_is) (good-more a c.self.invariant keys grows c.known.ensures)
    c.args.cell d c.requires.cell c.index_mut-data.ensures.value

pub returns-clause-marks : goal.returns-clause-marks
returns-clause-marks c =
    ap (map (stored c.number.new.self)) (same-back c) ∙ ap (λ h. h.marks) (same-seen c.self.inside c.self.invariant c.number.new.self c.number.ensures.grows ∙ c.self.view_is)
