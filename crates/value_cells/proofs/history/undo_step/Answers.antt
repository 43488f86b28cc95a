use Rattle.std.proofs.Common.{◌∙◌, ap, sym, set, length, arith, refl}
use Rattle.std.proofs.lemmas.Option.{slice_get_read}
use Rattle.value_cells.specs.Undone.{undoing}
use Rattle.value_cells.proofs.Undone.{changed-at, changed-past}
use Rattle.value_cells.proofs.history.undo_step.Goals as goal

pub returns-then-cell-len : goal.returns-then-cell-len
returns-then-cell-len c =
    let ds = c.args.cells.now.items in let i = c.args.step.cell in let d = c.index_mut-data.result.now in
    ap (λ ps. set ds i (record d { props = ps })) c.undo_in.ensures ∙ changed-at (undoing c.args.step.undo) ds i d (slice_get_read ds (length ds) i d refl (omega (arith, c.if-cell-len.true, c.len.ensures, c.args.cells.now.ok.0)) c.index_mut-data.ensures.value)

pub returns-else-cell-len : goal.returns-else-cell-len
returns-else-cell-len c = sym (changed-past (undoing c.args.step.undo) c.args.cells.now.items c.args.step.cell (omega (arith, c.if-cell-len.false, c.len.ensures, c.args.cells.now.ok.0)))
