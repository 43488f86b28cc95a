use Rattle.std.proofs.Common.{◌≡◌, ◌<◌, ap, sym, ◌∙◌, subst, [], ◌∷◌, ◌++◌, length, None}
use Rattle.std.specs.Prelude.{codes}
use Rattle.turk_base.specs.Steps.{prototype_key}
use Rattle.value_cells.specs.declared.Value.TheVariants.{Text, Object}
use Rattle.value_cells.specs.Held.{Cell, Key, own, props_at, with_props}
use Rattle.run_heap.specs.Begins.{error_cells, AreCounted}
use Rattle.run_heap.proofs.Beginnings.{second_there_3, second_there_4, second_fresh, message_fresh, error_made, counted_same}
use Rattle.run_heap.proofs.begin.add_error.Goals as goal

pub add_prop-requires-2-clause-cell : goal.add_prop-requires-2-clause-cell
add_prop-requires-2-clause-cell c =
    let f = c.in_ok-function.function in
    let p = c.in_ok-prototype.prototype in
    let c2 = c.add_cell-2.new.cells.now in
    let e3 : c.add_prop.new.cells.now ≡ with_props c2 f (props_at c2 f ++ (prototype_key, Object p) ∷ []) =
    c.in_ok-add_prop.ensures.ok ∙ ap (λ (k : Key). with_props c2 f (props_at c2 f ++ (k, Object p) ∷ [])) c.as_slice.ensures in
    second_there_3 c.args.cells.now.now c.add_cell.new.cells.now c.add_cell-2.new.cells.now c.args.which c.args.parent c.in_ok-function.function c.in_ok-prototype.prototype
    c.in_ok-function.ensures.number c.in_ok-function.ensures.ok c.in_ok-prototype.ensures.number c.in_ok-prototype.ensures.ok c.add_prop.new.cells.now e3

pub add_prop-requires-2-clause-fresh : goal.add_prop-requires-2-clause-fresh
add_prop-requires-2-clause-fresh c =
    let f = c.in_ok-function.function in
    let p = c.in_ok-prototype.prototype in
    let c2 = c.add_cell-2.new.cells.now in
    let e3 : c.add_prop.new.cells.now ≡ with_props c2 f (props_at c2 f ++ (prototype_key, Object p) ∷ []) =
    c.in_ok-add_prop.ensures.ok ∙ ap (λ (k : Key). with_props c2 f (props_at c2 f ++ (k, Object p) ∷ [])) c.as_slice.ensures in
    second_fresh c.args.cells.now.now c.add_cell.new.cells.now c.add_cell-2.new.cells.now c.args.which c.args.parent c.in_ok-function.function c.in_ok-prototype.prototype
    c.in_ok-function.ensures.number c.in_ok-function.ensures.ok c.in_ok-prototype.ensures.number c.in_ok-prototype.ensures.ok c.add_prop.new.cells.now e3 c.as_slice-2.result.now

pub add_prop-requires-3-clause-cell : goal.add_prop-requires-3-clause-cell
add_prop-requires-3-clause-cell c =
    let f = c.in_ok-function.function in
    let p = c.in_ok-prototype.prototype in
    let c2 = c.add_cell-2.new.cells.now in
    let e3 : c.add_prop.new.cells.now ≡ with_props c2 f (props_at c2 f ++ (prototype_key, Object p) ∷ []) =
    c.in_ok-add_prop.ensures.ok ∙ ap (λ (k : Key). with_props c2 f (props_at c2 f ++ (k, Object p) ∷ [])) c.as_slice.ensures in
    let c3 = c.add_prop.new.cells.now in
    let e4 : c.add_prop-2.new.cells.now ≡ with_props c3 p (props_at c3 p ++ (codes "name", Text c.in_ok-name.name) ∷ []) =
    c.in_ok-add_prop-2.ensures.ok ∙ ap (λ (k : Key). with_props c3 p (props_at c3 p ++ (k, Text c.in_ok-name.name) ∷ [])) c.as_slice-2.ensures in
    second_there_4 c.args.cells.now.now c.add_cell.new.cells.now c.add_cell-2.new.cells.now c.args.which c.args.parent c.in_ok-function.function c.in_ok-prototype.prototype
    c.in_ok-function.ensures.number c.in_ok-function.ensures.ok c.in_ok-prototype.ensures.number c.in_ok-prototype.ensures.ok c.add_prop.new.cells.now e3 c.in_ok-name.name c.add_prop-2.new.cells.now e4

pub add_prop-requires-3-clause-fresh : goal.add_prop-requires-3-clause-fresh
add_prop-requires-3-clause-fresh c =
    let f = c.in_ok-function.function in
    let p = c.in_ok-prototype.prototype in
    let c2 = c.add_cell-2.new.cells.now in
    let e3 : c.add_prop.new.cells.now ≡ with_props c2 f (props_at c2 f ++ (prototype_key, Object p) ∷ []) =
    c.in_ok-add_prop.ensures.ok ∙ ap (λ (k : Key). with_props c2 f (props_at c2 f ++ (k, Object p) ∷ [])) c.as_slice.ensures in
    let c3 = c.add_prop.new.cells.now in
    let e4 : c.add_prop-2.new.cells.now ≡ with_props c3 p (props_at c3 p ++ (codes "name", Text c.in_ok-name.name) ∷ []) =
    c.in_ok-add_prop-2.ensures.ok ∙ ap (λ (k : Key). with_props c3 p (props_at c3 p ++ (k, Text c.in_ok-name.name) ∷ [])) c.as_slice-2.ensures in
    ap (λ (k : Key). own c.add_prop-2.new.cells.now p k) c.as_slice-3.ensures ∙ message_fresh c.args.cells.now.now c.add_cell.new.cells.now c.add_cell-2.new.cells.now c.args.which c.args.parent c.in_ok-function.function c.in_ok-prototype.prototype
    c.in_ok-function.ensures.number c.in_ok-function.ensures.ok c.in_ok-prototype.ensures.number c.in_ok-prototype.ensures.ok c.add_prop.new.cells.now e3 c.in_ok-name.name c.add_prop-2.new.cells.now e4

pub returns-clause-ok : goal.returns-clause-ok
returns-clause-ok c =
    let f = c.in_ok-function.function in
    let p = c.in_ok-prototype.prototype in
    let c2 = c.add_cell-2.new.cells.now in
    let e3 : c.add_prop.new.cells.now ≡ with_props c2 f (props_at c2 f ++ (prototype_key, Object p) ∷ []) =
    c.in_ok-add_prop.ensures.ok ∙ ap (λ (k : Key). with_props c2 f (props_at c2 f ++ (k, Object p) ∷ [])) c.as_slice.ensures in
    let c3 = c.add_prop.new.cells.now in
    let e4 : c.add_prop-2.new.cells.now ≡ with_props c3 p (props_at c3 p ++ (codes "name", Text c.in_ok-name.name) ∷ []) =
    c.in_ok-add_prop-2.ensures.ok ∙ ap (λ (k : Key). with_props c3 p (props_at c3 p ++ (k, Text c.in_ok-name.name) ∷ [])) c.as_slice-2.ensures in
    let c4 = c.add_prop-2.new.cells.now in
    let e5 : c.add_prop-3.new.cells.now ≡ with_props c4 p (props_at c4 p ++ (codes "message", Text []) ∷ []) =
    c.in_ok-add_prop-3.ensures.ok ∙ ap (λ (k : Key). with_props c4 p (props_at c4 p ++ (k, Text c.new.result) ∷ [])) c.as_slice-3.ensures
    ∙ ap (λ (t : Key). with_props c4 p (props_at c4 p ++ (codes "message", Text t) ∷ [])) c.new.ensures in
    error_made c.args.cells.now.now c.add_cell.new.cells.now c.add_cell-2.new.cells.now c.args.which c.args.parent c.in_ok-function.function c.in_ok-prototype.prototype
    c.in_ok-function.ensures.number c.in_ok-function.ensures.ok c.in_ok-prototype.ensures.number c.in_ok-prototype.ensures.ok c.add_prop.new.cells.now e3 c.in_ok-name.name c.add_prop-2.new.cells.now e4 c.add_prop-3.new.cells.now e5
    ∙ ap (λ (t : Key). c.args.cells.now.now ++ error_cells (length c.args.cells.now.now) c.args.which c.args.parent t) c.in_ok-name.ensures

pub returns-clause-counted : goal.returns-clause-counted
returns-clause-counted c =
    counted_same c.add_prop-2.new.cells.now c.add_prop-3.new.cells.now _ _ c.in_ok-add_prop-3.ensures.ok
    (counted_same c.add_prop.new.cells.now c.add_prop-2.new.cells.now _ _ c.in_ok-add_prop-2.ensures.ok
    (counted_same c.add_cell-2.new.cells.now c.add_prop.new.cells.now _ _ c.in_ok-add_prop.ensures.ok c.in_ok-prototype.ensures.counted))
