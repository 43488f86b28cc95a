use Rattle.std.proofs.Common.{rules, [], ◌∷◌, ◌++◌, ◌≡◌, ◌<◌, true, refl, ap, sym, ◌∙◌, subst, ℕ, List, suc, ◌+◌, ◌-◌, Some, None, option_map, slice_get, length, drop, arith}
use Rattle.std.specs.Prelude.{IsSome, Ok, Err}
use Rattle.std.specs.Fmt.{decimal}
use Rattle.std.specs.Map.{keys_of}
use Rattle.turk_base.specs.Names.{cell, root}
use Rattle.turk_base.specs.Values as model
use Rattle.turk_base.specs.Data.{Data, DFields, DText, items_of, fields_of}
use Rattle.turk_base.specs.Cells.{look, list, length_key}
use Rattle.turk_base.specs.State.{charge, change}
use Rattle.turk_base.specs.Steps as steps
use Rattle.turk_base.specs.Steps.{Small, give, step, edit, there, take_cell, take_items, take_fields, without_length, just_elements}
use Rattle.value_cells.specs.declared.Value.{Value}
use Rattle.value_cells.specs.declared.CellKind.{CellKind}
use Rattle.value_cells.specs.Held.{Held, Key, own, props_at}
use Rattle.value_cells.specs.Seen.{Naming, val_in, kind_in}
use Rattle.value_cells.specs.Does.{Says, Refuses, told_stop}
use Rattle.run_heap.specs.Works.{Works}
use Rattle.run_heap.proofs.Turn.{works_fails}
use Rattle.run_heap.proofs.Whole.{rests_then, rests_same}
use Rattle.run_heap.proofs.Putting.{works_refuse}
use Rattle.run_heap.proofs.Index_keys.{drop_next, no_more}
use Rattle.run_heap.proofs.Listed.{take_next}
use Rattle.run_data.specs.Taken.{told_taken}
use Rattle.run_data.proofs.Parts.{read_at}
use Rattle.run_data.proofs.Found.{key_found, element_found, just_are}
use Rattle.run_data.proofs.Takes.{rest_of, fields_left, taken_err, taken_fails, keeps_of, in_none, in_some, paid_out, array_out, array_none, array_told, plain_on, object_at, too_deep, begin_items, items_next, items_none, items_out, items_lost, items_end, begin_fields, keys_push, fields_next, fields_none, fields_out, fields_lost, fields_unpaid, fields_end}
use Rattle.run_data.proofs.taking.+taking.Goals as goal

-- ---- an array

pub take_array-returns-in_err-pay-clause-did : goal.take_array-returns-in_err-pay-clause-did
take_array-returns-in_err-pay-clause-did t c =
    let one = steps.take c.args.left in
    let i = c.args.cell in
    let x = c.in_err-pay.field-0.0 in
    taken_err (λ nu. take_cell one (nu i) model.Array) (λ d. d) c.from_residual.result x c.args.heap.now c.pay.new.self c.from_residual.ensures.1
    (paid_out 1 (λ nu. edit (nu i) list (λ ks. edit (nu i) (look length_key) (λ o. steps.take_list one (nu i) (just_elements (without_length model.Array ks) o)))) x c.args.heap.now c.pay.new.self c.in_err-pay.ensures.did)

pub take_array-returns-in_err-keys-clause-did : goal.take_array-returns-in_err-keys-clause-did
take_array-returns-in_err-keys-clause-did t c =
    taken_fails (λ nu. take_cell (steps.take c.args.left) (nu c.args.cell) model.Array) (λ d. d) c.from_residual-in_err-keys.result c.args.heap.now c.pay.new.self c.pay.ensures.rests c.pay.ensures.cells c.from_residual-in_err-keys.ensures.1

pub take_array-returns-in_err-name-clause-did : goal.take_array-returns-in_err-name-clause-did
take_array-returns-in_err-name-clause-did t c =
    let g = λ (nu : Naming). take_cell (steps.take c.args.left) (nu c.args.cell) model.Array in
    let x = c.in_err-name.field-0.0 in
    taken_err g (λ d. d) c.from_residual-in_err-name.result x c.args.heap.now c.pay.new.self c.from_residual-in_err-name.ensures.1
    (subst (λ e. Works g (λ nu. told_stop e) c.args.heap.now c.pay.new.self) (sym c.in_err-name.ensures.err) (works_fails g c.args.heap.now c.pay.new.self (keeps_of c.args.heap.now c.pay.new.self c.pay.ensures.rests c.pay.ensures.cells)))

pub take_array-returns-in_err-length-clause-did : goal.take_array-returns-in_err-length-clause-did
take_array-returns-in_err-length-clause-did t c =
    let one = steps.take c.args.left in
    let i = c.args.cell in
    let x = c.in_err-length.field-0.0 in
    let ks = keys_of (props_at c.pay.new.self.cells.now i) in
    taken_err (λ nu. take_cell one (nu i) model.Array) (λ d. d) c.from_residual-in_err-length.result x c.args.heap.now c.look.new.self c.from_residual-in_err-length.ensures.1
    (array_out one i ks c.args.heap.now c.pay.new.self c.touch_keys.new.self c.in_ok-pay.ensures.did c.touch_keys.ensures.did x c.look.new.self
    (subst (λ (k : Key). Works (λ nu. step (change true (nu i) (look k)) give) (λ nu. told_stop x) c.touch_keys.new.self c.look.new.self) c.in_ok-name.ensures.ok c.in_err-length.ensures.did))

pub take_array-returns-in-None-clause-did : goal.take_array-returns-in-None-clause-did
take_array-returns-in-None-clause-did t c =
    let one = steps.take c.args.left in
    let i = c.args.cell in
    let o = c.in_ok-length.length in
    let ks = keys_of (props_at c.pay.new.self.cells.now i) in
    array_none one i ks c.args.heap.now c.pay.new.self c.touch_keys.new.self c.in_ok-pay.ensures.did c.touch_keys.ensures.did o c.look.new.self
    (subst (λ (k : Key). Works (λ nu. step (change true (nu i) (look k)) give) (λ nu. Says (option_map (val_in nu) o)) c.touch_keys.new.self c.look.new.self) c.in_ok-name.ensures.ok c.in_ok-length.ensures.did)
    (λ nu. c.in-None.ensures nu ∙ ap (λ l. just_elements (without_length model.Array l) (option_map (val_in nu) o)) (c.deref.ensures.value ∙ c.in_ok-keys.ensures))

pub take_array-take_items-requires : goal.take_array-take_items-requires
take_array-take_items-requires t c =
    let i = c.args.cell in
    let o = c.in_ok-length.length in
    let ps = props_at c.pay.new.self.cells.now i in
    let nu = λ (n : ℕ). cell root n in
    let same = c.look.ensures.cells ∙ c.touch_keys.ensures.cells in
    let just = just_are (without_length model.Array (keys_of ps)) (option_map (val_in nu) o) c.in-Some.many
    (sym (c.in-Some.ensures nu ∙ ap (λ l. just_elements (without_length model.Array l) (option_map (val_in nu) o)) (c.deref.ensures.value ∙ c.in_ok-keys.ensures))) in (
      omega (arith, c.decreases),
      (
        subst (λ (h : Held). i < length h.now) (sym (same ∙ c.pay.ensures.cells)) c.requires,
        λ at h. subst (λ (h : Held). IsSome (own h.now i (decimal at))) (sym same) (element_found ps c.in-Some.many at c.keys_differ.ensures just.0 just.1 h),
      ),
    )

pub take_array-returns-in_err-take_items-in-Some-clause-did : goal.take_array-returns-in_err-take_items-in-Some-clause-did
take_array-returns-in_err-take_items-in-Some-clause-did t c =
    let one = steps.take c.args.left in
    let i = c.args.cell in
    let o = c.in_ok-length.length in
    let ks = keys_of (props_at c.pay.new.self.cells.now i) in
    let x = c.in_err-take_items-in-Some.field-0.0 in
    taken_err (λ nu. take_cell one (nu i) model.Array) (λ d. d) c.from_residual-in_err-take_items-in-Some.result x c.args.heap.now c.take_items.new.heap c.from_residual-in_err-take_items-in-Some.ensures.1
    (array_told one i ks c.args.heap.now c.pay.new.self c.touch_keys.new.self c.in_ok-pay.ensures.did c.touch_keys.ensures.did o c.look.new.self
    (subst (λ (k : Key). Works (λ nu. step (change true (nu i) (look k)) give) (λ nu. Says (option_map (val_in nu) o)) c.touch_keys.new.self c.look.new.self) c.in_ok-name.ensures.ok c.in_ok-length.ensures.did)
    {V = List Data} c.in-Some.many items_of (Err x) c.take_items.new.heap
    (λ nu. c.in-Some.ensures nu ∙ ap (λ l. just_elements (without_length model.Array l) (option_map (val_in nu) o)) (c.deref.ensures.value ∙ c.in_ok-keys.ensures))
    c.in_err-take_items-in-Some.ensures.did)

pub take_array-returns-in-None-2-clause-did : goal.take_array-returns-in-None-2-clause-did
take_array-returns-in-None-2-clause-did t c =
    let one = steps.take c.args.left in
    let i = c.args.cell in
    let o = c.in_ok-length.length in
    let ks = keys_of (props_at c.pay.new.self.cells.now i) in
    array_told one i ks c.args.heap.now c.pay.new.self c.touch_keys.new.self c.in_ok-pay.ensures.did c.touch_keys.ensures.did o c.look.new.self
    (subst (λ (k : Key). Works (λ nu. step (change true (nu i) (look k)) give) (λ nu. Says (option_map (val_in nu) o)) c.touch_keys.new.self c.look.new.self) c.in_ok-name.ensures.ok c.in_ok-length.ensures.did)
    {V = List Data} c.in-Some.many items_of (Ok None) c.take_items.new.heap
    (λ nu. c.in-Some.ensures nu ∙ ap (λ l. just_elements (without_length model.Array l) (option_map (val_in nu) o)) (c.deref.ensures.value ∙ c.in_ok-keys.ensures))
    (in_none (λ nu. take_items one (nu i) 0 c.in-Some.many) c.in_ok-take_items-in-Some.field-0 (λ ds. items_of ds.items) c.look.new.self c.take_items.new.heap c.in-None-2.is c.in_ok-take_items-in-Some.ensures.did)

pub take_array-returns-clause-did : goal.take_array-returns-clause-did
take_array-returns-clause-did t c =
    let one = steps.take c.args.left in
    let i = c.args.cell in
    let o = c.in_ok-length.length in
    let ks = keys_of (props_at c.pay.new.self.cells.now i) in
    subst (λ (d : Data). Works (λ nu. take_cell one (nu i) model.Array) (λ nu. Says d) c.args.heap.now c.take_items.new.heap) (sym c.make.ensures)
    (array_told one i ks c.args.heap.now c.pay.new.self c.touch_keys.new.self c.in_ok-pay.ensures.did c.touch_keys.ensures.did o c.look.new.self
    (subst (λ (k : Key). Works (λ nu. step (change true (nu i) (look k)) give) (λ nu. Says (option_map (val_in nu) o)) c.touch_keys.new.self c.look.new.self) c.in_ok-name.ensures.ok c.in_ok-length.ensures.did)
    {V = List Data} c.in-Some.many items_of (Ok (Some c.in-Some-2.items.items)) c.take_items.new.heap
    (λ nu. c.in-Some.ensures nu ∙ ap (λ l. just_elements (without_length model.Array l) (option_map (val_in nu) o)) (c.deref.ensures.value ∙ c.in_ok-keys.ensures))
    (in_some (λ nu. take_items one (nu i) 0 c.in-Some.many) c.in_ok-take_items-in-Some.field-0 c.in-Some-2.items (λ ds. items_of ds.items) c.look.new.self c.take_items.new.heap c.in-Some-2.is c.in_ok-take_items-in-Some.ensures.did))

-- ---- a plain cell

pub take_plain-returns-in_err-pay-clause-did : goal.take_plain-returns-in_err-pay-clause-did
take_plain-returns-in_err-pay-clause-did t c proto =
    let one = steps.take c.args.left in
    let i = c.args.cell in
    let x = c.in_err-pay.field-0.0 in
    taken_err (λ nu. take_cell one (nu i) (model.Plain (proto nu))) (λ d. d) c.from_residual.result x c.args.heap.now c.pay.new.self c.from_residual.ensures.1
    (paid_out 1 (λ nu. edit (nu i) list (λ ks. steps.bind (take_fields one (nu i) ks) (λ ds. give (DFields ds)))) x c.args.heap.now c.pay.new.self c.in_err-pay.ensures.did)

pub take_plain-returns-in_err-keys-clause-did : goal.take_plain-returns-in_err-keys-clause-did
take_plain-returns-in_err-keys-clause-did t c proto =
    taken_fails (λ nu. take_cell (steps.take c.args.left) (nu c.args.cell) (model.Plain (proto nu))) (λ d. d) c.from_residual-in_err-keys.result c.args.heap.now c.pay.new.self c.pay.ensures.rests c.pay.ensures.cells c.from_residual-in_err-keys.ensures.1

pub take_plain-returns-in_err-take_fields-clause-did : goal.take_plain-returns-in_err-take_fields-clause-did
take_plain-returns-in_err-take_fields-clause-did t c proto =
    let one = steps.take c.args.left in
    let i = c.args.cell in
    let ks = keys_of (props_at c.pay.new.self.cells.now i) in
    let x = c.in_err-take_fields.field-0.0 in
    taken_err (λ nu. take_cell one (nu i) (model.Plain (proto nu))) (λ d. d) c.from_residual-in_err-take_fields.result x c.args.heap.now c.take_fields.new.heap c.from_residual-in_err-take_fields.ensures.1
    (plain_on one i ks c.args.heap.now c.pay.new.self c.touch_keys.new.self c.in_ok-pay.ensures.did c.touch_keys.ensures.did proto {V = List (Key × Data)} fields_of (Err x) c.take_fields.new.heap
    (subst (λ (l : List Key). Works (λ nu. take_fields one (nu i) l) (λ nu. told_stop x) c.touch_keys.new.self c.take_fields.new.heap) (c.deref.ensures.value ∙ c.in_ok-keys.ensures) c.in_err-take_fields.ensures.did))

pub take_plain-returns-in-None-clause-did : goal.take_plain-returns-in-None-clause-did
take_plain-returns-in-None-clause-did t c proto =
    let one = steps.take c.args.left in
    let i = c.args.cell in
    let ks = keys_of (props_at c.pay.new.self.cells.now i) in
    plain_on one i ks c.args.heap.now c.pay.new.self c.touch_keys.new.self c.in_ok-pay.ensures.did c.touch_keys.ensures.did proto {V = List (Key × Data)} fields_of (Ok None) c.take_fields.new.heap
    (subst (λ (l : List Key). Works (λ nu. take_fields one (nu i) l) (λ nu. Refuses model.NotData) c.touch_keys.new.self c.take_fields.new.heap) (c.deref.ensures.value ∙ c.in_ok-keys.ensures)
    (in_none (λ nu. take_fields one (nu i) c.deref.result.now) c.in_ok-take_fields.field-0 (λ fs. fields_of fs.items) c.touch_keys.new.self c.take_fields.new.heap c.in-None.is c.in_ok-take_fields.ensures.did))

pub take_plain-returns-clause-did : goal.take_plain-returns-clause-did
take_plain-returns-clause-did t c proto =
    let one = steps.take c.args.left in
    let i = c.args.cell in
    let ks = keys_of (props_at c.pay.new.self.cells.now i) in
    let fs = c.in-Some.fields.items in
    subst (λ (d : Data). Works (λ nu. take_cell one (nu i) (model.Plain (proto nu))) (λ nu. Says d) c.args.heap.now c.take_fields.new.heap) (sym c.make.ensures)
    (plain_on one i ks c.args.heap.now c.pay.new.self c.touch_keys.new.self c.in_ok-pay.ensures.did c.touch_keys.ensures.did proto {V = List (Key × Data)} fields_of (Ok (Some fs)) c.take_fields.new.heap
    (subst (λ (l : List Key). Works (λ nu. take_fields one (nu i) l) (λ nu. Says (fields_of fs)) c.touch_keys.new.self c.take_fields.new.heap) (c.deref.ensures.value ∙ c.in_ok-keys.ensures)
    (in_some (λ nu. take_fields one (nu i) c.deref.result.now) c.in_ok-take_fields.field-0 c.in-Some.fields (λ fs. fields_of fs.items) c.touch_keys.new.self c.take_fields.new.heap c.in-Some.is c.in_ok-take_fields.ensures.did)))

-- ---- fields

pub take_fields-loop-key-init : goal.take_fields-loop-key-init
take_fields-loop-key-init t c = record {
  cells = refl;
  rests = rests_same c.args.heap.now;
  keys = ap keys_of c.new-fields.ensures.items;
  leads = λ said last y. begin_fields (steps.take c.args.left) c.args.cell c.args.keys.now c.new-fields.result.items c.new-fields.ensures.items said c.args.heap.now last y;
}

pub take_fields-returns-in_err-pay-clause-did : goal.take_fields-returns-in_err-pay-clause-did
take_fields-returns-in_err-pay-clause-did t c =
    let one = steps.take c.args.left in
    let i = c.args.cell in
    let ks = c.args.keys.now in
    let at = c.loop-key.key-index in
    let k = c.key-item.result in
    let front = c.loop-key.fields.items in
    let here = read_at ks at k c.loop-key-test.true c.key-item.is in
    let x = c.in_err-pay.field-0.0 in
    let n : c.key_cost.result ≡ suc (length k) = omega (arith, c.key_cost.ensures) in
    taken_err (λ nu. take_fields one (nu i) ks) (λ fs. fields_of fs.items) c.from_residual.result x c.args.heap.now c.pay.new.self c.from_residual.ensures.1
    (c.loop-key.invariant.leads (λ nu. told_stop x) c.pay.new.self
    (subst (λ l. Works (λ nu. fields_left one i nu l front) (λ nu. told_stop x) c.loop-key.heap c.pay.new.self) (sym (drop_next ks at k here))
    (fields_unpaid one i k (drop (suc at) ks) front x c.loop-key.heap c.pay.new.self
    (subst (λ (n : ℕ). Works (λ (nu : Naming). step (charge n) give) (λ nu. told_stop x) c.loop-key.heap c.pay.new.self) n c.in_err-pay.ensures.did))))

pub take_fields-look_there-requires-clause-there : goal.take_fields-look_there-requires-clause-there
take_fields-look_there-requires-clause-there t c =
    let ks = c.args.keys.now in
    let at = c.loop-key.key-index in
    let k = c.key-item.result in
    let here = read_at ks at k c.loop-key-test.true c.key-item.is in
    subst (λ (h : Held). IsSome (own h.now c.args.cell k)) (sym (c.pay.ensures.cells ∙ c.loop-key.invariant.cells))
    (key_found (props_at c.args.heap.now.cells.now c.args.cell) at k (ap (λ l. slice_get l at) (sym c.requires.all) ∙ here))

pub take_fields-returns-in_err-value-clause-did : goal.take_fields-returns-in_err-value-clause-did
take_fields-returns-in_err-value-clause-did t c =
    let one = steps.take c.args.left in
    let i = c.args.cell in
    let ks = c.args.keys.now in
    let at = c.loop-key.key-index in
    let k = c.key-item.result in
    let front = c.loop-key.fields.items in
    let here = read_at ks at k c.loop-key-test.true c.key-item.is in
    let x = c.in_err-value.field-0.0 in
    let n : c.key_cost.result ≡ suc (length k) = omega (arith, c.key_cost.ensures) in
    taken_err (λ nu. take_fields one (nu i) ks) (λ fs. fields_of fs.items) c.from_residual-in_err-value.result x c.args.heap.now c.look_there.new.heap c.from_residual-in_err-value.ensures.1
    (c.loop-key.invariant.leads (λ nu. told_stop x) c.look_there.new.heap
    (subst (λ l. Works (λ nu. fields_left one i nu l front) (λ nu. told_stop x) c.loop-key.heap c.look_there.new.heap) (sym (drop_next ks at k here))
    (fields_lost one i k (drop (suc at) ks) front c.loop-key.heap c.pay.new.self
    (subst (λ (n : ℕ). Works (λ (nu : Naming). step (charge n) give) (λ nu. Says tt) c.loop-key.heap c.pay.new.self) n c.in_ok-pay.ensures.did)
    x c.look_there.new.heap c.in_err-value.ensures.did)))

pub take_fields-returns-in_err-take_value-clause-did : goal.take_fields-returns-in_err-take_value-clause-did
take_fields-returns-in_err-take_value-clause-did t c =
    let one = steps.take c.args.left in
    let i = c.args.cell in
    let ks = c.args.keys.now in
    let at = c.loop-key.key-index in
    let k = c.key-item.result in
    let front = c.loop-key.fields.items in
    let here = read_at ks at k c.loop-key-test.true c.key-item.is in
    let x = c.in_err-take_value.field-0.0 in
    let n : c.key_cost.result ≡ suc (length k) = omega (arith, c.key_cost.ensures) in
    taken_err (λ nu. take_fields one (nu i) ks) (λ fs. fields_of fs.items) c.from_residual-in_err-take_value.result x c.args.heap.now c.take_value.new.heap c.from_residual-in_err-take_value.ensures.1
    (c.loop-key.invariant.leads (λ nu. told_stop x) c.take_value.new.heap
    (subst (λ l. Works (λ nu. fields_left one i nu l front) (λ nu. told_stop x) c.loop-key.heap c.take_value.new.heap) (sym (drop_next ks at k here))
    (fields_out one i k (drop (suc at) ks) front c.loop-key.heap c.pay.new.self
    (subst (λ (n : ℕ). Works (λ (nu : Naming). step (charge n) give) (λ nu. Says tt) c.loop-key.heap c.pay.new.self) n c.in_ok-pay.ensures.did)
    c.in_ok-value.value c.look_there.new.heap c.in_ok-value.ensures.did x c.take_value.new.heap c.in_err-take_value.ensures.did)))

pub take_fields-returns-in-None-clause-did : goal.take_fields-returns-in-None-clause-did
take_fields-returns-in-None-clause-did t c =
    let one = steps.take c.args.left in
    let i = c.args.cell in
    let ks = c.args.keys.now in
    let at = c.loop-key.key-index in
    let k = c.key-item.result in
    let v = c.in_ok-value.value in
    let front = c.loop-key.fields.items in
    let here = read_at ks at k c.loop-key-test.true c.key-item.is in
    let n : c.key_cost.result ≡ suc (length k) = omega (arith, c.key_cost.ensures) in
    c.loop-key.invariant.leads (λ nu. Refuses model.NotData) c.take_value.new.heap
    (subst (λ l. Works (λ nu. fields_left one i nu l front) (λ nu. Refuses model.NotData) c.loop-key.heap c.take_value.new.heap) (sym (drop_next ks at k here))
    (fields_none one i k (drop (suc at) ks) front c.loop-key.heap c.pay.new.self
    (subst (λ (n : ℕ). Works (λ (nu : Naming). step (charge n) give) (λ nu. Says tt) c.loop-key.heap c.pay.new.self) n c.in_ok-pay.ensures.did)
    v c.look_there.new.heap c.in_ok-value.ensures.did c.take_value.new.heap
    (in_none (λ nu. one (val_in nu v)) c.in_ok-take_value.field-0 (λ d. d) c.look_there.new.heap c.take_value.new.heap c.in-None.is c.in_ok-take_value.ensures.did)))

pub take_fields-returns-in_err-name-in-Some-clause-did : goal.take_fields-returns-in_err-name-in-Some-clause-did
take_fields-returns-in_err-name-in-Some-clause-did t c =
    let h = c.args.heap.now in
    taken_fails (λ nu. take_fields (steps.take c.args.left) (nu c.args.cell) c.args.keys.now) (λ fs. fields_of fs.items) c.from_residual-in_err-name-in-Some.result h c.take_value.new.heap
    (rests_then h c.look_there.new.heap c.take_value.new.heap (rests_then h c.pay.new.self c.look_there.new.heap (rests_then h c.loop-key.heap c.pay.new.self c.loop-key.invariant.rests c.pay.ensures.rests) c.look_there.ensures.rests) c.take_value.ensures.rests)
    (c.take_value.ensures.cells ∙ c.look_there.ensures.cells ∙ c.pay.ensures.cells ∙ c.loop-key.invariant.cells) c.from_residual-in_err-name-in-Some.ensures.1

pub take_fields-returns-then-is_err-clause-did : goal.take_fields-returns-then-is_err-clause-did
take_fields-returns-then-is_err-clause-did t c =
    let h = c.args.heap.now in
    works_fails (λ nu. take_fields (steps.take c.args.left) (nu c.args.cell) c.args.keys.now) h c.take_value.new.heap
    (keeps_of h c.take_value.new.heap
    (rests_then h c.look_there.new.heap c.take_value.new.heap (rests_then h c.pay.new.self c.look_there.new.heap (rests_then h c.loop-key.heap c.pay.new.self c.loop-key.invariant.rests c.pay.ensures.rests) c.look_there.ensures.rests) c.take_value.ensures.rests)
    (c.take_value.ensures.cells ∙ c.look_there.ensures.cells ∙ c.pay.ensures.cells ∙ c.loop-key.invariant.cells))

pub take_fields-returns-clause-did : goal.take_fields-returns-clause-did
take_fields-returns-clause-did t c =
    let one = steps.take c.args.left in
    let i = c.args.cell in
    let ks = c.args.keys.now in
    let at = c.loop-key.key-index in
    let h = c.loop-key.heap in
    let front = c.loop-key.fields.items in
    c.loop-key.invariant.leads (λ nu. Says (fields_of front)) h
    (subst (λ l. Works (λ nu. fields_left one i nu l front) (λ nu. Says (fields_of front)) h h) (sym (no_more at ks c.loop-key-test.false)) (fields_end one i front h))

-- ---- one cell

pub take_object-returns-in-Frame-clause-did : goal.take_object-returns-in-Frame-clause-did
take_object-returns-in-Frame-clause-did t c =
    let h = c.args.heap.now in
    let i = c.args.cell in
    object_at h c.known.ensures.cells i c.requires c.kind.result.now c.kind.ensures.kind c.args.left (c.args.left - 1) (omega (arith, c.if-left-eq0.false)) (λ nu. Refuses model.NotData) h
    (subst (λ (k : CellKind). Works (λ nu. take_cell (steps.take (c.args.left - 1)) (nu i) (kind_in nu k)) (λ nu. Refuses model.NotData) h h) (sym c.in-Frame.is) (works_refuse model.NotData h))

pub take_object-returns-in-Function-clause-did : goal.take_object-returns-in-Function-clause-did
take_object-returns-in-Function-clause-did t c =
    let h = c.args.heap.now in
    let i = c.args.cell in
    object_at h c.known.ensures.cells i c.requires c.kind.result.now c.kind.ensures.kind c.args.left (c.args.left - 1) (omega (arith, c.if-left-eq0.false)) (λ nu. Refuses model.NotData) h
    (subst (λ (k : CellKind). Works (λ nu. take_cell (steps.take (c.args.left - 1)) (nu i) (kind_in nu k)) (λ nu. Refuses model.NotData) h h) (sym c.in-Function.is) (works_refuse model.NotData h))

pub take_object-returns-in-BuiltIn-clause-did : goal.take_object-returns-in-BuiltIn-clause-did
take_object-returns-in-BuiltIn-clause-did t c =
    let h = c.args.heap.now in
    let i = c.args.cell in
    object_at h c.known.ensures.cells i c.requires c.kind.result.now c.kind.ensures.kind c.args.left (c.args.left - 1) (omega (arith, c.if-left-eq0.false)) (λ nu. Refuses model.NotData) h
    (subst (λ (k : CellKind). Works (λ nu. take_cell (steps.take (c.args.left - 1)) (nu i) (kind_in nu k)) (λ nu. Refuses model.NotData) h h) (sym c.in-BuiltIn.is) (works_refuse model.NotData h))

pub take_object-returns-in-Array-clause-did : goal.take_object-returns-in-Array-clause-did
take_object-returns-in-Array-clause-did t c =
    let h = c.args.heap.now in
    let i = c.args.cell in
    let last = c.take_array.new.heap in
    let said = λ (nu : Naming). told_taken (λ d. d) c.take_array.result in
    object_at h c.known.ensures.cells i c.requires c.kind.result.now c.kind.ensures.kind c.args.left (c.args.left - 1) (omega (arith, c.if-left-eq0.false)) said last
    (subst (λ (k : CellKind). Works (λ nu. take_cell (steps.take (c.args.left - 1)) (nu i) (kind_in nu k)) said h last) (sym c.in-Array.is) c.take_array.ensures.did)

pub take_object-returns-in-Plain-clause-did : goal.take_object-returns-in-Plain-clause-did
take_object-returns-in-Plain-clause-did t c =
    let h = c.args.heap.now in
    let i = c.args.cell in
    let last = c.take_plain.new.heap in
    let said = λ (nu : Naming). told_taken (λ d. d) c.take_plain.result in
    let o = c.in-Plain.field-0 in
    object_at h c.known.ensures.cells i c.requires c.kind.result.now c.kind.ensures.kind c.args.left (c.args.left - 1) (omega (arith, c.if-left-eq0.false)) said last
    (subst (λ (k : CellKind). Works (λ nu. take_cell (steps.take (c.args.left - 1)) (nu i) (kind_in nu k)) said h last) (sym c.in-Plain.is) (c.take_plain.ensures.did (λ nu. option_map nu o)))

pub take_object-returns-then-left-eq0-clause-did : goal.take_object-returns-then-left-eq0-clause-did
take_object-returns-then-left-eq0-clause-did t c = too_deep c.args.cell c.args.left c.args.heap.now (omega (arith, c.if-left-eq0.true))

-- ---- one value

pub take_value-returns-in-Undefined-clause-did : goal.take_value-returns-in-Undefined-clause-did
take_value-returns-in-Undefined-clause-did t c =
    subst (λ (v : Value). Works (λ nu. steps.take c.args.left (val_in nu v)) (λ nu. told_taken (λ d. d) c.taken.result) c.args.heap.now c.taken.new.heap) (sym c.in-Undefined.is) c.taken.ensures.did

pub take_value-returns-in-Null-clause-did : goal.take_value-returns-in-Null-clause-did
take_value-returns-in-Null-clause-did t c =
    subst (λ (v : Value). Works (λ nu. steps.take c.args.left (val_in nu v)) (λ nu. told_taken (λ d. d) c.taken-in-Null.result) c.args.heap.now c.taken-in-Null.new.heap) (sym c.in-Null.is) c.taken-in-Null.ensures.did

pub take_value-returns-in-Truth-clause-did : goal.take_value-returns-in-Truth-clause-did
take_value-returns-in-Truth-clause-did t c =
    subst (λ (v : Value). Works (λ nu. steps.take c.args.left (val_in nu v)) (λ nu. told_taken (λ d. d) c.taken-in-Truth.result) c.args.heap.now c.taken-in-Truth.new.heap) (sym c.in-Truth.is) c.taken-in-Truth.ensures.did

pub take_value-returns-in-Number-clause-did : goal.take_value-returns-in-Number-clause-did
take_value-returns-in-Number-clause-did t c =
    subst (λ (v : Value). Works (λ nu. steps.take c.args.left (val_in nu v)) (λ nu. told_taken (λ d. d) c.taken-in-Number.result) c.args.heap.now c.taken-in-Number.new.heap) (sym c.in-Number.is) c.taken-in-Number.ensures.did

pub take_value-returns-in_ok-copy-in-Text-clause-did : goal.take_value-returns-in_ok-copy-in-Text-clause-did
take_value-returns-in_ok-copy-in-Text-clause-did t c =
    let text = c.in-Text.text in
    let n : c.len.result + 1 ≡ suc (length text) = omega (arith, c.len.ensures) in
    let said = λ (nu : Naming). told_taken (λ d. d) c.taken-in-Text.result in
    let last = c.taken-in-Text.new.heap in
    subst (λ (v : Value). Works (λ nu. steps.take c.args.left (val_in nu v)) said c.args.heap.now last) (sym c.in-Text.is)
    (subst (λ (k : ℕ). Works (λ (nu : Naming). steps.pays k (give (DText text))) said c.args.heap.now last) n
    (subst (λ (u : List ℕ). Works (λ (nu : Naming). steps.pays (c.len.result + 1) (give (DText u))) said c.args.heap.now last) c.in_ok-copy-in-Text.ensures c.taken-in-Text.ensures.did))

pub take_value-returns-in-Object-clause-did : goal.take_value-returns-in-Object-clause-did
take_value-returns-in-Object-clause-did t c =
    subst (λ (v : Value). Works (λ nu. steps.take c.args.left (val_in nu v)) (λ nu. told_taken (λ d. d) c.take_object.result) c.args.heap.now c.take_object.new.heap) (sym c.in-Object.is) c.take_object.ensures.did

-- ---- items

pub take_items-loop-place-init : goal.take_items-loop-place-init
take_items-loop-place-init t c = record {
  cells = refl;
  rests = rests_same c.args.heap.now;
  leads = λ said last y. begin_items (steps.take c.args.left) c.args.cell c.args.many (c.args.many - 0) c.new-items.result.items c.new-items.ensures.items (omega arith) said c.args.heap.now last y;
}

pub take_items-returns-in_err-key-clause-did : goal.take_items-returns-in_err-key-clause-did
take_items-returns-in_err-key-clause-did t c =
    taken_fails (λ nu. take_items (steps.take c.args.left) (nu c.args.cell) 0 c.args.many) (λ ds. items_of ds.items) c.from_residual.result c.args.heap.now c.loop-place.heap c.loop-place.invariant.rests c.loop-place.invariant.cells c.from_residual.ensures.1

pub take_items-returns-in_err-value-clause-did : goal.take_items-returns-in_err-value-clause-did
take_items-returns-in_err-value-clause-did t c =
    let one = steps.take c.args.left in
    let i = c.args.cell in
    let at = c.loop-place.place in
    let front = c.loop-place.items.items in
    let x = c.in_err-value.field-0.0 in
    let more : c.args.many - at ≡ suc (c.args.many - suc at) = omega (arith, c.loop-place-test.true) in
    taken_err (λ nu. take_items one (nu i) 0 c.args.many) (λ ds. items_of ds.items) c.from_residual-in_err-value.result x c.args.heap.now c.look_there.new.heap c.from_residual-in_err-value.ensures.1
    (c.loop-place.invariant.leads (λ nu. told_stop x) c.look_there.new.heap
    (subst (λ m. Works (λ nu. rest_of one i nu at m front) (λ nu. told_stop x) c.loop-place.heap c.look_there.new.heap) (sym more)
    (items_lost one i at (c.args.many - suc at) front x c.loop-place.heap c.look_there.new.heap
    (subst (λ (k : Key). Works (λ nu. edit (nu i) (look k) there) (λ nu. told_stop x) c.loop-place.heap c.look_there.new.heap) c.in_ok-key.ensures c.in_err-value.ensures.did))))

pub take_items-returns-in_err-take_value-clause-did : goal.take_items-returns-in_err-take_value-clause-did
take_items-returns-in_err-take_value-clause-did t c =
    let one = steps.take c.args.left in
    let i = c.args.cell in
    let at = c.loop-place.place in
    let v = c.in_ok-value.value in
    let front = c.loop-place.items.items in
    let x = c.in_err-take_value.field-0.0 in
    let more : c.args.many - at ≡ suc (c.args.many - suc at) = omega (arith, c.loop-place-test.true) in
    taken_err (λ nu. take_items one (nu i) 0 c.args.many) (λ ds. items_of ds.items) c.from_residual-in_err-take_value.result x c.args.heap.now c.take_value.new.heap c.from_residual-in_err-take_value.ensures.1
    (c.loop-place.invariant.leads (λ nu. told_stop x) c.take_value.new.heap
    (subst (λ m. Works (λ nu. rest_of one i nu at m front) (λ nu. told_stop x) c.loop-place.heap c.take_value.new.heap) (sym more)
    (items_out one i at (c.args.many - suc at) front v c.loop-place.heap c.look_there.new.heap
    (subst (λ (k : Key). Works (λ nu. edit (nu i) (look k) there) (λ nu. Says (val_in nu v)) c.loop-place.heap c.look_there.new.heap) c.in_ok-key.ensures c.in_ok-value.ensures.did)
    x c.take_value.new.heap c.in_err-take_value.ensures.did)))

pub take_items-returns-in-None-clause-did : goal.take_items-returns-in-None-clause-did
take_items-returns-in-None-clause-did t c =
    let one = steps.take c.args.left in
    let i = c.args.cell in
    let at = c.loop-place.place in
    let v = c.in_ok-value.value in
    let front = c.loop-place.items.items in
    let more : c.args.many - at ≡ suc (c.args.many - suc at) = omega (arith, c.loop-place-test.true) in
    c.loop-place.invariant.leads (λ nu. Refuses model.NotData) c.take_value.new.heap
    (subst (λ m. Works (λ nu. rest_of one i nu at m front) (λ nu. Refuses model.NotData) c.loop-place.heap c.take_value.new.heap) (sym more)
    (items_none one i at (c.args.many - suc at) front v c.loop-place.heap c.look_there.new.heap
    (subst (λ (k : Key). Works (λ nu. edit (nu i) (look k) there) (λ nu. Says (val_in nu v)) c.loop-place.heap c.look_there.new.heap) c.in_ok-key.ensures c.in_ok-value.ensures.did)
    c.take_value.new.heap
    (in_none (λ nu. one (val_in nu v)) c.in_ok-take_value.field-0 (λ d. d) c.look_there.new.heap c.take_value.new.heap c.in-None.is c.in_ok-take_value.ensures.did)))

pub take_items-returns-then-is_err-clause-did : goal.take_items-returns-then-is_err-clause-did
take_items-returns-then-is_err-clause-did t c =
    let h = c.args.heap.now in
    works_fails (λ nu. take_items (steps.take c.args.left) (nu c.args.cell) 0 c.args.many) h c.take_value.new.heap
    (keeps_of h c.take_value.new.heap
    (rests_then h c.look_there.new.heap c.take_value.new.heap (rests_then h c.loop-place.heap c.look_there.new.heap c.loop-place.invariant.rests c.look_there.ensures.rests) c.take_value.ensures.rests)
    (c.take_value.ensures.cells ∙ c.look_there.ensures.cells ∙ c.loop-place.invariant.cells))

pub take_items-returns-clause-did : goal.take_items-returns-clause-did
take_items-returns-clause-did t c =
    let one = steps.take c.args.left in
    let i = c.args.cell in
    let at = c.loop-place.place in
    let h = c.loop-place.heap in
    let front = c.loop-place.items.items in
    let none : c.args.many - at ≡ 0 = omega (arith, c.loop-place-test.false) in
    c.loop-place.invariant.leads (λ nu. Says (items_of front)) h
    (subst (λ m. Works (λ nu. rest_of one i nu at m front) (λ nu. Says (items_of front)) h h) (sym none) (items_end one i at front h))

pub take_items-loop-place-preserved : goal.take_items-loop-place-preserved
take_items-loop-place-preserved t c =
    let one = steps.take c.args.left in
    let i = c.args.cell in
    let at = c.loop-place.place in
    let v = c.in_ok-value.value in
    let d = c.in-Some.item in
    let h = c.args.heap.now in
    let front = c.loop-place.items.items in
    let more : c.args.many - at ≡ suc (c.args.many - suc at) = omega (arith, c.loop-place-test.true) in
    let next : at + 1 ≡ suc at = omega arith in
    let pushed : c.push.new.self.items ≡ front ++ d ∷ [] = search rules in
    record {
      cells = c.take_value.ensures.cells ∙ c.look_there.ensures.cells ∙ c.loop-place.invariant.cells;
      rests = rests_then h c.look_there.new.heap c.take_value.new.heap (rests_then h c.loop-place.heap c.look_there.new.heap c.loop-place.invariant.rests c.look_there.ensures.rests) c.take_value.ensures.rests;
      leads = λ said last y. c.loop-place.invariant.leads said last
          (subst (λ m. Works (λ nu. rest_of one i nu at m front) said c.loop-place.heap last) (sym more)
          (items_next one i at (c.args.many - suc at) front v c.loop-place.heap c.look_there.new.heap
          (subst (λ (k : Key). Works (λ nu. edit (nu i) (look k) there) (λ nu. Says (val_in nu v)) c.loop-place.heap c.look_there.new.heap) c.in_ok-key.ensures c.in_ok-value.ensures.did)
          d said c.take_value.new.heap last
          (in_some (λ nu. one (val_in nu v)) c.in_ok-take_value.field-0 d (λ d. d) c.look_there.new.heap c.take_value.new.heap c.in-Some.is c.in_ok-take_value.ensures.did)
          (subst (λ l. Works (λ nu. rest_of one i nu (suc at) (c.args.many - suc at) l) said c.take_value.new.heap last) pushed
          (subst (λ n. Works (λ nu. rest_of one i nu n (c.args.many - n) c.push.new.self.items) said c.take_value.new.heap last) next y))));
    }

pub take_fields-loop-key-preserved : goal.take_fields-loop-key-preserved
take_fields-loop-key-preserved t c =
    let one = steps.take c.args.left in
    let i = c.args.cell in
    let ks = c.args.keys.now in
    let at = c.loop-key.key-index in
    let k = c.key-item.result in
    let v = c.in_ok-value.value in
    let d = c.in-Some.data in
    let h = c.args.heap.now in
    let front = c.loop-key.fields.items in
    let here = read_at ks at k c.loop-key-test.true c.key-item.is in
    let n : c.key_cost.result ≡ suc (length k) = omega (arith, c.key_cost.ensures) in
    let next : at + 1 ≡ suc at = omega arith in
    let pushed : c.push.new.self.items ≡ front ++ (c.in_ok-name-in-Some.name, d) ∷ [] = search rules in
    let whole : c.push.new.self.items ≡ front ++ (k, d) ∷ [] = pushed ∙ ap (λ u. front ++ (u, d) ∷ []) c.in_ok-name-in-Some.ensures in
    record {
      cells = c.take_value.ensures.cells ∙ c.look_there.ensures.cells ∙ c.pay.ensures.cells ∙ c.loop-key.invariant.cells;
      rests = rests_then h c.look_there.new.heap c.take_value.new.heap (rests_then h c.pay.new.self c.look_there.new.heap (rests_then h c.loop-key.heap c.pay.new.self c.loop-key.invariant.rests c.pay.ensures.rests) c.look_there.ensures.rests) c.take_value.ensures.rests;
      keys = ap keys_of whole ∙ keys_push front (k, d) ∙ ap (λ l. l ++ k ∷ []) c.loop-key.invariant.keys ∙ sym (take_next ks at k here);
      leads = λ said last y. c.loop-key.invariant.leads said last
          (subst (λ l. Works (λ nu. fields_left one i nu l front) said c.loop-key.heap last) (sym (drop_next ks at k here))
          (fields_next one i k (drop (suc at) ks) front c.loop-key.heap c.pay.new.self
          (subst (λ (n : ℕ). Works (λ (nu : Naming). step (charge n) give) (λ nu. Says tt) c.loop-key.heap c.pay.new.self) n c.in_ok-pay.ensures.did)
          v c.look_there.new.heap c.in_ok-value.ensures.did
          d said c.take_value.new.heap last
          (in_some (λ nu. one (val_in nu v)) c.in_ok-take_value.field-0 d (λ d. d) c.look_there.new.heap c.take_value.new.heap c.in-Some.is c.in_ok-take_value.ensures.did)
          (subst (λ l. Works (λ nu. fields_left one i nu (drop (suc at) ks) l) said c.take_value.new.heap last) whole
          (subst (λ n. Works (λ nu. fields_left one i nu (drop n ks) c.push.new.self.items) said c.take_value.new.heap last) next y))));
    }
