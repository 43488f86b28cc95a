use Rattle.std.proofs.Common.{◌≡◌, List, ◌≤◌, false, ap, sym, subst, ℕ, suc, ◌+◌, None, length, drop, arith}
use Rattle.turk_base.specs.Values as model
use Rattle.turk_base.specs.Values.{Val}
use Rattle.turk_base.specs.Data.{Data, nesting_items, nesting_fields, DList, DFields, nesting, items_of, fields_of}
use Rattle.turk_base.specs.State.{charge, make}
use Rattle.turk_base.specs.Steps.{give, step, pays, put_data, put_items, put_fields}
use Rattle.turk_base.specs.Node.{data_of}
use Rattle.turk_base.specs.declared.Node.{Node}
use Rattle.value_cells.specs.Seen.{Naming, val_in}
use Rattle.value_cells.specs.Does.{Says, told, told_stop}
use Rattle.run_heap.specs.Works.{Works}
use Rattle.run_heap.proofs.Index_keys.{drop_next, no_more}
use Rattle.run_heap.proofs.Turn.{err_exit, fails_exit, works_give, keeps_same}
use Rattle.run_heap.proofs.Whole.{rests_then, rests_same}
use Rattle.run_data.specs.Short.{IsShort, AreItemsShort, AreFieldsShort}
use Rattle.run_data.proofs.Parts.{list_short, list_deep, plain_short, plain_deep, read_at, items_short_at, items_nesting_at, fields_short_at, fields_nesting_at}
use Rattle.run_data.proofs.Puts.{items_on, items_out, items_stop, fields_on, fields_unpaid, fields_out, fields_stop, cell_ends, cell_out, unpaid}
use Rattle.run_data.proofs.putting.+putting.Goals as goal

pub put_items-loop-place-init : goal.put_items-loop-place-init
put_items-loop-place-init t c = record { more = omega arith; rests = rests_same c.args.heap.now; leads = λ said last y. y }

pub put_items-put_node-requires : goal.put_items-put_node-requires
put_items-put_node-requires t c =
    let ds = c.args.items.now in
    let d = c.index-items-place.result in
    let here = read_at ds c.loop-place.place d (omega (arith, c.loop-place-test.true)) c.index-items-place.is in
    (omega (arith, c.decreases), (subst IsShort (sym c.node.ensures.data) (items_short_at ds c.loop-place.place d here c.requires.short), omega (arith, ap nesting c.node.ensures.data, items_nesting_at ds c.loop-place.place d here, c.requires.deep)))

pub put_items-returns-in_err-value-clause-did : goal.put_items-returns-in_err-value-clause-did
put_items-returns-in_err-value-clause-did t c =
    let ds = c.args.items.now in
    let i = c.loop-place.place in
    let d = c.index-items-place.result in
    let here = read_at ds i d (omega (arith, c.loop-place-test.true)) c.index-items-place.is in
    let x = c.in_err-value.field-0.0 in
    err_exit (λ nu. put_items (nu c.args.cell) 0 (items_of ds)) (λ nu. val_in nu) c.from_residual.result x c.args.heap.now c.put_node.new.heap c.from_residual.ensures.1
    (c.loop-place.invariant.leads (λ nu. told_stop x) c.put_node.new.heap
    (subst (λ l. Works (λ nu. put_items (nu c.args.cell) i (items_of l)) (λ nu. told_stop x) c.loop-place.heap c.put_node.new.heap) (sym (drop_next ds i d here))
    (items_out c.args.cell i d (items_of (drop (suc i) ds)) x c.loop-place.heap c.put_node.new.heap
    (subst (λ (d : Data). Works (λ (nu : Naming). put_data d) (λ nu. told_stop x) c.loop-place.heap c.put_node.new.heap) c.node.ensures.data c.in_err-value.ensures.did))))

pub put_items-returns-in_err-put_element-clause-did : goal.put_items-returns-in_err-put_element-clause-did
put_items-returns-in_err-put_element-clause-did t c =
    let ds = c.args.items.now in
    let i = c.loop-place.place in
    let d = c.index-items-place.result in
    let v = c.in_ok-value.value in
    let here = read_at ds i d (omega (arith, c.loop-place-test.true)) c.index-items-place.is in
    let x = c.in_err-put_element.field-0.0 in
    err_exit (λ nu. put_items (nu c.args.cell) 0 (items_of ds)) (λ nu. val_in nu) c.from_residual-in_err-put_element.result x c.args.heap.now c.put_element.new.heap c.from_residual-in_err-put_element.ensures.1
    (c.loop-place.invariant.leads (λ nu. told_stop x) c.put_element.new.heap
    (subst (λ l. Works (λ nu. put_items (nu c.args.cell) i (items_of l)) (λ nu. told_stop x) c.loop-place.heap c.put_element.new.heap) (sym (drop_next ds i d here))
    (items_stop c.args.cell i d (items_of (drop (suc i) ds)) v x c.loop-place.heap c.put_node.new.heap c.put_element.new.heap
    (subst (λ (d : Data). Works (λ (nu : Naming). put_data d) (λ nu. Says (val_in nu v)) c.loop-place.heap c.put_node.new.heap) c.node.ensures.data c.in_ok-value.ensures.did)
    c.in_err-put_element.ensures.did)))

pub put_items-loop-place-preserved : goal.put_items-loop-place-preserved
put_items-loop-place-preserved t c =
    let ds = c.args.items.now in
    let i = c.loop-place.place in
    let d = c.index-items-place.result in
    let v = c.in_ok-value.value in
    let here = read_at ds i d (omega (arith, c.loop-place-test.true)) c.index-items-place.is in
    let next : suc i ≡ i + 1 = omega arith in
    record {
      more = omega (arith, c.loop-place.invariant.more, c.put_node.ensures.more, c.put_element.ensures.count);
      rests = rests_then c.args.heap.now c.put_node.new.heap c.put_element.new.heap (rests_then c.args.heap.now c.loop-place.heap c.put_node.new.heap c.loop-place.invariant.rests c.put_node.ensures.rests) c.put_element.ensures.rests;
      leads = λ said last y. c.loop-place.invariant.leads said last
          (subst (λ l. Works (λ nu. put_items (nu c.args.cell) i (items_of l)) said c.loop-place.heap last) (sym (drop_next ds i d here))
          (items_on c.args.cell i d (items_of (drop (suc i) ds)) v said c.loop-place.heap c.put_node.new.heap c.put_element.new.heap last
          (subst (λ (d : Data). Works (λ (nu : Naming). put_data d) (λ nu. Says (val_in nu v)) c.loop-place.heap c.put_node.new.heap) c.node.ensures.data c.in_ok-value.ensures.did)
          c.in_ok-put_element.ensures.did
          (subst (λ n. Works (λ nu. put_items (nu c.args.cell) n (items_of (drop n ds))) said c.put_element.new.heap last) (sym next) y)));
    }

pub put_items-returns-clause-did : goal.put_items-returns-clause-did
put_items-returns-clause-did t c =
    let ds = c.args.items.now in
    let i = c.loop-place.place in
    let h = c.loop-place.heap in
    c.loop-place.invariant.leads (λ nu. Says (model.Object (nu c.args.cell))) h
    (subst (λ l. Works (λ nu. put_items (nu c.args.cell) i (items_of l)) (λ nu. Says (model.Object (nu c.args.cell))) h h) (sym (no_more i ds (omega (arith, c.loop-place-test.false))))
    (works_give (λ nu. model.Object (nu c.args.cell)) h))

-- ---- fields

pub put_fields-loop-field-init : goal.put_fields-loop-field-init
put_fields-loop-field-init t c = record { more = omega arith; rests = rests_same c.args.heap.now; leads = λ said last y. y }

pub put_fields-put_node-requires : goal.put_fields-put_node-requires
put_fields-put_node-requires t c =
    let fs = c.args.fields.now in
    let f = c.field-item.result in
    let here = read_at fs c.loop-field.field-index f c.loop-field-test.true c.field-item.is in
    (omega (arith, c.decreases), (subst IsShort (sym c.node.ensures.data) (fields_short_at fs c.loop-field.field-index f here c.requires.short), omega (arith, ap nesting c.node.ensures.data, fields_nesting_at fs c.loop-field.field-index f here, c.requires.deep)))

pub put_fields-returns-in_err-pay-clause-did : goal.put_fields-returns-in_err-pay-clause-did
put_fields-returns-in_err-pay-clause-did t c =
    let fs = c.args.fields.now in
    let i = c.loop-field.field-index in
    let f = c.field-item.result in
    let here = read_at fs i f c.loop-field-test.true c.field-item.is in
    let x = c.in_err-pay.field-0.0 in
    let n : c.key_cost.result ≡ suc (length f.0) = omega (arith, c.key_cost.ensures) in
    err_exit (λ nu. put_fields (nu c.args.cell) (fields_of fs)) (λ nu. val_in nu) c.from_residual.result x c.args.heap.now c.pay.new.self c.from_residual.ensures.1
    (c.loop-field.invariant.leads (λ nu. told_stop x) c.pay.new.self
    (subst (λ l. Works (λ nu. put_fields (nu c.args.cell) (fields_of l)) (λ nu. told_stop x) c.loop-field.heap c.pay.new.self) (sym (drop_next fs i f here))
    (fields_unpaid c.args.cell f.0 f.1 (fields_of (drop (suc i) fs)) x c.loop-field.heap c.pay.new.self
    (subst (λ (n : ℕ). Works (λ (nu : Naming). step (charge n) give) (λ nu. told_stop x) c.loop-field.heap c.pay.new.self) n c.in_err-pay.ensures.did))))

pub put_fields-returns-in_err-value-clause-did : goal.put_fields-returns-in_err-value-clause-did
put_fields-returns-in_err-value-clause-did t c =
    let fs = c.args.fields.now in
    let i = c.loop-field.field-index in
    let f = c.field-item.result in
    let here = read_at fs i f c.loop-field-test.true c.field-item.is in
    let x = c.in_err-value.field-0.0 in
    let n : c.key_cost.result ≡ suc (length f.0) = omega (arith, c.key_cost.ensures) in
    err_exit (λ nu. put_fields (nu c.args.cell) (fields_of fs)) (λ nu. val_in nu) c.from_residual-in_err-value.result x c.args.heap.now c.put_node.new.heap c.from_residual-in_err-value.ensures.1
    (c.loop-field.invariant.leads (λ nu. told_stop x) c.put_node.new.heap
    (subst (λ l. Works (λ nu. put_fields (nu c.args.cell) (fields_of l)) (λ nu. told_stop x) c.loop-field.heap c.put_node.new.heap) (sym (drop_next fs i f here))
    (fields_out c.args.cell f.0 f.1 (fields_of (drop (suc i) fs)) x c.loop-field.heap c.pay.new.self c.put_node.new.heap
    (subst (λ (n : ℕ). Works (λ (nu : Naming). step (charge n) give) (λ nu. Says tt) c.loop-field.heap c.pay.new.self) n c.in_ok-pay.ensures.did)
    (subst (λ (d : Data). Works (λ (nu : Naming). put_data d) (λ nu. told_stop x) c.pay.new.self c.put_node.new.heap) c.node.ensures.data c.in_err-value.ensures.did))))

pub put_fields-returns-in_err-set_free-clause-did : goal.put_fields-returns-in_err-set_free-clause-did
put_fields-returns-in_err-set_free-clause-did t c =
    let fs = c.args.fields.now in
    let i = c.loop-field.field-index in
    let f = c.field-item.result in
    let v = c.in_ok-value.value in
    let here = read_at fs i f c.loop-field-test.true c.field-item.is in
    let x = c.in_err-set_free.field-0.0 in
    let n : c.key_cost.result ≡ suc (length f.0) = omega (arith, c.key_cost.ensures) in
    err_exit (λ nu. put_fields (nu c.args.cell) (fields_of fs)) (λ nu. val_in nu) c.from_residual-in_err-set_free.result x c.args.heap.now c.set_free.new.self c.from_residual-in_err-set_free.ensures.1
    (c.loop-field.invariant.leads (λ nu. told_stop x) c.set_free.new.self
    (subst (λ l. Works (λ nu. put_fields (nu c.args.cell) (fields_of l)) (λ nu. told_stop x) c.loop-field.heap c.set_free.new.self) (sym (drop_next fs i f here))
    (fields_stop c.args.cell f.0 f.1 (fields_of (drop (suc i) fs)) v x c.loop-field.heap c.pay.new.self c.put_node.new.heap c.set_free.new.self
    (subst (λ (n : ℕ). Works (λ (nu : Naming). step (charge n) give) (λ nu. Says tt) c.loop-field.heap c.pay.new.self) n c.in_ok-pay.ensures.did)
    (subst (λ (d : Data). Works (λ (nu : Naming). put_data d) (λ nu. Says (val_in nu v)) c.pay.new.self c.put_node.new.heap) c.node.ensures.data c.in_ok-value.ensures.did)
    c.in_err-set_free.ensures.did)))

pub put_fields-loop-field-preserved : goal.put_fields-loop-field-preserved
put_fields-loop-field-preserved t c =
    let fs = c.args.fields.now in
    let i = c.loop-field.field-index in
    let f = c.field-item.result in
    let v = c.in_ok-value.value in
    let here = read_at fs i f c.loop-field-test.true c.field-item.is in
    let n : c.key_cost.result ≡ suc (length f.0) = omega (arith, c.key_cost.ensures) in
    let next : suc i ≡ i + 1 = omega arith in
    record {
      more = omega (arith, c.loop-field.invariant.more, ap (λ cells. length cells) (λ x. (c.pay.ensures.cells x).now), c.put_node.ensures.more, c.set_free.ensures.count);
      rests = rests_then c.args.heap.now c.put_node.new.heap c.set_free.new.self
          (rests_then c.args.heap.now c.pay.new.self c.put_node.new.heap (rests_then c.args.heap.now c.loop-field.heap c.pay.new.self c.loop-field.invariant.rests c.pay.ensures.rests) c.put_node.ensures.rests) c.set_free.ensures.rests;
      leads = λ said last y. c.loop-field.invariant.leads said last
          (subst (λ l. Works (λ nu. put_fields (nu c.args.cell) (fields_of l)) said c.loop-field.heap last) (sym (drop_next fs i f here))
          (fields_on c.args.cell f.0 f.1 (fields_of (drop (suc i) fs)) v said c.loop-field.heap c.pay.new.self c.put_node.new.heap c.set_free.new.self last
          (subst (λ (n : ℕ). Works (λ (nu : Naming). step (charge n) give) (λ nu. Says tt) c.loop-field.heap c.pay.new.self) n c.in_ok-pay.ensures.did)
          (subst (λ (d : Data). Works (λ (nu : Naming). put_data d) (λ nu. Says (val_in nu v)) c.pay.new.self c.put_node.new.heap) c.node.ensures.data c.in_ok-value.ensures.did)
          c.in_ok-set_free.ensures.did
          (subst (λ n. Works (λ nu. put_fields (nu c.args.cell) (fields_of (drop n fs))) said c.set_free.new.self last) (sym next) y)));
    }

pub put_fields-returns-clause-did : goal.put_fields-returns-clause-did
put_fields-returns-clause-did t c =
    let fs = c.args.fields.now in
    let i = c.loop-field.field-index in
    let h = c.loop-field.heap in
    c.loop-field.invariant.leads (λ nu. Says (model.Object (nu c.args.cell))) h
    (subst (λ l. Works (λ nu. put_fields (nu c.args.cell) (fields_of l)) (λ nu. Says (model.Object (nu c.args.cell))) h h) (sym (no_more i fs c.loop-field-test.false))
    (works_give (λ nu. model.Object (nu c.args.cell)) h))

-- ---- cells

pub put_list-returns-in_err-pay-clause-did : goal.put_list-returns-in_err-pay-clause-did
put_list-returns-in_err-pay-clause-did t c =
    let ds = items_of c.args.items.now in
    let x = c.in_err-pay.field-0.0 in
    err_exit (λ nu. put_data (DList ds)) (λ nu. val_in nu) c.from_residual.result x c.args.heap.now c.pay.new.self c.from_residual.ensures.1
    (unpaid 1 (λ nu. step (make false model.Array) (λ n. put_items n 0 ds)) x c.args.heap.now c.pay.new.self c.in_err-pay.ensures.did)

pub put_list-returns-in_err-cell-clause-did : goal.put_list-returns-in_err-cell-clause-did
put_list-returns-in_err-cell-clause-did t c =
    let ds = items_of c.args.items.now in
    let x = c.in_err-cell.field-0.0 in
    err_exit (λ nu. put_data (DList ds)) (λ nu. val_in nu) c.from_residual-in_err-cell.result x c.args.heap.now c.add.new.self c.from_residual-in_err-cell.ensures.1
    (cell_out (λ nu. model.Array) (λ nu n. put_items n 0 ds) x c.args.heap.now c.pay.new.self c.add.new.self c.in_ok-pay.ensures.did c.in_err-cell.ensures.did)

pub put_list-returns-clause-did : goal.put_list-returns-clause-did
put_list-returns-clause-did t c =
    let ds = items_of c.args.items.now in
    cell_ends (λ nu. model.Array) (λ nu n. put_items n 0 ds) c.in_ok-cell.cell (λ nu. told (val_in nu) c.put_items.result) c.args.heap.now c.pay.new.self c.add.new.self c.put_items.new.heap
    c.in_ok-pay.ensures.did c.in_ok-cell.ensures.did c.put_items.ensures.did

pub put_list-returns-clause-rests : goal.put_list-returns-clause-rests
put_list-returns-clause-rests t c = rests_then c.args.heap.now c.add.new.self c.put_items.new.heap (rests_then c.args.heap.now c.pay.new.self c.add.new.self c.pay.ensures.rests c.add.ensures.rests) c.put_items.ensures.rests

pub put_list-returns-in_err-cell-clause-rests : goal.put_list-returns-in_err-cell-clause-rests
put_list-returns-in_err-cell-clause-rests t c = rests_then c.args.heap.now c.pay.new.self c.add.new.self c.pay.ensures.rests c.add.ensures.rests

pub put_plain-returns-in_err-pay-clause-did : goal.put_plain-returns-in_err-pay-clause-did
put_plain-returns-in_err-pay-clause-did t c =
    let fs = fields_of c.args.fields.now in
    let x = c.in_err-pay.field-0.0 in
    err_exit (λ nu. put_data (DFields fs)) (λ nu. val_in nu) c.from_residual.result x c.args.heap.now c.pay.new.self c.from_residual.ensures.1
    (unpaid 1 (λ nu. step (make false (model.Plain None)) (λ n. put_fields n fs)) x c.args.heap.now c.pay.new.self c.in_err-pay.ensures.did)

pub put_plain-returns-in_err-cell-clause-did : goal.put_plain-returns-in_err-cell-clause-did
put_plain-returns-in_err-cell-clause-did t c =
    let fs = fields_of c.args.fields.now in
    let x = c.in_err-cell.field-0.0 in
    err_exit (λ nu. put_data (DFields fs)) (λ nu. val_in nu) c.from_residual-in_err-cell.result x c.args.heap.now c.add.new.self c.from_residual-in_err-cell.ensures.1
    (cell_out (λ nu. model.Plain None) (λ nu n. put_fields n fs) x c.args.heap.now c.pay.new.self c.add.new.self c.in_ok-pay.ensures.did c.in_err-cell.ensures.did)

pub put_plain-returns-clause-did : goal.put_plain-returns-clause-did
put_plain-returns-clause-did t c =
    let fs = fields_of c.args.fields.now in
    cell_ends (λ nu. model.Plain None) (λ nu n. put_fields n fs) c.in_ok-cell.cell (λ nu. told (val_in nu) c.put_fields.result) c.args.heap.now c.pay.new.self c.add.new.self c.put_fields.new.heap
    c.in_ok-pay.ensures.did c.in_ok-cell.ensures.did c.put_fields.ensures.did

pub put_plain-returns-clause-rests : goal.put_plain-returns-clause-rests
put_plain-returns-clause-rests t c = rests_then c.args.heap.now c.add.new.self c.put_fields.new.heap (rests_then c.args.heap.now c.pay.new.self c.add.new.self c.pay.ensures.rests c.add.ensures.rests) c.put_fields.ensures.rests

pub put_plain-returns-in_err-cell-clause-rests : goal.put_plain-returns-in_err-cell-clause-rests
put_plain-returns-in_err-cell-clause-rests t c = rests_then c.args.heap.now c.pay.new.self c.add.new.self c.pay.ensures.rests c.add.ensures.rests

-- ---- one node

pub put_node-put_list-requires : goal.put_node-put_list-requires
put_node-put_list-requires t c =
    let ds = c.in-List.items.items in
    let v = c.deref.ensures.value in
    let s = list_short ds (subst (λ (n : Node). IsShort (data_of n)) c.in-List.is c.requires.short) in
    let d = list_deep ds c.args.left (subst (λ (n : Node). nesting (data_of n) ≤ c.args.left) c.in-List.is c.requires.deep) in
    (omega (arith, c.decreases), (omega (arith, ap length v, s.0), (subst (λ l. AreItemsShort (items_of l)) (sym v) s.1, omega (arith, ap (λ l. nesting_items (items_of l)) v, d))))

pub put_node-put_plain-requires : goal.put_node-put_plain-requires
put_node-put_plain-requires t c =
    let fs = c.in-Fields.fields.items in
    let v = c.deref-in-Fields.ensures.value in
    let s = plain_short fs (subst (λ (n : Node). IsShort (data_of n)) c.in-Fields.is c.requires.short) in
    let d = plain_deep fs c.args.left (subst (λ (n : Node). nesting (data_of n) ≤ c.args.left) c.in-Fields.is c.requires.deep) in
    (omega (arith, c.decreases), (subst (λ l. AreFieldsShort (fields_of l)) (sym v) s, omega (arith, ap (λ l. nesting_fields (fields_of l)) v, d)))

pub put_node-returns-in_err-copy-in-Text-clause-did : goal.put_node-returns-in_err-copy-in-Text-clause-did
put_node-returns-in_err-copy-in-Text-clause-did t c =
    fails_exit (λ (nu : Naming). put_data (data_of c.args.node.now)) (λ nu. val_in nu) c.from_residual.result c.args.heap.now c.args.heap.now (keeps_same c.args.heap.now) c.from_residual.ensures.1

pub put_node-returns-in_ok-copy-in-Text-clause-did : goal.put_node-returns-in_ok-copy-in-Text-clause-did
put_node-returns-in_ok-copy-in-Text-clause-did t c =
    let text = c.in-Text.text in
    let n : c.len.result + 1 ≡ suc (length text) = omega (arith, c.len.ensures) in
    let said = λ (nu : Naming). told (val_in nu) c.paid-in-Text.result in
    subst (λ (n : Node). Works (λ (nu : Naming). put_data (data_of n)) said c.args.heap.now c.paid-in-Text.new.heap) (sym c.in-Text.is)
    (subst (λ (k : ℕ). Works (λ (nu : Naming). pays k (give (model.Text text))) said c.args.heap.now c.paid-in-Text.new.heap) n
    (subst (λ (u : List ℕ). Works (λ (nu : Naming). pays (c.len.result + 1) (give (model.Text u))) said c.args.heap.now c.paid-in-Text.new.heap) c.in_ok-copy-in-Text.ensures c.paid-in-Text.ensures.did))

pub put_node-returns-in-List-clause-did : goal.put_node-returns-in-List-clause-did
put_node-returns-in-List-clause-did t c =
    let said = λ (nu : Naming). told (val_in nu) c.put_list.result in
    subst (λ (n : Node). Works (λ (nu : Naming). put_data (data_of n)) said c.args.heap.now c.put_list.new.heap) (sym c.in-List.is)
    (subst (λ (l : List Data). Works (λ (nu : Naming). put_data (DList (items_of l))) said c.args.heap.now c.put_list.new.heap) c.deref.ensures.value c.put_list.ensures.did)

pub put_node-returns-in-Fields-clause-did : goal.put_node-returns-in-Fields-clause-did
put_node-returns-in-Fields-clause-did t c =
    let said = λ (nu : Naming). told (val_in nu) c.put_plain.result in
    subst (λ (n : Node). Works (λ (nu : Naming). put_data (data_of n)) said c.args.heap.now c.put_plain.new.heap) (sym c.in-Fields.is)
    (subst (λ (l : List (List ℕ × Data)). Works (λ (nu : Naming). put_data (DFields (fields_of l))) said c.args.heap.now c.put_plain.new.heap) c.deref-in-Fields.ensures.value c.put_plain.ensures.did)

pub put_node-returns-in-Undefined-clause-did : goal.put_node-returns-in-Undefined-clause-did
put_node-returns-in-Undefined-clause-did t c =
    subst (λ (n : Node). Works (λ (nu : Naming). put_data (data_of n)) (λ nu. told (val_in nu) c.paid.result) c.args.heap.now c.paid.new.heap) (sym c.in-Undefined.is) c.paid.ensures.did

pub put_node-returns-in-Null-clause-did : goal.put_node-returns-in-Null-clause-did
put_node-returns-in-Null-clause-did t c =
    subst (λ (n : Node). Works (λ (nu : Naming). put_data (data_of n)) (λ nu. told (val_in nu) c.paid-in-Null.result) c.args.heap.now c.paid-in-Null.new.heap) (sym c.in-Null.is) c.paid-in-Null.ensures.did

pub put_node-returns-in-Truth-clause-did : goal.put_node-returns-in-Truth-clause-did
put_node-returns-in-Truth-clause-did t c =
    subst (λ (n : Node). Works (λ (nu : Naming). put_data (data_of n)) (λ nu. told (val_in nu) c.paid-in-Truth.result) c.args.heap.now c.paid-in-Truth.new.heap) (sym c.in-Truth.is) c.paid-in-Truth.ensures.did

pub put_node-returns-in-Number-clause-did : goal.put_node-returns-in-Number-clause-did
put_node-returns-in-Number-clause-did t c =
    subst (λ (n : Node). Works (λ (nu : Naming). put_data (data_of n)) (λ nu. told (val_in nu) c.paid-in-Number.result) c.args.heap.now c.paid-in-Number.new.heap) (sym c.in-Number.is) c.paid-in-Number.ensures.did
