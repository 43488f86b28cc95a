use Rattle.std.proofs.Common.{◌≡◌, arith, rules, sym, ap, subst, length, ◌++◌, ◌∷◌, []}
use Rattle.std.specs.Int.{w32, to_be_bytes}
use Rattle.turk_base.specs.Data.{Data, nesting}
use Rattle.record_bytes.specs.Limits.{IsDataWithin, IsData}
use Rattle.record_bytes.specs.Spelling.{data_bytes}
use Rattle.record_bytes.proofs.Parts.{items_within_at, items_nesting_at, fields_within_at, fields_nesting_at, items_step, fields_step, no_items, no_fields, list_small, fields_small, list_written, fields_written, is_list, is_fields, on_ok_map}
use Rattle.record_bytes.proofs.trees.+putting.Goals as goal

pub put_items-loop-item-init : goal.put_items-loop-item-init
put_items-loop-item-init t c = no_items c.args.out.now.items

pub put_fields-loop-field-init : goal.put_fields-loop-field-init
put_fields-loop-field-init t c = no_fields c.args.out.now.items

pub put_items-put_node-requires : goal.put_items-put_node-requires
put_items-put_node-requires t c =
    let ds = c.args.items.now in
    (omega (arith, c.decreases), (subst IsDataWithin (sym c.node.ensures.data) (items_within_at ds c.loop-item.item-index c.item-item.result c.loop-item-test.true c.item-item.is c.requires.within), (omega (arith, ap nesting c.node.ensures.data, items_nesting_at ds c.loop-item.item-index c.item-item.result c.loop-item-test.true c.item-item.is), c.node.ensures.keys)))

pub put_items-loop-item-preserved : goal.put_items-loop-item-preserved
put_items-loop-item-preserved t c =
    items_step c.args.items.now c.loop-item.item-index c.item-item.result c.args.out.now.items c.loop-item.out.items c.put_node.new.out.items c.loop-item-test.true c.item-item.is c.loop-item.invariant (subst (λ (d : Data). (c.put_node.new.out.items ≡ c.loop-item.out.items ++ data_bytes d) × IsData d) c.node.ensures.data c.in_ok-put_node.ensures)

pub put_fields-put_text-requires : goal.put_fields-put_text-requires
put_fields-put_text-requires t c = (fields_within_at c.args.fields.now c.loop-field.field-index c.field-item.result c.loop-field-test.true c.field-item.is c.requires.within).0

pub put_fields-put_node-requires : goal.put_fields-put_node-requires
put_fields-put_node-requires t c =
    let fs = c.args.fields.now in
    (omega (arith, c.decreases), (subst IsDataWithin (sym c.node.ensures.data) (fields_within_at fs c.loop-field.field-index c.field-item.result c.loop-field-test.true c.field-item.is c.requires.within).1, (omega (arith, ap nesting c.node.ensures.data, fields_nesting_at fs c.loop-field.field-index c.field-item.result c.loop-field-test.true c.field-item.is), c.node.ensures.keys)))

pub put_fields-loop-field-preserved : goal.put_fields-loop-field-preserved
put_fields-loop-field-preserved t c =
    fields_step c.args.fields.now c.loop-field.field-index c.field-item.result c.args.out.now.items c.loop-field.out.items c.put_text.new.out.items c.put_node.new.out.items c.loop-field-test.true c.field-item.is c.loop-field.invariant c.in_ok-put_text.ensures.bytes c.in_ok-put_text.ensures.units (subst (λ (d : Data). (c.put_node.new.out.items ≡ c.put_text.new.out.items ++ data_bytes d) × IsData d) c.node.ensures.data c.in_ok-put_node.ensures)

pub put_node-overflow_cast-len : goal.put_node-overflow_cast-len
put_node-overflow_cast-len t c =
    let within = rw c.in-List.is at c.requires.within in
    let small = list_small c.in-List.items.items within in
    omega (arith, small, c.len.ensures, c.in-List.items.ok.0)

pub put_node-overflow_cast-len-in-Fields : goal.put_node-overflow_cast-len-in-Fields
put_node-overflow_cast-len-in-Fields t c =
    let within = rw c.in-Fields.is at c.requires.within in
    let small = fields_small c.in-Fields.fields.items within in
    omega (arith, small, c.len-in-Fields.ensures, c.in-Fields.fields.ok.0)

pub put_node-returns-in_ok-put-in-List-2 : goal.put_node-returns-in_ok-put-in-List-2
put_node-returns-in_ok-put-in-List-2 t c =
    let ds = c.in-List.items.items in
    let n_is : c.len.result ≡ length ds = omega (arith, c.len.ensures, c.in-List.items.ok.0) in
    let a_is : c.put-in-List.new.out.items ≡ c.args.out.now.items ++ 6 ∷ [] = search rules in
    let b_is : c.put-in-List-2.new.out.items ≡ c.put-in-List.new.out.items ++ to_be_bytes w32 c.len.result = search rules in
    rw c.in-List.is (on_ok_map c.put_items.result (λ h. (list_written c.args.out.now.items _ _ _ ds c.len.result a_is b_is n_is (rw c.deref.ensures.value at h.0), is_list ds (rw c.deref.ensures.value at h.1))) c.put_items.ensures)

pub put_node-returns-in_ok-put-in-Fields-2 : goal.put_node-returns-in_ok-put-in-Fields-2
put_node-returns-in_ok-put-in-Fields-2 t c =
    let fs = c.in-Fields.fields.items in
    let n_is : c.len-in-Fields.result ≡ length fs = omega (arith, c.len-in-Fields.ensures, c.in-Fields.fields.ok.0) in
    let a_is : c.put-in-Fields.new.out.items ≡ c.args.out.now.items ++ 7 ∷ [] = search rules in
    let b_is : c.put-in-Fields-2.new.out.items ≡ c.put-in-Fields.new.out.items ++ to_be_bytes w32 c.len-in-Fields.result = search rules in
    let distinct = rw c.in-Fields.is at c.requires.keys in
    rw c.in-Fields.is (on_ok_map c.put_fields.result (λ h. (fields_written c.args.out.now.items _ _ _ fs c.len-in-Fields.result a_is b_is n_is (rw c.deref-in-Fields.ensures.value at h.0), is_fields fs distinct (rw c.deref-in-Fields.ensures.value at h.1))) c.put_fields.ensures)
