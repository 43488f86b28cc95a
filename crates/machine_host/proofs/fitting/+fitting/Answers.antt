use Rattle.std.proofs.Common.{subst, sym, ◌≤◌, ℕ, List, arith}
use Rattle.turk_base.specs.Data.{Data, nesting, items_of, fields_of}
use Rattle.turk_base.specs.Node.{data_of}
use Rattle.turk_base.specs.declared.Node.{Node}
use Rattle.record_bytes.specs.Limits.{IsDataWithin, AreItemsWithin, AreFieldsWithin}
use Rattle.machine_host.proofs.Fitted.{no_items, no_fields, items_next, fields_next, list_within, fields_within, item_fits, field_fits, list_parts, fields_parts}
use Rattle.machine_host.proofs.fitting.+fitting.Goals as goal

pub items_fit-loop-item-init : goal.items_fit-loop-item-init
items_fit-loop-item-init t c = no_items c.args.left

pub fields_fit-loop-field-init : goal.fields_fit-loop-field-init
fields_fit-loop-field-init t c = no_fields c.args.left

pub items_fit-loop-item-preserved : goal.items_fit-loop-item-preserved
items_fit-loop-item-preserved t c =
    let fit = c.if-not-node_fits.false in
    items_next c.args.left c.args.items.now c.loop-item.item-index c.item-item.result c.loop-item-test.true c.item-item.is c.loop-item.invariant
    (subst IsDataWithin c.node.ensures.data (c.node_fits.ensures.within fit)) (subst (λ (d : Data). nesting d ≤ c.args.left) c.node.ensures.data (c.node_fits.ensures.deep fit))

pub fields_fit-loop-field-preserved : goal.fields_fit-loop-field-preserved
fields_fit-loop-field-preserved t c =
    let fit = c.if-not-node_fits.false in
    fields_next c.args.left c.args.fields.now c.loop-field.field-index c.field-item.result c.loop-field-test.true c.field-item.is c.loop-field.invariant (omega (arith, c.len.ensures, c.if-len-gt-MOST_UNITS.false))
    (subst IsDataWithin c.node.ensures.data (c.node_fits.ensures.within fit)) (subst (λ (d : Data). nesting d ≤ c.args.left) c.node.ensures.data (c.node_fits.ensures.deep fit))

pub node_fits-returns-else-len-gt-MOST_ITEMS-clause-within : goal.node_fits-returns-else-len-gt-MOST_ITEMS-clause-within
node_fits-returns-else-len-gt-MOST_ITEMS-clause-within t c fit =
    subst (λ (n : Node). IsDataWithin (data_of n)) (sym c.in-List.is) (list_within c.in-List.items.items (omega (arith, c.in-List.items.ok.0))
    (subst (λ (l : List Data). AreItemsWithin (items_of l)) c.deref.ensures.value (c.items_fit.ensures.within fit)))

pub node_fits-returns-else-len-gt-MOST_FIELDS-clause-within : goal.node_fits-returns-else-len-gt-MOST_FIELDS-clause-within
node_fits-returns-else-len-gt-MOST_FIELDS-clause-within t c fit =
    subst (λ (n : Node). IsDataWithin (data_of n)) (sym c.in-Fields.is) (fields_within c.in-Fields.fields.items (omega (arith, c.in-Fields.fields.ok.0))
    (subst (λ (l : List (List ℕ × Data)). AreFieldsWithin (fields_of l)) c.deref-in-Fields.ensures.value (c.fields_fit.ensures.within fit)))

pub fields_fit-returns-then-len-gt-MOST_UNITS-clause-all : goal.fields_fit-returns-then-len-gt-MOST_UNITS-clause-all
fields_fit-returns-then-len-gt-MOST_UNITS-clause-all t c within deep =
    let fit = field_fits c.args.left c.args.fields.now c.loop-field.field-index c.field-item.result c.loop-field-test.true c.field-item.is within deep in
    absurd (let short = fit.0 in omega (arith, short, c.len.ensures, c.if-len-gt-MOST_UNITS.true))

pub fields_fit-returns-then-not-node_fits-clause-all : goal.fields_fit-returns-then-not-node_fits-clause-all
fields_fit-returns-then-not-node_fits-clause-all t c within deep =
    let fit = field_fits c.args.left c.args.fields.now c.loop-field.field-index c.field-item.result c.loop-field-test.true c.field-item.is within deep in
    c.if-not-node_fits.ensures.all (subst IsDataWithin (sym c.node.ensures.data) fit.1.0) (subst (λ (d : Data). nesting d ≤ c.args.left) (sym c.node.ensures.data) fit.1.1)

pub items_fit-returns-then-not-node_fits-clause-all : goal.items_fit-returns-then-not-node_fits-clause-all
items_fit-returns-then-not-node_fits-clause-all t c within deep =
    let fit = item_fits c.args.left c.args.items.now c.loop-item.item-index c.item-item.result c.loop-item-test.true c.item-item.is within deep in
    c.if-not-node_fits.ensures.all (subst IsDataWithin (sym c.node.ensures.data) fit.0) (subst (λ (d : Data). nesting d ≤ c.args.left) (sym c.node.ensures.data) fit.1)

pub node_fits-returns-then-len-gt-MOST_ITEMS-clause-all : goal.node_fits-returns-then-len-gt-MOST_ITEMS-clause-all
node_fits-returns-then-len-gt-MOST_ITEMS-clause-all t c within deep =
    let few = list_parts c.in-List.items.items (subst (λ (n : Node). IsDataWithin (data_of n)) c.in-List.is within) in
    absurd (let short = few.0 in omega (arith, short, c.len-in-List.ensures, c.if-len-gt-MOST_ITEMS.true))

pub node_fits-returns-then-len-gt-MOST_FIELDS-clause-all : goal.node_fits-returns-then-len-gt-MOST_FIELDS-clause-all
node_fits-returns-then-len-gt-MOST_FIELDS-clause-all t c within deep =
    let few = fields_parts c.in-Fields.fields.items (subst (λ (n : Node). IsDataWithin (data_of n)) c.in-Fields.is within) in
    absurd (let short = few.0 in omega (arith, short, c.len-in-Fields.ensures, c.if-len-gt-MOST_FIELDS.true))
