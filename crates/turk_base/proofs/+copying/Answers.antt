use Rattle.std.proofs.Common.{◌≡◌, ◌<◌, ◌+◌, ◌*◌, arith, ap, sym, ◌∙◌}
use Rattle.turk_base.proofs.Falling.{item_falls, field_falls, items_fall, fields_fall}
use Rattle.turk_base.specs.Data.{DList, DFields, items_of, fields_of, size, size_items, size_fields}
use Rattle.turk_base.specs.Node.{data_of}
use Rattle.turk_base.proofs.+copying.Goals as goal

pub Data::copy-copy_items-requires : goal.Data::copy-copy_items-requires
Data::copy-copy_items-requires t c =
    let whole : c.args.self.now ≡ DList (items_of c.deref.result.now) = sym c.self.view_is ∙ ap data_of c.in-List.is ∙ ap (λ xs. DList (items_of xs)) (sym c.deref.ensures.value) in
    let measure : 2 * size c.args.self.now ≡ t = c.decreases in
    let falls : 2 * size_items (items_of c.deref.result.now) + 1 < t = omega (arith, items_fall c.deref.result.now c.args.self.now whole, measure) in
    (falls, tt)

pub Data::copy-copy_fields-requires : goal.Data::copy-copy_fields-requires
Data::copy-copy_fields-requires t c =
    let whole : c.args.self.now ≡ DFields (fields_of c.deref-in-Fields.result.now) = sym c.self.view_is ∙ ap data_of c.in-Fields.is ∙ ap (λ xs. DFields (fields_of xs)) (sym c.deref-in-Fields.ensures.value) in
    let measure : 2 * size c.args.self.now ≡ t = c.decreases in
    let falls : 2 * size_fields (fields_of c.deref-in-Fields.result.now) + 1 < t = omega (arith, fields_fall c.deref-in-Fields.result.now c.args.self.now whole, measure) in
    (falls, tt)

pub trees::copy_fields-copy-requires-in-loop-field :
    goal.trees::copy_fields-copy-requires-in-loop-field
trees::copy_fields-copy-requires-in-loop-field t c =
    let measure : 2 * size_fields (fields_of c.args.fields.now) + 1 ≡ t = c.decreases in
    let falls : 2 * size c.field-item.result.1 < t = omega (arith, field_falls _ _ _ c.loop-field-test.true c.field-item.is, measure) in
    (falls, tt)

pub trees::copy_items-copy-requires : goal.trees::copy_items-copy-requires
trees::copy_items-copy-requires t c =
    let measure : 2 * size_items (items_of c.args.items.now) + 1 ≡ t = c.decreases in
    let falls : 2 * size c.item-item.result < t = omega (arith, item_falls _ _ _ c.loop-item-test.true c.item-item.is, measure) in
    (falls, tt)
