use Rattle.std.proofs.Common.{◌≡◌, sym, ap, ◌∙◌, ◌++◌, ◌∷◌, [], map, List, ℕ}
use Rattle.std.proofs.lemmas.Result.{err_from_is_err_and}
use Rattle.turk_base.specs.Data.{Data}
use Rattle.record_bytes.specs.Reading.{data_at, items_at, fields_at, field_at, are_distinct}
use Rattle.record_bytes.proofs.Loops.{goes_on, ends, is_done, items_counted, fields_counted, data_gives, data_none}
use Rattle.record_bytes.proofs.Parts.{distinct_by_test}
use Rattle.record_bytes.proofs.trees.+reading.Goals as goal

pub data_of-returns : goal.data_of-returns
data_of-returns t c = data_gives _ c.tagged_of.result c.args.left c.args.bytes.now c.in_ok-tag.tag c.in_ok-tag.rest.now c.in_ok-tag.ensures c.tagged_of.ensures

pub data_of-returns-in_err-tag : goal.data_of-returns-in_err-tag
data_of-returns-in_err-tag t c =
    let p = err_from_is_err_and c.from_residual.result c.from_residual.ensures.1 in
    rw (p.1, p.2) (data_none c.args.left c.args.bytes.now c.in_err-tag.field-0.0 c.in_err-tag.ensures)

pub items_of-returns-in-Err : goal.items_of-returns-in-Err
items_of-returns-in-Err t c =
    let read = data_at c.args.left in
    ends read (items_at read) (items_counted read) c.in-Err.stop c.loop-i.items.items c.args.count c.loop-i.i c.loop-i.rest.now (items_at read c.args.count c.args.bytes.now) c.loop-i-test.true c.in-Err.ensures c.loop-i.invariant

pub items_of-loop-i-preserved : goal.items_of-loop-i-preserved
items_of-loop-i-preserved t c =
    let read = data_at c.args.left in
    let n = c.in-Ok.item in
    let e : c.push.new.self.items ≡ c.loop-i.items.items ++ n ∷ [] = c.in_ok-push-in-Ok.ensures.items in
    rw e (goes_on read (items_at read) (items_counted read) c.loop-i.items.items c.args.count c.loop-i.i c.loop-i.rest.now n c.in-Ok.after.now (items_at read c.args.count c.args.bytes.now) c.loop-i-test.true c.in-Ok.ensures c.loop-i.invariant)

pub items_of-returns : goal.items_of-returns
items_of-returns t c =
    let read = data_at c.args.left in
    is_done read (items_at read) (items_counted read) c.loop-i.items.items c.args.count c.loop-i.i c.loop-i.rest.now (items_at read c.args.count c.args.bytes.now) c.loop-i-test.false c.loop-i.invariant

pub pairs_of-returns-in-Err : goal.pairs_of-returns-in-Err
pairs_of-returns-in-Err t c =
    let read = data_at c.args.left in
    ends (field_at read) (fields_at read) (fields_counted read) c.in-Err.stop c.loop-i.fields.items c.args.count c.loop-i.i c.loop-i.rest.now (fields_at read c.args.count c.args.bytes.now) c.loop-i-test.true c.in-Err.ensures c.loop-i.invariant

pub pairs_of-loop-i-preserved : goal.pairs_of-loop-i-preserved
pairs_of-loop-i-preserved t c =
    let read = data_at c.args.left in
    let n = c.in-Ok.field in
    let e : c.push.new.self.items ≡ c.loop-i.fields.items ++ n ∷ [] = c.in_ok-push-in-Ok.ensures.items in
    rw e (goes_on (field_at read) (fields_at read) (fields_counted read) c.loop-i.fields.items c.args.count c.loop-i.i c.loop-i.rest.now n c.in-Ok.after.now (fields_at read c.args.count c.args.bytes.now) c.loop-i-test.true c.in-Ok.ensures c.loop-i.invariant)

pub pairs_of-returns : goal.pairs_of-returns
pairs_of-returns t c =
    let read = data_at c.args.left in
    is_done (field_at read) (fields_at read) (fields_counted read) c.loop-i.fields.items c.args.count c.loop-i.i c.loop-i.rest.now (fields_at read c.args.count c.args.bytes.now) c.loop-i-test.false c.loop-i.invariant

pub fields_of-make-requires : goal.fields_of-make-requires
fields_of-make-requires t c =
    distinct_by_test _ (ap (λ (l : List (List ℕ × Data)). are_distinct (map (λ f. f.0) l)) (sym c.deref.ensures.value) ∙ sym c.are_distinct.ensures ∙ c.if-not-are_distinct.false)
