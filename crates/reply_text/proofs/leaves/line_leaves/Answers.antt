use Rattle.std.proofs.Common.{◌≡◌, Some, is_some, ap, ◌∙◌, sym, true≢false}
use Rattle.std.specs.Prelude.{map}
use Rattle.serde_json.specs.Data.{null, no_items, array}
use Rattle.serde_json.specs.Find.{as_array}
use Rattle.serde_json.specs.View.{view, items_of}
use Rattle.reply_text.specs.Leaves.{IsLine, leaf_data}
use Rattle.reply_text.specs.LeafData.{leaves_of, IsNoLine, AreNoLeaves}
use Rattle.reply_text.proofs.Grammar.{line_law, some_inj}
use Rattle.reply_text.proofs.LeafCalls.{lift, array_data, items_list, items_list-items_of, items_list-leaf_items, items_of-leaves}
use Rattle.reply_text.proofs.leaves.line_leaves.Goals as goal

pub returns-in_default : goal.returns-in_default
returns-in_default c = λ ls h.
    let read = c.in-Err.ensures.err (λ m. c.in_default.not-Memory (c.classify.ensures.memory.1 m)) h.0 in
    absurd (true≢false (ap is_some (sym ((line_law c.args.line.now ls h.0).1 h) ∙ read)))

pub returns-in_default-as_array : goal.returns-in_default-as_array
returns-in_default-as_array c = λ ls h.
    let same = some_inj null _ _ (sym c.in-Ok.ensures.ok.1 ∙ (line_law c.args.line.now ls h.0).1 h) in
    absurd (true≢false (sym (ap is_some (c.in_default-as_array.ensures ∙ ap as_array same))))

pub returns : goal.returns
returns c =
    let utf8 = c.in-Ok.ensures.ok.0 in
    let vs = c.as_slice.result.now in
    let is : view c.in-Ok.value ≡ array (items_of (map view vs)) =
    array_data (view c.in-Ok.value) (items_of (map view vs)) (ap (λ xs. Some (items_of (map view xs))) c.as_slice.ensures.value ∙ c.in-Some.ensures) in
    lift c.leaves_at.result (AreNoLeaves (map view vs)) (IsNoLine c.args.line.now) (λ v. map view vs ≡ map leaf_data (leaves_of v.items)) (λ v. IsLine c.args.line.now (leaves_of v.items))
    (λ bare ls h.
    let same = some_inj null _ _ (sym c.in-Ok.ensures.ok.1 ∙ (line_law c.args.line.now ls h.0).1 h) in
    let items = some_inj no_items _ _ (ap as_array (sym is ∙ same)) in
    bare ls (sym (items_list-items_of (map view vs)) ∙ ap items_list items ∙ items_list-leaf_items ls))
    (λ v e.
    let ls = leaves_of v.items in
    (line_law c.args.line.now ls utf8).0 (c.in-Ok.ensures.ok.1 ∙ ap Some (is ∙ ap array (ap items_of e ∙ items_of-leaves ls))))
    c.leaves_at.ensures
