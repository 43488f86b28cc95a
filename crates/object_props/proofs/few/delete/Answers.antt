use Rattle.std.proofs.Common.{◌≡◌, Some, None, position, ap, sym, ◌∙◌}
use Rattle.object_props.proofs.Places.{value_at, key_at, missing_from, position-keys, remove_entry-at, remove_entry-absent, same_search}
use Rattle.object_props.proofs.few.delete.Goals as goal

pub returns-in_err-place-clause-place : goal.returns-in_err-place-clause-place
returns-in_err-place-clause-place g c =
    let t = g.K.PartialEq.eq c.args.key.now in
    let es = c.args.pairs.now.items in
    rw c.from_residual.ensures (sym (same_search t None c.deref.result.now es c.deref.ensures.value c.in_err-place.ensures) ∙ position-keys t es)

pub returns-in_err-place-clause-key : goal.returns-in_err-place-clause-key
returns-in_err-place-clause-key g c =
    let t = g.K.PartialEq.eq c.args.key.now in
    let es = c.args.pairs.now.items in
    let none : position (λ e. t e.0) es ≡ None = same_search t None c.deref.result.now es c.deref.ensures.value c.in_err-place.ensures in
    rw c.from_residual.ensures (sym (missing_from t es none).key)

pub returns-in_err-place-clause-value : goal.returns-in_err-place-clause-value
returns-in_err-place-clause-value g c =
    let t = g.K.PartialEq.eq c.args.key.now in
    let es = c.args.pairs.now.items in
    let none : position (λ e. t e.0) es ≡ None = same_search t None c.deref.result.now es c.deref.ensures.value c.in_err-place.ensures in
    rw c.from_residual.ensures (sym (missing_from t es none).value)

pub returns-in_err-place-clause-new : goal.returns-in_err-place-clause-new
returns-in_err-place-clause-new g c =
    let t = g.K.PartialEq.eq c.args.key.now in
    let es = c.args.pairs.now.items in
    let none : position (λ e. t e.0) es ≡ None = same_search t None c.deref.result.now es c.deref.ensures.value c.in_err-place.ensures in
    sym (remove_entry-absent t es (missing_from t es none).value)

pub returns-clause-place : goal.returns-clause-place
returns-clause-place g c =
    let t = g.K.PartialEq.eq c.args.key.now in
    let es = c.args.pairs.now.items in
    sym (same_search t (Some c.in_ok-place.place) c.deref.result.now es c.deref.ensures.value c.in_ok-place.ensures) ∙ position-keys t es

pub returns-clause-key : goal.returns-clause-key
returns-clause-key g c =
    let t = g.K.PartialEq.eq c.args.key.now in
    let es = c.args.pairs.now.items in
    let here : position (λ e. t e.0) es ≡ Some c.in_ok-place.place = same_search t (Some c.in_ok-place.place) c.deref.result.now es c.deref.ensures.value c.in_ok-place.ensures in
    ap (λ e. Some e.0) c.remove-key.ensures.value ∙ key_at t es c.in_ok-place.place c.remove-key.result here

pub returns-clause-value : goal.returns-clause-value
returns-clause-value g c =
    let t = g.K.PartialEq.eq c.args.key.now in
    let es = c.args.pairs.now.items in
    let here : position (λ e. t e.0) es ≡ Some c.in_ok-place.place = same_search t (Some c.in_ok-place.place) c.deref.result.now es c.deref.ensures.value c.in_ok-place.ensures in
    ap (λ e. Some e.1) c.remove-key.ensures.value ∙ value_at t es c.in_ok-place.place c.remove-key.result here

pub returns-clause-new : goal.returns-clause-new
returns-clause-new g c =
    let t = g.K.PartialEq.eq c.args.key.now in
    let es = c.args.pairs.now.items in
    let here : position (λ e. t e.0) es ≡ Some c.in_ok-place.place = same_search t (Some c.in_ok-place.place) c.deref.result.now es c.deref.ensures.value c.in_ok-place.ensures in
    c.remove-key.ensures.items ∙ sym (remove_entry-at t es c.in_ok-place.place here)
