use Rattle.std.proofs.Common.{◌≡◌, ◌+◌, ◌-◌, suc, ℕ, [], ◌∷◌, take, drop, ap, sym, subst, ◌∙◌, arith, add-one, vec_capacity}
use Rattle.disk_model.specs.Images.{State, kept, size_of, state, start, after, redone, event_size, EndWithin, AreWrites}
use Rattle.disk_model.specs.declared.event.Event.{Event}
use Rattle.disk_model.proofs.States.{state_more, redone_part, size_part, within_at, writes_at, within_more}
use Rattle.disk_model.proofs.history.redo_part.Goals as goal

pub loop-event-preserved : goal.loop-event-preserved
loop-event-preserved c =
    let i = c.loop-event.event-index in
    let es = c.args.events.now in
    let e = c.event-item.result in
    let base = c.args.content.now.items in
    let keep = c.args.keep in
    let first = start base in
    let old : State = state first (take i es) in
    let more : state first (take (i + 1) es) ≡ after old e = state_more first es i e c.loop-event-test.true ∙ ap (λ (x : Event). after old x) (sym c.event-item.is) in
    let rest = within_at (vec_capacity c.loop-event.content) es i e c.loop-event-test.true c.loop-event.invariant.reach in
    let writes = writes_at es i e c.loop-event-test.true c.loop-event.invariant.writes in
    let here : AreWrites (e ∷ []) = subst (λ (x : Event). AreWrites (x ∷ [])) (sym c.event-item.is) writes.0 in
    record {
      so_far = c.redo_one-left.ensures.done ∙ (λ j. redone e (c.loop-event.invariant.left j) (c.loop-event.invariant.so_far j)) ∙ redone_part base old e keep here ∙ sym (ap (λ (x : State). kept base x.pending keep) more);
      left = c.redo_one-left.ensures.left ∙ ap (λ (n : ℕ). n - event_size e) c.loop-event.invariant.left ∙ size_part old e keep here ∙ sym (ap (λ (x : State). keep - size_of x.pending) more);
      reach = subst (λ (n : ℕ). EndWithin (vec_capacity c.redo_one-left.new.content) (drop n es)) (sym (add-one i)) (within_more (vec_capacity c.loop-event.content) (vec_capacity c.redo_one-left.new.content) (drop (suc i) es) rest.1 c.redo_one-left.ensures.capacity);
      writes = subst (λ (n : ℕ). AreWrites (drop n es)) (sym (add-one i)) writes.1;
      capacity = omega (arith, c.loop-event.invariant.capacity, c.redo_one-left.ensures.capacity);
    }

pub redo_one-left-requires : goal.redo_one-left-requires
redo_one-left-requires c =
    let rest = within_at (vec_capacity c.loop-event.content) c.args.events.now c.loop-event.event-index c.event-item.result c.loop-event-test.true c.loop-event.invariant.reach in
    record { reach = subst (λ (x : Event). EndWithin (vec_capacity c.loop-event.content) (x ∷ [])) (sym c.event-item.is) rest.0 }
