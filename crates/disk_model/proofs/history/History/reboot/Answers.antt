use Rattle.std.proofs.Common.{arith, ap, sym, subst, ◌∙◌, ◌≡◌, ◌≤◌, ◌+◌, ◌-◌, [], List, ℕ, length, take, drop, vec_len, vec_capacity, length-drop, refl}
use Rattle.std.proofs.lemmas.List.{take_all}
use Rattle.std.proofs.lemmas.Grind.{common_steps}
use Rattle.disk_model.specs.Images.{State, kept, read_of, state, start, AreInPlace, AreWrites, EndWithin, IsImageOf}
use Rattle.disk_model.specs.declared.event.Event.{Event}
use Rattle.disk_model.proofs.States.{within_front, within_rest, within_more, cut_is, kept_image, kept_shorter}
use Rattle.disk_model.proofs.Moves.{is_now}
use Rattle.disk_model.proofs.history.History.reboot.Goals as goal

pub redo-requires : goal.redo-requires
redo-requires c =
    let s = c.args.self.now in
    record { reach = subst (λ (l : List Event). EndWithin (vec_capacity s.first) (take s.durable l)) (sym c.deref.ensures.value) (within_front (vec_capacity s.first) s.durable s.events.items s.in_reach) }

rest_is : (k : ℕ) (es : List Event) → take (length es - k) (drop k es) ≡ drop k es
rest_is k es = take_all (length es - k) (drop k es) (omega (arith, length-drop k es))

pub redo_part-requires-clause-reach : goal.redo_part-requires-clause-reach
redo_part-requires-clause-reach c =
    let s = c.args.self.now in
    let rest : take (length c.deref-2.result.now - s.durable) (drop s.durable c.deref-2.result.now) ≡ drop s.durable s.events.items = rest_is s.durable c.deref-2.result.now ∙ ap (λ (l : List Event). drop s.durable l) c.deref-2.ensures.value in
    subst (λ (l : List Event). EndWithin (vec_capacity c.redo.new.content) l) (sym rest) (within_more (vec_capacity s.first) (vec_capacity c.redo.new.content) (drop s.durable s.events.items) (within_rest (vec_capacity s.first) s.durable s.events.items s.in_reach) c.redo.ensures.capacity)

-- the bytes that are left
module _ (c : goal.After-extend_from_slice-done) where
  bytes_are : c.redo_part.new.content.items ≡ kept (state (start c.args.self.now.first.items) c.args.self.now.events.items).synced (state (start c.args.self.now.first.items) c.args.self.now.events.items).pending c.args.keep
  bytes_are =
      let s = c.args.self.now in
      let rest : take (length c.deref-2.result.now - s.durable) (drop s.durable c.deref-2.result.now) ≡ drop s.durable s.events.items = rest_is s.durable c.deref-2.result.now ∙ ap (λ (l : List Event). drop s.durable l) c.deref-2.ensures.value in
      let redone_first : c.redo.new.content.items ≡ read_of (state (start s.first.items) (take s.durable s.events.items)) = c.redo.ensures.done ∙ ap (λ (l : List Event). read_of (state (start s.first.items) (take s.durable l))) c.deref.ensures.value in
      let redone_rest : c.redo_part.new.content.items ≡ kept c.redo.new.content.items (state (start c.redo.new.content.items) (drop s.durable s.events.items)).pending c.args.keep = c.redo_part.ensures.part ∙ ap (λ (l : List Event). kept c.redo.new.content.items (state (start c.redo.new.content.items) l).pending c.args.keep) rest in
      cut_is s.first.items c.redo.new.content.items c.redo_part.new.content.items s.events.items s.durable c.args.keep s.settled s.unsynced redone_first redone_rest

  copied : c.extend_from_slice-done.new.self.items ≡ c.redo_part.new.content.items
  copied =
      let s = c.args.self.now in
      let old : State = state (start s.first.items) s.events.items in
      let shorter = kept_shorter old.synced old.pending c.args.keep in
      let room : vec_len c.clear-2.new.self + length c.deref-3.result.now ≤ vec_capacity c.clear-2.new.self = omega (arith, shorter, ap length bytes_are, ap length s.reads, ap length c.deref-3.ensures.value, c.clear-2.ensures.len, c.clear-2.ensures.capacity, s.content.ok) in
      let done = c.extend_from_slice-done.ensures.succeeds room in
      grind (arith, common_steps, done, c.extend_from_slice-done.ensures.items, c.clear-2.ensures.items, c.deref-3.ensures.value)

pub invariant_of-self : goal.invariant_of-self
invariant_of-self c =
    let none : c.clear.new.self.items ≡ [] = c.clear.ensures.items in
    let base = c.redo_part.new.content.items in
    record {
      reads = copied c ∙ ap (λ (l : List Event). read_of (state (start base) l)) (sym none);
      in_place = subst (λ (l : List Event). AreInPlace (state (start base) l)) (sym none) tt;
      settled = refl;
      unsynced = subst (λ (l : List Event). AreWrites l) (sym none) tt;
      in_reach = subst (λ (l : List Event). EndWithin (vec_capacity c.redo_part.new.content) l) (sym none) tt;
      within = omega arith;
      room = λ lt. absurd (let never : ⊥ = omega (arith, lt, ap length none) in never);
    }

pub returns-clause-cut : goal.returns-clause-cut
returns-clause-cut c = copied c.before ∙ bytes_are c.before

pub returns-clause-image : goal.returns-clause-image
returns-clause-image c =
    let s = c.args.self.now in
    let old : State = state (start s.first.items) s.events.items in
    let is : c.extend_from_slice-done.new.self.items ≡ kept old.synced old.pending c.args.keep = copied c.before ∙ bytes_are c.before in
    is_now s.first.items s.events.items (length s.events.items) c.extend_from_slice-done.new.self.items (omega arith) (subst (λ (l : List ℕ). IsImageOf old l) (sym is) (kept_image old.synced old.pending c.args.keep s.in_place))
