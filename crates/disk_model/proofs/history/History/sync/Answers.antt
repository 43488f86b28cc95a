use Rattle.std.proofs.Common.{◌≡◌, [], ◌∷◌, ◌++◌, List, ℕ, length, arith, ap, sym, subst, ◌∙◌, vec_capacity, rules}
use Rattle.std.proofs.lemmas.List.{take_all}
use Rattle.disk_model.specs.Images.{State, read_of, state, start, after, AreInPlace, EndWithin, IsImageOf}
use Rattle.disk_model.specs.declared.event.Event.{Event}
use Rattle.disk_model.specs.declared.event.Event.TheVariants.{Synced}
use Rattle.disk_model.proofs.States.{state-append, none_past, within_synced, done_image}
use Rattle.disk_model.proofs.Moves.{goes_push}
use Rattle.disk_model.proofs.history.History.sync.Goals as goal

pub invariant_of-self : goal.invariant_of-self
invariant_of-self c =
    let s = c.args.self.now in
    let first = start s.first.items in
    let pushed : c.push_reserved.new.self.items ≡ s.events.items ++ Synced ∷ [] = c.push_reserved.ensures.items in
    let st : state first c.push_reserved.new.self.items ≡ after (state first s.events.items) Synced = ap (λ (l : List Event). state first l) pushed ∙ state-append first s.events.items (Synced ∷ []) in
    let size : c.len-self.result ≡ length c.push_reserved.new.self.items = search rules in
    record {
      reads = s.reads ∙ sym (ap (λ (x : State). read_of x) st);
      in_place = subst (λ (x : State). AreInPlace x) (sym st) tt;
      settled = ap (λ (l : List Event). (state first l).pending) (take_all c.len-self.result c.push_reserved.new.self.items (omega (arith, size))) ∙ ap (λ (x : State). x.pending) st;
      unsynced = none_past c.len-self.result c.push_reserved.new.self.items (omega (arith, size));
      in_reach = subst (λ (l : List Event). EndWithin (vec_capacity s.first) l) (sym pushed) (within_synced (vec_capacity s.first) s.events.items s.in_reach);
      within = omega (arith, size);
      room = λ lt. absurd (let never : ⊥ = omega (arith, lt, size) in never);
    }

pub returns-then-self-len-clause-crash : goal.returns-then-self-len-clause-crash
returns-then-self-len-clause-crash c =
    let s = c.args.self.now in
    let old : State = state (start s.first.items) s.events.items in
    let image_of : (x : List ℕ) → x ≡ read_of old → IsImageOf old x = λ x is. subst (λ (l : List ℕ). IsImageOf old l) (sym is) (done_image old.synced old.pending s.in_place) in
    goes_push (◌≡◌ {A = List ℕ}) s _ Synced (search rules) c.push_reserved.ensures.items (λ x image. (x, image_of x image, search rules))
