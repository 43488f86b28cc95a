use Rattle.std.proofs.Common.{◌≡◌, ◌≤◌, ◌+◌, [], ◌∷◌, ◌++◌, List, ℕ, length, take, drop, arith, ap, sym, subst, ◌∙◌, vec_capacity, rules, length-append}
use Rattle.std.proofs.lemmas.List.{take-append-le}
use Rattle.disk_model.specs.Disk.{Torn}
use Rattle.disk_model.specs.Images.{State, overwritten, read_of, state, start, after, AreInPlace, AreWrites, EndWithin}
use Rattle.disk_model.specs.declared.event.Write.{Write}
use Rattle.disk_model.specs.declared.event.Event.{Event}
use Rattle.disk_model.specs.declared.event.Event.TheVariants.{Wrote}
use Rattle.disk_model.proofs.States.{state-append, writes-push, within-push, within_more}
use Rattle.disk_model.proofs.Moves.{goes_push}
use Rattle.disk_model.proofs.history.History.write.Goals as goal

pub invariant_of-self-in-Break-branch-4 : goal.invariant_of-self-in-Break-branch-4
invariant_of-self-in-Break-branch-4 c =
    let s = c.args.self.now in
    let es = s.events.items in
    let first : c.reserve-2.new.self.items ≡ s.first.items = c.reserve-2.ensures.items in
    let events : c.reserve.new.self.items ≡ es = c.reserve.ensures.items in
    let content : c.put_at.new.content.items ≡ s.content.items = search rules in
    record {
      reads = content ∙ s.reads ∙ (λ i. read_of (state (start (sym first i)) (sym events i)));
      in_place = subst (λ (l : List Event). AreInPlace (state (start c.reserve-2.new.self.items) l)) (sym events) (subst (λ (l : List ℕ). AreInPlace (state (start l) es)) (sym first) s.in_place);
      settled = (λ i. (state (start (first i)) (take s.durable (events i))).pending) ∙ s.settled;
      unsynced = subst (λ (l : List Event). AreWrites (drop s.durable l)) (sym events) s.unsynced;
      in_reach = subst (λ (l : List Event). EndWithin (vec_capacity c.reserve-2.new.self) l) (sym events) (within_more (vec_capacity s.first) (vec_capacity c.reserve-2.new.self) es s.in_reach (omega (arith, c.reserve-2.ensures.capacity)));
      within = omega (arith, ap length events, s.within);
      room = λ lt. omega (arith, c.in_ok-reserve.ensures.ok);
    }

pub invariant_of-self-2 : goal.invariant_of-self-2
invariant_of-self-2 c =
    let s = c.args.self.now in
    let w : Write = record { at = c.args.at; bytes = c.in_ok-kept.kept } in
    let es = s.events.items in
    let first : c.reserve-2.new.self.items ≡ s.first.items = c.reserve-2.ensures.items in
    let same : c.in_ok-kept.kept.items ≡ c.args.bytes.now = search rules in
    let pushed : c.push_reserved.new.self.items ≡ es ++ Wrote w ∷ [] = c.push_reserved.ensures.items ∙ ap (λ (l : List Event). l ++ Wrote w ∷ []) c.reserve.ensures.items in
    let st : state (start c.reserve-2.new.self.items) c.push_reserved.new.self.items ≡ after (state (start s.first.items) es) (Wrote w) =
    (λ i. state (start (first i)) (pushed i)) ∙ state-append (start s.first.items) es (Wrote w ∷ []) in
    let old : State = state (start s.first.items) es in
    let put : c.put_at.new.content.items ≡ overwritten c.args.at c.args.bytes.now s.content.items = search rules in
    let reach : c.args.at + length c.in_ok-kept.kept.items ≤ vec_capacity c.reserve-2.new.self = omega (arith, ap length same, c.in_ok-reserve-2.ensures.ok) in
    record {
      reads = put ∙ (λ i. overwritten c.args.at (sym same i) (s.reads i)) ∙ sym (ap (λ (x : State). read_of x) st);
      in_place = subst (λ (x : State). AreInPlace x) (sym st) (omega (arith, c.requires, ap length s.reads), s.in_place);
      settled = (λ i. (state (start (first i)) (take s.durable (pushed i))).pending) ∙ ap (λ (l : List Event). (state (start s.first.items) l).pending) (take-append-le s.durable es (Wrote w ∷ []) s.within) ∙ s.settled;
      unsynced = subst (λ (l : List Event). AreWrites (drop s.durable l)) (sym pushed) (writes-push s.durable es w s.within s.unsynced);
      in_reach = subst (λ (l : List Event). EndWithin (vec_capacity c.reserve-2.new.self) l) (sym pushed) (within-push (vec_capacity c.reserve-2.new.self) es w (within_more (vec_capacity s.first) (vec_capacity c.reserve-2.new.self) es s.in_reach (omega (arith, c.reserve-2.ensures.capacity))) reach);
      within = omega (arith, s.within, ap length pushed, length-append es (Wrote w ∷ []));
      room = λ lt. omega (arith, c.in_ok-reserve.ensures.ok, c.push_reserved.ensures.len, c.push_reserved.ensures.capacity);
    }

pub returns-clause-crash : goal.returns-clause-crash
returns-clause-crash c =
    let s = c.args.self.now in
    let w : Write = record { at = c.args.at; bytes = c.in_ok-kept.kept } in
    let same : c.in_ok-kept.kept.items ≡ c.args.bytes.now = search rules in
    let pushed : c.push_reserved.new.self.items ≡ s.events.items ++ Wrote w ∷ [] = c.push_reserved.ensures.items ∙ ap (λ (l : List Event). l ++ Wrote w ∷ []) c.reserve.ensures.items in
    goes_push (Torn c.args.at (length c.args.bytes.now)) s _ (Wrote w) c.reserve-2.ensures.items pushed (λ x image. (image.0, image.1, subst (λ (n : ℕ). Torn c.args.at n image.0 x) (ap length same) image.2))
