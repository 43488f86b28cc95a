use Rattle.std.proofs.Common.{◌≡◌, length, sym, subst, ap, ◌∙◌, rules, take_at}
use Rattle.std.specs.List.{IsDistinct}
use Rattle.std.specs.Map.{keys_of, set_value}
use Rattle.object_props.specs.Pairs.{pairs_of}
use Rattle.object_props.proofs.Places.{IsDistinct-set_value}
use Rattle.object_props.proofs.Props.set.Goals.{in-Few, in-Many}
use Rattle.object_props.proofs.Props.set.Goals as goal

pub invariant_of-self : goal.invariant_of-self
invariant_of-self g c =
    let t = g.K.PartialEq.eq c.args.key.now in
    let distinct : IsDistinct g.K.PartialEq.eq (keys_of c.args.self.now) = subst (λ l. IsDistinct g.K.PartialEq.eq (keys_of l)) c.self.view_is c.self.invariant in
    let after : pairs_of c.match-self.self-inside.store ≡ set_value t c.args.self.now c.args.value = elim c.match-self.branch [
      | in-Few w ↦
          let long : length w.set.new.pairs ≡ w.in-Few.pairs.len = search rules in
          ap (λ s. pairs_of s.store) w.self-inside-is ∙ take_at w.set.new.pairs _ w.in-Few.pairs.len long ∙ w.set.ensures.new ∙ ap (λ l. set_value t l c.args.value) (w.deref_mut.ensures.value ∙ sym (ap pairs_of w.in-Few.is) ∙ c.self.view_is)
      | in-Many w ↦ search rules
    ] in
    rw after (IsDistinct-set_value g.K.PartialEq.eq t c.args.self.now c.args.value distinct)
