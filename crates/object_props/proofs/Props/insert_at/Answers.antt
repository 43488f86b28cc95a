use Rattle.std.proofs.Common.{◌≡◌, sym, subst, ap, ◌∙◌}
use Rattle.std.specs.List.{IsDistinct}
use Rattle.std.specs.Map.{keys_of}
use Rattle.object_props.specs.Pairs.{pairs_of}
use Rattle.object_props.proofs.Places.{IsDistinct-after_insert}
use Rattle.object_props.proofs.Props.insert_at.Goals.{in-Few, in-Many}
use Rattle.object_props.proofs.Props.insert_at.Goals as goal

pub invariant_of-self : goal.invariant_of-self
invariant_of-self g c =
    let eq = g.K.PartialEq.eq in
    let now = c.args.self.now in
    let view : pairs_of c.self.inside.store ≡ now = c.self.view_is ∙ c.outgrow_list.ensures in
    let distinct : IsDistinct eq (keys_of now) = subst (λ l. IsDistinct eq (keys_of l)) view c.self.invariant in
    elim c.match-self.branch [
      | in-Few w ↦
          rw w.self-inside-is (IsDistinct-after_insert eq g.met.K.Eq.laws (c.args.key, c.args.value) w.insert_at.result c.args.place now w.in-Few.pairs.items w.insert_at.new.pairs.items (sym (ap pairs_of w.in-Few.is) ∙ view) w.insert_at.ensures.ok w.insert_at.ensures.err c.requires.fresh distinct)
      | in-Many w ↦
          rw w.self-inside-is (IsDistinct-after_insert eq g.met.K.Eq.laws (c.args.key, c.args.value) w.insert_at-in-Many.result c.args.place now w.deref_mut.result.now.entries w.insert_at-in-Many.new.map.entries (ap (λ m. m.entries) w.deref_mut.ensures.value ∙ sym (ap pairs_of w.in-Many.is) ∙ view) w.insert_at-in-Many.ensures.ok w.insert_at-in-Many.ensures.err c.requires.fresh distinct)
    ]
