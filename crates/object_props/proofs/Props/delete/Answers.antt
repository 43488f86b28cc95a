use Rattle.std.proofs.Common.{◌≡◌, subst, rules}
use Rattle.std.specs.List.{IsDistinct}
use Rattle.std.specs.Map.{keys_of, remove_entry}
use Rattle.object_props.specs.Pairs.{pairs_of}
use Rattle.object_props.proofs.Places.{IsDistinct-remove_entry}
use Rattle.object_props.proofs.Props.delete.Goals.{in-Few, in-Many}
use Rattle.object_props.proofs.Props.delete.Goals as goal

pub invariant_of-self : goal.invariant_of-self
invariant_of-self g c =
    let t = g.K.PartialEq.eq c.args.key.now in
    let distinct : IsDistinct g.K.PartialEq.eq (keys_of c.args.self.now) = subst (λ l. IsDistinct g.K.PartialEq.eq (keys_of l)) c.self.view_is c.self.invariant in
    let after : pairs_of c.match-self.self-inside.store ≡ remove_entry t c.args.self.now = elim c.match-self.branch [
      | in-Few w ↦ search rules
      | in-Many w ↦ search rules
    ] in
    rw after (IsDistinct-remove_entry g.K.PartialEq.eq t c.args.self.now distinct)
