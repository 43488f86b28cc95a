use Rattle.std.proofs.Common.{◌≡◌, ◌∷◌, ◌++◌, length, ap, ◌∙◌, arith}
use Rattle.indexmap.specs.IndexMap.{insert_entry}
use Rattle.object_props.proofs.Places.{next_moved}
use Rattle.object_props.proofs.many.move_into.Goals as goal

pub loop-key-preserved-in-Some : goal.loop-key-preserved-in-Some
loop-key-preserved-in-Some g c =
    let es = c.loop-key.map.entries in
    let rest = c.next.new.self.rest.items in
    let split : c.loop-key.key-iterator.rest.items ≡ (c.in-Some.key, c.in-Some.value) ∷ rest = c.in-Some.ensures.steps.0 in
    let new : c.insert.new.self.entries ≡ insert_entry g.K.PartialEq.eq es c.in-Some.key c.in-Some.value = rw c.unwrap.ensures at c.insert.ensures.entries in (
      ap (λ l. l ++ rest) new ∙ next_moved g.K.PartialEq.eq g.met.K.Eq.laws es _ rest _ (c.in-Some.key, c.in-Some.value) split c.loop-key.invariant.0 c.requires.distinct,
      omega (arith, ap length split, c.loop-key.invariant.1, c.insert.ensures.spare),
    )

pub loop-key-preserved : goal.loop-key-preserved
loop-key-preserved g c =
    let es = c.loop-key.map.entries in
    let rest = c.next.new.self.rest.items in
    let split : c.loop-key.key-iterator.rest.items ≡ (c.in-Some.key, c.in-Some.value) ∷ rest = c.in-Some.ensures.steps.0 in
    let new : c.insert.new.self.entries ≡ insert_entry g.K.PartialEq.eq es c.in-Some.key c.in-Some.value = rw c.unwrap.ensures at c.insert.ensures.entries in (
      ap (λ l. l ++ rest) new ∙ next_moved g.K.PartialEq.eq g.met.K.Eq.laws es _ rest _ (c.in-Some.key, c.in-Some.value) split c.loop-key.invariant.0 c.requires.distinct,
      omega (arith, ap length split, c.loop-key.invariant.1, c.insert.ensures.spare),
    )
