-- Parts of the walk, one after the other, as one.
use Rattle.scope_names.specs.declared.walk.Walk.{Walk}
use Rattle.scope_names.specs.Walks.{Kind, Resolves, ResolvesTwo, ResolvesThree}

pub two_made : {A B : Type 0} {first : Kind A} {second : Kind B} {w v u : Walk} {x x' : A} {y y' : B} → Resolves first w x x' v → Resolves second v y y' u → ResolvesTwo first second w x y x' y' u
two_made {A} {B} {first} {second} {w} {v} p q = record { between = v; former = p; latter = q }

pub three_made : {A B C : Type 0} {first : Kind A} {second : Kind B} {third : Kind C} {w v u : Walk} {x x' : A} {y y' : B} {z z' : C} → Resolves first w x x' v → ResolvesTwo second third v y z y' z' u → ResolvesThree first second third w x y z x' y' z' u
three_made {A} {B} {C} {first} {second} {third} {w} {v} p q = record { between = v; former = p; rest = q }
