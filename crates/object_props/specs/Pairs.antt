-- The pairs of a store, few or many, in order.
use Rattle.std.specs.Prelude.{List}
use Rattle.object_props.specs.declared.Store.{Store}
use Rattle.object_props.specs.declared.Store.TheVariants.{Few, Many}

abbrev pub pairs_of : {K V : Type 0} → Store K V → List (K × V)
pairs_of (Few pairs) = pairs.items
pairs_of (Many map) = map.value.entries
