-- Each item of a list and each value of fields is smaller than the whole.
use Rattle.std.specs.Prelude.{ℕ, ◌+◌, ◌≤◌, max, List, [], ◌∷◌, Vec, ◌≡◌, refl}
use Rattle.std.specs.declared.alloc.Global.{Global}
use Rattle.std.proofs.Common.{arith}
use denote.Param.Weighed.{most}
use Rattle.turk_base.specs.Data.{Data, size, size_items, size_fields, items_of, fields_of}
use Rattle.turk_base.specs.declared.Node.{Node}
use Rattle.turk_base.specs.declared.Node.TheVariants as node
use Rattle.turk_base.specs.declared.Data.TheDeep.{deep-Node}
use Rattle.turk_base.specs.declared.Data.TheShapes.{weighed-Node-Fields-0}
use Rattle.turk_base.specs.Node.{data_of}

-- no item is larger than all of them together
pub most_le_items : (ds : List Data) → most (λ d. size d + 1) ds ≤ size_items (items_of ds) + 1
unfolding size
most_le_items [] = omega arith
most_le_items (d ∷ ds) = omega (arith, most_le_items ds)

-- no value is larger than all the fields together
pub most_le_fields : (fs : List (List ℕ × Data)) → most (λ f. max 0 (max (size f.1 + 1) 0)) fs ≤ size_fields (fields_of fs) + 1
unfolding size
most_le_fields [] = omega arith
most_le_fields (f ∷ fs) = omega (arith, most_le_fields fs)

fields_weight : (fs : Vec (List ℕ × Data) Global) → weighed-Node-Fields-0.weight Data (λ y. size y + 1) fs ≡ most (λ f. max 0 (max (size f.1 + 1) 0)) fs.items
fields_weight fs = refl

pub child_size_le : (n : Node) → max (deep-Node n) 0 ≤ size (data_of n)
unfolding size
child_size_le node.Undefined = omega arith
child_size_le node.Null = omega arith
child_size_le (node.Truth b) = omega arith
child_size_le (node.Number z) = omega arith
child_size_le (node.Text t) = omega arith
child_size_le (node.List ds) = omega (arith, most_le_items ds.items)
child_size_le (node.Fields fs) = omega (arith, most_le_fields fs.items, fields_weight fs)
