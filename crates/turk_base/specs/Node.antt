-- The plain data that a node stands for, one level of it, and the condition on its keys.
use Rattle.std.specs.Prelude.{⊤}
use Rattle.std.specs.Map.{keys_of}
use Rattle.turk_base.specs.Data.{Data, DUndefined, DNull, DTruth, DNumber, DText, DList, DFields, items_of, fields_of, IsDistinctKeys}
use Rattle.turk_base.specs.declared.Node.{Node}
use Rattle.turk_base.specs.declared.Node.TheVariants as node

abbrev pub data_of : Node → Data
data_of node.Undefined = DUndefined
data_of node.Null = DNull
data_of (node.Truth b) = DTruth b
data_of (node.Number z) = DNumber z
data_of (node.Text t) = DText t
data_of (node.List ds) = DList (items_of ds.items)
data_of (node.Fields fs) = DFields (fields_of fs.items)

-- the keys of a node's fields are distinct
abbrev pub HasDistinctKeys : Node → Type 0
HasDistinctKeys (node.Fields fs) = IsDistinctKeys (keys_of fs.items)
HasDistinctKeys _ = ⊤
