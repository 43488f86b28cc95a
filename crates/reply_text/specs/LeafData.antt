-- The leaves of the code.
use Rattle.std.specs.Prelude.{◌≡◌, ℕ, List, map, string_bytes}
use Rattle.serde_json.specs.Data.{Data}
use Rattle.reply_text.specs.Leaves.{Leaf, text, whole, IsLine, leaf_data}
use Rattle.reply_text.specs.declared.leaf.Leaf as code
use Rattle.reply_text.specs.declared.leaf.Leaf.TheVariants.{Text, Whole}

abbrev pub leaf_of : code.Leaf → Leaf
leaf_of (Text s) = text (string_bytes s)
leaf_of (Whole n) = whole n

abbrev pub leaves_of : List code.Leaf → List Leaf
leaves_of ls = map leaf_of ls

abbrev pub IsNoLeaf : Data → Type 0
IsNoLeaf d = (l : Leaf) → d ≡ leaf_data l → ⊥

abbrev pub AreNoLeaves : List Data → Type 0
AreNoLeaves ds = (ls : List Leaf) → ds ≡ map leaf_data ls → ⊥

abbrev pub IsNoLine : List ℕ → Type 0
IsNoLine line = (ls : List Leaf) → IsLine line ls → ⊥

abbrev pub OneList : Type 0
OneList = (line : List ℕ) (ls ms : List Leaf) → IsLine line ls → IsLine line ms → ls ≡ ms
