-- A line of JSON that is an array of texts and whole numbers (RFC 8259, sections 2, 5, 6 and 7), by its tokens.
use Rattle.std.specs.Prelude.{◌≡◌, ℕ, List, [], ◌∷◌, ◌++◌, Some}
use Rattle.std.specs.Str.{IsUtf8}
use Rattle.json.specs.Token.{Token}
use Rattle.json.specs.Lex.{tokens}
use Rattle.serde_json.specs.Data.{Data, Items, number, unsigned, string, array, no_items, item}
use Rattle.serde_json.specs.Read.{number_of, read}

-- a member of the array: a text, in UTF-8, or a whole number that is written in digits alone
pub data Leaf : Type 0 where
  text : List ℕ → Leaf
  whole : ℕ → Leaf

-- the tokens are those members' (the commas between them are no tokens of their own)
pub data AreLeaves : List Token → List Leaf → Type 0 where
  no_leaf : AreLeaves [] []
  text_leaf : {s : List ℕ} {ts : List Token} {ls : List Leaf} → AreLeaves ts ls → AreLeaves (Token.string s ∷ ts) (text s ∷ ls)
  whole_leaf : {s : List ℕ} {n : ℕ} {ts : List Token} {ls : List Leaf} → number_of s ≡ Some (unsigned n) → AreLeaves ts ls → AreLeaves (Token.number s ∷ ts) (whole n ∷ ls)

-- the line is UTF-8, and its tokens are `[`, those of the members, `]`
abbrev pub IsLine : List ℕ → List Leaf → Type 0
IsLine line leaves = IsUtf8 line × (ts : List Token) × (tokens line ≡ Token.begin_array ∷ (ts ++ Token.end_array ∷ [])) × AreLeaves ts leaves

-- ---- the same as the reader of JSON gives it

abbrev pub leaf_data : Leaf → Data
leaf_data (text s) = string s
leaf_data (whole n) = number (unsigned n)

abbrev pub leaf_items : List Leaf → Items
leaf_items [] = no_items
leaf_items (l ∷ ls) = item (leaf_data l) (leaf_items ls)

-- a UTF-8 text reads as an array of these leaves exactly where it is such a line
abbrev pub LineLaw : Type 0
LineLaw = (line : List ℕ) (ls : List Leaf) → IsUtf8 line → (read line ≡ Some (array (leaf_items ls)) → IsLine line ls) × (IsLine line ls → read line ≡ Some (array (leaf_items ls)))
