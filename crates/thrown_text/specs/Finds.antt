-- What looking up a property gives of the text of a thrown value.
use Rattle.std.specs.Prelude.{◌≡◌, ℕ, Option, Some, None}
use Rattle.turk_base.specs.Names.{Units}
use Rattle.turk_base.specs.Values.{Val, Undefined, Null, Truth, Number, Text, Object}
use Rattle.turk_base.specs.State.{St}
use Rattle.js_tree.specs.Report.{found_on}
use Rattle.value_cells.specs.Seen.{Naming, Seen, Fits, Grows}

-- the text that was found, where it is one
abbrev pub text_found : Option Val → Option Units
text_found (Some (Text t)) = Some t
text_found (Some Undefined) = None
text_found (Some Null) = None
text_found (Some (Truth b)) = None
text_found (Some (Number n)) = None
text_found (Some (Object c)) = None
text_found None = None

-- No cell and no property differs.
pub record Alike (σ τ : St) : Type 0 where
  pub known : τ.known ≡ σ.known
  pub props : τ.props ≡ σ.props

-- The text was found that the cell has under the key, itself or by its prototypes, and no cell and no property differs.
pub record Finds (cell : ℕ) (key : Units) (text : Option Units) (old new : Seen) : Type 0 where
  pub grows : Grows old.names new.names
  pub alike : (nu : Naming) → Fits nu new.names → Alike (old.first nu) (new.first nu)
  pub found : (nu : Naming) → Fits nu new.names → text ≡ text_found (found_on (old.first nu) (nu cell) key)
