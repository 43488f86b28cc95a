-- Calls and constructions of what is no function, and values that are no objects.
use Rattle.std.specs.Prelude.{Option, Some, None, List, true, false}
use Rattle.std.specs.Option.{option_map}
use Rattle.std.proofs.Common.{◌≡◌, refl, ℕ, codes, arith, nat_eq}
use Rattle.std.proofs.lemmas.Bool.Decides.{nat_tests}
use Rattle.turk_base.specs.Names.{Name, Units}
use Rattle.turk_base.specs.Values as model
use Rattle.turk_base.specs.Values.{Val}
use Rattle.turk_base.specs.Prog.{Prog}
use Rattle.turk_base.specs.Errors.{type_error, not_a_function}
use Rattle.js_tree.specs.declared.Stmt.{Stmt}
use Rattle.js_tree.specs.Pieces.{Here}
use Rattle.js_tree.specs.Calls.{Code, call_value, call_property, construct, constructed, prototype_in}
use Rattle.value_cells.specs.declared.Value.{Value}
use Rattle.value_cells.specs.declared.Value.TheVariants as code
use Rattle.value_cells.specs.Seen.{Naming, val_in}
use Rattle.value_rows.specs.Kinds.{cell_in}

module _ (table : List Code) (stmt : Here → Stmt → Prog) where
  pub no_call : (v : Value) → ((i : ℕ) → v ≡ code.Object i → ⊥) → (nu : Naming) (this : Val) (args : List Val) → call_value table stmt (val_in nu v) this args ≡ not_a_function
  no_call code.Undefined n nu this args = refl
  no_call code.Null n nu this args = refl
  no_call (code.Truth b) n nu this args = refl
  no_call (code.Number z) n nu this args = refl
  no_call (code.Text t) n nu this args = refl
  no_call (code.Object i) n nu this args = absurd (n i refl)

  pub no_member_call : (v : Value) → ((i : ℕ) → v ≡ code.Object i → ⊥) → ((t : Units) → v ≡ code.Text t → ⊥) → (nu : Naming) (key : Units) (args : List Val) → call_property table stmt (val_in nu v) key args ≡ not_a_function
  no_member_call code.Undefined n m nu key args = refl
  no_member_call code.Null n m nu key args = refl
  no_member_call (code.Truth b) n m nu key args = refl
  no_member_call (code.Number z) n m nu key args = refl
  no_member_call (code.Text t) n m nu key args = absurd (m t refl)
  no_member_call (code.Object i) n m nu key args = absurd (n i refl)

  pub no_construct : (v : Value) → ((i : ℕ) → v ≡ code.Object i → ⊥) → (nu : Naming) (args : List Val) → construct table stmt (val_in nu v) args ≡ type_error (codes "not a constructor")
  no_construct code.Undefined n nu args = refl
  no_construct code.Null n nu args = refl
  no_construct (code.Truth b) n nu args = refl
  no_construct (code.Number z) n nu args = refl
  no_construct (code.Text t) n nu args = refl
  no_construct (code.Object i) n nu args = absurd (n i refl)

  pub made_kept : (v : Value) → ((i : ℕ) → v ≡ code.Object i → ⊥) → (nu : Naming) (made : Name) → constructed table stmt made (val_in nu v) ≡ model.Object made
  made_kept code.Undefined n nu made = refl
  made_kept code.Null n nu made = refl
  made_kept (code.Truth b) n nu made = refl
  made_kept (code.Number z) n nu made = refl
  made_kept (code.Text t) n nu made = refl
  made_kept (code.Object i) n nu made = absurd (n i refl)

  pub prototype_of : (found : Option Value) (nu : Naming) → prototype_in table stmt (option_map (val_in nu) found) ≡ option_map nu (cell_in found)
  prototype_of None nu = refl
  prototype_of (Some code.Undefined) nu = refl
  prototype_of (Some code.Null) nu = refl
  prototype_of (Some (code.Truth b)) nu = refl
  prototype_of (Some (code.Number z)) nu = refl
  prototype_of (Some (code.Text t)) nu = refl
  prototype_of (Some (code.Object i)) nu = refl

pub not_equal : (n m : ℕ) → (n ≡ m → ⊥) → nat_eq n m ≡ false
not_equal n m h = grind (arith, nat_tests)
