-- The state that a run begins with: the built-in cells, and nothing else (own rule; the errors after ECMA-262 3rd ed. 15.11).
use Rattle.std.specs.Prelude.{ℕ, Option, Some, None, codes}
use Rattle.std.proofs.Common.{suc, zero, [], ◌∷◌}
use Rattle.std.specs.Prelude.{List}
use Rattle.turk_base.specs.Names.{root, sub, Units, Name, cell}
use Rattle.turk_base.specs.Values.{Text, Object, Plain, BuiltIn, Known, property}
use Rattle.turk_base.specs.Cells.{Props}
use Rattle.turk_base.specs.State.{St, independent}
use Rattle.turk_base.specs.Steps.{prototype_key}

-- ---- the built-in cells: 0 Error, 1 its prototype, 2 TypeError, 3 its prototype, 4 ReferenceError, 5 its prototype, 6 String

-- the number of the first of the script's own cells
abbrev pub built_in_cells : ℕ
built_in_cells = 7

abbrev pub plain_of : Option Name → List Name → Option Known
plain_of p chain = Some (record { kind = Plain p; chain = chain })

abbrev pub built_in : ℕ → Option Known
built_in n = Some (record { kind = BuiltIn n; chain = [] })

abbrev pub known_number : ℕ → Option Known
known_number zero = built_in 13
known_number (suc zero) = plain_of None []
known_number (suc (suc zero)) = built_in 14
known_number (suc (suc (suc zero))) = plain_of (Some (cell root 1)) (cell root 1 ∷ [])
known_number (suc (suc (suc (suc zero)))) = built_in 15
known_number (suc (suc (suc (suc (suc zero))))) = plain_of (Some (cell root 1)) (cell root 1 ∷ [])
known_number (suc (suc (suc (suc (suc (suc zero)))))) = built_in 12
known_number (suc (suc (suc (suc (suc (suc (suc n))))))) = None

abbrev pub first_known : Name → Option Known
first_known (cell root n) = known_number n
first_known (cell (sub i p) n) = None

abbrev pub proto_props : Units → Props
proto_props name = property (codes "name") (Text name) ∷ property (codes "message") (Text []) ∷ []

abbrev pub error_props : ℕ → Props
error_props proto = property prototype_key (Object (cell root proto)) ∷ []

abbrev pub props_number : ℕ → Props
props_number zero = error_props 1
props_number (suc zero) = proto_props (codes "Error")
props_number (suc (suc zero)) = error_props 3
props_number (suc (suc (suc zero))) = proto_props (codes "TypeError")
props_number (suc (suc (suc (suc zero)))) = error_props 5
props_number (suc (suc (suc (suc (suc zero))))) = proto_props (codes "ReferenceError")
props_number (suc (suc (suc (suc (suc (suc n)))))) = []

abbrev pub first_cell_props : Name → Props
first_cell_props (cell root n) = props_number n
first_cell_props (cell (sub i p) n) = []

abbrev pub start : St
start = record { calls = 0; cells = built_in_cells; vals = []; known = first_known; props = first_cell_props; text = []; opened = []; verdict = independent; gone = [] }
