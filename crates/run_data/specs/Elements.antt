-- The keys of an array that are its elements (own rule: an array has data where its keys but for `length` are just the indexes below it).
use Rattle.std.specs.Prelude.{ℕ, Bool, List, Option, Some, None, length, ◌+◌, ◌==◌, ◌&&◌, if◌then◌else◌}
use Rattle.turk_base.specs.Names.{Units, pick, units_eq}
use Rattle.turk_base.specs.Values.{Array}
use Rattle.turk_base.specs.Cells.{class_of, length_key}
use Rattle.turk_base.specs.Steps.{without_length, is_index_below, all_below}

-- how many elements below n a key is: none for `length`; no number for another key
abbrev pub element_count : ℕ → Units → Option ℕ
element_count n k = pick (units_eq k length_key) (Some 0) (if is_index_below n (class_of k) then Some 1 else None)

-- so many elements were counted, and the others of these keys are elements below n, which makes n
abbrev pub counted : ℕ → ℕ → List Units → Bool
counted n many ks = ((many + length (without_length Array ks)) == n) && all_below n (without_length Array ks)
