-- Paths, tokens, traces and replies, as the code's values show them: a path is the list of its indexes, the outermost first (own rules).
use Rattle.std.specs.Prelude.{ℕ, Bool, true, false, ◌&&◌, ◌||◌, ◌==◌, not, List, [], ◌∷◌, ◌++◌, Option, Some, None, if◌then◌else◌, nat_eq, decimal}
use Rattle.std.specs.List.{join_by}
use Rattle.std.specs.Cmp.Lexicographic.{pointwise}
use Rattle.turk_base.specs.declared.Entry.{Entry}
use Rattle.turk_base.specs.declared.Record.{Record}

-- two texts or paths are the same
abbrev pub same_list : List ℕ → List ℕ → Bool
same_list a b = pointwise nat_eq a b

-- q begins with p
abbrev pub begins : List ℕ → List ℕ → Bool
begins [] q = true
begins (i ∷ p) [] = false
begins (i ∷ p) (j ∷ q) = (i == j) && begins p q

-- the indexes in decimal, joined by `.`
abbrev pub dotted : List ℕ → List ℕ
dotted path = join_by decimal (46 ∷ []) path

-- the token of a path: the session name, `/`, and the indexes
abbrev pub token_of : List ℕ → List ℕ → List ℕ
token_of name path = name ++ 47 ∷ dotted path

-- the record at a path
abbrev pub at : List Entry → List ℕ → Option Record
at [] path = None
at (e ∷ es) path = if same_list e.path path then Some e.what else at es path

-- an entry's path begins with this one and is longer
abbrev pub below : List Entry → List ℕ → Bool
below [] path = false
below (e ∷ es) path = (begins path e.path && not (same_list path e.path)) || below es path

-- the text of the first reply with this token
abbrev pub answer : List (List ℕ × List ℕ) → List ℕ → Option (List ℕ)
answer [] token = None
answer (r ∷ rs) token = if same_list r.0 token then Some r.1 else answer rs token
