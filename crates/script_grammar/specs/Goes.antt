-- What a row makes of a list of tokens, as a relation by cases on the row.
use Rattle.std.specs.Prelude.{◌≡◌, ℕ, ◌+◌, max, ◌≤◌, ◌<◌, List, [], ◌∷◌, Ok, Err, false, Option}
use Rattle.script_grammar.specs.declared.Form.{Form}
use Rattle.script_grammar.specs.declared.stop.Stop.{Stop}
use Rattle.script_grammar.specs.declared.stop.Stop.TheVariants.{Nesting, Ends}
use Rattle.js_tree.specs.declared.Script as script
use Rattle.js_lexer.specs.declared.Token.{Token}
use Rattle.script_grammar.specs.Words.{is_end, fault, form_at}
use Rattle.script_grammar.specs.Rules.{Symbol, Value, Rule, Done, Outcome}
use Rattle.script_grammar.specs.Rules.Symbol.{Script}
use Rattle.script_grammar.specs.Rules.Rule.{give, refuse, peek, eat, node, stand, read}
use Rattle.script_grammar.specs.Grammar.{grammar}

-- what was read is at least so high
abbrev pub raise : {n : Symbol} → ℕ → Outcome n → Outcome n
raise height (Ok d) = Ok record { value = d.value; height = max height d.height; rest = d.rest }
raise height (Err e) = Err e

-- Under a limit on depth, where the node that holds the symbol is so deep:
-- the row reads a front of the tokens, or they end within it, or a token fits nothing, or a node stands too deep.
-- No row takes the token of the end.
pub data Goes : (limit : ℕ) → (n : Symbol) → ℕ → Rule n → List Token → Outcome n → Type 0 where
  given : {limit : ℕ} {n : Symbol} {b : ℕ} {v : Value n} {ts : List Token}
      → Goes limit n b (give v) ts (Ok record { value = v; height = 0; rest = ts })
  refused : {limit : ℕ} {n : Symbol} {b : ℕ} {form : Option Form} {t : Token} {ts : List Token}
      → Goes limit n b (refuse form) (t ∷ ts) (Err (fault (form_at form t) t.start))
  peeked : {limit : ℕ} {n : Symbol} {b : ℕ} {f : Token → Rule n} {t : Token} {ts : List Token} {o : Outcome n}
      → Goes limit n b (f t) (t ∷ ts) o → Goes limit n b (peek f) (t ∷ ts) o
  eaten : {limit : ℕ} {n : Symbol} {b : ℕ} {r : Rule n} {t : Token} {ts : List Token} {o : Outcome n}
      → is_end t ≡ false → Goes limit n b r ts o → Goes limit n b (eat r) (t ∷ ts) o
  stands : {limit : ℕ} {n : Symbol} {b k : ℕ} {r : Rule n} {t : Token} {ts : List Token} {o : Outcome n}
      → is_end t ≡ false → b + k ≤ limit → Goes limit n b r ts o → Goes limit n b (node k r) (t ∷ ts) (raise k o)
  too_deep : {limit : ℕ} {n : Symbol} {b k : ℕ} {r : Rule n} {t : Token} {ts : List Token}
      → is_end t ≡ false → limit < b + k → Goes limit n b (node k r) (t ∷ ts) (Err Nesting)
  -- a node that stands with a token that the next member begins with
  begins : {limit : ℕ} {n : Symbol} {b k : ℕ} {r : Rule n} {t : Token} {ts : List Token} {o : Outcome n}
      → b + k ≤ limit → Goes limit n b r (t ∷ ts) o → Goes limit n b (stand k r) (t ∷ ts) (raise k o)
  begins_deep : {limit : ℕ} {n : Symbol} {b k : ℕ} {r : Rule n} {t : Token} {ts : List Token}
      → limit < b + k → (higher : ℕ) → Goes higher n b r (t ∷ []) (Err Ends) → Goes limit n b (stand k r) (t ∷ ts) (Err Nesting)
  passed : {limit : ℕ} {n m : Symbol} {b k : ℕ} {f : Value m → ℕ → Rule n} {ts : List Token} {d : Done m} {o : Outcome n}
      → Goes limit m (b + k) (grammar m) ts (Ok d) → Goes limit n b (f d.value d.height) d.rest o
      → Goes limit n b (read k m f) ts (raise (k + d.height) o)
  failed : {limit : ℕ} {n m : Symbol} {b k : ℕ} {f : Value m → ℕ → Rule n} {ts : List Token} {e : Stop}
      → Goes limit m (b + k) (grammar m) ts (Err e) → Goes limit n b (read k m f) ts (Err e)
  -- the tokens end where the row goes on
  ends_refuse : {limit : ℕ} {n : Symbol} {b : ℕ} {form : Option Form} → Goes limit n b (refuse form) [] (Err Ends)
  ends_peek : {limit : ℕ} {n : Symbol} {b : ℕ} {f : Token → Rule n} → Goes limit n b (peek f) [] (Err Ends)
  ends_eat : {limit : ℕ} {n : Symbol} {b : ℕ} {r : Rule n} → Goes limit n b (eat r) [] (Err Ends)
  ends_node : {limit : ℕ} {n : Symbol} {b k : ℕ} {r : Rule n} → Goes limit n b (node k r) [] (Err Ends)
  ends_stand : {limit : ℕ} {n : Symbol} {b k : ℕ} {r : Rule n} → Goes limit n b (stand k r) [] (Err Ends)

-- ---- what the contracts speak of

-- The tokens are this script, and no node in it is deeper than this.
abbrev pub Reads : List Token → script.Script → ℕ → Type 0
Reads ts tree depth = (height : ℕ) × (rest : List Token) × Goes depth Script 0 (grammar Script) ts (Ok record { value = tree; height = height; rest = rest })

-- The tokens begin some script, and no node that stands in them is deeper than this.
abbrev pub Begins : List Token → ℕ → Type 0
Begins ts depth = Goes depth Script 0 (grammar Script) ts (Err Ends)

abbrev pub Front : List Token → Type 0
Front ts = (depth : ℕ) × Begins ts depth

-- a front in which each way to begin a script is deeper than the limit
abbrev pub Deep : ℕ → List Token → Type 0
Deep limit ts = Front ts × ((depth : ℕ) → Begins ts depth → limit < depth)
