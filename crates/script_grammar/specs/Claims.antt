-- What the answers of the parser mean.
use Rattle.std.specs.Prelude.{◌≡◌, ℕ, List, [], ◌∷◌, ◌++◌, Result, Ok, Err, Option, Some, None, true}
use Rattle.script_grammar.specs.declared.Form.{Form}
use Rattle.script_grammar.specs.declared.stop.Stop.{Stop}
use Rattle.script_grammar.specs.declared.stop.Stop.TheVariants.{Syntax, LeftOut, Nesting, Ends, Memory}
use Rattle.js_tree.specs.declared.Script as script
use Rattle.js_lexer.specs.declared.Token.{Token}
use Rattle.script_grammar.specs.Words.{is_end, fault}
use Rattle.script_grammar.specs.Rules.Symbol.{Script}
use Rattle.script_grammar.specs.Grammar.{grammar}
use Rattle.script_grammar.specs.Goes.{Goes, Reads, Front, Deep}

-- No front of the tokens that begins a script has a node that is too deep.
abbrev pub Shallow : ℕ → List Token → Type 0
Shallow limit ts = (p s : List Token) → ts ≡ p ++ s → Deep limit p → ⊥

-- The first token such that the tokens up to and with it begin no script. The form is the one that stands there, where it is left out of the language.
pub record FirstWrong (ts : List Token) (form : Option Form) (place : ℕ) : Type 0 where
  pub before : List Token
  pub token : Token
  pub after : List Token
  pub whole : ts ≡ before ++ token ∷ after
  pub here : place ≡ token.start
  pub wrong : Front (before ++ token ∷ []) → ⊥
  pub first : (p s : List Token) → before ≡ p ++ s → Front p
  -- and with it the row of a script is refused for this form
  pub refused : Goes 200 Script 0 (grammar Script) (before ++ token ∷ []) (Err (fault form place))

abbrev pub Answers : List Token → Result script.Script Stop → Type 0
Answers ts (Ok tree) = Reads ts tree 200 × Shallow 200 ts
Answers ts (Err (Syntax place)) = FirstWrong ts None place × Shallow 200 ts
Answers ts (Err (LeftOut place form)) = FirstWrong ts (Some form) place × Shallow 200 ts
Answers ts (Err Nesting) = (p : List Token) × (s : List Token) × (ts ≡ p ++ s) × Deep 200 p
Answers ts (Err Ends) = Front ts × Shallow 200 ts
Answers ts (Err Memory) = Unit {0}

-- the end stands in the tokens
pub data HasEnd : List Token → Type 0 where
  here : {t : Token} {ts : List Token} → is_end t ≡ true → HasEnd (t ∷ ts)
  later : {t : Token} {ts : List Token} → HasEnd ts → HasEnd (t ∷ ts)
