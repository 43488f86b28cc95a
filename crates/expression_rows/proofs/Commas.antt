-- The row after a comma, over what the parser made of the operands.
use Rattle.std.proofs.Common.{◌≡◌, ℕ, max, Bool, List, Ok, Err, subst}
use Rattle.js_lexer.specs.declared.Token.{Token}
use Rattle.script_grammar.specs.declared.classes.Operand.{Operand}
use Rattle.script_grammar.specs.declared.stop.Stop.{Stop}
use Rattle.script_grammar.specs.Rules.{Done, Outcome}
use Rattle.script_grammar.specs.Rules.Rule.{give}
use Rattle.script_grammar.specs.Rules.Symbol.{Commas}
use Rattle.script_grammar.specs.Grammar.{grammar, as_read}
use Rattle.script_grammar.specs.Goes.{Goes}
use Rattle.script_grammar.specs.Meets.{Has}
use Rattle.script_grammar.proofs.Along.{passes_level, fails_level}

module _ {no_in : Bool} {left made v : Operand} {height b tall high : ℕ} {ts : List Token} where
  pub commas_read : {d : Done (Commas no_in made tall)} {h : ℕ} {o : Outcome (Commas no_in left height)}
      → Goes 200 (Commas no_in made tall) b (grammar (Commas no_in made tall)) ts (Ok d) → made ≡ v → tall ≡ high
      → Has (Commas no_in left height) b (give d.value) d.rest (max h d.height) o → Has (Commas no_in left height) b (as_read (Commas no_in v high) (λ x. x)) ts h o
  commas_read {d} {h} {o} g e q w = subst (λ x. Has (Commas no_in left height) b (as_read (Commas no_in x high) (λ y. y)) ts h o) e
      (subst (λ x. Has (Commas no_in left height) b (as_read (Commas no_in made x) (λ y. y)) ts h o) q (passes_level g w))

  pub commas_stopped : {stop : Stop} {h : ℕ} → Goes 200 (Commas no_in made tall) b (grammar (Commas no_in made tall)) ts (Err stop) → made ≡ v → tall ≡ high
      → Has (Commas no_in left height) b (as_read (Commas no_in v high) (λ x. x)) ts h (Err stop)
  commas_stopped {stop} {h} g e q = subst (λ x. Has (Commas no_in left height) b (as_read (Commas no_in x high) (λ y. y)) ts h (Err stop)) e
      (subst (λ x. Has (Commas no_in left height) b (as_read (Commas no_in made x) (λ y. y)) ts h (Err stop)) q (fails_level g))
