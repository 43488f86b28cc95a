-- Operands with what stands after them.
use Rattle.std.proofs.Common.{◌≡◌, ◌≢◌, ℕ, ◌+◌, ◌≤◌, max, Bool, true, List, Result, Ok, Err, refl, sym, subst, arith, add-zero, MatchResult}
use Rattle.std.specs.Borrow.{Bor}
use Rattle.js_lexer.specs.declared.Token.{Token}
use Rattle.script_grammar.specs.declared.classes.Operand.{Operand}
use Rattle.script_grammar.specs.declared.stop.Stop.{Stop}
use Rattle.script_grammar.specs.declared.stop.Stop.TheVariants.{Memory}
use Rattle.script_grammar.specs.Rules.{Symbol, Value, Rule, Done, Outcome}
use Rattle.script_grammar.specs.Rules.Rule.{give, read}
use Rattle.script_grammar.specs.Rules.Symbol.{Left}
use Rattle.script_grammar.specs.Grammar.{grammar}
use Rattle.script_grammar.specs.Goes.{Goes}
use Rattle.script_grammar.specs.Meets.{Has, Meets}
use Rattle.expression_rows.specs.Parts.{TookOperand, MissesOperand}
use Rattle.script_grammar.proofs.Along.{row, gives, passes, fails}

-- a member at a depth that is known by another name
pub passes_at : {n m : Symbol} {b k base : ℕ} {f : Value m → ℕ → Rule n} {ts : List Token} {d : Done m} {h : ℕ} {o : Outcome n} → b + k ≡ base
    → Goes 200 m base (grammar m) ts (Ok d) → Has n b (f d.value d.height) d.rest (max h (k + d.height)) o → Has n b (read k m f) ts h o
passes_at {m = m} {ts = ts} {d = d} e g w = passes (subst (λ x. Goes 200 m x (grammar m) ts (Ok d)) (sym e) g) w

pub fails_at : {n m : Symbol} {b k base : ℕ} {f : Value m → ℕ → Rule n} {ts : List Token} {h : ℕ} {e : Stop} → b + k ≡ base
    → Goes 200 m base (grammar m) ts (Err e) → Has n b (read k m f) ts h (Err e)
fails_at {m = m} {ts = ts} {e = stop} e g = fails (subst (λ x. Goes 200 m x (grammar m) ts (Err stop)) (sym e) g)

-- an operand with members and calls after it
pub as_left : (b : ℕ) (ts : List Token) (r : Result (Operand × ℕ × Bor (List Token)) Stop)
    → MatchResult r (λ r. TookOperand true b ts r.0 r.1 r.2.now) (λ e. e ≢ Memory → MissesOperand true b ts e) → Meets Left b ts r
as_left b ts (Ok x) took = row (took.row Left b 0 0 (λ v. give v) _ (add-zero b) (gives refl (omega arith)))
as_left b ts (Err stop) misses = λ not. row ((misses not).row Left b 0 0 (λ v. give v) (add-zero b))

-- what a row does with one operand it does with an equal one
pub made_as : {n : Symbol} {b h k : ℕ} (rule : Operand → ℕ → Rule n) {ts : List Token} {o : Outcome n} {made v : Operand} {tall high : ℕ} → made ≡ v → tall ≡ high → h ≡ k
    → Has n b (rule made tall) ts h o → Has n b (rule v high) ts k o
made_as {n} {b} {h} {k} rule {ts} {o} {made} {v} {tall} {high} e q s w =
    subst (λ x. Has n b (rule v high) ts x o) s (subst (λ x. Has n b (rule v x) ts h o) q (subst (λ x. Has n b (rule x tall) ts h o) e w))
