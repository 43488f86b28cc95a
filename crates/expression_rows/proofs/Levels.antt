-- The levels of binary operators.
use Rattle.std.proofs.Common.{◌≡◌, ◌≢◌, ℕ, zero, suc, ◌+◌, ◌-◌, ◌<◌, ◌≤◌, max, Bool, List, Result, Ok, Err, refl, sym, subst, arith}
use Rattle.std.specs.Borrow.{Bor}
use Rattle.js_lexer.specs.declared.Token.{Token}
use Rattle.script_grammar.specs.declared.classes.Operand.{Operand}
use Rattle.script_grammar.specs.declared.stop.Stop.{Stop}
use Rattle.script_grammar.specs.Rules.Symbol.{Binary, More, Unary}
use Rattle.script_grammar.specs.Grammar.{grammar, tighter}
use Rattle.script_grammar.specs.Goes.{Goes}
use Rattle.script_grammar.specs.Meets.{Meets}
use Rattle.script_grammar.proofs.Along.{row, gives, passes_level, fails_level}

-- the tightest level is that of the operands
pub as_unary : (no_in : Bool) (level b : ℕ) (ts : List Token) (r : Result (Operand × ℕ × Bor (List Token)) Stop) → level ≡ 0 → Meets Unary b ts r → Meets (Binary no_in level) b ts r
as_unary no_in level b ts r e g = subst (λ x. Meets (Binary no_in x) b ts r) (sym e) (at_zero r g)
  where
    at_zero : (r : Result (Operand × ℕ × Bor (List Token)) Stop) → Meets Unary b ts r → Meets (Binary no_in zero) b ts r
    at_zero (Ok x) g = row (passes_level g (gives refl (omega arith)))
    at_zero (Err stop) g = λ not. row (fails_level (g not))

module _ {no_in : Bool} {b : ℕ} {ts : List Token} (l level : ℕ) (e : level ≡ suc l) where
  pub level_fails : {stop : Stop} → Goes 200 (Binary no_in l) b (grammar (Binary no_in l)) ts (Err stop) → Goes 200 (Binary no_in level) b (grammar (Binary no_in level)) ts (Err stop)
  level_fails {stop} g = subst (λ x. Goes 200 (Binary no_in x) b (grammar (Binary no_in x)) ts (Err stop)) (sym e) (row (fails_level g))

  module _ {left : Operand} {height : ℕ} {us : List Token} (g : Goes 200 (Binary no_in l) b (grammar (Binary no_in l)) ts (Ok record { value = left; height = height; rest = us })) where
    pub level_stops : {stop : Stop} → Goes 200 (More no_in level left height) b (grammar (More no_in level left height)) us (Err stop) → Goes 200 (Binary no_in level) b (grammar (Binary no_in level)) ts (Err stop)
    level_stops {stop} = subst (λ x. Goes 200 (More no_in x left height) b (grammar (More no_in x left height)) us (Err stop) → Goes 200 (Binary no_in x) b (grammar (Binary no_in x)) ts (Err stop)) (sym e)
        (λ w. row (passes_level g (fails_level w)))

    pub level_reads : {v : Operand} {above k : ℕ} {rest : List Token} → k ≡ max height above → Goes 200 (More no_in level left height) b (grammar (More no_in level left height)) us (Ok record { value = v; height = above; rest = rest })
        → Goes 200 (Binary no_in level) b (grammar (Binary no_in level)) ts (Ok record { value = v; height = k; rest = rest })
    level_reads {v} {above} {k} {rest} q = subst (λ x. Goes 200 (More no_in x left height) b (grammar (More no_in x left height)) us (Ok record { value = v; height = above; rest = rest })
        → Goes 200 (Binary no_in x) b (grammar (Binary no_in x)) ts (Ok record { value = v; height = k; rest = rest })) (sym e)
        (λ w. row (passes_level g (passes_level w (gives refl (omega (arith, q))))))

-- the right operand of an operator is of the level below
below : (level : ℕ) → 0 < level → level - 1 ≡ tighter level
below zero p = omega arith
below (suc level) p = omega arith

pub tighter_reads : {no_in : Bool} {b : ℕ} {ts : List Token} (level : ℕ) {v : Operand} {h : ℕ} {rest : List Token} → 0 < level
    → Goes 200 (Binary no_in (level - 1)) b (grammar (Binary no_in (level - 1))) ts (Ok record { value = v; height = h; rest = rest })
    → Goes 200 (Binary no_in (tighter level)) b (grammar (Binary no_in (tighter level))) ts (Ok record { value = v; height = h; rest = rest })
tighter_reads {no_in} {b} {ts} level {v} {h} {rest} p g =
    subst (λ x. Goes 200 (Binary no_in x) b (grammar (Binary no_in x)) ts (Ok record { value = v; height = h; rest = rest })) (below level p) g

pub tighter_fails : {no_in : Bool} {b : ℕ} {ts : List Token} (level : ℕ) {stop : Stop} → 0 < level
    → Goes 200 (Binary no_in (level - 1)) b (grammar (Binary no_in (level - 1))) ts (Err stop)
    → Goes 200 (Binary no_in (tighter level)) b (grammar (Binary no_in (tighter level))) ts (Err stop)
tighter_fails {no_in} {b} {ts} level {stop} p g = subst (λ x. Goes 200 (Binary no_in x) b (grammar (Binary no_in x)) ts (Err stop)) (below level p) g

-- what is read after one left operand is read after an equal one
module _ {no_in : Bool} {level b tall high : ℕ} {made v : Operand} {ts : List Token} (e : made ≡ v) (q : tall ≡ high) where
  pub more_reads : {w : Operand} {h : ℕ} {rest : List Token} → Goes 200 (More no_in level made tall) b (grammar (More no_in level made tall)) ts (Ok record { value = w; height = h; rest = rest })
      → Goes 200 (More no_in level v high) b (grammar (More no_in level v high)) ts (Ok record { value = w; height = h; rest = rest })
  more_reads {w} {h} {rest} g = subst (λ y. Goes 200 (More no_in level v y) b (grammar (More no_in level v y)) ts (Ok record { value = w; height = h; rest = rest })) q
      (subst (λ x. Goes 200 (More no_in level x tall) b (grammar (More no_in level x tall)) ts (Ok record { value = w; height = h; rest = rest })) e g)

  pub more_stops : {stop : Stop} → Goes 200 (More no_in level made tall) b (grammar (More no_in level made tall)) ts (Err stop)
      → Goes 200 (More no_in level v high) b (grammar (More no_in level v high)) ts (Err stop)
  more_stops {stop} g = subst (λ y. Goes 200 (More no_in level v y) b (grammar (More no_in level v y)) ts (Err stop)) q
      (subst (λ x. Goes 200 (More no_in level x tall) b (grammar (More no_in level x tall)) ts (Err stop)) e g)
