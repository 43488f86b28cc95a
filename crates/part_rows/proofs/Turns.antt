-- The turns of the loops over statements, declarations, names and clauses.
use Rattle.std.proofs.Common.{◌≡◌, ℕ, ◌<◌, max, Bool, true, false, List, [], ◌∷◌, ◌++◌, length, Ok, refl, ap, sym, subst, arith}
use Rattle.js_lexer.specs.declared.Token.{Token}
use Rattle.js_lexer.specs.declared.Mark.TheVariants as m
use Rattle.js_lexer.specs.declared.Reserved.TheVariants as w
use Rattle.js_tree.specs.declared.Stmt.{Stmt}
use Rattle.js_tree.specs.declared.Script as script
use Rattle.js_tree.specs.declared.Declaration as declaration
use Rattle.js_tree.specs.declared.Variable as variable
use Rattle.script_grammar.specs.Words.{is, is_word, stops}
use Rattle.script_grammar.specs.Rules.{Context, Symbol, Value, Rule}
use Rattle.script_grammar.specs.Rules.Symbol.{Elements, Declaration, Statements, Statement, Decls}
use Rattle.script_grammar.specs.Grammar.{grammar, outer, go_on, as_read}
use Rattle.script_grammar.specs.Rules.Rule.{give}
use Rattle.script_grammar.specs.Goes.{Goes}
use Rattle.script_grammar.specs.Meets.{Continues}
use Rattle.part_rows.specs.Lines.{TookVariable}
use Rattle.script_grammar.proofs.Along.{row, gives, peeks, eats, passes_level, fails_level, yes, no}
use Rattle.script_grammar.proofs.Tokens.{live_mark}

-- one turn after the others
pub chain : {A : Type 0} {b : ℕ} {k n m : Symbol} {of_k : A → Value k} {of_n : A → Value n} {of_m : A → Value m} {tall height more : ℕ} {us ts all : List Token}
    → Continues A b n m of_n of_m tall ts all → Continues A b k n of_k of_n height us ts → more ≡ max tall height → Continues A b k m of_k of_m more us all
chain {b = b} {m = m} {of_m = of_m} {tall = tall} {height = height} {all = all} c d e = record {
  reads = λ v h rest g. subst (λ x. Goes 200 m b (grammar m) all (Ok record { value = of_m v; height = x; rest = rest })) (omega arith) (c.reads v (max height h) rest (d.reads v h rest g));
  stops = λ x g. c.stops x (d.stops x g);
}

abbrev pub Same : (A : Type 0) (b : ℕ) (n m : Symbol) (of_n : A → Value n) (of_m : A → Value m) → ℕ → List Token → List Token → Type 0
Same A b n m of_n of_m height ts all = Continues A b n m of_n of_m height ts all

module _ {c : Context} {b height : ℕ} {so_far : List Stmt} {one : Stmt} {ts rest us : List Token} {t : Token} (next : ts ≡ t ∷ us) (going : stops t ≡ false)
    (read : Goes 200 (Statement c) b (grammar (Statement c)) ts (Ok record { value = one; height = height; rest = rest })) where
  pub turn_statement : Continues (List Stmt) b (Statements c (so_far ++ one ∷ [])) (Statements c so_far) (λ v. v) (λ v. v) height rest ts
  turn_statement = record {
    reads = λ v h left g. row (peeks next (no _ going (passes_level read (passes_level g (gives refl (omega arith))))));
    stops = λ e g. row (peeks next (no _ going (passes_level read (fails_level g))));
  }

module _ {f : Bool} {b height : ℕ} {functions : List declaration.Declaration} {statements : List Stmt} {ts rest us : List Token} {t : Token} (next : ts ≡ t ∷ us) (going : stops t ≡ false) where
  pub turn_function : {one : declaration.Declaration} → is_word w.Function t ≡ true → Goes 200 Declaration b (grammar Declaration) ts (Ok record { value = one; height = height; rest = rest })
      → Continues script.Script b (Elements f (functions ++ one ∷ []) statements) (Elements f functions statements) (λ v. v) (λ v. v) height rest ts
  turn_function q read = record {
    reads = λ v h left g. row (peeks next (no _ going (yes _ q (passes_level read (passes_level g (gives refl (omega arith)))))));
    stops = λ e g. row (peeks next (no _ going (yes _ q (passes_level read (fails_level g)))));
  }

  pub turn_element : {one : Stmt} → is_word w.Function t ≡ false → Goes 200 (Statement (outer f)) b (grammar (Statement (outer f))) ts (Ok record { value = one; height = height; rest = rest })
      → Continues script.Script b (Elements f functions (statements ++ one ∷ [])) (Elements f functions statements) (λ v. v) (λ v. v) height rest ts
  turn_element q read = record {
    reads = λ v h left g. row (peeks next (no _ going (no _ q (passes_level read (passes_level g (gives refl (omega arith)))))));
    stops = λ e g. row (peeks next (no _ going (no _ q (passes_level read (fails_level g)))));
  }

-- what stands after a variable
abbrev pub next_variable : (no_in : Bool) (so_far : List variable.Variable) → variable.Variable → Rule (Decls no_in so_far)
next_variable no_in so_far one = go_on (as_read (Decls no_in (so_far ++ one ∷ [])) (λ v. v)) (give (so_far ++ one ∷ []))

module _ {no_in : Bool} {b height : ℕ} {so_far : List variable.Variable} {one : variable.Variable} {ts rest after : List Token} {t : Token}
    (took : TookVariable no_in b ts one height rest) (next : rest ≡ t ∷ after) where
  pub turn_variable : is m.Comma t ≡ true → Continues (List variable.Variable) b (Decls no_in (so_far ++ one ∷ [])) (Decls no_in so_far) (λ v. v) (λ v. v) height after ts
  turn_variable q = record {
    reads = λ v h left g. row (took.row _ 0 (next_variable no_in so_far) _ (peeks next (yes _ q (eats (live_mark m.Comma t q) next (passes_level g (gives refl (omega arith)))))));
    stops = λ e g. row (took.row _ 0 (next_variable no_in so_far) _ (peeks next (yes _ q (eats (live_mark m.Comma t q) next (fails_level g)))));
  }

  pub last_variable : is m.Comma t ≡ false → Goes 200 (Decls no_in so_far) b (grammar (Decls no_in so_far)) ts (Ok record { value = so_far ++ one ∷ []; height = height; rest = rest })
  last_variable q = row (took.row _ 0 (next_variable no_in so_far) _ (peeks next (no _ q (gives refl (omega arith)))))

-- a list read to its end
pub at_last : {A : Type 0} {b : ℕ} {n m : Symbol} {of_n : A → Value n} {of_m : A → Value m} {tall k : ℕ} {v : A} {ts rest all : List Token} → Continues A b n m of_n of_m tall ts all
    → k ≡ tall → Goes 200 n b (grammar n) ts (Ok record { value = of_n v; height = 0; rest = rest }) → Goes 200 m b (grammar m) all (Ok record { value = of_m v; height = k; rest = rest })
at_last {b = b} {m = m} {of_m = of_m} {tall = tall} {k = k} {v = v} {rest = rest} {all = all} c e g = subst (λ x. Goes 200 m b (grammar m) all (Ok record { value = of_m v; height = x; rest = rest })) (omega arith) (c.reads v 0 rest g)

-- ---- a turn after the others

module _ {c : Context} {b tall height : ℕ} {so_far first : List Stmt} {one : Stmt} {ts all rest us : List Token} {t : Token}
    (turns : Continues (List Stmt) b (Statements c so_far) (Statements c first) (λ v. v) (λ v. v) tall ts all) where
  pub again_statements : ts ≡ t ∷ us → stops t ≡ false → Goes 200 (Statement c) b (grammar (Statement c)) ts (Ok record { value = one; height = height; rest = rest })
      → (more : List Stmt) (high : ℕ) → more ≡ so_far ++ one ∷ [] → high ≡ max tall height → Continues (List Stmt) b (Statements c more) (Statements c first) (λ v. v) (λ v. v) high rest all
  again_statements next q read more high e w = subst (λ x. Continues (List Stmt) b (Statements c x) (Statements c first) (λ v. v) (λ v. v) high rest all) (sym e) (chain turns (turn_statement next q read) w)

module _ {no_in : Bool} {b tall height : ℕ} {so_far first : List variable.Variable} {one : variable.Variable} {ts all rest after : List Token} {t : Token}
    (turns : Continues (List variable.Variable) b (Decls no_in so_far) (Decls no_in first) (λ v. v) (λ v. v) tall ts all) (took : TookVariable no_in b ts one height rest) (next : rest ≡ t ∷ after) where
  pub again_variables : is m.Comma t ≡ true → (more : List variable.Variable) (high : ℕ) → more ≡ so_far ++ one ∷ [] → high ≡ max tall height
      → Continues (List variable.Variable) b (Decls no_in more) (Decls no_in first) (λ v. v) (λ v. v) high after all
  again_variables q more high e w = subst (λ x. Continues (List variable.Variable) b (Decls no_in x) (Decls no_in first) (λ v. v) (λ v. v) high after all) (sym e) (chain turns (turn_variable took next q) w)

  pub last_variables : is m.Comma t ≡ false → (more : List variable.Variable) (high : ℕ) → more ≡ so_far ++ one ∷ [] → high ≡ max tall height
      → Goes 200 (Decls no_in first) b (grammar (Decls no_in first)) all (Ok record { value = more; height = high; rest = rest })
  last_variables q more high e w = subst (λ x. Goes 200 (Decls no_in first) b (grammar (Decls no_in first)) all (Ok record { value = x; height = high; rest = rest })) (sym e)
      (subst (λ x. Goes 200 (Decls no_in first) b (grammar (Decls no_in first)) all (Ok record { value = so_far ++ one ∷ []; height = x; rest = rest })) (sym w) (turns.reads (so_far ++ one ∷ []) height rest (last_variable took next q)))

  pub smaller_variables : length after < length ts
  smaller_variables = omega (arith, ap length next, took.shorter)
