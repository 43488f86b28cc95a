-- The turns of the loops over lists.
use Rattle.std.proofs.Common.{◌≡◌, ℕ, ◌+◌, ◌<◌, ◌≤◌, max, Bool, true, false, Option, Some, None, List, [], ◌∷◌, ◌++◌, length, Ok, Err, refl, ap, sym, ◌∙◌, subst, arith}
use Rattle.js_lexer.specs.declared.Token.{Token}
use Rattle.js_lexer.specs.declared.Mark.TheVariants as m
use Rattle.script_grammar.specs.declared.stop.Stop.{Stop}
use Rattle.script_grammar.specs.Words.{Units, is, is_end}
use Rattle.script_grammar.specs.Rules.{Symbol, Value, Rule, Done, Outcome}
use Rattle.js_tree.specs.declared.Expr as expr
use Rattle.js_tree.specs.declared.Field as field
use Rattle.script_grammar.specs.declared.classes.Operand.{Operand}
use Rattle.script_grammar.specs.Rules.Symbol.{Names, Assign, Arguments, Items, Fields}
use Rattle.script_grammar.specs.Rules.Rule.{give}
use Rattle.script_grammar.specs.Grammar.{grammar}
use Rattle.script_grammar.specs.Goes.{Goes}
use Rattle.script_grammar.specs.Meets.{Has, Continues, TookName, TookItem, after_argument, after_element, after_field}
use Rattle.script_grammar.proofs.Along.{row, gives, peeks, peeks_end, eats, passes_level, fails_level, yes, no}
use Rattle.script_grammar.proofs.Generic.{shorter}
use Rattle.script_grammar.proofs.Tokens.{live_mark}

pub name_shorter : {ts : List Token} {units : Units} {rest : List Token} → TookName ts units rest → length rest ≤ length ts
name_shorter {ts} {units} {rest} took = shorter (row (took.row (Names []) 0 0 (λ x. give (x ∷ [])) _ (gives {v = units ∷ []} {k = 0} refl refl)))

module _ {b : ℕ} {so_far : List Units} {one : Units} {ts all rest after : List Token} {token : Token}
    (turn : Continues (List Units) b (Names so_far) (Names []) (λ v. v) (λ v. v) 0 ts all) (took : TookName ts one rest) (next : rest ≡ token ∷ after) where
  pub again_names : (is m.Comma token ≡ true) → (more : List Units) → more ≡ so_far ++ one ∷ [] → Continues (List Units) b (Names more) (Names []) (λ v. v) (λ v. v) 0 after all
  again_names comma more e = subst (λ x. Continues (List Units) b (Names x) (Names []) (λ v. v) (λ v. v) 0 after all) (sym e) (record {
    reads = λ v h left g. turn.reads v h left (row (took.row _ b 0 _ _ (peeks next (yes _ comma (eats (live_mark m.Comma token comma) next (passes_level g (gives refl (omega arith))))))));
    stops = λ e g. turn.stops e (row (took.row _ b 0 _ _ (peeks next (yes _ comma (eats (live_mark m.Comma token comma) next (fails_level g))))));
  })

  pub last_names : (is m.Comma token ≡ false) → (more : List Units) → more ≡ so_far ++ one ∷ [] → Goes 200 (Names []) b (grammar (Names [])) all (Ok record { value = more; height = 0; rest = rest })
  last_names comma more e = turn.reads more 0 rest (row (took.row _ b 0 _ _ (peeks next (no _ comma (gives e refl)))))

  pub smaller_names : length after < length ts
  smaller_names = omega (arith, ap length next, name_shorter took)

-- ---- lists in parentheses, brackets and braces

abbrev pub SoArguments : ℕ → List expr.Expr → ℕ → List Token → List Token → Type 0
SoArguments b so_far tall ts all = Continues (List expr.Expr) b (Arguments so_far) (Arguments []) (λ v. v) (λ v. v) tall ts all

module _ {b tall height : ℕ} {so_far : List expr.Expr} {one : expr.Expr} {ts all rest : List Token} {follows : Bool}
    (turn : SoArguments b so_far tall ts all) (took : TookItem Arguments after_argument b ts one height follows rest) where
  pub again_arguments : follows ≡ true → (more : List expr.Expr) (high : ℕ) → more ≡ so_far ++ one ∷ [] → high ≡ max tall height → SoArguments b more high rest all
  again_arguments f more high e q = subst (λ x. SoArguments b x high rest all) (sym e) (subst (λ x. SoArguments b (so_far ++ one ∷ []) x rest all) (sym q) (record {
    reads = λ v h left g. subst (λ x. Goes 200 (Arguments []) b (grammar (Arguments [])) all (Ok record { value = v; height = x; rest = left })) (omega arith)
        (turn.reads v (max height h) left (row (took.row so_far 0 _ (yes _ f (passes_level g (gives refl (omega arith)))))));
    stops = λ e g. turn.stops e (row (took.row so_far 0 _ (yes _ f (fails_level g))));
  }))

  pub last_arguments : follows ≡ false → (more : List expr.Expr) (high : ℕ) → more ≡ so_far ++ one ∷ [] → high ≡ max tall height
      → Goes 200 (Arguments []) b (grammar (Arguments [])) all (Ok record { value = more; height = high; rest = rest })
  last_arguments f more high e q = subst (λ x. Goes 200 (Arguments []) b (grammar (Arguments [])) all (Ok record { value = more; height = x; rest = rest })) (sym q)
      (turn.reads more height rest (row (took.row so_far 0 _ (no _ f (gives e (omega arith))))))

abbrev pub SoItems : ℕ → List expr.Expr → ℕ → List Token → List Token → Type 0
SoItems b so_far tall ts all = Continues (List expr.Expr) b (Items so_far) (Items []) (λ v. v) (λ v. v) tall ts all

module _ {b tall height : ℕ} {so_far : List expr.Expr} {one : expr.Expr} {ts all rest : List Token} {follows : Bool}
    (turn : SoItems b so_far tall ts all) (took : TookItem Items after_element b ts one height follows rest) where
  pub again_items : follows ≡ true → (more : List expr.Expr) (high : ℕ) → more ≡ so_far ++ one ∷ [] → high ≡ max tall height → SoItems b more high rest all
  again_items f more high e q = subst (λ x. SoItems b x high rest all) (sym e) (subst (λ x. SoItems b (so_far ++ one ∷ []) x rest all) (sym q) (record {
    reads = λ v h left g. subst (λ x. Goes 200 (Items []) b (grammar (Items [])) all (Ok record { value = v; height = x; rest = left })) (omega arith)
        (turn.reads v (max height h) left (row (took.row so_far 0 _ (yes _ f (passes_level g (gives refl (omega arith)))))));
    stops = λ e g. turn.stops e (row (took.row so_far 0 _ (yes _ f (fails_level g))));
  }))

  pub last_items : follows ≡ false → (more : List expr.Expr) (high : ℕ) → more ≡ so_far ++ one ∷ [] → high ≡ max tall height
      → Goes 200 (Items []) b (grammar (Items [])) all (Ok record { value = more; height = high; rest = rest })
  last_items f more high e q = subst (λ x. Goes 200 (Items []) b (grammar (Items [])) all (Ok record { value = more; height = x; rest = rest })) (sym q)
      (turn.reads more height rest (row (took.row so_far 0 _ (no _ f (gives e (omega arith))))))

abbrev pub SoFields : ℕ → List field.Field → ℕ → List Token → List Token → Type 0
SoFields b so_far tall ts all = Continues (List field.Field) b (Fields so_far) (Fields []) (λ v. v) (λ v. v) tall ts all

module _ {b tall height : ℕ} {so_far : List field.Field} {one : field.Field} {ts all rest : List Token} {follows : Bool}
    (turn : SoFields b so_far tall ts all) (took : TookItem Fields after_field b ts one height follows rest) where
  pub again_fields : follows ≡ true → (more : List field.Field) (high : ℕ) → more ≡ so_far ++ one ∷ [] → high ≡ max tall height → SoFields b more high rest all
  again_fields f more high e q = subst (λ x. SoFields b x high rest all) (sym e) (subst (λ x. SoFields b (so_far ++ one ∷ []) x rest all) (sym q) (record {
    reads = λ v h left g. subst (λ x. Goes 200 (Fields []) b (grammar (Fields [])) all (Ok record { value = v; height = x; rest = left })) (omega arith)
        (turn.reads v (max height h) left (row (took.row so_far 0 _ (yes _ f (passes_level g (gives refl (omega arith)))))));
    stops = λ e g. turn.stops e (row (took.row so_far 0 _ (yes _ f (fails_level g))));
  }))

  pub last_fields : follows ≡ false → (more : List field.Field) (high : ℕ) → more ≡ so_far ++ one ∷ [] → high ≡ max tall height
      → Goes 200 (Fields []) b (grammar (Fields [])) all (Ok record { value = more; height = high; rest = rest })
  last_fields f more high e q = subst (λ x. Goes 200 (Fields []) b (grammar (Fields [])) all (Ok record { value = more; height = x; rest = rest })) (sym q)
      (turn.reads more height rest (row (took.row so_far 0 _ (no _ f (gives e (omega arith))))))
