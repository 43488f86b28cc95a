-- Steps along a row: what the parser has to show of its answer, a step for each token and each member.
use Rattle.std.proofs.Common.{◌≡◌, ◌≢◌, ◌⊎◌, inl, inr, ℕ, zero, ◌+◌, ◌<◌, ◌≤◌, max, Bool, true, false, Option, Some, None, List, [], ◌∷◌, Result, Ok, Err, refl, ap, sym, ◌∙◌, subst, arith, add-zero, zero-add, MatchResult}
use Rattle.std.specs.Borrow.{Bor}
use Rattle.std.specs.Result.{IsErrAnd}
use Rattle.std.proofs.lemmas.Result.{err_from_is_err_and}
use Rattle.js_lexer.specs.declared.Mark.{Mark}
use Rattle.js_lexer.specs.declared.Reserved.{Reserved}
use Rattle.js_lexer.specs.declared.Token.{Token}
use Rattle.script_grammar.specs.declared.Form.{Form}
use Rattle.script_grammar.specs.declared.stop.Stop.{Stop}
use Rattle.script_grammar.specs.declared.stop.Stop.TheVariants.{Nesting, Ends, Memory}
use Rattle.script_grammar.specs.declared.classes.Operand.{Operand}
use Rattle.script_grammar.specs.Words.{Units, is, is_word, is_end, fault, form_at}
use Rattle.script_grammar.specs.Rules.{Symbol, Value, Rule, Done, Outcome}
use Rattle.script_grammar.specs.Rules.Rule.{give, refuse, peek, eat, node, stand, read}
use Rattle.script_grammar.specs.Grammar.{grammar, either, expect, expect_word}
use Rattle.script_grammar.specs.Goes.{Goes, raise}
use Rattle.script_grammar.specs.Goes.Goes.{given, refused, peeked, eaten, stands, too_deep, begins, begins_deep, passed, failed, ends_refuse, ends_peek, ends_eat, ends_node}
use Rattle.script_grammar.specs.Meets.{Has, Follows, Meets, Took, Misses, TookWord, MissesWord}
use Rattle.script_grammar.specs.Meets.Has.{has}
use Rattle.script_grammar.proofs.Tokens.{live_mark, live_word}

raise_raise : {n : Symbol} (h k : ℕ) (o : Outcome n) → raise h (raise k o) ≡ raise (max h k) o
raise_raise h k (Ok d) = ap (λ x. Ok record { value = d.value; height = x; rest = d.rest }) (omega arith)
raise_raise h k (Err e) = refl

raise_zero : {n : Symbol} (o : Outcome n) → raise 0 o ≡ o
raise_zero (Ok d) = ap (λ x. Ok record { value = d.value; height = x; rest = d.rest }) (omega arith)
raise_zero (Err e) = refl

pub row : {n : Symbol} {b : ℕ} {r : Rule n} {ts : List Token} {o : Outcome n} → Has n b r ts 0 o → Goes 200 n b r ts o
row {n} {b} {r} {ts} (has {p = p} g e) = subst (λ x. Goes 200 n b r ts x) (sym (e ∙ raise_zero p)) g

module _ {n : Symbol} {b : ℕ} where
  -- the other way round
  pub whole : {r : Rule n} {ts : List Token} {h : ℕ} {e : Stop} → Goes 200 n b r ts (Err e) → Has n b r ts h (Err e)
  whole g = has g refl

  pub gives : {v w : Value n} {ts : List Token} {h k : ℕ} → w ≡ v → k ≡ h → Has n b (give v) ts h (Ok record { value = w; height = k; rest = ts })
  gives {v} {w} {ts} {h} {k} e q = has given (ap (λ x. Ok record { value = x; height = k; rest = ts }) e ∙ ap (λ x. Ok record { value = v; height = x; rest = ts }) (q ∙ omega arith))

  pub refuses : {form : Option Form} {t : Token} {ts rest : List Token} {h : ℕ} {e : Stop} → ts ≡ t ∷ rest → e ≡ fault (form_at form t) t.start → Has n b (refuse form) ts h (Err e)
  refuses {form} {t} {ts} {rest} {h} {e} q w = subst (λ x. Has n b (refuse form) x h (Err e)) (sym q) (has refused (ap (λ x. Err x) w))

  pub peeks : {f : Token → Rule n} {t : Token} {ts rest : List Token} {h : ℕ} {o : Outcome n} → ts ≡ t ∷ rest → Has n b (f t) ts h o → Has n b (peek f) ts h o
  peeks {f} {t} {ts} {rest} {h} {o} e w = subst (λ x. Has n b (peek f) x h o) (sym e) (go (subst (λ x. Has n b (f t) x h o) e w))
    where
      go : Has n b (f t) (t ∷ rest) h o → Has n b (peek f) (t ∷ rest) h o
      go (has g q) = has (peeked g) q

  pub peeks_end : {f : Token → Rule n} {ts : List Token} {h : ℕ} {e : Stop} → ts ≡ [] → e ≡ Ends → Has n b (peek f) ts h (Err e)
  peeks_end {f} {ts} {h} {e} q w = subst (λ x. Has n b (peek f) x h (Err e)) (sym q) (subst (λ y. Has n b (peek f) [] h (Err y)) (sym w) (has ends_peek refl))

  -- no row takes the end
  pub eats : {r : Rule n} {t : Token} {ts rest : List Token} {h : ℕ} {o : Outcome n} → is_end t ≡ false → ts ≡ t ∷ rest → Has n b r rest h o → Has n b (eat r) ts h o
  eats {r} {t} {ts} {rest} {h} {o} live e (has g q) = subst (λ x. Has n b (eat r) x h o) (sym e) (has (eaten live g) q)

  pub rises : {k : ℕ} {r : Rule n} {t : Token} {ts rest : List Token} {h : ℕ} {o : Outcome n} → is_end t ≡ false → ts ≡ t ∷ rest → b + k ≤ 200 → Has n b r rest (max h k) o → Has n b (node k r) ts h o
  rises {k} {r} {t} {ts} {rest} {h} {o} live e fits (has {p = p} g q) = subst (λ x. Has n b (node k r) x h o) (sym e) (has (stands live fits g) (q ∙ sym (raise_raise h k p)))

  pub sinks : {k : ℕ} {r : Rule n} {t : Token} {ts rest : List Token} {h : ℕ} → is_end t ≡ false → ts ≡ t ∷ rest → 200 < b + k → Has n b (node k r) ts h (Err Nesting)
  sinks {k} {r} {t} {ts} {rest} {h} live e deep = subst (λ x. Has n b (node k r) x h (Err Nesting)) (sym e) (has (too_deep live deep) refl)

  -- a node that stands with a token that the next member begins with
  pub begins_with : {k : ℕ} {r : Rule n} {t : Token} {ts rest : List Token} {h : ℕ} {o : Outcome n} → ts ≡ t ∷ rest → b + k ≤ 200 → Has n b r ts (max h k) o → Has n b (stand k r) ts h o
  begins_with {k} {r} {t} {ts} {rest} {h} {o} e fits w = subst (λ x. Has n b (stand k r) x h o) (sym e) (go (subst (λ x. Has n b r x (max h k) o) e w))
    where
      go : Has n b r (t ∷ rest) (max h k) o → Has n b (stand k r) (t ∷ rest) h o
      go (has {p = p} g q) = has (begins fits g) (q ∙ sym (raise_raise h k p))

  pub begins_too_deep : {k : ℕ} {r : Rule n} {t : Token} {ts rest : List Token} {h : ℕ} → ts ≡ t ∷ rest → 200 < b + k → (higher : ℕ) → Goes higher n b r (t ∷ []) (Err Ends) → Has n b (stand k r) ts h (Err Nesting)
  begins_too_deep {k} {r} {t} {ts} {rest} {h} e deep higher g = subst (λ x. Has n b (stand k r) x h (Err Nesting)) (sym e) (has (begins_deep deep higher g) refl)

  pub passes : {k : ℕ} {m : Symbol} {f : Value m → ℕ → Rule n} {ts : List Token} {d : Done m} {h : ℕ} {o : Outcome n}
      → Goes 200 m (b + k) (grammar m) ts (Ok d) → Has n b (f d.value d.height) d.rest (max h (k + d.height)) o → Has n b (read k m f) ts h o
  passes {k} {d = d} {h = h} g (has {p = p} w q) = has (passed g w) (q ∙ sym (raise_raise h (k + d.height) p))

  pub fails : {k : ℕ} {m : Symbol} {f : Value m → ℕ → Rule n} {ts : List Token} {h : ℕ} {e : Stop} → Goes 200 m (b + k) (grammar m) ts (Err e) → Has n b (read k m f) ts h (Err e)
  fails g = has (failed g) refl

  -- the next member stands no deeper
  pub passes_level : {m : Symbol} {f : Value m → ℕ → Rule n} {ts : List Token} {d : Done m} {h : ℕ} {o : Outcome n}
      → Goes 200 m b (grammar m) ts (Ok d) → Has n b (f d.value d.height) d.rest (max h d.height) o → Has n b (read 0 m f) ts h o
  passes_level {m} {f} {ts} {d} {h} {o} g w =
      passes (subst (λ x. Goes 200 m x (grammar m) ts (Ok d)) (sym (add-zero b)) g) (subst (λ x. Has n b (f d.value d.height) d.rest (max h x) o) (sym (zero-add d.height)) w)

  pub fails_level : {m : Symbol} {f : Value m → ℕ → Rule n} {ts : List Token} {h : ℕ} {e : Stop} → Goes 200 m b (grammar m) ts (Err e) → Has n b (read 0 m f) ts h (Err e)
  fails_level {m} {f} {ts} {h} {e} g = fails (subst (λ x. Goes 200 m x (grammar m) ts (Err e)) (sym (add-zero b)) g)

  -- a row that was chosen by what a token is
  pub by : {A : Type 0} (rows : A → Rule n) {a x : A} {ts : List Token} {h : ℕ} {o : Outcome n} → a ≡ x → Has n b (rows a) ts h o → Has n b (rows x) ts h o
  by rows {ts = ts} {h = h} {o = o} e w = subst (λ y. Has n b (rows y) ts h o) e w

  pub yes : {test : Bool} {r : Rule n} (s : Rule n) {ts : List Token} {h : ℕ} {o : Outcome n} → test ≡ true → Has n b r ts h o → Has n b (either test r s) ts h o
  yes {r = r} s e w = by (λ x. either x r s) (sym e) w

  pub no : {test : Bool} (r : Rule n) {s : Rule n} {ts : List Token} {h : ℕ} {o : Outcome n} → test ≡ false → Has n b s ts h o → Has n b (either test r s) ts h o
  no r {s = s} e w = by (λ x. either x r s) (sym e) w

  -- what was read before is as high in another way
  pub as_high : {r : Rule n} {ts : List Token} {h k : ℕ} {o : Outcome n} → h ≡ k → Has n b r ts h o → Has n b r ts k o
  as_high {r} {ts} {h} {k} {o} e w = subst (λ x. Has n b r ts x o) e w

pub ruleset steps = (row, gives, peeks, peeks_end, refuses, eats, rises, sinks, passes, fails)

-- what an answer of a callee gives at the exit of a `?` that hands it on
pub handed : (n : Symbol) (b : ℕ) (rule : Rule n) (ts : List Token) (r : Result (Value n × ℕ × Bor (List Token)) Stop) {e : Stop}
    → IsErrAnd r (λ y. y ≡ e) → (e ≢ Memory → Has n b rule ts 0 (Err e)) → Follows n b rule ts r
handed n b rule ts r {e} is w = let p = err_from_is_err_and r is in
    subst (λ x. Follows n b rule ts x) (sym (p.1 ∙ ap (λ y. Err y) p.2)) (λ not. row (w not))

-- the same, of a relation that was shown another way
pub handed_by : (n : Symbol) (b : ℕ) (rule : Rule n) (ts : List Token) (r : Result (Value n × ℕ × Bor (List Token)) Stop) {e : Stop}
    → IsErrAnd r (λ y. y ≡ e) → (e ≢ Memory → Goes 200 n b rule ts (Err e)) → Follows n b rule ts r
handed_by n b rule ts r {e} is w = let p = err_from_is_err_and r is in subst (λ x. Follows n b rule ts x) (sym (p.1 ∙ ap (λ y. Err y) p.2)) w

-- the same, at the exit of a helper
pub handed_on : {A : Type 0} (P : A → Type 0) (Q : Stop → Type 0) (r : Result A Stop) {e : Stop} → IsErrAnd r (λ y. y ≡ e) → Q e → MatchResult r P Q
handed_on P Q r {e} is q = let p = err_from_is_err_and r is in subst (λ x. MatchResult x P Q) (sym (p.1 ∙ ap (λ y. Err y) p.2)) q

-- a punctuator that has to come next
pub expects : {n : Symbol} {b : ℕ} {mark : Mark} {r : Rule n} {ts rest : List Token} {h : ℕ} {o : Outcome n} → Took mark ts rest → Has n b r rest h o → Has n b (expect mark r) ts h o
expects {mark = mark} t w = peeks t.whole (yes (refuse None) t.right (eats (live_mark mark t.token t.right) t.whole w))

pub misses : {n : Symbol} {b : ℕ} (mark : Mark) (r : Rule n) {ts : List Token} {h : ℕ} {e : Stop} → Misses mark ts e → Has n b (expect mark r) ts h (Err e)
misses {n} {b} mark r {ts} {h} {e} q = elim q [
  | inl x ↦ peeks_end x.0 x.1
  | inr x ↦ peeks x.2 (no (eat r) x.3 (refuses x.2 x.4))
]

-- a word that has to come next
pub expects_word : {n : Symbol} {b : ℕ} {word : Reserved} {r : Rule n} {ts rest : List Token} {h : ℕ} {o : Outcome n} → TookWord word ts rest → Has n b r rest h o → Has n b (expect_word word r) ts h o
expects_word {word = word} t w = peeks t.whole (yes (refuse None) t.right (eats (live_word word t.token t.right) t.whole w))

pub misses_word : {n : Symbol} {b : ℕ} (word : Reserved) (r : Rule n) {ts : List Token} {h : ℕ} {e : Stop} → MissesWord word ts e → Has n b (expect_word word r) ts h (Err e)
misses_word {n} {b} word r {ts} {h} {e} q = elim q [
  | inl x ↦ peeks_end x.0 x.1
  | inr x ↦ peeks x.2 (no (eat r) x.3 (refuses x.2 x.4))
]

-- the tokens begin with this one
pub at : {n : Symbol} {b : ℕ} {r : Rule n} {ts rest : List Token} {t : Token} {h : ℕ} {o : Outcome n} → ts ≡ t ∷ rest → Has n b r (t ∷ rest) h o → Has n b r ts h o
at {n} {b} {r} {h = h} {o = o} e w = subst (λ x. Has n b r x h o) (sym e) w

-- what one rule answers, another does
pub onward : {n : Symbol} {b : ℕ} {r s : Rule n} {ts us : List Token} (result : Result (Value n × ℕ × Bor (List Token)) Stop) → ((o : Outcome n) → Has n b r ts 0 o → Has n b s us 0 o) → Follows n b r ts result → Follows n b s us result
onward (Ok x) f g = row (f _ (has g (sym (raise_zero _))))
onward (Err e) f g = λ not. row (f _ (has (g not) refl))

-- the row by which a row goes on that looks at this token
pub unpeeks : {n : Symbol} {b : ℕ} {f : Token → Rule n} {t : Token} {ts rest : List Token} {h : ℕ} {o : Outcome n} → ts ≡ t ∷ rest → Has n b (peek f) ts h o → Has n b (f t) ts h o
unpeeks {n} {b} {f} {t} {ts} {rest} {h} {o} e w = subst (λ x. Has n b (f t) x h o) (sym e) (go (subst (λ x. Has n b (peek f) x h o) e w))
  where
    go : Has n b (peek f) (t ∷ rest) h o → Has n b (f t) (t ∷ rest) h o
    go (has (peeked g) q) = has g q
