-- From what the row of a script does to what the answers mean.
use Rattle.std.proofs.Common.{◌≡◌, ◌≢◌, ℕ, ◌+◌, ◌<◌, ◌≤◌, max, List, ◌++◌, Ok, Err, refl, ap, sym, ◌∙◌, subst, arith, inl, inr}
use Rattle.std.proofs.lemmas.Bool.{cases_lt}
use Rattle.script_grammar.specs.declared.Form.{Form}
use Rattle.js_lexer.specs.declared.Token.{Token}
use Rattle.script_grammar.specs.Words.{is_end, fault}
use Rattle.std.proofs.Common.{Option, Some, None}
use Rattle.script_grammar.specs.declared.stop.Stop.{Stop}
use Rattle.script_grammar.specs.declared.stop.Stop.TheVariants.{Syntax, LeftOut, Nesting, Ends, Memory}
use Rattle.js_tree.specs.declared.Script as script
use Rattle.script_grammar.specs.Rules.{Symbol, Done, Outcome}
use Rattle.script_grammar.specs.Rules.Symbol.{Script}
use Rattle.script_grammar.specs.Grammar.{grammar, either}
use Rattle.script_grammar.specs.Rules.Rule.{give, refuse, peek}
use Rattle.script_grammar.specs.Goes.{Goes, raise, Reads, Deep}
use Rattle.script_grammar.specs.Goes.Goes.{passed, failed, ends_peek}
use Rattle.script_grammar.specs.Claims.{Shallow, FirstWrong, Answers, HasEnd}
use Rattle.script_grammar.proofs.Generic.{one_outcome, grows, extend, cut, wrong, Wrong, sunk, never_ends}
use Rattle.script_grammar.proofs.Generic.Cut.{within, beyond}
use Rattle.script_grammar.proofs.Table.{begun, script_end}

abbrev Top : ℕ → List Token → Outcome Script → Type 0
Top L ts o = Goes L Script 0 (grammar Script) ts o

ends_not_nesting : {n : Symbol} → ◌≡◌ {A = Outcome n} (Err Ends) (Err Nesting) → ⊥
ends_not_nesting e = cc

fault_not_ends : {n : Symbol} (form : Option Form) (place : ℕ) → ◌≡◌ {A = Outcome n} (Err (fault form place)) (Err Ends) → ⊥
fault_not_ends (Some form) place e = cc
fault_not_ends None place e = cc

fault_not_nesting : {n : Symbol} (form : Option Form) (place : ℕ) → ◌≡◌ {A = Outcome n} (Err (fault form place)) (Err Nesting) → ⊥
fault_not_nesting (Some form) place e = cc
fault_not_nesting None place e = cc

extend_not : {n : Symbol} (s : List Token) (o p : Outcome n) → o ≡ extend s p → o ≢ Err Nesting → p ≢ Err Nesting
unfolding extend
extend_not s o (Ok d) e not q = cc
extend_not s o (Err x) e not q = not (e ∙ q)

extend_ends : {n : Symbol} (s : List Token) (p : Outcome n) → Err Ends ≡ extend s p → p ≡ Err Ends
unfolding extend
extend_ends s (Ok d) e = cc
extend_ends s (Err x) e = sym e

both : {L M : ℕ} {ts : List Token} {o p : Outcome Script} → o ≢ Err Nesting → p ≢ Err Nesting → Top L ts o → Top M ts p → o ≡ p
both {L} {M} a b g h = one_outcome (grows {M = max L M} (omega arith) a g) (grows {M = max L M} (omega arith) b h)

shallow : {ts : List Token} {o : Outcome Script} → Top 200 ts o → o ≢ Err Nesting → Shallow 200 ts
shallow g not p s whole deep = elim (cut p s whole g) [
  | within q e h ↦ (let i = both (extend_not s _ q e not) ends_not_nesting h deep.0.1 in
      absurd (let l : 200 < 200 = deep.1 200 (subst (λ x. Top 200 p x) i h) in omega arith))
  | beyond h l ↦ absurd (let l : 200 < 200 = deep.1 200 h in omega arith)
]

first_wrong : {ts : List Token} {form : Option Form} {place : ℕ} → Wrong 200 Script 0 (grammar Script) ts form place → FirstWrong ts form place
first_wrong {ts} {form} {place} w = record {
  before = w.before;
  token = w.token;
  after = w.after;
  whole = w.whole;
  here = w.at;
  wrong = λ front. fault_not_ends form place (both (fault_not_nesting form place) ends_not_nesting w.refused front.1);
  refused = w.refused;
  first = λ p s e. elim (cut p s e w.front) [
    | within q i h ↦ (200, subst (λ x. Top 200 p x) (extend_ends s q i) h)
    | beyond h l ↦ (200, h)
  ];
}

again : {n m : Symbol} {x : Stop} → ◌≡◌ {A = Outcome n} (Err x) (Err Nesting) → ◌≡◌ {A = Outcome m} (Err x) (Err Nesting)
again e = let h : _ ≡ Nesting = cc in ap (λ x. Err x) h

sunk_script : {ts : List Token} {o : Outcome Script} → Top 200 ts o → o ≡ Err Nesting → (p : List Token) × (s : List Token) × (ts ≡ p ++ s) × Deep 200 p
sunk_script {ts} (passed {k = k} {d = d} {o = o} g w) e = absurd (script_end d.value w (go o e))
  where
    go : (o : Outcome Script) → raise (0 + d.height) o ≡ Err Nesting → o ≡ Err Nesting
    go (Ok x) e = cc
    go (Err x) e = e
sunk_script {ts} (failed g) e = let i = sunk begun g (again e) in
    let deep : Top 200 i.before (Err Nesting) = failed i.deep in (
      i.before,
      i.after,
      i.whole,
      (
        (
          i.higher,
          elim i.fine [
            | inl h ↦ failed h
            | inr h ↦ passed h.2 (subst (λ x. Goes i.higher Script 0 (peek (λ t. either (is_end t) (give h.0.value) (refuse None))) x (Err Ends)) (sym h.1) ends_peek)
          ],
        ),
        λ M h. elim (cases_lt 200 M) [
          | inl lt ↦ lt
          | inr le ↦ absurd (ends_not_nesting (one_outcome (grows le ends_not_nesting h) deep))
        ],
      ),
    )

pub answers_ok : {ts : List Token} {d : Done Script} → Top 200 ts (Ok d) → Answers ts (Ok d.value)
answers_ok {ts} {d} g = ((d.height, d.rest, g), shallow g (λ e. cc))

pub answers_err : {ts : List Token} (e : Stop) → Top 200 ts (Err e) → Answers ts (Err e)
answers_err (Syntax place) g = (first_wrong (wrong g None place refl), shallow g (fault_not_nesting None place))
answers_err (LeftOut place form) g = (first_wrong (wrong g (Some form) place refl), shallow g (fault_not_nesting (Some form) place))
answers_err Nesting g = sunk_script g refl
answers_err Ends g = ((200, g), shallow g ends_not_nesting)
answers_err Memory g = tt

-- a script that reads is the one that was read
pub only : {ts : List Token} {tree : script.Script} {depth : ℕ} {o : Outcome Script} → depth ≤ 200 → Reads ts tree depth → Top 200 ts o → (d : Done Script) × (o ≡ Ok d) × (d.value ≡ tree)
only {tree = tree} le r g = (record { value = tree; height = r.0; rest = r.1 }, one_outcome g (grows le (λ e. cc) r.2), refl)

-- Where the end stands in the tokens, no answer says that they end too early.
pub not_short : {ts : List Token} {o : Outcome Script} → HasEnd ts → Top 200 ts o → o ≢ Err Ends
not_short h g e = never_ends g h e
