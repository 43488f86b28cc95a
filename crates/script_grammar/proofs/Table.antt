-- What holds of this grammar's rows.
use Rattle.std.proofs.Common.{◌≡◌, ℕ, zero, suc, ◌+◌, Bool, true, false, List, [], ◌∷◌, Err, None, refl, ap, sym, subst}
use Rattle.js_lexer.specs.declared.Mark.TheVariants as m
use Rattle.script_grammar.specs.declared.stop.Stop.TheVariants.{Nesting, Ends}
use Rattle.js_lexer.specs.declared.Token.{Token}
use Rattle.script_grammar.specs.Words.{is_end, is, head_of, prefix_of, fault, form_at}
use Rattle.script_grammar.specs.declared.Form.{Form}
use Rattle.std.proofs.Common.{Option, Some}
use Rattle.js_lexer.specs.declared.Kind.TheVariants as kind
use Rattle.script_grammar.specs.declared.classes.Head.TheVariants as head
use Rattle.script_grammar.specs.declared.classes.Prefix.TheVariants as prefix
use Rattle.js_lexer.specs.declared.Reserved.TheVariants as w
use Rattle.std.proofs.Common.{◌∙◌}
use Rattle.script_grammar.proofs.Tokens.{mark_no_word, mark_kind, live_mark}
use Rattle.script_grammar.specs.Rules.{Symbol, Value, Outcome}
use Rattle.script_grammar.specs.Rules.Symbol.{Script, Elements, Declaration, Names, Statements, Statement, Block, Decls, Clauses, Expr, Commas, Assign, Conditional, Binary, More, Unary, Postfix, Left, Suffixes, Deleted, New, Arguments, Items, Fields, Primary}
use Rattle.script_grammar.specs.Rules.Rule.{give, refuse, peek, read}
use Rattle.script_grammar.specs.Grammar.{grammar, either, primary_by, unary_by}
use Rattle.script_grammar.specs.Goes.{Goes}
use Rattle.script_grammar.specs.Goes.Goes.{given, refused, peeked, eaten, failed, ends_refuse, ends_peek}

binary : (L b level : ℕ) (no_in : Bool) → Goes L (Binary no_in level) b (grammar (Binary no_in level)) [] (Err Ends)
binary L b zero no_in = failed ends_peek
binary L b (suc level) no_in = failed (binary L (b + 0) level no_in)

conditional : (L b : ℕ) (no_in : Bool) → Goes L (Conditional no_in) b (grammar (Conditional no_in)) [] (Err Ends)
conditional L b no_in = failed (binary L (b + 0) 10 no_in)

assign : (L b : ℕ) (no_in : Bool) → Goes L (Assign no_in) b (grammar (Assign no_in)) [] (Err Ends)
assign L b no_in = failed (conditional L (b + 0) no_in)

-- no symbol is read from nothing
pub begun : (L : ℕ) (n : Symbol) (b : ℕ) → Goes L n b (grammar n) [] (Err Ends)
begun L Script b = failed ends_peek
begun L (Elements in_function functions statements) b = ends_peek
begun L Declaration b = ends_peek
begun L (Names so_far) b = ends_peek
begun L (Statements c so_far) b = ends_peek
begun L (Statement c) b = ends_peek
begun L (Block c) b = ends_peek
begun L (Decls no_in so_far) b = ends_peek
begun L (Clauses c stood so_far) b = ends_peek
begun L (Expr no_in) b = failed (assign L (b + 0) no_in)
begun L (Commas no_in left height) b = ends_peek
begun L (Assign no_in) b = assign L b no_in
begun L (Conditional no_in) b = conditional L b no_in
begun L (Binary no_in level) b = binary L b level no_in
begun L (More no_in level left height) b = ends_peek
begun L Unary b = ends_peek
begun L Postfix b = failed ends_peek
begun L Left b = ends_peek
begun L (Suffixes calls left height) b = ends_peek
begun L (Deleted left height) b = ends_peek
begun L New b = ends_peek
begun L (Arguments so_far) b = failed (assign L (b + 0) false)
begun L (Items so_far) b = ends_peek
begun L (Fields so_far) b = ends_peek
begun L Primary b = ends_peek

not_nesting : {n : Symbol} (form : Option Form) (place : ℕ) → ◌≡◌ {A = Outcome n} (Err (fault form place)) (Err Nesting) → ⊥
not_nesting (Some form) place e = cc
not_nesting None place e = cc

-- after the elements of a script no node stands
quiet : {L b : ℕ} {n : Symbol} (v : Value n) (test : Bool) {ts : List Token} {o : Outcome n} → Goes L n b (either test (give v) (refuse None)) ts o → o ≡ Err Nesting → ⊥
quiet v true given e = cc
quiet v false (refused {t = t}) e = not_nesting (form_at None t) t.start e
quiet v false ends_refuse e = cc

pub script_end : {L b : ℕ} {n : Symbol} (v : Value n) {ts : List Token} {o : Outcome n} → Goes L n b (peek (λ t. either (is_end t) (give v) (refuse None))) ts o → o ≡ Err Nesting → ⊥
script_end v (peeked {t = t} g) e = quiet v (is_end t) g e
script_end v ends_peek e = cc

-- ---- a parenthesis begins an expression

paren_kind : (head_of (kind.Mark m.OpenParen) ≡ head.Parenthesis) × (prefix_of (kind.Mark m.OpenParen) ≡ prefix.Neither)
unfolding head_of prefix_of
paren_kind = (refl, refl)

module _ (M : ℕ) (t : Token) (e : is m.OpenParen t ≡ true) where
  opens_left : (b : ℕ) → Goes M Left b (grammar Left) (t ∷ []) (Err Ends)
  opens_left b = peeked (subst (λ x. Goes M Left b (either x (read 0 New (λ a h. read 0 (Suffixes true a h) (λ v _. give v))) (read 0 Primary (λ a h. read 0 (Suffixes true a h) (λ v _. give v)))) (t ∷ []) (Err Ends))
      (sym (mark_no_word m.OpenParen w.New t e)) (failed (peeked (subst (λ x. Goes M Primary (b + 0) (primary_by x) (t ∷ []) (Err Ends)) (sym (ap head_of (mark_kind m.OpenParen t e) ∙ paren_kind.0)) (eaten (live_mark m.OpenParen t e) (failed (begun M (Expr false) ((b + 0) + 1))))))))

  opens_unary : (b : ℕ) → Goes M Unary b (grammar Unary) (t ∷ []) (Err Ends)
  opens_unary b = peeked (subst (λ x. Goes M Unary b (unary_by x) (t ∷ []) (Err Ends)) (sym (ap prefix_of (mark_kind m.OpenParen t e) ∙ paren_kind.1)) (failed (failed (opens_left ((b + 0) + 0)))))

  opens_binary : (no_in : Bool) (level b : ℕ) → Goes M (Binary no_in level) b (grammar (Binary no_in level)) (t ∷ []) (Err Ends)
  opens_binary no_in zero b = failed (opens_unary (b + 0))
  opens_binary no_in (suc level) b = failed (opens_binary no_in level (b + 0))

  -- A node that stands with the parenthesis may be too deep: the token is a front.
  pub opens_expression : (no_in : Bool) (b : ℕ) → Goes M (Expr no_in) b (grammar (Expr no_in)) (t ∷ []) (Err Ends)
  opens_expression no_in b = failed (failed (failed (opens_binary no_in 10 (((b + 0) + 0) + 0))))
