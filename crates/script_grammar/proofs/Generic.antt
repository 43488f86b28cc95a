-- What holds of every table of rows.
use Rattle.std.proofs.Common.{◌≡◌, ◌≢◌, ℕ, ◌+◌, ◌<◌, ◌≤◌, max, List, [], ◌∷◌, ◌++◌, length, Ok, Err, refl, ap, sym, ◌∙◌, subst, arith, ◌⊎◌, inl, inr, length-append, append_assoc}
use Rattle.std.proofs.lemmas.List.{append_cancel_right}
use Rattle.script_grammar.specs.declared.Form.{Form}
use Rattle.js_lexer.specs.declared.Token.{Token}
use Rattle.script_grammar.specs.Words.{is_end, fault, form_at}
use Rattle.script_grammar.specs.declared.stop.Stop.{Stop}
use Rattle.script_grammar.specs.declared.stop.Stop.TheVariants.{Nesting, Ends}
use Rattle.script_grammar.specs.Rules.{Symbol, Value, Rule, Done, Outcome}
use Rattle.script_grammar.specs.Rules.Rule.{give, refuse, peek, eat, node, stand, read}
use Rattle.script_grammar.specs.Grammar.{grammar}
use Rattle.std.proofs.Common.{Option, Some, None, true, false}
use Rattle.script_grammar.specs.Claims.{HasEnd}
use Rattle.script_grammar.specs.Claims.HasEnd.{here, later}
use Rattle.script_grammar.specs.Goes.{Goes, raise}
use Rattle.script_grammar.specs.Goes.Goes.{given, refused, peeked, eaten, stands, too_deep, begins, begins_deep, passed, failed, ends_refuse, ends_peek, ends_eat, ends_node, ends_stand}

none : HasEnd [] → ⊥
none h = elim h [ ]

past_here : (t : Token) → is_end t ≡ false → is_end t ≡ true → ⊥
past_here t q e = cc

past : {t : Token} {ts : List Token} → is_end t ≡ false → HasEnd (t ∷ ts) → HasEnd ts
past q (here {t = t} e) = absurd (past_here t q e)
past q (later h) = h

-- ---- about outcomes

ok_is : {m : Symbol} {d e : Done m} → ◌≡◌ {A = Outcome m} (Ok d) (Ok e) → d ≡ e
ok_is e = cc

err_is : {m : Symbol} {d e : Stop} → ◌≡◌ {A = Outcome m} (Err d) (Err e) → d ≡ e
err_is e = cc

not_both : {m : Symbol} {d : Done m} {e : Stop} → ◌≡◌ {A = Outcome m} (Ok d) (Err e) → ⊥
not_both e = cc

raise_err : {n : Symbol} (k : ℕ) (o : Outcome n) {e : Stop} → raise k o ≡ Err e → o ≡ Err e
raise_err k (Ok d) h = absurd (not_both h)
raise_err k (Err x) h = h

-- more tokens after those that are left
unfoldable pub extend : {n : Symbol} → List Token → Outcome n → Outcome n
extend s (Ok d) = Ok record { value = d.value; height = d.height; rest = d.rest ++ s }
extend s (Err e) = Err e

raise_extend : {n : Symbol} (k : ℕ) (s : List Token) (o : Outcome n) → raise k (extend s o) ≡ extend s (raise k o)
unfolding extend
raise_extend k s (Ok d) = refl
raise_extend k s (Err e) = refl

pub left_of : {n : Symbol} → Outcome n → ℕ
left_of (Ok d) = length d.rest
left_of (Err e) = 0

left-raise : {n : Symbol} (k : ℕ) (o : Outcome n) → left_of (raise k o) ≡ left_of o
unfolding left_of
left-raise k (Ok d) = refl
left-raise k (Err e) = refl

-- ---- one outcome

-- A row does one thing with a list of tokens.
pub one_outcome : {L : ℕ} {n : Symbol} {b : ℕ} {r : Rule n} {ts : List Token} {o p : Outcome n} → Goes L n b r ts o → Goes L n b r ts p → o ≡ p
one_outcome given given = refl
one_outcome refused refused = refl
one_outcome (peeked g) (peeked h) = one_outcome g h
one_outcome (eaten q g) (eaten p h) = one_outcome g h
one_outcome (stands {k = k} q x g) (stands p y h) = ap (raise k) (one_outcome g h)
one_outcome (stands q x g) (too_deep p y) = absurd (omega arith)
one_outcome (too_deep q x) (stands p y h) = absurd (omega arith)
one_outcome (too_deep q x) (too_deep p y) = refl
one_outcome (begins {k = k} x g) (begins y h) = ap (raise k) (one_outcome g h)
one_outcome (begins x g) (begins_deep y higher h) = absurd (omega arith)
one_outcome (begins_deep x higher g) (begins y h) = absurd (omega arith)
one_outcome (begins_deep x higher g) (begins_deep y other h) = refl
one_outcome {L = L} {n = n} {b = b} (passed {k = k} {f = f} {d = d} {o = o} g w) (passed {d = d'} {o = o'} h v) =
    let e = ok_is (one_outcome g h) in
    let i = one_outcome w (subst (λ x. Goes L n b (f x.value x.height) x.rest o') (sym e) v) in
    ap (raise (k + d.height)) i ∙ ap (λ x. raise (k + x.height) o') e
one_outcome (passed g w) (failed h) = absurd (not_both (one_outcome g h))
one_outcome (failed g) (passed h w) = absurd (not_both (sym (one_outcome g h)))
one_outcome (failed g) (failed h) = ap (λ x. Err x) (err_is (one_outcome g h))
one_outcome ends_refuse ends_refuse = refl
one_outcome ends_peek ends_peek = refl
one_outcome ends_eat ends_eat = refl
one_outcome ends_node ends_node = refl
one_outcome ends_stand ends_stand = refl

-- ---- a higher limit

pub grows : {L M : ℕ} {n : Symbol} {b : ℕ} {r : Rule n} {ts : List Token} {o : Outcome n} → L ≤ M → o ≢ Err Nesting → Goes L n b r ts o → Goes M n b r ts o
grows le not given = given
grows le not refused = refused
grows le not (peeked g) = peeked (grows le not g)
grows le not (eaten q g) = eaten q (grows le not g)
grows le not (stands {k = k} q x g) = stands q (omega arith) (grows le (λ e. not (ap (raise k) e)) g)
grows le not (too_deep q x) = absurd (not refl)
grows le not (begins {k = k} x g) = begins (omega arith) (grows le (λ e. not (ap (raise k) e)) g)
grows le not (begins_deep x higher g) = absurd (not refl)
grows le not (passed {k = k} {d = d} g w) = passed (grows le (λ e. not_both e) g) (grows le (λ e. not (ap (raise (k + d.height)) e)) w)
grows le not (failed g) = failed (grows le (λ e. not (ap (λ x. Err x) (err_is e))) g)
grows le not ends_refuse = ends_refuse
grows le not ends_peek = ends_peek
grows le not ends_eat = ends_eat
grows le not ends_node = ends_node
grows le not ends_stand = ends_stand

-- ---- what is left

short : {L : ℕ} {n : Symbol} {b : ℕ} {r : Rule n} {ts : List Token} {o : Outcome n} → Goes L n b r ts o → left_of o ≤ length ts
unfolding left_of
short given = omega arith
short refused = omega arith
short (peeked g) = short g
short (eaten q g) = omega (arith, short g)
short (stands {k = k} {o = o} q x g) = omega (arith, short g, left-raise k o)
short (too_deep q x) = omega arith
short (begins {k = k} {o = o} x g) = omega (arith, short g, left-raise k o)
short (begins_deep x higher g) = omega arith
short (passed {k = k} {d = d} {o = o} g w) = omega (arith, short g, short w, left-raise (k + d.height) o)
short (failed g) = omega arith
short ends_refuse = omega arith
short ends_peek = omega arith
short ends_eat = omega arith
short ends_node = omega arith
short ends_stand = omega arith

-- ---- a front of the tokens

head_is : {t u : Token} {xs ys : List Token} → t ∷ xs ≡ u ∷ ys → t ≡ u
head_is e = cc

tail_is : {t u : Token} {xs ys : List Token} → t ∷ xs ≡ u ∷ ys → xs ≡ ys
tail_is e = cc

not_nil : {t : Token} {xs : List Token} → [] ≡ t ∷ xs → ⊥
not_nil e = cc

live : {t u : Token} → t ≡ u → is_end t ≡ false → is_end u ≡ false
live e q = subst (λ x. is_end x ≡ false) e q

-- What a row does with all the tokens, it does with a front of them, or the front ends within the row.
pub data Cut (L : ℕ) : (n : Symbol) → ℕ → Rule n → (ts s : List Token) → Outcome n → Type 0 where
  within : {n : Symbol} {b : ℕ} {r : Rule n} {ts s : List Token} {o : Outcome n} (p : Outcome n) → o ≡ extend s p → Goes L n b r ts p → Cut L n b r ts s o
  beyond : {n : Symbol} {b : ℕ} {r : Rule n} {ts s : List Token} {o : Outcome n} → Goes L n b r ts (Err Ends) → left_of o ≤ length s → Cut L n b r ts s o

extend_ok : {n : Symbol} (s : List Token) (p : Outcome n) {d : Done n} → Ok d ≡ extend s p
    → (x : Done n) × (p ≡ Ok x) × (d ≡ record { value = x.value; height = x.height; rest = x.rest ++ s })
unfolding extend
extend_ok s (Ok x) e = (x, refl, ok_is e)
extend_ok s (Err x) e = absurd (not_both e)

extend_err : {n : Symbol} (s : List Token) (p : Outcome n) {e : Stop} → Err e ≡ extend s p → p ≡ Err e
unfolding extend
extend_err s (Ok x) e = absurd (not_both (sym e))
extend_err s (Err x) e = sym e

cut_passed : {L : ℕ} {n m : Symbol} {b k : ℕ} {f : Value m → ℕ → Rule n} {ts s : List Token} {d x : Done m} {o : Outcome n}
    → Goes L m (b + k) (grammar m) ts (Ok x) → d ≡ record { value = x.value; height = x.height; rest = x.rest ++ s }
    → Cut L n b (f d.value d.height) x.rest s o → Cut L n b (read k m f) ts s (raise (k + d.height) o)
unfolding extend left_of
cut_passed {L} {n} {m} {b} {k} {f} {ts} {s} {d} {x} g e (within {o = o} p q h) =
    within (raise (k + x.height) p) (ap (λ y. raise (k + y.height) o) e ∙ ap (raise (k + x.height)) q ∙ raise_extend (k + x.height) s p)
    (passed g (subst (λ y. Goes L n b (f y.value y.height) x.rest p) e h))
cut_passed {L} {n} {m} {b} {k} {f} {ts} {s} {d} {x} g e (beyond {o = o} h l) =
    beyond (passed g (subst (λ y. Goes L n b (f y.value y.height) x.rest (Err Ends)) e h)) (omega (arith, left-raise (k + d.height) o))

pub cut : {L : ℕ} {n : Symbol} {b : ℕ} {r : Rule n} (ts s : List Token) {xs : List Token} {o : Outcome n} → xs ≡ ts ++ s → Goes L n b r xs o → Cut L n b r ts s o
unfolding extend left_of
cut ts s e (given {v = v}) = within (Ok record { value = v; height = 0; rest = ts }) (ap (λ x. Ok record { value = v; height = 0; rest = x }) e) given
cut [] s e refused = beyond ends_refuse (omega arith)
cut (u ∷ ts) s e (refused {form = form} {t = t}) = within (Err (fault (form_at form u) u.start)) (ap (λ (x : Token). Err (fault (form_at form x) x.start)) (head_is e)) refused
cut [] s e (peeked g) = beyond ends_peek (omega (arith, short g, ap length e))
cut {L} {n} {b} (u ∷ ts) s e (peeked {f = f} g) = elim (cut (u ∷ ts) s e g) [
  | within p q h ↦ within p q (peeked (subst (λ x. Goes L n b (f x) (u ∷ ts) p) (head_is e) h))
  | beyond h l ↦ beyond (peeked (subst (λ x. Goes L n b (f x) (u ∷ ts) (Err Ends)) (head_is e) h)) l
]
cut [] s e (eaten q g) = beyond ends_eat (omega (arith, short g, ap length e))
cut (u ∷ ts) s e (eaten q g) = elim (cut ts s (tail_is e) g) [
  | within p i h ↦ within p i (eaten (live (head_is e) q) h)
  | beyond h l ↦ beyond (eaten (live (head_is e) q) h) l
]
cut [] s e (stands {k = k} {o = o} q x g) = beyond ends_node (omega (arith, short g, ap length e, left-raise k o))
cut (u ∷ ts) s e (stands {k = k} {o = o} q x g) = elim (cut ts s (tail_is e) g) [
  | within p i h ↦ within (raise k p) (ap (raise k) i ∙ raise_extend k s p) (stands (live (head_is e) q) x h)
  | beyond h l ↦ beyond (stands (live (head_is e) q) x h) (omega (arith, left-raise k o))
]
cut [] s e (too_deep q x) = beyond ends_node (omega arith)
cut (u ∷ ts) s e (too_deep q x) = within (Err Nesting) refl (too_deep (live (head_is e) q) x)
cut [] s e (begins {k = k} {o = o} x g) = beyond ends_stand (omega (arith, short g, ap length e, left-raise k o))
cut (u ∷ ts) s e (begins {k = k} {o = o} x g) = elim (cut (u ∷ ts) s e g) [
  | within p i h ↦ within (raise k p) (ap (raise k) i ∙ raise_extend k s p) (begins x h)
  | beyond h l ↦ beyond (begins x h) (omega (arith, left-raise k o))
]
cut [] s e (begins_deep x higher g) = beyond ends_stand (omega arith)
cut {L} {n} {b} (u ∷ ts) s e (begins_deep {r = r} x higher g) =
    within (Err Nesting) refl (begins_deep x higher (subst (λ y. Goes higher n b r (y ∷ []) (Err Ends)) (head_is e) g))
cut {L} {n} {b} ts s e (passed {k = k} {f = f} {d = d} {o = o} g w) = elim (cut ts s e g) [
  | within p q h ↦ (let x = extend_ok s p q in cut_passed (subst (λ y. Goes L _ (b + k) (grammar _) ts y) x.1 h) x.2 (cut x.0.rest s (ap (λ (y : Done _). y.rest) x.2) w))
  | beyond h l ↦ beyond (failed h) (omega (arith, short w, left-raise (k + d.height) o))
]
cut {L} {n} {b} ts s e (failed {k = k} {e = stop} g) = elim (cut ts s e g) [
  | within p q h ↦ within (Err stop) refl (failed (subst (λ y. Goes L _ (b + k) (grammar _) ts y) (extend_err s p q) h))
  | beyond h l ↦ beyond (failed h) (omega arith)
]
cut [] s e ends_refuse = beyond ends_refuse (omega arith)
cut [] s e ends_peek = beyond ends_peek (omega arith)
cut [] s e ends_eat = beyond ends_eat (omega arith)
cut [] s e ends_node = beyond ends_node (omega arith)
cut [] s e ends_stand = beyond ends_stand (omega arith)
cut (u ∷ ts) s e ends_refuse = absurd (not_nil e)
cut (u ∷ ts) s e ends_peek = absurd (not_nil e)
cut (u ∷ ts) s e ends_eat = absurd (not_nil e)
cut (u ∷ ts) s e ends_node = absurd (not_nil e)
cut (u ∷ ts) s e ends_stand = absurd (not_nil e)

-- ---- the token that fits nothing

-- The tokens before it are read into, and with it they are refused.
pub record Wrong (L : ℕ) (n : Symbol) (b : ℕ) (r : Rule n) (xs : List Token) (form : Option Form) (place : ℕ) : Type 0 where
  pub before : List Token
  pub token : Token
  pub after : List Token
  pub whole : xs ≡ before ++ token ∷ after
  pub at : place ≡ token.start
  pub front : Goes L n b r before (Err Ends)
  pub refused : Goes L n b r (before ++ token ∷ []) (Err (fault form place))

form_is : {m : Symbol} (f g : Option Form) (x y : ℕ) → ◌≡◌ {A = Outcome m} (Err (fault f x)) (Err (fault g y)) → f ≡ g
form_is (Some f) (Some g) x y e = let h = err_is e in cc
form_is (Some f) None x y e = absurd (let h = err_is e in cc)
form_is None (Some g) x y e = absurd (let h = err_is e in cc)
form_is None None x y e = refl

place_is : {m : Symbol} (f g : Option Form) (x y : ℕ) → ◌≡◌ {A = Outcome m} (Err (fault f x)) (Err (fault g y)) → x ≡ y
place_is (Some f) (Some g) x y e = let h = err_is e in cc
place_is (Some f) None x y e = absurd (let h = err_is e in cc)
place_is None (Some g) x y e = absurd (let h = err_is e in cc)
place_is None None x y e = let h = err_is e in cc

not_fault : {m : Symbol} (e : Stop) (f : Option Form) (x : ℕ) → (e ≡ Nesting) ⊎ (e ≡ Ends) → ◌≡◌ {A = Outcome m} (Err e) (Err (fault f x)) → ⊥
not_fault e (Some f) x (inl q) h = let i = err_is h in cc
not_fault e (Some f) x (inr q) h = let i = err_is h in cc
not_fault e None x (inl q) h = let i = err_is h in cc
not_fault e None x (inr q) h = let i = err_is h in cc

-- what was read stands before what is left
pub ate : {L : ℕ} {n : Symbol} {b : ℕ} {r : Rule n} {ts : List Token} {o : Outcome n} → Goes L n b r ts o → (d : Done n) → o ≡ Ok d → (q : List Token) × (ts ≡ q ++ d.rest)
ate (given {v = v} {ts = ts}) d e = ([], ap (λ (y : Done _). y.rest) (ok_is e))
ate refused d e = absurd (not_both (sym e))
ate (peeked g) d e = ate g d e
ate (eaten {t = t} p g) d e = let i = ate g d e in (t ∷ i.0, ap (λ x. t ∷ x) i.1)
ate (stands {t = t} {o = Ok x} p y g) d e = let i = ate g x refl in (t ∷ i.0, ap (λ z. t ∷ z) (i.1 ∙ ap (λ (z : Done _). i.0 ++ z.rest) (ok_is e)))
ate (stands {o = Err x} p y g) d e = absurd (not_both (sym e))
ate (too_deep q x) d e = absurd (not_both (sym e))
ate (begins {o = Ok x} y g) d e = let i = ate g x refl in (i.0, i.1 ∙ ap (λ (z : Done _). i.0 ++ z.rest) (ok_is e))
ate (begins {o = Err x} y g) d e = absurd (not_both (sym e))
ate (begins_deep x higher g) d e = absurd (not_both (sym e))
ate (passed {d = c} {o = Ok x} g w) d e =
    let i = ate g c refl in let j = ate w x refl in
    (i.0 ++ j.0, i.1 ∙ ap (λ z. i.0 ++ z) j.1 ∙ sym (append_assoc i.0 j.0 x.rest) ∙ ap (λ (z : Done _). (i.0 ++ j.0) ++ z.rest) (ok_is e))
ate (passed {o = Err x} g w) d e = absurd (not_both (sym e))
ate (failed g) d e = absurd (not_both (sym e))
ate ends_refuse d e = absurd (not_both (sym e))
ate ends_peek d e = absurd (not_both (sym e))
ate ends_eat d e = absurd (not_both (sym e))
ate ends_node d e = absurd (not_both (sym e))
ate ends_stand d e = absurd (not_both (sym e))

-- a row with a member that was read, over a front of the tokens that goes past that member
resume : {L : ℕ} {n m : Symbol} {b k : ℕ} {f : Value m → ℕ → Rule n} {xs : List Token} {d : Done m} (q ts s : List Token) {o : Outcome n}
    → xs ≡ q ++ d.rest → d.rest ≡ ts ++ s → Goes L m (b + k) (grammar m) xs (Ok d)
    → Goes L n b (f d.value d.height) ts o → (o ≡ Err Ends) ⊎ (length s < length d.rest) → Goes L n b (read k m f) (q ++ ts) (raise (k + d.height) o)
unfolding left_of
resume {L} {n} {m} {b} {k} {f} {xs} {d} q ts s {o} whole cuts g w way = elim (cut (q ++ ts) s (whole ∙ ap (λ z. q ++ z) cuts ∙ sym (append_assoc q ts s)) g) [
  | within p e h ↦ (let x = extend_ok s p e in
      let same : x.0.rest ≡ ts = append_cancel_right x.0.rest ts s (sym (ap (λ (y : Done _). y.rest) x.2) ∙ cuts) in
      subst (λ (y : Done m). Goes L n b (read k m f) (q ++ ts) (raise (k + y.height) o)) (sym x.2)
      (passed (subst (λ y. Goes L m (b + k) (grammar m) (q ++ ts) y) x.1 h)
      (subst (λ y. Goes L n b (f x.0.value x.0.height) y o) (sym same)
      (subst (λ (y : Done m). Goes L n b (f y.value y.height) ts o) x.2 w))))
  | beyond h l ↦ elim way [
    | inl e ↦ subst (λ y. Goes L n b (read k m f) (q ++ ts) (raise (k + d.height) y)) (sym e) (failed h)
    | inr lt ↦ absurd (omega arith)
  ]
]

pub wrong : {L : ℕ} {n : Symbol} {b : ℕ} {r : Rule n} {xs : List Token} {o : Outcome n} → Goes L n b r xs o → (form : Option Form) (place : ℕ) → o ≡ Err (fault form place) → Wrong L n b r xs form place
wrong given form place e = absurd (not_both e)
wrong {L} {n} {b} (refused {form = f} {t = t} {ts = ts}) form place e = record {
  before = [];
  token = t;
  after = ts;
  whole = refl;
  at = sym (place_is (form_at f t) form t.start place e);
  front = ends_refuse;
  refused = subst (λ x. Goes L n b (refuse f) (t ∷ []) x) e refused;
}
wrong {L} {n} {b} (peeked {f = f} {t = t} {ts = ts} g) form place e = let i = wrong g form place e in go i.before i.token i.after i.whole i.at i.front i.refused
  where
    go : (before : List Token) (token : Token) (after : List Token) → t ∷ ts ≡ before ++ token ∷ after → place ≡ token.start → Goes L n b (f t) before (Err Ends)
        → Goes L n b (f t) (before ++ token ∷ []) (Err (fault form place)) → Wrong L n b (peek f) (t ∷ ts) form place
    go [] token after whole at front bad = record {
      before = [];
      token = token;
      after = after;
      whole = whole;
      at = at;
      front = ends_peek;
      refused = peeked (subst (λ x. Goes L n b (f x) (token ∷ []) (Err (fault form place))) (head_is whole) bad);
    }
    go (u ∷ us) token after whole at front bad = record {
      before = u ∷ us;
      token = token;
      after = after;
      whole = whole;
      at = at;
      front = peeked (subst (λ x. Goes L n b (f x) (u ∷ us) (Err Ends)) (head_is whole) front);
      refused = peeked (subst (λ x. Goes L n b (f x) (u ∷ (us ++ token ∷ [])) (Err (fault form place))) (head_is whole) bad);
    }
wrong (eaten {t = t} q g) form place e = let i = wrong g form place e in
    record { before = t ∷ i.before; token = i.token; after = i.after; whole = ap (λ x. t ∷ x) i.whole; at = i.at; front = eaten q i.front; refused = eaten q i.refused }
wrong (stands {k = k} {t = t} {o = o} q x g) form place e = let i = wrong g form place (raise_err k o e) in
    record { before = t ∷ i.before; token = i.token; after = i.after; whole = ap (λ x. t ∷ x) i.whole; at = i.at; front = stands q x i.front; refused = stands q x i.refused }
wrong (too_deep q x) form place e = absurd (not_fault Nesting form place (inl refl) e)
wrong {L} {n} {b} (begins {k = k} {r = r} {t = t} {ts = ts} {o = o} x g) form place e =
    let i = wrong g form place (raise_err k o e) in go i.before i.token i.after i.whole i.at i.front i.refused
  where
    go : (before : List Token) (token : Token) (after : List Token) → t ∷ ts ≡ before ++ token ∷ after → place ≡ token.start → Goes L n b r before (Err Ends)
        → Goes L n b r (before ++ token ∷ []) (Err (fault form place)) → Wrong L n b (stand k r) (t ∷ ts) form place
    go [] token after whole at front bad = record { before = []; token = token; after = after; whole = whole; at = at; front = ends_stand; refused = begins x bad }
    go (u ∷ us) token after whole at front bad = record { before = u ∷ us; token = token; after = after; whole = whole; at = at; front = begins x front; refused = begins x bad }
wrong (begins_deep x higher g) form place e = absurd (not_fault Nesting form place (inl refl) e)
wrong {L} {n} {b} (passed {m = m} {k = k} {f = f} {d = d} {o = o} g w) form place e =
    let i = wrong w form place (raise_err (k + d.height) o e) in
    let q = ate g d refl in
    record {
      before = q.0 ++ i.before;
      token = i.token;
      after = i.after;
      whole = q.1 ∙ ap (λ x. q.0 ++ x) i.whole ∙ sym (append_assoc q.0 i.before (i.token ∷ i.after));
      at = i.at;
      front = resume {f = f} q.0 i.before (i.token ∷ i.after) q.1 i.whole g i.front (inl refl);
      refused = subst (λ x. Goes L n b (read k m f) x (Err (fault form place))) (sym (append_assoc q.0 i.before (i.token ∷ [])))
          (resume {f = f} q.0 (i.before ++ i.token ∷ []) i.after q.1 (i.whole ∙ sym (append_assoc i.before (i.token ∷ []) i.after)) g i.refused
          (inr (omega (arith, ap length i.whole, length-append i.before (i.token ∷ i.after)))));
    }
wrong (failed g) form place e = let i = wrong g form place (ap (λ x. Err x) (err_is e)) in
    record { before = i.before; token = i.token; after = i.after; whole = i.whole; at = i.at; front = failed i.front; refused = failed i.refused }
wrong ends_refuse form place e = absurd (not_fault Ends form place (inr refl) e)
wrong ends_peek form place e = absurd (not_fault Ends form place (inr refl) e)
wrong ends_eat form place e = absurd (not_fault Ends form place (inr refl) e)
wrong ends_node form place e = absurd (not_fault Ends form place (inr refl) e)
wrong ends_stand form place e = absurd (not_fault Ends form place (inr refl) e)

-- ---- a node that stands too deep

calm : {L : ℕ} {n : Symbol} {b : ℕ} {r : Rule n} {ts : List Token} {o : Outcome n} → Goes L n b r ts o → ts ≡ [] → o ≡ Err Nesting → ⊥
calm given q e = not_both e
calm refused q e = not_nil (sym q)
calm (peeked g) q e = not_nil (sym q)
calm (eaten p g) q e = not_nil (sym q)
calm (stands p x g) q e = not_nil (sym q)
calm (too_deep p x) q e = not_nil (sym q)
calm (begins x g) q e = not_nil (sym q)
calm (begins_deep x higher g) q e = not_nil (sym q)
calm (passed {k = k} {d = d} {o = o} g w) q e =
    let i = ate g d refl in
    calm w (nil_right i.0 d.rest (sym i.1 ∙ q)) (raise_err (k + d.height) o e)
  where
    nil_right : (x y : List Token) → x ++ y ≡ [] → y ≡ []
    nil_right [] y e = e
    nil_right (u ∷ x) y e = absurd (not_nil (sym e))
calm (failed g) q e = calm g q (ap (λ x. Err x) (err_is e))
calm ends_refuse q e = let h = err_is e in cc
calm ends_peek q e = let h = err_is e in cc
calm ends_eat q e = let h = err_is e in cc
calm ends_node q e = let h = err_is e in cc
calm ends_stand q e = let h = err_is e in cc

-- The first tokens up to the one with which a node stands too deep, and a higher limit under which they are a front.
pub record Sunk (L : ℕ) (n : Symbol) (b : ℕ) (r : Rule n) (xs : List Token) : Type 0 where
  pub before : List Token
  pub after : List Token
  pub whole : xs ≡ before ++ after
  pub deep : Goes L n b r before (Err Nesting)
  pub higher : ℕ
  pub le : L ≤ higher
  pub fine : Goes higher n b r before (Err Ends) ⊎ ((d : Done n) × (d.rest ≡ []) × Goes higher n b r before (Ok d))

-- The table: no symbol is read from nothing.
module _ (begun : (L : ℕ) (n : Symbol) (b : ℕ) → Goes L n b (grammar n) [] (Err Ends)) where
  at_end : {n : Symbol} (L b : ℕ) (r : Rule n) → Goes L n b r [] (Err Ends) ⊎ ((d : Done n) × (d.rest ≡ []) × Goes L n b r [] (Ok d))
  at_end L b (give v) = inr (record { value = v; height = 0; rest = [] }, refl, given)
  at_end L b (refuse form) = inl ends_refuse
  at_end L b (peek f) = inl ends_peek
  at_end L b (eat r) = inl ends_eat
  at_end L b (node k r) = inl ends_node
  at_end L b (stand k r) = inl ends_stand
  at_end L b (read k m f) = inl (failed (begun L m (b + k)))

  some : (xs : List Token) → (xs ≡ [] → ⊥) → 0 < length xs
  some [] h = absurd (h refl)
  some (x ∷ xs) h = omega arith

  pub sunk : {L : ℕ} {n : Symbol} {b : ℕ} {r : Rule n} {xs : List Token} {o : Outcome n} → Goes L n b r xs o → o ≡ Err Nesting → Sunk L n b r xs
  sunk given e = absurd (not_both e)
  sunk (refused {form = f} {t = t}) e = absurd (not_fault Nesting (form_at f t) t.start (inl refl) (sym e))
  sunk {L} {n} {b} (peeked {f = f} {t = t} {ts = ts} g) e = let i = sunk g e in go i.before i.after i.whole i.deep i.higher i.le i.fine
    where
      go : (before after : List Token) → t ∷ ts ≡ before ++ after → Goes L n b (f t) before (Err Nesting) → (M : ℕ) → L ≤ M
          → Goes M n b (f t) before (Err Ends) ⊎ ((d : Done n) × (d.rest ≡ []) × Goes M n b (f t) before (Ok d)) → Sunk L n b (peek f) (t ∷ ts)
      go [] after whole deep M le fine = absurd (calm deep refl refl)
      go (u ∷ us) after whole deep M le fine = record {
        before = u ∷ us;
        after = after;
        whole = whole;
        deep = peeked (subst (λ x. Goes L n b (f x) (u ∷ us) (Err Nesting)) (head_is whole) deep);
        higher = M;
        le = le;
        fine = elim fine [
          | inl h ↦ inl (peeked (subst (λ x. Goes M n b (f x) (u ∷ us) (Err Ends)) (head_is whole) h))
          | inr h ↦ inr (h.0, h.1, peeked (subst (λ x. Goes M n b (f x) (u ∷ us) (Ok h.0)) (head_is whole) h.2))
        ];
      }
  sunk (eaten {t = t} p g) e = let i = sunk g e in
      record {
        before = t ∷ i.before;
        after = i.after;
        whole = ap (λ x. t ∷ x) i.whole;
        deep = eaten p i.deep;
        higher = i.higher;
        le = i.le;
        fine = elim i.fine [ inl h ↦ inl (eaten p h) | inr h ↦ inr (h.0, h.1, eaten p h.2) ];
      }
  sunk (stands {k = k} {t = t} {o = o} p x g) e = let i = sunk g (raise_err k o e) in let le : _ ≤ i.higher = i.le in
      record {
        before = t ∷ i.before;
        after = i.after;
        whole = ap (λ x. t ∷ x) i.whole;
        deep = stands p x i.deep;
        higher = i.higher;
        le = i.le;
        fine = elim i.fine [
          | inl h ↦ inl (stands p (omega arith) h)
          | inr h ↦ inr (record { value = h.0.value; height = max k h.0.height; rest = h.0.rest }, h.1, stands p (omega arith) h.2)
        ];
      }
  sunk {L} {n} {b} (too_deep {k = k} {r = r} {t = t} {ts = ts} p x) e =
      record {
        before = t ∷ [];
        after = ts;
        whole = refl;
        deep = too_deep p x;
        higher = b + k;
        le = omega arith;
        fine = elim (at_end (b + k) b r) [
          | inl h ↦ inl (stands p (omega arith) h)
          | inr h ↦ inr (record { value = h.0.value; height = max k h.0.height; rest = h.0.rest }, h.1, stands p (omega arith) h.2)
        ];
      }
  sunk {L} {n} {b} (begins {k = k} {r = r} {t = t} {ts = ts} {o = o} x g) e = let i = sunk g (raise_err k o e) in go i.before i.after i.whole i.deep i.higher i.le i.fine
    where
      go : (before after : List Token) → t ∷ ts ≡ before ++ after → Goes L n b r before (Err Nesting) → (M : ℕ) → L ≤ M
          → Goes M n b r before (Err Ends) ⊎ ((d : Done n) × (d.rest ≡ []) × Goes M n b r before (Ok d)) → Sunk L n b (stand k r) (t ∷ ts)
      go [] after whole deep M le fine = absurd (calm deep refl refl)
      go (u ∷ us) after whole deep M le fine = record {
        before = u ∷ us;
        after = after;
        whole = whole;
        deep = begins x deep;
        higher = M;
        le = le;
        fine = elim fine [
          | inl h ↦ inl (begins (omega arith) h)
          | inr h ↦ inr (record { value = h.0.value; height = max k h.0.height; rest = h.0.rest }, h.1, begins (omega arith) h.2)
        ];
      }
  sunk {L} {n} {b} (begins_deep {k = k} {r = r} {t = t} {ts = ts} x higher g) e =
      record {
        before = t ∷ [];
        after = ts;
        whole = refl;
        deep = begins_deep x higher g;
        higher = max higher (b + k);
        le = omega arith;
        fine = inl (begins (omega arith) (grows {M = max higher (b + k)} (omega arith) (λ z. let h = err_is z in cc) g));
      }
  sunk {L} {n} {b} (passed {m = m} {k = k} {f = f} {d = d} {o = o} g w) e =
      let i = sunk w (raise_err (k + d.height) o e) in
      let q = ate g d refl in
      let lt : length i.after < length d.rest = omega (arith, ap length i.whole, length-append i.before i.after, some i.before (λ z. calm i.deep z refl)) in
      record {
        before = q.0 ++ i.before;
        after = i.after;
        whole = q.1 ∙ ap (λ x. q.0 ++ x) i.whole ∙ sym (append_assoc q.0 i.before i.after);
        deep = resume {f = f} q.0 i.before i.after q.1 i.whole g i.deep (inr lt);
        higher = i.higher;
        le = i.le;
        fine = let g' = grows i.le (λ z. not_both z) g in elim i.fine [
          | inl h ↦ inl (resume {f = f} q.0 i.before i.after q.1 i.whole g' h (inr lt))
          | inr h ↦ inr (record { value = h.0.value; height = max (k + d.height) h.0.height; rest = h.0.rest }, h.1, resume {f = f} q.0 i.before i.after q.1 i.whole g' h.2 (inr lt))
        ];
      }
  sunk {L} {n} {b} (failed {m = m} {k = k} {f = f} g) e =
      let i = sunk g (ap (λ x. Err x) (err_is e)) in
      record {
        before = i.before;
        after = i.after;
        whole = i.whole;
        deep = failed i.deep;
        higher = i.higher;
        le = i.le;
        fine = elim i.fine [
          | inl h ↦ inl (failed h)
          | inr h ↦ elim (at_end i.higher b (f h.0.value h.0.height)) [
            | inl w ↦ inl (passed h.2 (subst (λ x. Goes i.higher n b (f h.0.value h.0.height) x (Err Ends)) (sym h.1) w))
            | inr w ↦ inr (
              record { value = w.0.value; height = max (k + h.0.height) w.0.height; rest = w.0.rest },
              w.1,
              passed h.2 (subst (λ x. Goes i.higher n b (f h.0.value h.0.height) x (Ok w.0)) (sym h.1) w.2),
            )
          ]
        ];
      }
  sunk ends_refuse e = absurd (let h = err_is e in cc)
  sunk ends_peek e = absurd (let h = err_is e in cc)
  sunk ends_eat e = absurd (let h = err_is e in cc)
  sunk ends_node e = absurd (let h = err_is e in cc)
  sunk ends_stand e = absurd (let h = err_is e in cc)

pub shorter : {L : ℕ} {n : Symbol} {b : ℕ} {r : Rule n} {ts : List Token} {d : Done n} → Goes L n b r ts (Ok d) → length d.rest ≤ length ts
unfolding left_of
shorter g = short g

-- ---- the end

-- Where the end stands in the tokens, they don't end within a row, and it stands in what is left.
pub kept : {L : ℕ} {n : Symbol} {b : ℕ} {r : Rule n} {ts : List Token} {o : Outcome n} → Goes L n b r ts o → HasEnd ts → (d : Done n) → o ≡ Ok d → HasEnd d.rest
kept given h d e = subst HasEnd (ap (λ (y : Done _). y.rest) (ok_is e)) h
kept refused h d e = absurd (not_both (sym e))
kept (peeked g) h d e = kept g h d e
kept (eaten q g) h d e = kept g (past q h) d e
kept (stands {o = Ok x} q y g) h d e = subst HasEnd (ap (λ (z : Done _). z.rest) (ok_is e)) (kept g (past q h) x refl)
kept (stands {o = Err x} q y g) h d e = absurd (not_both (sym e))
kept (too_deep q x) h d e = absurd (not_both (sym e))
kept (begins {o = Ok x} y g) h d e = subst HasEnd (ap (λ (z : Done _). z.rest) (ok_is e)) (kept g h x refl)
kept (begins {o = Err x} y g) h d e = absurd (not_both (sym e))
kept (begins_deep x higher g) h d e = absurd (not_both (sym e))
kept (passed {d = c} {o = Ok x} g w) h d e = subst HasEnd (ap (λ (z : Done _). z.rest) (ok_is e)) (kept w (kept g h c refl) x refl)
kept (passed {o = Err x} g w) h d e = absurd (not_both (sym e))
kept (failed g) h d e = absurd (not_both (sym e))
kept ends_refuse h d e = absurd (not_both (sym e))
kept ends_peek h d e = absurd (not_both (sym e))
kept ends_eat h d e = absurd (not_both (sym e))
kept ends_node h d e = absurd (not_both (sym e))
kept ends_stand h d e = absurd (not_both (sym e))

pub never_ends : {L : ℕ} {n : Symbol} {b : ℕ} {r : Rule n} {ts : List Token} {o : Outcome n} → Goes L n b r ts o → HasEnd ts → o ≡ Err Ends → ⊥
never_ends given h e = not_both e
never_ends (refused {form = f} {t = t}) h e = not_fault Ends (form_at f t) t.start (inr refl) (sym e)
never_ends (peeked g) h e = never_ends g h e
never_ends (eaten q g) h e = never_ends g (past q h) e
never_ends (stands {k = k} {o = o} q x g) h e = never_ends g (past q h) (raise_err k o e)
never_ends (too_deep q x) h e = let i = err_is e in cc
never_ends (begins {k = k} {o = o} x g) h e = never_ends g h (raise_err k o e)
never_ends (begins_deep x higher g) h e = let i = err_is e in cc
never_ends (passed {k = k} {d = d} {o = o} g w) h e = never_ends w (kept g h d refl) (raise_err (k + d.height) o e)
never_ends (failed g) h e = never_ends g h (ap (λ x. Err x) (err_is e))
never_ends ends_refuse h e = none h
never_ends ends_peek h e = none h
never_ends ends_eat h e = none h
never_ends ends_node h e = none h
never_ends ends_stand h e = none h
