-- The table's readings are the least relation that its rows keep.
use Rattle.std.proofs.Common.{ℕ, ◌+◌, ◌≤◌, List, Ok, Err, arith}
use Rattle.js_lexer.specs.declared.Token.{Token}
use Rattle.script_grammar.specs.Rules.{Symbol, Value, Rule, Outcome}
use Rattle.script_grammar.specs.Grammar.{grammar}
use Rattle.script_grammar.specs.Goes.{Goes}
use Rattle.script_grammar.specs.Goes.Goes.{given, refused, peeked, eaten, stands, too_deep, begins_deep, passed, failed, ends_refuse, ends_peek, ends_eat, ends_node, ends_stand}
use Rattle.script_grammar.specs.Goes.{Goes as go}
use Rattle.script_grammar.specs.Paths.{Path, Table}
use Rattle.script_grammar.specs.Paths.Path.{gives, peeks, eats, nodes, begins, reads}

abbrev Fine : {n : Symbol} → Outcome n → Type 0
Fine (Ok d) = Unit {0}
Fine (Err e) = ⊥

abbrev high : {n : Symbol} → Outcome n → ℕ
high (Ok d) = d.height
high (Err e) = 0

-- A reading is one under each limit that has room for its levels.
moved : {L : ℕ} {n : Symbol} {b : ℕ} {r : Rule n} {ts : List Token} {o : Outcome n} → Goes L n b r ts o → Fine o → (M c : ℕ) → c + high o ≤ M → Goes M n c r ts o
moved given f M c le = given
moved refused f M c le = absurd f
moved (peeked g) f M c le = peeked (moved g f M c le)
moved (eaten q g) f M c le = eaten q (moved g f M c le)
moved (stands {k = k} {o = Ok x} q y g) f M c le = stands q (omega arith) (moved g tt M c (omega arith))
moved (stands {o = Err x} q y g) f M c le = absurd f
moved (too_deep q x) f M c le = absurd f
moved (go.begins {k = k} {o = Ok x} y g) f M c le = go.begins (omega arith) (moved g tt M c (omega arith))
moved (go.begins {o = Err x} y g) f M c le = absurd f
moved (begins_deep x higher g) f M c le = absurd f
moved (passed {k = k} {d = d} {o = Ok x} g w) f M c le = passed (moved g tt M (c + k) (omega arith)) (moved w tt M c (omega arith))
moved (passed {o = Err x} g w) f M c le = absurd f
moved (failed g) f M c le = absurd f
moved ends_refuse f M c le = absurd f
moved ends_peek f M c le = absurd f
moved ends_eat f M c le = absurd f
moved ends_node f M c le = absurd f
moved ends_stand f M c le = absurd f

-- What stands along a row, the table reads.
build : {n : Symbol} {r : Rule n} {ts rest : List Token} {v : Value n} {h : ℕ} → Path Table n r ts v h rest → (L b : ℕ) → b + h ≤ L → Goes L n b r ts (Ok record { value = v; height = h; rest = rest })
build gives L b le = given
build (peeks p) L b le = peeked (build p L b le)
build (eats q p) L b le = eaten q (build p L b le)
build (nodes {k = k} {h = h} q p) L b le = stands q (omega arith) (build p L b (omega arith))
build (begins {k = k} {h = h} p) L b le = go.begins (omega arith) (build p L b (omega arith))
build (reads {k = k} {us = us} {w = w} {i = i} {h = h} g p) L b le =
    passed {d = record { value = w; height = i; rest = us }} (moved g tt L (b + k) (omega arith)) (build p L b (omega arith))

pub built : {n : Symbol} {ts rest : List Token} {v : Value n} {h : ℕ} → Path Table n (grammar n) ts v h rest → Table n ts v h rest
built {h = h} p = build p h 0 (omega arith)

pub at_limit : {n : Symbol} {ts rest : List Token} {v : Value n} {h : ℕ} → Table n ts v h rest → (L b : ℕ) → b + h ≤ L → Goes L n b (grammar n) ts (Ok record { value = v; height = h; rest = rest })
at_limit g L b le = moved g tt L b le

pub from_limit : {L : ℕ} {n : Symbol} {b : ℕ} {ts rest : List Token} {v : Value n} {h : ℕ} → Goes L n b (grammar n) ts (Ok record { value = v; height = h; rest = rest }) → Table n ts v h rest
from_limit {h = h} g = moved g tt h 0 (omega arith)

-- Each relation that the rows keep holds of what the table reads.
module _ (P : (m : Symbol) → List Token → Value m → ℕ → List Token → Type 0)
    (keeps : (n : Symbol) (ts : List Token) (v : Value n) (h : ℕ) (rest : List Token) → Path P n (grammar n) ts v h rest → P n ts v h rest) where
  abbrev PathTo : (n : Symbol) → Rule n → List Token → Outcome n → Type 0
  PathTo n r ts (Ok d) = Path P n r ts d.value d.height d.rest
  PathTo n r ts (Err e) = Unit {0}

  along : {L : ℕ} {n : Symbol} {b : ℕ} {r : Rule n} {ts : List Token} {o : Outcome n} → Goes L n b r ts o → PathTo n r ts o
  along given = gives
  along refused = tt
  along (peeked {o = Ok x} g) = peeks (along g)
  along (peeked {o = Err x} g) = tt
  along (eaten {o = Ok x} q g) = eats q (along g)
  along (eaten {o = Err x} q g) = tt
  along (stands {o = Ok x} q y g) = nodes q (along g)
  along (stands {o = Err x} q y g) = tt
  along (too_deep q x) = tt
  along (go.begins {o = Ok x} y g) = begins (along g)
  along (go.begins {o = Err x} y g) = tt
  along (begins_deep x higher g) = tt
  along (passed {m = m} {ts = ts} {d = d} {o = Ok x} g w) = reads (keeps m ts d.value d.height d.rest (along g)) (along w)
  along (passed {o = Err x} g w) = tt
  along (failed g) = tt
  along ends_refuse = tt
  along ends_peek = tt
  along ends_eat = tt
  along ends_node = tt
  along ends_stand = tt

  pub least : {n : Symbol} {ts rest : List Token} {v : Value n} {h : ℕ} → Table n ts v h rest → P n ts v h rest
  least {n} {ts} {rest} {v} {h} g = keeps n ts v h rest (along g)

pub mapped : {P Q : (m : Symbol) → List Token → Value m → ℕ → List Token → Type 0} → ((m : Symbol) (ts : List Token) (v : Value m) (h : ℕ) (rest : List Token) → P m ts v h rest → Q m ts v h rest)
    → {n : Symbol} {r : Rule n} {ts rest : List Token} {v : Value n} {h : ℕ} → Path P n r ts v h rest → Path Q n r ts v h rest
mapped f gives = gives
mapped f (peeks p) = peeks (mapped f p)
mapped f (eats q p) = eats q (mapped f p)
mapped f (nodes q p) = nodes q (mapped f p)
mapped f (begins p) = begins (mapped f p)
mapped f (reads {m = m} {ts = ts} {us = us} {w = w} {i = i} g p) = reads (f m ts w i us g) (mapped f p)
