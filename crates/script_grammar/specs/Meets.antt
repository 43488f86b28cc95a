-- What the functions of the parser answer.
use Rattle.std.specs.Prelude.{◌≡◌, ◌≢◌, ℕ, ◌+◌, max, ◌≤◌, Bool, true, false, List, [], ◌∷◌, ◌++◌, Result, Ok, Err, Option, Some, None, ◌⊎◌, ◌<◌, IfOk, length}
use Rattle.std.specs.Borrow.{Bor}
use Rattle.std.specs.declared.alloc.Global.{Global}
use Rattle.js_lexer.specs.declared.Mark.{Mark}
use Rattle.js_lexer.specs.declared.Mark.TheVariants as m
use Rattle.js_lexer.specs.declared.Reserved.{Reserved}
use Rattle.js_lexer.specs.declared.Token.{Token}
use Rattle.js_tree.specs.declared.Expr as expr
use Rattle.js_tree.specs.declared.Script as script
use Rattle.js_tree.specs.declared.Stmt as stmt
use Rattle.script_grammar.specs.declared.stop.Stop.{Stop}
use Rattle.script_grammar.specs.declared.stop.Stop.TheVariants.{Ends, Memory, Nesting}
use Rattle.script_grammar.specs.declared.Form.{Form}
use Rattle.script_grammar.specs.declared.classes.Lead.{Lead}
use Rattle.script_grammar.specs.declared.classes.Lead.TheVariants as lead
use Rattle.script_grammar.specs.declared.classes.Operand.{Operand}
use Rattle.script_grammar.specs.Words.{Units, is, is_word, is_end, fault, form_at}
use Rattle.script_grammar.specs.Rules.{Context, Symbol, Value, Rule, Done, Outcome}
use Rattle.js_tree.specs.declared.Field as field
use Rattle.script_grammar.specs.Rules.Rule.{give, node, peek, read}
use Rattle.script_grammar.specs.Rules.Symbol.{Arguments, Assign, Elements, Expr, Fields, Items, Primary, Statement}
use Rattle.script_grammar.specs.Grammar.{grammar, a_name, as_read, either, expect, go_on, parameters, function, given_at}
use Rattle.script_grammar.specs.Goes.{Goes, raise}

-- ---- a row, and what is left of it

-- The rest of a row has this outcome, where what was read before it is so high.
pub data Has : (n : Symbol) → ℕ → Rule n → List Token → ℕ → Outcome n → Type 0 where
  has : {n : Symbol} {b : ℕ} {r : Rule n} {ts : List Token} {h : ℕ} {o p : Outcome n}
      → Goes 200 n b r ts p → o ≡ raise h p → Has n b r ts h o

-- What a function answers for a rule: what the rule has, unless memory runs out.
abbrev pub Follows : (n : Symbol) → ℕ → Rule n → List Token → Result (Value n × ℕ × Bor (List Token)) Stop → Type 0
Follows n b rule ts (Ok r) = Goes 200 n b rule ts (Ok record { value = r.0; height = r.1; rest = r.2.now })
Follows n b rule ts (Err e) = e ≢ Memory → Goes 200 n b rule ts (Err e)

-- the same, for a symbol
abbrev pub Meets : (n : Symbol) → ℕ → List Token → Result (Value n × ℕ × Bor (List Token)) Stop → Type 0
Meets n b ts r = Follows n b (grammar n) ts r

-- ---- one token

-- the punctuator or the word that had to come
pub record Took (mark : Mark) (ts rest : List Token) : Type 0 where
  pub token : Token
  pub whole : ts ≡ token ∷ rest
  pub right : is mark token ≡ true

abbrev pub Misses : Mark → List Token → Stop → Type 0
Misses mark ts e = ((ts ≡ []) × (e ≡ Ends))
    ⊎ ((token : Token) × (rest : List Token) × (ts ≡ token ∷ rest) × (is mark token ≡ false) × (e ≡ fault (form_at None token) token.start))

pub record TookWord (word : Reserved) (ts rest : List Token) : Type 0 where
  pub token : Token
  pub whole : ts ≡ token ∷ rest
  pub right : is_word word token ≡ true

abbrev pub MissesWord : Reserved → List Token → Stop → Type 0
MissesWord word ts e = ((ts ≡ []) × (e ≡ Ends))
    ⊎ ((token : Token) × (rest : List Token) × (ts ≡ token ∷ rest) × (is_word word token ≡ false) × (e ≡ fault (form_at None token) token.start))

-- ---- parts of rows: what a row does after the part, it does with the part before it

-- a name
pub record TookName (ts : List Token) (units : Units) (rest : List Token) : Type 0 where
  pub row : (n : Symbol) (b h : ℕ) (rule : Units → Rule n) (o : Outcome n) → Has n b (rule units) rest h o → Has n b (a_name rule) ts h o

pub record MissesName (ts : List Token) (e : Stop) : Type 0 where
  pub row : (n : Symbol) (b h : ℕ) (rule : Units → Rule n) → Has n b (a_name rule) ts h (Err e)

-- the parameters of a function
pub record TookParameters (ts : List Token) (names : List Units) (rest : List Token) : Type 0 where
  pub row : (n : Symbol) (b h : ℕ) (rule : List Units → Rule n) (o : Outcome n) → Has n b (rule names) rest h o → Has n b (parameters rule) ts h o

pub record MissesParameters (ts : List Token) (e : Stop) : Type 0 where
  pub row : (n : Symbol) (b h : ℕ) (rule : List Units → Rule n) → Has n b (parameters rule) ts h (Err e)

-- the parameters and the body of a function, where the node of the function is so deep
pub record TookFunction (b : ℕ) (ts : List Token) (names : List Units) (body : script.Script) (height : ℕ) (rest : List Token) : Type 0 where
  pub row : (n : Symbol) (h : ℕ) (rule : List Units → script.Script → Rule n) (o : Outcome n) → Has n b (rule names body) rest (max h height) o → Has n b (function rule) ts h o

pub record MissesFunction (b : ℕ) (ts : List Token) (e : Stop) : Type 0 where
  pub row : (n : Symbol) (h : ℕ) (rule : List Units → script.Script → Rule n) → Has n b (function rule) ts h (Err e)

-- arguments and `)`, where the arguments are so much deeper
pub record TookArguments (b k : ℕ) (ts : List Token) (all : List expr.Expr) (height : ℕ) (rest : List Token) : Type 0 where
  pub row : (n : Symbol) (h : ℕ) (rule : List expr.Expr → ℕ → Rule n) (o : Outcome n) → k ≤ h
      → Has n b (rule all height) rest (max h (k + height)) o → Has n b (given_at k rule) ts h o

pub record MissesArguments (b k : ℕ) (ts : List Token) (e : Stop) : Type 0 where
  pub row : (n : Symbol) (h : ℕ) (rule : List expr.Expr → ℕ → Rule n) → Has n b (given_at k rule) ts h (Err e)

-- an expression and what closes it, where the expression is one deeper
pub record TookEnclosed (close : Mark) (b : ℕ) (ts : List Token) (value : Operand) (height : ℕ) (rest : List Token) : Type 0 where
  pub row : (n : Symbol) (h : ℕ) (rule : Operand → ℕ → Rule n) (o : Outcome n) → Has n b (rule value height) rest (max h (1 + height)) o
      → Has n b (read 1 (Expr false) (λ v i. expect close (rule v i))) ts h o

pub record MissesEnclosed (close : Mark) (b : ℕ) (ts : List Token) (e : Stop) : Type 0 where
  pub row : (n : Symbol) (h : ℕ) (rule : Operand → ℕ → Rule n) → Has n b (read 1 (Expr false) (λ v i. expect close (rule v i))) ts h (Err e)

-- an item of a list, and whether another one follows; the tokens are those from there on
pub record TookItem {A : Type 0} (S : List A → Symbol) (after : (so_far : List A) → A → Bool → Rule (S so_far)) (b : ℕ) (ts : List Token) (one : A) (height : ℕ) (more : Bool) (rest : List Token) : Type 0 where
  pub row : (so_far : List A) (h : ℕ) (o : Outcome (S so_far)) → Has (S so_far) b (after so_far one more) rest (max h height) o → Has (S so_far) b (grammar (S so_far)) ts h o
  pub shorter : more ≡ true → length rest < length ts

pub record MissesItem {A : Type 0} (S : List A → Symbol) (b : ℕ) (ts : List Token) (e : Stop) : Type 0 where
  pub row : (so_far : List A) (h : ℕ) → Has (S so_far) b (grammar (S so_far)) ts h (Err e)

abbrev pub after_argument : (so_far : List expr.Expr) → expr.Expr → Bool → Rule (Arguments so_far)
after_argument so_far one more = either more (as_read (Arguments (so_far ++ one ∷ [])) (λ all. all)) (give (so_far ++ one ∷ []))

abbrev pub after_element : (so_far : List expr.Expr) → expr.Expr → Bool → Rule (Items so_far)
after_element so_far one more = either more (as_read (Items (so_far ++ one ∷ [])) (λ all. all)) (give (so_far ++ one ∷ []))

abbrev pub after_field : (so_far : List field.Field) → field.Field → Bool → Rule (Fields so_far)
after_field so_far one more = either more (as_read (Fields (so_far ++ one ∷ [])) (λ x. x)) (give (so_far ++ one ∷ []))

-- what follows an element of an array literal
abbrev pub element_goes_on : (so_far : List expr.Expr) → expr.Expr → Rule (Items so_far)
element_goes_on so_far one = go_on (peek (λ u. either (is m.CloseBracket u) (give (so_far ++ one ∷ [])) (as_read (Items (so_far ++ one ∷ [])) (λ all. all)))) (give (so_far ++ one ∷ []))

pub record TookElementEnd (ts : List Token) (more : Bool) (rest : List Token) : Type 0 where
  pub row : (so_far : List expr.Expr) (one : expr.Expr) (b h : ℕ) (o : Outcome (Items so_far)) → Has (Items so_far) b (after_element so_far one more) rest h o → Has (Items so_far) b (element_goes_on so_far one) ts h o
  pub shorter : more ≡ true → length rest < length ts

pub record MissesElementEnd (ts : List Token) (e : Stop) : Type 0 where
  pub row : (so_far : List expr.Expr) (one : expr.Expr) (b h : ℕ) → Has (Items so_far) b (element_goes_on so_far one) ts h (Err e)

-- ---- after the token with which a node stands

-- what a function answers after a token that the rule takes
abbrev pub After : (n : Symbol) → ℕ → Rule n → List Token → Result (Value n × ℕ × Bor (List Token)) Stop → Type 0
After n b rule ts r = (t : Token) → is_end t ≡ false → Follows n b rule (t ∷ ts) r

-- a node with nothing in it
abbrev pub Leaf : Operand → Rule Primary
Leaf made = node 1 (give made)

-- ---- functions that read what stands at this depth or deeper

pub record Assigns (depth : ℕ) (pre : Global → Bool → ℕ → Bor (List Token) → Type 0) (post : Global → Bool → ℕ → Bor (List Token) → Result (Operand × ℕ × Bor (List Token)) Stop → Type 0) : Type 0 where
  pub callable : (alloc : Global) (no_in : Bool) (base : ℕ) (ts : Bor (List Token)) → depth ≤ base → base ≤ 200 → pre alloc no_in base ts
  pub meets : (alloc : Global) (no_in : Bool) (base : ℕ) (ts : Bor (List Token)) (r : Result (Operand × ℕ × Bor (List Token)) Stop) → post alloc no_in base ts r → depth ≤ base → base ≤ 200 → Meets (Assign no_in) base ts.now r
  pub small : (alloc : Global) (no_in : Bool) (base : ℕ) (ts : Bor (List Token)) (r : Result (Operand × ℕ × Bor (List Token)) Stop) → post alloc no_in base ts r → depth ≤ base → base ≤ 200 → IfOk r (λ x. base + x.1 ≤ 200)

-- the bodies of functions
pub record Bodies (depth : ℕ) (pre : Global → ℕ → Bor (List Token) → Type 0) (post : Global → ℕ → Bor (List Token) → Result (script.Script × ℕ × Bor (List Token)) Stop → Type 0) : Type 0 where
  pub callable : (alloc : Global) (base : ℕ) (ts : Bor (List Token)) → depth ≤ base → base ≤ 200 → pre alloc base ts
  pub meets : (alloc : Global) (base : ℕ) (ts : Bor (List Token)) (r : Result (script.Script × ℕ × Bor (List Token)) Stop) → post alloc base ts r → depth ≤ base → base ≤ 200 → Meets (Elements true [] []) base ts.now r
  pub small : (alloc : Global) (base : ℕ) (ts : Bor (List Token)) (r : Result (script.Script × ℕ × Bor (List Token)) Stop) → post alloc base ts r → depth ≤ base → base ≤ 200 → IfOk r (λ x. base + x.1 ≤ 200)

pub record Ones (depth : ℕ) (pre : Global → Context → ℕ → Bor (List Token) → Type 0) (post : Global → Context → ℕ → Bor (List Token) → Result (stmt.Stmt × ℕ × Bor (List Token)) Stop → Type 0) : Type 0 where
  pub callable : (alloc : Global) (c : Context) (base : ℕ) (ts : Bor (List Token)) → depth ≤ base → base ≤ 200 → pre alloc c base ts
  pub meets : (alloc : Global) (c : Context) (base : ℕ) (ts : Bor (List Token)) (r : Result (stmt.Stmt × ℕ × Bor (List Token)) Stop) → post alloc c base ts r → depth ≤ base → base ≤ 200 → Meets (Statement c) base ts.now r
  pub small : (alloc : Global) (c : Context) (base : ℕ) (ts : Bor (List Token)) (r : Result (stmt.Stmt × ℕ × Bor (List Token)) Stop) → post alloc c base ts r → depth ≤ base → base ≤ 200 → IfOk r (λ x. base + x.1 ≤ 200)

-- What one symbol does with these tokens, where so much was read before, another does with those. The two are read as values of one type.
pub record Continues (A : Type 0) (b : ℕ) (n m : Symbol) (of_n : A → Value n) (of_m : A → Value m) (height : ℕ) (ts all : List Token) : Type 0 where
  pub reads : (v : A) (h : ℕ) (rest : List Token) → Goes 200 n b (grammar n) ts (Ok record { value = of_n v; height = h; rest = rest })
      → Goes 200 m b (grammar m) all (Ok record { value = of_m v; height = max height h; rest = rest })
  pub stops : (e : Stop) → Goes 200 n b (grammar n) ts (Err e) → Goes 200 m b (grammar m) all (Err e)

-- ---- an expression that would stand too deep

-- why no expression begins with the token; none at a parenthesis
abbrev pub Opens : Token → Option Stop → Type 0
Opens t (Some why) = why ≢ Memory → (b : ℕ) (ts : List Token) → 200 < b → Goes 200 (Expr false) b (grammar (Expr false)) (t ∷ ts) (Err why)
Opens t None = (b : ℕ) (ts : List Token) (e : Stop) → Goes 200 (Expr false) (b + 1) (grammar (Expr false)) ts (Err e)
    → Goes 200 (Expr false) b (grammar (Expr false)) (t ∷ ts) (Err e)

-- the same, of an operand that leads so
abbrev pub Leads : Lead → Token → Option Stop → Type 0
Leads x t (Some why) = ((x ≡ lead.Node) × (why ≡ Nesting)) ⊎ ((form : Option Form) × (x ≡ lead.Refused form) × (why ≡ fault (form_at form t) t.start))
Leads x t None = x ≡ lead.Open
