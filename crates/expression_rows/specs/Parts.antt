-- Parts of the rows of expressions: what a row does after the part, it does with the part before it.
use Rattle.std.specs.Prelude.{◌≡◌, ◌≢◌, ℕ, ◌+◌, max, Bool, true, false, not, ◌&&◌, List, ◌∷◌, Result, Ok, Err, Option, Some, None}
use Rattle.std.specs.Borrow.{Bor}
use Rattle.js_lexer.specs.declared.Mark.TheVariants as m
use Rattle.js_lexer.specs.declared.Token.{Token}
use Rattle.js_tree.specs.declared.Key.TheVariants as k
use Rattle.js_tree.specs.declared.Sign.{Sign}
use Rattle.script_grammar.specs.declared.stop.Stop.{Stop}
use Rattle.script_grammar.specs.declared.stop.Stop.TheVariants.{Memory}
use Rattle.script_grammar.specs.declared.classes.Operand.{Operand}
use Rattle.script_grammar.specs.Exprs as e
use Rattle.script_grammar.specs.Words.{Units, is_end, key_of, step_of}
use Rattle.script_grammar.specs.Rules.{Symbol, Rule, Outcome}
use Rattle.script_grammar.specs.Rules.Rule.{node, peek, read}
use Rattle.script_grammar.specs.Rules.Symbol.{Assign, Expr, Unary}
use Rattle.script_grammar.specs.Grammar.{a_member, expect, fixed, given_at, plain, with_suffixes}
use Rattle.script_grammar.specs.Meets.{Has}

-- the two parts of a conditional, one deeper, with the colon between them
abbrev pub branches : {n : Symbol} → (no_in : Bool) → (Operand → Operand → Rule n) → Rule n
branches no_in rule = read 1 (Assign no_in) (λ one _. expect m.Colon (read 1 (Assign no_in) (λ two _. rule one two)))

pub record TookBranches (no_in : Bool) (b : ℕ) (ts : List Token) (one two : Operand) (height : ℕ) (rest : List Token) : Type 0 where
  pub row : (n : Symbol) (h : ℕ) (rule : Operand → Operand → Rule n) (o : Outcome n) → Has n b (rule one two) rest (max h height) o → Has n b (branches no_in rule) ts h o

pub record MissesBranches (no_in : Bool) (b : ℕ) (ts : List Token) (e : Stop) : Type 0 where
  pub row : (n : Symbol) (h : ℕ) (rule : Operand → Operand → Rule n) → Has n b (branches no_in rule) ts h (Err e)

-- an operator before an operand, and the operand, one deeper
abbrev pub beneath : (Operand → Rule Unary) → Rule Unary
beneath rule = node 1 (read 1 Unary (λ v _. rule v))

pub record TookBeneath (b : ℕ) (ts : List Token) (value : Operand) (height : ℕ) (rest : List Token) : Type 0 where
  pub row : (t : Token) (h : ℕ) (rule : Operand → Rule Unary) (o : Outcome Unary) → is_end t ≡ false → Has Unary b (rule value) rest (max h (1 + height)) o → Has Unary b (beneath rule) (t ∷ ts) h o

pub record MissesBeneath (b : ℕ) (ts : List Token) (e : Stop) : Type 0 where
  pub row : (t : Token) (h : ℕ) (rule : Operand → Rule Unary) → is_end t ≡ false → Has Unary b (beneath rule) (t ∷ ts) h (Err e)

-- `++` or `--` after an operand: the operand is a target, and no line ends before the operator
abbrev pub step_by : Bool → Option Sign → Option Sign
step_by true step = step
step_by false step = None

abbrev pub step_after : (target : Bool) → Token → Option Sign
step_after target t = step_by (target && not t.after_newline) (step_of t.kind)

-- the key after a dot
abbrev pub a_key : {n : Symbol} → (Units → Rule n) → Rule n
a_key rule = peek (λ t. fixed (key_of t.kind) rule)

pub record TookKey (ts : List Token) (units : Units) (rest : List Token) : Type 0 where
  pub row : (n : Symbol) (b h : ℕ) (rule : Units → Rule n) (o : Outcome n) → Has n b (rule units) rest h o → Has n b (a_key rule) ts h o

pub record MissesKey (ts : List Token) (e : Stop) : Type 0 where
  pub row : (n : Symbol) (b h : ℕ) (rule : Units → Rule n) → Has n b (a_key rule) ts h (Err e)

-- a member or a call after an operand of this height, and the row over what it makes
abbrev pub computed_part : (left : Operand) (height : ℕ) (n : Symbol) → (Operand → ℕ → Rule n) → Rule n
computed_part left height n rule = node (height + 1) (read 1 (Expr false) (λ key h. expect m.CloseBracket (rule (a_member left.expr (k.Computed key.expr)) (max (height + 1) (h + 1)))))

abbrev pub fixed_part : (left : Operand) (height : ℕ) (n : Symbol) → (Operand → ℕ → Rule n) → Rule n
fixed_part left height n rule = node (height + 1) (a_key (λ key. rule (a_member left.expr (k.Fixed key)) (height + 1)))

abbrev pub call_part : (levels : ℕ) (left : Operand) (height : ℕ) (n : Symbol) → (Operand → ℕ → Rule n) → Rule n
call_part levels left height n rule = node (height + levels) (given_at levels (λ all h. rule (plain (e.Call left.expr all)) (max (height + 1) (h + 1))))

-- the part was read, where the levels of nodes in it are so many more than the height of what it makes
pub record TookPart (b : ℕ) (part : (n : Symbol) → (Operand → ℕ → Rule n) → Rule n) (extra : ℕ) (ts : List Token) (made : Operand) (tall : ℕ) (rest : List Token) : Type 0 where
  pub row : (t : Token) (n : Symbol) (h : ℕ) (rule : Operand → ℕ → Rule n) (o : Outcome n) → is_end t ≡ false → Has n b (rule made tall) rest (max h (tall + extra)) o → Has n b (part n rule) (t ∷ ts) h o

pub record MissesPart (b : ℕ) (part : (n : Symbol) → (Operand → ℕ → Rule n) → Rule n) (ts : List Token) (stop : Stop) : Type 0 where
  pub row : (t : Token) (n : Symbol) (h : ℕ) (rule : Operand → ℕ → Rule n) → is_end t ≡ false → Has n b (part n rule) (t ∷ ts) h (Err stop)

abbrev pub Part : (b : ℕ) (part : (n : Symbol) → (Operand → ℕ → Rule n) → Rule n) (extra : ℕ) → List Token → Result (Operand × ℕ × Bor (List Token)) Stop → Type 0
Part b part extra ts (Ok r) = TookPart b part extra ts r.0 r.1 r.2.now
Part b part extra ts (Err stop) = stop ≢ Memory → MissesPart b part ts stop

-- an operand with what stands after it, where the two stand at this depth
pub record TookOperand (calls : Bool) (base : ℕ) (ts : List Token) (value : Operand) (height : ℕ) (rest : List Token) : Type 0 where
  pub row : (n : Symbol) (b k h : ℕ) (rule : Operand → Rule n) (o : Outcome n) → b + k ≡ base → Has n b (rule value) rest (max h (k + height)) o → Has n b (peek (with_suffixes k calls rule)) ts h o

pub record MissesOperand (calls : Bool) (base : ℕ) (ts : List Token) (stop : Stop) : Type 0 where
  pub row : (n : Symbol) (b k h : ℕ) (rule : Operand → Rule n) → b + k ≡ base → Has n b (peek (with_suffixes k calls rule)) ts h (Err stop)
