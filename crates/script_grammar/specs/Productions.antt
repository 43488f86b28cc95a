-- The expressions of the language once more, in the form of productions: a constructor for each.
use Rattle.std.specs.Prelude.{◌≡◌, ℕ, suc, ◌+◌, max, Bool, true, false, not, ◌&&◌, ◌⊎◌, List, [], ◌∷◌, Option, Some, None}
use Rattle.js_lexer.specs.declared.Mark.TheVariants as m
use Rattle.js_lexer.specs.declared.Reserved.TheVariants as w
use Rattle.js_lexer.specs.declared.CallWord.{CallWord}
use Rattle.js_tree.specs.declared.BinaryOperator.{BinaryOperator}
use Rattle.js_tree.specs.declared.UnaryOperator.{UnaryOperator}
use Rattle.js_tree.specs.declared.Sign.{Sign}
use Rattle.js_tree.specs.declared.Fix.TheVariants as side
use Rattle.js_tree.specs.declared.Literal.{Literal}
use Rattle.js_tree.specs.declared.Key as key
use Rattle.js_tree.specs.declared.Key.TheVariants as k
use Rattle.js_tree.specs.declared.Field as field
use Rattle.js_tree.specs.declared.Expr as expr
use Rattle.script_grammar.specs.Exprs as e
use Rattle.js_tree.specs.declared.Script as script
use Rattle.js_lexer.specs.declared.Token.{Token}
use Rattle.script_grammar.specs.declared.classes.Infix.{Infix}
use Rattle.script_grammar.specs.declared.classes.Tail.{Tail}
use Rattle.script_grammar.specs.Words.{Units, is, is_word, name_of, key_of, literal_key_of, head_of, prefix_of, tail_of, step_of, infix_at, assign_of}
use Rattle.script_grammar.specs.declared.classes.Name.TheVariants as ident
use Rattle.script_grammar.specs.declared.classes.Head.TheVariants as head
use Rattle.script_grammar.specs.declared.classes.Prefix.TheVariants as prefix
use Rattle.script_grammar.specs.declared.classes.Tail.TheVariants as tail
use Rattle.script_grammar.specs.declared.classes.Operand.{Operand}
use Rattle.js_tree.specs.Trees.{field_of}
use Rattle.js_tree.specs.Trees.{expr_level}
use Rattle.js_tree.specs.declared.ExprNode.TheOpen.{ExprNode-F}
use Rattle.script_grammar.specs.Grammar.{plain, a_member, a_name_as, target, joined, called, called_alone}

pub data Part : Type 0 where
  Expr Commas Assign Conditional : (no_in : Bool) → Part
  -- operands and operators of a level, and such where no operator of the level follows
  Chain Binary : (no_in : Bool) (level : ℕ) → Part
  Unary Postfix : Part
  -- an operand and what stands after it, with calls or up to the arguments of a `new`, and such where no more follows
  Stem Whole : (calls : Bool) → Part
  New Given Arguments Items Fields Names Parameters Primary : Part

abbrev pub Of : Part → Type 0
Of (Expr no_in) = Operand
Of (Commas no_in) = Operand
Of (Assign no_in) = Operand
Of (Conditional no_in) = Operand
Of (Chain no_in level) = Operand
Of (Binary no_in level) = Operand
Of Unary = Operand
Of Postfix = Operand
Of (Stem calls) = Operand
Of (Whole calls) = Operand
Of New = Operand
Of Given = List expr.Expr
Of Arguments = List expr.Expr
Of Items = List expr.Expr
Of Fields = List field.Field
Of Names = List Units
Of Parameters = List Units
Of Primary = Operand

-- the token goes on after an operand
abbrev pub goes_on : (calls : Bool) → Tail → Bool
goes_on calls tail.Computed = true
goes_on calls tail.Fixed = true
goes_on calls tail.Call = calls
goes_on calls tail.Neither = false

-- A part reads the tokens up to the last list as this, in so many levels of nodes. Body reads the elements of a function's body.
pub data Reads (Body : List Token → script.Script → ℕ → List Token → Type 0) : (n : Part) → List Token → Of n → ℕ → List Token → Type 0 where
  -- Expr : Assign (, Assign)*
  first : {no_in : Bool} {ts rest : List Token} {a : Operand} {h : ℕ}
      → Reads Body (Assign no_in) ts a h rest → Reads Body (Commas no_in) ts a h rest
  comma : {no_in : Bool} {ts us rest : List Token} {t : Token} {a b : Operand} {h i : ℕ}
      → Reads Body (Commas no_in) ts a h (t ∷ us) → is m.Comma t ≡ true → Reads Body (Assign no_in) us b i rest
      → Reads Body (Commas no_in) ts (plain (e.Comma a.expr b.expr)) (1 + max h i) rest
  all_commas : {no_in : Bool} {ts us : List Token} {t : Token} {a : Operand} {h : ℕ}
      → Reads Body (Commas no_in) ts a h (t ∷ us) → is m.Comma t ≡ false → Reads Body (Expr no_in) ts a h (t ∷ us)
  -- Assign : Target AssignOp Assign | Cond
  assign : {no_in : Bool} {ts us rest : List Token} {t : Token} {a b : Operand} {h i : ℕ} {op : Option BinaryOperator}
      → Reads Body (Whole true) ts a h (t ∷ us) → target a ≡ true → assign_of t.kind ≡ Some op → Reads Body (Assign no_in) us b i rest
      → Reads Body (Assign no_in) ts (plain (e.Assign op a.expr b.expr)) (1 + max h i) rest
  unassigned : {no_in : Bool} {ts us : List Token} {t : Token} {a : Operand} {h : ℕ}
      → Reads Body (Conditional no_in) ts a h (t ∷ us) → (target a ≡ false) ⊎ (assign_of t.kind ≡ None) → Reads Body (Assign no_in) ts a h (t ∷ us)
  -- Cond : Binary, or Binary `?` Assign `:` Assign
  conditional : {no_in : Bool} {ts us ws rest : List Token} {t u : Token} {a b c : Operand} {h i j : ℕ}
      → Reads Body (Binary no_in 10) ts a h (t ∷ us) → is m.Question t ≡ true → Reads Body (Assign no_in) us b i (u ∷ ws) → is m.Colon u ≡ true
      → Reads Body (Assign no_in) ws c j rest
      → Reads Body (Conditional no_in) ts (plain (e.Conditional a.expr b.expr c.expr)) (1 + max h (max i j)) rest
  unconditional : {no_in : Bool} {ts us : List Token} {t : Token} {a : Operand} {h : ℕ}
      → Reads Body (Binary no_in 10) ts a h (t ∷ us) → is m.Question t ≡ false → Reads Body (Conditional no_in) ts a h (t ∷ us)
  -- the levels of binary operators
  operand : {no_in : Bool} {level : ℕ} {ts rest : List Token} {a : Operand} {h : ℕ}
      → Reads Body (Binary no_in level) ts a h rest → Reads Body (Chain no_in (suc level)) ts a h rest
  operator : {no_in : Bool} {level : ℕ} {ts us rest : List Token} {t : Token} {a b : Operand} {h i : ℕ} {op : Infix}
      → Reads Body (Chain no_in (suc level)) ts a h (t ∷ us) → infix_at no_in (suc level) t ≡ Some op → Reads Body (Binary no_in level) us b i rest
      → Reads Body (Chain no_in (suc level)) ts (plain (joined op a.expr b.expr)) (1 + max h i) rest
  binary : {no_in : Bool} {level : ℕ} {ts us : List Token} {t : Token} {a : Operand} {h : ℕ}
      → Reads Body (Chain no_in (suc level)) ts a h (t ∷ us) → infix_at no_in (suc level) t ≡ None → Reads Body (Binary no_in (suc level)) ts a h (t ∷ us)
  unary : {no_in : Bool} {ts rest : List Token} {a : Operand} {h : ℕ}
      → Reads Body Unary ts a h rest → Reads Body (Binary no_in 0) ts a h rest
  -- Unary : an operator and Unary | Postfix
  -- A `delete` and the member that it deletes are one node.
  delete : {ts rest : List Token} {t : Token} {a : Operand} {h : ℕ} {base : expr.Expr} {key : key.Key}
      → prefix_of t.kind ≡ prefix.Delete → Reads Body Unary ts a h rest → a.target ≡ true → expr_level a.expr ≡ ExprNode-F.Member base key
      → Reads Body Unary (t ∷ ts) (plain (e.Delete base key)) (max 1 h) rest
  void : {ts rest : List Token} {t : Token} {a : Operand} {h : ℕ}
      → prefix_of t.kind ≡ prefix.Void → Reads Body Unary ts a h rest → Reads Body Unary (t ∷ ts) (plain (e.Void a.expr)) (1 + h) rest
  typeof : {ts rest : List Token} {t : Token} {a : Operand} {h : ℕ}
      → prefix_of t.kind ≡ prefix.Typeof → Reads Body Unary ts a h rest → Reads Body Unary (t ∷ ts) (plain (e.Typeof a.expr)) (1 + h) rest
  signed : {ts rest : List Token} {t : Token} {a : Operand} {h : ℕ} {sign : UnaryOperator}
      → prefix_of t.kind ≡ prefix.Signed sign → Reads Body Unary ts a h rest → Reads Body Unary (t ∷ ts) (plain (e.Unary sign a.expr)) (1 + h) rest
  update : {ts rest : List Token} {t : Token} {a : Operand} {h : ℕ} {step : Sign}
      → prefix_of t.kind ≡ prefix.Update step → Reads Body (Whole true) ts a h rest → target a ≡ true
      → Reads Body Unary (t ∷ ts) (plain (e.Update a.expr step side.Prefix)) (1 + h) rest
  postfix : {ts rest : List Token} {a : Operand} {h : ℕ} → Reads Body Postfix ts a h rest → Reads Body Unary ts a h rest
  -- Postfix : Left, or Left `++`, or Left `--`
  step : {ts us : List Token} {t : Token} {a : Operand} {h : ℕ} {step : Sign}
      → Reads Body (Whole true) ts a h (t ∷ us) → target a ≡ true → t.after_newline ≡ false → step_of t.kind ≡ Some step
      → Reads Body Postfix ts (plain (e.Update a.expr step side.Postfix)) (1 + h) us
  no_step : {ts us : List Token} {t : Token} {a : Operand} {h : ℕ}
      → Reads Body (Whole true) ts a h (t ∷ us) → (target a && not t.after_newline ≡ false) ⊎ (step_of t.kind ≡ None) → Reads Body Postfix ts a h (t ∷ us)
  -- Left : (new)* Primary with any of [ Expr ], . key, ( Args? ) after it
  primary : {calls : Bool} {ts rest : List Token} {a : Operand} {h : ℕ} → Reads Body Primary ts a h rest → Reads Body (Stem calls) ts a h rest
  new : {calls : Bool} {ts rest : List Token} {a : Operand} {h : ℕ} → Reads Body New ts a h rest → Reads Body (Stem calls) ts a h rest
  computed : {calls : Bool} {ts us rest : List Token} {t u : Token} {a b : Operand} {h i : ℕ}
      → Reads Body (Stem calls) ts a h (t ∷ us) → tail_of t.kind ≡ tail.Computed → Reads Body (Expr false) us b i (u ∷ rest) → is m.CloseBracket u ≡ true
      → Reads Body (Stem calls) ts (a_member a.expr (k.Computed b.expr)) (1 + max h i) rest
  fixed : {calls : Bool} {ts rest : List Token} {t u : Token} {a : Operand} {h : ℕ} {units : Units}
      → Reads Body (Stem calls) ts a h (t ∷ u ∷ rest) → tail_of t.kind ≡ tail.Fixed → key_of u.kind ≡ Some units
      → Reads Body (Stem calls) ts (a_member a.expr (k.Fixed units)) (1 + h) rest
  call : {ts us rest : List Token} {t : Token} {a : Operand} {all : List expr.Expr} {h i : ℕ}
      → Reads Body (Stem true) ts a h (t ∷ us) → tail_of t.kind ≡ tail.Call → Reads Body Given us all i rest
      → Reads Body (Stem true) ts (plain (e.Call a.expr all)) (1 + max h i) rest
  left : {calls : Bool} {ts us : List Token} {t : Token} {a : Operand} {h : ℕ}
      → Reads Body (Stem calls) ts a h (t ∷ us) → goes_on calls (tail_of t.kind) ≡ false → Reads Body (Whole calls) ts a h (t ∷ us)
  new_with : {ts us rest : List Token} {t u : Token} {a : Operand} {all : List expr.Expr} {h i : ℕ}
      → is_word w.New t ≡ true → Reads Body (Whole false) ts a h (u ∷ us) → is m.OpenParen u ≡ true → Reads Body Given us all i rest
      → Reads Body New (t ∷ ts) (plain (e.New a.expr all)) (1 + max h i) rest
  new_alone : {ts us : List Token} {t u : Token} {a : Operand} {h : ℕ}
      → is_word w.New t ≡ true → Reads Body (Whole false) ts a h (u ∷ us) → is m.OpenParen u ≡ false
      → Reads Body New (t ∷ ts) (plain (e.New a.expr [])) (1 + h) (u ∷ us)
  -- Args? )
  given_none : {rest : List Token} {t : Token} → is m.CloseParen t ≡ true → Reads Body Given (t ∷ rest) [] 0 rest
  given : {ts rest : List Token} {t : Token} {all : List expr.Expr} {h : ℕ}
      → Reads Body Arguments ts all h (t ∷ rest) → is m.CloseParen t ≡ true → Reads Body Given ts all h rest
  last_argument : {ts us : List Token} {t : Token} {a : Operand} {h : ℕ}
      → Reads Body (Assign false) ts a h (t ∷ us) → is m.Comma t ≡ false → Reads Body Arguments ts (a.expr ∷ []) h (t ∷ us)
  argument : {ts us rest : List Token} {t : Token} {a : Operand} {all : List expr.Expr} {h i : ℕ}
      → Reads Body (Assign false) ts a h (t ∷ us) → is m.Comma t ≡ true → Reads Body Arguments us all i rest → Reads Body Arguments ts (a.expr ∷ all) (max h i) rest
  -- the elements of an array literal, with a comma after the last or none
  last_item : {ts us : List Token} {t : Token} {a : Operand} {h : ℕ}
      → Reads Body (Assign false) ts a h (t ∷ us) → is m.Comma t ≡ false → Reads Body Items ts (a.expr ∷ []) h (t ∷ us)
  last_item_comma : {ts us : List Token} {t u : Token} {a : Operand} {h : ℕ}
      → Reads Body (Assign false) ts a h (t ∷ u ∷ us) → is m.Comma t ≡ true → is m.CloseBracket u ≡ true → Reads Body Items ts (a.expr ∷ []) h (u ∷ us)
  item : {ts us rest : List Token} {t : Token} {a : Operand} {all : List expr.Expr} {h i : ℕ}
      → Reads Body (Assign false) ts a h (t ∷ us) → is m.Comma t ≡ true → Reads Body Items us all i rest → Reads Body Items ts (a.expr ∷ all) (max h i) rest
  -- the fields of an object literal
  last_field : {ts us : List Token} {t u v : Token} {a : Operand} {h : ℕ} {key : Units}
      → literal_key_of t.kind ≡ Some key → is m.Colon u ≡ true → Reads Body (Assign false) ts a h (v ∷ us) → is m.Comma v ≡ false
      → Reads Body Fields (t ∷ u ∷ ts) (field_of key a.expr ∷ []) h (v ∷ us)
  next_field : {ts us rest : List Token} {t u v : Token} {a : Operand} {all : List field.Field} {h i : ℕ} {key : Units}
      → literal_key_of t.kind ≡ Some key → is m.Colon u ≡ true → Reads Body (Assign false) ts a h (v ∷ us) → is m.Comma v ≡ true → Reads Body Fields us all i rest
      → Reads Body Fields (t ∷ u ∷ ts) (field_of key a.expr ∷ all) (max h i) rest
  -- Ids
  last_name : {us : List Token} {t u : Token} {units : Units}
      → name_of t.kind ≡ ident.Named units → is m.Comma u ≡ false → Reads Body Names (t ∷ u ∷ us) (units ∷ []) 0 (u ∷ us)
  name : {us rest : List Token} {t u : Token} {units : Units} {all : List Units}
      → name_of t.kind ≡ ident.Named units → is m.Comma u ≡ true → Reads Body Names us all 0 rest → Reads Body Names (t ∷ u ∷ us) (units ∷ all) 0 rest
  no_parameters : {rest : List Token} {t u : Token} → is m.OpenParen t ≡ true → is m.CloseParen u ≡ true → Reads Body Parameters (t ∷ u ∷ rest) [] 0 rest
  parameters : {ts rest : List Token} {t u : Token} {all : List Units}
      → is m.OpenParen t ≡ true → Reads Body Names ts all 0 (u ∷ rest) → is m.CloseParen u ≡ true → Reads Body Parameters (t ∷ ts) all 0 rest
  -- Primary
  this : {rest : List Token} {t : Token} → head_of t.kind ≡ head.This → Reads Body Primary (t ∷ rest) (plain e.This) 1 rest
  identifier : {rest : List Token} {t : Token} {units : Units}
      → head_of t.kind ≡ head.Identifier (ident.Named units) → Reads Body Primary (t ∷ rest) (a_name_as units) 1 rest
  literal : {rest : List Token} {t : Token} {value : Literal} → head_of t.kind ≡ head.Constant value → Reads Body Primary (t ∷ rest) (plain (e.Literal value)) 1 rest
  parentheses : {ts rest : List Token} {t u : Token} {a : Operand} {h : ℕ}
      → head_of t.kind ≡ head.Parenthesis → Reads Body (Expr false) ts a h (u ∷ rest) → is m.CloseParen u ≡ true → Reads Body Primary (t ∷ ts) (plain a.expr) (1 + h) rest
  array_empty : {rest : List Token} {t u : Token} → head_of t.kind ≡ head.Array → is m.CloseBracket u ≡ true → Reads Body Primary (t ∷ u ∷ rest) (plain (e.Array [])) 1 rest
  array : {ts rest : List Token} {t u : Token} {all : List expr.Expr} {h : ℕ}
      → head_of t.kind ≡ head.Array → Reads Body Items ts all h (u ∷ rest) → is m.CloseBracket u ≡ true → Reads Body Primary (t ∷ ts) (plain (e.Array all)) (1 + h) rest
  object_empty : {rest : List Token} {t u : Token} → head_of t.kind ≡ head.Object → is m.CloseBrace u ≡ true → Reads Body Primary (t ∷ u ∷ rest) (plain (e.Object [])) 1 rest
  object : {ts rest : List Token} {t u : Token} {all : List field.Field} {h : ℕ}
      → head_of t.kind ≡ head.Object → Reads Body Fields ts all h (u ∷ rest) → is m.CloseBrace u ≡ true → Reads Body Primary (t ∷ ts) (plain (e.Object all)) (1 + h) rest
  print : {ts rest : List Token} {t u : Token} {all : List expr.Expr} {h : ℕ}
      → head_of t.kind ≡ head.Many → is m.OpenParen u ≡ true → Reads Body Given ts all h rest → Reads Body Primary (t ∷ u ∷ ts) (plain (e.Print all)) (1 + h) rest
  with_one : {ts rest : List Token} {t u v : Token} {a : Operand} {h : ℕ} {word : CallWord}
      → head_of t.kind ≡ head.One word → is m.OpenParen u ≡ true → Reads Body (Assign false) ts a h (v ∷ rest) → is m.CloseParen v ≡ true
      → Reads Body Primary (t ∷ u ∷ ts) (plain (called word a.expr)) (1 + h) rest
  with_none : {rest : List Token} {t u v : Token} {word : CallWord}
      → head_of t.kind ≡ head.Zero word → is m.OpenParen u ≡ true → is m.CloseParen v ≡ true → Reads Body Primary (t ∷ u ∷ v ∷ rest) (plain (called_alone word)) 1 rest
  function_alone : {ts us rest : List Token} {t u v : Token} {names : List Units} {body : script.Script} {h : ℕ}
      → head_of t.kind ≡ head.Function → Reads Body Parameters ts names 0 (u ∷ us) → is m.OpenBrace u ≡ true → Body us body h (v ∷ rest) → is m.CloseBrace v ≡ true
      → Reads Body Primary (t ∷ ts) (plain (e.Function None names body)) (1 + h) rest
  function_named : {ts us rest : List Token} {t n u v : Token} {units : Units} {names : List Units} {body : script.Script} {h : ℕ}
      → head_of t.kind ≡ head.Function → name_of n.kind ≡ ident.Named units → Reads Body Parameters ts names 0 (u ∷ us) → is m.OpenBrace u ≡ true
      → Body us body h (v ∷ rest) → is m.CloseBrace v ≡ true
      → Reads Body Primary (t ∷ n ∷ ts) (plain (e.Function (Some units) names body)) (1 + h) rest
