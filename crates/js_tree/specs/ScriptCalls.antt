-- The rows of the script calls: print, the asks, and the calls that open a scope (own rules).
use Rattle.std.specs.Prelude.{List, [], ◌∷◌, ◌++◌, ℤ, pos, int_lt, if◌then◌else◌, codes, true}
use Rattle.js_tree.specs.declared.Expr.{Expr}
use Rattle.js_tree.specs.declared.Stmt.{Stmt}
use Rattle.turk_base.specs.Names.{Units}
use Rattle.turk_base.specs.Values.{Val, Undefined, Number, Text, Object}
use Rattle.turk_base.specs.Conversions.{number_in}
use Rattle.turk_base.specs.Prog.{Print, Post, Reply, Draw, Join, Crash, MayFork, Prog, Ask, Once, Fork, ◌>>=◌, ask, value, nothing, given, made}
use Rattle.turk_base.specs.Errors.{type_error, text_from}
use Rattle.js_tree.specs.Pieces.{Here, as_function}
use Rattle.js_tree.specs.Calls.{Code, call_value}
use Rattle.js_tree.specs.Expressions.{eval, each}

-- the texts of the values, joined by a space; each is paid where it is made
abbrev pub line_of : List Val → (Units → Prog) → Prog
line_of [] go = go []
line_of (v ∷ []) go = text_from v go
line_of (v ∷ vs) go = do
  s ← text_from v
  t ← line_of vs
  go (s ++ 32 ∷ t)

-- the token and the reply are paid after the record was found or made
abbrev pub reply_to : Units → Prog
reply_to token = do
  r ← ask (Reply token)
  t ← made r
  value (Text t)

abbrev pub draw_below : ℤ → Prog
draw_below n = if int_lt n (pos 1) then type_error (codes "random needs a positive number") else Ask (Draw n) (λ m. value (Number m))

-- the branches of the scope joined
unfoldable pub join_row : Prog
join_row = Ask (Join true) (λ v. value v)

-- the run waits here
unfoldable pub crash_row : Prog
crash_row = Ask Crash (λ _. nothing)

module _ (expr : Here → Expr → Prog) where
  unfoldable pub print_row : Here → List Expr → Prog
  print_row here es = do
    vs ← each expr here es
    line ← line_of vs
    _ ← ask (Print line)
    value Undefined

  unfoldable pub post_row : Here → Expr → Prog
  post_row here e = do
    v ← eval expr here e
    t ← text_from v
    token ← ask (Post t)
    u ← made token
    value (Text u)

  unfoldable pub reply_row : Here → Expr → Prog
  reply_row here e = do
    v ← eval expr here e
    t ← text_from v
    reply_to t

  unfoldable pub prompt_row : Here → Expr → Prog
  prompt_row here e = do
    v ← eval expr here e
    t ← text_from v
    token ← ask (Post t)
    u ← made token
    reply_to u

  unfoldable pub random_row : Here → Expr → Prog
  random_row here e = do
    v ← eval expr here e
    n ← given (number_in v)
    draw_below n

module _ (table : List Code) (expr : Here → Expr → Prog) (stmt : Here → Stmt → Prog) where
  unfoldable pub once_row : Here → Expr → Prog
  once_row here e = do
    v ← eval expr here e
    f ← as_function v (type_error (codes "once needs a function"))
    Once (call_value table stmt (Object f) Undefined [])

  unfoldable pub fork_row : Here → Expr → Prog
  fork_row here e = do
    _ ← ask MayFork
    v ← eval expr here e
    f ← as_function v (type_error (codes "fork needs a function"))
    Fork (call_value table stmt (Object f) Undefined [])
