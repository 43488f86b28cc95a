-- Functions: their code, entering it, calling and constructing (ECMA-262 3rd ed. 10 and 13).
use Rattle.std.specs.Prelude.{ℕ, zero, suc, Bool, true, false, ◌||◌, ◌==◌, List, [], ◌∷◌, ◌++◌, slice_get, map, Option, Some, None, if◌then◌else◌, codes}
use Rattle.js_tree.specs.declared.ExprNode.TheOpen.{StmtNode-F, ForStart-F, ForTarget-F}
use Rattle.js_tree.specs.declared.ForStart.{out-ForStart}
use Rattle.js_tree.specs.declared.ForTarget.{out-ForTarget}
use Rattle.js_tree.specs.declared.Case.{out-Case}
use Rattle.js_tree.specs.declared.Catch.{out-Catch}
use Rattle.js_tree.specs.declared.Declaration.{Declaration}
use Rattle.js_tree.specs.declared.Script.{Script}
use Rattle.js_tree.specs.declared.Stmt.{Stmt}
use Rattle.js_tree.specs.declared.Variable.{out-Variable}
use Rattle.js_tree.specs.Trees.{StmtLevel, StartLevel, TargetLevel, stmt_level, declared_name, declared_body, number_of, functions_of, statements_of}
use Rattle.turk_base.specs.Names.{Units, Name}
use Rattle.turk_base.specs.Values.{Val, Undefined, Text, Object, Kind, Frame, Plain, Function, BuiltIn, Outcome, Return, Throw}
use Rattle.turk_base.specs.Conversions.{same_units}
use Rattle.turk_base.specs.Prog.{KindOf, Make, Get, WriteName, Declare, Prog, Done, Ask, Then, Always, ◌>>=◌, ask, value, nothing}
use Rattle.turk_base.specs.Errors.{type_error, not_a_function}
use Rattle.turk_base.specs.BuiltIns.{call_built_in, cell_method, text_method}
use Rattle.js_tree.specs.Pieces.{Here, get_place, make_function, Place, Property}

-- the code of a function; its number is its place in the table. A function expression may have a name of its own
pub record Code : Type 0 where
  pub parameters : List Units
  pub body : Script

-- ---- the variables that statements declare, in order (12.2); a script's tree is at most 200 deep

abbrev pub gather : {A : Type 0} → (A → List Units) → List A → List Units
gather f [] = []
gather f (x ∷ xs) = f x ++ gather f xs

abbrev pub gather_option : {A : Type 0} → (A → List Units) → Option A → List Units
gather_option f (Some x) = f x
gather_option f None = []

module _ (below : Stmt → List Units) where
  abbrev pub start_variables : StartLevel → List Units
  start_variables (ForStart-F.VarStart s) = below s
  start_variables other = []

  abbrev pub target_variables : TargetLevel → List Units
  target_variables (ForTarget-F.VarEach x) = x.name ∷ []
  target_variables other = []

  abbrev pub variables_of : StmtLevel → List Units
  variables_of (StmtNode-F.Block ss) = gather below ss
  variables_of (StmtNode-F.Var xs) = map (λ x. (out-Variable x).named.name) xs
  variables_of (StmtNode-F.If e a b) = below a ++ gather_option below b
  variables_of (StmtNode-F.DoWhile s e) = below s
  variables_of (StmtNode-F.While e s) = below s
  variables_of (StmtNode-F.For begin test step s) = start_variables (out-ForStart begin) ++ below s
  variables_of (StmtNode-F.ForIn into e s) = target_variables (out-ForTarget into) ++ below s
  variables_of (StmtNode-F.Switch e cases) = gather (λ c. gather below (out-Case c).statements) cases
  variables_of (StmtNode-F.Try s c f) = below s ++ gather_option (λ c. below (out-Catch c).body) c ++ gather_option below f
  variables_of node = []

abbrev pub variables_to : ℕ → Stmt → List Units
variables_to zero s = []
variables_to (suc depth) s = variables_of (variables_to depth) (stmt_level s)

abbrev pub variables : List Stmt → List Units
variables ss = gather (variables_to 200) ss

-- ---- entering code (10.1.3): parameters, then functions, then variables; names says what the frame has

abbrev pub has : List Units → Units → Bool
has [] x = false
has (y ∷ ys) x = same_units y x || has ys x

abbrev pub head_value : List Val → Val
head_value [] = Undefined
head_value (v ∷ vs) = v

abbrev pub tail_values : List Val → List Val
tail_values [] = []
tail_values (v ∷ vs) = vs

abbrev pub add_name : Bool → Name → Units → Val → (Unit {0} → Prog) → Prog
add_name true f x v go = Ask (WriteName f x v) go
add_name false f x v go = Ask (Declare f x v) go

-- of equal parameters the last one counts
abbrev pub add_parameters : Name → List Units → List Val → (Unit {0} → Prog) → Prog
add_parameters f [] vs go = go tt
add_parameters f (x ∷ xs) vs go =
    if has xs x then add_parameters f xs (tail_values vs) go
    else Ask (Declare f x (head_value vs)) (λ _. add_parameters f xs (tail_values vs) go)

abbrev pub add_functions : Name → List Units → List Declaration → (List Units → Prog) → Prog
add_functions f names [] go = go names
add_functions f names (d ∷ ds) go = do
  c ← make_function (number_of (declared_body d)) f
  _ ← add_name (has names (declared_name d)) f (declared_name d) (Object c)
  add_functions f ((declared_name d) ∷ names) ds go

abbrev pub add_variables : Name → List Units → List Units → (Unit {0} → Prog) → Prog
add_variables f names [] go = go tt
add_variables f names (x ∷ xs) go =
    if has names x then add_variables f names xs go
    else Ask (Declare f x Undefined) (λ _. add_variables f (x ∷ names) xs go)

abbrev pub enter : Name → List Units → Script → (Unit {0} → Prog) → Prog
enter f names body go = do
  names' ← add_functions f names (functions_of body)
  _ ← add_variables f names' (variables (statements_of body))
  go tt

-- ---- calls

-- how the body of a called function ends (13.2.1)
abbrev pub called : Outcome → Prog
called (Return v) = value v
called (Throw v) = Done (Throw v)
called o = nothing

module _ (table : List Code) (stmt : Here → Stmt → Prog) where
  -- statements in order, to the first that ends otherwise than normally (12.1)
  abbrev pub list : Here → List Stmt → Prog
  list here [] = nothing
  list here (s ∷ ss) = Then (stmt here s) (λ _. list here ss)

  abbrev pub call_code : Option Code → Name → Val → List Val → Prog
  call_code None around this args = nothing
  call_code (Some code) around this args = do
    f ← ask (Make (Frame (Some around)))
    _ ← add_parameters f code.parameters args
    _ ← enter f code.parameters code.body
    Always (list (record { frame = f; this = this }) (statements_of code.body)) called

  abbrev pub call_kind : Kind → Val → List Val → Prog
  call_kind (Function number around) this args = call_code (slice_get table number) around this args
  call_kind (BuiltIn which) this args = call_built_in which Undefined args
  call_kind kind this args = not_a_function

  -- 13.2.1; for once, fork and calls of a value `this` is undefined
  abbrev pub call_value : Val → Val → List Val → Prog
  call_value (Object c) this args = Ask (KindOf c) (λ kind. call_kind kind this args)
  call_value v this args = not_a_function

  abbrev pub call_method : Option ℕ → Val → List Val → Prog
  call_method (Some which) this args = call_built_in which this args
  call_method None this args = not_a_function

  abbrev pub call_found : Option Val → Name → Units → List Val → Prog
  call_found (Some v) base key args = call_value v (Object base) args
  call_found None base key args = Ask (KindOf base) (λ kind. call_method (cell_method kind key) (Object base) args)

  -- 11.2.3: the property is looked up after the arguments were evaluated
  abbrev pub call_property : Val → Units → List Val → Prog
  call_property (Object base) key args = Ask (Get base key) (λ found. call_found found base key args)
  call_property (Text t) key args = call_method (text_method key) (Text t) args
  call_property base key args = not_a_function

  abbrev pub call_place : Here → Place → List Val → Prog
  call_place here (Property base key) args = call_property base key args
  call_place here place args = do
    f ← get_place here place
    call_value f Undefined args

  -- 13.2.2
  abbrev pub prototype_in : Option Val → Option Name
  prototype_in (Some (Object p)) = Some p
  prototype_in v = None

  abbrev pub constructed : Name → Val → Val
  constructed made (Object c) = Object c
  constructed made v = Object made

  abbrev pub construct_kind : Kind → Name → List Val → Prog
  construct_kind (Function number around) c args = do
    prototype ← ask (Get c (codes "prototype"))
    o ← ask (Make (Plain (prototype_in prototype)))
    Then (call_code (slice_get table number) around (Object o) args) (λ v. value (constructed o v))
  construct_kind (BuiltIn which) c args = if which == 12 then type_error (codes "not a constructor") else call_built_in which Undefined args
  construct_kind kind c args = type_error (codes "not a constructor")

  abbrev pub construct : Val → List Val → Prog
  construct (Object c) args = Ask (KindOf c) (λ kind. construct_kind kind c args)
  construct v args = type_error (codes "not a constructor")
