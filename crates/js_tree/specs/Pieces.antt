-- Pieces that rows share: names, properties, places, functions (ECMA-262 3rd ed.; sections in numbers).
use Rattle.std.specs.Prelude.{zero, suc, ℕ, Bool, true, false, ◌++◌, length, pos, Some, None, if◌then◌else◌, codes}
use Rattle.js_tree.specs.declared.Binding.{Binding}
use Rattle.js_tree.specs.declared.Binding.TheVariants as binding
use Rattle.js_tree.specs.declared.Named.{Named}
use Rattle.turk_base.specs.Names.{Units, Name}
use Rattle.turk_base.specs.Values.{Val, Undefined, Null, Number, Text, Object, Kind, Frame, Plain, Function, BuiltIn}
use Rattle.turk_base.specs.Prog.{KindOf, Make, Get, Put, ReadName, WriteName, Prog, Ask, ◌>>=◌, ask}
use Rattle.turk_base.specs.Errors.{built_in, is_key, or_undefined, type_error, reference_error}

-- where a node runs: the frame, and what `this` is (ES3 10.2)
pub record Here : Type 0 where
  pub frame : Name
  pub this : Val

-- ---- names (10.1.4): so many frames out

abbrev pub parent_in : Kind → Name → Name
parent_in (Frame (Some p)) f = p
parent_in k f = f

abbrev pub frame_out : ℕ → Name → (Name → Prog) → Prog
frame_out zero f go = go f
frame_out (suc k) f go = do
  kind ← ask (KindOf f)
  frame_out k (parent_in kind f) go

abbrev pub built_in_value : Units → Val
built_in_value x = if is_key "Error" x then Object (built_in 0)
    else (if is_key "TypeError" x then Object (built_in 2)
    else (if is_key "ReferenceError" x then Object (built_in 4)
    else (if is_key "String" x then Object (built_in 6) else Undefined)))

abbrev pub get_bound : Here → Units → Binding → (Val → Prog) → Prog
get_bound here x (binding.Out k) go = do
  f ← frame_out k here.frame
  v ← ask (ReadName f x)
  go v
get_bound here x binding.BuiltIn go = go (built_in_value x)
get_bound here x binding.Nothing go = reference_error (x ++ codes " is not defined")

-- writing the own name of a function expression does nothing
abbrev pub set_bound : Here → Units → Bool → Binding → Val → (Unit {0} → Prog) → Prog
set_bound here x true (binding.Out k) v go = go tt
set_bound here x false (binding.Out k) v go = do
  f ← frame_out k here.frame
  _ ← ask (WriteName f x v)
  go tt
set_bound here x own binding.BuiltIn v go = type_error (x ++ codes " is read only")
set_bound here x own binding.Nothing v go = reference_error (x ++ codes " is not defined")

abbrev pub get_variable : Here → Named → (Val → Prog) → Prog
get_variable here x go = get_bound here x.name x.binding go

abbrev pub set_variable : Here → Named → Val → (Unit {0} → Prog) → Prog
set_variable here x v go = set_bound here x.name x.own x.binding v go

-- ---- properties

-- 9.9: undefined and null have none
abbrev pub has_properties : Val → (Unit {0} → Prog) → Prog
has_properties Undefined go = type_error (codes "undefined has no properties")
has_properties Null go = type_error (codes "null has no properties")
has_properties v go = go tt

-- 8.6.2.1; a text has `length` alone (15.5.5.1)
abbrev pub get_property : Val → Units → (Val → Prog) → Prog
get_property (Object c) key go = do
  found ← ask (Get c key)
  go (or_undefined found)
get_property (Text t) key go = go (if is_key "length" key then Number (pos (length t)) else Undefined)
get_property v key go = go Undefined

-- 8.6.2.2; a write to a primitive does nothing
abbrev pub set_property : Val → Units → Val → (Unit {0} → Prog) → Prog
set_property (Object c) key v go = do
  _ ← ask (Put c key v)
  go tt
set_property base key v go = go tt

-- ---- places (8.7): what a target, a callee or the operand of typeof stands for

pub data Place : Type 0 where
  Variable : (x : Named) → Place
  Property : (base : Val) → (key : Units) → Place
  Given : (v : Val) → Place

-- 8.7.1
abbrev pub get_place : Here → Place → (Val → Prog) → Prog
get_place here (Variable x) go = get_variable here x go
get_place here (Property base key) go = get_property base key go
get_place here (Given v) go = go v

-- 8.7.2
abbrev pub set_place : Here → Place → Val → (Unit {0} → Prog) → Prog
set_place here (Variable x) v go = set_variable here x v go
set_place here (Property base key) v go = set_property base key v go
set_place here (Given w) v go = go tt

-- ---- functions

-- 13.2: the function, a plain object, and the one as `prototype` of the other
abbrev pub make_function : ℕ → Name → (Name → Prog) → Prog
make_function number frame go = do
  f ← ask (Make (Function number frame))
  o ← ask (Make (Plain None))
  _ ← ask (Put f (codes "prototype") (Object o))
  go f

abbrev pub if_function : Kind → Prog → Prog → Prog
if_function (Function number frame) then_this else_that = then_this
if_function (BuiltIn which) then_this else_that = then_this
if_function k then_this else_that = else_that

abbrev pub as_function : Val → Prog → (Name → Prog) → Prog
as_function (Object c) otherwise go = Ask (KindOf c) (λ kind. if_function kind (go c) otherwise)
as_function v otherwise go = otherwise
