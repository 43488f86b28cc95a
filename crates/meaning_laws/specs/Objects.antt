-- Worked examples: objects, arrays and functions.
use Rattle.std.specs.Prelude.{[], ◌∷◌, codes}
use Rattle.js_tree.specs.declared.BinaryOperator.TheVariants as op
use Rattle.turk_base.specs.Values.{TooLong}
use Rattle.js_tree.specs.Report.{Finished, Refused, Spent, Uncaught}
use Rattle.meaning_laws.specs.Words.{array, assign, assign_by, block, call, conditional, declares, delete_dot, does, dot, each_var, field, for_in, function, function_named, here, instance_of, is_in, item, less_by, lt, minus, new, null, num, object, only, outer, own_name, plus, print, returns, script, set, standard, text, this, try_catch, typeof, unknown, ushr, vars}
use Rattle.meaning_laws.specs.Says.{Does}

-- print(typeof make); var c = make(10); c(); c(); print(c()); function make(n) { var n; return function () { n = n + 1; return n; }; }
abbrev pub Closure : Type 0
Closure = Does
    (script (
    declares "make" 0 ("n" ∷ []) [] (
    vars (only "n" ∷ []) ∷
    returns (function 1 [] [] (does (assign (outer 1 "n") (plus (outer 1 "n") (num 1))) ∷ returns (outer 1 "n") ∷ [])) ∷
    []) ∷
    []) (
    does (print (typeof (here "make") ∷ [])) ∷
    vars (set "c" (call (here "make") (num 10 ∷ [])) ∷ []) ∷
    does (call (here "c") []) ∷
    does (call (here "c") []) ∷
    does (print (call (here "c") [] ∷ [])) ∷
    []))
    2000 [] Finished 1935 ("function" ∷ "13" ∷ [])

-- var o = {b: 1, a: 2}; delete o.b; o.b = 3; var s = ""; for (var k in o) s += k + o[k]; print(s, [3, 4, 5].slice(-2).join("+"), "a,b".split(",").length, String.fromCharCode(72, 105));
abbrev pub KeysAndTexts : Type 0
KeysAndTexts = Does
    (script [] (
    vars (set "o" (object (field "b" (num 1) ∷ field "a" (num 2) ∷ [])) ∷ []) ∷
    does (delete_dot (here "o") "b") ∷
    does (assign (dot (here "o") "b") (num 3)) ∷
    vars (set "s" (text "") ∷ []) ∷
    for_in (each_var "k") (here "o") (does (assign_by op.Add (here "s") (plus (here "k") (item (here "o") (here "k"))))) ∷
    does (print (
    here "s" ∷
    call (dot (call (dot (array (num 3 ∷ num 4 ∷ num 5 ∷ [])) "slice") (minus (num 2) ∷ [])) "join") (text "+" ∷ []) ∷
    dot (call (dot (text "a,b") "split") (text "," ∷ [])) "length" ∷
    call (dot (standard "String") "fromCharCode") (num 72 ∷ num 105 ∷ []) ∷
    [])) ∷
    []))
    2000 [] Finished 1897 ("a2b3 4+5 2 Hi" ∷ [])

-- function P() { } P.prototype.x = 5; var p = new P(); print(p.x, p instanceof P, "x" in p); p.x = 6; print(p.x, P.prototype.x); delete p.x; print(p.x);
abbrev pub PrototypeChain : Type 0
PrototypeChain = Does
    (script (
    declares "P" 0 [] [] [] ∷
    []) (
    does (assign (dot (dot (here "P") "prototype") "x") (num 5)) ∷
    vars (set "p" (new (here "P") []) ∷ []) ∷
    does (print (dot (here "p") "x" ∷ instance_of (here "p") (here "P") ∷ is_in (text "x") (here "p") ∷ [])) ∷
    does (assign (dot (here "p") "x") (num 6)) ∷
    does (print (dot (here "p") "x" ∷ dot (dot (here "P") "prototype") "x" ∷ [])) ∷
    does (delete_dot (here "p") "x") ∷
    does (print (dot (here "p") "x" ∷ [])) ∷
    []))
    2000 [] Finished 1925 ("5 true true" ∷ "6 5" ∷ "5" ∷ [])

-- var a = [1, 2, 3]; a[5] = 6; print(a.length); a.length = 2; print(a.join(), a[5]); a.push(7, 8); print(a.pop(), a.length, a.reverse().join("-"));
abbrev pub ArrayLength : Type 0
ArrayLength = Does
    (script [] (
    vars (set "a" (array (num 1 ∷ num 2 ∷ num 3 ∷ [])) ∷ []) ∷
    does (assign (item (here "a") (num 5)) (num 6)) ∷
    does (print (dot (here "a") "length" ∷ [])) ∷
    does (assign (dot (here "a") "length") (num 2)) ∷
    does (print (call (dot (here "a") "join") [] ∷ item (here "a") (num 5) ∷ [])) ∷
    does (call (dot (here "a") "push") (num 7 ∷ num 8 ∷ [])) ∷
    does (print (call (dot (here "a") "pop") [] ∷ dot (here "a") "length" ∷ call (dot (call (dot (here "a") "reverse") []) "join") (text "-" ∷ []) ∷ [])) ∷
    []))
    2000 [] Finished 1898 ("6" ∷ "1,2 undefined" ∷ "8 3 7-2-1" ∷ [])

-- var a = []; a[2] = 1; var b = a.concat([4], 5); print(b.length, b.join(), 0 in b, 2 in b); print(a.slice(0, 2).length, String(), String(null), TypeError("m").message);
abbrev pub ConcatHoles : Type 0
ConcatHoles = Does
    (script [] (
    vars (set "a" (array []) ∷ []) ∷
    does (assign (item (here "a") (num 2)) (num 1)) ∷
    vars (set "b" (call (dot (here "a") "concat") (array (num 4 ∷ []) ∷ num 5 ∷ [])) ∷ []) ∷
    does (print (dot (here "b") "length" ∷ call (dot (here "b") "join") [] ∷ is_in (num 0) (here "b") ∷ is_in (num 2) (here "b") ∷ [])) ∷
    does (print (
    dot (call (dot (here "a") "slice") (num 0 ∷ num 2 ∷ [])) "length" ∷
    call (standard "String") [] ∷
    call (standard "String") (null ∷ []) ∷
    dot (call (standard "TypeError") (text "m" ∷ [])) "message" ∷
    [])) ∷
    []))
    2000 [] Finished 1889 ("5 ,,1,4,5 false true" ∷ "2  null m" ∷ [])

-- var f = function g(n) { g = 1; return n < 1 ? 0 : n + g(n - 1); }; print(f(3), typeof g);
abbrev pub OwnName : Type 0
OwnName = Does
    (script [] (
    vars (
    set "f" (function_named "g" 0 ("n" ∷ []) [] (
    does (assign (own_name 1 "g") (num 1)) ∷
    returns (conditional (lt (here "n") (num 1)) (num 0) (plus (here "n") (call (own_name 1 "g") (less_by (here "n") (num 1) ∷ [])))) ∷
    [])) ∷
    []) ∷
    does (print (call (here "f") (num 3 ∷ []) ∷ typeof (unknown "g") ∷ [])) ∷
    []))
    2000 [] Finished 1914 ("6 undefined" ∷ [])

-- function F(x) { this.x = x; } F.prototype.get = function () { return this.x; }; var f = new F(4); print(f.get()); var g = f.get; g();
abbrev pub ThisAndNew : Type 0
ThisAndNew = Does
    (script (
    declares "F" 0 ("x" ∷ []) [] (does (assign (dot this "x") (here "x")) ∷ []) ∷
    []) (
    does (assign (dot (dot (here "F") "prototype") "get") (function 1 [] [] (returns (dot this "x") ∷ []))) ∷
    vars (set "f" (new (here "F") (num 4 ∷ [])) ∷ []) ∷
    does (print (call (dot (here "f") "get") [] ∷ [])) ∷
    vars (set "g" (dot (here "f") "get") ∷ []) ∷
    does (call (here "g") []) ∷
    []))
    2000 [] (Uncaught (codes "TypeError: undefined has no properties")) 1924 ("4" ∷ [])

-- print(f, typeof g); var f = 1; function g(a, a) { return a; } function g(a, a) { return a; } print(g(1, 2), g(1));
abbrev pub Hoisting : Type 0
Hoisting = Does
    (script (
    declares "g" 0 ("a" ∷ "a" ∷ []) [] (returns (here "a") ∷ []) ∷
    declares "g" 1 ("a" ∷ "a" ∷ []) [] (returns (here "a") ∷ []) ∷
    []) (
    does (print (here "f" ∷ typeof (here "g") ∷ [])) ∷
    vars (set "f" (num 1) ∷ []) ∷
    does (print (call (here "g") (num 1 ∷ num 2 ∷ []) ∷ call (here "g") (num 1 ∷ []) ∷ [])) ∷
    []))
    2000 [] Finished 1920 ("undefined function" ∷ "2 undefined" ∷ [])

-- function f() { print("f"); return "k"; } try { null[f()]; } catch (e) { print(e.message); } try { undefined.x = f(); } catch (e) { print(e.message); } try { nope = f(); } catch (e) { print(e.message); }
abbrev pub KeyThenBase : Type 0
KeyThenBase = Does
    (script (
    declares "f" 0 [] [] (does (print (text "f" ∷ [])) ∷ returns (text "k") ∷ []) ∷
    []) (
    try_catch (block (does (item null (call (here "f") [])) ∷ [])) "e" (block (does (print (dot (here "e") "message" ∷ [])) ∷ [])) ∷
    try_catch (block (does (assign (dot (standard "undefined") "x") (call (here "f") [])) ∷ [])) "e" (block (does (print (dot (here "e") "message" ∷ [])) ∷ [])) ∷
    try_catch (block (does (assign (unknown "nope") (call (here "f") [])) ∷ [])) "e" (block (does (print (dot (here "e") "message" ∷ [])) ∷ [])) ∷
    []))
    2000 [] Finished 1797 ("f" ∷ "null has no properties" ∷ "undefined has no properties" ∷ "f" ∷ "nope is not defined" ∷ [])

-- function F() { this.a = 1; } var G = F; var x = new G(G = 2); print(x.a, G); var h = function () { return 1; }; print(h(h = function () { return 2; })); var o = {m: function (x) { return 1; }}; print(o.m(o.m = function (x) { return 2; }));
abbrev pub CalleeOrder : Type 0
CalleeOrder = Does
    (script (
    declares "F" 0 [] [] (does (assign (dot this "a") (num 1)) ∷ []) ∷
    []) (
    vars (set "G" (here "F") ∷ []) ∷
    vars (set "x" (new (here "G") (assign (here "G") (num 2) ∷ [])) ∷ []) ∷
    does (print (dot (here "x") "a" ∷ here "G" ∷ [])) ∷
    vars (set "h" (function 1 [] [] (returns (num 1) ∷ [])) ∷ []) ∷
    does (print (call (here "h") (assign (here "h") (function 2 [] [] (returns (num 2) ∷ [])) ∷ []) ∷ [])) ∷
    vars (set "o" (object (field "m" (function 3 ("x" ∷ []) [] (returns (num 1) ∷ [])) ∷ [])) ∷ []) ∷
    does (print (call (dot (here "o") "m") (assign (dot (here "o") "m") (function 4 ("x" ∷ []) [] (returns (num 2) ∷ [])) ∷ []) ∷ [])) ∷
    []))
    2000 [] Finished 1923 ("1 2" ∷ "2" ∷ "2" ∷ [])

-- nope;
abbrev pub MessageUnpaid : Type 0
MessageUnpaid = Does
    (script [] (
    does (unknown "nope") ∷
    []))
    13 [] Spent 10 []

-- var o = {f: function () { return g(); }}; function g() { return this; } print(o.f(), typeof o.f, this);
abbrev pub PlainThis : Type 0
PlainThis = Does
    (script (
    declares "g" 0 [] [] (returns this ∷ []) ∷
    []) (
    vars (set "o" (object (field "f" (function 1 [] [] (returns (call (outer 1 "g") []) ∷ [])) ∷ [])) ∷ []) ∷
    does (print (call (dot (here "o") "f") [] ∷ typeof (dot (here "o") "f") ∷ this ∷ [])) ∷
    []))
    2000 [] Finished 1926 ("undefined function undefined" ∷ [])

-- var a = [1]; a.push = function (x) { return x + 1; }; print(a.push(1), a.length); a.join = 3; try { a.join(); } catch (e) { print(e.message); } try { "ab".length(); } catch (e) { print(e.message); } print(String.fromCharCode(65601, -1 >>> 16).length);
abbrev pub MethodsFound : Type 0
MethodsFound = Does
    (script [] (
    vars (set "a" (array (num 1 ∷ [])) ∷ []) ∷
    does (assign (dot (here "a") "push") (function 0 ("x" ∷ []) [] (returns (plus (here "x") (num 1)) ∷ []))) ∷
    does (print (call (dot (here "a") "push") (num 1 ∷ []) ∷ dot (here "a") "length" ∷ [])) ∷
    does (assign (dot (here "a") "join") (num 3)) ∷
    try_catch (block (does (call (dot (here "a") "join") []) ∷ [])) "e" (block (does (print (dot (here "e") "message" ∷ [])) ∷ [])) ∷
    try_catch (block (does (call (dot (text "ab") "length") []) ∷ [])) "e" (block (does (print (dot (here "e") "message" ∷ [])) ∷ [])) ∷
    does (print (dot (call (dot (standard "String") "fromCharCode") (num 65601 ∷ ushr (minus (num 1)) (num 16) ∷ [])) "length" ∷ [])) ∷
    []))
    2000 [] Finished 1860 ("2 1" ∷ "not a function" ∷ "not a function" ∷ "2" ∷ [])

-- var o = {a: 1, b: 2, c: 3}; for (var k in o) { print(k); delete o.b; }
abbrev pub DeletedKeys : Type 0
DeletedKeys = Does
    (script [] (
    vars (set "o" (object (field "a" (num 1) ∷ field "b" (num 2) ∷ field "c" (num 3) ∷ [])) ∷ []) ∷
    for_in (each_var "k") (here "o") (block (does (print (here "k" ∷ [])) ∷ does (delete_dot (here "o") "b") ∷ [])) ∷
    []))
    2000 [] Finished 1968 ("a" ∷ "c" ∷ [])

-- var a = []; a[1000000] = 1;
abbrev pub TooLongIndex : Type 0
TooLongIndex = Does
    (script [] (
    vars (set "a" (array []) ∷ []) ∷
    does (assign (item (here "a") (num 1000000)) (num 1)) ∷
    []))
    2000 [] (Refused TooLong) 1983 []

-- function F() { } F.prototype = [7, 8]; var p = new F(); p.x = 1; var s = ""; for (var k in p) s += k; print(s, "length" in p, p.length);
abbrev pub ArrayPrototype : Type 0
ArrayPrototype = Does
    (script (
    declares "F" 0 [] [] [] ∷
    []) (
    does (assign (dot (here "F") "prototype") (array (num 7 ∷ num 8 ∷ []))) ∷
    vars (set "p" (new (here "F") []) ∷ []) ∷
    does (assign (dot (here "p") "x") (num 1)) ∷
    vars (set "s" (text "") ∷ []) ∷
    for_in (each_var "k") (here "p") (does (assign_by op.Add (here "s") (here "k"))) ∷
    does (print (here "s" ∷ is_in (text "length") (here "p") ∷ dot (here "p") "length" ∷ [])) ∷
    []))
    2000 [] Finished 1931 ("x01 true 2" ∷ [])
