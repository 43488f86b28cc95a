-- Worked examples: statements, limits and scopes.
use Rattle.std.specs.Prelude.{[], ◌∷◌, true, Some, codes}
use Rattle.js_tree.specs.declared.BinaryOperator.TheVariants as op
use Rattle.turk_base.specs.Values.{ForkInOnce, NotData, TooDeep}
use Rattle.js_tree.specs.Report.{Finished, Refused, Spent, Uncaught, Waiting}
use Rattle.meaning_laws.specs.Words.{assign, assign_by, block, break, call, case, continue, crash, declares, default, do_while, does, dot, each_target, each_var, eq, field, for_, for_in, fork, function, gt, here, if_, item, join, lt, new, null, num, object, once, outer, plus, plus_plus_after, post, print, prompt, returns, script, set, standard, start_var, switch, text, throw, times, truth, try_catch, try_finally, unknown, vars, while}
use Rattle.meaning_laws.specs.Says.{Does}

-- function f() { try { return 1; } finally { return 2; } } print(f());
abbrev pub FinallyReturns : Type 0
FinallyReturns = Does
    (script (
    declares "f" 0 [] [] (try_finally (block (returns (num 1) ∷ [])) (block (returns (num 2) ∷ [])) ∷ []) ∷
    []) (
    does (print (call (here "f") [] ∷ [])) ∷
    []))
    2000 [] Finished 1981 ("2" ∷ [])

-- nope();
abbrev pub Undeclared : Type 0
Undeclared = Does
    (script [] (
    does (call (unknown "nope") []) ∷
    []))
    2000 [] (Uncaught (codes "ReferenceError: nope is not defined")) 1976 []

-- function f(x) { switch (x) { case 1: print("one"); case 2: print("two"); break; default: print("other"); case 3: print("three"); } } f(1); f(2); f(3); f(4);
abbrev pub FallThrough : Type 0
FallThrough = Does
    (script (
    declares "f" 0 ("x" ∷ []) [] (
    switch (here "x") (
    case (num 1) (does (print (text "one" ∷ [])) ∷ []) ∷
    case (num 2) (does (print (text "two" ∷ [])) ∷ break ∷ []) ∷
    default (does (print (text "other" ∷ [])) ∷ []) ∷
    case (num 3) (does (print (text "three" ∷ [])) ∷ []) ∷
    []) ∷
    []) ∷
    []) (
    does (call (here "f") (num 1 ∷ [])) ∷
    does (call (here "f") (num 2 ∷ [])) ∷
    does (call (here "f") (num 3 ∷ [])) ∷
    does (call (here "f") (num 4 ∷ [])) ∷
    []))
    2000 [] Finished 1908 ("one" ∷ "two" ∷ "two" ∷ "three" ∷ "other" ∷ "three" ∷ [])

-- try { fork(function () { throw new Error("x"); }); } catch (e) { print(e.name + " " + e.message); } print(join().length);
abbrev pub BranchThrows : Type 0
BranchThrows = Does
    (script [] (
    try_catch (block (does (fork (function 0 [] [] (throw (new (standard "Error") (text "x" ∷ [])) ∷ []))) ∷ [])) "e" (block (does (print (plus (plus (dot (here "e") "name") (text " ")) (dot (here "e") "message") ∷ [])) ∷ [])) ∷
    does (print (dot join "length" ∷ [])) ∷
    []))
    2000 [] Finished 1944 ("Error x" ∷ "0" ∷ [])

-- var s = 0; do { s += 1; if (s == 2) continue; } while (s < 3); for (var i = 0; i < 5; i++) { if (i == 1) continue; if (i == 3) break; s += i; } while (true) { s++; if (s > 7) break; } print(s, i);
abbrev pub Loops : Type 0
Loops = Does
    (script [] (
    vars (set "s" (num 0) ∷ []) ∷
    do_while (block (does (assign_by op.Add (here "s") (num 1)) ∷ if_ (eq (here "s") (num 2)) continue ∷ [])) (lt (here "s") (num 3)) ∷
    for_ (start_var (vars (set "i" (num 0) ∷ []))) (Some (lt (here "i") (num 5))) (Some (plus_plus_after (here "i"))) (block (if_ (eq (here "i") (num 1)) continue ∷ if_ (eq (here "i") (num 3)) break ∷ does (assign_by op.Add (here "s") (here "i")) ∷ [])) ∷
    while (truth true) (block (does (plus_plus_after (here "s")) ∷ if_ (gt (here "s") (num 7)) break ∷ [])) ∷
    does (print (here "s" ∷ here "i" ∷ [])) ∷
    []))
    2000 [] Finished 1866 ("8 3" ∷ [])

-- var e = 1; try { null.x; } catch (e) { print(e.message); e = 2; } print(e); try { throw 3; } finally { print("f"); }
abbrev pub CatchFrame : Type 0
CatchFrame = Does
    (script [] (
    vars (set "e" (num 1) ∷ []) ∷
    try_catch (block (does (dot null "x") ∷ [])) "e" (block (does (print (dot (here "e") "message" ∷ [])) ∷ does (assign (here "e") (num 2)) ∷ [])) ∷
    does (print (here "e" ∷ [])) ∷
    try_finally (block (throw (num 3) ∷ [])) (block (does (print (text "f" ∷ [])) ∷ [])) ∷
    []))
    2000 [] (Uncaught (codes "3")) 1918 ("null has no properties" ∷ "1" ∷ "f" ∷ [])

-- var n = 0; var v = once(function () { n = 5; return n; }); print(n, v);
abbrev pub OnceKeeps : Type 0
OnceKeeps = Does
    (script [] (
    vars (set "n" (num 0) ∷ []) ∷
    vars (set "v" (once (function 0 [] [] (does (assign (outer 1 "n") (num 5)) ∷ returns (outer 1 "n") ∷ []))) ∷ []) ∷
    does (print (here "n" ∷ here "v" ∷ [])) ∷
    []))
    2000 [] Finished 1971 ("0 5" ∷ [])

-- try { prompt("q"); } finally { print("f"); }
abbrev pub WaitPasses : Type 0
WaitPasses = Does
    (script [] (
    try_finally (block (does (prompt (text "q")) ∷ [])) (block (does (print (text "f" ∷ [])) ∷ [])) ∷
    []))
    2000 [] Waiting 1991 []

-- print(prompt("colour?"), post("x"));
abbrev pub Replied : Type 0
Replied = Does
    (script [] (
    does (print (prompt (text "colour?") ∷ post (text "x") ∷ [])) ∷
    []))
    2000 ((codes "s/0", codes "red") ∷ []) Finished 1976 ("red s/2" ∷ [])

-- print(1); crash();
abbrev pub Crashes : Type 0
Crashes = Does
    (script [] (
    does (print (num 1 ∷ [])) ∷
    does crash ∷
    []))
    2000 [] Waiting 1991 ("1" ∷ [])

-- while (true) {}
abbrev pub Endless : Type 0
Endless = Does
    (script [] (
    while (truth true) (block []) ∷
    []))
    1000 [] Spent 0 []

-- function f() { return f(); } f();
abbrev pub DepthLimit : Type 0
DepthLimit = Does
    (script (
    declares "f" 0 [] [] (returns (call (outer 1 "f") []) ∷ []) ∷
    []) (
    does (call (here "f") []) ∷
    []))
    6000 [] (Refused TooDeep) 4794 []

-- once(function () { return function () {}; });
abbrev pub OnceNoData : Type 0
OnceNoData = Does
    (script [] (
    does (once (function 0 [] [] (returns (function 1 [] [] []) ∷ []))) ∷
    []))
    2000 [] (Refused NotData) 1987 []

-- once(function () { fork(function () {}); });
abbrev pub NoForkInOnce : Type 0
NoForkInOnce = Does
    (script [] (
    does (once (function 0 [] [] (does (fork (function 1 [] [] [])) ∷ []))) ∷
    []))
    2000 [] (Refused ForkInOnce) 1990 []

-- var a = 0; fork(function () { a = 1; prompt("first"); }); fork(function () { a = a + 2; return 7; }); print(a);
abbrev pub BranchesWait : Type 0
BranchesWait = Does
    (script [] (
    vars (set "a" (num 0) ∷ []) ∷
    does (fork (function 0 [] [] (does (assign (outer 1 "a") (num 1)) ∷ does (prompt (text "first")) ∷ []))) ∷
    does (fork (function 1 [] [] (does (assign (outer 1 "a") (plus (outer 1 "a") (num 2))) ∷ returns (num 7) ∷ []))) ∷
    does (print (here "a" ∷ [])) ∷
    []))
    2000 [] Waiting 1958 ("2" ∷ [])

-- for (var i = 0; i < 3; i++) fork(function () { return i * 2; }); print(join().join(","), join().length);
abbrev pub JoinedValues : Type 0
JoinedValues = Does
    (script [] (
    for_ (start_var (vars (set "i" (num 0) ∷ []))) (Some (lt (here "i") (num 3))) (Some (plus_plus_after (here "i"))) (does (fork (function 0 [] [] (returns (times (outer 1 "i") (num 2)) ∷ [])))) ∷
    does (print (call (dot join "join") (text "," ∷ []) ∷ dot join "length" ∷ [])) ∷
    []))
    2000 [] Finished 1918 ("0,2,4 0" ∷ [])

-- var s = 0; for (var i = 0; i < 100; i++) s += i; print(s);
abbrev pub HundredTurns : Type 0
HundredTurns = Does
    (script [] (
    vars (set "s" (num 0) ∷ []) ∷
    for_ (start_var (vars (set "i" (num 0) ∷ []))) (Some (lt (here "i") (num 100))) (Some (plus_plus_after (here "i"))) (does (assign_by op.Add (here "s") (here "i"))) ∷
    does (print (here "s" ∷ [])) ∷
    []))
    3000 [] Finished 2277 ("4950" ∷ [])

-- var o = {a: 1, b: 2}, t = {}, i = 0; for (t["k" + i++] in o) { } print(t.k0, t.k1, i); for (var k in "text") print(k);
abbrev pub ForInTarget : Type 0
ForInTarget = Does
    (script [] (
    vars (set "o" (object (field "a" (num 1) ∷ field "b" (num 2) ∷ [])) ∷ set "t" (object []) ∷ set "i" (num 0) ∷ []) ∷
    for_in (each_target (item (here "t") (plus (text "k") (plus_plus_after (here "i"))))) (here "o") (block []) ∷
    does (print (dot (here "t") "k0" ∷ dot (here "t") "k1" ∷ here "i" ∷ [])) ∷
    for_in (each_var "k") (text "text") (does (print (here "k" ∷ []))) ∷
    []))
    2000 [] Finished 1949 ("a b 2" ∷ [])
