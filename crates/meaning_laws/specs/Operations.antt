-- Worked examples: numbers, texts and operators.
use Rattle.std.specs.Prelude.{[], ◌∷◌, true, codes}
use Rattle.js_tree.specs.declared.BinaryOperator.TheVariants as op
use Rattle.turk_base.specs.Values.{NoPrimitive, NotWhole}
use Rattle.js_tree.specs.Report.{Finished, Refused, Spent, Uncaught}
use Rattle.meaning_laws.specs.Words.{array, assign, assign_by, bit_and, bit_not, bit_or, bit_xor, block, call, comma, does, dot, eq, field, gt, here, instance_of, is_in, item, lt, minus, minus_minus_before, modulo, new, not_, null, num, object, only, over, plus, plus_plus_after, plus_plus_before, print, same, script, set, shl, shr, standard, text, truth, try_catch, typeof, unknown, ushr, vars}
use Rattle.meaning_laws.specs.Says.{Does}

-- print(1 + 2);
abbrev pub OneAndTwo : Type 0
OneAndTwo = Does
    (script [] (
    does (print (plus (num 1) (num 2) ∷ [])) ∷
    []))
    2000 [] Finished 1991 ("3" ∷ [])

-- var a = 1 / var b = a / ++b / print(a, b)
abbrev pub Increments : Type 0
Increments = Does
    (script [] (
    vars (set "a" (num 1) ∷ []) ∷
    vars (set "b" (here "a") ∷ []) ∷
    does (plus_plus_before (here "b")) ∷
    does (print (here "a" ∷ here "b" ∷ [])) ∷
    []))
    2000 [] Finished 1981 ("1 2" ∷ [])

-- print(9007199254740991 + 1);
abbrev pub LargestSum : Type 0
LargestSum = Does
    (script [] (
    does (print (plus (num 9007199254740991) (num 1) ∷ [])) ∷
    []))
    2000 [] Finished 1961 ("9007199254740992" ∷ [])

-- print(9007199254740992 + 1);
abbrev pub TooLargeSum : Type 0
TooLargeSum = Does
    (script [] (
    does (print (plus (num 9007199254740992) (num 1) ∷ [])) ∷
    []))
    2000 [] (Refused NotWhole) 1994 []

-- print(6 / 2);
abbrev pub ExactQuotient : Type 0
ExactQuotient = Does
    (script [] (
    does (print (over (num 6) (num 2) ∷ [])) ∷
    []))
    2000 [] Finished 1991 ("3" ∷ [])

-- print(7 / 2);
abbrev pub NoQuotient : Type 0
NoQuotient = Does
    (script [] (
    does (print (over (num 7) (num 2) ∷ [])) ∷
    []))
    2000 [] (Refused NotWhole) 1994 []

-- print(-7 % 3, 1 << 33, -1 >>> 0);
abbrev pub BitsAndRemainder : Type 0
BitsAndRemainder = Does
    (script [] (
    does (print (modulo (minus (num 7)) (num 3) ∷ shl (num 1) (num 33) ∷ ushr (minus (num 1)) (num 0) ∷ [])) ∷
    []))
    2000 [] Finished 1957 ("-1 2 4294967295" ∷ [])

-- print(1 + 2);
abbrev pub FuelEnough : Type 0
FuelEnough = Does
    (script [] (
    does (print (plus (num 1) (num 2) ∷ [])) ∷
    []))
    9 [] Finished 0 ("3" ∷ [])

-- print(1 + 2);
abbrev pub FuelShort : Type 0
FuelShort = Does
    (script [] (
    does (print (plus (num 1) (num 2) ∷ [])) ∷
    []))
    8 [] Spent 1 []

-- print("hello".indexOf("l", 3), "hello".substring(3, 1), "hello".charAt(1), "hello".charCodeAt(0), "a--b--".split("--").length, "abc".split("").join("."));
abbrev pub Texts : Type 0
Texts = Does
    (script [] (
    does (print (
    call (dot (text "hello") "indexOf") (text "l" ∷ num 3 ∷ []) ∷
    call (dot (text "hello") "substring") (num 3 ∷ num 1 ∷ []) ∷
    call (dot (text "hello") "charAt") (num 1 ∷ []) ∷
    call (dot (text "hello") "charCodeAt") (num 0 ∷ []) ∷
    dot (call (dot (text "a--b--") "split") (text "--" ∷ [])) "length" ∷
    call (dot (call (dot (text "abc") "split") (text "" ∷ [])) "join") (text "." ∷ []) ∷
    [])) ∷
    []))
    2000 [] Finished 1929 ("3 el e 104 3 a.b.c" ∷ [])

-- print(null == undefined, null == 0, "1" == 1, true == "1", " 0x10 " == 16, "a" == 0, 1 === "1", "b" > "a", "10" < "9", 10 < "9");
abbrev pub Equality : Type 0
Equality = Does
    (script [] (
    does (print (
    eq null (standard "undefined") ∷
    eq null (num 0) ∷
    eq (text "1") (num 1) ∷
    eq (truth true) (text "1") ∷
    eq (text " 0x10 ") (num 16) ∷
    eq (text "a") (num 0) ∷
    same (num 1) (text "1") ∷
    gt (text "b") (text "a") ∷
    lt (text "10") (text "9") ∷
    lt (num 10) (text "9") ∷
    [])) ∷
    []))
    2000 [] Finished 1869 ("true false true true true false false true true false" ∷ [])

-- var o = {n: "5"}; print(o.n++, o.n, --o.n, o["n"] += "x", -"3", ~5, !o, 7 & 3 | 8 ^ 2, -9 >> 1);
abbrev pub Updates : Type 0
Updates = Does
    (script [] (
    vars (set "o" (object (field "n" (text "5") ∷ [])) ∷ []) ∷
    does (print (
    plus_plus_after (dot (here "o") "n") ∷
    dot (here "o") "n" ∷
    minus_minus_before (dot (here "o") "n") ∷
    assign_by op.Add (item (here "o") (text "n")) (text "x") ∷
    minus (text "3") ∷
    bit_not (num 5) ∷
    not_ (here "o") ∷
    bit_or (bit_and (num 7) (num 3)) (bit_xor (num 8) (num 2)) ∷
    shr (minus (num 9)) (num 1) ∷
    [])) ∷
    []))
    2000 [] Finished 1918 ("5 6 5 5x -3 -6 false 11 -5" ∷ [])

-- print([]);
abbrev pub PrintedObject : Type 0
PrintedObject = Does
    (script [] (
    does (print (array [] ∷ [])) ∷
    []))
    2000 [] (Refused NoPrimitive) 1995 []

-- print(12345 + {});
abbrev pub SumRefusedFirst : Type 0
SumRefusedFirst = Does
    (script [] (
    does (print (plus (num 12345) (object []) ∷ [])) ∷
    []))
    2000 [] (Refused NoPrimitive) 1993 []

-- var o = {}; print(1, o, nope());
abbrev pub LineOrder : Type 0
LineOrder = Does
    (script [] (
    vars (set "o" (object []) ∷ []) ∷
    does (print (num 1 ∷ here "o" ∷ call (unknown "nope") [] ∷ [])) ∷
    []))
    2000 [] (Uncaught (codes "ReferenceError: nope is not defined")) 1969 []

-- var a = 1; a += (a = 5); print(a); var i = 0, b = [1, 2]; b[i] = i = 1; print(b.join(), i);
abbrev pub CompoundOrder : Type 0
CompoundOrder = Does
    (script [] (
    vars (set "a" (num 1) ∷ []) ∷
    does (assign_by op.Add (here "a") (assign (here "a") (num 5))) ∷
    does (print (here "a" ∷ [])) ∷
    vars (set "i" (num 0) ∷ set "b" (array (num 1 ∷ num 2 ∷ [])) ∷ []) ∷
    does (assign (item (here "b") (here "i")) (assign (here "i") (num 1))) ∷
    does (print (call (dot (here "b") "join") [] ∷ here "i" ∷ [])) ∷
    []))
    2000 [] Finished 1952 ("6" ∷ "1,2 1" ∷ [])

-- print(typeof nope, typeof null, typeof Error, typeof "", typeof {}); undefined = 1;
abbrev pub TypeofUndeclared : Type 0
TypeofUndeclared = Does
    (script [] (
    does (print (typeof (unknown "nope") ∷ typeof null ∷ typeof (standard "Error") ∷ typeof (text "") ∷ typeof (object []) ∷ [])) ∷
    does (assign (standard "undefined") (num 1)) ∷
    []))
    2000 [] (Uncaught (codes "TypeError: undefined is read only")) 1921 ("undefined object function string object" ∷ [])

-- try { 1(); } catch (e) { print(e.name, e.message); } try { new String(); } catch (e) { print(e.message); } try { 1 in 2; } catch (e) { print(e.message); } try { Error = 1; } catch (e) { print(e.message, e instanceof TypeError, e instanceof Error); }
abbrev pub Errors : Type 0
Errors = Does
    (script [] (
    try_catch (block (does (call (num 1) []) ∷ [])) "e" (block (does (print (dot (here "e") "name" ∷ dot (here "e") "message" ∷ [])) ∷ [])) ∷
    try_catch (block (does (new (standard "String") []) ∷ [])) "e" (block (does (print (dot (here "e") "message" ∷ [])) ∷ [])) ∷
    try_catch (block (does (is_in (num 1) (num 2)) ∷ [])) "e" (block (does (print (dot (here "e") "message" ∷ [])) ∷ [])) ∷
    try_catch (block (does (assign (standard "Error") (num 1)) ∷ [])) "e" (block (
    does (print (dot (here "e") "message" ∷ instance_of (here "e") (standard "TypeError") ∷ instance_of (here "e") (standard "Error") ∷ [])) ∷
    [])) ∷
    []))
    2000 [] Finished 1779 ("TypeError not a function" ∷ "not a constructor" ∷ "not an object" ∷ "Error is read only true true" ∷ [])

-- var a, b; a = b = 3; print(a, b, a += 2, (a, b)); var o = {}; print(o.x = 4, o.y = o.x++, o.y);
abbrev pub AssignmentValue : Type 0
AssignmentValue = Does
    (script [] (
    vars (only "a" ∷ only "b" ∷ []) ∷
    does (assign (here "a") (assign (here "b") (num 3))) ∷
    does (print (here "a" ∷ here "b" ∷ assign_by op.Add (here "a") (num 2) ∷ comma (here "a") (here "b") ∷ [])) ∷
    vars (set "o" (object []) ∷ []) ∷
    does (print (assign (dot (here "o") "x") (num 4) ∷ assign (dot (here "o") "y") (plus_plus_after (dot (here "o") "x")) ∷ dot (here "o") "y" ∷ [])) ∷
    []))
    2000 [] Finished 1945 ("3 3 5 3" ∷ "4 4 4" ∷ [])
