-- Reserved words (ECMA-262 3rd ed. 7.5.2, 7.5.3, 7.8.1, 7.8.2) and the words of script calls (own rule).
use Rattle.std.specs.Prelude.{ℕ, List, Option, Some, None, codes, if◌then◌else◌}
use Rattle.std.specs.Str.{bytes_eq}
use Rattle.js_lexer.specs.declared.Reserved.{Reserved}
use Rattle.js_lexer.specs.declared.Reserved.TheVariants as w
use Rattle.js_lexer.specs.declared.CallWord.{CallWord}
use Rattle.js_lexer.specs.declared.CallWord.TheVariants as c

-- keywords (7.5.2)
unfoldable pub control_word : List ℕ → Option Reserved
control_word s =
    if bytes_eq s (codes "break") then Some w.Break
    else (if bytes_eq s (codes "case") then Some w.Case
    else (if bytes_eq s (codes "catch") then Some w.Catch
    else (if bytes_eq s (codes "continue") then Some w.Continue
    else (if bytes_eq s (codes "default") then Some w.Default
    else (if bytes_eq s (codes "do") then Some w.Do
    else (if bytes_eq s (codes "else") then Some w.Else
    else (if bytes_eq s (codes "finally") then Some w.Finally
    else None)))))))

unfoldable pub statement_word : List ℕ → Option Reserved
statement_word s =
    if bytes_eq s (codes "for") then Some w.For
    else (if bytes_eq s (codes "function") then Some w.Function
    else (if bytes_eq s (codes "if") then Some w.If
    else (if bytes_eq s (codes "return") then Some w.Return
    else (if bytes_eq s (codes "switch") then Some w.Switch
    else (if bytes_eq s (codes "throw") then Some w.Throw
    else (if bytes_eq s (codes "try") then Some w.Try
    else (if bytes_eq s (codes "var") then Some w.Var
    else (if bytes_eq s (codes "while") then Some w.While
    else (if bytes_eq s (codes "with") then Some w.With
    else None)))))))))

unfoldable pub operator_word : List ℕ → Option Reserved
operator_word s =
    if bytes_eq s (codes "delete") then Some w.Delete
    else (if bytes_eq s (codes "in") then Some w.In
    else (if bytes_eq s (codes "instanceof") then Some w.Instanceof
    else (if bytes_eq s (codes "new") then Some w.New
    else (if bytes_eq s (codes "this") then Some w.This
    else (if bytes_eq s (codes "typeof") then Some w.Typeof
    else (if bytes_eq s (codes "void") then Some w.Void
    else (if bytes_eq s (codes "null") then Some w.Null
    else (if bytes_eq s (codes "true") then Some w.True
    else (if bytes_eq s (codes "false") then Some w.False
    else None)))))))))

-- future reserved words (7.5.3)
unfoldable pub early_future : List ℕ → Option Reserved
early_future s =
    if bytes_eq s (codes "abstract") then Some w.Future
    else (if bytes_eq s (codes "boolean") then Some w.Future
    else (if bytes_eq s (codes "byte") then Some w.Future
    else (if bytes_eq s (codes "char") then Some w.Future
    else (if bytes_eq s (codes "class") then Some w.Future
    else (if bytes_eq s (codes "const") then Some w.Future
    else (if bytes_eq s (codes "debugger") then Some w.Future
    else (if bytes_eq s (codes "double") then Some w.Future
    else None)))))))

unfoldable pub next_future : List ℕ → Option Reserved
next_future s =
    if bytes_eq s (codes "enum") then Some w.Future
    else (if bytes_eq s (codes "export") then Some w.Future
    else (if bytes_eq s (codes "extends") then Some w.Future
    else (if bytes_eq s (codes "final") then Some w.Future
    else (if bytes_eq s (codes "float") then Some w.Future
    else (if bytes_eq s (codes "goto") then Some w.Future
    else (if bytes_eq s (codes "implements") then Some w.Future
    else (if bytes_eq s (codes "import") then Some w.Future
    else None)))))))

unfoldable pub late_future : List ℕ → Option Reserved
late_future s =
    if bytes_eq s (codes "int") then Some w.Future
    else (if bytes_eq s (codes "interface") then Some w.Future
    else (if bytes_eq s (codes "long") then Some w.Future
    else (if bytes_eq s (codes "native") then Some w.Future
    else (if bytes_eq s (codes "package") then Some w.Future
    else (if bytes_eq s (codes "private") then Some w.Future
    else (if bytes_eq s (codes "protected") then Some w.Future
    else (if bytes_eq s (codes "public") then Some w.Future
    else None)))))))

unfoldable pub last_future : List ℕ → Option Reserved
last_future s =
    if bytes_eq s (codes "short") then Some w.Future
    else (if bytes_eq s (codes "static") then Some w.Future
    else (if bytes_eq s (codes "super") then Some w.Future
    else (if bytes_eq s (codes "synchronized") then Some w.Future
    else (if bytes_eq s (codes "throws") then Some w.Future
    else (if bytes_eq s (codes "transient") then Some w.Future
    else (if bytes_eq s (codes "volatile") then Some w.Future
    else None))))))

-- the first answer that there is
abbrev pub or_else : {A : Type 0} → Option A → Option A → Option A
or_else None b = b
or_else (Some a) b = Some a

-- the reserved word with these characters
unfoldable pub reserved_of : List ℕ → Option Reserved
reserved_of s = or_else (control_word s) (or_else (statement_word s) (or_else (operator_word s) (or_else (early_future s) (or_else (next_future s) (or_else (late_future s) (last_future s))))))

-- the units of a script call's word
unfoldable pub call_units : CallWord → List ℕ
call_units c.Once = codes "once"
call_units c.Fork = codes "fork"
call_units c.Join = codes "join"
call_units c.Crash = codes "crash"
call_units c.Print = codes "print"
call_units c.Post = codes "post"
call_units c.Reply = codes "reply"
call_units c.Prompt = codes "prompt"
call_units c.Random = codes "random"

-- the script call with these characters
unfoldable pub call_of : List ℕ → Option CallWord
call_of s =
    if bytes_eq s (codes "once") then Some c.Once
    else (if bytes_eq s (codes "fork") then Some c.Fork
    else (if bytes_eq s (codes "join") then Some c.Join
    else (if bytes_eq s (codes "crash") then Some c.Crash
    else (if bytes_eq s (codes "print") then Some c.Print
    else (if bytes_eq s (codes "post") then Some c.Post
    else (if bytes_eq s (codes "reply") then Some c.Reply
    else (if bytes_eq s (codes "prompt") then Some c.Prompt
    else (if bytes_eq s (codes "random") then Some c.Random
    else None))))))))
