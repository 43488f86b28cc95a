-- What the grammar reads is lawful.
use Rattle.std.specs.Prelude.{ℕ, ◌≤◌, List, length}
use Rattle.js_lexer.specs.declared.Token.{Token}
use Rattle.js_lexer.specs.Tokens.{Tokens}
use Rattle.js_tree.specs.declared.Script.{Script}
use Rattle.js_tree.specs.Lawful.{LawfulScript}
use Rattle.script_grammar.specs.Goes.{Reads}
use Rattle.lawful_reads.specs.Short.{ShortTokens}

-- What is read of short tokens, at most 200 levels deep, is lawful.
abbrev pub ReadIsLawful : Type 0
ReadIsLawful = (ts : List Token) (tree : Script) → ShortTokens ts → Reads ts tree 200 → LawfulScript tree

-- The tokens of a script that is not too large are short.
abbrev pub TokensAreShort : Type 0
TokensAreShort = (bytes : List ℕ) (ts : List Token) → length bytes ≤ 1048576 → Tokens bytes ts → ShortTokens ts

-- both together
abbrev pub ScriptIsLawful : Type 0
ScriptIsLawful = (bytes : List ℕ) (ts : List Token) (tree : Script) → length bytes ≤ 1048576 → Tokens bytes ts → Reads ts tree 200 → LawfulScript tree
