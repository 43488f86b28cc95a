-- What a script's bytes come to: the tree that the grammar reads of their tokens, with its names bound, or the first fault.
use Rattle.std.specs.Prelude.{◌≡◌, ◌≤◌, ◌<◌, ℕ, List, Option, Some, None, Result, Ok, Err, length}
use Rattle.js_lexer.specs.declared.Token.{Token}
use Rattle.js_lexer.specs.declared.LexStop.{LexStop}
use Rattle.js_lexer.specs.declared.LexStop.TheVariants as lex
use Rattle.js_lexer.specs.Tokens.{Tokens, FirstFault}
use Rattle.js_parser.specs.declared.ParseStop.{ParseStop}
use Rattle.js_parser.specs.declared.ParseStop.TheVariants as parse
use Rattle.js_parser.specs.Parses.{Refused}
use Rattle.js_tree.specs.Bare.{bare}
use Rattle.js_tree.specs.NameCount.{declared_count, name_limit}
use Rattle.js_tree.specs.declared.Script.{Script}
use Rattle.script_front.specs.declared.ScriptStop.{ScriptStop}
use Rattle.script_front.specs.declared.ScriptStop.TheVariants as stop
use Rattle.script_grammar.specs.Goes.{Reads}

-- the refusals of the tokens and of the tree, as refusals of a script
abbrev pub stop_of_tokens : LexStop → ScriptStop
stop_of_tokens (lex.NotUtf8 place) = stop.NotUtf8 place
stop_of_tokens (lex.BadToken place) = stop.BadToken place
stop_of_tokens (lex.NumberForm place) = stop.NumberForm place
stop_of_tokens lex.TooLarge = stop.TooLarge
stop_of_tokens lex.Memory = stop.Memory

abbrev pub stop_of_tree : ParseStop → ScriptStop
stop_of_tree (parse.Syntax place) = stop.Syntax place
stop_of_tree (parse.LeftOut place form) = stop.LeftOut place form
stop_of_tree parse.Nesting = stop.Nesting
stop_of_tree parse.Memory = stop.Memory

-- The bytes are not too many, and this is their first fault as a list of tokens.
abbrev pub NoTokens : List ℕ → LexStop → Type 0
NoTokens bytes fault = (length bytes ≤ 1048576) × FirstFault bytes fault

-- The bytes are not too many and are cut into tokens that are no script, for this reason.
abbrev pub NoTree : List ℕ → ParseStop → Type 0
NoTree bytes why = (length bytes ≤ 1048576) × (ts : List Token) × Tokens bytes ts × Refused ts why

abbrev pub IsTree : List ℕ → Result Script ScriptStop → Type 0
IsTree bytes (Ok tree) = (length bytes ≤ 1048576) × (ts : List Token) × Tokens bytes ts × Reads ts tree 200
IsTree bytes (Err stop.TooLarge) = 1048576 < length bytes
IsTree bytes (Err (stop.NotUtf8 place)) = NoTokens bytes (lex.NotUtf8 place)
IsTree bytes (Err (stop.BadToken place)) = NoTokens bytes (lex.BadToken place)
IsTree bytes (Err (stop.NumberForm place)) = NoTokens bytes (lex.NumberForm place)
IsTree bytes (Err (stop.Syntax place)) = NoTree bytes (parse.Syntax place)
IsTree bytes (Err (stop.LeftOut place form)) = NoTree bytes (parse.LeftOut place form)
IsTree bytes (Err stop.Nesting) = NoTree bytes parse.Nesting
IsTree bytes (Err stop.TooManyNames) = ⊥
IsTree bytes (Err stop.Memory) = Unit {0}

-- the same, with the names bound: but for its bindings and numbers the script is the tree
abbrev pub IsRead : List ℕ → Result Script ScriptStop → Type 0
IsRead bytes (Ok script) = (tree : Script) × IsTree bytes (Ok tree) × (bare script ≡ bare tree) × (declared_count tree ≤ name_limit)
IsRead bytes (Err stop.TooManyNames) = (tree : Script) × IsTree bytes (Ok tree) × (name_limit < declared_count tree)
IsRead bytes (Err stop) = IsTree bytes (Err stop)
