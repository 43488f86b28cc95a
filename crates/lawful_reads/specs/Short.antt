-- Tokens that make no name and no text of a tree too long.
use Rattle.std.specs.Prelude.{List}
use Rattle.js_lexer.specs.declared.Kind.{Kind}
use Rattle.js_lexer.specs.declared.Kind.TheVariants as kind
use Rattle.js_lexer.specs.declared.Token.{Token}
use Rattle.js_tree.specs.Lawful.{Each, Short}

-- a word or a text has at most 1,048,576 units
abbrev pub ShortKind : Kind → Type 0
ShortKind (kind.Word units) = Short units
ShortKind (kind.Text units) = Short units
ShortKind _ = Unit {0}

-- each token is short
abbrev pub ShortTokens : List Token → Type 0
ShortTokens ts = Each (λ t. ShortKind t.kind) ts
