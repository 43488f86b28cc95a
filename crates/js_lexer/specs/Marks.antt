-- Punctuators (ECMA-262 3rd ed. 7.7): each is one character, or a shorter punctuator and one character more.
use Rattle.std.specs.Prelude.{ℕ, ◌==◌, Option, Some, None, if◌then◌else◌}
use Rattle.js_lexer.specs.declared.Mark.{Mark}
use Rattle.js_lexer.specs.declared.Mark.TheVariants as m

-- the punctuator of one character
unfoldable pub single : ℕ → Option Mark
single c =
    if c == 123 then Some m.OpenBrace
    else (if c == 125 then Some m.CloseBrace
    else (if c == 40 then Some m.OpenParen
    else (if c == 41 then Some m.CloseParen
    else (if c == 91 then Some m.OpenBracket
    else (if c == 93 then Some m.CloseBracket
    else (if c == 46 then Some m.Dot
    else (if c == 59 then Some m.Semicolon
    else (if c == 44 then Some m.Comma
    else (if c == 60 then Some m.Less
    else (if c == 62 then Some m.Greater
    else (if c == 61 then Some m.Assign
    else (if c == 33 then Some m.Not
    else (if c == 43 then Some m.Plus
    else (if c == 45 then Some m.Minus
    else (if c == 42 then Some m.Star
    else (if c == 37 then Some m.Percent
    else (if c == 38 then Some m.BitAnd
    else (if c == 124 then Some m.BitOr
    else (if c == 94 then Some m.BitXor
    else (if c == 126 then Some m.BitNot
    else (if c == 63 then Some m.Question
    else (if c == 58 then Some m.Colon
    else (if c == 47 then Some m.Slash
    else None)))))))))))))))))))))))

-- one of two characters, with the punctuator that it makes
abbrev pub either : ℕ → Mark → ℕ → Mark → ℕ → Option Mark
either a x b y c = if c == a then Some x else (if c == b then Some y else None)

abbrev pub only : ℕ → Mark → ℕ → Option Mark
only a x c = if c == a then Some x else None

-- the punctuator that a punctuator and one character more make
unfoldable pub extend : Mark → ℕ → Option Mark
extend m.Less c = either 60 m.ShiftLeft 61 m.LessEqual c
extend m.Greater c = either 62 m.ShiftRight 61 m.GreaterEqual c
extend m.ShiftLeft c = only 61 m.AssignShiftLeft c
extend m.ShiftRight c = either 62 m.ShiftRightZero 61 m.AssignShiftRight c
extend m.ShiftRightZero c = only 61 m.AssignShiftRightZero c
extend m.Assign c = only 61 m.Equal c
extend m.Equal c = only 61 m.Same c
extend m.Not c = only 61 m.NotEqual c
extend m.NotEqual c = only 61 m.NotSame c
extend m.Plus c = either 43 m.PlusPlus 61 m.AssignPlus c
extend m.Minus c = either 45 m.MinusMinus 61 m.AssignMinus c
extend m.Star c = only 61 m.AssignStar c
extend m.Slash c = only 61 m.AssignSlash c
extend m.Percent c = only 61 m.AssignPercent c
extend m.BitAnd c = either 38 m.And 61 m.AssignAnd c
extend m.BitOr c = either 124 m.Or 61 m.AssignOr c
extend m.BitXor c = only 61 m.AssignXor c
extend _ c = None
