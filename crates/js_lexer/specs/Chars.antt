-- Classes of characters (ECMA-262 3rd ed. 7.2, 7.3, 7.6, 7.8), by their code points.
use Rattle.std.specs.Prelude.{ℕ, Bool, ◌||◌, ◌&&◌, ◌==◌, nat_lt, nat_le}
use Rattle.std.specs.Char.{digit_value}
use Rattle.unicode_ident.specs.Ident.{is_xid_start, is_xid_continue}

-- white space: TAB, VT, FF, SP, NBSP and the class Zs (ECMA-262 3rd ed. 7.2)
abbrev pub is_white : ℕ → Bool
is_white c = c == 0x09 || (c == 0x0B || (c == 0x0C || (c == 0x20 || (c == 0xA0 || (c == 0x1680 || ((nat_le 0x2000 c && nat_le c 0x200A) || (c == 0x202F || (c == 0x205F || c == 0x3000))))))))

-- LF, CR, LS, PS (7.3)
abbrev pub is_line_end : ℕ → Bool
is_line_end c = c == 0x0A || (c == 0x0D || (c == 0x2028 || c == 0x2029))

-- a digit in this base, 10 or 16 (7.8.3)
abbrev pub is_digit : (base : ℕ) → ℕ → Bool
is_digit base c = nat_lt (digit_value c) base

-- `"` and `'` (7.8.4)
abbrev pub is_quote : ℕ → Bool
is_quote c = c == 34 || c == 39

-- an identifier may begin with it: `$`, `_` or XID_Start (7.6, and Unicode Standard Annex 31)
abbrev pub starts : ℕ → Bool
starts c = is_xid_start c || (c == 36 || c == 95)

-- an identifier may go on with it: `$` or XID_Continue, which has `_`
abbrev pub continues : ℕ → Bool
continues c = is_xid_continue c || c == 36
