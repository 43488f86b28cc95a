use Rattle.std.proofs.Common.{refl, Bool, true, false, ap, Option, Some, None, true≢false, sym}
use Rattle.serde_json.specs.Data.{Num, unsigned, negative, float}
use Rattle.serde_json.proofs.OnLiterals.{serde_json_on_literals}
use Rattle.reply_text.proofs.rows.rows_of_lines.Goals as goal

abbrev is_unsigned : Option Num → Bool
is_unsigned None = false
is_unsigned (Some (unsigned n)) = true
is_unsigned (Some (negative z)) = false
is_unsigned (Some (float x)) = false

pub returns : goal.returns
unfolding serde_json_on_literals
returns c = record {
  plain = refl;
  spaced = refl;
  pair = refl;
  lone = refl;
  trailing = refl;
  digits = refl;
  leading_zero = refl;
  exponent = λ e. absurd (true≢false (sym (ap is_unsigned e)));
  point = λ e. absurd (true≢false (sym (ap is_unsigned e)));
  zero = λ e. absurd (true≢false (sym (ap is_unsigned e)));
}
