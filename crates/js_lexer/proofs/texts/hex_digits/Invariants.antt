use Rattle.std.proofs.Common.{◌≡◌, ◌≤◌, ◌<◌, ◌+◌, ◌-◌, length}
use Rattle.js_lexer.specs.Pieces.{hex_from}
use Rattle.js_lexer.proofs.texts.hex_digits.Given as goal

abbrev pub invariant-loop-i : goal.invariant-loop-i
invariant-loop-i l = record {
  goes : hex_from l.text 0 l.place l.count ≡ hex_from l.text l.value (l.place + l.i) (l.count - l.i);
  within : l.place + l.i ≤ length l.text;
  none : l.i ≤ 0 → l.value < 1;
  one : l.i ≤ 1 → l.value < 16;
  two : l.i ≤ 2 → l.value < 256;
  three : l.i ≤ 3 → l.value < 4096;
  four : l.i ≤ 4 → l.value < 65536;
}
