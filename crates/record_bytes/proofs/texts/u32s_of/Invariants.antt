use Rattle.std.proofs.Common.{◌≡◌, ◌-◌}
use Rattle.std.specs.Int.{w32}
use Rattle.record_bytes.specs.Reading.{numbers_at}
use Rattle.record_bytes.proofs.Loops.{with_front}
use Rattle.record_bytes.proofs.texts.u32s_of.Given as goal

abbrev pub invariant-loop-i : goal.invariant-loop-i
invariant-loop-i l = with_front l.numbers.items (numbers_at w32 (l.count - l.i) l.rest) ≡ numbers_at w32 l.count l.bytes
