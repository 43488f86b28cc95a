use Rattle.std.proofs.Common.{refl, subst, arith, inr}
use Rattle.record_bytes.specs.Limits.{IsRecordWithin}
use Rattle.machine_host.proofs.Counted.{short_data, stays_same}
use Rattle.machine_host.proofs.onces.once_kept.Goals as goal

pub put_data-requires-clause-short : goal.put_data-requires-clause-short
put_data-requires-clause-short c = short_data c.in-Once.value (subst IsRecordWithin c.in-Once.is c.requires.within).1

pub returns-in_default : goal.returns-in_default
returns-in_default c = record {
  gives = inr (record { other = λ d e. c.in_default.not-Once d e; same = refl; exit = c.diverged_from.result; is = refl; why = c.diverged_from.ensures.told });
  stays = stays_same _;
  more = omega arith;
  exists = tt;
  thrown = c.diverged_from.ensures.thrown;
}
