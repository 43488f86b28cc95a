use Rattle.std.proofs.Common.{length}
use Rattle.disk_model.specs.Disk.{Torn}
use Rattle.disk_model.proofs.Moves.{goes_up, goes_torn}
use Rattle.disk_model.proofs.memory.MemoryDiskDisk.write_at.Goals as goal

pub returns-then-stops-clause-crash : goal.returns-then-stops-clause-crash
returns-then-stops-clause-crash c told = goes_up (Torn c.args.at (length c.args.from.now)) c.args.self.now _ c.is_named-is_named.new.self.history c.is_named-is_named.ensures.history c.in-Ok.ensures.crash

pub returns-else-stops-clause-crash : goal.returns-else-stops-clause-crash
returns-else-stops-clause-crash c told = goes_up (Torn c.args.at (length c.args.from.now)) c.args.self.now _ c.is_named-is_named.new.self.history c.is_named-is_named.ensures.history c.in-Ok.ensures.crash

pub returns-in-Err-clause-crash : goal.returns-in-Err-clause-crash
returns-in-Err-clause-crash c told = goes_up (Torn c.args.at (length c.args.from.now)) c.args.self.now _ c.is_named-is_named.new.self.history c.is_named-is_named.ensures.history (goes_torn c.args.at (length c.args.from.now) c.is_named-is_named.new.self.history c.write.new.self c.in-Err.ensures.crash_err)
