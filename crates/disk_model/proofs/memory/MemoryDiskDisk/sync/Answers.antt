use Rattle.std.proofs.Common.{◌≡◌, List, ℕ}
use Rattle.disk_model.proofs.Moves.{goes_up}
use Rattle.disk_model.proofs.memory.MemoryDiskDisk.sync.Goals as goal

pub returns-clause-crash : goal.returns-clause-crash
returns-clause-crash c told = goes_up (◌≡◌ {A = List ℕ}) c.args.self.now _ c.is_named-is_named.new.self.history c.is_named-is_named.ensures.history c.sync.ensures.crash
