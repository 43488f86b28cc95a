use Rattle.std.proofs.Common.{map}
use Rattle.turk_base.specs.BuiltIns.{call_built_in}
use Rattle.value_cells.specs.Seen.{val_in}
use Rattle.machine_host.proofs.Halting.{built_in_run}
use Rattle.machine_host.proofs.AskedRun.built_in.Goals as goal

pub returns-clause-did : goal.returns-clause-did
returns-clause-did g c = built_in_run (λ nu. call_built_in c.args.which (val_in nu c.args.this.now) (map (val_in nu) c.args.arguments.now)) g.A.Asker.seen g.A.Asker.words c.args.self.now c.call_made-ended.new.heap.machine c.call_made-ended.result c.value_of.result c.value_of.ensures c.call_made-ended.ensures.did
