use Rattle.value_cells.specs.Seen.{val_in}
use Rattle.value_cells.specs.Does.{told}
use Rattle.run_data.proofs.Takes.{read_there}
use Rattle.run_data.proofs.taking.look_there.Goals as goal

pub returns-clause-did : goal.returns-clause-did
returns-clause-did c = read_there c.args.cell c.args.key.now (λ nu. told (val_in nu) c.read_name.result) c.args.heap.now c.read_name.new.self c.read_name.ensures.did
