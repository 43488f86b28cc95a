use Rattle.std.proofs.Common.{subst}
use Rattle.turk_base.specs.Data.{Data}
use Rattle.turk_base.specs.Steps.{put_data}
use Rattle.value_cells.specs.Seen.{Naming, val_in}
use Rattle.value_cells.specs.Does.{told}
use Rattle.run_heap.specs.Works.{Works}
use Rattle.run_data.proofs.putting.put_data.Goals as goal

pub returns-clause-did : goal.returns-clause-did
returns-clause-did c =
    subst (λ (d : Data). Works (λ (nu : Naming). put_data d) (λ nu. told (val_in nu) c.put_node.result) c.args.heap.now c.put_node.new.heap) c.node.ensures.data c.put_node.ensures.did
