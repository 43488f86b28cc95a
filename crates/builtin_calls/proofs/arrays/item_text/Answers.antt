use Rattle.std.proofs.Common.{ap}
use Rattle.std.specs.Option.{option_map}
use Rattle.turk_base.specs.BuiltIns as spec
use Rattle.value_cells.specs.Seen.{val_in}
use Rattle.builtin_calls.proofs.Moves.{takes_as, leads_same}
use Rattle.builtin_calls.proofs.arrays.item_text.Goals as goal

pub returns-in-Some-clause-did : goal.returns-in-Some-clause-did
returns-in-Some-clause-did g c = takes_as _ (λ nu t. t) c.value_text.result (leads_same (λ nu go. ap (λ v. spec.item_text (option_map (val_in nu) v) go) c.in-Some.is)) c.value_text.ensures.did
