use Rattle.std.proofs.Common.{ap}
use Rattle.js_tree.specs.Pieces.{has_properties}
use Rattle.value_cells.specs.Seen.{val_in}
use Rattle.host_steps.proofs.Made.{leaves_thrown}
use Rattle.host_steps.proofs.Parts.{has_some}
use Rattle.host_steps.proofs.properties.has_properties.Goals as goal

pub returns-in-Undefined-clause-did : goal.returns-in-Undefined-clause-did
returns-in-Undefined-clause-did g c = leaves_thrown (λ nu go. ap (λ v. has_properties (val_in nu v) go) c.in-Undefined.is) c.type_error_of.ensures.did

pub returns-in-Null-clause-did : goal.returns-in-Null-clause-did
returns-in-Null-clause-did g c = leaves_thrown (λ nu go. ap (λ v. has_properties (val_in nu v) go) c.in-Null.is) c.type_error_of-in-Null.ensures.did

pub returns-in_default-clause-did : goal.returns-in_default-clause-did
returns-in_default-clause-did g c = has_some c.args.value.now c.in_default.not-Undefined c.in_default.not-Null
