use Rattle.host_steps.proofs.Parts.{same_objects}
use Rattle.host_steps.proofs.values.same.Goals as goal

pub returns-in-Object-Object : goal.returns-in-Object-Object
returns-in-Object-Object g c = λ nu fits. same_objects c.args.x.now c.args.y.now c.in-Object-Object.a c.in-Object-Object.b c.in-Object-Object.is-0 c.in-Object-Object.is-1 (g.met.H.Host.apart c.args.host.now c.requires.sound) c.requires.x c.requires.y nu fits
