use Rattle.std.proofs.Common.{◌≡◌, take}
use Rattle.scope_names.specs.Gathered.{gathered}
use Rattle.scope_names.proofs.names.Names.add_all.Given as goal

abbrev pub invariant-loop-name : goal.invariant-loop-name
invariant-loop-name l = l.all ≡ gathered l.fn.self (take l.name-index l.names)
