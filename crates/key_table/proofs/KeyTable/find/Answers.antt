use Rattle.std.proofs.Common.{sym, subst, Some, None}
use Rattle.key_table.specs.Keys.{Numbers}
use Rattle.key_table.proofs.KeyFacts.{told}
use Rattle.key_table.proofs.KeyTable.find.Goals as goal

pub returns-in-Some : goal.returns-in-Some
returns-in-Some c = subst (λ ks. Numbers ks c.args.key.now (Some c.in-Some.number.now)) c.self.view_is (told c.self.inside.entries c.self.invariant.numbered c.args.key.now (Some c.in-Some.number.now) (sym c.in-Some.ensures))

pub returns-in-None : goal.returns-in-None
returns-in-None c = subst (λ ks. Numbers ks c.args.key.now None) c.self.view_is (told c.self.inside.entries c.self.invariant.numbered c.args.key.now None (sym c.in-None.ensures))
