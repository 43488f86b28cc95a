use Rattle.std.proofs.Common.{rules, ◌≡◌, ◌++◌, ◌∙◌}
use Rattle.turk_base.specs.Trace.{at, below}
use Rattle.ask_model.specs.Asker.{known_at}
use Rattle.ask_model.proofs.Finds.{known_same}
use Rattle.ask_model.proofs.table.TableAskerAsker.known.Goals as goal

pub returns-clause-known : goal.returns-clause-known
returns-clause-known g c =
    let s = c.args.self.now in
    let p = c.args.path.now in
    let near = c.near.result.now in
    let same : at near p ≡ at s.made.items p = search rules in
    let low : below near p ≡ below s.made.items p = search rules in
    let known : c.known_in.result ≡ known_at (s.trace.items ++ near) p = search rules in
    known ∙ known_same s.trace.items near s.made.items p same low
