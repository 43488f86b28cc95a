use Rattle.std.proofs.Common.{rules, ◌≡◌, ◌++◌, ◌∙◌, sym, ap, Some}
use Rattle.std.specs.Option.{option_copied}
use Rattle.turk_base.specs.Trace.{at}
use Rattle.ask_model.specs.Asker.{record_in}
use Rattle.ask_model.proofs.Finds.{at_same}
use Rattle.ask_model.proofs.table.TableAskerAsker.kept.Goals as goal

pub returns-in-Some : goal.returns-in-Some
returns-in-Some g c =
    let s = c.args.self.now in
    let p = c.in-Some.path.now in
    let near = c.near.result.now in
    let asked : s.asked ≡ Some p = search rules in
    let found : option_copied c.record_in.result ≡ at (s.trace.items ++ near) p = search rules in
    found ∙ at_same s.trace.items near s.made.items p c.near.ensures.at ∙ ap (record_in (s.trace.items ++ s.made.items)) (sym asked)
