use Rattle.std.proofs.Common.{◌≤◌, sym, ◌∙◌, length, arith}
use Rattle.std.proofs.lemmas.List.{append-nil}
use Rattle.run_texts.proofs.Escaping.{escaped_none}
use Rattle.run_texts.proofs.quotes.push_escaped.Goals as goal

pub returns : goal.returns
returns c =
    let past : length c.args.units.now ≤ c.loop-at.at = omega arith in
    sym (append-nil _) ∙ rw (escaped_none _ _ past) at c.loop-at.invariant.0
