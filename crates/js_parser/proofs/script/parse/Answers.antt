use Rattle.std.proofs.Common.{Ok, Err, ap, sym, ◌∙◌, subst}
use Rattle.js_parser.specs.Parses.{Refused}
use Rattle.js_parser.proofs.Settled.{shallow, only, none, not_faulty, not_deep, refuses, never_short, refused, nested, remembers}
use Rattle.js_parser.proofs.script.parse.Goals as goal

pub returns-in-Ok-clause-ok : goal.returns-in-Ok-clause-ok
returns-in-Ok-clause-ok c = shallow c.in-Ok.ensures

pub returns-in-Ok-clause-only : goal.returns-in-Ok-clause-only
returns-in-Ok-clause-only c tree depth le reads not = ap (λ x. Ok x) (only c.in-Ok.ensures le reads)

pub returns-in-Ok-clause-wrong : goal.returns-in-Ok-clause-wrong
returns-in-Ok-clause-wrong c form place w not = absurd (not_faulty c.in-Ok.ensures w)

pub returns-in-Ok-clause-deep : goal.returns-in-Ok-clause-deep
returns-in-Ok-clause-deep c front rest e deep not = absurd (not_deep c.in-Ok.ensures front rest e deep)

pub told-requires-whole : goal.told-requires-whole
told-requires-whole c _ = never_short c.in-Err.stop c.requires.end c.in-Err.ensures

pub returns-in-Err-clause-only : goal.returns-in-Err-clause-only
returns-in-Err-clause-only c tree depth le reads not = absurd (none (c.in-Err.ensures (remembers c.told.ensures not)) le reads)

pub returns-in-Err-clause-refused : goal.returns-in-Err-clause-refused
returns-in-Err-clause-refused c = subst (λ x. Refused c.args.tokens.now x) (sym c.told.ensures) (refused c.in-Err.stop (never_short c.in-Err.stop c.requires.end c.in-Err.ensures) c.in-Err.ensures)

pub returns-in-Err-clause-wrong : goal.returns-in-Err-clause-wrong
returns-in-Err-clause-wrong c form place w not = ap (λ x. Err x) (c.told.ensures ∙ refuses (c.in-Err.ensures (remembers c.told.ensures not)) w)

pub returns-in-Err-clause-deep : goal.returns-in-Err-clause-deep
returns-in-Err-clause-deep c front rest e deep not = ap (λ x. Err x) (c.told.ensures ∙ nested c.in-Err.stop c.in-Err.ensures (remembers c.told.ensures not) front rest e deep)
