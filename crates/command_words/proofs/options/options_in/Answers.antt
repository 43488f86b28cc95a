use Rattle.std.proofs.Common.{subst, sym}
use Rattle.command_words.specs.Options.{IsFuel}
use Rattle.command_words.proofs.FuelLemmas.{fuel_within}
use Rattle.command_words.proofs.OptionLemmas.{lent}
use Rattle.command_words.proofs.options.options_in.Goals as goal

pub returns-clause-within : goal.returns-clause-within
returns-clause-within c = subst (λ n. IsFuel n) (sym c.unwrap_or.ensures) (fuel_within (lent c.args.words.now) c.in_ok-fuel.field-0 c.in_ok-fuel.ensures)
