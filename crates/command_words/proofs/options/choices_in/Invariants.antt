use Rattle.std.proofs.Common.{◌≡◌, map, drop, None}
use Rattle.command_words.specs.Options.{options_from, nothing_chosen}
use Rattle.command_words.proofs.options.choices_in.Given as goal

abbrev pub invariant-loop-word : goal.invariant-loop-word
invariant-loop-word l = options_from (drop l.word-index (map (λ w. w.now) l.words)) l.pending l.choices ≡ options_from (map (λ w. w.now) l.words) None nothing_chosen
