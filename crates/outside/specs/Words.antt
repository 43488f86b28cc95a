-- The words of the draws: those of the generator PCG XSL RR 128/64 (O'Neill 2014), seeded as the crate rand_pcg seeds it.
use Rattle.std.specs.Prelude.{ℕ}
use Rattle.rand_core.specs.Pcg32Seed.{pcg32_seed}
use Rattle.rand_pcg.specs.Lcg.{Lcg, advance}
use Rattle.rand_pcg.specs.Pcg.{multiplier_128, pcg64, pcg64_of_seed}

-- The generator that a number seeds.
abbrev pub seeded : ℕ → Lcg
seeded from = pcg64_of_seed (pcg32_seed 32 from)

-- The word that a generator gives after k words.
unfoldable pub word_after : Lcg → ℕ → ℕ
word_after g k = (pcg64 (advance 128 multiplier_128 k g)).0

-- Word k of the sequence of a number.
abbrev pub pcg_words : ℕ → ℕ → ℕ
pcg_words from k = word_after (seeded from) k
