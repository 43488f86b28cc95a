use Rattle.std.proofs.Common.{rules, ◌≡◌, ◌∙◌, ap, [], ◌∷◌, ◌++◌, List, ℕ, length, append_assoc}
use Rattle.gate_log.specs.Log.{size_bytes}
use Rattle.gate_log.proofs.block.block_of.Goals as goal

pub returns-clause-bytes : goal.returns-clause-bytes
unfolding size_bytes
returns-clause-bytes c =
    let e = c.args.entry.now in
    let first : c.put.new.out.items ≡ size_bytes (length e) = search rules in
    c.in_ok-put-3.ensures.ok ∙ ap (λ (l : List ℕ). l ++ 0 ∷ []) (c.in_ok-put-2.ensures.ok ∙ ap (λ (l : List ℕ). l ++ e) first) ∙ append_assoc (size_bytes (length e)) e (0 ∷ [])
