use Rattle.std.proofs.Common.{rules, ◌≡◌, ◌≢◌, ◌⊎◌, inl, inr, ◌<◌, ◌+◌, ◌++◌, ◌∷◌, [], ap, sym, subst, ◌∙◌, ℕ, List, length, drop, get_or}
use Rattle.std.proofs.lemmas.List.{drop_more}
use Rattle.gate_log.specs.Log.{blocks, IsBroken, NoBlock}
use Rattle.gate_log.specs.Entries.{entries}
use Rattle.gate_log.specs.declared.LogStop.{LogStop}
use Rattle.gate_log.specs.declared.LogStop.TheVariants.{Memory, Broken}
use Rattle.gate_log.specs.declared.block.Block.{Block}
use Rattle.gate_log.proofs.Blocks.{Grown, grown}
use Rattle.gate_log.specs.Some.{shorts}
use Rattle.gate_log.proofs.scan.scan.Goals as goal

broken_at : (bytes : List ℕ) (bs : List Block) (at : ℕ) → 1 < length bytes → Grown bytes bs at → get_or bytes at 0 ≡ 165 → NoBlock (drop (at + 1) bytes) → IsBroken bytes at
broken_at bytes bs at long old is_open none =
    (entries bs, drop (at + 1) bytes, long, shorts bs, old.size, old.split ∙ ap (λ (l : List ℕ). blocks (entries bs) ++ l) (drop_more bytes at 0 old.inside ∙ ap (λ (x : ℕ). x ∷ drop (at + 1) bytes) is_open), none)

cause : (bytes : List ℕ) (at : ℕ) (e : LogStop) → (NoBlock (drop (at + 1) bytes) → IsBroken bytes at) → (e ≡ Memory) ⊎ ((e ≡ Broken at) × NoBlock (drop (at + 1) bytes)) → (e ≡ Memory) ⊎ ((place : ℕ) × (e ≡ Broken place) × IsBroken bytes place)
cause bytes at e broken (inl none) = inl none
cause bytes at e broken (inr w) = inr (at, w.0, broken w.1)

pub loop-at-preserved : goal.loop-at-preserved
loop-at-preserved c =
    let bytes = c.args.bytes.now in
    let size : c.len-at.result ≡ length c.in-Ok.block.bytes.items = search rules in
    let g = grown bytes c.loop-at.found.items c.in-Ok.block c.loop-at.at c.loop-at.invariant c.loop-at-test.true c.in-Ok.ensures.ok in
    subst (λ (bs : List Block). Grown bytes bs (c.loop-at.at + c.len-at.result)) (sym c.in_ok-keep.ensures.ok) (subst (λ (n : ℕ). Grown bytes (c.loop-at.found.items ++ c.in-Ok.block ∷ []) (c.loop-at.at + n)) (sym size) g)

pub returns-in-Err-clause-err : goal.returns-in-Err-clause-err
returns-in-Err-clause-err c =
    let bytes = c.args.bytes.now in
    let at = c.loop-at.at in
    cause bytes at c.in-Err.stop (λ none. broken_at bytes c.loop-at.found.items at c.requires c.loop-at.invariant c.loop-at-test.true none) c.in-Err.ensures.err

pub returns-clause-log : goal.returns-clause-log
returns-clause-log c =
    let old = c.loop-at.invariant in
    let bytes = c.args.bytes.now in
    let at = c.loop-at.at in
    let shut : get_or bytes at 0 ≢ 165 = λ is. search (rules, c.loop-at-test.false) in
    (get_or bytes at 0, drop (at + 1) bytes, shorts c.loop-at.found.items, shut, old.split ∙ ap (λ (l : List ℕ). blocks (entries c.loop-at.found.items) ++ l) (drop_more bytes at 0 old.inside))
