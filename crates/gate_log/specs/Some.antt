-- The entries of a log are those of some bytes.
use Rattle.std.specs.Prelude.{◌≡◌, ◌≢◌, ◌-◌, ◌≤◌, ℕ, List, [], ◌∷◌, ◌++◌, length, drop, refl}
use Rattle.std.proofs.Common.{arith, sym, subst, length-append, length-take, length-drop}
use Rattle.gate_log.specs.Log.{blocks, AreShort, IsGated}
use Rattle.gate_log.specs.Entries.{entries}
use Rattle.gate_log.specs.GateLog.{entries_of, IsOn}
use Rattle.gate_log.specs.declared.block.Block.{Block}
use Rattle.gate_log.specs.declared.log.GateLog.{GateLog}

-- the length of each fits four bytes
pub shorts : (bs : List Block) → AreShort (entries bs)
shorts [] = tt
shorts (b ∷ bs) = (omega (arith, b.short, b.long, length-take (length b.bytes.items - 1 - 4) (drop 4 b.bytes.items), length-drop 4 b.bytes.items), shorts bs)

pub some_bytes : (l : GateLog) → (c : List ℕ) × (length c ≤ 67108864) × IsGated c (entries_of l)
some_bytes l =
    (blocks (entries_of l) ++ 0 ∷ [], omega (arith, l.at_gate, l.within, length-append (blocks (entries_of l)) (0 ∷ [])), (0, [], shorts l.kept.items, shut, refl))
  where
    shut : ◌≢◌ {A = ℕ} 0 165
    shut = omega arith

-- a log with the same entries is on the same disk
pub on_same : (l m : GateLog) (bytes : List ℕ) (image : List ℕ → Type 0) → entries_of m ≡ entries_of l → IsOn l bytes image → IsOn m bytes image
on_same l m bytes image same on = record { holds = subst (λ (es : List (List ℕ)). IsGated bytes es) (sym same) on.holds; only = on.only }
