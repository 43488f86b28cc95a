use Rattle.std.proofs.Common.{rules, arith, ◌≡◌, ◌+◌, ◌++◌, ◌∷◌, [], ℕ, List, length, ap, sym, subst, ◌∙◌}
use Rattle.gate_log.specs.Log.{blocks, framed, IsGated}
use Rattle.gate_log.specs.Entries.{entries}
use Rattle.gate_log.specs.declared.block.Block.{Block}
use Rattle.gate_log.proofs.Blocks.{entry_framed, entries-push, length-blocks, length-framed}
use Rattle.gate_log.proofs.Crash.{moments, added}
use Rattle.gate_log.proofs.log.GateLog.put.Goals as goal

pushed : (old new : List Block) (b : Block) (e : List ℕ) → b.bytes.items ≡ framed e → new ≡ old ++ b ∷ [] → entries new ≡ entries old ++ e ∷ []
pushed old new b e is push = ap entries push ∙ entries-push old b ∙ ap (λ (x : List ℕ). entries old ++ x ∷ []) (entry_framed b e is)

grown_gate : (old new : List Block) (b : Block) (e : List ℕ) (gate size : ℕ) → b.bytes.items ≡ framed e → new ≡ old ++ b ∷ [] → gate ≡ length (blocks (entries old)) → size ≡ length b.bytes.items → gate + size ≡ length (blocks (entries new))
grown_gate old new b e gate size is push at counts =
    omega (arith, at, counts, ap length is, length-framed e, length-blocks (entries old) e, ap (λ (l : List (List ℕ)). length (blocks l)) (pushed old new b e is push))

pub invariant_of-self : goal.invariant_of-self
invariant_of-self g c =
    let s = c.args.self.now in
    let b = c.args.block in
    let e = c.args.entry.now in
    let size : c.len.result ≡ length b.bytes.items = search rules in
    record {
      at_gate = grown_gate s.kept.items c.push_reserved.new.self.items b e s.gate c.len.result c.requires.bytes c.push_reserved.ensures.items s.at_gate size;
      within = omega (arith, size, c.requires.fits, s.at_gate, ap length c.requires.bytes, length-framed e);
    }

pub returns-in-Ok-clause-ok : goal.returns-in-Ok-clause-ok
returns-in-Ok-clause-ok g c = pushed c.args.self.now.kept.items c.push_reserved.new.self.items c.args.block c.args.entry.now c.requires.bytes c.push_reserved.ensures.items

pub returns-in-Ok-clause-on : goal.returns-in-Ok-clause-on
returns-in-Ok-clause-on g c told =
    let s = c.args.self.now in
    let end = c.in-Ok.ensures.steps told in
    let on = c.requires.on told in
    let e = c.args.entry.now in
    let es = entries s.kept.items in
    let all = pushed s.kept.items c.push_reserved.new.self.items c.args.block e c.requires.bytes c.push_reserved.ensures.items in
    let gated : IsGated (g.D.Disk.bytes c.append.new.disk) (es ++ e ∷ []) = added es e s.gate c.deref.result.now (g.D.Disk.bytes c.args.disk.now) (g.D.Disk.bytes c.append.new.disk) end.done.0 (omega (arith, c.requires.fits)) s.at_gate (c.deref.ensures.value ∙ c.requires.bytes) on.holds end.done.1 end.done.2 in
    record {
      holds = subst (λ (l : List (List ℕ)). IsGated (g.D.Disk.bytes c.append.new.disk) l) (sym all) gated;
      only = end.done.3;
    }

pub returns-in-Ok-clause-any_moment : goal.returns-in-Ok-clause-any_moment
returns-in-Ok-clause-any_moment g c told =
    let s = c.args.self.now in
    moments g.D.Disk.bytes g.D.Disk.moment g.D.Disk.left_since (entries s.kept.items) c.args.entry.now s.gate c.deref.result.now (omega (arith, c.requires.fits)) s.at_gate (c.deref.ensures.value ∙ c.requires.bytes) c.args.disk.now c.append.new.disk c.append.result (c.requires.on told).holds (c.requires.on told).only (c.append.ensures.steps told)

pub returns-in-Err-clause-any_moment : goal.returns-in-Err-clause-any_moment
returns-in-Err-clause-any_moment g c told =
    let s = c.args.self.now in
    moments g.D.Disk.bytes g.D.Disk.moment g.D.Disk.left_since (entries s.kept.items) c.args.entry.now s.gate c.deref.result.now (omega (arith, c.requires.fits)) s.at_gate (c.deref.ensures.value ∙ c.requires.bytes) c.args.disk.now c.append.new.disk c.append.result (c.requires.on told).holds (c.requires.on told).only (c.append.ensures.steps told)
