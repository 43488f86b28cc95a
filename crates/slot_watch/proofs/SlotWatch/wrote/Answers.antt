use Rattle.std.proofs.Common.{◌≡◌, refl, ap, sym, ◌∙◌, subst, ℕ, length, arith, List, [], ◌∷◌}
use Rattle.turk_base.specs.Names.{path_in, slot, at, root}
use Rattle.branch_check.specs.Watch.{after_touch, after_write}
use Rattle.slot_watch.specs.Named.{named}
use Rattle.slot_watch.proofs.Naming.{by_root}
use Rattle.slot_watch.proofs.SlotWatch.wrote.Goals as goal

none : (l : List ℕ) → length l ≡ 0 → l ≡ []
none [] e = refl
none (x ∷ l) e = absurd (omega (arith, e))

pub returns-then-len-eq0-clause-now : goal.returns-then-len-eq0-clause-now
returns-then-len-eq0-clause-now c = λ n here w.
    let t = c.touch.ensures.now n here w in
    let e : path_in c.args.by.now ≡ root = ap path_in (none c.args.by.now (sym c.len.ensures ∙ c.if-len-eq0.true)) in
    record {
      now = λ nu tells. t.now nu tells
          ∙ subst (λ b. after_touch b (slot (nu c.args.cell) (at c.args.key.now)) (named nu c.args.self.now.keys c.args.self.now.current) ≡ after_write b (path_in c.args.maker.now) (slot (nu c.args.cell) (at c.args.key.now)) (named nu c.args.self.now.keys c.args.self.now.current)) (sym e)
          (sym (by_root (path_in c.args.maker.now) (slot (nu c.args.cell) (at c.args.key.now)) (named nu c.args.self.now.keys c.args.self.now.current)));
    }
