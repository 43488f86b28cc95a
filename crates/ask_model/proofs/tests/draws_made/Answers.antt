use Rattle.std.proofs.Common.{◌≡◌, ◌+◌, ◌++◌, ◌∷◌, [], pos, arith, refl, rules, subst, sym}
use Rattle.turk_base.specs.declared.Record.TheVariants.{Draw}
use Rattle.ask_model.specs.Asker.{entry}
use Rattle.ask_model.proofs.Numbered.{Numbered, numbered_push}
use Rattle.ask_model.proofs.tests.draws_made.Goals as goal

pub loop-i-preserved : goal.loop-i-preserved
loop-i-preserved c =
    let es = c.loop-i.entries.items in
    let e = entry (c.loop-i.i ∷ []) (Draw (pos 2) (pos 1)) in
    let is : c.push_draw.new.entries.items ≡ es ++ e ∷ [] = search rules in
    subst (Numbered (c.loop-i.i + 1)) (sym is) (numbered_push c.loop-i.i es e c.loop-i.invariant (omega arith) refl (record { some = omega arith; short = omega arith; what = (omega arith, omega arith) }))
