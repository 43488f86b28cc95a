use Rattle.std.proofs.Common.{◌≡◌, ◌∙◌, ap, sym, ◌-◌, Bool, true, false, not, true≢false, Some, length, slice_get, arith, refl}
use Rattle.std.proofs.lemmas.Bool.Decides.{nat_tests}
use Rattle.value_cells.proofs.Undone.{newest, none-last, free-new, free-saved}
use Rattle.value_cells.proofs.history.History.is_watched.Goals as goal

is-true : (b : Bool) → not b ≡ false → b ≡ true
is-true true e = refl
is-true false e = absurd (true≢false e)

pub returns-then-cell-newest-clause-free : goal.returns-then-cell-newest-clause-free
returns-then-cell-newest-clause-free c = λ e ds es.
    let ss = c.args.self.now.steps.items in let ps = c.args.self.now.marks.items in let q = c.in-Some.newest.now in
    let last : slice_get ps (length ps - 1) ≡ Some q = sym (c.in-Some.ensures.value ∙ ap (λ l. slice_get l (length l - 1)) c.deref.ensures.value) in
    let saved = c.is_saved.ensures (is-true c.is_saved.result e) in
    free-saved ss ps c.args.cell saved.0 (λ k p at. let h = newest ss ps c.requires q last k p at in omega (arith, h.1, saved.1.0)) saved.1.1 ds es

pub returns-else-cell-newest-clause-free : goal.returns-else-cell-newest-clause-free
returns-else-cell-newest-clause-free c = λ e ds es.
    let ss = c.args.self.now.steps.items in let ps = c.args.self.now.marks.items in let q = c.in-Some.newest.now in
    let last : slice_get ps (length ps - 1) ≡ Some q = sym (c.in-Some.ensures.value ∙ ap (λ l. slice_get l (length l - 1)) c.deref.ensures.value) in
    free-new ss ps c.args.cell (λ k p at. let h = newest ss ps c.requires q last k p at in grind (arith, nat_tests)) ds es

pub returns-then-cell-newest-clause-none : goal.returns-then-cell-newest-clause-none
returns-then-cell-newest-clause-none c = λ e.
    absurd (none-last c.args.self.now.marks.items c.in-Some.newest.now e (sym (c.in-Some.ensures.value ∙ ap (λ l. slice_get l (length l - 1)) c.deref.ensures.value)))

pub returns-else-cell-newest-clause-none : goal.returns-else-cell-newest-clause-none
returns-else-cell-newest-clause-none c = λ e.
    absurd (none-last c.args.self.now.marks.items c.in-Some.newest.now e (sym (c.in-Some.ensures.value ∙ ap (λ l. slice_get l (length l - 1)) c.deref.ensures.value)))
