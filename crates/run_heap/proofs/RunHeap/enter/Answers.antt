use Rattle.std.proofs.Common.{rules, ℕ, ◌≡◌, refl, ap, sym, ◌∙◌, subst, ◌++◌, ◌∷◌, [], if◌then◌else◌, Some, slice_get}
use Rattle.turk_base.specs.Names.{Under, path_in, home}
use Rattle.value_cells.specs.Held.{Cell}
use Rattle.run_heap.specs.declared.Place.{Place}
use Rattle.run_heap.specs.Core.{Core, names_in}
use Rattle.run_heap.specs.Stored.{core_of}
use Rattle.run_heap.specs.Scopes.{IsReady}
use Rattle.run_heap.proofs.Scoping.{entered, core_enter}
use Rattle.run_heap.proofs.RunHeap.enter.Goals as goal

pub invariant_of-self-2 : goal.invariant_of-self-2
invariant_of-self-2 c =
    let a = c.self.inside in
    let p = c.replace-around.new.dest in
    let is : p ≡ record { path = c.in_ok-inner.inner; branch = c.in_ok-held.held; made = 0; calls = 0 } = search rules in
    let inner : c.in_ok-inner.inner ≡ c.args.path.now = search rules in
    let holds : c.in_ok-held.held ≡ (if c.args.branch then c.args.path.now else a.place.branch) = search rules in
    let around : c.push.new.self.items ≡ a.outer.items ++ a.place ∷ [] = search rules in
    let path : p.path ≡ c.args.path.now = ap (λ (p : Place). p.path) is ∙ inner in
    let held : p.branch ≡ (if c.args.branch then p.path else a.place.branch) =
    ap (λ (p : Place). p.branch) is ∙ holds ∙ ap (λ l. if c.args.branch then l else a.place.branch) (sym path) in
    let ready : IsReady c.args.path.now a.place.path a.place.calls (names_in a.cells.now) = subst (λ (s : Core). IsReady c.args.path.now s.place.path s.place.calls (names_in s.cells.now)) (sym c.self.view_is) c.requires in
    core_enter (core_of a) c.self.invariant c.mark_both.new.cells c.mark_both.new.slots p c.push.new.self.items c.args.branch ready.index
    c.mark_both.ensures.now c.in_ok-opened.ensures.cells c.mark_both.ensures.current.0 c.in_ok-opened.ensures.slots (path ∙ ready.path) held around ready.counted
    (λ i n e u. ready.free.unused i n e (subst (λ l. Under (path_in l) (home n)) path u)) (ap (λ (p : Place). p.made) is)
