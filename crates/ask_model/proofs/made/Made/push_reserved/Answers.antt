use Rattle.std.proofs.Common.{rules, ◌≡◌, ◌∷◌, ◌++◌, [], sym, subst, cond, length, List, ℕ}
use Rattle.std.specs.List.{slice_get}
use Rattle.turk_base.specs.declared.Entry.{Entry}
use Rattle.ask_model.specs.Made.{comes_after_entry, IsGreatest}
use Rattle.ask_model.proofs.Orders.{greatest_push}
use Rattle.ask_model.proofs.made.Made.push_reserved.Goals as goal

pub invariant_of-self : goal.invariant_of-self
invariant_of-self c =
    let es = c.self.inside.entries.items in
    let e = c.args.what in
    let i = c.self.inside.greatest in
    let all : c.push_reserved.new.self.items ≡ es ++ e ∷ [] = search rules in
    let where_is : c.greatest_with-self-inside.result ≡ cond (comes_after_entry e.path (slice_get es i)) (length es) i = search rules in
    subst (λ (n : ℕ). IsGreatest (slice_get c.push_reserved.new.self.items n) c.push_reserved.new.self.items) (sym where_is)
    (subst (λ (x : List Entry). IsGreatest (slice_get x (cond (comes_after_entry e.path (slice_get es i)) (length es) i)) x) (sym all) (greatest_push es e i c.self.invariant))
