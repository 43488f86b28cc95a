use Rattle.std.proofs.Common.{◌≡◌, ap, sym, ◌∙◌, subst, true, false, rules}
use Rattle.std.specs.Prelude.{OnOk}
use Rattle.turk_base.specs.Trace.{begins}
use Rattle.branch_check.specs.Numbers.{opened}
use Rattle.branch_check.proofs.Pairs.{joined_beside, joined_same, joined_opened}
use Rattle.branch_check.proofs.opens.shorten_at.Goals as goal

pub returns-then-not-begins-clause-ok : goal.returns-then-not-begins-clause-ok
returns-then-not-begins-clause-ok c =
    let t : begins c.args.scope.now c.in-Some.by.now ≡ false = sym c.begins.ensures ∙ c.if-not-begins.true in
    sym (joined_beside c.args.scope.now c.args.place c.args.opens.now.slots (c.in-Some.slot.now, c.in-Some.by.now) (sym c.in-Some.ensures.pair) t)

pub returns-then-eq-clause-ok : goal.returns-then-eq-clause-ok
returns-then-eq-clause-ok c =
    let same : c.args.scope.now ≡ c.in-Some.by.now = search rules in
    sym (joined_same c.args.scope.now c.args.place c.args.opens.now.slots (c.in-Some.slot.now, c.in-Some.by.now) c.requires.scope (sym c.in-Some.ensures.pair) same)

pub returns-clause-ok : goal.returns-clause-ok
returns-clause-ok c =
    let es = c.args.opens.now.slots in
    let x = c.in-Some.slot.now in
    let t : begins c.args.scope.now c.in-Some.by.now ≡ true = sym c.begins.ensures ∙ c.if-not-begins.false in
    subst (λ l. OnOk c.open.result (c.open.new.opens.slots ≡ l))
    (ap (λ p. opened x p es) c.in_ok-path.ensures
    ∙ joined_opened c.args.scope.now c.args.place es (x, c.in-Some.by.now) c.requires.scope (sym c.in-Some.ensures.pair) t c.pair_at.ensures.distinct) c.open.ensures.ok
