use Rattle.std.proofs.Common.{subst, ap, ◌∙◌, IfOk}
use Rattle.scope_names.specs.Gathered.{with_name}
use Rattle.scope_names.specs.Walks.{Enters}
use Rattle.scope_names.proofs.walk.Walk.enter_one.Goals as goal

pub returns : goal.returns
returns c =
    subst (λ ns. IfOk c.enter.result (λ w. Enters c.args.self (record { names = ns; own = c.args.own }) w)) (c.in_ok-names.ensures ∙ ap (λ ns. with_name ns c.args.name.now) c.new.ensures) c.enter.ensures
