use Rattle.std.proofs.Common.{rules, ◌≡◌, ◌≤◌, sym, subst, List, ◌++◌, ◌∷◌, []}
use Rattle.turk_base.specs.State.{give_value}
use Rattle.value_cells.specs.declared.Value.{Value}
use Rattle.value_cells.specs.Needs.{needs}
use Rattle.value_cells.specs.Seen.{val_in}
use Rattle.eval_ops.specs.Run.{Run, seen_of, count}
use Rattle.eval_ops.specs.Stored.{run_of, IsRun}
use Rattle.eval_ops.specs.Calls.{Changes}
use Rattle.eval_ops.proofs.Notes.{gives, given_run}
use Rattle.eval_ops.proofs.Machine.give.Goals as goal

pub invariant_of-self-2 : goal.invariant_of-self-2
invariant_of-self-2 c =
    let m = run_of c.self.inside in
    let v = c.args.value in
    let vs : c.push.new.self.items ≡ m.values ++ v ∷ [] = search rules in
    let l : needs v ≤ count m = subst (λ (s : Run). needs v ≤ count s) (sym c.self.view_is) c.requires in
    record {
      run = subst (λ (vs : List Value). IsRun (record m { values = vs })) (sym vs) (given_run m v c.self.invariant.run l);
      room = record { kept = c.self.invariant.room.kept; now = c.self.invariant.room.now };
    }

pub returns-clause-ok : goal.returns-clause-ok
returns-clause-ok c =
    let m = run_of c.self.inside in
    let v = c.args.value in
    let vs : c.push.new.self.items ≡ m.values ++ v ∷ [] = search rules in
    subst (λ (s : Run). Changes (λ nu σ. give_value (val_in nu v) σ) (seen_of s) (seen_of (record m { values = c.push.new.self.items }))) c.self.view_is
    (subst (λ (vs : List Value). Changes (λ nu σ. give_value (val_in nu v) σ) (seen_of m) (seen_of (record m { values = vs }))) (sym vs) (gives m v))
