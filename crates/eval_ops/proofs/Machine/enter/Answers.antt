use Rattle.std.proofs.Common.{rules, ◌≡◌, ◌≤◌, ◌+◌, refl, sym, ◌∙◌, subst, not, length, ◌++◌, ◌∷◌, [], None, arith}
use Rattle.std.specs.Prelude.{vec_len, vec_capacity}
use Rattle.turk_base.specs.Names.{path_in}
use Rattle.eval_ops.specs.declared.Outer.{Outer}
use Rattle.eval_ops.specs.Run.{Run, seen_of}
use Rattle.eval_ops.specs.Stored.{run_of}
use Rattle.eval_ops.specs.Calls.{Enters}
use Rattle.eval_ops.proofs.Marks.{scopes_many}
use Rattle.eval_ops.proofs.Machines.{same_machine}
use Rattle.eval_ops.proofs.Scoping.{enters, enters_run, enters_room}
use Rattle.eval_ops.proofs.Machine.enter.Goals as goal

pub invariant_of-self : goal.invariant_of-self
invariant_of-self c =
    let m = run_of c.self.inside in
    let cap = vec_capacity c.self.inside.gone in
    let e : record m { outer = c.reserve.new.self.items } ≡ m = λ i. record m { outer = c.reserve.ensures.items i } in
    let z = same_machine m (record m { outer = c.reserve.new.self.items }) cap cap e (omega arith) c.self.invariant.run c.self.invariant.room in
    record { run = z.0; room = z.1 }

pub invariant_of-self-then-is_err-2 : goal.invariant_of-self-then-is_err-2
invariant_of-self-then-is_err-2 c =
    let m = run_of c.self.inside in
    let m' : Run = record m { outer = c.reserve.new.self.items; gone = c.reserve-2.new.self.items } in
    let e : m' ≡ m = λ i. record m { outer = c.reserve.ensures.items i; gone = c.reserve-2.ensures.items i } in
    let z = same_machine m m' (vec_capacity c.self.inside.gone) (vec_capacity c.reserve-2.new.self) e c.reserve-2.ensures.capacity c.self.invariant.run c.self.invariant.room in
    record { run = z.0; room = z.1 }

pub invariant_of-self-in_err-opened : goal.invariant_of-self-in_err-opened
invariant_of-self-in_err-opened c =
    let m = run_of c.self.inside in
    let m' : Run = record m { heap = c.enter.new.self; outer = c.reserve.new.self.items; gone = c.reserve-2.new.self.items } in
    let h : c.enter.new.self ≡ m.heap = c.in_err-opened.ensures.same in
    let e : m' ≡ m = λ i. record m { heap = h i; outer = c.reserve.ensures.items i; gone = c.reserve-2.ensures.items i } in
    let z = same_machine m m' (vec_capacity c.self.inside.gone) (vec_capacity c.reserve-2.new.self) e c.reserve-2.ensures.capacity c.self.invariant.run c.self.invariant.room in
    record { run = z.0; room = z.1 }

pub invariant_of-self-2 : goal.invariant_of-self-2
invariant_of-self-2 c =
    let a = c.self.inside in
    let m = run_of a in
    let o : Outer = record { body = a.body; values = c.replace-values.result; printed = c.len.result; absent = c.len-2.result } in
    let m' : Run = record { heap = c.enter.new.self; body = not c.args.branch; values = c.replace-values.new.dest.items; text = a.output; gone = c.reserve-2.new.self.items; outer = c.push.new.self.items; left_back = None } in
    let outer : c.push.new.self.items ≡ a.outer.items ++ o ∷ [] = search rules in
    let values : c.replace-values.new.dest.items ≡ [] = search rules in
    let had : c.replace-values.result.items ≡ a.values.items = search rules in
    let printed : c.len.result ≡ length a.output = c.len.ensures in
    let absent : c.len-2.result ≡ length a.gone.items = omega (arith, c.len-2.ensures, c.reserve-2.ensures.len, a.gone.ok.0) in
    let room : vec_len c.reserve-2.new.self + 1 ≤ vec_capacity c.reserve-2.new.self = search rules in
    record {
      run = enters_run m c.self.invariant.run c.known.ensures.core c.enter.new.self c.args.path.now c.args.branch c.in_ok-opened.ensures.ok m' o (refl, (had, (printed, absent))) refl refl values refl c.reserve-2.ensures.items outer;
      room = enters_room m c.self.invariant.run c.known.ensures.core c.enter.new.self c.args.path.now c.args.branch c.in_ok-opened.ensures.ok m' o (refl, (had, (printed, absent))) refl refl values refl c.reserve-2.ensures.items outer
          (vec_capacity a.gone) (vec_capacity c.reserve-2.new.self) c.self.invariant.room c.reserve-2.ensures.capacity (omega (arith, room, c.len-2.ensures)) refl;
    }

pub returns-clause-ok : goal.returns-clause-ok
returns-clause-ok c =
    let a = c.self.inside in
    let m = run_of a in
    let o : Outer = record { body = a.body; values = c.replace-values.result; printed = c.len.result; absent = c.len-2.result } in
    let m' : Run = record { heap = c.enter.new.self; body = not c.args.branch; values = c.replace-values.new.dest.items; text = a.output; gone = c.reserve-2.new.self.items; outer = c.push.new.self.items; left_back = None } in
    let outer : c.push.new.self.items ≡ a.outer.items ++ o ∷ [] = search rules in
    let values : c.replace-values.new.dest.items ≡ [] = search rules in
    let had : c.replace-values.result.items ≡ a.values.items = search rules in
    let printed : c.len.result ≡ length a.output = c.len.ensures in
    let absent : c.len-2.result ≡ length a.gone.items = omega (arith, c.len-2.ensures, c.reserve-2.ensures.len, a.gone.ok.0) in
    subst (λ (s : Run). Enters (path_in c.args.path.now) c.args.branch (seen_of s) (seen_of m')) c.self.view_is
    (enters m c.self.invariant.run c.known.ensures.core c.enter.new.self c.args.path.now c.args.branch c.in_ok-opened.ensures.ok m' o (refl, (had, (printed, absent))) refl refl values refl c.reserve-2.ensures.items outer)

pub returns-clause-entered : goal.returns-clause-entered
returns-clause-entered c =
    let a = c.self.inside in
    let m = run_of a in
    let o : Outer = record { body = a.body; values = c.replace-values.result; printed = c.len.result; absent = c.len-2.result } in
    let m' : Run = record { heap = c.enter.new.self; body = not c.args.branch; values = c.replace-values.new.dest.items; text = a.output; gone = c.reserve-2.new.self.items; outer = c.push.new.self.items; left_back = None } in
    let outer : c.push.new.self.items ≡ a.outer.items ++ o ∷ [] = search rules in
    let values : c.replace-values.new.dest.items ≡ [] = search rules in
    let had : c.replace-values.result.items ≡ a.values.items = search rules in
    let printed : c.len.result ≡ length a.output = c.len.ensures in
    let absent : c.len-2.result ≡ length a.gone.items = omega (arith, c.len-2.ensures, c.reserve-2.ensures.len, a.gone.ok.0) in
    let run = enters_run m c.self.invariant.run c.known.ensures.core c.enter.new.self c.args.path.now c.args.branch c.in_ok-opened.ensures.ok m' o (refl, (had, (printed, absent))) refl refl values refl c.reserve-2.ensures.items outer in
    c.in_ok-opened.ensures.opened ∙ sym run.as_many ∙ sym (scopes_many m' (length m'.outer))
