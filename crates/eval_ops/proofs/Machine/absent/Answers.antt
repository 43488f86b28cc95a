use Rattle.std.proofs.Common.{◌≡◌, sym, ◌∙◌, subst, List, ℕ, ◌++◌, ◌∷◌, [], Option, Some, arith}
use Rattle.std.specs.Prelude.{vec_capacity}
use Rattle.eval_ops.specs.Run.{Run, seen_of}
use Rattle.eval_ops.specs.Stored.{run_of, IsRun, HasRoom}
use Rattle.eval_ops.specs.Calls.{Changes, notes}
use Rattle.eval_ops.proofs.Machines.{pushed_all}
use Rattle.eval_ops.proofs.Notes.{notes_one, notes_none, noted_run, noted_room, plain_run, plain_room}
use Rattle.eval_ops.proofs.Machine.absent.Goals as goal

pub invariant_of-self : goal.invariant_of-self
invariant_of-self c =
    let m = run_of c.self.inside in
    let e = c.replace.ensures.after in
    let cap = vec_capacity c.self.inside.gone in
    record {
      run = subst (λ (l : Option (List ℕ)). IsRun (record m { left_back = l })) (sym e) (plain_run m c.self.invariant.run);
      room = subst (λ (l : Option (List ℕ)). HasRoom (record m { left_back = l }) cap) (sym e) (plain_room m cap c.self.invariant.room);
    }

pub returns-in_default-clause-did : goal.returns-in_default-clause-did
returns-in_default-clause-did c =
    let m = run_of c.self.inside in
    subst (λ (s : Run). Changes (λ nu σ. notes s.left_back σ) (seen_of s) (seen_of (record m { left_back = c.replace.new.dest }))) c.self.view_is
    (subst (λ (l : Option (List ℕ)). Changes (λ nu σ. notes m.left_back σ) (seen_of m) (seen_of (record m { left_back = l }))) (sym c.replace.ensures.after)
    (notes_none m (sym c.replace.ensures.value ∙ c.in_default.is)))

pub invariant_of-self-2 : goal.invariant_of-self-2
invariant_of-self-2 c =
    let m = run_of c.self.inside in
    let p = c.in-Some.path in
    let k = c.self.invariant in
    let is : m.left_back ≡ Some p = sym c.replace.ensures.value ∙ c.in-Some.is in
    let room = k.room.now p is in
    let gone : c.push.new.self.items ≡ m.gone ++ p ∷ [] = pushed_all c.push.result c.push.new.self.items (m.gone ++ p ∷ []) m.gone (c.push.ensures.succeeds (omega (arith, room, c.self.inside.gone.ok.0))) c.push.ensures.items in
    record {
      run = subst (λ (g : List (List ℕ)). IsRun (record m { gone = g; left_back = c.replace.new.dest })) (sym gone)
          (subst (λ (l : Option (List ℕ)). IsRun (record m { gone = m.gone ++ p ∷ []; left_back = l })) (sym c.replace.ensures.after) (noted_run m k.run p));
      room = subst (λ (g : List (List ℕ)). HasRoom (record m { gone = g; left_back = c.replace.new.dest }) (vec_capacity c.push.new.self)) (sym gone)
          (subst (λ (l : Option (List ℕ)). HasRoom (record m { gone = m.gone ++ p ∷ []; left_back = l }) (vec_capacity c.push.new.self)) (sym c.replace.ensures.after)
          (noted_room m k.run p (vec_capacity c.self.inside.gone) (vec_capacity c.push.new.self) k.room c.push.ensures.capacity));
    }

pub returns-clause-did : goal.returns-clause-did
returns-clause-did c =
    let m = run_of c.self.inside in
    let p = c.in-Some.path in
    let k = c.self.invariant in
    let is : m.left_back ≡ Some p = sym c.replace.ensures.value ∙ c.in-Some.is in
    let room = k.room.now p is in
    let gone : c.push.new.self.items ≡ m.gone ++ p ∷ [] = pushed_all c.push.result c.push.new.self.items (m.gone ++ p ∷ []) m.gone (c.push.ensures.succeeds (omega (arith, room, c.self.inside.gone.ok.0))) c.push.ensures.items in
    subst (λ (s : Run). Changes (λ nu σ. notes s.left_back σ) (seen_of s) (seen_of (record m { gone = c.push.new.self.items; left_back = c.replace.new.dest }))) c.self.view_is
    (subst (λ (g : List (List ℕ)). Changes (λ nu σ. notes m.left_back σ) (seen_of m) (seen_of (record m { gone = g; left_back = c.replace.new.dest }))) (sym gone)
    (subst (λ (l : Option (List ℕ)). Changes (λ nu σ. notes m.left_back σ) (seen_of m) (seen_of (record m { gone = m.gone ++ p ∷ []; left_back = l }))) (sym c.replace.ensures.after) (notes_one m k.run p is)))
