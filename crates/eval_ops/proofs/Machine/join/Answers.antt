use Rattle.std.proofs.Common.{rules, ◌≡◌, ◌<◌, ◌≤◌, sym, ap, ◌∙◌, subst, Bool, true, false, List, length, [], Some, None, map, arith}
use Rattle.std.specs.Prelude.{reverse, Ok, Err}
use Rattle.turk_base.specs.Names.{path_in}
use Rattle.turk_base.specs.State.{any_gone}
use Rattle.turk_base.specs.Steps.{joined, fill}
use Rattle.value_cells.specs.declared.Value.{Value}
use Rattle.value_cells.specs.declared.Value.TheVariants as code
use Rattle.value_cells.specs.declared.OpStop.TheVariants.{TooLong}
use Rattle.value_cells.specs.Seen.{val_in}
use Rattle.value_cells.specs.Does.{Says, told_stop}
use Rattle.run_heap.specs.Core.{Core, count, names_in}
use Rattle.run_heap.specs.Works.{Works}
use Rattle.run_heap.proofs.Turn.{works_give}
use Rattle.run_heap.proofs.Whole.{rests_same, rests_then}
use Rattle.eval_ops.specs.Run.{Run, seen_of}
use Rattle.eval_ops.specs.Stored.{run_of, IsRun}
use Rattle.eval_ops.specs.Calls.{Joins}
use Rattle.eval_ops.proofs.Machines.{with_heap, run_same, room_kept, rests_base, stays_of}
use Rattle.eval_ops.proofs.Joins.{cleared_run, joins_none, joins_many, joins_fails, joins_exit, joins_value, joins_out, few_values, array_filled, array_out}
use Rattle.eval_ops.proofs.Machine.join.Goals as goal

pub returns-then-any_absent-clause-did : goal.returns-then-any_absent-clause-did
returns-then-any_absent-clause-did c =
    let m = run_of c.self.inside in
    let gone : any_gone (path_in m.heap.place.path) (map path_in (reverse m.gone)) ≡ true =
    sym (λ i. any_gone (path_in (c.path.ensures i)) (map path_in (reverse (c.deref.ensures.value i)))) ∙ sym c.any_absent.ensures ∙ c.if-any_absent.true in
    subst (λ (s : Run). Joins c.args.wanted (Ok None) (seen_of s) (seen_of s)) c.self.view_is (joins_none m c.args.wanted (λ nu. gone))

pub returns-then-too_many-clause-did : goal.returns-then-too_many-clause-did
returns-then-too_many-clause-did c =
    let m = run_of c.self.inside in
    let here : any_gone (path_in m.heap.place.path) (map path_in (reverse m.gone)) ≡ false =
    sym (λ i. any_gone (path_in (c.path.ensures i)) (map path_in (reverse (c.deref.ensures.value i)))) ∙ sym c.any_absent.ensures ∙ c.if-any_absent.false in
    let many = c.too_many.ensures.many c.if-too_many.true in
    let long : 1000000 < length m.values = omega (arith, many.1, ap (λ l. length l) c.deref-2.ensures.value) in
    subst (λ (s : Run). Joins c.args.wanted (Err TooLong) (seen_of s) (seen_of s)) c.self.view_is
    (subst (λ (b : Bool). Joins b (Err TooLong) (seen_of m) (seen_of m)) (sym many.0) (joins_many m (λ nu. here) long))

pub invariant_of-self : goal.invariant_of-self
invariant_of-self c =
    let m = run_of c.self.inside in
    let h = c.joined.new.self in
    let e : h ≡ m.heap = c.in_err-joined.ensures.same in
    record { run = run_same m h c.self.invariant.run (ap (λ (s : Core). s.cells) e) (ap (λ (s : Core). s.outer) e); room = room_kept m h _ c.self.invariant.room }

pub returns-in_err-joined-clause-did : goal.returns-in_err-joined-clause-did
returns-in_err-joined-clause-did c =
    let m = run_of c.self.inside in
    let h = c.joined.new.self in
    let r = c.joined.ensures.rests in
    let e : h ≡ m.heap = c.in_err-joined.ensures.same in
    joins_exit c.args.wanted c.from_residual.result c.in_err-joined.field-0.0 (seen_of c.args.self.now) (seen_of (with_heap m h)) c.from_residual.ensures.1
    (subst (λ (s : Run). Joins c.args.wanted (Err c.in_err-joined.field-0.0) (seen_of s) (seen_of (with_heap m h))) c.self.view_is
    (subst (λ x. Joins c.args.wanted (Err x) (seen_of m) (seen_of (with_heap m h))) (sym c.in_err-joined.ensures.err)
    (joins_fails m c.args.wanted (seen_of (with_heap m h)) (stays_of m (with_heap m h) (rests_base m h r).scopes r.path r.branch (ap (λ (s : Core). names_in s.cells.now) e)))))

pub invariant_of-self-then-not-wanted : goal.invariant_of-self-then-not-wanted
invariant_of-self-then-not-wanted c =
    let a = c.self.inside in
    let m = run_of a in
    let h = c.joined.new.self in
    let r = c.joined.ensures.rests in
    let w = c.in_ok-joined.ensures.did in
    let here : any_gone (path_in m.heap.place.path) (map path_in (reverse m.gone)) ≡ false =
    sym (λ i. any_gone (path_in (c.path.ensures i)) (map path_in (reverse (c.deref.ensures.value i)))) ∙ sym c.any_absent.ensures ∙ c.if-any_absent.false in
    let few : c.args.wanted ≡ true → length m.values ≤ 1000000 = λ e. let z = c.too_many.ensures.few c.if-too_many.false e in omega (arith, z, ap (λ l. length l) c.deref-2.ensures.value) in
    let none : c.replace-values.new.dest.items ≡ [] = search rules in
    let had : c.replace-values.result.items ≡ m.values = search rules in
    let l : count m.heap ≤ count h = let e : length h.cells.now ≡ length m.heap.cells.now = λ i. length (w.cells i).now in omega (arith, e) in
    record {
      run = subst (λ (vs : List Value). IsRun (record m { heap = h; values = vs })) (sym none) (cleared_run m h c.self.invariant.run r l);
      room = record { kept = c.self.invariant.room.kept; now = c.self.invariant.room.now };
    }

pub returns-then-not-wanted-clause-did : goal.returns-then-not-wanted-clause-did
returns-then-not-wanted-clause-did c =
    let a = c.self.inside in
    let m = run_of a in
    let h = c.joined.new.self in
    let r = c.joined.ensures.rests in
    let w = c.in_ok-joined.ensures.did in
    let here : any_gone (path_in m.heap.place.path) (map path_in (reverse m.gone)) ≡ false =
    sym (λ i. any_gone (path_in (c.path.ensures i)) (map path_in (reverse (c.deref.ensures.value i)))) ∙ sym c.any_absent.ensures ∙ c.if-any_absent.false in
    let few : c.args.wanted ≡ true → length m.values ≤ 1000000 = λ e. let z = c.too_many.ensures.few c.if-too_many.false e in omega (arith, z, ap (λ l. length l) c.deref-2.ensures.value) in
    let none : c.replace-values.new.dest.items ≡ [] = search rules in
    let had : c.replace-values.result.items ≡ m.values = search rules in
    let no : c.args.wanted ≡ false = c.if-not-wanted.true in
    let works : Works (λ nu. joined c.args.wanted (map (val_in nu) m.values)) (λ nu. Says (val_in nu code.Undefined)) h h =
    subst (λ (b : Bool). Works (λ nu. joined b (map (val_in nu) m.values)) (λ nu. Says (val_in nu code.Undefined)) h h) (sym no) (works_give (λ nu. val_in nu code.Undefined) h) in
    subst (λ (s : Run). Joins c.args.wanted (Ok (Some code.Undefined)) (seen_of s) (seen_of (record m { heap = h; values = c.replace-values.new.dest.items }))) c.self.view_is
    (subst (λ (vs : List Value). Joins c.args.wanted (Ok (Some code.Undefined)) (seen_of m) (seen_of (record m { heap = h; values = vs }))) (sym none)
    (joins_value m h r w c.args.wanted (λ nu. here) (few_values c.args.wanted m few) h (rests_same h) code.Undefined works))

pub returns-in_err-cell-clause-did : goal.returns-in_err-cell-clause-did
returns-in_err-cell-clause-did c =
    let a = c.self.inside in
    let m = run_of a in
    let h = c.joined.new.self in
    let r = c.joined.ensures.rests in
    let w = c.in_ok-joined.ensures.did in
    let here : any_gone (path_in m.heap.place.path) (map path_in (reverse m.gone)) ≡ false =
    sym (λ i. any_gone (path_in (c.path.ensures i)) (map path_in (reverse (c.deref.ensures.value i)))) ∙ sym c.any_absent.ensures ∙ c.if-any_absent.false in
    let few : c.args.wanted ≡ true → length m.values ≤ 1000000 = λ e. let z = c.too_many.ensures.few c.if-too_many.false e in omega (arith, z, ap (λ l. length l) c.deref-2.ensures.value) in
    let none : c.replace-values.new.dest.items ≡ [] = search rules in
    let had : c.replace-values.result.items ≡ m.values = search rules in
    let x = c.in_err-cell.field-0.0 in
    let last = c.make.new.self in
    let yes : c.args.wanted ≡ true = c.if-not-wanted.false in
    let works : Works (λ nu. joined c.args.wanted (map (val_in nu) m.values)) (λ nu. told_stop x) h last =
    subst (λ (b : Bool). Works (λ nu. joined b (map (val_in nu) m.values)) (λ nu. told_stop x) h last) (sym yes) (array_out m.values h x last c.in_err-cell.ensures.did) in
    joins_exit c.args.wanted c.from_residual-in_err-cell.result x (seen_of c.args.self.now) (seen_of (record m { heap = last; values = c.replace-values.new.dest.items })) c.from_residual-in_err-cell.ensures.1
    (subst (λ (s : Run). Joins c.args.wanted (Err x) (seen_of s) (seen_of (record m { heap = last; values = c.replace-values.new.dest.items }))) c.self.view_is
    (subst (λ (vs : List Value). Joins c.args.wanted (Err x) (seen_of m) (seen_of (record m { heap = last; values = vs }))) (sym none)
    (joins_out m h r w c.args.wanted (λ nu. here) (few_values c.args.wanted m few) last c.make.ensures.rests x works)))

pub returns-in_err-array-clause-did : goal.returns-in_err-array-clause-did
returns-in_err-array-clause-did c =
    let a = c.self.inside in
    let m = run_of a in
    let h = c.joined.new.self in
    let r = c.joined.ensures.rests in
    let w = c.in_ok-joined.ensures.did in
    let here : any_gone (path_in m.heap.place.path) (map path_in (reverse m.gone)) ≡ false =
    sym (λ i. any_gone (path_in (c.path.ensures i)) (map path_in (reverse (c.deref.ensures.value i)))) ∙ sym c.any_absent.ensures ∙ c.if-any_absent.false in
    let few : c.args.wanted ≡ true → length m.values ≤ 1000000 = λ e. let z = c.too_many.ensures.few c.if-too_many.false e in omega (arith, z, ap (λ l. length l) c.deref-2.ensures.value) in
    let none : c.replace-values.new.dest.items ≡ [] = search rules in
    let had : c.replace-values.result.items ≡ m.values = search rules in
    let x = c.in_err-array.field-0.0 in
    let last = c.fill.new.heap in
    let yes : c.args.wanted ≡ true = c.if-not-wanted.false in
    let vs : c.deref-3.result.now ≡ m.values = c.deref-3.ensures.value ∙ had in
    let works : Works (λ nu. joined c.args.wanted (map (val_in nu) m.values)) (λ nu. told_stop x) h last =
    subst (λ (b : Bool). Works (λ nu. joined b (map (val_in nu) m.values)) (λ nu. told_stop x) h last) (sym yes)
    (array_filled m.values h c.in_ok-cell.cell (Err x) c.make.new.self last c.in_ok-cell.ensures.did
    (subst (λ (vs : List Value). Works (λ nu. fill (nu c.in_ok-cell.cell) 0 (map (val_in nu) vs)) (λ nu. told_stop x) c.make.new.self last) vs c.in_err-array.ensures.did)) in
    joins_exit c.args.wanted c.from_residual-in_err-array.result x (seen_of c.args.self.now) (seen_of (record m { heap = last; values = c.replace-values.new.dest.items })) c.from_residual-in_err-array.ensures.1
    (subst (λ (s : Run). Joins c.args.wanted (Err x) (seen_of s) (seen_of (record m { heap = last; values = c.replace-values.new.dest.items }))) c.self.view_is
    (subst (λ (vs : List Value). Joins c.args.wanted (Err x) (seen_of m) (seen_of (record m { heap = last; values = vs }))) (sym none)
    (joins_out m h r w c.args.wanted (λ nu. here) (few_values c.args.wanted m few) last (rests_then h c.make.new.self last c.make.ensures.rests c.fill.ensures.rests) x works)))

pub returns-clause-did : goal.returns-clause-did
returns-clause-did c =
    let a = c.self.inside in
    let m = run_of a in
    let h = c.joined.new.self in
    let r = c.joined.ensures.rests in
    let w = c.in_ok-joined.ensures.did in
    let here : any_gone (path_in m.heap.place.path) (map path_in (reverse m.gone)) ≡ false =
    sym (λ i. any_gone (path_in (c.path.ensures i)) (map path_in (reverse (c.deref.ensures.value i)))) ∙ sym c.any_absent.ensures ∙ c.if-any_absent.false in
    let few : c.args.wanted ≡ true → length m.values ≤ 1000000 = λ e. let z = c.too_many.ensures.few c.if-too_many.false e in omega (arith, z, ap (λ l. length l) c.deref-2.ensures.value) in
    let none : c.replace-values.new.dest.items ≡ [] = search rules in
    let had : c.replace-values.result.items ≡ m.values = search rules in
    let v = c.in_ok-array.array in
    let last = c.fill.new.heap in
    let yes : c.args.wanted ≡ true = c.if-not-wanted.false in
    let vs : c.deref-3.result.now ≡ m.values = c.deref-3.ensures.value ∙ had in
    let works : Works (λ nu. joined c.args.wanted (map (val_in nu) m.values)) (λ nu. Says (val_in nu v)) h last =
    subst (λ (b : Bool). Works (λ nu. joined b (map (val_in nu) m.values)) (λ nu. Says (val_in nu v)) h last) (sym yes)
    (array_filled m.values h c.in_ok-cell.cell (Ok v) c.make.new.self last c.in_ok-cell.ensures.did
    (subst (λ (vs : List Value). Works (λ nu. fill (nu c.in_ok-cell.cell) 0 (map (val_in nu) vs)) (λ nu. Says (val_in nu v)) c.make.new.self last) vs c.in_ok-array.ensures.did)) in
    subst (λ (s : Run). Joins c.args.wanted (Ok (Some v)) (seen_of s) (seen_of (record m { heap = last; values = c.replace-values.new.dest.items }))) c.self.view_is
    (subst (λ (vs : List Value). Joins c.args.wanted (Ok (Some v)) (seen_of m) (seen_of (record m { heap = last; values = vs }))) (sym none)
    (joins_value m h r w c.args.wanted (λ nu. here) (few_values c.args.wanted m few) last (rests_then h c.make.new.self last c.make.ensures.rests c.fill.ensures.rests) v works))
