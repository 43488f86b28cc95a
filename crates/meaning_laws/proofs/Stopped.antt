-- Laws that join what a stopped run made with the records' distinct paths; records stay made, at calls that were counted.
use Rattle.std.specs.Prelude.{List, true, false}
use Rattle.std.proofs.Common.{◌≡◌, suc, [], ◌∷◌, ◌++◌, sym, ◌∙◌, subst}
use Rattle.turk_base.specs.declared.Record.TheVariants as kept
use Rattle.turk_base.specs.Asks.{Rec, rec, path_of}
use Rattle.turk_base.specs.Names.{root, sub, In, first, later}
use Rattle.turk_base.specs.Start.{start}
use Rattle.turk_base.specs.State.{any_gone, once_call, next_call, enter}
use Rattle.js_tree.specs.Eval.{fuel}
use Rattle.js_tree.specs.Run.{branch_end, run, on_once, once_goes, on_fork, fork_goes, forked}
use Rattle.run_laws.proofs.Counted.{branch_end_counted, body_end_counted, run_counted}
use Rattle.run_laws.proofs.Order.{closed_ended}
use Rattle.run_laws.proofs.Fronts.{assoc, find_over, find_new}
use Rattle.run_laws.proofs.Parting.{undrawn_next, body_front, branch_front}
use Rattle.run_laws.proofs.Props.{in_left, in_right}
use Rattle.run_laws.specs.Stops.{Front}
use Rattle.meaning_laws.specs.Laws.{Distinct, CallsPassed, StopsUndrawn, RecordsStay, body_run, branch_run}
use Rattle.meaning_laws.proofs.Whole.{made_is_new}

apart_from_next : (l : List Rec) (r : Rec) (m : List Rec) → Distinct (l ++ (r ∷ m)) → (q : Rec) → In Rec q l → path_of q ≡ path_of r → ⊥
apart_from_next [] r m d q i e = elim i [ ]
apart_from_next (x ∷ l) r m d q first e = d.0 r (in_right l (r ∷ m) first) (sym e)
apart_from_next (x ∷ l) r m d q (later i) e = apart_from_next l r m d.1 q i e

pub stops_undrawn : StopsUndrawn
stops_undrawn S E T n P1 p m k f = let a = made_is_new S E T n in undrawn_next S E T n P1 p m k
    (find_over p T P1 (a.new (rec p (kept.Draw m k)) (subst (λ l. In Rec (rec p (kept.Draw m k)) l) (sym f.is) (in_left (P1 ++ (rec p (kept.Draw m k) ∷ [])) f.rest (in_right P1 (rec p (kept.Draw m k) ∷ []) first))))
    ∙ find_new p P1 (λ q i e. apart_from_next P1 (rec p (kept.Draw m k)) f.rest (subst Distinct (f.is ∙ assoc P1 (rec p (kept.Draw m k) ∷ []) f.rest) a.distinct) q i e)) f

pub records_stay : RecordsStay
unfolding run
records_stay g E T N s b body k σ w e = (
  subst (λ o. Front (body_run g E T N s b σ w).made (on_once o (once_call b (next_call σ)) w (once_goes E T s b body k) (body_run g E T N s b σ w) (sub σ.calls s)).made) (sym e)
      (body_front (body_run g E T N s b σ w).out (body_run g E T N s b σ w) (sub σ.calls s) (once_call b (next_call σ)) (once_goes E T s b body k)),
  subst (λ o. Front (branch_run g E T N s σ w).made (on_fork o (next_call σ) (forked w) (fork_goes k) (branch_run g E T N s σ w) (sub σ.calls s)).made) (sym e)
      (branch_front (any_gone (sub σ.calls s) (branch_run g E T N s σ w).st.gone) (branch_run g E T N s σ w).out (branch_run g E T N s σ w) (sub σ.calls s) (next_call σ) (fork_goes k)),
)

pub calls_passed : CallsPassed
calls_passed = record {
  script = λ S E T n e k z q m. let o = (closed_ended _ _ e z).1 in
      let p = (run_counted S E T (suc n) root root false branch_end (branch_end_counted root) start (fuel n)).passed e k o q m in (p.0, p.2, p.3);
  body = λ g E T N s b σ w e k z q m.
      let p = (run_counted g E T N (sub σ.calls s) b true _ (body_end_counted E T (sub σ.calls s) b) (enter (once_call b (next_call σ))) w).passed e k z q m in (p.0, p.2, p.3);
  branch = λ g E T N s σ w e k z q m.
      let p = (run_counted g E T N (sub σ.calls s) (sub σ.calls s) false branch_end (branch_end_counted (sub σ.calls s)) (enter (next_call σ)) (forked w)).passed e k z q m in (p.0, p.2, p.3);
}
