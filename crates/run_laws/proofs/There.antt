-- Each record of the history is made by the strict plain run, and so by the plain run.
use Rattle.std.specs.Prelude.{List, Some, false}
use Rattle.std.proofs.Common.{◌≡◌, ℕ, suc, ◌⊎◌, inl, inr, [], sym, subst, ◌++◌, ◌∙◌}
use Rattle.turk_base.specs.Asks.{Rec}
use Rattle.turk_base.specs.Names.{In, root, Units, self}
use Rattle.turk_base.specs.Prog.{Prog}
use Rattle.turk_base.specs.Start.{start}
use Rattle.turk_base.specs.State.{independent}
use Rattle.js_tree.specs.Eval.{fuel, eval, world, Grown, begun, grew}
use Rattle.js_tree.specs.Run.{End, ret, thr, bar, ended, halted, spent, branch_end, run}
use Rattle.run_laws.proofs.Budget.{in_budget}
use Rattle.run_laws.proofs.Lock.{not_ended, lock}
use Rattle.run_laws.proofs.Order.{Answers, Finds, world_more, answer_more, find_more, Right, grown_right, rel_start, top, strictly, last_exact, plain_follows, closed_spent}
use Rattle.run_laws.proofs.Props.{in_left, in_split}
use Rattle.run_laws.specs.Claim.{completed, RecordsThere}
use Rattle.run_laws.specs.Strict.{Completed, strict_branch_end}
use native.Mathlib.Nat.{le_refl}

as_completed : (e : End) → completed e → Completed (Some e)
as_completed (ret x) c = tt
as_completed (thr v) c = tt
as_completed (bar w) c = absurd c

-- What a run over a right trace made, the strict plain run makes.
made_there : (name : Units) (S : Prog) (n : ℕ) (T T2 : List Rec) (R' R : List (Units × Units)) (l : List Rec) → Right name S n T (world name R l) → Answers R' R → Finds T2 l → Completed (strictly name S n R l).out →
    (q : Rec) → In Rec q (eval S (world name R' T2) T n).made → In Rec q (strictly name S n R l).made
made_there name S n T T2 R' R l r a d c q m = (lock n T (world name R' T2) (world name R l) r.told (world_more name R' R T2 l a d) (suc n) S root root false branch_end strict_branch_end
    (top n T (world name R' T2) (world name R l) r.told (world_more name R' R T2 l a d)) self start start (fuel n) (le_refl _) rel_start r.agree).there c q m

grown_there : {name : Units} {S : Prog} {n : ℕ} {T : List Rec} {R' : List (Units × Units)} → Grown name S n T R' → (R : List (Units × Units)) (l : List Rec) → Answers R' R → Finds T l → Completed (strictly name S n R l).out →
    (q : Rec) → In Rec q T → In Rec q (strictly name S n R l).made
grown_there begun R l a d c q m = elim m [ ]
grown_there {name} {S} {n} (grew {T = T} {T2 = T2} {R = R'} added g (front, rest, z, e)) R l a d c q m =
    choose (grown_there g R l shorter fewer c q) (in_split T front (rw z at m))
  where
    shorter : Answers R' R
    shorter t x y = a t x (answer_more R' added t x y)

    fewer : Finds T l
    fewer p r y = d p r (rw z (find_more T front p r y))

    choose : (In Rec q T → In Rec q (strictly name S n R l).made) → In Rec q T ⊎ In Rec q front → In Rec q (strictly name S n R l).made
    choose h (inl i) = h i
    choose h (inr i) = made_there name S n T T2 R' R l (grown_right g R l shorter fewer) shorter d c q (rw e (in_left front rest i))

or_spent : (name : Units) (S : Prog) (n : ℕ) (T : List Rec) (R : List (Units × Units)) → Grown name S n T R →
    (T2 : List Rec) → T2 ≡ T ++ (eval S (world name R T2) T n).made →
    (e : End) → completed e → (eval S (world name R T2) T n).out ≡ ended e → (eval S (world name R T2) T n).st.verdict ≡ independent → (m : ℕ) →
    ((eval S (world name R T2) [] m).out ≡ halted spent) ⊎ ((q : Rec) → In Rec q T2 → In Rec q (eval S (world name R T2) [] m).made)
or_spent name S n T R g T2 t e c h v m = finish (last_exact name S n T R g T2 t e h v).0
  where
    same : Answers R R
    same t x z = z

    first : Finds T T2
    first p r z = rw t (find_more T _ p r z)

    finish : (strictly name S n R T2).out ≡ Some e → ((eval S (world name R T2) [] m).out ≡ halted spent) ⊎ ((q : Rec) → In Rec q T2 → In Rec q (eval S (world name R T2) [] m).made)
    finish a = last ((plain_follows name S n m R T2).holds e a)
      where
        done : Completed (strictly name S n R T2).out
        done = subst (λ o. Completed o) (sym a) (as_completed e c)

        all : (q : Rec) → In Rec q T ⊎ In Rec q (eval S (world name R T2) T n).made → In Rec q (strictly name S n R T2).made
        all q (inl i) = grown_there g R T2 same first done q i
        all q (inr i) = made_there name S n T T2 R R T2 (grown_right g R T2 same first) same (λ p r z. z) done q i

        last : ((run S (world name R T2) [] (suc m) root root false branch_end start (fuel m)).out ≡ halted spent) ⊎ (((run S (world name R T2) [] (suc m) root root false branch_end start (fuel m)).out ≡ ended e) × ((run S (world name R T2) [] (suc m) root root false branch_end start (fuel m)).st ≡ (strictly name S n R T2).st) × ((run S (world name R T2) [] (suc m) root root false branch_end start (fuel m)).made ≡ (strictly name S n R T2).made)) →
            ((eval S (world name R T2) [] m).out ≡ halted spent) ⊎ ((q : Rec) → In Rec q T2 → In Rec q (eval S (world name R T2) [] m).made)
        last (inl x) = inl (closed_spent _ _ x)
        last (inr (x, y, o)) = inr (λ q i. subst (λ l. In Rec q l) (sym o) (all q (in_split T _ (subst (λ l. In Rec q l) t i))))

pub records_there : RecordsThere
records_there name S n T R g T2 t e c h v m l q i = choose (or_spent name S n T R g T2 t e c h v m) (in_budget name S n T R g T2 t e h v m l).0
  where
    choose : ((eval S (world name R T2) [] m).out ≡ halted spent) ⊎ ((q : Rec) → In Rec q T2 → In Rec q (eval S (world name R T2) [] m).made) → (eval S (world name R T2) [] m).out ≡ ended e → In Rec q (eval S (world name R T2) [] m).made
    choose (inl x) y = absurd (not_ended (sym x ∙ y))
    choose (inr k) y = k q i
