-- Fuel of n times (1 + the once records of the trace) is enough for the plain run.
use Rattle.std.specs.Prelude.{List, Some, false}
use Rattle.std.proofs.Common.{◌≡◌, ◌≤◌, ℕ, suc, ◌*◌, ◌+◌, refl, ap, arith, [], ◌∷◌, ◌++◌, ◌∙◌}
use Rattle.turk_base.specs.declared.Record.{Record}
use Rattle.turk_base.specs.declared.Record.TheVariants as kept
use Rattle.turk_base.specs.Asks.{Rec, rec}
use Rattle.turk_base.specs.Names.{root, self, Units}
use Rattle.turk_base.specs.Prog.{Prog}
use Rattle.turk_base.specs.Start.{start}
use Rattle.turk_base.specs.State.{any_gone}
use Rattle.js_tree.specs.Eval.{fuel, eval, world, Grown, once_of, onces, Budget}
use Rattle.js_tree.specs.Run.{End, ended, branch_end, run}
use Rattle.run_laws.proofs.Count.{counts, count_all, mul_le}
use Rattle.run_laws.proofs.Lock.{lock}
use Rattle.run_laws.proofs.Order.{Answers, world_more, find_more, Right, grown_right, rel_start, top, strictly, last_exact, steady_told, closed_ended, closed_end}
use Rattle.run_laws.proofs.Pays.{pays, y_done}
use Rattle.run_laws.specs.Claim.{InBudget}
use Rattle.run_laws.specs.Strict.{strict_branch_end}
use native.Mathlib.Nat.{le_refl, le_trans}

once_less : (x : Record) (m n : ℕ) → m ≤ n → once_of x m ≤ once_of x n
once_less (kept.Post t) m n l = l
once_less (kept.Reply t x) m n l = l
once_less (kept.Draw k j) m n l = l
once_less (kept.Once d) m n l = omega (arith, l)

onces_more : (T m : List Rec) → onces T ≤ onces (T ++ m)
onces_more [] m = omega arith
onces_more (rec p x ∷ T) m = once_less x _ _ (onces_more T m)

mul_suc : (n a : ℕ) → n + n * a ≤ n * suc a
mul_suc n a = omega arith

-- What the strict plain run costs.
cost_less : (name : Units) (S : Prog) (n : ℕ) (T : List Rec) (R : List (Units × Units)) → Grown name S n T R → (T2 : List Rec) → T2 ≡ T ++ (eval S (world name R T2) T n).made →
    (e : End) → (eval S (world name R T2) T n).out ≡ ended e → (strictly name S n R T2).out ≡ Some e → (strictly name S n R T2).cost ≤ Budget T2 n
cost_less name S n T R g T2 t e h o = finish (closed_ended _ _ e h)
  where
    same : Answers R R
    same t x z = z

    right : Right name S n T (world name R T2)
    right = grown_right g R T2 same (λ p r z. rw t (find_more T _ p r z))

    finish : (any_gone root (run S (world name R T2) T (suc n) root root false branch_end start (fuel n)).st.gone ≡ false) × ((run S (world name R T2) T (suc n) root root false branch_end start (fuel n)).out ≡ ended e) →
        (strictly name S n R T2).cost ≤ Budget T2 n
    finish (z, i) =
        let a = (lock n T (world name R T2) (world name R T2) right.told (world_more name R R T2 T2 same (λ p r z. z)) (suc n) S root root false branch_end strict_branch_end
        (top n T (world name R T2) (world name R T2) right.told (world_more name R R T2 T2 same (λ p r z. z))) self start start (fuel n) (le_refl _) rel_start right.agree).owes e i (λ y. z) o in
        let b : onces T ≤ onces T2 = rw t (onces_more T _) in
        let c : counts T root 0 ≤ onces T2 = le_trans (count_all T root 0) b in
        let d : n * counts T root 0 ≤ n * onces T2 = mul_le n (counts T root 0) (onces T2) c in
        omega (arith, a, d)

pub in_budget : InBudget
in_budget name S n T R g T2 t e h v m l = finish (closed_ended _ _ e h) (last_exact name S n T R g T2 t e h v)
  where
    finish : (any_gone root (run S (world name R T2) T (suc n) root root false branch_end start (fuel n)).st.gone ≡ false) × ((run S (world name R T2) T (suc n) root root false branch_end start (fuel n)).out ≡ ended e) →
        ((strictly name S n R T2).out ≡ Some e) × ((strictly name S n R T2).st ≡ (eval S (world name R T2) T n).st) →
        ((eval S (world name R T2) [] m).out ≡ ended e) × ((eval S (world name R T2) [] m).st ≡ (eval S (world name R T2) T n).st)
    finish (z, o) (a, b) = last ((pays (world name R T2) (steady_told name R T2) (suc m) (suc n) (enough (le_trans (mul_suc n (onces T2)) l)) S root root false branch_end strict_branch_end
        (λ o τ w z. y_done (world name R T2) (steady_told name R T2) o τ w) self start (fuel m) refl).holds e a (le_trans (cost_less name S n T R g T2 t e h a) l))
      where
        enough : n + n * onces T2 ≤ m → suc n ≤ suc m
        enough h = omega (arith, h)

        last : ((run S (world name R T2) [] (suc m) root root false branch_end start (fuel m)).out ≡ ended e) × ((run S (world name R T2) [] (suc m) root root false branch_end start (fuel m)).st ≡ (strictly name S n R T2).st) ×
            (m ≤ (run S (world name R T2) [] (suc m) root root false branch_end start (fuel m)).rest.left + (strictly name S n R T2).cost) →
            ((eval S (world name R T2) [] m).out ≡ ended e) × ((eval S (world name R T2) [] m).st ≡ (eval S (world name R T2) T n).st)
        last (c, d, x) = (closed_end _ _ e (ap (λ τ. any_gone root τ.gone) (d ∙ b) ∙ z) c, d ∙ b)
