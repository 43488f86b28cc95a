-- What an evaluator rests on whose asker looks in the trace with what was made: what a part made lies at calls that were
-- counted, so nothing that was made stands at or below the calls to come.
use Rattle.std.specs.Prelude.{List, true, false, Some, None, if◌then◌else◌}
use Rattle.std.proofs.Common.{◌≡◌, ◌≤◌, ℕ, suc, refl, ap, arith, [], ◌∷◌, ◌++◌, subst}
use Rattle.turk_base.specs.Asks.{Rec, path_of, find, below, strictly}
use Rattle.turk_base.specs.Names.{Path, sub, Under, self, In, first, later, path_eq, pick, under}
use Rattle.turk_base.specs.Prog.{Prog}
use Rattle.turk_base.specs.State.{St}
use Rattle.turk_base.specs.Values.{Undefined, Outcome}
use Rattle.js_tree.specs.Run.{valued, ret, ended, Res, res, add}
use Rattle.js_tree.specs.World.{Rest}
use Rattle.run_laws.proofs.Counted.{Counted, here, run_counted}
use Rattle.run_laws.proofs.Paths.{one_index}
use Rattle.run_laws.proofs.Props.{in_left}
use Rattle.run_laws.proofs.Sequel.{Place, Ends}
use Rattle.run_laws.proofs.Within.{After}
use native.Mathlib.Nat.{le_refl}

-- what comes after a part: the scope ends
abbrev done : Outcome → St → Rest → Res
done o τ w = res (ended (ret (valued Undefined))) τ w

-- A part that ended made its records at or below calls from that of its start on, which were counted at its end.
pub ends_counted : {c : Place} {g : Prog} {o : Outcome} {σ τ : St} {w w' : Rest} {l : List Rec} → Ends c g o σ w τ w' l →
    (σ.calls ≤ τ.calls) × ((q : Rec) → In Rec q l → (i : ℕ) × (σ.calls ≤ i) × (suc i ≤ τ.calls) × Under (sub i c.scope) (path_of q))
ends_counted {c} {g} {o} {σ} {τ} {w} {w'} {l} h = finish (subst (λ r. Counted c.scope σ.calls r) (h.holds done) (run_counted g c.world c.trace c.bound c.scope c.branch c.body done (λ o τ w. here _ τ w) σ w))
  where
    finish : Counted c.scope σ.calls (add l (done o τ w')) → (σ.calls ≤ τ.calls) × ((q : Rec) → In Rec q l → (i : ℕ) × (σ.calls ≤ i) × (suc i ≤ τ.calls) × Under (sub i c.scope) (path_of q))
    finish k = (k.rises (ret (valued Undefined)) tt refl, λ q m. k.passed (ret (valued Undefined)) tt refl q (in_left l [] m))

-- so it stands at or below no call from that end on
pub ends_before : {c : Place} {g : Prog} {o : Outcome} {σ τ : St} {w w' : Rest} {l : List Rec} → Ends c g o σ w τ w' l → (q : Rec) → In Rec q l → After c.scope τ.calls (path_of q) → ⊥
ends_before h q m (j, n, u) = let p = (ends_counted h).1 q m in let e = one_index p.3 u in let k = p.2 in omega (arith, e, k, n)

-- ---- looking in the trace with what was made

pub looks_found : (T m : List Rec) (s : Path) (c : ℕ) → ((r : Rec) → In Rec r m → After s c (path_of r) → ⊥) → find (sub c s) (T ++ m) ≡ find (sub c s) T
looks_found [] m s c h = free m h
  where
    free : (m : List Rec) → ((r : Rec) → In Rec r m → After s c (path_of r) → ⊥) → find (sub c s) m ≡ None
    free [] h = refl
    free (x ∷ m) h = inner (path_eq (path_of x) (sub c s)) (free m (λ r i a. h r (later i) a))
      where
        inner : (d : Dec (path_of x ≡ sub c s)) → find (sub c s) m ≡ None → pick d (Some x) (find (sub c s) m) ≡ None
        inner (yes d) e = absurd (h x first (c, le_refl c, rw d self))
        inner (no d) e = e
looks_found (x ∷ T) m s c h = inner (path_eq (path_of x) (sub c s)) (looks_found T m s c h)
  where
    inner : (d : Dec (path_of x ≡ sub c s)) → find (sub c s) (T ++ m) ≡ find (sub c s) T → pick d (Some x) (find (sub c s) (T ++ m)) ≡ pick d (Some x) (find (sub c s) T)
    inner (yes d) e = refl
    inner (no d) e = e

pub looks_below : (T m : List Rec) (s : Path) (c : ℕ) → ((r : Rec) → In Rec r m → After s c (path_of r) → ⊥) → below (sub c s) (T ++ m) ≡ below (sub c s) T
looks_below [] m s c h = free m h
  where
    free : (m : List Rec) → ((r : Rec) → In Rec r m → After s c (path_of r) → ⊥) → below (sub c s) m ≡ false
    free [] h = refl
    free (x ∷ m) h = inner (path_eq (sub c s) (path_of x)) (under (sub c s) (path_of x)) (free m (λ r i a. h r (later i) a))
      where
        inner : (d : Dec (sub c s ≡ path_of x)) (u : Dec (Under (sub c s) (path_of x))) → below (sub c s) m ≡ false → (if strictly d u then true else below (sub c s) m) ≡ false
        inner (yes d) u e = e
        inner (no d) (yes u) e = absurd (h x first (c, le_refl c, u))
        inner (no d) (no u) e = e
looks_below (x ∷ T) m s c h = ap (λ b. if strictly (path_eq (sub c s) (path_of x)) (under (sub c s) (path_of x)) then true else b) (looks_below T m s c h)
