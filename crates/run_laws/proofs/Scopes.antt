-- The relation at the two ends of a scope, and where a branch is absent.
use Rattle.std.specs.Prelude.{Bool, false, None}
use Rattle.std.proofs.Common.{◌≡◌, ◌≤◌, ℕ, suc, refl, ap, arith, ◌⊎◌, inl, inr, [], ◌∷◌, ◌++◌, sym, ◌∙◌}
use Rattle.turk_base.specs.Names.{Path, sub, Under, self, down, In, first, later, Name, Slot, home, holder, under}
use Rattle.turk_base.specs.State.{St, sees, Opening, opening, cut, any_gone, once_call, next_call, enter, leave, give_value, cut_all, absent}
use Rattle.turk_base.specs.Values.{Val}
use Rattle.run_laws.proofs.Frame.{Framed, StillOpen, OpenBelow}
use Rattle.run_laws.proofs.Lists.{cut_keep, cut_under, none_gone, gone_none}
use Rattle.run_laws.proofs.Paths.{under_trans, up, comparable, not_below, one_index, under_step}
use Rattle.run_laws.proofs.Relation.{Off, LeftOpen, Alike, Rel, at_call}
use Rattle.run_laws.proofs.Within.{Keeps}

-- The next index is taken.
pub rel_next : {s : Path} {body : Bool} {σ φ : St} → Rel s body σ φ → Rel s body (at_call σ (suc φ.calls)) (next_call φ)
rel_next r = record {
  calls = refl;
  cells = r.cells;
  vals = r.vals;
  none = r.none;
  known = r.known;
  lost = r.lost;
  val = r.val;
  fresh = λ i n h u. r.fresh i n (omega (arith, r.calls)) u;
  apart = r.apart;
  old = λ a i m h. r.old a i m (omega (arith, r.calls));
}

-- The relation doesn't see verdicts.
pub rel_once : (b : Path) {s : Path} {body : Bool} {σ φ : St} → Rel s body σ φ → Rel s body (once_call b σ) (once_call b φ)
rel_once b r = record {
  calls = r.calls;
  cells = r.cells;
  vals = r.vals;
  none = r.none;
  known = r.known;
  lost = r.lost;
  val = r.val;
  fresh = r.fresh;
  apart = r.apart;
  old = r.old;
}

-- Into the scope at the next index.
pub rel_enter : {s : Path} {body : Bool} {σ φ : St} (body' : Bool) → Rel s body σ φ →
    ((x : Slot) → Off σ.gone (home (holder x)) → Alike body' σ φ x) → Rel (sub φ.calls s) body' (enter σ) (enter φ)
rel_enter {s} {body} {σ} {φ} body' r h = record {
  calls = refl;
  cells = refl;
  vals = λ g. refl;
  none = r.none;
  known = r.known;
  lost = r.lost;
  val = λ x o. h x o;
  fresh = λ i n z u. r.fresh φ.calls n (omega (arith, r.calls)) (up u);
  apart = λ a m u. outside a m (under_step u);
  old = λ a i m z u. r.old a φ.calls m (omega (arith, r.calls)) (up u);
}
  where
    outside : (a : Path) → In Path a σ.gone → (a ≡ sub φ.calls s) ⊎ Under a s → ⊥
    outside a m (inl e) = r.old a φ.calls m (omega (arith, r.calls)) (rw e self)
    outside a m (inr u) = r.apart a m u

module _ (s : Path) (body : Bool) (σ φ : St) (r : Rel s body σ φ) where
  module _ (body' : Bool) (back : body' ≡ false → body ≡ false) (τ τ' : St) (q : Rel (sub φ.calls s) body' τ τ') (k : Keeps (sub φ.calls s) (enter σ) τ) where
    leave_apart : (a : Path) → In Path a τ.gone → ¬ (Under a s)
    leave_apart a m u = choose (k.new m)
      where
        choose : In Path a σ.gone ⊎ Under (sub φ.calls s) a → ⊥
        choose (inl m') = r.apart a m' u
        choose (inr v) = not_below (under_trans v u)

    leave_old : (a : Path) (i : ℕ) → In Path a τ.gone → suc φ.calls ≤ i → ¬ (Under (sub i s) a)
    leave_old a i m h u = choose (k.new m)
      where
        choose : In Path a σ.gone ⊎ Under (sub φ.calls s) a → ⊥
        choose (inl m') = r.old a i m' (omega (arith, r.calls)) u
        choose (inr v) = omega (arith, one_index u v)

    leave_fresh : (i : ℕ) (n : Name) → suc φ.calls ≤ i → Under (sub i s) (home n) → τ.known n ≡ None
    leave_fresh i n h u = k.known n (λ v. omega (arith, one_index u v)) ∙ r.fresh i n (omega (arith, r.calls)) u

    leave_vals : any_gone s τ.gone ≡ false → σ.vals ≡ φ.vals
    leave_vals g = r.vals (gone_none s σ.gone (λ a m. none_gone s τ.gone g (k.more m)))

    leave_alike : (x : Slot) → Alike body' τ τ' x → Alike body τ τ' x
    leave_alike x (inl e) = inl e
    leave_alike x (inr (e, h)) = inr (back e, h)

    -- Out of a scope at the next index.
    pub rel_leave : Rel s body (leave (at_call σ (suc φ.calls)) τ) (leave (next_call φ) τ')
    rel_leave = record {
      calls = refl;
      cells = r.cells;
      vals = leave_vals;
      none = q.none;
      known = q.known;
      lost = q.lost;
      val = λ x o. leave_alike x (q.val x o);
      fresh = leave_fresh;
      apart = leave_apart;
      old = leave_old;
    }

    -- Out of a branch at the next index, in which no branch is absent.
    pub rel_joined : (v : Val) → any_gone (sub φ.calls s) τ.gone ≡ false →
        Rel s body (give_value v (leave (at_call σ (suc φ.calls)) (cut_all (sub φ.calls s) τ))) (give_value v (leave (next_call φ) (cut_all (sub φ.calls s) τ')))
    rel_joined v g = record {
      calls = refl;
      cells = r.cells;
      vals = λ h. ap (λ z. z ++ (v ∷ [])) (leave_vals h);
      none = q.none;
      known = q.known;
      lost = q.lost;
      val = λ x o. cutting x (q.val x o);
      fresh = leave_fresh;
      apart = leave_apart;
      old = leave_old;
    }
      where
        cutting : (x : Slot) → Alike body' τ τ' x → (sees τ x ≡ sees τ' x) ⊎ ((body ≡ false) × LeftOpen x τ.gone (cut (sub φ.calls s) τ'.opened))
        cutting x (inl e) = inl e
        cutting x (inr (e, (p, a, m, n, u))) = inr (back e, (p, a, cut_keep (sub φ.calls s) τ'.opened (λ w. outside (comparable u w)) m, n, u))
          where
            outside : Under a (sub φ.calls s) ⊎ Under (sub φ.calls s) a → ⊥
            outside (inl z) = q.apart a n z
            outside (inr z) = none_gone (sub φ.calls s) τ.gone g n z

  -- A branch at the next index is absent on the left; on the right it ran from φ and gave τ'.
  pub rel_absent : body ≡ false → (τ' : St) → Framed (sub φ.calls s) (sub φ.calls s) (enter φ) τ' → (v : Val) →
      Rel s body (absent (sub φ.calls s) (at_call σ (suc φ.calls))) (give_value v (leave (next_call φ) (cut_all (sub φ.calls s) τ')))
  rel_absent e τ' f v = record {
    calls = refl;
    cells = r.cells;
    vals = λ g. absurd (none_gone s (sub φ.calls s ∷ σ.gone) g first (down self));
    none = f.gone ∙ r.none;
    known = λ n o. r.known n (λ a m. o a (later m)) ∙ sym (f.known n (o _ first));
    lost = lost';
    val = λ x o. val' x (r.val x (λ a m. o a (later m))) (f.frame tt x (o _ first));
    fresh = λ i n h u. r.fresh i n (omega (arith, r.calls)) u;
    apart = apart';
    old = old';
  }
    where
      lost' : (n : Name) (a : Path) → In Path a (sub φ.calls s ∷ σ.gone) → Under a (home n) → σ.known n ≡ None
      lost' n a first u = r.fresh φ.calls n (omega (arith, r.calls)) u
      lost' n a (later m) u = r.lost n a m u

      apart' : (a : Path) → In Path a (sub φ.calls s ∷ σ.gone) → ¬ (Under a s)
      apart' a first u = not_below u
      apart' a (later m) u = r.apart a m u

      old' : (a : Path) (i : ℕ) → In Path a (sub φ.calls s ∷ σ.gone) → suc φ.calls ≤ i → ¬ (Under (sub i s) a)
      old' a i first h u = omega (arith, one_index u self)
      old' a i (later m) h u = r.old a i m (omega (arith, r.calls)) u

      below : (x : Slot) (q : Path) → In Opening (opening x q) τ'.opened → Under (sub φ.calls s) q → (sees σ x ≡ sees τ' x) ⊎ ((body ≡ false) × LeftOpen x (sub φ.calls s ∷ σ.gone) (cut (sub φ.calls s) τ'.opened))
      below x q m u = inr (e, (sub φ.calls s, sub φ.calls s, cut_under (sub φ.calls s) τ'.opened tt u m, first, self))

      still : (x : Slot) (p a : Path) → In Path a σ.gone → Under a p → StillOpen (sub φ.calls s) x p τ'.opened → Dec (Under (sub φ.calls s) p) →
          (sees σ x ≡ sees τ' x) ⊎ ((body ≡ false) × LeftOpen x (sub φ.calls s ∷ σ.gone) (cut (sub φ.calls s) τ'.opened))
      still x p a n u (q, m, inr w) d = below x q m w
      still x p a n u (q, m, inl d') (yes w) = below x q m (rw d' w)
      still x p a n u (q, m, inl d') (no w) = inr (e, (p, a, cut_keep (sub φ.calls s) τ'.opened w (rw d' at m), later n, u))

      val' : (x : Slot) → Alike body σ φ x → (sees τ' x ≡ sees φ x) ⊎ OpenBelow (sub φ.calls s) x τ'.opened →
          (sees σ x ≡ sees τ' x) ⊎ ((body ≡ false) × LeftOpen x (sub φ.calls s ∷ σ.gone) (cut (sub φ.calls s) τ'.opened))
      val' x a (inr (q, m, u)) = below x q m u
      val' x (inl d) (inl d') = inl (d ∙ sym d')
      val' x (inr (z, (p, a, m, n, u))) (inl d') = still x p a n u (f.keep tt x p m) (under (sub φ.calls s) p)
