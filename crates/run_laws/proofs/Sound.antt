-- What a run and the strict plain run have in common, and how it is put together from parts.
use Rattle.std.specs.Prelude.{List, Bool, true, false, Some, None}
use Rattle.std.proofs.Common.{◌≡◌, ◌≤◌, ◌+◌, ℕ, suc, refl, ap, arith, ◌⊎◌, inl, inr, [], ◌∷◌, ◌++◌, sym, ◌∙◌, subst, true≢false}
use Rattle.turk_base.specs.declared.Record.{Record}
use Rattle.turk_base.specs.declared.Record.TheVariants as kept
use Rattle.turk_base.specs.Asks.{Rec, rec, path_of}
use Rattle.turk_base.specs.Data.{Data, DUndefined}
use Rattle.turk_base.specs.Names.{Path, sub, Under, self, In}
use Rattle.turk_base.specs.State.{St, any_gone, Verdict, independent, touched_open, once_while_open, branch_threw}
use Rattle.turk_base.specs.Values.{Refusal}
use Rattle.js_tree.specs.Run.{End, ret, thr, bar, Out, ended, waits, halted, Res, res, add}
use Rattle.js_tree.specs.World.{Rest}
use Rattle.run_laws.proofs.Paths.{up, not_below, one_index}
use Rattle.run_laws.proofs.Props.{none_some, in_split, in_one, in_left, in_right}
use Rattle.run_laws.proofs.Relation.{Rel}
use Rattle.run_laws.proofs.Within.{After}
use Rattle.run_laws.specs.Strict.{Entry, entry, Strict, note, strict, Completed, Noted, noting}

-- Each once record that the log tells of has the value with which its body ended there.
abbrev pub Agree : (Path → ℕ) → List Rec → List Entry → Type 0
Agree C l m = (p : Path) (n : Data) (o : Noted) → In Rec (rec p (kept.Once n)) l → In Entry (entry p o) m → (o.kept ≡ Some n) × (o.cost ≤ C p)

abbrev pub EndRel : Path → Bool → End → St → St → Type 0
EndRel s body (ret v) σ φ = Rel s body σ φ
EndRel s body (thr v) σ φ = Rel s body σ φ
EndRel s body (bar w) σ φ = Unit {0}

abbrev pub SameEnd : Path → Bool → End → Res → Strict → Type 0
SameEnd s body x e r = ((r.out ≡ Some x) × EndRel s body x e.st r.st) ⊎ ((r.out ≡ None) × (body ≡ false))

pub record Sound (C : Path → ℕ) (B : ℕ) (s : Path) (body : Bool) (e : Res) (r : Strict) : Type 0 where
  pub logs : Agree C e.made r.log
  pub there : Completed r.out → (q : Rec) → In Rec q e.made → In Rec q r.made
  pub owes : (x : End) → e.out ≡ ended x → (body ≡ false → any_gone s e.st.gone ≡ false) → r.out ≡ Some x → r.cost + e.rest.left ≤ B
  pub ends : (x : End) → e.out ≡ ended x → (body ≡ false → any_gone s e.st.gone ≡ false) → SameEnd s body x e r

out_end : End → Out → End
out_end z (ended x) = x
out_end z waits = z
out_end z (halted w) = z

pub ended_is : {x y : End} → ended x ≡ ended y → x ≡ y
unfolding out_end
ended_is {x} e = ap (out_end x) e

pub sound_halt : {C : Path → ℕ} {B : ℕ} {s : Path} {body : Bool} {r : Strict} (o : Out) (σ : St) (f : Rest) → ((x : End) → o ≡ ended x → ⊥) → Sound C B s body (res o σ f) r
sound_halt o σ f h = record { logs = λ p n o m k. elim m [ ]; there = λ c q m. elim m [ ]; owes = λ x e g d. absurd (h x e); ends = λ x e g. absurd (h x e) }

pub sound_bar : {C : Path → ℕ} {B : ℕ} {s : Path} {body : Bool} {r : Strict} (w : Refusal) (σ : St) (f : Rest) → r.out ≡ Some (bar w) → r.cost + f.left ≤ B → Sound C B s body (res (ended (bar w)) σ f) r
sound_bar {s = s} {body} {r} w σ f h hc = record {
  owes = λ x e g d. hc;
  logs = λ p n o m k. elim m [ ];
  there = λ c q m. elim m [ ];
  ends = λ x e g. subst (λ x. SameEnd s body x (res (ended (bar w)) σ f) r) (ended_is e) (inl (h, tt));
}

pub sound_strict : {C : Path → ℕ} {B : ℕ} {s : Path} (T : List Rec) (body : Bool) (v : Verdict) (τ : St) (e : Res) (r : Strict) →
    ((body ≡ false → v ≡ independent) → Agree C T r.log → Sound C B s body e r) → Agree C T (strict body v τ r).log → Sound C B s body e (strict body v τ r)
sound_strict T true v τ e r h a = h (λ z. absurd (true≢false z)) a
sound_strict T false independent τ e r h a = h (λ z. refl) a
sound_strict T false (touched_open x) τ e r h a = record { logs = λ p n o m k. elim k [ ]; there = λ c q m. absurd c; owes = λ x z g d. absurd (none_some d); ends = λ x z g. inr (refl, refl) }
sound_strict T false (once_while_open x) τ e r h a = record { logs = λ p n o m k. elim k [ ]; there = λ c q m. absurd c; owes = λ x z g d. absurd (none_some d); ends = λ x z g. inr (refl, refl) }
sound_strict T false (branch_threw x) τ e r h a = record { logs = λ p n o m k. elim k [ ]; there = λ c q m. absurd c; owes = λ x z g d. absurd (none_some d); ends = λ x z g. inr (refl, refl) }

pub path_in : Entry → Path
path_in (entry q o) = q

end_in : Entry → Noted
end_in (entry q o) = o

num_of : Record → Data
num_of (kept.Post t) = DUndefined
num_of (kept.Reply t x) = DUndefined
num_of (kept.Draw m n) = DUndefined
num_of (kept.Once d) = d

num_in : Rec → Data
num_in (rec p x) = num_of x

pub clash : {c : ℕ} {s q : Path} → Under (sub c s) q → After s (suc c) q → ⊥
clash u (i, h, v) = omega (arith, one_index u v)

-- A scope's part of the records lE and of the log lP, then what comes after it.
module _ {C : Path → ℕ} (s : Path) (c : ℕ) (lE : List Rec) (lP : List Entry)
    (uE : (q : Rec) → In Rec q lE → Under (sub c s) (path_of q))
    (uP : (q : Path) (o : Noted) → In Entry (entry q o) lP → Under (sub c s) q)
    (ag : Agree C lE lP) where
  pub wide : (m : List Entry) → ((q : Path) (o : Noted) → In Entry (entry q o) m → In Entry (entry q o) lP ⊎ After s (suc c) q) → Agree C lE m
  wide m h p n o x k = choose (h p o k)
    where
      choose : In Entry (entry p o) lP ⊎ After s (suc c) p → (o.kept ≡ Some n) × (o.cost ≤ C p)
      choose (inl y) = ag p n o x y
      choose (inr a) = absurd (clash (uE _ x) a)

  pub tall : (l : List Rec) → ((q : Rec) → In Rec q l → After s (suc c) (path_of q)) → Agree C (lE ++ l) lP
  tall l h p n o x k = choose (in_split lE l x)
    where
      choose : In Rec (rec p (kept.Once n)) lE ⊎ In Rec (rec p (kept.Once n)) l → (o.kept ≡ Some n) × (o.cost ≤ C p)
      choose (inl y) = ag p n o y k
      choose (inr y) = absurd (clash (uP p o k) (h _ y))

  pub seq : {body : Bool} {B' B : ℕ} (mP : List Rec) → ((q : Rec) → In Rec q lE → In Rec q mP) → (k : ℕ) → (e : Res) (r : Strict) →
      ((x : End) → e.out ≡ ended x → (body ≡ false → any_gone s e.st.gone ≡ false) → k + B' ≤ B) → ((q : Rec) → In Rec q e.made → After s (suc c) (path_of q)) →
      ((q : Path) (o : Noted) → In Entry (entry q o) r.log → After s (suc c) q) → Sound C B' s body e r → Sound C B s body (add lE e) (note lP mP k r)
  seq mP mm k e r hk aE aP w = record {
    owes = λ x z g d. let a = w.owes x z g d in let b = hk x z g in omega (arith, a, b);
    logs = λ p n o m k. both p n o (in_split lE e.made m) (in_split lP r.log k);
    there = λ c q m. elim (in_split lE e.made m) [ inl a ↦ in_left mP r.made (mm q a) | inr a ↦ in_right mP r.made (w.there c q a) ];
    ends = w.ends;
  }
    where
      both : (p : Path) (n : Data) (o : Noted) → In Rec (rec p (kept.Once n)) lE ⊎ In Rec (rec p (kept.Once n)) e.made →
          In Entry (entry p o) lP ⊎ In Entry (entry p o) r.log → (o.kept ≡ Some n) × (o.cost ≤ C p)
      both p n o (inl m) (inl k) = ag p n o m k
      both p n o (inl m) (inr k) = absurd (clash (uE _ m) (aP p o k))
      both p n o (inr m) (inl k) = absurd (clash (uP p o k) (aE _ m))
      both p n o (inr m) (inr k) = w.logs p n o m k

-- A once body's records with its own, and its log with its own entry.
module _ {C : Path → ℕ} (p : Path) (lE : List Rec) (lP : List Entry)
    (uE : (q : Rec) → In Rec q lE → After p 0 (path_of q))
    (uP : (q : Path) (o : Noted) → In Entry (entry q o) lP → After p 0 q)
    (ag : Agree C lE lP) where
  own : {q : Path} → q ≡ p → After p 0 q → ⊥
  own e (i, h, u) = not_below (rw e at u)

  pub with_entry : (o : Noted) → Agree C lE (lP ++ (entry p o ∷ []))
  unfolding path_in
  with_entry o q n o' m k = choose (in_split lP _ k)
    where
      choose : In Entry (entry q o') lP ⊎ In Entry (entry q o') (entry p o ∷ []) → (o'.kept ≡ Some n) × (o'.cost ≤ C q)
      choose (inl y) = ag q n o' m y
      choose (inr y) = absurd (own (ap path_in (in_one y)) (uE _ m))

  pub with_both : (n : Data) (k : ℕ) → k ≤ C p → Agree C (lE ++ (rec p (kept.Once n) ∷ [])) (lP ++ (entry p (noting (Some n) k) ∷ []))
  unfolding path_in end_in num_in num_of
  with_both n j hj q n' o' m k = choose (in_split lE _ m) (in_split lP _ k)
    where
      choose : In Rec (rec q (kept.Once n')) lE ⊎ In Rec (rec q (kept.Once n')) (rec p (kept.Once n) ∷ []) →
          In Entry (entry q o') lP ⊎ In Entry (entry q o') (entry p (noting (Some n) j) ∷ []) → (o'.kept ≡ Some n') × (o'.cost ≤ C q)
      choose (inl x) y = with_entry (noting (Some n) j) q n' o' x k
      choose (inr x) (inl y) = absurd (own (ap path_of (in_one x)) (uP q o' y))
      choose (inr x) (inr y) = (ap (λ z. z.kept) (ap end_in (in_one y)) ∙ ap (λ z. Some z) (sym (ap num_in (in_one x))), subst (λ z. z.cost ≤ C q) (sym (ap end_in (in_one y))) (subst (λ z. j ≤ C z) (sym (ap path_in (in_one y))) hj))

  pub with_own : (o : Noted) (q : Path) (o' : Noted) → In Entry (entry q o') (lP ++ (entry p o ∷ [])) → Under p q
  unfolding path_in
  with_own o q o' k = choose (in_split lP _ k)
    where
      choose : In Entry (entry q o') lP ⊎ In Entry (entry q o') (entry p o ∷ []) → Under p q
      choose (inl y) = up (uP q o' y).2
      choose (inr y) = rw (ap path_in (in_one y)) self

  pub with_rec : (n : Data) (q : Rec) → In Rec q (lE ++ (rec p (kept.Once n) ∷ [])) → Under p (path_of q)
  with_rec n q k = choose (in_split lE _ k)
    where
      choose : In Rec q lE ⊎ In Rec q (rec p (kept.Once n) ∷ []) → Under p (path_of q)
      choose (inl y) = up (uE q y).2
      choose (inr y) = rw (in_one y) self
