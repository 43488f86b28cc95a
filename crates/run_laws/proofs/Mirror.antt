-- A run, and the same over its trace followed by a front of what it made, with no replies and no draws: where the front is
-- all that was made and the run ended or waits, the second does as it did and makes nothing; where a post was made next, the
-- second makes it first.
use Rattle.std.specs.Prelude.{ℤ, List, Bool, true, false, Option, Some, None, nat_lt, if◌then◌else◌}
use Rattle.std.proofs.Common.{◌≡◌, ◌≤◌, ℕ, suc, zero, refl, ap, arith, ◌⊎◌, inl, inr, [], ◌∷◌, ◌++◌, sym, ◌∙◌, subst, true≢false}
use Rattle.turk_base.specs.declared.Record.TheVariants as kept
use Rattle.turk_base.specs.Asks.{Question, posts, replies, draws, AnsOf, Rec, rec, path_of, find, below, strictly, answer, token}
use Rattle.turk_base.specs.Names.{Path, root, sub, Units, Under, self, under, path_eq, In, first, later, units_eq, integer_eq}
use Rattle.turk_base.specs.Prog.{Prog, Done, Ask, Then, Always, Once, Fork, Loop}
use Rattle.turk_base.specs.Start.{start}
use Rattle.turk_base.specs.State.{St, AnswerTo, op_cost, Act, gives, refused, waiting, stuck, act, any_gone, once_call, next_call, enter, leave, absent, give_value, cut_all, threw}
use Rattle.turk_base.specs.Steps.{Small, give, refuse, lost, step, ask, taking, put_data, steps_of}
use Rattle.turk_base.specs.Values.{Val, Undefined, Outcome, Normal, Break, Continue, Return, Throw}
use Rattle.js_tree.specs.Eval.{fuel, eval, world, closed}
use Rattle.js_tree.specs.Run.{Gift, undrawn, datum, value_in, data_in, valued, End, ret, thr, bar, Out, ended, waits, halted, Why, Res, res, add, pay_if, on_act, on_kept, on_ask, run_steps, branch_end, body_end, after_body, on_once, once_goes, after_branch, on_fork, fork_goes, forked, on_normal, turns, run}
use Rattle.js_tree.specs.World.{World, called_by, found_kept, Divergence, diverges, kept_answer, Fresh, fresh, fresh_reply, fresh_draw, draw_of, Rest, drew}
use Rattle.run_laws.proofs.Falls.{FallsK, branch_end_left, body_end_left, normal_left, turns_left, run_left}
use Rattle.run_laws.proofs.Fronts.{assoc, nothing_more, same_head, same_tail, not_nil, meet, Meets, front, front_trans}
use Rattle.run_laws.proofs.Lock.{found_at, some_is}
use Rattle.run_laws.proofs.Parting.{body_front, branch_front}
use Rattle.run_laws.proofs.Paths.{up, not_below}
use Rattle.run_laws.proofs.Props.{none_some, in_left, in_right, in_split, in_one, pick_yes}
use Rattle.run_laws.proofs.Replay.{find_left, find_in, too_little, minus_both, drew_same}
use Rattle.run_laws.proofs.Sound.{clash}
use Rattle.run_laws.proofs.Within.{After, Within, WithinK, within_res, ActKept, act_kept, steps_within, run_within, branch_end_within, body_end_within, once_goes_within, fork_goes_within, normal_within, turns_within}
use Rattle.run_laws.specs.Stops.{Front, PostRests, WaitsAgain}
use native.Mathlib.Nat.{le_refl, le_trans}

-- it ended or waits
abbrev pub Good : Out → Type 0
Good (ended e) = Unit {0}
Good waits = Unit {0}
Good (halted w) = ⊥

pub record Same (e e' : Res) : Type 0 where
  pub out : e'.out ≡ e.out
  pub st : e'.st ≡ e.st
  pub made : e'.made ≡ []
  pub left : e.rest.left ≤ e'.rest.left

-- what the second run does, where the first made this after the front
abbrev pub Stop : List Rec → Res → Res → Type 0
Stop [] e e' = Good e.out → Same e e'
Stop (rec p (kept.Post t) ∷ l) e e' = Front (rec p (kept.Post t) ∷ []) e'.made
Stop (rec p (kept.Reply t x) ∷ l) e e' = Unit {0}
Stop (rec p (kept.Draw m n) ∷ l) e e' = Unit {0}
Stop (rec p (kept.Once d) ∷ l) e e' = Unit {0}

-- T' has a record at the path of each of these
abbrev pub Has : List Rec → List Rec → Type 0
Has T' P = (q : Rec) → In Rec q P → find (path_of q) T' ≡ None → ⊥

-- in a run's range T' has those of T and these alone
abbrev pub Only : List Rec → List Rec → Path → ℕ → List Rec → Type 0
Only T T' s c P = (r : Rec) → In Rec r T' → After s c (path_of r) → In Rec r T ⊎ In Rec r P

pub record Mirrors (T T' : List Rec) (s : Path) (c : ℕ) (e e' : Res) : Type 0 where
  pub holds : (P rest : List Rec) → e.made ≡ P ++ rest → Has T' P → Only T T' s c P → Stop rest e e'

-- ---- parts of a run

stop_nil : {e e' : Res} (rest : List Rec) → rest ≡ [] → (Good e.out → Same e e') → Stop rest e e'
stop_nil [] z h = h
stop_nil (x ∷ l) z h = absurd (not_nil (sym z))

nil_rest : (P rest : List Rec) → [] ≡ P ++ rest → rest ≡ []
nil_rest [] rest z = sym z
nil_rest (x ∷ l) rest z = absurd (not_nil z)

m_res : {T T' : List Rec} {s : Path} {c : ℕ} {e e' : Res} → e.made ≡ [] → (Good e.out → Same e e') → Mirrors T T' s c e e'
m_res m g = record { holds = λ P rest z h o. stop_nil rest (nil_rest P rest (sym m ∙ z)) g }

m_halt : {T T' : List Rec} {s : Path} {c : ℕ} {e e' : Res} (w : Why) → e.made ≡ [] → e.out ≡ halted w → Mirrors T T' s c e e'
m_halt w m h = m_res m (λ g. absurd (subst Good h g))

m_end : {T T' : List Rec} {s : Path} {c : ℕ} {e e' : Res} → e.made ≡ [] → e'.out ≡ e.out → e'.st ≡ e.st → e'.made ≡ [] → e.rest.left ≤ e'.rest.left → Mirrors T T' s c e e'
m_end m h q m' l = m_res m (λ g. record { out = h; st = q; made = m'; left = l })

m_skip : {T T' : List Rec} {s : Path} {c : ℕ} {e e' : Res} → Mirrors T T' s (suc c) e e' → Mirrors T T' s c e e'
m_skip k = record { holds = λ P rest z h o. k.holds P rest z h (λ r m a. o r m (a.0, omega (arith, a.1), a.2)) }

stop_add : (e e' : Res) (rest l : List Rec) → Stop rest e e' → Stop rest (add l e) e'
stop_add e e' [] l k = λ g. let a = k g in record { out = a.out; st = a.st; made = a.made; left = a.left }
stop_add e e' (rec p (kept.Post t) ∷ m) l k = k
stop_add e e' (rec p (kept.Reply t x) ∷ m) l k = tt
stop_add e e' (rec p (kept.Draw b n) ∷ m) l k = tt
stop_add e e' (rec p (kept.Once d) ∷ m) l k = tt

stop_after : (e e' : Res) (rest l : List Rec) → l ≡ [] → Stop rest e e' → Stop rest e (add l e')
stop_after e e' [] l z k = λ g. let a = k g in record { out = a.out; st = a.st; made = ap (λ l. l ++ e'.made) z ∙ a.made; left = a.left }
stop_after e e' (rec p (kept.Post t) ∷ m) l z k = front k.rest (ap (λ l. l ++ e'.made) z ∙ k.is)
stop_after e e' (rec p (kept.Reply t x) ∷ m) l z k = tt
stop_after e e' (rec p (kept.Draw b n) ∷ m) l z k = tt
stop_after e e' (rec p (kept.Once d) ∷ m) l z k = tt

-- The stop lies in a scope.
stop_in : (r r' e e' : Res) (h : Rec) (l m : List Rec) → Stop (h ∷ l) r r' → Front r'.made e'.made → Stop (h ∷ m) e e'
stop_in r r' e e' (rec p (kept.Post t)) l m k f = front_trans k f
stop_in r r' e e' (rec p (kept.Reply t x)) l m k f = tt
stop_in r r' e e' (rec p (kept.Draw b n)) l m k f = tt
stop_in r r' e e' (rec p (kept.Once d)) l m k f = tt

stop_up : (r r' e' : Res) (rest : List Rec) → Stop rest r r' → (Same r r' → e' ≡ r') → Front r'.made e'.made → Stop rest r e'
stop_up r r' e' [] k h f = λ g. let a = k g in subst (λ z. Same r z) (sym (h a)) a
stop_up r r' e' (rec p (kept.Post t) ∷ m) k h f = front_trans k f
stop_up r r' e' (rec p (kept.Reply t x) ∷ m) k h f = tt
stop_up r r' e' (rec p (kept.Draw b n) ∷ m) k h f = tt
stop_up r r' e' (rec p (kept.Once d) ∷ m) k h f = tt

-- What a part made, then the rest of the run.
m_step : {T T' : List Rec} {s : Path} {c : ℕ} {e e' : Res} (l : List Rec) → ((q : Rec) → In Rec q l → Under (sub c s) (path_of q)) → Mirrors T T' s (suc c) e e' →
    (P Q rest : List Rec) → P ≡ l ++ Q → e.made ≡ Q ++ rest → Has T' P → Only T T' s c P → Stop rest (add l e) e'
m_step {T} {T'} {s} {c} {e} {e'} l u k P Q rest z is h o = stop_add e e' rest l (k.holds Q rest is (λ q m. h q (subst (λ P. In Rec q P) (sym z) (in_right l Q m))) (λ r m a. choose r a (o r m (a.0, omega (arith, a.1), a.2))))
  where
    mine : (r : Rec) → After s (suc c) (path_of r) → In Rec r l ⊎ In Rec r Q → In Rec r T ⊎ In Rec r Q
    mine r a (inl i) = absurd (clash (u r i) a)
    mine r a (inr i) = inr i

    choose : (r : Rec) → After s (suc c) (path_of r) → In Rec r T ⊎ In Rec r P → In Rec r T ⊎ In Rec r Q
    choose r a (inl i) = inl i
    choose r a (inr i) = mine r a (in_split l Q (subst (λ P. In Rec r P) z i))

abbrev pub MirrorK : {A : Type 0} → List Rec → List Rec → Path → (A → St → Rest → Res) → (A → St → Rest → Res) → Type 0
MirrorK {A} T T' s k k' = (a : A) (τ τ' : St) (w w' : Rest) → τ' ≡ τ → w.left ≤ w'.left → Mirrors T T' s τ.calls (k a τ w) (k' a τ' w')

-- ---- nothing stands there

below_not : (p : Path) (l : List Rec) → below p l ≡ false → (r : Rec) → In Rec r l → Under p (path_of r) → (p ≡ path_of r → ⊥) → ⊥
below_not p [] e r m u n = elim m [ ]
below_not p (x ∷ l) e r m u n = inner x (path_eq p (path_of x)) (under p (path_of x)) e m (λ z i. below_not p l z r i u n)
  where
    inner : (x : Rec) (d : Dec (p ≡ path_of x)) (v : Dec (Under p (path_of x))) → (if strictly d v then true else below p l) ≡ false → In Rec r (x ∷ l) → (below p l ≡ false → In Rec r l → ⊥) → ⊥
    inner x (yes z) v e first h = n z
    inner x (yes z) v e (later i) h = h e i
    inner x (no z) (yes v) e i h = true≢false e
    inner x (no z) (no v) e first h = v u
    inner x (no z) (no v) e (later i) h = h e i

below_free : (p : Path) (l : List Rec) → ((r : Rec) → In Rec r l → Under p (path_of r) → (p ≡ path_of r → ⊥) → ⊥) → below p l ≡ false
below_free p [] h = refl
below_free p (x ∷ l) h = inner (path_eq p (path_of x)) (under p (path_of x)) (below_free p l (λ r i u n. h r (later i) u n))
  where
    inner : (d : Dec (p ≡ path_of x)) (v : Dec (Under p (path_of x))) → below p l ≡ false → (if strictly d v then true else below p l) ≡ false
    inner (yes z) v e = e
    inner (no z) (yes v) e = absurd (h x first v z)
    inner (no z) (no v) e = e

module _ (T T' : List Rec) (s : Path) (c : ℕ) (none : find (sub c s) T ≡ None) where
  not_in : (q : Rec) → In Rec q T → path_of q ≡ sub c s → ⊥
  not_in q i e = find_in T q i (ap (λ p. find p T) e ∙ none)

  none_there : (P : List Rec) → Only T T' s c P → ((q : Rec) → In Rec q P → path_of q ≡ sub c s → ⊥) → find (sub c s) T' ≡ None
  none_there P o h = inner (find (sub c s) T') refl
    where
      absent_at : (q : Rec) → path_of q ≡ sub c s → In Rec q T ⊎ In Rec q P → ⊥
      absent_at q e (inl i) = not_in q i e
      absent_at q e (inr i) = h q i e

      inner : (r : Option Rec) → find (sub c s) T' ≡ r → find (sub c s) T' ≡ None
      inner None e = e
      inner (Some q) e = let a = found_at T' e in absurd (absent_at q a.1 (o q a.0 (c, le_refl c, rw a.1 self)))

  free_below : below (sub c s) T ≡ false → Only T T' s c [] → below (sub c s) T' ≡ false
  free_below b o = below_free (sub c s) T' (λ r i u n. only r u n (o r i (c, le_refl c, u)))
    where
      only : (r : Rec) → Under (sub c s) (path_of r) → (sub c s ≡ path_of r → ⊥) → In Rec r T ⊎ In Rec r [] → ⊥
      only r u n (inl i) = below_not (sub c s) T b r i u n
      only r u n (inr i) = elim i [ ]

-- ---- scopes

-- After a scope at the call c, from the state σ₁, where that call was counted: r and r' are its runs, and f' what the second run has left before it.
module _ (T T' : List Rec) (E : World) (s : Path) (c : ℕ) (σ₁ : St) (n : σ₁.calls ≡ suc c) (k k' : End → St → Rest → Res) (wk : WithinK E s k) (ih : MirrorK T T' s k k')
    (none : find (sub c s) T ≡ None) (f' : Rest) (r r' : Res) (wr : (q : Rec) → In Rec q r.made → After (sub c s) 0 (path_of q)) (lr : r.rest.left ≤ f'.left) (w : Mirrors T T' (sub c s) 0 r r') where
  near : (q : Rec) → In Rec q r.made → path_of q ≡ sub c s → ⊥
  near q m h = not_below (subst (λ p. Under (sub (wr q m).0 (sub c s)) p) h (wr q m).2)

  beneath : (q : Rec) → In Rec q r.made → Under (sub c s) (path_of q)
  beneath q m = up (wr q m).2

  far : (x : End) (τ : St) (v : Rest) → τ.calls ≡ suc c → (q : Rec) → In Rec q (k x τ v).made → Under (sub c s) (path_of q) → ⊥
  far x τ v z q m u = let a = ((wk x τ v).made m).0 in clash u (a.0, omega (arith, a.1, z), a.2)

  next_to : (x : End) (τ τ' : St) (v v' : Rest) → τ.calls ≡ suc c → τ' ≡ τ → v.left ≤ v'.left → Mirrors T T' s (suc c) (k x τ v) (k' x τ' v')
  next_to x τ τ' v v' z e l = subst (λ m. Mirrors T T' s m (k x τ v) (k' x τ' v')) z (ih x τ τ' v v' e l)

  -- the scope's own range
  inside : (P Q : List Rec) → Only T T' s c P → ((q : Rec) → In Rec q P → In Rec q Q ⊎ (Under (sub c s) (path_of q) → ⊥)) → Only T T' (sub c s) 0 Q
  inside P Q o h = λ q m a. choose q (up a.2) (o q m (c, le_refl c, up a.2))
    where
      own : (q : Rec) → Under (sub c s) (path_of q) → In Rec q Q ⊎ (Under (sub c s) (path_of q) → ⊥) → In Rec q T ⊎ In Rec q Q
      own q u (inl i) = inr i
      own q u (inr d) = absurd (d u)

      choose : (q : Rec) → Under (sub c s) (path_of q) → In Rec q T ⊎ In Rec q P → In Rec q T ⊎ In Rec q Q
      choose q u (inl i) = inl i
      choose q u (inr i) = own q u (h q i)

  -- The part ends with the scope.
  stays : (e' : Res) → (Same r r' → e' ≡ r') → Front r'.made e'.made → (P rest : List Rec) → r.made ≡ P ++ rest → Has T' P → Only T T' s c P → Stop rest r e'
  stays e' he fr P rest is has o = stop_up r r' e' rest (w.holds P rest is has (inside P P o (λ q m. inl m))) he fr

  -- The scope's records, then those of what comes after it.
  through : (x : End) (τ τ' : St) → τ.calls ≡ suc c → Good r.out → (e' : Res) → Front r'.made e'.made → (Same r r' → e' ≡ add r'.made (k' x τ' r'.rest)) → (Same r r' → τ' ≡ τ) →
      (P rest : List Rec) → r.made ++ (k x τ r.rest).made ≡ P ++ rest → Has T' P → Only T T' s c P → Stop rest (add r.made (k x τ r.rest)) e'
  through x τ τ' z good e' fr he hτ P rest is has o = choose (meet r.made P (k x τ r.rest).made rest is)
    where
      choose : Meets r.made P (k x τ r.rest).made rest → Stop rest (add r.made (k x τ r.rest)) e'
      choose (inr (h, l, i, j)) = subst (λ z. Stop z (add r.made (k x τ r.rest)) e') (sym j) (stop_in r r' _ _ h l _ (w.holds P (h ∷ l) i has (inside P P o (λ q m. inl m))) fr)
      choose (inl (l, i, j)) = past (w.holds r.made [] (nothing_more r.made) (λ q m. has q (subst (λ P. In Rec q P) (sym i) (in_left r.made l m))) (inside P r.made o (λ q m. elim (in_split r.made l (subst (λ P. In Rec q P) i m)) [ inl a ↦ inl a | inr b ↦ inr (far x τ r.rest z q (subst (λ m. In Rec q m) (sym j) (in_left l rest b))) ])) good)
        where
          past : Same r r' → Stop rest (add r.made (k x τ r.rest)) e'
          past a = subst (λ e'. Stop rest (add r.made (k x τ r.rest)) e') (sym (he a))
              (stop_after (add r.made (k x τ r.rest)) _ rest r'.made a.made (m_step r.made beneath (next_to x τ τ' r.rest r'.rest z (hτ a) a.left) P l rest i j has o))

  -- None of these stands at the call's own path.
  apart_from : (x : End) (τ : St) (v : Rest) → τ.calls ≡ suc c → (P rest : List Rec) → r.made ++ (k x τ v).made ≡ P ++ rest → (q : Rec) → In Rec q P → path_of q ≡ sub c s → ⊥
  apart_from x τ v z P rest is q m e = elim (in_split r.made _ (subst (λ l. In Rec q l) (sym is) (in_left P rest m))) [
    | inl a ↦ near q a e
    | inr b ↦ far x τ v z q b (rw e self)
  ]

  -- ---- once

  unkept : (P : List Rec) → Only T T' s c P → ((q : Rec) → In Rec q P → path_of q ≡ sub c s → ⊥) → on_once (find (sub c s) T') σ₁ f' k' r' (sub c s) ≡ after_body r'.out r' (sub c s) σ₁ k'
  unkept P o h = ap (λ z. on_once z σ₁ f' k' r' (sub c s)) (none_there T T' s c none P o h)

  body_stays : (o : Out) → r.out ≡ o → after_body o r' (sub c s) σ₁ k' ≡ r' → Mirrors T T' s c r (on_once (find (sub c s) T') σ₁ f' k' r' (sub c s))
  body_stays o h i = record {
    holds = λ P rest is has only.
        subst (λ e'. Stop rest r e') (sym (unkept P only (λ q m e. near q (subst (λ l. In Rec q l) (sym is) (in_left P rest m)) e)))
        (stays (after_body r'.out r' (sub c s) σ₁ k') (λ a. ap (λ o. after_body o r' (sub c s) σ₁ k') (a.out ∙ h) ∙ i) (body_front r'.out r' (sub c s) σ₁ k') P rest is has only);
  }

  own_too : (y : Gift) (q : Rec) → In Rec q (r.made ++ (rec (sub c s) (kept.Once (data_in y)) ∷ [])) → Under (sub c s) (path_of q)
  own_too y q m = elim (in_split r.made _ m) [ inl i ↦ beneath q i | inr j ↦ rw (in_one j) self ]

  -- the body gave a data, and the second run finds it
  given : (y : Gift) (P Q rest : List Rec) → P ≡ r.made ++ (rec (sub c s) (kept.Once (data_in y)) ∷ Q) → (k (ret (datum (data_in y))) σ₁ r.rest).made ≡ Q ++ rest → Has T' P → Only T T' s c P →
      (o : Option Rec) → find (sub c s) T' ≡ o →
      Stop rest (add (r.made ++ (rec (sub c s) (kept.Once (data_in y)) ∷ [])) (k (ret (datum (data_in y))) σ₁ r.rest)) (on_once o σ₁ f' k' r' (sub c s))
  given y P Q rest i j has only None e = absurd (has (rec (sub c s) (kept.Once (data_in y))) (subst (λ P. In Rec (rec (sub c s) (kept.Once (data_in y))) P) (sym i) (in_right r.made _ first)) e)
  given y P Q rest i j has only (Some q) e = which (only q (found_at T' e).0 (c, le_refl c, rw (found_at T' e).1 self))
    where
      here : Stop rest (add (r.made ++ (rec (sub c s) (kept.Once (data_in y)) ∷ [])) (k (ret (datum (data_in y))) σ₁ r.rest)) (k' (ret (datum (data_in y))) σ₁ f')
      here = m_step (r.made ++ (rec (sub c s) (kept.Once (data_in y)) ∷ [])) (own_too y) (next_to (ret (datum (data_in y))) σ₁ σ₁ r.rest f' n refl lr) P Q rest (i ∙ sym (assoc r.made (rec (sub c s) (kept.Once (data_in y)) ∷ []) Q)) j has only

      last : In Rec q (rec (sub c s) (kept.Once (data_in y)) ∷ []) ⊎ In Rec q Q → Stop rest (add (r.made ++ (rec (sub c s) (kept.Once (data_in y)) ∷ [])) (k (ret (datum (data_in y))) σ₁ r.rest)) (on_once (Some q) σ₁ f' k' r' (sub c s))
      last (inl m) = subst (λ q. Stop rest (add (r.made ++ (rec (sub c s) (kept.Once (data_in y)) ∷ [])) (k (ret (datum (data_in y))) σ₁ r.rest)) (on_once (Some q) σ₁ f' k' r' (sub c s))) (sym (in_one m)) here
      last (inr m) = absurd (far (ret (datum (data_in y))) σ₁ r.rest n q (subst (λ l. In Rec q l) (sym j) (in_left Q rest m)) (rw (found_at T' e).1 self))

      part : In Rec q r.made ⊎ In Rec q (rec (sub c s) (kept.Once (data_in y)) ∷ Q) → Stop rest (add (r.made ++ (rec (sub c s) (kept.Once (data_in y)) ∷ [])) (k (ret (datum (data_in y))) σ₁ r.rest)) (on_once (Some q) σ₁ f' k' r' (sub c s))
      part (inl m) = absurd (near q m (found_at T' e).1)
      part (inr m) = last (in_split (rec (sub c s) (kept.Once (data_in y)) ∷ []) Q m)

      which : In Rec q T ⊎ In Rec q P → Stop rest (add (r.made ++ (rec (sub c s) (kept.Once (data_in y)) ∷ [])) (k (ret (datum (data_in y))) σ₁ r.rest)) (on_once (Some q) σ₁ f' k' r' (sub c s))
      which (inl m) = absurd (not_in T T' s c none q m (found_at T' e).1)
      which (inr m) = part (in_split r.made _ (subst (λ P. In Rec q P) i m))

  body_gives : (y : Gift) → Mirrors T T' s c (add (r.made ++ (rec (sub c s) (kept.Once (data_in y)) ∷ [])) (k (ret (datum (data_in y))) σ₁ r.rest)) (on_once (find (sub c s) T') σ₁ f' k' r' (sub c s))
  body_gives y = record { holds = λ P rest is has only. choose P rest has only (meet r.made P (rec (sub c s) (kept.Once (data_in y)) ∷ (k (ret (datum (data_in y))) σ₁ r.rest).made) rest (sym (assoc r.made (rec (sub c s) (kept.Once (data_in y)) ∷ []) (k (ret (datum (data_in y))) σ₁ r.rest).made) ∙ is)) }
    where
      choose : (P rest : List Rec) → Has T' P → Only T T' s c P → Meets r.made P (rec (sub c s) (kept.Once (data_in y)) ∷ (k (ret (datum (data_in y))) σ₁ r.rest).made) rest →
          Stop rest (add (r.made ++ (rec (sub c s) (kept.Once (data_in y)) ∷ [])) (k (ret (datum (data_in y))) σ₁ r.rest)) (on_once (find (sub c s) T') σ₁ f' k' r' (sub c s))
      choose P rest has only (inr (h, l, i, j)) = subst (λ e'. Stop rest (add (r.made ++ (rec (sub c s) (kept.Once (data_in y)) ∷ [])) (k (ret (datum (data_in y))) σ₁ r.rest)) e') (sym (unkept P only (λ q m e. near q (subst (λ l. In Rec q l) (sym i) (in_left P (h ∷ l) m)) e)))
          (subst (λ z. Stop z (add (r.made ++ (rec (sub c s) (kept.Once (data_in y)) ∷ [])) (k (ret (datum (data_in y))) σ₁ r.rest)) (after_body r'.out r' (sub c s) σ₁ k')) (sym j)
          (stop_in r r' _ _ h l _ (w.holds P (h ∷ l) i has (inside P P only (λ q m. inl m))) (body_front r'.out r' (sub c s) σ₁ k')))
      choose P rest has only (inl ([], i, j)) = subst (λ z. Stop z (add (r.made ++ (rec (sub c s) (kept.Once (data_in y)) ∷ [])) (k (ret (datum (data_in y))) σ₁ r.rest)) (on_once (find (sub c s) T') σ₁ f' k' r' (sub c s))) j tt
      choose P rest has only (inl (q ∷ Q, i, j)) = given y P Q rest (i ∙ ap (λ q. r.made ++ (q ∷ Q)) (sym (same_head j))) (same_tail j) has only (find (sub c s) T') refl

  body_mirrors : (o : Out) → r.out ≡ o → Mirrors T T' s c (after_body o r (sub c s) σ₁ k) (on_once (find (sub c s) T') σ₁ f' k' r' (sub c s))
  body_mirrors (ended (ret y)) h = body_gives y
  body_mirrors (ended (thr v)) h = record {
    holds = λ P rest is has only.
        subst (λ e'. Stop rest (add r.made (k (thr v) (leave σ₁ r.st) r.rest)) e') (sym (unkept P only (apart_from (thr v) (leave σ₁ r.st) r.rest n P rest is)))
        (through (thr v) (leave σ₁ r.st) (leave σ₁ r'.st) n (subst Good (sym h) tt) (after_body r'.out r' (sub c s) σ₁ k') (body_front r'.out r' (sub c s) σ₁ k')
        (λ a. ap (λ o. after_body o r' (sub c s) σ₁ k') (a.out ∙ h)) (λ a. ap (λ τ. leave σ₁ τ) a.st) P rest is has only);
  }
  body_mirrors (ended (bar y)) h = body_stays (ended (bar y)) h refl
  body_mirrors waits h = body_stays waits h refl
  body_mirrors (halted y) h = body_stays (halted y) h refl

  -- ---- fork

  unforked : (P : List Rec) → Only T T' s c P → ((q : Rec) → In Rec q P → path_of q ≡ sub c s → ⊥) → on_fork (find (sub c s) T') σ₁ f' k' r' (sub c s) ≡ after_branch (any_gone (sub c s) r'.st.gone) r'.out r' (sub c s) σ₁ k'
  unforked P o h = ap (λ z. on_fork z σ₁ f' k' r' (sub c s)) (none_there T T' s c none P o h)

  alike : (g : Bool) → any_gone (sub c s) r.st.gone ≡ g → (o : Out) → r.out ≡ o → Same r r' → after_branch (any_gone (sub c s) r'.st.gone) r'.out r' (sub c s) σ₁ k' ≡ after_branch g o r' (sub c s) σ₁ k'
  alike g t o h a = ap (λ z. after_branch z r'.out r' (sub c s) σ₁ k') (ap (λ τ. any_gone (sub c s) τ.gone) a.st ∙ t) ∙ ap (λ o. after_branch g o r' (sub c s) σ₁ k') (a.out ∙ h)

  branch_stays : (g : Bool) → any_gone (sub c s) r.st.gone ≡ g → (o : Out) → r.out ≡ o → after_branch g o r' (sub c s) σ₁ k' ≡ r' → Mirrors T T' s c r (on_fork (find (sub c s) T') σ₁ f' k' r' (sub c s))
  branch_stays g t o h i = record {
    holds = λ P rest is has only.
        subst (λ e'. Stop rest r e') (sym (unforked P only (λ q m e. near q (subst (λ l. In Rec q l) (sym is) (in_left P rest m)) e)))
        (stays (after_branch (any_gone (sub c s) r'.st.gone) r'.out r' (sub c s) σ₁ k') (λ a. alike g t o h a ∙ i) (branch_front (any_gone (sub c s) r'.st.gone) r'.out r' (sub c s) σ₁ k') P rest is has only);
  }

  branch_goes : (g : Bool) → any_gone (sub c s) r.st.gone ≡ g → (o : Out) → r.out ≡ o → Good o → (x : End) (τ τ' : St) → τ.calls ≡ suc c → (Same r r' → τ' ≡ τ) →
      after_branch g o r' (sub c s) σ₁ k' ≡ add r'.made (k' x τ' r'.rest) → Mirrors T T' s c (add r.made (k x τ r.rest)) (on_fork (find (sub c s) T') σ₁ f' k' r' (sub c s))
  branch_goes g t o h good x τ τ' z hτ i = record {
    holds = λ P rest is has only.
        subst (λ e'. Stop rest (add r.made (k x τ r.rest)) e') (sym (unforked P only (apart_from x τ r.rest z P rest is)))
        (through x τ τ' z (subst Good (sym h) good) (after_branch (any_gone (sub c s) r'.st.gone) r'.out r' (sub c s) σ₁ k') (branch_front (any_gone (sub c s) r'.st.gone) r'.out r' (sub c s) σ₁ k')
        (λ a. alike g t o h a ∙ i) hτ P rest is has only);
  }

  branch_mirrors : (g : Bool) → any_gone (sub c s) r.st.gone ≡ g → (o : Out) → r.out ≡ o → Mirrors T T' s c (after_branch g o r (sub c s) σ₁ k) (on_fork (find (sub c s) T') σ₁ f' k' r' (sub c s))
  branch_mirrors false t (ended (ret x)) h = branch_goes false t (ended (ret x)) h tt (ret (valued Undefined)) (give_value (value_in x) (leave σ₁ (cut_all (sub c s) r.st))) (give_value (value_in x) (leave σ₁ (cut_all (sub c s) r'.st))) n
      (λ a. ap (λ τ. give_value (value_in x) (leave σ₁ (cut_all (sub c s) τ))) a.st) refl
  branch_mirrors false t (ended (thr v)) h = branch_goes false t (ended (thr v)) h tt (thr v) (threw (sub c s) (leave σ₁ (cut_all (sub c s) r.st))) (threw (sub c s) (leave σ₁ (cut_all (sub c s) r'.st))) n
      (λ a. ap (λ τ. threw (sub c s) (leave σ₁ (cut_all (sub c s) τ))) a.st) refl
  branch_mirrors false t (ended (bar y)) h = branch_stays false t (ended (bar y)) h refl
  branch_mirrors true t (ended x) h = branch_goes true t (ended x) h tt (ret (valued Undefined)) (absent (sub c s) σ₁) (absent (sub c s) σ₁) n (λ a. refl) refl
  branch_mirrors false t waits h = branch_goes false t waits h tt (ret (valued Undefined)) (absent (sub c s) σ₁) (absent (sub c s) σ₁) n (λ a. refl) refl
  branch_mirrors true t waits h = branch_goes true t waits h tt (ret (valued Undefined)) (absent (sub c s) σ₁) (absent (sub c s) σ₁) n (λ a. refl) refl
  branch_mirrors false t (halted y) h = branch_stays false t (halted y) h refl
  branch_mirrors true t (halted y) h = branch_stays true t (halted y) h refl

-- ---- steps and programs

-- the same session, with no replies and no draws
abbrev pub alone : World → World
alone E = world E.session [] []

module _ (T T' : List Rec) (E : World) (holds_T : (p : Path) (r : Rec) → find p T ≡ Some r → find p T' ≡ Some r) where
  -- A record was made, and the second run finds it.
  ask_found : (q : Question) (s : Path) (c : ℕ) (σ : St) (w w' : Rest) → w.left ≤ w'.left → (k k' : AnsOf q → Rest → Res) → ((a : AnsOf q) (v : Rest) (r : Rec) → In Rec r (k a v).made → After s (suc c) (path_of r)) →
      ((a : AnsOf q) (v v' : Rest) → v.left ≤ v'.left → Mirrors T T' s (suc c) (k a v) (k' a v')) → find (sub c s) T ≡ None →
      (f : Fresh q) → kept_answer q E.session (sub c s) f.what ≡ Some f.answer → (t : Bool) (n : Option (Fresh q)) → (o : Option Rec) → find (sub c s) T' ≡ o →
      (P Q rest : List Rec) → P ≡ rec (sub c s) f.what ∷ Q → (k f.answer (drew q w)).made ≡ Q ++ rest → Has T' P → Only T T' s c P →
      Stop rest (add (rec (sub c s) f.what ∷ []) (k f.answer (drew q w))) (on_ask q o t n (alone E) (sub c s) σ w' k')
  ask_found q s c σ w w' l k k' far h none f ka t n None e P Q rest i j has only = absurd (has (rec (sub c s) f.what) (subst (λ P. In Rec (rec (sub c s) f.what) P) (sym i) first) e)
  ask_found q s c σ w w' l k k' far h none f ka t n (Some r) e P Q rest i j has only = which (only r (found_at T' e).0 (c, le_refl c, rw (found_at T' e).1 self))
    where
      same : (o : Option (AnsOf q)) (d : Divergence) → o ≡ Some f.answer → Stop rest (add (rec (sub c s) f.what ∷ []) (k f.answer (drew q w))) (on_kept o d σ w' k')
      same (Some y) d z = subst (λ y. Stop rest (add (rec (sub c s) f.what ∷ []) (k f.answer (drew q w))) (k' y w')) (sym (some_is z))
          (m_step (rec (sub c s) f.what ∷ []) (λ q m. rw (in_one m) self) (h f.answer (drew q w) w' (drew_same q w w' l)) P Q rest i j has only)
      same None d z = absurd (none_some z)

      last : In Rec r (rec (sub c s) f.what ∷ []) ⊎ In Rec r Q → Stop rest (add (rec (sub c s) f.what ∷ []) (k f.answer (drew q w))) (on_ask q (Some r) t n (alone E) (sub c s) σ w' k')
      last (inl m) = subst (λ r. Stop rest (add (rec (sub c s) f.what ∷ []) (k f.answer (drew q w))) (on_ask q (Some r) t n (alone E) (sub c s) σ w' k')) (sym (in_one m))
          (same (kept_answer q E.session (sub c s) f.what) _ ka)
      last (inr m) = absurd (clash {c = c} {s = s} (rw (found_at T' e).1 self) (far f.answer (drew q w) r (subst (λ l. In Rec r l) (sym j) (in_left Q rest m))))

      which : In Rec r T ⊎ In Rec r P → Stop rest (add (rec (sub c s) f.what ∷ []) (k f.answer (drew q w))) (on_ask q (Some r) t n (alone E) (sub c s) σ w' k')
      which (inl m) = absurd (not_in T T' s c none r m (found_at T' e).1)
      which (inr m) = last (in_split (rec (sub c s) f.what ∷ []) Q (subst (λ P. In Rec r P) i m))

  -- A record is made: what comes of it where it is not the first after the front.
  ask_made : (q : Question) (s : Path) (c : ℕ) (σ : St) (w w' : Rest) → w.left ≤ w'.left → (k k' : AnsOf q → Rest → Res) → ((a : AnsOf q) (v : Rest) (r : Rec) → In Rec r (k a v).made → After s (suc c) (path_of r)) →
      ((a : AnsOf q) (v v' : Rest) → v.left ≤ v'.left → Mirrors T T' s (suc c) (k a v) (k' a v')) → find (sub c s) T ≡ None →
      (f : Fresh q) → kept_answer q E.session (sub c s) f.what ≡ Some f.answer → (t : Bool) (n : Option (Fresh q)) →
      (Only T T' s c [] → Stop (rec (sub c s) f.what ∷ (k f.answer (drew q w)).made) (add (rec (sub c s) f.what ∷ []) (k f.answer (drew q w))) (on_ask q (find (sub c s) T') t n (alone E) (sub c s) σ w' k')) →
      Mirrors T T' s c (add (rec (sub c s) f.what ∷ []) (k f.answer (drew q w))) (on_ask q (find (sub c s) T') t n (alone E) (sub c s) σ w' k')
  ask_made q s c σ w w' l k k' far h none f ka t n fst = record { holds = λ P rest is has only. choose P rest is has only }
    where
      choose : (P rest : List Rec) → rec (sub c s) f.what ∷ (k f.answer (drew q w)).made ≡ P ++ rest → Has T' P → Only T T' s c P →
          Stop rest (add (rec (sub c s) f.what ∷ []) (k f.answer (drew q w))) (on_ask q (find (sub c s) T') t n (alone E) (sub c s) σ w' k')
      choose [] rest is has only = subst (λ z. Stop z (add (rec (sub c s) f.what ∷ []) (k f.answer (drew q w))) (on_ask q (find (sub c s) T') t n (alone E) (sub c s) σ w' k')) is (fst only)
      choose (x ∷ Q) rest is has only = ask_found q s c σ w w' l k k' far h none f ka t n (find (sub c s) T') refl (x ∷ Q) Q rest (ap (λ x. x ∷ Q) (sym (same_head is))) (same_tail is) has only

  ask_mirrors : (q : Question) (s : Path) (c : ℕ) (σ : St) (w w' : Rest) → w.left ≤ w'.left → (k k' : AnsOf q → Rest → Res) → ((a : AnsOf q) (v : Rest) (r : Rec) → In Rec r (k a v).made → After s (suc c) (path_of r)) →
      ((a : AnsOf q) (v v' : Rest) → v.left ≤ v'.left → Mirrors T T' s (suc c) (k a v) (k' a v')) → (o : Option Rec) → find (sub c s) T ≡ o → (t : Bool) → below (sub c s) T ≡ t →
      Mirrors T T' s c (on_ask q o t (fresh q E w.drawn (sub c s)) E (sub c s) σ w k) (on_ask q (find (sub c s) T') (below (sub c s) T') (fresh q (alone E) w'.drawn (sub c s)) (alone E) (sub c s) σ w' k')
  unfolding fresh
  ask_mirrors q s c σ w w' l k k' far h (Some (rec r x)) e t b = subst (λ o. Mirrors T T' s c (on_kept (kept_answer q E.session (sub c s) x) (diverges (sub c s) (found_kept x) (called_by q)) σ w k) (on_ask q o (below (sub c s) T') (fresh q (alone E) w'.drawn (sub c s)) (alone E) (sub c s) σ w' k')) (sym (holds_T (sub c s) (rec r x) e)) (on (kept_answer q E.session (sub c s) x) (diverges (sub c s) (found_kept x) (called_by q)))
    where
      on : (o : Option (AnsOf q)) (d : Divergence) → Mirrors T T' s c (on_kept o d σ w k) (on_kept o d σ w' k')
      on (Some a) d = m_skip (h a w w' l)
      on None d = m_halt _ refl refl
  ask_mirrors q s c σ w w' l k k' far h None e true b = m_halt _ refl refl
  ask_mirrors (posts t) s c σ w w' l k k' far h None e false b = ask_made (posts t) s c σ w w' l k k' far h e (record { answer = token E.session (sub c s); what = kept.Post t }) (pick_yes None (units_eq t t) refl) (below (sub c s) T') _
      (λ only. subst (λ o. Front (rec (sub c s) (kept.Post t) ∷ []) (on_ask (posts t) o (below (sub c s) T') (fresh (posts t) (alone E) w'.drawn (sub c s)) (alone E) (sub c s) σ w' k').made) (sym (none_there T T' s c e [] only (λ q m. elim m [ ])))
      (subst (λ y. Front (rec (sub c s) (kept.Post t) ∷ []) (on_ask (posts t) None y (fresh (posts t) (alone E) w'.drawn (sub c s)) (alone E) (sub c s) σ w' k').made) (sym (free_below T T' s c e b only)) (front _ refl)))
  ask_mirrors (replies t) s c σ w w' l k k' far h None e false b = inner (answer E.pairs t)
    where
      inner : (o : Option Units) → Mirrors T T' s c (on_ask (replies t) None false (fresh_reply t o) E (sub c s) σ w k) (on_ask (replies t) (find (sub c s) T') (below (sub c s) T') None (alone E) (sub c s) σ w' k')
      inner (Some x) = ask_made (replies t) s c σ w w' l k k' far h e (record { answer = x; what = kept.Reply t x }) (pick_yes None (units_eq t t) refl) (below (sub c s) T') _ (λ only. tt)
      inner None = record { holds = λ P rest is has only. first_one P rest is only }
        where
          first_one : (P rest : List Rec) → [] ≡ P ++ rest → Only T T' s c P → Stop rest (on_ask (replies t) None false None E (sub c s) σ w k) (on_ask (replies t) (find (sub c s) T') (below (sub c s) T') None (alone E) (sub c s) σ w' k')
          first_one [] rest is only = stop_nil rest (sym is) (λ g. subst (λ o. Same (on_ask (replies t) None false None E (sub c s) σ w k) (on_ask (replies t) o (below (sub c s) T') None (alone E) (sub c s) σ w' k')) (sym (none_there T T' s c e [] only (λ q m. elim m [ ])))
              (subst (λ y. Same (on_ask (replies t) None false None E (sub c s) σ w k) (on_ask (replies t) None y None (alone E) (sub c s) σ w' k')) (sym (free_below T T' s c e b only)) (record { out = refl; st = refl; made = refl; left = l })))
          first_one (x ∷ P) rest is only = absurd (not_nil is)
  ask_mirrors (draws m) s c σ w w' l k k' far h None e false b = inner (draw_of E.dice w.drawn (sub c s) m)
    where
      inner : (o : Option ℤ) → Mirrors T T' s c (on_ask (draws m) None false (fresh_draw m o) E (sub c s) σ w k) (on_ask (draws m) (find (sub c s) T') (below (sub c s) T') None (alone E) (sub c s) σ w' k')
      inner (Some x) = ask_made (draws m) s c σ w w' l k k' far h e (record { answer = x; what = kept.Draw m x }) (pick_yes None (integer_eq m m) refl) (below (sub c s) T') _ (λ only. tt)
      inner None = m_halt undrawn refl refl

  steps_mirror : {A : Type 0} (g : Small A) (s b : Path) (body : Bool) (k k' : A → St → Rest → Res) → WithinK E s k → MirrorK T T' s k k' →
      (σ : St) (w w' : Rest) → w.left ≤ w'.left → Mirrors T T' s σ.calls (run_steps g E T s b body k σ w) (run_steps g (alone E) T' s b body k' σ w')
  unfolding run_steps
  steps_mirror (give a) s b body k k' wk ih σ w w' l = ih a σ σ w w' refl l
  steps_mirror (refuse why) s b body k k' wk ih σ w w' l = m_end refl refl refl refl l
  steps_mirror lost s b body k k' wk ih σ w w' l = m_halt _ refl refl
  steps_mirror (step o go) s b body k k' wk ih σ w w' l = paid (nat_lt w.left (op_cost o σ)) refl (nat_lt w'.left (op_cost o σ)) refl (λ a τ v v' h. steps_mirror (go a) s b body k k' wk ih τ v v' h)
    where
      inner : (X : Act (AnswerTo o)) → ActKept s σ X → (v v' : Rest) → v.left ≤ v'.left →
          ((a : AnswerTo o) (τ : St) (v v' : Rest) → v.left ≤ v'.left → Mirrors T T' s τ.calls (run_steps (go a) E T s b body k τ v) (run_steps (go a) (alone E) T' s b body k' τ v')) →
          Mirrors T T' s σ.calls (on_act X σ v (λ a τ v. run_steps (go a) E T s b body k τ v)) (on_act X σ v' (λ a τ v'. run_steps (go a) (alone E) T' s b body k' τ v'))
      inner (gives a τ) x v v' h ih' = subst (λ c. Mirrors T T' s c (run_steps (go a) E T s b body k τ v) (run_steps (go a) (alone E) T' s b body k' τ v')) x.1 (ih' a τ v v' h)
      inner (refused why) x v v' h ih' = m_end refl refl refl refl h
      inner (waiting y) x v v' h ih' = m_end refl refl refl refl h
      inner stuck x v v' h ih' = m_halt _ refl refl

      paid : (t : Bool) → nat_lt w.left (op_cost o σ) ≡ t → (t' : Bool) → nat_lt w'.left (op_cost o σ) ≡ t' →
          ((a : AnswerTo o) (τ : St) (v v' : Rest) → v.left ≤ v'.left → Mirrors T T' s τ.calls (run_steps (go a) E T s b body k τ v) (run_steps (go a) (alone E) T' s b body k' τ v')) →
          Mirrors T T' s σ.calls (pay_if t (op_cost o σ) σ w (λ v. on_act (act o s b body σ) σ v (λ a τ v. run_steps (go a) E T s b body k τ v)))
          (pay_if t' (op_cost o σ) σ w' (λ v. on_act (act o s b body σ) σ v (λ a τ v. run_steps (go a) (alone E) T' s b body k' τ v)))
      paid true e t' e' ih' = m_halt _ refl refl
      paid false e true e' ih' = absurd (too_little (op_cost o σ) w.left w'.left l e e')
      paid false e false e' ih' = inner (act o s b body σ) (act_kept o s b body σ) _ _ (minus_both w.left w'.left (op_cost o σ) l) ih'
  steps_mirror (ask q go) s b body k k' wk ih σ w w' l = ask_mirrors q s σ.calls (next_call σ) w w' l (λ a v. run_steps (go a) E T s b body k (next_call σ) v) (λ a v. run_steps (go a) (alone E) T' s b body k' (next_call σ) v)
      (λ a v r m. ((steps_within (go a) E T s b body k wk (next_call σ) v).made m).0) (λ a v v' h. steps_mirror (go a) s b body k k' wk ih (next_call σ) v v' h)
      (find (sub σ.calls s) T) refl (below (sub σ.calls s) T) refl

  pub branch_end_mirror : (s : Path) → MirrorK T T' s branch_end branch_end
  branch_end_mirror s (Normal v) τ τ' w w' e l = m_end refl refl e refl l
  branch_end_mirror s Break τ τ' w w' e l = m_end refl refl e refl l
  branch_end_mirror s Continue τ τ' w w' e l = m_end refl refl e refl l
  branch_end_mirror s (Return v) τ τ' w w' e l = m_end refl refl e refl l
  branch_end_mirror s (Throw v) τ τ' w w' e l = m_end refl refl e refl l

  -- the second run is at an equal state
  moved : {s : Path} (g g' : St → Rest → Res) → ((τ : St) (w w' : Rest) → w.left ≤ w'.left → Mirrors T T' s τ.calls (g τ w) (g' τ w')) → (τ τ' : St) (w w' : Rest) → τ' ≡ τ → w.left ≤ w'.left → Mirrors T T' s τ.calls (g τ w) (g' τ' w')
  moved {s} g g' h τ τ' w w' e l = subst (λ y. Mirrors T T' s τ.calls (g τ w) (g' y w')) (sym e) (h τ w w' l)

  taken : (s b : Path) (v : Val) (τ τ' : St) (w w' : Rest) → τ' ≡ τ → w.left ≤ w'.left →
      Mirrors T T' s τ.calls (run_steps (taking v) E T s b true (λ d τ w'. res (ended (ret (datum d))) τ w') τ w) (run_steps (taking v) (alone E) T' s b true (λ d τ w'. res (ended (ret (datum d))) τ w') τ' w')
  taken s b v τ τ' w w' e l = moved (λ τ w. run_steps (taking v) E T s b true (λ d τ w'. res (ended (ret (datum d))) τ w') τ w) (λ τ w. run_steps (taking v) (alone E) T' s b true (λ d τ w'. res (ended (ret (datum d))) τ w') τ w)
      (λ τ w w' l. steps_mirror (taking v) s b true _ _ (λ d τ w'. within_res _ w') (λ d τ τ' w w' e l. m_end refl refl e refl l) τ w w' l) τ τ' w w' e l

  body_end_mirror : (s b : Path) → MirrorK T T' s (body_end E T s b) (body_end (alone E) T' s b)
  body_end_mirror s b (Normal v) τ τ' w w' e l = taken s b v τ τ' w w' e l
  body_end_mirror s b Break τ τ' w w' e l = taken s b Undefined τ τ' w w' e l
  body_end_mirror s b Continue τ τ' w w' e l = taken s b Undefined τ τ' w w' e l
  body_end_mirror s b (Return v) τ τ' w w' e l = taken s b v τ τ' w w' e l
  body_end_mirror s b (Throw v) τ τ' w w' e l = m_end refl refl e refl l

  pub record Both (s : Path) (k k' : Outcome → St → Rest → Res) : Type 0 where
    pub within : WithinK E s k
    pub falls : FallsK k
    pub both : MirrorK T T' s k k'

  once_goes_mirror : (s b : Path) (body : Bool) (k k' : Outcome → St → Rest → Res) → Both s k k' → MirrorK T T' s (once_goes E T s b body k) (once_goes (alone E) T' s b body k')
  once_goes_mirror s b body k k' c (ret x) τ τ' w w' e l = moved (λ τ w. run_steps (put_data (data_in x)) E T s b body (λ v τ w'. k (Normal v) τ w') τ w) (λ τ w. run_steps (put_data (data_in x)) (alone E) T' s b body (λ v τ w'. k' (Normal v) τ w') τ w)
      (λ τ w w' l. steps_mirror (put_data (data_in x)) s b body _ _ (λ v τ w'. c.within (Normal v) τ w') (λ v τ τ' w w' e l. c.both (Normal v) τ τ' w w' e l) τ w w' l) τ τ' w w' e l
  once_goes_mirror s b body k k' c (thr v) τ τ' w w' e l = c.both (Throw v) τ τ' w w' e l
  once_goes_mirror s b body k k' c (bar y) τ τ' w w' e l = m_end refl refl e refl l

  fork_goes_mirror : (s : Path) (k k' : Outcome → St → Rest → Res) → Both s k k' → MirrorK T T' s (fork_goes k) (fork_goes k')
  fork_goes_mirror s k k' c (ret x) τ τ' w w' e l = c.both (Normal Undefined) τ τ' w w' e l
  fork_goes_mirror s k k' c (thr v) τ τ' w w' e l = c.both (Throw v) τ τ' w w' e l
  fork_goes_mirror s k k' c (bar y) τ τ' w w' e l = m_end refl refl e refl l

  normal_mirror : (s : Path) (g g' : Val → St → Rest → Res) (k k' : Outcome → St → Rest → Res) → WithinK E s g → FallsK g → MirrorK T T' s g g' → Both s k k' → Both s (on_normal g k) (on_normal g' k')
  normal_mirror s g g' k k' wg fg hg c = record { within = normal_within E s g k wg c.within; falls = normal_left g k fg c.falls; both = λ o τ τ' w w' e l. inner o τ τ' w w' e l }
    where
      inner : MirrorK T T' s (on_normal g k) (on_normal g' k')
      inner (Normal v) τ τ' w w' e l = hg v τ τ' w w' e l
      inner Break τ τ' w w' e l = c.both Break τ τ' w w' e l
      inner Continue τ τ' w w' e l = c.both Continue τ τ' w w' e l
      inner (Return v) τ τ' w w' e l = c.both (Return v) τ τ' w w' e l
      inner (Throw v) τ τ' w w' e l = c.both (Throw v) τ τ' w w' e l

  module _ (s : Path) (g g' : (Outcome → St → Rest → Res) → St → Rest → Res)
      (hE : (k : Outcome → St → Rest → Res) → WithinK E s k → (σ : St) (w : Rest) → Within E s σ.calls σ (g k σ w))
      (hF : (k : Outcome → St → Rest → Res) → FallsK k → (σ : St) (w : Rest) → (g k σ w).rest.left ≤ w.left)
      (hM : (k k' : Outcome → St → Rest → Res) → Both s k k' → (σ : St) (w w' : Rest) → w.left ≤ w'.left → Mirrors T T' s σ.calls (g k σ w) (g' k' σ w')) where
    turns_mirror : (N : ℕ) (k k' : Outcome → St → Rest → Res) → Both s k k' → (σ : St) (w w' : Rest) → w.left ≤ w'.left → Mirrors T T' s σ.calls (turns N g k σ w) (turns N g' k' σ w')
    unfolding turns
    turns_mirror zero k k' c σ w w' l = m_halt _ refl refl
    turns_mirror (suc n) k k' c σ w w' l = hM _ _ (normal_mirror s (λ v τ w. turns n g k τ w) (λ v τ w. turns n g' k' τ w) k k' (λ v τ w. turns_within E s n g hE k c.within τ w) (λ v τ w. turns_left g hF n k c.falls τ w)
        (λ v τ τ' w w' e l. moved (λ τ w. turns n g k τ w) (λ τ w. turns n g' k' τ w) (λ τ w w' l. turns_mirror n k k' c τ w w' l) τ τ' w w' e l) c) σ w w' l

  pub run_mirror : (N : ℕ) (g : Prog) (s b : Path) (body : Bool) (k k' : Outcome → St → Rest → Res) → Both s k k' →
      (σ : St) (w w' : Rest) → w.left ≤ w'.left → Mirrors T T' s σ.calls (run g E T N s b body k σ w) (run g (alone E) T' N s b body k' σ w')
  unfolding run
  run_mirror N (Done o) s b body k k' c σ w w' l = c.both o σ σ w w' refl l
  run_mirror N (Ask p go) s b body k k' c σ w w' l = steps_mirror (steps_of p) s b body _ _ (λ a τ w. run_within (go a) E T N s b body k c.within τ w)
      (λ a τ τ' w w' e l. moved (λ τ w. run (go a) E T N s b body k τ w) (λ τ w. run (go a) (alone E) T' N s b body k' τ w) (λ τ w w' l. run_mirror N (go a) s b body k k' c τ w w' l) τ τ' w w' e l) σ w w' l
  run_mirror N (Then g go) s b body k k' c σ w w' l = run_mirror N g s b body _ _ (normal_mirror s (λ v τ w. run (go v) E T N s b body k τ w) (λ v τ w. run (go v) (alone E) T' N s b body k' τ w) k k'
      (λ v τ w. run_within (go v) E T N s b body k c.within τ w) (λ v τ w. run_left (go v) E T N s b body k c.falls τ w)
      (λ v τ τ' w w' e l. moved (λ τ w. run (go v) E T N s b body k τ w) (λ τ w. run (go v) (alone E) T' N s b body k' τ w) (λ τ w w' l. run_mirror N (go v) s b body k k' c τ w w' l) τ τ' w w' e l) c) σ w w' l
  run_mirror N (Always g go) s b body k k' c σ w w' l = run_mirror N g s b body _ _ (record {
    within = λ v τ w. run_within (go v) E T N s b body k c.within τ w;
    falls = λ v τ w. run_left (go v) E T N s b body k c.falls τ w;
    both = λ v τ τ' w w' e l. moved (λ τ w. run (go v) E T N s b body k τ w) (λ τ w. run (go v) (alone E) T' N s b body k' τ w) (λ τ w w' l. run_mirror N (go v) s b body k k' c τ w w' l) τ τ' w w' e l;
  }) σ w w' l
  run_mirror N (Once g) s b body k k' c σ w w' l = inner (find (sub σ.calls s) T) refl
      (run_mirror N g (sub σ.calls s) b true _ _ (record { within = body_end_within E T (sub σ.calls s) b; falls = body_end_left E T (sub σ.calls s) b; both = body_end_mirror (sub σ.calls s) b }) (enter (once_call b (next_call σ))) w w' l)
    where
      inner : (o : Option Rec) → find (sub σ.calls s) T ≡ o →
          Mirrors T T' (sub σ.calls s) 0 (run g E T N (sub σ.calls s) b true (body_end E T (sub σ.calls s) b) (enter (once_call b (next_call σ))) w) (run g (alone E) T' N (sub σ.calls s) b true (body_end (alone E) T' (sub σ.calls s) b) (enter (once_call b (next_call σ))) w') →
          Mirrors T T' s σ.calls (on_once o (once_call b (next_call σ)) w (once_goes E T s b body k) (run g E T N (sub σ.calls s) b true (body_end E T (sub σ.calls s) b) (enter (once_call b (next_call σ))) w) (sub σ.calls s))
          (on_once (find (sub σ.calls s) T') (once_call b (next_call σ)) w' (once_goes (alone E) T' s b body k') (run g (alone E) T' N (sub σ.calls s) b true (body_end (alone E) T' (sub σ.calls s) b) (enter (once_call b (next_call σ))) w') (sub σ.calls s))
      inner (Some (rec q (kept.Post x))) e h = m_halt _ refl refl
      inner (Some (rec q (kept.Reply x y))) e h = m_halt _ refl refl
      inner (Some (rec q (kept.Draw m n))) e h = m_halt _ refl refl
      inner (Some (rec q (kept.Once d))) e h = rw (holds_T (sub σ.calls s) (rec q (kept.Once d)) e) (m_skip (once_goes_mirror s b body k k' c (ret (datum d)) (once_call b (next_call σ)) (once_call b (next_call σ)) w w' refl l))
      inner None e h = body_mirrors T T' E s σ.calls (once_call b (next_call σ)) refl _ _ (once_goes_within E T s b body k c.within) (once_goes_mirror s b body k k' c) e w' _ _
          (λ q m. ((run_within g E T N (sub σ.calls s) b true _ (body_end_within E T (sub σ.calls s) b) (enter (once_call b (next_call σ))) w).made m).0)
          (le_trans (run_left g E T N (sub σ.calls s) b true _ (body_end_left E T (sub σ.calls s) b) (enter (once_call b (next_call σ))) w) l) h _ refl
  run_mirror N (Fork g) s b true k k' c σ w w' l = m_end refl refl refl refl l
  run_mirror N (Fork g) s b false k k' c σ w w' l = inner (find (sub σ.calls s) T) refl
      (run_mirror N g (sub σ.calls s) (sub σ.calls s) false _ _ (record { within = branch_end_within E (sub σ.calls s); falls = branch_end_left; both = branch_end_mirror (sub σ.calls s) }) (enter (next_call σ)) (forked w) (forked w') l)
    where
      inner : (o : Option Rec) → find (sub σ.calls s) T ≡ o →
          Mirrors T T' (sub σ.calls s) 0 (run g E T N (sub σ.calls s) (sub σ.calls s) false branch_end (enter (next_call σ)) (forked w)) (run g (alone E) T' N (sub σ.calls s) (sub σ.calls s) false branch_end (enter (next_call σ)) (forked w')) →
          Mirrors T T' s σ.calls (on_fork o (next_call σ) (forked w) (fork_goes k) (run g E T N (sub σ.calls s) (sub σ.calls s) false branch_end (enter (next_call σ)) (forked w)) (sub σ.calls s))
          (on_fork (find (sub σ.calls s) T') (next_call σ) (forked w') (fork_goes k') (run g (alone E) T' N (sub σ.calls s) (sub σ.calls s) false branch_end (enter (next_call σ)) (forked w')) (sub σ.calls s))
      inner (Some (rec q x)) e h = m_halt _ refl refl
      inner None e h = branch_mirrors T T' E s σ.calls (next_call σ) refl _ _ (fork_goes_within E s k c.within) (fork_goes_mirror s k k' c) e (forked w') _ _
          (λ q m. ((run_within g E T N (sub σ.calls s) (sub σ.calls s) false _ (branch_end_within E (sub σ.calls s)) (enter (next_call σ)) (forked w)).made m).0)
          (le_trans (run_left g E T N (sub σ.calls s) (sub σ.calls s) false _ branch_end_left (enter (next_call σ)) (forked w)) l) h _ refl _ refl
  run_mirror N (Loop g) s b body k k' c σ w w' l = turns_mirror s (λ k τ w. run g E T N s b body k τ w) (λ k τ w. run g (alone E) T' N s b body k τ w)
      (λ k wk τ w. run_within g E T N s b body k wk τ w) (λ k fk τ w. run_left g E T N s b body k fk τ w) (λ k k' c τ w w' l. run_mirror N g s b body k k' c τ w w' l) N k k' c σ w w' l

-- ---- the laws

-- the whole run over T, and that over T with a front of what it made
top_mirror : (S : Prog) (E : World) (T : List Rec) (n : ℕ) (P rest : List Rec) → (eval S E T n).made ≡ P ++ rest →
    Stop rest (run S E T (suc n) root root false branch_end start (fuel n)) (run S (alone E) (T ++ P) (suc n) root root false branch_end start (fuel n))
top_mirror S E T n P rest is = (run_mirror T (T ++ P) E (λ p r z. find_left p T P r z) (suc n) S root root false branch_end branch_end
    (record { within = branch_end_within E root; falls = branch_end_left; both = branch_end_mirror T (T ++ P) E (λ p r z. find_left p T P r z) root }) start (fuel n) (fuel n) (le_refl n)).holds
    P rest is (λ q m. find_in (T ++ P) q (in_right T P m)) (λ r m a. in_split T P m)

pub post_rests : PostRests
post_rests S E T n P1 p t f = top_mirror S E T n P1 (rec p (kept.Post t) ∷ f.rest) (f.is ∙ assoc P1 (rec p (kept.Post t) ∷ []) f.rest)

closed_good : (g : Bool) (o : Out) → closed g o ≡ waits → Good o
closed_good true (ended e) z = tt
closed_good false (ended e) z = tt
closed_good true waits z = tt
closed_good false waits z = tt
closed_good true (halted w) z = not_waits z
  where
    not_waits : {w : Why} → halted w ≡ waits → ⊥
    not_waits e = cc
closed_good false (halted w) z = not_waits z
  where
    not_waits : {w : Why} → halted w ≡ waits → ⊥
    not_waits e = cc

pub waits_again : WaitsAgain
waits_again S E T n h = finish (top_mirror S E T n (eval S E T n).made [] (nothing_more (eval S E T n).made) (closed_good _ _ h))
  where
    finish : Same (run S E T (suc n) root root false branch_end start (fuel n)) (run S (alone E) (T ++ (eval S E T n).made) (suc n) root root false branch_end start (fuel n)) →
        ((eval S (world E.session [] []) (T ++ (eval S E T n).made) n).out ≡ waits) × ((eval S (world E.session [] []) (T ++ (eval S E T n).made) n).st ≡ (eval S E T n).st) ×
        ((eval S (world E.session [] []) (T ++ (eval S E T n).made) n).made ≡ [])
    finish a = (
      ap (λ o. closed (any_gone root (run S (alone E) (T ++ (eval S E T n).made) (suc n) root root false branch_end start (fuel n)).st.gone) o) a.out
          ∙ ap (λ τ. closed (any_gone root τ.gone) (run S E T (suc n) root root false branch_end start (fuel n)).out) a.st ∙ h,
      a.st,
      a.made,
    )
