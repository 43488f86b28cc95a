-- What one strict plain run in a branch does: outside the branch it changes only slots that it leaves open.
use Rattle.std.specs.Prelude.{List, Bool, true, false, Option, Some, None}
use Rattle.std.proofs.Common.{◌≡◌, ◌≤◌, ℕ, suc, zero, refl, ap, arith, ◌⊎◌, inl, inr, [], ◌∷◌, ◌++◌, sym, ◌∙◌}
use Rattle.turk_base.specs.Asks.{AnsOf, Rec, rec}
use Rattle.turk_base.specs.Cells.{Edit, new_props, writes, seen}
use Rattle.turk_base.specs.Names.{Path, sub, IsSub, Under, self, down, In, Part, Name, cell, Slot, slot, home, holder, name_eq, under, pick}
use Rattle.turk_base.specs.Prog.{Prog, Done, Ask, Then, Always, Once, Fork, Loop}
use Rattle.turk_base.specs.State.{St, sees, Opening, opening, write_all, cut, first_props, make_cell, edited, Op, charge, known_at, make, change, print, join, forks_here, crash, AnswerTo, Act, gives, refused, waiting, stuck, act, act_known, act_chained, act_change, act_join, act_forks, any_gone, too_many, Verdict, independent, touched_open, once_while_open, branch_threw, once_call, next_call, enter, leave, give_value, cut_all, op_cost}
use Rattle.turk_base.specs.Steps.{Small, give, refuse, lost, step, ask, taking, put_data, steps_of}
use Rattle.turk_base.specs.Values.{Val, Undefined, Kind, Frame, Plain, Array, Function, BuiltIn, Known, Outcome, Normal, Break, Continue, Return, Throw, ForkInOnce}
use Rattle.js_tree.specs.Run.{valued, datum, value_in, data_in, End, ret, thr, bar}
use Rattle.js_tree.specs.World.{World, Fresh, fresh}
use Rattle.run_laws.proofs.Edits.{edit_frame}
use Rattle.run_laws.proofs.Lists.{write_in, write_still, cut_keep, cut_under}
use Rattle.run_laws.proofs.Paths.{under_trans, up}
use Rattle.run_laws.proofs.Props.{none_some, in_split, in_one, part_in}
use Rattle.run_laws.proofs.Within.{After}
use Rattle.run_laws.specs.Strict.{Entry, entry, Strict, plain_end, note, strict, strict_act, strict_ask, plain_steps, strict_branch_end, strict_body_end, strict_once, strict_once_goes, strict_fork, strict_fork_goes, strict_normal, strict_turns, plain, Noted}
use native.Mathlib.Nat.{le_refl, le_trans}

-- x is open in l by a path that is p or lies under b
abbrev pub StillOpen : Path → Slot → Path → List Opening → Type 0
StillOpen b x p l = (q : Path) × In Opening (opening x q) l × ((q ≡ p) ⊎ Under b q)

abbrev pub OpenBelow : Path → Slot → List Opening → Type 0
OpenBelow b x l = (q : Path) × In Opening (opening x q) l × Under b q

pub record Framed (s b : Path) (φ τ : St) : Type 0 where
  pub known : (n : Name) → ¬ (Under s (home n)) → τ.known n ≡ φ.known n
  pub keep : IsSub b → (x : Slot) (p : Path) → In Opening (opening x p) φ.opened → StillOpen b x p τ.opened
  pub gone : τ.gone ≡ φ.gone
  pub frame : IsSub b → (x : Slot) → ¬ (Under b (home (holder x))) → (sees τ x ≡ sees φ x) ⊎ OpenBelow b x τ.opened

pub record PlainWithin (s b : Path) (c : ℕ) (φ : St) (r : Strict) : Type 0 where
  pub log : {q : Path} {o : Noted} → In Entry (entry q o) r.log → After s c q
  pub ends : {e : End} → r.out ≡ Some e → Framed s b φ r.st

pub framed_like : {s b : Path} {φ τ : St} → τ.known ≡ φ.known → τ.opened ≡ φ.opened → τ.props ≡ φ.props → τ.gone ≡ φ.gone → Framed s b φ τ
framed_like {φ = φ} {τ = τ} h o v g = record {
  gone = g;
  known = λ n u. ap (λ f. f n) h;
  keep = λ i x p m. (p, rw o m, inl refl);
  frame = λ i x u. inl (see x);
}
  where
    see : (x : Slot) → sees τ x ≡ sees φ x
    see (slot n y) = ap (λ f. seen y (f n)) v

pub sub_of : {b p : Path} → Under b p → IsSub b → IsSub p
sub_of self i = i
sub_of (down u) i = tt

pub framed_trans : {s b : Path} {φ ψ τ : St} → Framed s b φ ψ → Framed s b ψ τ → Framed s b φ τ
framed_trans {b = b} {φ = φ} {ψ = ψ} {τ = τ} h k = record {
  gone = k.gone ∙ h.gone;
  known = λ n u. k.known n u ∙ h.known n u;
  keep = λ i x p m. chain i x p (h.keep i x p m);
  frame = λ i x u. choose i x (h.frame i x u) (k.frame i x u);
}
  where
    still : (x : Slot) (p q : Path) → (q ≡ p) ⊎ Under b q → StillOpen b x q τ.opened → StillOpen b x p τ.opened
    still x p q (inl e) w = rw e at w
    still x p q (inr u) (r, m, inl e) = (r, m, inr (rw e u))
    still x p q (inr u) (r, m, inr v) = (r, m, inr v)

    chain : IsSub b → (x : Slot) (p : Path) → StillOpen b x p ψ.opened → StillOpen b x p τ.opened
    chain i x p (q, m, c) = still x p q c (k.keep i x q m)

    below : (x : Slot) (q : Path) → Under b q → StillOpen b x q τ.opened → OpenBelow b x τ.opened
    below x q u (r, m, inl e) = (r, m, rw e u)
    below x q u (r, m, inr v) = (r, m, v)

    choose : IsSub b → (x : Slot) → (sees ψ x ≡ sees φ x) ⊎ OpenBelow b x ψ.opened → (sees τ x ≡ sees ψ x) ⊎ OpenBelow b x τ.opened → (sees τ x ≡ sees φ x) ⊎ OpenBelow b x τ.opened
    choose i x w (inr d) = inr d
    choose i x (inl e) (inl e') = inl (e' ∙ e)
    choose i x (inr (q, m, u)) (inl e') = inr (below x q u (k.keep i x q m))

-- A scope below, of the branch b' which is b or lies under it.
pub framed_sub : {s b b' : Path} {c : ℕ} {φ τ : St} → Under b b' → Framed (sub c s) b' φ τ → Framed s b φ τ
framed_sub {b = b} {b' = b'} {φ = φ} {τ = τ} v k = record {
  gone = k.gone;
  known = λ n u. k.known n (λ w. u (up w));
  keep = λ i x p m. keep' x p (k.keep (sub_of v i) x p m);
  frame = λ i x u. frame' x (k.frame (sub_of v i) x (λ w. u (under_trans v w)));
}
  where
    keep' : (x : Slot) (p : Path) → StillOpen b' x p τ.opened → StillOpen b x p τ.opened
    keep' x p (q, m, inl e) = (q, m, inl e)
    keep' x p (q, m, inr u) = (q, m, inr (under_trans v u))

    frame' : (x : Slot) → (sees τ x ≡ sees φ x) ⊎ OpenBelow b' x τ.opened → (sees τ x ≡ sees φ x) ⊎ OpenBelow b x τ.opened
    frame' x (inl e) = inl e
    frame' x (inr (q, m, u)) = inr (q, m, under_trans v u)

pub framed_cut : {s b : Path} {φ : St} (p : Path) → Under b p → Framed s b φ (cut_all p φ)
framed_cut {b = b} {φ = φ} p v = record {
  gone = refl;
  known = λ n u. refl;
  keep = λ i x q m. choose i x q m (under p q);
  frame = λ i x u. inl (same x);
}
  where
    same : (x : Slot) → sees (cut_all p φ) x ≡ sees φ x
    same (slot n y) = refl

    choose : IsSub b → (x : Slot) (q : Path) → In Opening (opening x q) φ.opened → Dec (Under p q) → StillOpen b x q (cut p φ.opened)
    choose i x q m (yes u) = (p, cut_under p φ.opened (sub_of v i) u m, inr v)
    choose i x q m (no n) = (q, cut_keep p φ.opened n m, inl refl)

framed_edit : {s b : Path} {φ : St} (c : Name) (e : Edit) → Framed s b φ (edited b c e φ)
framed_edit {s} {b} {φ} c e = record {
  gone = refl;
  known = λ n u. refl;
  keep = λ i x p m. still x p m (under b (home c));
  frame = λ i x n. framed x n (under b (home c));
}
  where
    still : (x : Slot) (p : Path) → In Opening (opening x p) φ.opened → (d : Dec (Under b (home c))) → StillOpen b x p (pick d φ.opened (write_all b c (writes e (φ.props c)) φ.opened))
    still x p m (yes u) = (p, m, inl refl)
    still x p m (no u) = elim (write_still b c (writes e (φ.props c)) φ.opened m) [ inl h ↦ (p, h, inl refl) | inr h ↦ (b, h, inr self) ]

    changed : (n : Name) (y : Part) → ¬ (In Part y (writes e (φ.props c))) ⊎ ¬ (n ≡ c) → (d : Dec (n ≡ c)) → seen y (pick d (new_props e (φ.props c)) (φ.props n)) ≡ seen y (φ.props n)
    changed n y (inl h) (yes z) = edit_frame e (φ.props c) y h ∙ ap (λ m. seen y (φ.props m)) (sym z)
    changed n y (inr h) (yes z) = absurd (h z)
    changed n y h (no z) = refl

    open_one : (n : Name) (y : Part) → Dec (n ≡ c) → Dec (In Part y (writes e (φ.props c))) →
        (sees (edited b c e φ) (slot n y) ≡ seen y (φ.props n)) ⊎ OpenBelow b (slot n y) (write_all b c (writes e (φ.props c)) φ.opened)
    open_one n y (no z) d = inl (changed n y (inr z) (name_eq n c))
    open_one n y (yes z) (no h) = inl (changed n y (inl h) (name_eq n c))
    open_one n y (yes z) (yes h) = inr (b, rw z (write_in b c (writes e (φ.props c)) φ.opened h), self)

    framed : (x : Slot) → ¬ (Under b (home (holder x))) → (d : Dec (Under b (home c))) → (sees (edited b c e φ) x ≡ sees φ x) ⊎ OpenBelow b x (pick d φ.opened (write_all b c (writes e (φ.props c)) φ.opened))
    framed (slot n y) h (yes u) = inl (changed n y (inr (λ z. h (rw z u))) (name_eq n c))
    framed (slot n y) h (no u) = open_one n y (name_eq n c) (part_in y (writes e (φ.props c)))

framed_make : (s b : Path) (k : Kind) (l : List Name) (φ : St) → Under b s → Framed s b φ (make_cell s k l φ)
framed_make s b k l φ v = record {
  gone = refl;
  known = λ n u. there n u (name_eq n (cell s φ.cells));
  keep = λ i x p m. (p, m, inl refl);
  frame = λ i x u. inl (same x u);
}
  where
    there : (n : Name) → ¬ (Under s (home n)) → (d : Dec (n ≡ cell s φ.cells)) → pick d (Some (record { kind = k; chain = l })) (φ.known n) ≡ φ.known n
    there n u (yes e) = absurd (u (rw e self))
    there n u (no m) = refl

    one : (n : Name) (y : Part) → ¬ (Under b (home n)) → (d : Dec (n ≡ cell s φ.cells)) → seen y (pick d (first_props k) (φ.props n)) ≡ seen y (φ.props n)
    one n y u (yes e) = absurd (u (rw e v))
    one n y u (no m) = refl

    same : (x : Slot) → ¬ (Under b (home (holder x))) → sees (make_cell s k l φ) x ≡ sees φ x
    same (slot n y) u = one n y u (name_eq n (cell s φ.cells))

abbrev pub ActFramed : {A : Type 0} → Path → Path → St → Act A → Type 0
ActFramed s b σ (gives a τ) = Framed s b σ τ × (τ.calls ≡ σ.calls)
ActFramed s b σ (refused why) = Unit {0}
ActFramed s b σ (waiting x) = Unit {0}
ActFramed s b σ stuck = Unit {0}

pub act_framed : (o : Op) (s b : Path) (body : Bool) (σ : St) → Under b s → ActFramed s b σ (act o s b body σ)
unfolding act
act_framed (charge n) s b body σ v = (framed_like refl refl refl refl, refl)
act_framed (known_at c) s b body σ v = inner (σ.known c)
  where
    inner : (h : Option Known) → ActFramed s b σ (act_known h σ)
    inner (Some k) = (framed_like refl refl refl refl, refl)
    inner None = tt
act_framed (make paid (Frame p)) s b body σ v = (framed_make s b _ _ σ v, refl)
act_framed (make paid (Plain None)) s b body σ v = (framed_make s b _ _ σ v, refl)
act_framed (make paid (Plain (Some p))) s b body σ v = inner (σ.known p)
  where
    inner : (h : Option Known) → ActFramed s b σ (act_chained h p s (Plain (Some p)) σ)
    inner (Some k) = (framed_make s b _ _ σ v, refl)
    inner None = tt
act_framed (make paid Array) s b body σ v = (framed_make s b _ _ σ v, refl)
act_framed (make paid (Function n f)) s b body σ v = (framed_make s b _ _ σ v, refl)
act_framed (make paid (BuiltIn w)) s b body σ v = (framed_make s b _ _ σ v, refl)
act_framed (change paid c e) s b body σ v = inner (σ.known c)
  where
    inner : (h : Option Known) → ActFramed s b σ (act_change h b c e σ)
    inner (Some k) = (framed_edit c e, refl)
    inner None = tt
act_framed (print line) s b body σ v = (framed_like refl refl refl refl, refl)
act_framed (join wanted) s b body σ v = inner body (any_gone s σ.gone) (too_many wanted σ.vals)
  where
    inner : (body g t : Bool) → ActFramed s b σ (act_join body g t s σ)
    inner true g t = tt
    inner false true t = tt
    inner false false true = tt
    inner false false false = (framed_trans (framed_cut s v) (framed_like refl refl refl refl), refl)
act_framed forks_here s b body σ v = inner body
  where
    inner : (body : Bool) → ActFramed s b σ (act_forks body σ)
    inner true = tt
    inner false = (framed_like refl refl refl refl, refl)
act_framed crash s b body σ v = tt

pub framed_same : {s b : Path} {σ σ' τ : St} → σ'.known ≡ σ.known → σ'.opened ≡ σ.opened → σ'.props ≡ σ.props → σ'.gone ≡ σ.gone → Framed s b σ' τ → Framed s b σ τ
framed_same h g v n k = framed_trans (framed_like h g v n) k

p_end : {s b : Path} {c : ℕ} {φ : St} (o : Option End) → PlainWithin s b c φ (plain_end o φ)
p_end o = record { log = λ h. elim h [ ]; ends = λ e. framed_like refl refl refl refl }

p_stop : {s b : Path} {c : ℕ} {φ : St} (τ : St) → PlainWithin s b c φ (plain_end None τ)
p_stop τ = record { log = λ h. elim h [ ]; ends = λ e. absurd (none_some e) }

p_step : {s b : Path} {c c' : ℕ} {φ τ : St} {r : Strict} → c ≤ c' → Framed s b φ τ → PlainWithin s b c' τ r → PlainWithin s b c φ r
p_step h k w = record {
  log = λ m. let a = w.log m in (a.0, le_trans h a.1, a.2);
  ends = λ e. framed_trans k (w.ends e);
}

p_note : {s b : Path} {c : ℕ} {φ : St} {r : Strict} (l : List Entry) (m : List Rec) (k : ℕ) → ((q : Path) (o : Noted) → In Entry (entry q o) l → After s c q) → PlainWithin s b c φ r → PlainWithin s b c φ (note l m k r)
p_note {r = r} l m k h w = record {
  log = λ {q} {o} m. elim (in_split l r.log m) [ inl a ↦ h q o a | inr b ↦ w.log b ];
  ends = w.ends;
}

p_strict : {s b : Path} {c : ℕ} {φ : St} (body : Bool) (v : Verdict) (τ : St) (r : Strict) → PlainWithin s b c φ r → PlainWithin s b c φ (strict body v τ r)
p_strict true v τ r w = w
p_strict false independent τ r w = w
p_strict false (touched_open x) τ r w = p_stop τ
p_strict false (once_while_open x) τ r w = p_stop τ
p_strict false (branch_threw x) τ r w = p_stop τ

abbrev pub PlainK : {A : Type 0} → Path → Path → (A → St → Strict) → Type 0
PlainK {A} s b k = (a : A) (τ : St) → PlainWithin s b τ.calls τ (k a τ)

pub p_steps : {A : Type 0} (g : Small A) (E : World) (s b : Path) (body : Bool) (k : A → St → Strict) → PlainK s b k → Under b s →
    (φ : St) → PlainWithin s b φ.calls φ (plain_steps g E s b body k φ)
unfolding plain_steps
p_steps (give a) E s b body k wk v φ = wk a φ
p_steps (refuse why) E s b body k wk v φ = p_end (Some (bar why))
p_steps lost E s b body k wk v φ = p_stop φ
p_steps (step o go) E s b body k wk v φ = inner (act o s b body φ) (act_framed o s b body φ v) (λ a τ. p_steps (go a) E s b body k wk v τ)
  where
    inner : (A : Act (AnswerTo o)) → ActFramed s b φ A → ((a : AnswerTo o) (τ : St) → PlainWithin s b τ.calls τ (plain_steps (go a) E s b body k τ)) →
        PlainWithin s b φ.calls φ (strict_act A (op_cost o φ) body φ (λ a τ. plain_steps (go a) E s b body k τ))
    inner (gives a τ) h ih = p_strict body τ.verdict τ _ (p_note [] [] (op_cost o φ) (λ q o m. elim m [ ]) (p_step (omega (arith, h.1)) h.0 (ih a τ)))
    inner (refused why) h ih = p_end (Some (bar why))
    inner (waiting x) h ih = p_stop φ
    inner stuck h ih = p_stop φ
p_steps (ask q go) E s b body k wk v φ = inner (fresh q E 0 (sub φ.calls s)) (λ a. p_steps (go a) E s b body k wk v (next_call φ))
  where
    inner : (n : Option (Fresh q)) → ((a : AnsOf q) → PlainWithin s b (suc φ.calls) (next_call φ) (plain_steps (go a) E s b body k (next_call φ))) →
        PlainWithin s b φ.calls φ (strict_ask n (sub φ.calls s) φ (λ a. plain_steps (go a) E s b body k (next_call φ)))
    inner (Some f) ih = p_note [] (rec (sub φ.calls s) f.what ∷ []) 0 (λ q o m. elim m [ ]) (p_step (omega arith) (framed_like refl refl refl refl) (ih f.answer))
    inner None ih = p_stop φ

module _ (s b b' : Path) (v : Under b b') (φ φ₁ : St) (k : Framed s b φ φ₁) (n : φ₁.calls ≡ suc φ.calls) (r : Strict) (w : PlainWithin (sub φ.calls s) b' 0 (enter φ₁) r) where
  p_kept : (x : End) → r.out ≡ Some x → Framed s b φ r.st
  p_kept x e = framed_trans k (framed_same refl refl refl refl (framed_sub v (w.ends e)))

  p_log : (q : Path) (o : Noted) → In Entry (entry q o) r.log → After s φ.calls q
  p_log q o m = let a = w.log m in (φ.calls, le_refl _, up a.2)

  p_log_one : (o' : Noted) (q : Path) (o : Noted) → In Entry (entry q o) (r.log ++ (entry (sub φ.calls s) o' ∷ [])) → After s φ.calls q
  p_log_one o' q o m = elim (in_split r.log _ m) [ inl a ↦ p_log q o a | inr z ↦ (φ.calls, le_refl _, rw (ap path_in (in_one z)) self) ]
    where
      path_in : Entry → Path
      path_in (entry q o) = q

  p_whole : (o : Option End) → ((e : End) → o ≡ Some e → Framed s b φ r.st) → PlainWithin s b φ.calls φ (record r { out = o })
  p_whole o h = record { log = λ m. p_log _ _ m; ends = λ {e} z. h e z }

  p_whole_one : (o : Option End) (o' : Noted) → ((e : End) → o ≡ Some e → Framed s b φ r.st) → PlainWithin s b φ.calls φ (record { out = o; st = r.st; log = r.log ++ (entry (sub φ.calls s) o' ∷ []); made = r.made; cost = r.cost })
  p_whole_one o o' h = record { log = λ m. p_log_one o' _ _ m; ends = λ {e} z. h e z }

  module _ (body : Bool) (go : End → St → Strict) (ih : PlainK s b go) where
    once_framed : (o : Option End) → r.out ≡ o → PlainWithin s b φ.calls φ (strict_once o r (sub φ.calls s) body φ₁ go)
    once_framed (Some (ret x)) e = p_note _ _ _ (p_log_one _) (p_step (omega (arith, n)) k (ih (ret (datum (data_in x))) φ₁))
    once_framed (Some (thr x)) e = p_note _ _ _ (p_log_one _) (p_strict body r.st.verdict r.st _
        (p_step (omega (arith, n)) (framed_trans (p_kept _ e) (framed_like refl refl refl refl)) (ih (thr x) (leave φ₁ r.st))))
    once_framed (Some (bar x)) e = p_whole_one (Some (bar x)) _ (λ y z. p_kept _ e)
    once_framed None e = p_whole_one None _ (λ y z. absurd (none_some z))

    fork_framed : Under b (sub φ.calls s) → (o : Option End) → r.out ≡ o → PlainWithin s b φ.calls φ (strict_fork o r (sub φ.calls s) φ₁ go)
    fork_framed u (Some (ret x)) e = p_note _ _ _ p_log (p_step (omega (arith, n))
        (framed_trans (p_kept _ e) (framed_trans (framed_cut (sub φ.calls s) u) (framed_like refl refl refl refl)))
        (ih (ret (valued Undefined)) (give_value (value_in x) (leave φ₁ (cut_all (sub φ.calls s) r.st)))))
    fork_framed u (Some (thr x)) e = p_whole None (λ y z. absurd (none_some z))
    fork_framed u (Some (bar x)) e = p_whole r.out p_kept
    fork_framed u None e = p_whole r.out p_kept

pub p_branch_end : (s b : Path) → PlainK s b strict_branch_end
p_branch_end s b (Normal v) τ = p_end _
p_branch_end s b Break τ = p_end _
p_branch_end s b Continue τ = p_end _
p_branch_end s b (Return v) τ = p_end _
p_branch_end s b (Throw v) τ = p_end _

pub p_body_end : (E : World) (s b : Path) → Under b s → PlainK s b (strict_body_end E s b)
p_body_end E s b u (Normal v) τ = p_steps (taking v) E s b true _ (λ d τ. p_end _) u τ
p_body_end E s b u Break τ = p_steps (taking Undefined) E s b true _ (λ d τ. p_end _) u τ
p_body_end E s b u Continue τ = p_steps (taking Undefined) E s b true _ (λ d τ. p_end _) u τ
p_body_end E s b u (Return v) τ = p_steps (taking v) E s b true _ (λ d τ. p_end _) u τ
p_body_end E s b u (Throw v) τ = p_end _

pub p_once_goes : (E : World) (s b : Path) (body : Bool) (k : Outcome → St → Strict) → PlainK s b k → Under b s → PlainK s b (strict_once_goes E s b body k)
p_once_goes E s b body k wk u (ret x) τ = p_steps (put_data (data_in x)) E s b body _ (λ v τ. wk (Normal v) τ) u τ
p_once_goes E s b body k wk u (thr v) τ = wk (Throw v) τ
p_once_goes E s b body k wk u (bar why) τ = p_end _

pub p_fork_goes : (s b : Path) (k : Outcome → St → Strict) → PlainK s b k → PlainK s b (strict_fork_goes k)
p_fork_goes s b k wk (ret x) τ = wk (Normal Undefined) τ
p_fork_goes s b k wk (thr v) τ = wk (Throw v) τ
p_fork_goes s b k wk (bar why) τ = p_end _

pub p_normal : (s b : Path) (go : Val → St → Strict) (k : Outcome → St → Strict) → PlainK s b go → PlainK s b k → PlainK s b (strict_normal go k)
p_normal s b go k wg wk (Normal v) τ = wg v τ
p_normal s b go k wg wk Break τ = wk Break τ
p_normal s b go k wg wk Continue τ = wk Continue τ
p_normal s b go k wg wk (Return v) τ = wk (Return v) τ
p_normal s b go k wg wk (Throw v) τ = wk (Throw v) τ

pub p_turns : (s b : Path) (N : ℕ) (turn : (Outcome → St → Strict) → St → Strict) →
    ((k : Outcome → St → Strict) → PlainK s b k → (φ : St) → PlainWithin s b φ.calls φ (turn k φ)) →
    (k : Outcome → St → Strict) → PlainK s b k → (φ : St) → PlainWithin s b φ.calls φ (strict_turns N turn k φ)
unfolding strict_turns
p_turns s b zero turn h k wk φ = p_stop φ
p_turns s b (suc n) turn h k wk φ = h _ (p_normal s b _ k (λ v τ. p_turns s b n turn h k wk τ) wk) φ

pub plain_within : (g : Prog) (E : World) (N : ℕ) (s b : Path) (body : Bool) (k : Outcome → St → Strict) → PlainK s b k → Under b s →
    (φ : St) → PlainWithin s b φ.calls φ (plain g E N s b body k φ)
unfolding plain
plain_within (Done o) E N s b body k wk v φ = wk o φ
plain_within (Ask p go) E N s b body k wk v φ = p_steps (steps_of p) E s b body _ (λ a τ. plain_within (go a) E N s b body k wk v τ) v φ
plain_within (Then g go) E N s b body k wk v φ = plain_within g E N s b body _ (p_normal s b _ k (λ x τ. plain_within (go x) E N s b body k wk v τ) wk) v φ
plain_within (Always g go) E N s b body k wk v φ = plain_within g E N s b body _ (λ o τ. plain_within (go o) E N s b body k wk v τ) v φ
plain_within (Once g) E N s b body k wk v φ = p_strict body _ (next_call φ) _
    (once_framed s b b self φ (once_call b (next_call φ)) (framed_like refl refl refl refl) refl _
    (plain_within g E N (sub φ.calls s) b true _ (p_body_end E (sub φ.calls s) b (down v)) (down v) (enter (once_call b (next_call φ))))
    body _ (p_once_goes E s b body k wk v) _ refl)
plain_within (Fork g) E N s b true k wk v φ = p_end (Some (bar ForkInOnce))
plain_within (Fork g) E N s b false k wk v φ =
    fork_framed s b (sub φ.calls s) (down v) φ (next_call φ) (framed_like refl refl refl refl) refl _
    (plain_within g E N (sub φ.calls s) (sub φ.calls s) false _ (p_branch_end (sub φ.calls s) (sub φ.calls s)) self (enter (next_call φ)))
    false _ (p_fork_goes s b k wk) (down v) _ refl
plain_within (Loop g) E N s b body k wk v φ = p_turns s b N _ (λ k' wk' τ. plain_within g E N s b body k' wk' v τ) k wk φ
