-- One program over one trace and the same replies, with any draws and with those that a list tells of: the two runs are
-- one, or they part at a draw that the list doesn't tell, and made the same records before it.
use Rattle.std.specs.Prelude.{ℤ, List, Bool, true, false, Option, Some, None, nat_lt}
use Rattle.std.proofs.Common.{◌≡◌, ℕ, suc, zero, refl, ap, arith, ◌⊎◌, inl, inr, [], ◌∷◌, ◌++◌, sym, ◌∙◌, subst}
use Rattle.turk_base.specs.declared.Record.{Record}
use Rattle.turk_base.specs.declared.Record.TheVariants as kept
use Rattle.turk_base.specs.Asks.{Question, posts, replies, draws, AnsOf, Rec, rec, path_of, find, below, answer}
use Rattle.turk_base.specs.Names.{Path, root, sub, Units, Under, self, In, first, integer_eq}
use Rattle.turk_base.specs.Prog.{Prog, Done, Ask, Then, Always, Once, Fork, Loop}
use Rattle.turk_base.specs.Start.{start}
use Rattle.turk_base.specs.State.{St, AnswerTo, op_cost, Act, gives, refused, waiting, stuck, act, any_gone, once_call, next_call, enter, leave, absent, give_value, cut_all, threw}
use Rattle.turk_base.specs.Steps.{Small, give, refuse, lost, step, ask, taking, put_data, steps_of}
use Rattle.turk_base.specs.Values.{Val, Undefined, Outcome, Normal, Break, Continue, Return, Throw}
use Rattle.js_tree.specs.Eval.{fuel, eval, close, closed, grew}
use Rattle.js_tree.specs.Run.{undrawn, datum, value_in, data_in, valued, End, ret, thr, bar, Out, ended, waits, halted, Why, Res, add, pay_if, on_act, on_kept, on_ask, run_steps, branch_end, body_end, after_body, on_once, once_goes, after_branch, on_fork, fork_goes, forked, on_normal, turns, run}
use Rattle.js_tree.specs.World.{World, Divergence, kept_answer, fresh, fresh_reply, fresh_draw, draw_of, drawn_of, Rest, drew}
use Rattle.run_laws.proofs.Fronts.{assoc, nothing_more, same_head, not_nil, meet, Meets, front, front_trans, front_add, find_over, find_new, find_made, drawn_same}
use Rattle.run_laws.proofs.Lock.{some_is}
use Rattle.run_laws.proofs.Paths.{up}
use Rattle.run_laws.proofs.Props.{none_some, in_left, in_right, in_split, in_one}
use Rattle.run_laws.proofs.Sound.{clash}
use Rattle.run_laws.proofs.Within.{After, Born, asked, done, ActKept, act_kept, run_within, branch_end_within, body_end_within}
use Rattle.run_laws.specs.Stops.{Front, by_draws, RecordedDraws, StopsBegin, StopsNext, StopsGrow, no_draw}
use native.Mathlib.Nat.{le_refl}

-- How the first run goes on where they part: by a draw that the list doesn't tell, or undrawn where the list tells one.
abbrev pub PartsBy : List Rec → List Rec → Path → ℤ → Res → Type 0
PartsBy l m p k e = ((x : ℤ) × (Front (m ++ (rec p (kept.Draw k x) ∷ [])) e.made) × (drawn_of k (find p l) ≡ Some x → ⊥)) ⊎
    ((e.out ≡ halted undrawn) × (e.made ≡ m) × (drawn_of k (find p l) ≡ None → ⊥))

pub record Parted (l T : List Rec) (s : Path) (c : ℕ) (e e' : Res) : Type 0 where
  pub before : List Rec
  pub path : Path
  pub bound : ℤ
  pub after : After s c path
  pub none : find path T ≡ None
  pub new : (r : Rec) → In Rec r before → path_of r ≡ path → ⊥
  pub goes : PartsBy l before path bound e
  pub second : Front before e'.made
  pub stays : drawn_of bound (find path l) ≡ None → (e'.out ≡ halted undrawn) × (e'.made ≡ before)

pub data Twin (l T : List Rec) (s : Path) (c : ℕ) (e e' : Res) : Type 0 where
  alike : e ≡ e' → Twin l T s c e e'
  apart : Parted l T s c e e' → Twin l T s c e e'

-- ---- parts of a run

parted_add : {l T : List Rec} {s : Path} {c : ℕ} {e e' : Res} (m : List Rec) → ((q : Rec) → In Rec q m → Under (sub c s) (path_of q)) → Parted l T s (suc c) e e' → Parted l T s c (add m e) (add m e')
parted_add {l} {T} {s} {c} {e} {e'} m u a = record {
  before = m ++ a.before;
  path = a.path;
  bound = a.bound;
  after = (a.after.0, omega (arith, a.after.1), a.after.2);
  none = a.none;
  new = λ r i z. elim (in_split m _ i) [ inl x ↦ clash (u r x) (rw z a.after) | inr y ↦ a.new r y z ];
  goes = by a.goes;
  second = front_add m a.second;
  stays = λ z. let b = a.stays z in (b.0, ap (λ l. m ++ l) b.1);
}
  where
    by : PartsBy l a.before a.path a.bound e → PartsBy l (m ++ a.before) a.path a.bound (add m e)
    by (inl (x, f, d)) = inl (x, subst (λ z. Front z (m ++ e.made)) (sym (assoc m a.before (rec a.path (kept.Draw a.bound x) ∷ []))) (front_add m f), d)
    by (inr (o, z, d)) = inr (o, ap (λ z. m ++ z) z, d)

twin_add : {l T : List Rec} {s : Path} {c : ℕ} {e e' : Res} (m : List Rec) → ((q : Rec) → In Rec q m → Under (sub c s) (path_of q)) → Twin l T s (suc c) e e' → Twin l T s c (add m e) (add m e')
twin_add m u (alike z) = alike (ap (λ z. add m z) z)
twin_add m u (apart a) = apart (parted_add m u a)

twin_skip : {l T : List Rec} {s : Path} {c : ℕ} {e e' : Res} → Twin l T s (suc c) e e' → Twin l T s c e e'
twin_skip (alike z) = alike z
twin_skip (apart a) = apart (record { before = a.before; path = a.path; bound = a.bound; after = (a.after.0, omega (arith, a.after.1), a.after.2); none = a.none; new = a.new; goes = a.goes; second = a.second; stays = a.stays })

-- A scope at the call c parted, so the whole did.
parted_up : {l T : List Rec} {s : Path} {c : ℕ} {r r' e e' : Res} → Parted l T (sub c s) 0 r r' → Front r.made e.made → ((w : Why) → r.out ≡ halted w → e ≡ r) → Front r'.made e'.made → ((w : Why) → r'.out ≡ halted w → e' ≡ r') → Twin l T s c e e'
parted_up {l} {T} {s} {c} {r} {r'} {e} {e'} a f h f' h' = apart (record {
  before = a.before;
  path = a.path;
  bound = a.bound;
  after = (c, le_refl c, up a.after.2);
  none = a.none;
  new = a.new;
  goes = by a.goes;
  second = front_trans a.second f';
  stays = λ z. let b = a.stays z in (ap (λ e. e.out) (h' undrawn b.0) ∙ b.0, ap (λ e. e.made) (h' undrawn b.0) ∙ b.1);
})
  where
    by : PartsBy l a.before a.path a.bound r → PartsBy l a.before a.path a.bound e
    by (inl (x, g, d)) = inl (x, front_trans g f, d)
    by (inr (o, z, d)) = inr (ap (λ e. e.out) (h undrawn o) ∙ o, ap (λ e. e.made) (h undrawn o) ∙ z, d)

pub body_front : (o : Out) (r : Res) (p : Path) (σ : St) (k : End → St → Rest → Res) → Front r.made (after_body o r p σ k).made
body_front (ended (ret x)) r p σ k = front ((rec p (kept.Once (data_in x)) ∷ []) ++ (k (ret (datum (data_in x))) σ r.rest).made) (assoc r.made (rec p (kept.Once (data_in x)) ∷ []) (k (ret (datum (data_in x))) σ r.rest).made)
body_front (ended (thr v)) r p σ k = front ((k (thr v) (leave σ r.st) r.rest).made) refl
body_front (ended (bar y)) r p σ k = front [] (nothing_more r.made)
body_front waits r p σ k = front [] (nothing_more r.made)
body_front (halted y) r p σ k = front [] (nothing_more r.made)

pub branch_front : (g : Bool) (o : Out) (r : Res) (p : Path) (σ : St) (k : End → St → Rest → Res) → Front r.made (after_branch g o r p σ k).made
branch_front false (ended (ret x)) r p σ k = front ((k (ret (valued Undefined)) (give_value (value_in x) (leave σ (cut_all p r.st))) r.rest).made) refl
branch_front false (ended (thr v)) r p σ k = front ((k (thr v) (threw p (leave σ (cut_all p r.st))) r.rest).made) refl
branch_front false (ended (bar y)) r p σ k = front [] (nothing_more r.made)
branch_front true (ended x) r p σ k = front ((k (ret (valued Undefined)) (absent p σ) r.rest).made) refl
branch_front false waits r p σ k = front ((k (ret (valued Undefined)) (absent p σ) r.rest).made) refl
branch_front true waits r p σ k = front ((k (ret (valued Undefined)) (absent p σ) r.rest).made) refl
branch_front false (halted y) r p σ k = front [] (nothing_more r.made)
branch_front true (halted y) r p σ k = front [] (nothing_more r.made)

pub body_halted : (o : Out) (r : Res) (p : Path) (σ : St) (k : End → St → Rest → Res) (w : Why) → o ≡ halted w → after_body o r p σ k ≡ r
body_halted o r p σ k w e = rw e refl

pub branch_halted : (g : Bool) (o : Out) (r : Res) (p : Path) (σ : St) (k : End → St → Rest → Res) (w : Why) → o ≡ halted w → after_branch g o r p σ k ≡ r
branch_halted true o r p σ k w e = rw e refl
branch_halted false o r p σ k w e = rw e refl

abbrev pub TwinK : {A : Type 0} → List Rec → List Rec → Path → (A → St → Rest → Res) → (A → St → Rest → Res) → Type 0
TwinK {A} l T s k k' = (a : A) (τ : St) (w : Rest) → Twin l T s τ.calls (k a τ w) (k' a τ w)

-- After a scope at the call c that gave r, from the state σ₁, where that call was counted.
module _ (l T : List Rec) (s : Path) (c : ℕ) (σ₁ : St) (n : σ₁.calls ≡ suc c) (k k' : End → St → Rest → Res) (h : TwinK l T s k k') where
  goes_twin : (m : List Rec) → ((q : Rec) → In Rec q m → Under (sub c s) (path_of q)) → (x : End) (τ : St) (w : Rest) → τ.calls ≡ suc c → Twin l T s c (add m (k x τ w)) (add m (k' x τ w))
  goes_twin m u x τ w z = twin_add m u (subst (λ m. Twin l T s m (k x τ w) (k' x τ w)) z (h x τ w))

  module _ (r : Res) (u : (q : Rec) → In Rec q r.made → Under (sub c s) (path_of q)) where
    own : (x : Record) (q : Rec) → In Rec q (r.made ++ (rec (sub c s) x ∷ [])) → Under (sub c s) (path_of q)
    own x q m = elim (in_split r.made _ m) [ inl i ↦ u q i | inr j ↦ rw (in_one j) self ]

    body_same : (o : Out) → Twin l T s c (after_body o r (sub c s) σ₁ k) (after_body o r (sub c s) σ₁ k')
    body_same (ended (ret x)) = goes_twin (r.made ++ (rec (sub c s) (kept.Once (data_in x)) ∷ [])) (own (kept.Once (data_in x))) (ret (datum (data_in x))) σ₁ r.rest n
    body_same (ended (thr v)) = goes_twin r.made u (thr v) (leave σ₁ r.st) r.rest n
    body_same (ended (bar y)) = alike refl
    body_same waits = alike refl
    body_same (halted y) = alike refl

    branch_same : (g : Bool) (o : Out) → Twin l T s c (after_branch g o r (sub c s) σ₁ k) (after_branch g o r (sub c s) σ₁ k')
    branch_same false (ended (ret x)) = goes_twin r.made u (ret (valued Undefined)) (give_value (value_in x) (leave σ₁ (cut_all (sub c s) r.st))) r.rest n
    branch_same false (ended (thr v)) = goes_twin r.made u (thr v) (threw (sub c s) (leave σ₁ (cut_all (sub c s) r.st))) r.rest n
    branch_same false (ended (bar y)) = alike refl
    branch_same true (ended x) = goes_twin r.made u (ret (valued Undefined)) (absent (sub c s) σ₁) r.rest n
    branch_same false waits = goes_twin r.made u (ret (valued Undefined)) (absent (sub c s) σ₁) r.rest n
    branch_same true waits = goes_twin r.made u (ret (valued Undefined)) (absent (sub c s) σ₁) r.rest n
    branch_same false (halted y) = alike refl
    branch_same true (halted y) = alike refl

  body_twin : (r r' : Res) → ((q : Rec) → In Rec q r.made → Under (sub c s) (path_of q)) → Twin l T (sub c s) 0 r r' →
      Twin l T s c (after_body r.out r (sub c s) σ₁ k) (after_body r'.out r' (sub c s) σ₁ k')
  body_twin r r' u (alike z) = subst (λ y. Twin l T s c (after_body r.out r (sub c s) σ₁ k) (after_body y.out y (sub c s) σ₁ k')) z (body_same r u r.out)
  body_twin r r' u (apart a) = parted_up a (body_front r.out r (sub c s) σ₁ k) (λ w e. body_halted r.out r (sub c s) σ₁ k w e) (body_front r'.out r' (sub c s) σ₁ k') (λ w e. body_halted r'.out r' (sub c s) σ₁ k' w e)

  branch_twin : (r r' : Res) → ((q : Rec) → In Rec q r.made → Under (sub c s) (path_of q)) → Twin l T (sub c s) 0 r r' →
      Twin l T s c (after_branch (any_gone (sub c s) r.st.gone) r.out r (sub c s) σ₁ k) (after_branch (any_gone (sub c s) r'.st.gone) r'.out r' (sub c s) σ₁ k')
  branch_twin r r' u (alike z) = subst (λ y. Twin l T s c (after_branch (any_gone (sub c s) r.st.gone) r.out r (sub c s) σ₁ k) (after_branch (any_gone (sub c s) y.st.gone) y.out y (sub c s) σ₁ k')) z (branch_same r u (any_gone (sub c s) r.st.gone) r.out)
  branch_twin r r' u (apart a) = parted_up a (branch_front (any_gone (sub c s) r.st.gone) r.out r (sub c s) σ₁ k) (λ w e. branch_halted (any_gone (sub c s) r.st.gone) r.out r (sub c s) σ₁ k w e) (branch_front (any_gone (sub c s) r'.st.gone) r'.out r' (sub c s) σ₁ k') (λ w e. branch_halted (any_gone (sub c s) r'.st.gone) r'.out r' (sub c s) σ₁ k' w e)

-- ---- steps and programs

module _ (E : World) (l T : List Rec) where
  ask_twin : (q : Question) (s : Path) (c : ℕ) (σ : St) (w : Rest) (k k' : AnsOf q → Rest → Res) → ((a : AnsOf q) (w' : Rest) → Twin l T s (suc c) (k a w') (k' a w')) →
      (o : Option Rec) → find (sub c s) T ≡ o → (t : Bool) →
      Twin l T s c (on_ask q o t (fresh q E w.drawn (sub c s)) E (sub c s) σ w k) (on_ask q o t (fresh q (by_draws E l) w.drawn (sub c s)) (by_draws E l) (sub c s) σ w k')
  unfolding fresh
  ask_twin q s c σ w k k' h (Some (rec r x)) e t = on (kept_answer q E.session (sub c s) x) _
    where
      on : (o : Option (AnsOf q)) (d : Divergence) → Twin l T s c (on_kept o d σ w k) (on_kept o d σ w k')
      on (Some a) d = twin_skip (h a w)
      on None d = alike refl
  ask_twin q s c σ w k k' h None e true = alike refl
  ask_twin (posts t) s c σ w k k' h None e false = twin_add (rec (sub c s) (kept.Post t) ∷ []) (λ q m. rw (in_one m) self) (h _ w)
  ask_twin (replies t) s c σ w k k' h None e false = inner (answer E.pairs t)
    where
      inner : (o : Option Units) → Twin l T s c (on_ask (replies t) None false (fresh_reply t o) E (sub c s) σ w k) (on_ask (replies t) None false (fresh_reply t o) (by_draws E l) (sub c s) σ w k')
      inner (Some x) = twin_add (rec (sub c s) (kept.Reply t x) ∷ []) (λ q m. rw (in_one m) self) (h x w)
      inner None = alike refl
  ask_twin (draws m) s c σ w k k' h None e false = inner (draw_of E.dice w.drawn (sub c s) m) (drawn_of m (find (sub c s) l)) refl
    where
      part : (y : Res) (goes : PartsBy l [] (sub c s) m y) (y' : Res) → (drawn_of m (find (sub c s) l) ≡ None → (y'.out ≡ halted undrawn) × (y'.made ≡ [])) → Twin l T s c y y'
      part y goes y' stays = apart (record { before = []; path = sub c s; bound = m; after = (c, le_refl c, self); none = e; new = λ r i z. elim i [ ]; goes = goes; second = front y'.made refl; stays = stays })

      inner : (o o' : Option ℤ) → drawn_of m (find (sub c s) l) ≡ o' →
          Twin l T s c (on_ask (draws m) None false (fresh_draw m o) E (sub c s) σ w k) (on_ask (draws m) None false (fresh_draw m o') (by_draws E l) (sub c s) σ w k')
      inner (Some x) (Some y) z = which (integer_eq x y)
        where
          which : Dec (x ≡ y) → Twin l T s c (on_ask (draws m) None false (fresh_draw m (Some x)) E (sub c s) σ w k) (on_ask (draws m) None false (fresh_draw m (Some y)) (by_draws E l) (sub c s) σ w k')
          which (yes i) = subst (λ y. Twin l T s c (on_ask (draws m) None false (fresh_draw m (Some x)) E (sub c s) σ w k) (on_ask (draws m) None false (fresh_draw m (Some y)) (by_draws E l) (sub c s) σ w k')) i
              (twin_add (rec (sub c s) (kept.Draw m x) ∷ []) (λ q i. rw (in_one i) self) (h x (drew (draws m) w)))
          which (no i) = part _ (inl (x, front (k x (drew (draws m) w)).made refl, λ j. i (some_is (sym j ∙ z)))) _ (λ j. absurd (none_some (sym j ∙ z)))
      inner (Some x) None z = part _ (inl (x, front (k x (drew (draws m) w)).made refl, λ j. none_some (sym z ∙ j))) _ (λ j. (refl, refl))
      inner None (Some y) z = part _ (inr (refl, refl, λ j. none_some (sym j ∙ z))) _ (λ j. absurd (none_some (sym j ∙ z)))
      inner None None z = alike refl

  steps_twin : {A : Type 0} (g : Small A) (s b : Path) (body : Bool) (k k' : A → St → Rest → Res) → TwinK l T s k k' →
      (σ : St) (w : Rest) → Twin l T s σ.calls (run_steps g E T s b body k σ w) (run_steps g (by_draws E l) T s b body k' σ w)
  unfolding run_steps
  steps_twin (give a) s b body k k' h σ w = h a σ w
  steps_twin (refuse why) s b body k k' h σ w = alike refl
  steps_twin lost s b body k k' h σ w = alike refl
  steps_twin (step o go) s b body k k' h σ w = paid (nat_lt w.left (op_cost o σ)) (act_kept o s b body σ) (λ a τ w'. steps_twin (go a) s b body k k' h τ w')
    where
      inner : (X : Act (AnswerTo o)) → ActKept s σ X → (w' : Rest) → ((a : AnswerTo o) (τ : St) (w' : Rest) → Twin l T s τ.calls (run_steps (go a) E T s b body k τ w') (run_steps (go a) (by_draws E l) T s b body k' τ w')) →
          Twin l T s σ.calls (on_act X σ w' (λ a τ w''. run_steps (go a) E T s b body k τ w'')) (on_act X σ w' (λ a τ w''. run_steps (go a) (by_draws E l) T s b body k' τ w''))
      inner (gives a τ) x w' ih = subst (λ c. Twin l T s c (run_steps (go a) E T s b body k τ w') (run_steps (go a) (by_draws E l) T s b body k' τ w')) x.1 (ih a τ w')
      inner (refused why) x w' ih = alike refl
      inner (waiting y) x w' ih = alike refl
      inner stuck x w' ih = alike refl

      paid : (t : Bool) → ActKept s σ (act o s b body σ) → ((a : AnswerTo o) (τ : St) (w' : Rest) → Twin l T s τ.calls (run_steps (go a) E T s b body k τ w') (run_steps (go a) (by_draws E l) T s b body k' τ w')) →
          Twin l T s σ.calls (pay_if t (op_cost o σ) σ w (λ w'. on_act (act o s b body σ) σ w' (λ a τ w''. run_steps (go a) E T s b body k τ w'')))
          (pay_if t (op_cost o σ) σ w (λ w'. on_act (act o s b body σ) σ w' (λ a τ w''. run_steps (go a) (by_draws E l) T s b body k' τ w'')))
      paid true x ih = alike refl
      paid false x ih = inner (act o s b body σ) x _ ih
  steps_twin (ask q go) s b body k k' h σ w = ask_twin q s σ.calls (next_call σ) w _ _ (λ a w'. steps_twin (go a) s b body k k' h (next_call σ) w') (find (sub σ.calls s) T) refl (below (sub σ.calls s) T)

  pub branch_end_twin : (s : Path) → TwinK l T s branch_end branch_end
  branch_end_twin s o τ w = alike refl

  body_end_twin : (s b : Path) → TwinK l T s (body_end E T s b) (body_end (by_draws E l) T s b)
  body_end_twin s b (Normal v) τ w = steps_twin (taking v) s b true _ _ (λ d τ w. alike refl) τ w
  body_end_twin s b Break τ w = steps_twin (taking Undefined) s b true _ _ (λ d τ w. alike refl) τ w
  body_end_twin s b Continue τ w = steps_twin (taking Undefined) s b true _ _ (λ d τ w. alike refl) τ w
  body_end_twin s b (Return v) τ w = steps_twin (taking v) s b true _ _ (λ d τ w. alike refl) τ w
  body_end_twin s b (Throw v) τ w = alike refl

  once_goes_twin : (s b : Path) (body : Bool) (k k' : Outcome → St → Rest → Res) → TwinK l T s k k' → TwinK l T s (once_goes E T s b body k) (once_goes (by_draws E l) T s b body k')
  once_goes_twin s b body k k' h (ret x) τ w = steps_twin (put_data (data_in x)) s b body _ _ (λ v τ w. h (Normal v) τ w) τ w
  once_goes_twin s b body k k' h (thr v) τ w = h (Throw v) τ w
  once_goes_twin s b body k k' h (bar y) τ w = alike refl

  fork_goes_twin : (s : Path) (k k' : Outcome → St → Rest → Res) → TwinK l T s k k' → TwinK l T s (fork_goes k) (fork_goes k')
  fork_goes_twin s k k' h (ret x) τ w = h (Normal Undefined) τ w
  fork_goes_twin s k k' h (thr v) τ w = h (Throw v) τ w
  fork_goes_twin s k k' h (bar y) τ w = alike refl

  normal_twin : (s : Path) (g g' : Val → St → Rest → Res) (k k' : Outcome → St → Rest → Res) → TwinK l T s g g' → TwinK l T s k k' → TwinK l T s (on_normal g k) (on_normal g' k')
  normal_twin s g g' k k' hg hk (Normal v) τ w = hg v τ w
  normal_twin s g g' k k' hg hk Break τ w = hk Break τ w
  normal_twin s g g' k k' hg hk Continue τ w = hk Continue τ w
  normal_twin s g g' k k' hg hk (Return v) τ w = hk (Return v) τ w
  normal_twin s g g' k k' hg hk (Throw v) τ w = hk (Throw v) τ w

  turns_twin : (s : Path) (turn turn' : (Outcome → St → Rest → Res) → St → Rest → Res) →
      ((k k' : Outcome → St → Rest → Res) → TwinK l T s k k' → (σ : St) (w : Rest) → Twin l T s σ.calls (turn k σ w) (turn' k' σ w)) →
      (N : ℕ) (k k' : Outcome → St → Rest → Res) → TwinK l T s k k' → (σ : St) (w : Rest) → Twin l T s σ.calls (turns N turn k σ w) (turns N turn' k' σ w)
  unfolding turns
  turns_twin s turn turn' h zero k k' hk σ w = alike refl
  turns_twin s turn turn' h (suc n) k k' hk σ w = h _ _ (normal_twin s _ _ k k' (λ v τ w'. turns_twin s turn turn' h n k k' hk τ w') hk) σ w

  pub run_twin : (g : Prog) (N : ℕ) (s b : Path) (body : Bool) (k k' : Outcome → St → Rest → Res) → TwinK l T s k k' →
      (σ : St) (w : Rest) → Twin l T s σ.calls (run g E T N s b body k σ w) (run g (by_draws E l) T N s b body k' σ w)
  unfolding run
  run_twin (Done o) N s b body k k' h σ w = h o σ w
  run_twin (Ask p go) N s b body k k' h σ w = steps_twin (steps_of p) s b body _ _ (λ a τ w'. run_twin (go a) N s b body k k' h τ w') σ w
  run_twin (Then g go) N s b body k k' h σ w = run_twin g N s b body _ _ (normal_twin s _ _ k k' (λ v τ w'. run_twin (go v) N s b body k k' h τ w') h) σ w
  run_twin (Always g go) N s b body k k' h σ w = run_twin g N s b body _ _ (λ o τ w'. run_twin (go o) N s b body k k' h τ w') σ w
  run_twin (Once g) N s b body k k' h σ w = inner (find (sub σ.calls s) T)
      (run_twin g N (sub σ.calls s) b true _ _ (body_end_twin (sub σ.calls s) b) (enter (once_call b (next_call σ))) w) (once_goes_twin s b body k k' h)
    where
      inner : (o : Option Rec) → Twin l T (sub σ.calls s) 0 (run g E T N (sub σ.calls s) b true (body_end E T (sub σ.calls s) b) (enter (once_call b (next_call σ))) w) (run g (by_draws E l) T N (sub σ.calls s) b true (body_end (by_draws E l) T (sub σ.calls s) b) (enter (once_call b (next_call σ))) w) →
          TwinK l T s (once_goes E T s b body k) (once_goes (by_draws E l) T s b body k') →
          Twin l T s σ.calls (on_once o (once_call b (next_call σ)) w (once_goes E T s b body k) (run g E T N (sub σ.calls s) b true (body_end E T (sub σ.calls s) b) (enter (once_call b (next_call σ))) w) (sub σ.calls s))
          (on_once o (once_call b (next_call σ)) w (once_goes (by_draws E l) T s b body k') (run g (by_draws E l) T N (sub σ.calls s) b true (body_end (by_draws E l) T (sub σ.calls s) b) (enter (once_call b (next_call σ))) w) (sub σ.calls s))
      inner (Some (rec q (kept.Once d))) r ih = twin_skip (ih (ret (datum d)) (once_call b (next_call σ)) w)
      inner (Some (rec q (kept.Post t))) r ih = alike refl
      inner (Some (rec q (kept.Reply t x))) r ih = alike refl
      inner (Some (rec q (kept.Draw m n))) r ih = alike refl
      inner None r ih = body_twin l T s σ.calls (once_call b (next_call σ)) refl _ _ ih _ _
          (λ q m. up ((run_within g E T N (sub σ.calls s) b true _ (body_end_within E T (sub σ.calls s) b) (enter (once_call b (next_call σ))) w).made m).0.2) r
  run_twin (Fork g) N s b true k k' h σ w = alike refl
  run_twin (Fork g) N s b false k k' h σ w = inner (find (sub σ.calls s) T)
      (run_twin g N (sub σ.calls s) (sub σ.calls s) false _ _ (branch_end_twin (sub σ.calls s)) (enter (next_call σ)) (forked w)) (fork_goes_twin s k k' h)
    where
      inner : (o : Option Rec) → Twin l T (sub σ.calls s) 0 (run g E T N (sub σ.calls s) (sub σ.calls s) false branch_end (enter (next_call σ)) (forked w)) (run g (by_draws E l) T N (sub σ.calls s) (sub σ.calls s) false branch_end (enter (next_call σ)) (forked w)) →
          TwinK l T s (fork_goes k) (fork_goes k') →
          Twin l T s σ.calls (on_fork o (next_call σ) (forked w) (fork_goes k) (run g E T N (sub σ.calls s) (sub σ.calls s) false branch_end (enter (next_call σ)) (forked w)) (sub σ.calls s))
          (on_fork o (next_call σ) (forked w) (fork_goes k') (run g (by_draws E l) T N (sub σ.calls s) (sub σ.calls s) false branch_end (enter (next_call σ)) (forked w)) (sub σ.calls s))
      inner (Some (rec q x)) r ih = alike refl
      inner None r ih = branch_twin l T s σ.calls (next_call σ) refl _ _ ih _ _
          (λ q m. up ((run_within g E T N (sub σ.calls s) (sub σ.calls s) false _ (branch_end_within E (sub σ.calls s)) (enter (next_call σ)) (forked w)).made m).0.2) r
  run_twin (Loop g) N s b body k k' h σ w = turns_twin s _ _ (λ k k' hk τ w'. run_twin g N s b body k k' hk τ w') N k k' h σ w

-- ---- the laws

top_twin : (S : Prog) (E : World) (T : List Rec) (n : ℕ) (l : List Rec) →
    Twin l T root 0 (run S E T (suc n) root root false branch_end start (fuel n)) (run S (by_draws E l) T (suc n) root root false branch_end start (fuel n))
top_twin S E T n l = run_twin E l T S (suc n) root root false branch_end branch_end (branch_end_twin E l T root) start (fuel n)

-- the list tells the draw, where it is the trace and the records up to the draw
told : (T m a : List Rec) (p : Path) (k x : ℤ) → find p T ≡ None → ((r : Rec) → In Rec r m → path_of r ≡ p → ⊥) → drawn_of k (find p (T ++ (m ++ (rec p (kept.Draw k x) ∷ a)))) ≡ Some x
told T m a p k x e n = drawn_same k x p _ (find_made p T m (kept.Draw k x) a e n)

pub recorded_draws : RecordedDraws
recorded_draws S E T n = inner (top_twin S E T n (T ++ (eval S E T n).made))
  where
    inner : Twin (T ++ (eval S E T n).made) T root 0 (run S E T (suc n) root root false branch_end start (fuel n)) (run S (by_draws E (T ++ (eval S E T n).made)) T (suc n) root root false branch_end start (fuel n)) →
        eval S (by_draws E (T ++ (eval S E T n).made)) T n ≡ eval S E T n
    inner (alike z) = ap (λ r. close r) (sym z)
    inner (apart a) = absurd (by a.goes)
      where
        by : PartsBy (T ++ (eval S E T n).made) a.before a.path a.bound (run S E T (suc n) root root false branch_end start (fuel n)) → ⊥
        by (inl (x, f, d)) = d (ap (λ m. drawn_of a.bound (find a.path (T ++ m))) (f.is ∙ assoc a.before (rec a.path (kept.Draw a.bound x) ∷ []) f.rest) ∙ told T a.before f.rest a.path a.bound x a.none a.new)
        by (inr (o, z, d)) = d (ap (λ m. drawn_of a.bound (find a.path (T ++ m))) z ∙ ap (λ o. drawn_of a.bound o) (find_over a.path T a.before a.none ∙ find_new a.path a.before a.new))

-- ---- stops

abbrev bound_or : ℤ → Rec → ℤ
bound_or d (rec p (kept.Post t)) = d
bound_or d (rec p (kept.Reply t x)) = d
bound_or d (rec p (kept.Draw m k)) = m
bound_or d (rec p (kept.Once y)) = d

abbrev value_or : ℤ → Record → ℤ
value_or d (kept.Post t) = d
value_or d (kept.Reply t x) = d
value_or d (kept.Draw m k) = k
value_or d (kept.Once y) = d

-- a draw that a run made with the draws of a list is told by the list
born_draw : (E : World) (l : List Rec) (p : Path) (k x : ℤ) (y : Record) → Born (by_draws E l) p y → y ≡ kept.Draw k x → drawn_of k (find p l) ≡ Some x
unfolding fresh
born_draw E l p k x _ (asked (posts t) j f e) z = absurd (no z)
  where
    no : f.what ≡ kept.Draw k x → ⊥
    no z = other (ap (λ f. f.what) (some_is e) ∙ z)
      where
        other : kept.Post t ≡ kept.Draw k x → ⊥
        other e = cc
born_draw E l p k x _ (asked (replies t) j f e) z = inner (answer E.pairs t) e
  where
    inner : (o : Option Units) → fresh_reply t o ≡ Some f → drawn_of k (find p l) ≡ Some x
    inner None e = absurd (none_some e)
    inner (Some y) e = absurd (other (ap (λ f. f.what) (some_is e) ∙ z))
      where
        other : kept.Reply t y ≡ kept.Draw k x → ⊥
        other e = cc
born_draw E l p k x _ (asked (draws m) j f e) z = inner (drawn_of m (find p l)) refl e
  where
    inner : (o : Option ℤ) → drawn_of m (find p l) ≡ o → fresh_draw m o ≡ Some f → drawn_of k (find p l) ≡ Some x
    inner None h e = absurd (none_some e)
    inner (Some y) h e = let q = ap (λ f. f.what) (some_is e) ∙ z in
        subst (λ m. drawn_of m (find p l) ≡ Some x) (ap (λ r. bound_or m (rec p r)) q) (h ∙ ap (λ r. Some (value_or y r)) q)
born_draw E l p k x _ (done d) z = absurd (other z)
  where
    other : kept.Once d ≡ kept.Draw k x → ⊥
    other e = cc

pub closed_undrawn : (g : Bool) (o : Out) → o ≡ halted undrawn → closed g o ≡ halted undrawn
closed_undrawn true o e = rw e refl
closed_undrawn false o e = rw e refl

-- The list is the trace and a front of what the first run made, so they part at no record of that front.
module _ (S : Prog) (E : World) (T : List Rec) (n : ℕ) (P1 y : List Rec) (is : (eval S E T n).made ≡ P1 ++ y) where
  -- where they parted the front had ended, and the first run had made all of the rest, or made a draw next
  abbrev Past : List Rec → Path → ℤ → List Rec → Type 0
  Past m p k y = (c : List Rec) × (m ≡ P1 ++ c) × ((y ≡ c) ⊎ ((x : ℤ) × (z : List Rec) × (y ≡ c ++ (rec p (kept.Draw k x) ∷ z))))

  past : (a : Parted (T ++ P1) T root 0 (run S E T (suc n) root root false branch_end start (fuel n)) (run S (by_draws E (T ++ P1)) T (suc n) root root false branch_end start (fuel n))) → Past a.before a.path a.bound y
  past a = by a.goes
    where
      drew_it : (x : ℤ) → (drawn_of a.bound (find a.path (T ++ P1)) ≡ Some x → ⊥) → (z : List Rec) → Meets P1 a.before y (rec a.path (kept.Draw a.bound x) ∷ z) → Past a.before a.path a.bound y
      drew_it x d z (inl (c, h, k)) = (c, h, inr (x, z, k))
      drew_it x d z (inr (q, c, h, k)) = absurd (d (ap (λ m. drawn_of a.bound (find a.path (T ++ m))) (h ∙ ap (λ q. a.before ++ (q ∷ c)) (sym (same_head k))) ∙ told T a.before c a.path a.bound x a.none a.new))

      none : Meets P1 a.before y [] → Past a.before a.path a.bound y
      none (inl (c, h, k)) = (c, h, inl (k ∙ sym (nothing_more c)))
      none (inr (q, c, h, k)) = absurd (not_nil k)

      by : PartsBy (T ++ P1) a.before a.path a.bound (run S E T (suc n) root root false branch_end start (fuel n)) → Past a.before a.path a.bound y
      by (inl (x, f, d)) = drew_it x d f.rest (meet P1 a.before y (rec a.path (kept.Draw a.bound x) ∷ f.rest) (sym is ∙ f.is ∙ assoc a.before (rec a.path (kept.Draw a.bound x) ∷ []) f.rest))
      by (inr (o, z, d)) = none (meet P1 a.before y [] (sym is ∙ z ∙ nothing_more a.before))

  begins : Front P1 (eval S (by_draws E (T ++ P1)) T n).made
  begins = inner (top_twin S E T n (T ++ P1))
    where
      inner : Twin (T ++ P1) T root 0 (run S E T (suc n) root root false branch_end start (fuel n)) (run S (by_draws E (T ++ P1)) T (suc n) root root false branch_end start (fuel n)) → Front P1 (eval S (by_draws E (T ++ P1)) T n).made
      inner (alike z) = front y (ap (λ r. r.made) (sym z) ∙ is)
      inner (apart a) = let c = past a in front_trans (front c.0 c.1) a.second

  next : (p : Path) (x : Record) (z : List Rec) → no_draw x → y ≡ rec p x ∷ z → Front (P1 ++ (rec p x ∷ [])) (eval S (by_draws E (T ++ P1)) T n).made
  next p x z nd ey = inner (top_twin S E T n (T ++ P1))
    where
      ends : (m : List Rec) (q : Path) (j : ℤ) → Past m q j y → Front (P1 ++ (rec p x ∷ [])) m
      ends m q j (c, h, inl k) = front z (h ∙ ap (λ c. P1 ++ c) (sym k ∙ ey) ∙ sym (assoc P1 (rec p x ∷ []) z))
      ends m q j ([], h, inr (i, l, k)) = absurd (subst no_draw (what (sym ey ∙ k)) nd)
        where
          what : rec p x ∷ z ≡ rec q (kept.Draw j i) ∷ l → x ≡ kept.Draw j i
          what e = ap (λ r. elim r [ rec p x ↦ x ]) (same_head e)
      ends m q j (r ∷ c, h, inr (i, l, k)) = front c (h ∙ ap (λ r. P1 ++ (r ∷ c)) (sym (same_head (sym ey ∙ k))) ∙ sym (assoc P1 (rec p x ∷ []) c))

      inner : Twin (T ++ P1) T root 0 (run S E T (suc n) root root false branch_end start (fuel n)) (run S (by_draws E (T ++ P1)) T (suc n) root root false branch_end start (fuel n)) → Front (P1 ++ (rec p x ∷ [])) (eval S (by_draws E (T ++ P1)) T n).made
      inner (alike w) = front z (ap (λ r. r.made) (sym w) ∙ is ∙ ap (λ y. P1 ++ y) ey ∙ sym (assoc P1 (rec p x ∷ []) z))
      inner (apart a) = front_trans (ends a.before a.path a.bound (past a)) a.second

  -- the next record is a draw at a path where the trace that is left has nothing
  module _ (p : Path) (k x : ℤ) (z : List Rec) (ey : y ≡ rec p (kept.Draw k x) ∷ z) (none : find p (T ++ P1) ≡ None) where
    -- the second run doesn't make it
    unmade : (r : List Rec) → Front (P1 ++ (rec p (kept.Draw k x) ∷ r)) (run S (by_draws E (T ++ P1)) T (suc n) root root false branch_end start (fuel n)).made → ⊥
    unmade r f = none_some (sym (ap (λ o. drawn_of k o) none) ∙ born_draw E (T ++ P1) p k x (kept.Draw k x)
        ((run_within S (by_draws E (T ++ P1)) T (suc n) root root false branch_end (branch_end_within (by_draws E (T ++ P1)) root) start (fuel n)).made
        (subst (λ l. In Rec (rec p (kept.Draw k x)) l) (sym f.is) (in_left (P1 ++ (rec p (kept.Draw k x) ∷ r)) f.rest (in_right P1 (rec p (kept.Draw k x) ∷ r) first)))).1 refl)

    stops_there : ((eval S (by_draws E (T ++ P1)) T n).out ≡ halted undrawn) × ((eval S (by_draws E (T ++ P1)) T n).made ≡ P1)
    stops_there = inner (top_twin S E T n (T ++ P1))
      where
        here : (q : Path) (j i : ℤ) (l : List Rec) → rec p (kept.Draw k x) ∷ z ≡ rec q (kept.Draw j i) ∷ l → (q ≡ p) × (j ≡ k)
        here q j i l e = (sym (ap path_of (same_head e)), sym (ap (λ r. bound_or k r) (same_head e)))

        at_once : (a : Parted (T ++ P1) T root 0 (run S E T (suc n) root root false branch_end start (fuel n)) (run S (by_draws E (T ++ P1)) T (suc n) root root false branch_end start (fuel n))) →
            a.before ≡ P1 ++ [] → (a.path ≡ p) × (a.bound ≡ k) → ((eval S (by_draws E (T ++ P1)) T n).out ≡ halted undrawn) × ((eval S (by_draws E (T ++ P1)) T n).made ≡ P1)
        at_once a h (q, j) = let b = a.stays (ap (λ q. drawn_of a.bound (find q (T ++ P1))) q ∙ ap (λ o. drawn_of a.bound o) none) in (closed_undrawn _ _ b.0, b.1 ∙ h ∙ sym (nothing_more P1))

        parts : (a : Parted (T ++ P1) T root 0 (run S E T (suc n) root root false branch_end start (fuel n)) (run S (by_draws E (T ++ P1)) T (suc n) root root false branch_end start (fuel n))) →
            Past a.before a.path a.bound y → ((eval S (by_draws E (T ++ P1)) T n).out ≡ halted undrawn) × ((eval S (by_draws E (T ++ P1)) T n).made ≡ P1)
        parts a (c, h, inl j) = absurd (unmade z (front_trans (front [] (h ∙ ap (λ c. P1 ++ c) (sym j ∙ ey) ∙ nothing_more _)) a.second))
        parts a ([], h, inr (i, l, j)) = at_once a h (here a.path a.bound i l (sym ey ∙ j))
        parts a (r ∷ c, h, inr (i, l, j)) = absurd (unmade c (front_trans (front [] (h ∙ ap (λ r. P1 ++ (r ∷ c)) (sym (same_head (sym ey ∙ j))) ∙ nothing_more _)) a.second))

        inner : Twin (T ++ P1) T root 0 (run S E T (suc n) root root false branch_end start (fuel n)) (run S (by_draws E (T ++ P1)) T (suc n) root root false branch_end start (fuel n)) →
            ((eval S (by_draws E (T ++ P1)) T n).out ≡ halted undrawn) × ((eval S (by_draws E (T ++ P1)) T n).made ≡ P1)
        inner (alike w) = absurd (unmade z (front [] (ap (λ r. r.made) (sym w) ∙ is ∙ ap (λ y. P1 ++ y) ey ∙ nothing_more _)))
        inner (apart a) = parts a (past a)

-- Where the next record is a draw, at a path where the trace that is left has nothing.
pub undrawn_next : (S : Prog) (E : World) (T : List Rec) (n : ℕ) (P1 : List Rec) (p : Path) (k x : ℤ) → find p (T ++ P1) ≡ None → Front (P1 ++ (rec p (kept.Draw k x) ∷ [])) (eval S E T n).made →
    ((eval S (by_draws E (T ++ P1)) T n).out ≡ halted undrawn) × ((eval S (by_draws E (T ++ P1)) T n).made ≡ P1)
undrawn_next S E T n P1 p k x none f = stops_there S E T n P1 (rec p (kept.Draw k x) ∷ f.rest) (f.is ∙ assoc P1 (rec p (kept.Draw k x) ∷ []) f.rest) p k x f.rest refl none

pub stops_begin : StopsBegin
stops_begin S E T n P1 f = begins S E T n P1 f.rest f.is

pub stops_next : StopsNext
stops_next S E T n P1 p x nd f = next S E T n P1 (rec p x ∷ f.rest) (f.is ∙ assoc P1 (rec p x ∷ []) f.rest) p x f.rest nd refl

pub stops_grow : StopsGrow
stops_grow S E T n P1 g f added = let h = stops_begin S E T n P1 f in grew added g (P1, h.rest, refl, h.is)
