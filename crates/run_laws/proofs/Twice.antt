-- Two strict plain runs over worlds that agree where both answer: where both end, they end alike.
use Rattle.std.specs.Prelude.{ℤ, List, Bool, true, false, Option, Some, None}
use Rattle.std.proofs.Common.{◌≡◌, ℕ, suc, zero, refl, ap, sym, ◌∙◌, subst, [], ◌∷◌}
use Rattle.turk_base.specs.declared.Record.TheVariants as kept
use Rattle.turk_base.specs.Asks.{AnsOf, posts, replies, draws, Question, Rec, rec, answer, find}
use Rattle.turk_base.specs.Names.{Path, root, sub, Units}
use Rattle.turk_base.specs.Prog.{Prog, Done, Ask, Then, Always, Once, Fork, Loop}
use Rattle.turk_base.specs.Start.{start}
use Rattle.turk_base.specs.State.{St, AnswerTo, Act, gives, refused, waiting, stuck, act, Verdict, independent, touched_open, once_while_open, branch_threw, once_call, next_call, enter, leave, give_value, cut_all, op_cost}
use Rattle.turk_base.specs.Steps.{Small, give, refuse, lost, step, ask, taking, put_data, steps_of}
use Rattle.turk_base.specs.Values.{Val, Undefined, Outcome, Normal, Break, Continue, Return, Throw, ForkInOnce}
use Rattle.js_tree.specs.Eval.{eval, world}
use Rattle.js_tree.specs.Run.{valued, datum, value_in, data_in, End, ret, thr, bar}
use Rattle.js_tree.specs.World.{World, Fresh, fresh, drawn_of, fresh_reply, fresh_draw}
use Rattle.run_laws.proofs.Order.{strictly, last_exact, some_end}
use Rattle.run_laws.proofs.Props.{none_some}
use Rattle.run_laws.specs.Claim.{TwoHistories, AgreeReplies, AgreeDraws}
use Rattle.run_laws.specs.Strict.{Entry, Strict, note, strict, strict_act, strict_ask, plain_steps, strict_branch_end, strict_body_end, strict_once, strict_once_goes, strict_fork, strict_fork_goes, strict_normal, strict_turns, plain}

-- Where both end, the same end and the same state.
pub record Twin (r r' : Strict) : Type 0 where
  pub holds : (x x' : End) → r.out ≡ Some x → r'.out ≡ Some x' → (x ≡ x') × (r.st ≡ r'.st)

t_left : {r r' : Strict} → r.out ≡ None → Twin r r'
t_left h = record { holds = λ x x' e e'. absurd (none_some (sym h ∙ e)) }

t_right : {r r' : Strict} → r'.out ≡ None → Twin r r'
t_right h = record { holds = λ x x' e e'. absurd (none_some (sym h ∙ e')) }

t_end : {r r' : Strict} (y : End) → r.out ≡ Some y → r'.out ≡ Some y → r.st ≡ r'.st → Twin r r'
t_end y h k q = record { holds = λ x x' e e'. (some_end (sym e ∙ h ∙ sym k ∙ e'), q) }

t_note : {r r' : Strict} (l m : List Entry) (l' m' : List Rec) (i j : ℕ) → Twin r r' → Twin (note l l' i r) (note m m' j r')
t_note l m l' m' i j k = record { holds = k.holds }

t_strict : (body : Bool) (v : Verdict) (τ τ' : St) (r r' : Strict) → Twin r r' → Twin (strict body v τ r) (strict body v τ' r')
t_strict true v τ τ' r r' k = k
t_strict false independent τ τ' r r' k = k
t_strict false (touched_open x) τ τ' r r' k = t_left refl
t_strict false (once_while_open x) τ τ' r r' k = t_left refl
t_strict false (branch_threw x) τ τ' r r' k = t_left refl

abbrev pub TwinK : {A : Type 0} → (A → St → Strict) → (A → St → Strict) → Type 0
TwinK {A} k k' = (a : A) (τ : St) → Twin (k a τ) (k' a τ)

-- Two worlds agree wherever both answer.
abbrev pub AgreeWorlds : World → World → Type 0
AgreeWorlds E E' = (q : Question) (p : Path) (f f' : Fresh q) → fresh q E 0 p ≡ Some f → fresh q E' 0 p ≡ Some f' → f ≡ f'

some_fresh : {A : Type 0} {x y : A} → Some x ≡ Some y → x ≡ y
some_fresh {x = x} e = ap (λ o. elim o [ None ↦ x | Some z ↦ z ]) e

worlds_agree : (name : Units) (R R' : List (Units × Units)) (l l' : List Rec) → AgreeReplies R R' → AgreeDraws l l' → AgreeWorlds (world name R l) (world name R' l')
unfolding fresh
worlds_agree name R R' l l' a d (posts t) p f f' e e' = some_fresh (sym e ∙ e')
worlds_agree name R R' l l' a d (replies t) p f f' e e' = inner (answer R t) refl (answer R' t) refl e e'
  where
    inner : (o : Option Units) → answer R t ≡ o → (o' : Option Units) → answer R' t ≡ o' → fresh_reply t o ≡ Some f → fresh_reply t o' ≡ Some f' → f ≡ f'
    inner None z o' z' e e' = absurd (none_some e)
    inner (Some x) z None z' e e' = absurd (none_some e')
    inner (Some x) z (Some x') z' e e' = sym (some_fresh e) ∙ ap (λ y. record { answer = y; what = kept.Reply t y }) (a t x x' z z') ∙ some_fresh e'
worlds_agree name R R' l l' a d (draws m) p f f' e e' = inner (drawn_of m (find p l)) refl (drawn_of m (find p l')) refl e e'
  where
    inner : (o : Option ℤ) → drawn_of m (find p l) ≡ o → (o' : Option ℤ) → drawn_of m (find p l') ≡ o' → fresh_draw m o ≡ Some f → fresh_draw m o' ≡ Some f' → f ≡ f'
    inner None z o' z' e e' = absurd (none_some e)
    inner (Some x) z None z' e e' = absurd (none_some e')
    inner (Some x) z (Some x') z' e e' = sym (some_fresh e) ∙ ap (λ y. record { answer = y; what = kept.Draw m y }) (d p m x x' z z') ∙ some_fresh e'

module _ (E E' : World) (agree : AgreeWorlds E E') where
  t_steps : {A : Type 0} (g : Small A) (s b : Path) (body : Bool) (k k' : A → St → Strict) → TwinK k k' → (φ : St) → Twin (plain_steps g E s b body k φ) (plain_steps g E' s b body k' φ)
  unfolding plain_steps
  t_steps (give a) s b body k k' h φ = h a φ
  t_steps (refuse why) s b body k k' h φ = t_end (bar why) refl refl refl
  t_steps lost s b body k k' h φ = t_left refl
  t_steps (step o go) s b body k k' h φ = inner (act o s b body φ) (λ a τ. t_steps (go a) s b body k k' h τ)
    where
      inner : (X : Act (AnswerTo o)) → ((a : AnswerTo o) (τ : St) → Twin (plain_steps (go a) E s b body k τ) (plain_steps (go a) E' s b body k' τ)) →
          Twin (strict_act X (op_cost o φ) body φ (λ a τ. plain_steps (go a) E s b body k τ)) (strict_act X (op_cost o φ) body φ (λ a τ. plain_steps (go a) E' s b body k' τ))
      inner (gives a τ) ih = t_strict body τ.verdict τ τ _ _ (t_note [] [] [] [] (op_cost o φ) (op_cost o φ) (ih a τ))
      inner (refused why) ih = t_end (bar why) refl refl refl
      inner (waiting x) ih = t_left refl
      inner stuck ih = t_left refl
  t_steps (ask q go) s b body k k' h φ = inner (fresh q E 0 (sub φ.calls s)) refl (fresh q E' 0 (sub φ.calls s)) refl (λ a. t_steps (go a) s b body k k' h (next_call φ))
    where
      inner : (n : Option (Fresh q)) → fresh q E 0 (sub φ.calls s) ≡ n → (n' : Option (Fresh q)) → fresh q E' 0 (sub φ.calls s) ≡ n' →
          ((a : AnsOf q) → Twin (plain_steps (go a) E s b body k (next_call φ)) (plain_steps (go a) E' s b body k' (next_call φ))) →
          Twin (strict_ask n (sub φ.calls s) φ (λ a. plain_steps (go a) E s b body k (next_call φ))) (strict_ask n' (sub φ.calls s) φ (λ a. plain_steps (go a) E' s b body k' (next_call φ)))
      inner None e n' e' ih = t_left refl
      inner (Some f) e None e' ih = t_right refl
      inner (Some f) e (Some f') e' ih = t_note [] [] (rec (sub φ.calls s) f.what ∷ []) (rec (sub φ.calls s) f'.what ∷ []) 0 0 (subst (λ z. Twin (plain_steps (go f.answer) E s b body k (next_call φ)) (plain_steps (go z.answer) E' s b body k' (next_call φ))) (agree q (sub φ.calls s) f f' e e') (ih f.answer))

  t_branch_end : TwinK strict_branch_end strict_branch_end
  t_branch_end (Normal v) τ = t_end _ refl refl refl
  t_branch_end Break τ = t_end _ refl refl refl
  t_branch_end Continue τ = t_end _ refl refl refl
  t_branch_end (Return v) τ = t_end _ refl refl refl
  t_branch_end (Throw v) τ = t_end _ refl refl refl

  t_body_end : (s b : Path) → TwinK (strict_body_end E s b) (strict_body_end E' s b)
  t_body_end s b (Normal v) τ = t_steps (taking v) s b true _ _ (λ d τ. t_end _ refl refl refl) τ
  t_body_end s b Break τ = t_steps (taking Undefined) s b true _ _ (λ d τ. t_end _ refl refl refl) τ
  t_body_end s b Continue τ = t_steps (taking Undefined) s b true _ _ (λ d τ. t_end _ refl refl refl) τ
  t_body_end s b (Return v) τ = t_steps (taking v) s b true _ _ (λ d τ. t_end _ refl refl refl) τ
  t_body_end s b (Throw v) τ = t_end _ refl refl refl

  t_once_goes : (s b : Path) (body : Bool) (k k' : Outcome → St → Strict) → TwinK k k' → TwinK (strict_once_goes E s b body k) (strict_once_goes E' s b body k')
  t_once_goes s b body k k' h (ret x) τ = t_steps (put_data (data_in x)) s b body _ _ (λ v τ. h (Normal v) τ) τ
  t_once_goes s b body k k' h (thr v) τ = h (Throw v) τ
  t_once_goes s b body k k' h (bar y) τ = t_end _ refl refl refl

  t_fork_goes : (k k' : Outcome → St → Strict) → TwinK k k' → TwinK (strict_fork_goes k) (strict_fork_goes k')
  t_fork_goes k k' h (ret x) τ = h (Normal Undefined) τ
  t_fork_goes k k' h (thr v) τ = h (Throw v) τ
  t_fork_goes k k' h (bar y) τ = t_end _ refl refl refl

  t_normal : (g g' : Val → St → Strict) (k k' : Outcome → St → Strict) → TwinK g g' → TwinK k k' → TwinK (strict_normal g k) (strict_normal g' k')
  t_normal g g' k k' hg hk (Normal v) τ = hg v τ
  t_normal g g' k k' hg hk Break τ = hk Break τ
  t_normal g g' k k' hg hk Continue τ = hk Continue τ
  t_normal g g' k k' hg hk (Return v) τ = hk (Return v) τ
  t_normal g g' k k' hg hk (Throw v) τ = hk (Throw v) τ

  -- the continuation is at the same state on both sides
  t_go : (k k' : End → St → Strict) → TwinK k k' → (e : End) (τ τ' : St) → τ ≡ τ' → Twin (k e τ) (k' e τ')
  t_go k k' h e τ τ' q = subst (λ y. Twin (k e τ) (k' e y)) q (h e τ)

  t_once : (p : Path) (body : Bool) (σ : St) (k k' : End → St → Strict) → TwinK k k' → (r r' : Strict) → Twin r r' → (o o' : Option End) → r.out ≡ o → r'.out ≡ o' →
      Twin (strict_once o r p body σ k) (strict_once o' r' p body σ k')
  t_once p body σ k k' h r r' w None o' e e' = t_left refl
  t_once p body σ k k' h r r' w (Some x) None e e' = t_right refl
  t_once p body σ k k' h r r' w (Some x) (Some x') e e' = inner x x' e (w.holds x x' e e').0 (w.holds x x' e e').1
    where
      one : (x : End) → r.st ≡ r'.st → Twin (strict_once (Some x) r p body σ k) (strict_once (Some x) r' p body σ k')
      one (ret y) q = t_note _ _ _ _ _ _ (h (ret (datum (data_in y))) σ)
      one (thr v) q = t_note _ _ _ _ _ _ (moved r.st r'.st q)
        where
          moved : (τ τ' : St) → τ ≡ τ' → Twin (strict body τ.verdict τ (k (thr v) (leave σ τ))) (strict body τ'.verdict τ' (k' (thr v) (leave σ τ')))
          moved τ τ' q = subst (λ y. Twin (strict body τ.verdict τ (k (thr v) (leave σ τ))) (strict body y.verdict y (k' (thr v) (leave σ y)))) q (t_strict body τ.verdict τ τ _ _ (h (thr v) (leave σ τ)))
      one (bar y) q = t_end (bar y) refl refl q

      inner : (x x' : End) → r.out ≡ Some x → x ≡ x' → r.st ≡ r'.st → Twin (strict_once (Some x) r p body σ k) (strict_once (Some x') r' p body σ k')
      inner x x' e z q = subst (λ y. Twin (strict_once (Some x) r p body σ k) (strict_once (Some y) r' p body σ k')) z (one x q)

  t_fork : (p : Path) (σ : St) (k k' : End → St → Strict) → TwinK k k' → (r r' : Strict) → Twin r r' → (o o' : Option End) → r.out ≡ o → r'.out ≡ o' →
      Twin (strict_fork o r p σ k) (strict_fork o' r' p σ k')
  t_fork p σ k k' h r r' w None o' e e' = t_left e
  t_fork p σ k k' h r r' w (Some x) None e e' = t_right e'
  t_fork p σ k k' h r r' w (Some x) (Some x') e e' = subst (λ y. r'.out ≡ Some y → Twin (strict_fork (Some x) r p σ k) (strict_fork (Some y) r' p σ k')) (w.holds x x' e e').0 (λ z. one x e z (w.holds x x' e e').1) e'
    where
      one : (x : End) → r.out ≡ Some x → r'.out ≡ Some x → r.st ≡ r'.st → Twin (strict_fork (Some x) r p σ k) (strict_fork (Some x) r' p σ k')
      one (ret y) e e' q = t_note _ _ _ _ _ _ (t_go k k' h (ret (valued Undefined)) _ _ (ap (λ τ. give_value (value_in y) (leave σ (cut_all p τ))) q))
      one (thr v) e e' q = t_left refl
      one (bar y) e e' q = t_end (bar y) e e' q

  t_turns : (g g' : (Outcome → St → Strict) → St → Strict) → ((k k' : Outcome → St → Strict) → TwinK k k' → (φ : St) → Twin (g k φ) (g' k' φ)) →
      (N N' : ℕ) (k k' : Outcome → St → Strict) → TwinK k k' → (φ : St) → Twin (strict_turns N g k φ) (strict_turns N' g' k' φ)
  unfolding strict_turns
  t_turns g g' h zero N' k k' c φ = t_left refl
  t_turns g g' h (suc n) zero k k' c φ = t_right refl
  t_turns g g' h (suc n) (suc m) k k' c φ = h _ _ (t_normal _ _ k k' (λ v τ. t_turns g g' h n m k k' c τ) c) φ

  pub twice : (N N' : ℕ) (g : Prog) (s b : Path) (body : Bool) (k k' : Outcome → St → Strict) → TwinK k k' → (φ : St) → Twin (plain g E N s b body k φ) (plain g E' N' s b body k' φ)
  unfolding plain
  twice N N' (Done o) s b body k k' h φ = h o φ
  twice N N' (Ask p go) s b body k k' h φ = t_steps (steps_of p) s b body _ _ (λ a τ. twice N N' (go a) s b body k k' h τ) φ
  twice N N' (Then g go) s b body k k' h φ = twice N N' g s b body _ _ (t_normal _ _ k k' (λ v τ. twice N N' (go v) s b body k k' h τ) h) φ
  twice N N' (Always g go) s b body k k' h φ = twice N N' g s b body _ _ (λ o τ. twice N N' (go o) s b body k k' h τ) φ
  twice N N' (Once g) s b body k k' h φ = t_strict body _ _ _ _ _ (t_once (sub φ.calls s) body (once_call b (next_call φ)) _ _ (t_once_goes s b body k k' h) _ _
      (twice N N' g (sub φ.calls s) b true _ _ (t_body_end (sub φ.calls s) b) (enter (once_call b (next_call φ)))) _ _ refl refl)
  twice N N' (Fork g) s b true k k' h φ = t_end (bar ForkInOnce) refl refl refl
  twice N N' (Fork g) s b false k k' h φ = t_fork (sub φ.calls s) (next_call φ) _ _ (t_fork_goes k k' h) _ _
      (twice N N' g (sub φ.calls s) (sub φ.calls s) false _ _ t_branch_end (enter (next_call φ))) _ _ refl refl
  twice N N' (Loop g) s b body k k' h φ = t_turns _ _ (λ k k' c τ. twice N N' g s b body k k' c τ) N N' k k' h φ

pub two_histories : TwoHistories
two_histories name S n n' T T' R R' T2 T2' e e' w w' ar ad = finish (last_exact name S n T R w.grown T2 w.leaves e w.ends w.clean) (last_exact name S n' T' R' w'.grown T2' w'.leaves e' w'.ends w'.clean)
  where
    finish : ((strictly name S n R T2).out ≡ Some e) × ((strictly name S n R T2).st ≡ (eval S (world name R T2) T n).st) →
        ((strictly name S n' R' T2').out ≡ Some e') × ((strictly name S n' R' T2').st ≡ (eval S (world name R' T2') T' n').st) →
        (e ≡ e') × ((eval S (world name R T2) T n).st.text ≡ (eval S (world name R' T2') T' n').st.text)
    finish (a, b) (c, d) = let t = (twice (world name R T2) (world name R' T2') (worlds_agree name R R' T2 T2' ar ad) (suc n) (suc n') S root root false strict_branch_end strict_branch_end (t_branch_end (world name R T2) (world name R' T2') (worlds_agree name R R' T2 T2' ar ad)) start).holds e e' a c in
        (t.0, ap (λ τ. τ.text) (sym b ∙ t.1 ∙ d))
