-- The relation between a run in which branches may be absent and the strict plain run.
use Rattle.std.specs.Prelude.{List, Bool, true, false, Option, Some, None}
use Rattle.std.proofs.Common.{◌≡◌, ◌≤◌, ℕ, suc, refl, ap, ◌⊎◌, inl, inr, [], ◌∷◌, sym, ◌∙◌, subst, true≢false}
use Rattle.turk_base.specs.Cells.{Edit, says, new_props, touches, writes, seen, edit_cost}
use Rattle.turk_base.specs.Names.{Path, sub, Under, In, Part, Name, cell, Slot, slot, home, holder, name_eq, under, pick}
use Rattle.turk_base.specs.State.{St, sees, Opening, opening, write_all, cut, first_props, make_cell, edited, touched, first_open, Op, charge, known_at, make, change, print, join, forks_here, crash, Act, gives, refused, waiting, stuck, act, act_known, act_chained, act_change, act_join, act_forks, any_gone, too_many, independent, once_reason, once_call, op_cost, if_paid, act_make}
use Rattle.turk_base.specs.Values.{Kind, Frame, Plain, Array, Function, BuiltIn, Known}
use Rattle.run_laws.proofs.Edits.{edit_same, says_same, Settled, cost_same}
use Rattle.run_laws.proofs.Lists.{write_other, reason_none, none_touched, cut_keep, untouched, none_open, none_gone}
use Rattle.run_laws.proofs.Paths.{under_trans, comparable, not_below}
use Rattle.run_laws.proofs.Props.{none_some, part_in}

-- the path lies in no absent branch
abbrev pub Off : List Path → Path → Type 0
Off gone p = (a : Path) → In Path a gone → ¬ (Under a p)

-- an absent branch leaves the slot open
abbrev pub LeftOpen : Slot → List Path → List Opening → Type 0
LeftOpen x gone l = (p : Path) × (a : Path) × In Opening (opening x p) l × In Path a gone × Under a p

abbrev pub Alike : Bool → St → St → Slot → Type 0
Alike body σ φ x = (sees σ x ≡ sees φ x) ⊎ ((body ≡ false) × LeftOpen x σ.gone φ.opened)

pub record Rel (s : Path) (body : Bool) (σ φ : St) : Type 0 where
  pub calls : σ.calls ≡ φ.calls
  pub cells : σ.cells ≡ φ.cells
  pub vals : any_gone s σ.gone ≡ false → σ.vals ≡ φ.vals
  pub none : φ.gone ≡ []
  pub known : (n : Name) → Off σ.gone (home n) → σ.known n ≡ φ.known n
  pub lost : (n : Name) (a : Path) → In Path a σ.gone → Under a (home n) → σ.known n ≡ None
  pub val : (x : Slot) → Off σ.gone (home (holder x)) → Alike body σ φ x
  pub fresh : (i : ℕ) (n : Name) → σ.calls ≤ i → Under (sub i s) (home n) → σ.known n ≡ None
  pub apart : (a : Path) → In Path a σ.gone → ¬ (Under a s)
  pub old : (a : Path) (i : ℕ) → In Path a σ.gone → σ.calls ≤ i → ¬ (Under (sub i s) a)

abbrev pub at_call : St → ℕ → St
at_call σ c = record σ { calls = c }

some_is : {A : Type 0} {x y : A} → Some x ≡ Some y → x ≡ y
some_is {x = x} e = ap (λ o. elim o [ None ↦ x | Some z ↦ z ]) e

once_none : (o : Option Slot) → once_reason o ≡ independent → o ≡ None
once_none None e = refl
once_none (Some x) e = absurd (let z : ⊥ = cc in z)

-- A cell that is there lies in no absent branch.
off_there : {s : Path} {body : Bool} {σ φ : St} → Rel s body σ φ → (n : Name) {k : Known} → σ.known n ≡ Some k → Off σ.gone (home n)
off_there r n e a m u = none_some (sym (r.lost n a m u) ∙ e)

-- At a touch without reason the two runs see the same.
settled : {s b : Path} {body : Bool} {σ φ : St} → Under b s → Rel s body σ φ → (x : Slot) → Off σ.gone (home (holder x)) →
    (body ≡ false → touched b x φ.opened ≡ false) → sees σ x ≡ sees φ x
settled {s} {b} {body} {σ} {φ} v r x o t = inner (r.val x o)
  where
    inner : Alike body σ φ x → sees σ x ≡ sees φ x
    inner (inl e) = e
    inner (inr (e, (p, a, m, g, u))) = absurd (r.apart a g (under_trans (under_trans u (untouched b x φ.opened (t e) m)) v))

-- At a once call without reason the two runs agree on each slot.
pub all_settled : {s b : Path} {body body' : Bool} {σ φ : St} → Under b s → Rel s body σ φ →
    (body ≡ false → first_open b φ.opened ≡ None) → (x : Slot) → Off σ.gone (home (holder x)) → Alike body' σ φ x
all_settled {s} {b} {body} {body'} {σ} {φ} v r t x o = inner (r.val x o)
  where
    inner : Alike body σ φ x → Alike body' σ φ x
    inner (inl e) = inl e
    inner (inr (e, (p, a, m, g, u))) = absurd (r.apart a g (under_trans (under_trans u (none_open b φ.opened (t e) m)) v))

pub once_pass : (b : Path) (φ : St) → (once_call b φ).verdict ≡ independent → first_open b φ.opened ≡ None
once_pass b φ e = once_none (first_open b φ.opened) (reason_none φ.verdict _ e)

-- Acts that answer alike; the right run has passed its strict test.
abbrev pub ActRel : {A : Type 0} → Path → Bool → Act A → Act A → Type 0
ActRel s body (gives a τ) (gives a' τ') = (body ≡ false → τ'.verdict ≡ independent) → (a ≡ a') × Rel s body τ τ'
ActRel s body (gives a τ) (refused w) = ⊥
ActRel s body (gives a τ) (waiting x) = ⊥
ActRel s body (gives a τ) stuck = ⊥
ActRel s body (refused w) (gives a τ) = ⊥
ActRel s body (refused w) (refused w') = w ≡ w'
ActRel s body (refused w) (waiting x) = ⊥
ActRel s body (refused w) stuck = ⊥
ActRel s body (waiting x) c = Unit {0}
ActRel s body stuck c = Unit {0}

-- ---- edits

rel_edit : {s b : Path} {body : Bool} {σ φ : St} → Under b s → Rel s body σ φ → (c : Name) (e : Edit) → Off σ.gone (home c) →
    (body ≡ false → (edited b c e φ).verdict ≡ independent) → (says e (σ.props c) ≡ says e (φ.props c)) × Rel s body (edited b c e σ) (edited b c e φ)
rel_edit {s} {b} {body} {σ} {φ} v r c e o t = (
  says_same e (σ.props c) (φ.props c) same,
  record { calls = r.calls; cells = r.cells; vals = r.vals; none = r.none; known = r.known; lost = r.lost; val = λ x h. after x h; fresh = r.fresh; apart = r.apart; old = r.old },
)
  where
    same : Settled e (σ.props c) (φ.props c)
    same y m = settled v r (slot c y) o (λ z. none_touched b c (touches e (φ.props c)) φ.opened φ.verdict (t z) m)

    still : (n : Name) (y : Part) → ((y' : Part) → In Part y' (writes e (φ.props c)) → ¬ (slot n y ≡ slot c y')) → LeftOpen (slot n y) σ.gone φ.opened → (d : Dec (Under b (home c))) →
        LeftOpen (slot n y) σ.gone (pick d φ.opened (write_all b c (writes e (φ.props c)) φ.opened))
    still n y h l (yes u) = l
    still n y h (p, a, m, g, k) (no u) = (p, a, write_other b c (writes e (φ.props c)) φ.opened h m, g, k)

    own : (y : Part) → Alike body σ φ (slot c y) → Dec (In Part y (writes e (φ.props c))) →
        (seen y (new_props e (σ.props c)) ≡ seen y (new_props e (φ.props c))) ⊎ ((body ≡ false) × LeftOpen (slot c y) σ.gone (edited b c e φ).opened)
    own y (inl d) m = inl (edit_same e (σ.props c) (φ.props c) same y (inr d))
    own y (inr d) (yes m) = inl (edit_same e (σ.props c) (φ.props c) same y (inl m))
    own y (inr (z, l)) (no m) = inr (z, still c y (λ y' m' q. m (subst (λ k. In Part k (writes e (φ.props c))) (sym (part_is q)) m')) l (under b (home c)))
      where
        part_is : {n n' : Name} {y y' : Part} → slot n y ≡ slot n' y' → y ≡ y'
        part_is q = cc

    one : (n : Name) (y : Part) → Alike body σ φ (slot n y) → (d : Dec (n ≡ c)) →
        (seen y (pick d (new_props e (σ.props c)) (σ.props n)) ≡ seen y (pick d (new_props e (φ.props c)) (φ.props n))) ⊎ ((body ≡ false) × LeftOpen (slot n y) σ.gone (edited b c e φ).opened)
    one n y a (yes z) = subst (λ k. Alike body σ φ (slot k y) → (seen y (new_props e (σ.props c)) ≡ seen y (new_props e (φ.props c))) ⊎ ((body ≡ false) × LeftOpen (slot k y) σ.gone (edited b c e φ).opened)) (sym z) (λ a'. own y a' (part_in y (writes e (φ.props c)))) a
    one n y (inl d) (no m) = inl d
    one n y (inr (z, l)) (no m) = inr (z, still n y (λ y' m' q. m (name_is q)) l (under b (home c)))
      where
        name_is : {n n' : Name} {y y' : Part} → slot n y ≡ slot n' y' → n ≡ n'
        name_is q = cc

    after : (x : Slot) → Off σ.gone (home (holder x)) → Alike body (edited b c e σ) (edited b c e φ) x
    after (slot n y) h = one n y (r.val (slot n y) h) (name_eq n c)

-- ---- making a cell

rel_make : {s b : Path} {body : Bool} {σ φ : St} → Under b s → Rel s body σ φ → (k : Kind) (l : List Name) → Rel s body (make_cell s k l σ) (make_cell s k l φ)
rel_make {s} {b} {body} {σ} {φ} v r k l = record {
  calls = r.calls;
  cells = ap suc r.cells;
  vals = r.vals;
  none = r.none;
  known = λ n o. rw (r.cells, r.known n o) refl;
  lost = λ n a m u. not_new n (λ e. r.apart a m (rw e at u)) (name_eq n (cell s σ.cells)) (r.lost n a m u);
  val = λ x o. after x o;
  fresh = λ i n h u. not_new n (λ e. not_below (rw e at u)) (name_eq n (cell s σ.cells)) (r.fresh i n h u);
  apart = r.apart;
  old = r.old;
}
  where
    not_new : (n : Name) → (home n ≡ s → ⊥) → (d : Dec (n ≡ cell s σ.cells)) → σ.known n ≡ None → pick d (Some (record { kind = k; chain = l })) (σ.known n) ≡ None
    not_new n h (yes e) z = absurd (h (ap home e))
    not_new n h (no m) z = z

    one : (n : Name) (y : Part) → Alike body σ φ (slot n y) → (d : Dec (n ≡ cell s φ.cells)) →
        (seen y (pick d (first_props k) (σ.props n)) ≡ seen y (pick d (first_props k) (φ.props n))) ⊎ ((body ≡ false) × LeftOpen (slot n y) σ.gone φ.opened)
    one n y a (yes e) = inl refl
    one n y a (no m) = a

    after : (x : Slot) → Off σ.gone (home (holder x)) → Alike body (make_cell s k l σ) (make_cell s k l φ) x
    after (slot n y) o = rw r.cells (one n y (r.val (slot n y) o) (name_eq n (cell s φ.cells)))

rel_text : (t t' : List ℕ) {s : Path} {body : Bool} {σ φ : St} → Rel s body σ φ → Rel s body (record σ { text = t }) (record φ { text = t' })
rel_text t t' {s} {body} {σ} {φ} r = record { calls = r.calls; cells = r.cells; vals = r.vals; none = r.none; known = r.known; lost = r.lost; val = λ x o. after x (r.val x o); fresh = r.fresh; apart = r.apart; old = r.old }
  where
    after : (x : Slot) → Alike body σ φ x → Alike body (record σ { text = t }) (record φ { text = t' }) x
    after (slot n y) a = a

-- Where both give, they cost the same.
abbrev pub CostRel : {A : Type 0} → Bool → Act A → Act A → ℕ → ℕ → Type 0
CostRel body (gives a τ) (gives a' τ') m n = (body ≡ false → τ'.verdict ≡ independent) → m ≡ n
CostRel body (gives a τ) (refused w) m n = Unit {0}
CostRel body (gives a τ) (waiting x) m n = Unit {0}
CostRel body (gives a τ) stuck m n = Unit {0}
CostRel body (refused w) X m n = Unit {0}
CostRel body (waiting x) X m n = Unit {0}
CostRel body stuck X m n = Unit {0}

module _ {s b : Path} {body : Bool} {σ φ : St} (v : Under b s) (r : Rel s body σ φ) where
  made : (k : Kind) (l : List Name) → ActRel s body (gives (cell s σ.cells) (make_cell s k l σ)) (gives (cell s φ.cells) (make_cell s k l φ))
  made k l = λ t. (ap (λ z. cell s z) r.cells, rel_make v r k l)

  chained : (p : Name) (h : Option Known) → σ.known p ≡ h → (h' : Option Known) → φ.known p ≡ h' → ActRel s body (act_chained h p s (Plain (Some p)) σ) (act_chained h' p s (Plain (Some p)) φ)
  chained p (Some k) e (Some k') e' = rw (some_is (sym e ∙ r.known p (off_there r p e) ∙ e')) (made (Plain (Some p)) (p ∷ k'.chain))
  chained p (Some k) e None e' = absurd (none_some (sym e' ∙ sym (r.known p (off_there r p e)) ∙ e))
  chained p None e h' e' = tt

  known_rel : (c : Name) (h : Option Known) → σ.known c ≡ h → (h' : Option Known) → φ.known c ≡ h' → ActRel s body (act_known h σ) (act_known h' φ)
  known_rel c (Some k) e (Some k') e' = λ t. (some_is (sym e ∙ r.known c (off_there r c e) ∙ e'), r)
  known_rel c (Some k) e None e' = absurd (none_some (sym e' ∙ sym (r.known c (off_there r c e)) ∙ e))
  known_rel c None e h' e' = tt

  change_rel : (c : Name) (x : Edit) (h : Option Known) → σ.known c ≡ h → (h' : Option Known) → φ.known c ≡ h' → ActRel s body (act_change h b c x σ) (act_change h' b c x φ)
  change_rel c x (Some k) e (Some k') e' = λ t. rel_edit v r c x (off_there r c e) t
  change_rel c x (Some k) e None e' = absurd (none_some (sym e' ∙ sym (r.known c (off_there r c e)) ∙ e))
  change_rel c x None e h' e' = tt

  join_rel : (wanted : Bool) (body' : Bool) → body ≡ body' → (g : Bool) → any_gone s σ.gone ≡ g → (g' : Bool) → g' ≡ false → (t : Bool) → too_many wanted σ.vals ≡ t → (t' : Bool) → too_many wanted φ.vals ≡ t' →
      ActRel s body (act_join body' g t s σ) (act_join body' g' t' s φ)
  join_rel wanted true e g eg g' eg' t et t' et' = refl
  join_rel wanted false e true eg g' eg' t et t' et' = tt
  join_rel wanted false e false eg true eg' t et t' et' = absurd (true≢false eg')
  join_rel wanted false e false eg false eg' true et true et' = refl
  join_rel wanted false e false eg false eg' true et false et' = absurd (true≢false (sym et ∙ ap (too_many wanted) (r.vals eg) ∙ et'))
  join_rel wanted false e false eg false eg' false et true et' = absurd (true≢false (sym et' ∙ sym (ap (too_many wanted) (r.vals eg)) ∙ et))
  join_rel wanted false e false eg false eg' false et false et' = λ t. (
    r.vals eg,
    record { calls = r.calls; cells = r.cells; vals = λ h. refl; none = r.none; known = r.known; lost = r.lost; val = λ x o. cutting x (r.val x o); fresh = r.fresh; apart = r.apart; old = r.old },
  )
    where
      outside : (a : Path) → In Path a σ.gone → Under a s ⊎ Under s a → ⊥
      outside a k (inl z) = r.apart a k z
      outside a k (inr z) = none_gone s σ.gone eg k z

      cutting : (x : Slot) → Alike body σ φ x → (sees (record σ { vals = []; opened = cut s σ.opened }) x ≡ sees (record φ { vals = []; opened = cut s φ.opened }) x) ⊎ ((body ≡ false) × LeftOpen x σ.gone (cut s φ.opened))
      cutting (slot n y) (inl e) = inl e
      cutting (slot n y) (inr (e, (p, a, m, k, u))) = inr (e, (p, a, cut_keep s φ.opened (λ w. outside a k (comparable u w)) m, k, u))

  forks_rel : (body' : Bool) → ActRel s body (act_forks body' σ) (act_forks body' φ)
  forks_rel true = refl
  forks_rel false = λ t. (refl, r)

  pub act_rel : (o : Op) → ActRel s body (act o s b body σ) (act o s b body φ)
  unfolding act
  act_rel (charge n) = λ t. (refl, r)
  act_rel (known_at c) = known_rel c (σ.known c) refl (φ.known c) refl
  act_rel (make paid (Frame p)) = made (Frame p) []
  act_rel (make paid (Plain None)) = made (Plain None) []
  act_rel (make paid (Plain (Some p))) = chained p (σ.known p) refl (φ.known p) refl
  act_rel (make paid Array) = made Array []
  act_rel (make paid (Function n f)) = made (Function n f) []
  act_rel (make paid (BuiltIn w)) = made (BuiltIn w) []
  act_rel (change paid c e) = change_rel c e (σ.known c) refl (φ.known c) refl
  act_rel (print line) = λ t. (refl, rel_text _ _ r)
  act_rel (join wanted) = join_rel wanted body refl (any_gone s σ.gone) refl (any_gone s φ.gone) (ap (any_gone s) r.none) (too_many wanted σ.vals) refl (too_many wanted φ.vals) refl
  act_rel forks_here = forks_rel body
  act_rel crash = tt

  paid_same : (paid : Bool) (m n : ℕ) → m ≡ n → if_paid paid m ≡ if_paid paid n
  paid_same true m n e = e
  paid_same false m n e = refl

  same_cost : {A : Type 0} (X X' : Act A) (m : ℕ) → CostRel body X X' m m
  same_cost (gives a τ) (gives a' τ') m = λ t. refl
  same_cost (gives a τ) (refused w) m = tt
  same_cost (gives a τ) (waiting x) m = tt
  same_cost (gives a τ) stuck m = tt
  same_cost (refused w) X' m = tt
  same_cost (waiting x) X' m = tt
  same_cost stuck X' m = tt

  change_cost : (paid : Bool) (c : Name) (x : Edit) (h : Option Known) → σ.known c ≡ h → (h' : Option Known) →
      CostRel body (act_change h b c x σ) (act_change h' b c x φ) (if_paid paid (edit_cost x (σ.props c))) (if_paid paid (edit_cost x (φ.props c)))
  change_cost paid c x (Some k) e (Some k') = λ t. paid_same paid _ _ (cost_same x (σ.props c) (φ.props c)
      (λ y m. settled v r (slot c y) (off_there r c e) (λ z. none_touched b c (touches x (φ.props c)) φ.opened φ.verdict (t z) m)))
  change_cost paid c x (Some k) e None = tt
  change_cost paid c x None e h' = tt

  pub cost_rel : (o : Op) → CostRel body (act o s b body σ) (act o s b body φ) (op_cost o σ) (op_cost o φ)
  unfolding act
  cost_rel (charge n) = λ t. refl
  cost_rel (known_at c) = same_cost (act_known (σ.known c) σ) (act_known (φ.known c) φ) 0
  cost_rel (make paid k) = same_cost (act_make s k σ) (act_make s k φ) (if_paid paid 1)
  cost_rel (change paid c e) = change_cost paid c e (σ.known c) refl (φ.known c)
  cost_rel (print line) = λ t. refl
  cost_rel (join wanted) = same_cost (act_join body (any_gone s σ.gone) (too_many wanted σ.vals) s σ) (act_join body (any_gone s φ.gone) (too_many wanted φ.vals) s φ) 0
  cost_rel forks_here = same_cost (act_forks body σ) (act_forks body φ) 0
  cost_rel crash = tt
