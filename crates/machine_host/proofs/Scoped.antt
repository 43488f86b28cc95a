-- A scope that was opened for a call, and what the run does when it is closed.
use Rattle.std.specs.Prelude.{Bool, true, false, List, Option, None, Some, slice_get, IsSome, length}
use Rattle.std.proofs.Common.{◌≡◌, ◌≤◌, ◌<◌, ◌+◌, ◌⊎◌, inl, inr, ℕ, refl, sym, ap, subst, ◌∙◌, arith, [], ◌∷◌, ◌++◌, append_assoc}
use Rattle.std.proofs.lemmas.Option.{slice_get_within}
use Rattle.std.proofs.lemmas.Bool.{cases_lt}
use Rattle.turk_base.specs.Names.{Path, sub, Under, In, Name, home}
use Rattle.turk_base.specs.Asks.{Rec, path_of, find}
use Rattle.turk_base.specs.Prog.{Prog}
use Rattle.turk_base.specs.State.{St, next_call, once_call, enter}
use Rattle.turk_base.specs.Values.{Known}
use Rattle.js_tree.specs.World.{words, World}
use Rattle.run_laws.proofs.Cuts.{in_body, Cuts}
use Rattle.run_laws.proofs.Paths.{up}
use Rattle.run_laws.proofs.Within.{After}
use Rattle.ask_model.specs.declared.AskStop.{AskStop}
use Rattle.value_cells.specs.Seen.{Naming, Seen, Scope, Fits, Grows}
use Rattle.eval_ops.specs.Calls.{LeavesBack}
use Rattle.eval_ops.specs.Looks.{IsTold}
use Rattle.run_host.specs.Moment.{alone, Moment, cells, rest_of, draws_in, AllDealt, Moves, Suits, Clear, place, Same, Within}
use Rattle.run_host.specs.Told.{Told, Says, Halts, Fails, GoesOn, next_of, IsShown}
use Rattle.run_host.specs.Ends.{Comes, fails}
use Rattle.run_host.specs.Did.{Runs}
use Rattle.run_host.specs.Scopes.{Local, called, Opens, OpensOnce}
use Rattle.run_host.proofs.Moments.{nowhere, moves_twice, dealt_twice, fits_before, there, same_trans, within_trans}
use Rattle.machine_host.specs.Leaving.{LeftKeep}
use Rattle.machine_host.proofs.Turns.{naming}
use native.Mathlib.Nat.{le_refl}

-- A scope went on from one moment to another, and made these records.
pub record Went (old new : Moment alone) (added : List Rec) : Type 0 where
  pub same : Same old new
  pub within : Within old new
  pub made : new.made ≡ old.made ++ added
  pub dealt : AllDealt (words old.words) 0 added
  pub moved : Moves old new added
  pub stopped : new.stopped ≡ old.stopped

-- where it goes on, no refusal is new
pub none_new : (t : Told) (a b : Option AskStop) → GoesOn t → IsShown t a b → b ≡ a
none_new (Says v) a b z s = s
none_new (Halts h) a b z s = s
none_new (Fails why) a b z s = absurd z

pub went_by : {g : Naming → Prog} {told : Naming → Told} {old new : Moment alone} (r : Runs g told old new) → ((nu : Naming) → GoesOn (told nu)) → Went old new r.added
went_by {g} {told} {old} {new} r on = record { same = r.same; within = r.within nowhere (on nowhere); made = r.made; dealt = r.dealt; moved = r.moved nowhere (on nowhere); stopped = none_new (told nowhere) old.stopped new.stopped (on nowhere) (r.shown nowhere) }

-- and went on, with these records more
pub went_on : {old mid new : Moment alone} {l : List Rec} → Went old mid l → (m : List Rec) → Same mid new → Within mid new → new.made ≡ mid.made ++ m → AllDealt (words mid.words) 0 m → Moves mid new m → new.stopped ≡ mid.stopped → Went old new (l ++ m)
went_on {old} {mid} {new} {l} u m same within made dealt moved stopped = record {
  same = same_trans u.same same;
  within = within_trans same u.within within;
  made = made ∙ ap (λ a. a ++ m) u.made ∙ append_assoc old.made l m;
  dealt = dealt_twice l m u.dealt u.moved dealt;
  moved = moves_twice l m u.moved moved;
  stopped = stopped ∙ u.stopped;
}

-- where no record was made
pub suits_same : {E : World} {m n : Moment alone} → Same m n → n.made ≡ m.made → Suits E n → Suits E m
suits_same {E} s made su = record { session = su.session ∙ s.session; pairs = su.pairs ∙ s.pairs; dealt = subst (λ l. AllDealt E.dice 0 l) made su.dealt }

-- where memory ran out or a call was refused
pub run_fails : {f : Naming → Prog} {old new : Moment alone} (why : AskStop) (l : List Rec) → Same old new → new.made ≡ old.made ++ l → AllDealt (words old.words) 0 l → IsShown (Fails why) old.stopped new.stopped
    → ((nu : Naming) → Fits nu new.heap.names → (E : World) → Suits E new → (bound : ℕ) → old.heap.left < bound → Clear nu old → Cuts (place E bound old) (f nu) (old.heap.first nu) (rest_of old) l (next_of E (draws_in new.made) new.unmade why))
    → Runs f (λ nu. Fails why) old new
run_fails why l same made dealt shown cuts = record {
  same = same;
  within = λ nu z. absurd z;
  added = l;
  made = made;
  dealt = dealt;
  moved = λ nu z. absurd z;
  shown = λ nu. shown;
  ran = λ nu fits E su bound lo c. fails (cuts nu fits E su bound lo c);
}

some_same : {A : Type 0} {x y : A} → Some x ≡ Some y → x ≡ y
some_same e = cc

abbrev head_of : Scope → List Scope → Scope
head_of s [] = s
head_of s (o ∷ os) = o

abbrev tail_of : List Scope → List Scope
tail_of [] = []
tail_of (o ∷ os) = os

known_called : (b : Bool) (p : Path) (σ : St) → (called b p σ).known ≡ σ.known
known_called true p σ = refl
known_called false p σ = refl

-- ---- a scope that was opened

module _ {b : Bool} {before opened : Moment alone} (o : Opens b before opened) where
  pub same_opened : Same before opened
  same_opened = record { later = tt; session = o.session; trace = o.trace; pairs = o.pairs; grows = λ i n e. ap (λ l. slice_get l i) o.names ∙ e }

  pub unfound_is : (nu : Naming) → find (sub (before.heap.first nu).calls before.heap.scope.path) before.trace ≡ None
  unfound_is nu = ap (λ p. find p before.trace) (sym (o.path nu)) ∙ o.unfound

  pub clear_opened : (nu : Naming) → Clear nu before → Clear nu opened
  clear_opened nu c q i (j, l, u) =
      c q (subst (λ m. In Rec q m) o.made i) ((before.heap.first nu).calls, le_refl (before.heap.first nu).calls, up (subst (λ p. Under (sub j p) (path_of q)) (o.path nu) u))

  module _ {now : Moment alone} {added : List Rec} (u : Went opened now added) where
    pub same_now : Same before now
    same_now = same_trans same_opened u.same

    pub made_now : now.made ≡ before.made ++ added
    made_now = u.made ∙ ap (λ l. l ++ added) o.made

    pub stopped_now : now.stopped ≡ before.stopped
    stopped_now = u.stopped ∙ o.stopped

    pub dealt_now : AllDealt (words before.words) 0 added
    dealt_now = subst (λ w. AllDealt (words w) 0 added) o.words u.dealt

    pub moves_now : (new : Moment alone) → new.words ≡ now.words → Moves before new added
    moves_now new drawn = record { on = λ k. ap (λ (w : ℕ → ℕ). w k) drawn ∙ u.moved.on k ∙ ap (λ (w : ℕ → ℕ). w (draws_in added + k)) o.words }

    pub fits_now : {nu : Naming} → Fits nu now.heap.names → Fits nu before.heap.names
    fits_now fits = fits_before same_now.grows fits

    -- the scopes around
    around_is : {s : Scope} {os : List Scope} → now.heap.outer ≡ s ∷ os → s ∷ os ≡ before.heap.scope ∷ before.heap.outer
    around_is e = sym e ∙ u.within.outer ∙ o.outer

    scope_kept : {s : Scope} {os : List Scope} → now.heap.outer ≡ s ∷ os → s ≡ before.heap.scope
    scope_kept e = ap (head_of before.heap.scope) (around_is e)

    outer_kept : {s : Scope} {os : List Scope} → now.heap.outer ≡ s ∷ os → os ≡ before.heap.outer
    outer_kept e = ap tail_of (around_is e)

    pub path_is : (nu : Naming) → now.heap.scope.path ≡ sub (before.heap.first nu).calls before.heap.scope.path
    path_is nu = ap (λ (s : Scope). s.path) u.within.scope ∙ o.path nu

    pub back_is : (nu : Naming) → Fits nu before.heap.names → now.heap.scope.back nu ≡ called b before.heap.scope.branch (before.heap.first nu)
    back_is nu fits = ap (λ (s : Scope). s.back nu) u.within.scope ∙ o.back nu fits

    -- ---- where what it did stays

    module _ {new : Moment alone} (k : LeftKeep now new) where
      same_kept : Same now new
      same_kept = record { later = tt; session = ap (λ (m : Moment alone). m.session) k.rest; trace = ap (λ (m : Moment alone). m.trace) k.rest; pairs = ap (λ (m : Moment alone). m.pairs) k.rest; grows = k.grows }

      within_kept : Within before new
      within_kept = record {
        scope = scope_kept k.around;
        outer = outer_kept k.around;
        below = λ i n e l. new_below i n e l (cases_lt i (cells now));
        falls = (let a = k.left in let c = u.within.falls in let d = o.left in omega (arith, a, c, d));
      }
        where
          new_below : (i : ℕ) (n : Name) → slice_get new.heap.names i ≡ Some n → cells before ≤ i → (i < cells now) ⊎ (cells now ≤ i) → Under before.heap.scope.path (home n)
          new_below i n e l (inl j) =
              let f : (m : Name) × (slice_get now.heap.names i ≡ Some m) = there now.heap.names i j in
              let q : f.0 ≡ n = some_same (sym (k.grows i f.0 f.1) ∙ e) in
              let many : cells opened ≡ cells before = ap length o.names in
              up (subst (λ p. Under p (home n)) (o.path nowhere) (u.within.below i n (f.1 ∙ ap Some q) (omega (arith, l, many))))
          new_below i n e l (inr j) = up (subst (λ p. Under p (home n)) (path_is nowhere) (k.below i n e j))

      rest_kept : rest_of new ≡ rest_of now
      rest_kept = ap rest_of k.rest ∙ (λ i. record (rest_of now) { left = k.left i })

      pub kept_runs : (f : Naming → Prog) (said : Naming → Told) → ((nu : Naming) → new.stopped ≡ before.stopped → IsShown (said nu) before.stopped new.stopped)
          → ((nu : Naming) → Fits nu now.heap.names → Fits nu new.heap.names → (E : World) → Suits E now → (bound : ℕ) → before.heap.left < bound → Clear nu before →
          Comes (place E bound before) (f nu) (before.heap.first nu) (rest_of before) added (next_of E (draws_in new.made) new.unmade) (said nu) (new.heap.first nu) (rest_of now))
          → Runs f said before new
      kept_runs f said shown ran = record {
        same = same_trans same_now same_kept;
        within = λ nu z. within_kept;
        added = added;
        made = ap (λ (m : Moment alone). m.made) k.rest ∙ made_now;
        dealt = dealt_now;
        moved = λ nu z. moves_now new (ap (λ (m : Moment alone). m.words) k.rest);
        shown = λ nu. shown nu (ap (λ (m : Moment alone). m.stopped) k.rest ∙ stopped_now);
        ran = λ nu fits E su bound l c. subst (λ w. Comes (place E bound before) (f nu) (before.heap.first nu) (rest_of before) added (next_of E (draws_in new.made) new.unmade) (said nu) (new.heap.first nu) w) (sym rest_kept)
            (ran nu (fits_before k.grows fits) fits E (suits_same same_kept (ap (λ (m : Moment alone). m.made) k.rest) su) bound l c);
      }

    -- ---- where it is taken back: the names of its own cells are left to it

    abbrev pub its_naming : Naming
    its_naming = (naming now.heap.names).0

    pub fits_its : Fits its_naming now.heap.names
    fits_its = (naming now.heap.names).1

    agree : (nu : Naming) → Fits nu before.heap.names → (i : ℕ) → i < cells before → its_naming i ≡ nu i
    agree nu fits i l =
        let f : (m : Name) × (slice_get before.heap.names i ≡ Some m) = there before.heap.names i l in
        fits_its.agrees i f.0 (same_now.grows i f.0 f.1) ∙ sym (fits.agrees i f.0 f.1)

    pub own_is : (nu : Naming) → Fits nu before.heap.names → before.heap.first its_naming ≡ before.heap.first nu
    own_is nu fits = o.cells.own its_naming nu (agree nu fits)

    pub program_is : {g : Naming → Prog} → Local (cells before) g → (nu : Naming) → Fits nu before.heap.names → g its_naming ≡ g nu
    program_is local nu fits = local its_naming nu (agree nu fits)

    pub clear_its : (nu : Naming) → Fits nu before.heap.names → Clear nu before → Clear its_naming before
    clear_its nu fits c q i a = c q i (subst (λ (σ : St). After before.heap.scope.path σ.calls (path_of q)) (own_is nu fits) a)

    module _ {back : Seen} (k : LeavesBack now.heap back) (was : IsTold now.heap) (is : IsTold back) where
      known_is : (back.first its_naming).known ≡ (before.heap.first its_naming).known
      known_is = ap (λ (σ : St). σ.known) (k.first its_naming ∙ back_is its_naming (fits_now fits_its)) ∙ known_called b before.heap.scope.branch (before.heap.first its_naming)

      names_back : Grows before.heap.names back.names
      names_back i n e =
          let l : i < cells before = slice_get_within before.heap.names i n e in
          let known = subst (λ (q : Name → Option Known). IsSome (q (its_naming i))) (sym known_is) (o.cells.there its_naming i l) in
          let h = is.only its_naming (its_naming i) known in
          let f : (m : Name) × (slice_get back.names h.0 ≡ Some m) = there back.names h.0 h.1 in
          let ej = k.names h.0 f.0 f.1 in
          let ei = same_now.grows i n e in
          let q : f.0 ≡ n = sym (fits_its.agrees h.0 f.0 ej) ∙ h.2 ∙ fits_its.agrees i n ei in
          let same : h.0 ≡ i = was.apart h.0 i n (ej ∙ ap Some q) ei in
          subst (λ j. slice_get back.names j ≡ Some n) same (f.1 ∙ ap Some q)

      none_more : (i : ℕ) (n : Name) → slice_get back.names i ≡ Some n → cells before ≤ i → ⊥
      none_more i n e l =
          let knew = subst (λ (q : Name → Option Known). IsSome (q (its_naming i))) known_is (is.there its_naming i (slice_get_within back.names i n e)) in
          let h = o.cells.only its_naming (its_naming i) knew in
          let f : (m : Name) × (slice_get before.heap.names h.0 ≡ Some m) = there before.heap.names h.0 h.1 in
          let ej = same_now.grows h.0 f.0 f.1 in
          let ei = k.names i n e in
          let q : f.0 ≡ n = sym (fits_its.agrees h.0 f.0 ej) ∙ h.2 ∙ fits_its.agrees i n ei in
          let same : h.0 ≡ i = was.apart h.0 i n (ej ∙ ap Some q) ei in
          let less = h.1 in
          omega (arith, same, less, l)

      abbrev pub at_back : Moment alone
      at_back = record before { heap = back }

      pub same_back : Same before at_back
      same_back = record { later = tt; session = refl; trace = refl; pairs = refl; grows = names_back }

      pub within_back : Within before at_back
      within_back = record {
        scope = scope_kept k.around;
        outer = outer_kept k.around;
        below = λ i n e l. absurd (none_more i n e l);
        falls = (let c = k.left in let d = u.within.falls in let e = o.left in omega (arith, c, d, e));
      }

      pub scope_back : back.scope ≡ before.heap.scope
      scope_back = scope_kept k.around

      pub first_back : (nu : Naming) → Fits nu before.heap.names → back.first nu ≡ called b before.heap.scope.branch (before.heap.first nu)
      first_back nu fits = k.first nu ∙ back_is nu fits

-- ---- a once body

module _ {before opened : Moment alone} (o : OpensOnce before opened) where
  place_is : (E : World) (bound : ℕ) (nu : Naming) → place E bound opened ≡ in_body (place E bound before) (before.heap.first nu)
  place_is E bound nu = λ i. record { world = E; trace = o.opens.trace i; bound = bound; scope = o.opens.path nu i; branch = o.branch i; body = o.body i }

  rest_is : rest_of opened ≡ rest_of before
  rest_is = λ i. record { left = o.opens.left i; drawn = draws_in (o.opens.made i); forks = o.forks i; waits = o.opens.waits i }

  -- what the program of the body came to
  pub body_came : {g : Naming → Prog} {told : Naming → Told} {ended : Moment alone} (r : Runs g told opened ended) (nu : Naming) → Fits nu ended.heap.names → (E : World) → Suits E ended → (bound : ℕ) → before.heap.left < bound → Clear nu before →
      Comes (in_body (place E bound before) (before.heap.first nu)) (g nu) (enter (once_call before.heap.scope.branch (next_call (before.heap.first nu)))) (rest_of before) r.added (next_of E (draws_in ended.made) ended.unmade) (told nu) (ended.heap.first nu) (rest_of ended)
  body_came {g} {told} {ended} r nu fits E su bound l c =
      let next = next_of E (draws_in ended.made) ended.unmade in
      let fb : Fits nu before.heap.names = fits_before (same_trans (same_opened o.opens) r.same).grows fits in
      let low : opened.heap.left < bound = (let e = o.opens.left in omega (arith, l, e)) in
      subst (λ p. Comes p (g nu) (enter (once_call before.heap.scope.branch (next_call (before.heap.first nu)))) (rest_of before) r.added next (told nu) (ended.heap.first nu) (rest_of ended)) (place_is E bound nu)
      (subst (λ s. Comes (place E bound opened) (g nu) s (rest_of before) r.added next (told nu) (ended.heap.first nu) (rest_of ended)) (o.opens.first nu fb)
      (subst (λ x. Comes (place E bound opened) (g nu) (opened.heap.first nu) x r.added next (told nu) (ended.heap.first nu) (rest_of ended)) rest_is
      (r.ran nu fits E su bound low (clear_opened o.opens nu c))))

  module _ {now : Moment alone} {added : List Rec} (u : Went opened now added) where
    pub branch_is : now.heap.scope.branch ≡ before.heap.scope.branch
    branch_is = ap (λ (s : Scope). s.branch) u.within.scope ∙ o.branch

    pub in_body_is : now.heap.scope.body ≡ true
    in_body_is = ap (λ (s : Scope). s.body) u.within.scope ∙ o.body
