-- Asks of the outside.
use Rattle.std.specs.Prelude.{ℤ, length, slice_get, Bool, true, false, List, Option, Some, None, Result, Ok, Err}
use Rattle.std.proofs.Common.{◌≡◌, ◌≤◌, ℕ, suc, refl, sym, ap, subst, ◌∙◌, arith, [], ◌∷◌, ◌++◌, append-nil, append_assoc, inl, inr, ◌⊎◌}
use Rattle.std.proofs.lemmas.List.{map-append}
use Rattle.std.proofs.lemmas.Option.{slice_get_within}
use Rattle.turk_base.specs.Names.{Path, Name, home, sub, path_in, In, Under, self}
use Rattle.turk_base.specs.declared.Record.{Record}
use Rattle.turk_base.specs.declared.Record.TheVariants as kept
use Rattle.turk_base.specs.Values.{Outcome}
use Rattle.turk_base.specs.Asks.{Question, posts, replies, draws, AnsOf, Rec, rec, path_of, find, below, answer}
use Rattle.turk_base.specs.Prog.{Prog}
use Rattle.turk_base.specs.State.{St, next_call}
use Rattle.turk_base.specs.Steps.{Small, give}
use Rattle.turk_base.specs.Steps as steps
use Rattle.turk_base.specs.Trace as told
use Rattle.turk_base.specs.Told.{record_of, records_of}
use Rattle.js_tree.specs.Run.{Out, waits, halted, undrawn, diverged, Res, res, add, on_kept, on_ask, unanswered, run_steps}
use Rattle.js_tree.specs.World as meaning
use Rattle.js_tree.specs.World.{World, Rest, Draws, Fresh, fresh, fresh_reply, fresh_draw, drew, noted, kept_answer, diverges, found_kept, found_below, called_by, draw_of}
use Rattle.run_laws.proofs.Sequel.{Place, run_at}
use Rattle.run_laws.proofs.Cuts.{Next, Follows, follows_add}
use Rattle.run_laws.proofs.Fronts.{front}
use Rattle.run_laws.proofs.Within.{After}
use Rattle.run_laws.proofs.Looks.{looks_found, looks_below}
use Rattle.run_laws.proofs.Paths.{one_index}
use Rattle.run_laws.proofs.Props.{in_split, in_one}
use Rattle.meaning_laws.specs.Tied.{what_of}
use Rattle.meaning_laws.proofs.Tied.{find_tied, below_tied}
use Rattle.ask_model.specs.declared.AskStop.{AskStop}
use Rattle.ask_model.specs.declared.AskStop.TheVariants as stop
use Rattle.ask_model.specs.Asker.{Seen as Asked, known_to}
use Rattle.value_cells.specs.Seen.{Naming, Fits, Scope}
use Rattle.run_host.specs.declared.Exit.{Exit}
use Rattle.run_host.specs.declared.Exit.TheVariants as exit
use Rattle.run_host.specs.declared.Halt.{Halt}
use Rattle.run_host.specs.declared.Halt.TheVariants as halt
use Rattle.run_host.specs.Moment.{alone, Moment, cells, rest_of, draws_in, drawn_by, AllDealt, Deals, Moves, Suits, Clear, place, Same, Within}
use Rattle.run_host.specs.Moment as moment
use Rattle.run_host.specs.Told as shown
use Rattle.run_host.specs.Told.{Told, next_of, IsShown, told_exit}
use Rattle.run_host.specs.Ends.{Like, Comes, says, halts, fails}
use Rattle.run_host.specs.Steps.{Step, Leaves, Gives, Takes}
use Rattle.run_host.proofs.Comes.{add_add, halted_then}
use Rattle.run_host.proofs.Moments.{shown_on, moves_twice, dealt_twice, fits_before, same_trans, within_trans, suits_before, place_after}
use Rattle.machine_host.specs.Asking as asking
use Rattle.machine_host.specs.Asking.{Indexed, Loses, Tells, KeptGives}
use Rattle.machine_host.proofs.Turns.{Asks, moves_same}
use Rattle.machine_host.proofs.Halting.{Stopped, lost_leaves}

-- ---- a step that makes records and answers

comes_after : {c : Place} {f g : Prog} {σ τ υ : St} {w x y : Rest} {m : List Rec} {next : AskStop → Next} {t : Told} (l : List Rec) →
    ((k : Outcome → St → Rest → Res) → run_at c f k σ w ≡ add l (run_at c g k τ x)) → Comes c g τ x m next t υ y → Comes c f σ w (l ++ m) next t υ y
comes_after {m = m} l b (says e) = says (record { holds = λ k. b k ∙ ap (add l) (e.holds k) ∙ add_add l m _ })
comes_after l b (halts h) = halts (halted_then l (λ r s. record { holds = λ k. b k ∙ ap (add l) (s.holds k) }) h)
comes_after {m = m} {next = next} l b (fails {why = why} h) = fails (record { holds = λ k. subst (Follows (l ++ m) (next why)) (sym (b k)) (follows_add l m (next why) _ (h.holds k)) })

module _ {A : Type 0} (f : Naming → Step A) (g : Naming → Small A) (asks : (nu : Naming) → Asks (f nu) (g nu)) where
  pub gives_at : (m n : Moment alone) (a : Naming → A) (added : List Rec) → Same m n → Within m n → n.made ≡ m.made ++ added → AllDealt (meaning.words m.words) 0 added → Moves m n added → n.stopped ≡ m.stopped
      → ((nu : Naming) → Fits nu n.heap.names → Clear nu m → Clear nu n)
      → ((nu : Naming) → Fits nu n.heap.names → (E : World) → Suits E n → Clear nu m → (k : A → St → Rest → Res) →
      run_steps (g nu) E m.trace m.heap.scope.path m.heap.scope.branch m.heap.scope.body k (m.heap.first nu) (rest_of m) ≡ add added (k (a nu) (n.heap.first nu) (rest_of n)))
      → Gives f a m n
  gives_at m n a added same within made dealt moves stopped clear d = record {
    goes = λ go. record {
      goes = λ said last r. record {
        same = same_trans same r.same;
        within = λ nu z. within_trans r.same within (r.within nu z);
        added = added ++ r.added;
        made = r.made ∙ ap (λ l. l ++ r.added) made ∙ append_assoc m.made added r.added;
        dealt = dealt_twice added r.added dealt moves r.dealt;
        moved = λ nu z. moves_twice added r.added moves (r.moved nu z);
        shown = λ nu. shown_on (said nu) m.stopped n.stopped last.stopped stopped (r.shown nu);
        ran = λ nu fits E s bound l c.
            let fb = fits_before r.same.grows fits in
            let sb = suits_before r.same r.added r.made s in
            let low = within.falls in
            comes_after added (λ k. (asks nu).runs (place E bound m) (go nu) k (m.heap.first nu) (rest_of m) ∙ d nu fb E sb c (λ b τ x. run_at (place E bound m) (go nu b) k τ x))
            (subst (λ p. Comes p (go nu (a nu)) (n.heap.first nu) (rest_of n) r.added (next_of E (draws_in last.made) last.unmade) (said nu) (last.heap.first nu) (rest_of last))
            (place_after same within)
            (r.ran nu fits E s bound (omega (arith, low, l)) (clear nu fb c)));
      };
    };
  }

-- a step that ends the run, where the world and what was made are known of
module _ {A : Type 0} (f : Naming → Step A) (g : Naming → Small A) (asks : (nu : Naming) → Asks (f nu) (g nu)) where
  pub halts_at : (m n : Moment alone) (h : Halt) (out : Out) → ((nu : Naming) → shown.IsOut h out) → Same m n → Within m n → n.made ≡ m.made → n.words ≡ m.words → n.stopped ≡ m.stopped
      → ((nu : Naming) → Fits nu n.heap.names → (E : World) → Suits E n → Clear nu m → Stopped (g nu) m E out (n.heap.first nu) (rest_of n) (m.heap.first nu)) → Leaves f (exit.Halted h) m n
  halts_at m n h out is same within made drawn stopped d = record {
    ends = λ go. record {
      same = same;
      within = λ nu z. within;
      added = [];
      made = made ∙ sym (append-nil m.made);
      dealt = tt;
      moved = λ nu z. moves_same drawn;
      shown = λ nu. stopped;
      ran = λ nu fits E s bound l c.
          let q = d nu fits E s c in
          halts (record {
            out = out;
            is = is nu;
            at = q.at;
            left = q.left;
            like = q.like;
            fuel = λ z. q.fuel;
            stops = record { holds = λ k. (asks nu).runs (place E bound m) (go nu) k (m.heap.first nu) (rest_of m) ∙ q.is (λ a τ x. run_at (place E bound m) (go nu a) k τ x) };
          });
    };
  }

  pub refused_at : (m n : Moment alone) (why : AskStop) → Same m n → n.made ≡ m.made → ((nu : Naming) → IsShown (shown.Fails why) m.stopped n.stopped)
      → ((nu : Naming) → Fits nu n.heap.names → (E : World) → Suits E n → Clear nu m → (k : A → St → Rest → Res) →
      Follows [] (next_of E (draws_in n.made) n.unmade why) (run_steps (g nu) E m.trace m.heap.scope.path m.heap.scope.branch m.heap.scope.body k (m.heap.first nu) (rest_of m)))
      → Leaves f (exit.Stopped why) m n
  refused_at m n why same made is d = record {
    ends = λ go. record {
      same = same;
      within = λ nu z. absurd z;
      added = [];
      made = made ∙ sym (append-nil m.made);
      dealt = tt;
      moved = λ nu z. absurd z;
      shown = is;
      ran = λ nu fits E s bound l c. fails (record {
        holds = λ k. subst (Follows [] (next_of E (draws_in n.made) n.unmade why)) (sym ((asks nu).runs (place E bound m) (go nu) k (m.heap.first nu) (rest_of m)))
            (d nu fits E s c (λ a τ x. run_at (place E bound m) (go nu a) k τ x));
      });
    };
  }

-- ---- what is known at the path of a call

pub what_none : (o : Option Rec) → what_of o ≡ None → o ≡ None
what_none (Some (rec p x)) e = let z : ⊥ = cc in absurd z
what_none None e = refl

pub what_some : (o : Option Rec) (x : Record) → what_of o ≡ Some x → (p : Path) × (o ≡ Some (rec p x))
what_some (Some (rec p y)) x e = (p, ap (λ o. some_at p o) e)
  where
    some_at : Path → Option Record → Option Rec
    some_at p (Some x) = Some (rec p x)
    some_at p None = None
what_some None x e = let z : ⊥ = cc in absurd z

module _ (s : Asked) (p : List ℕ) (c : ℕ) (scope : Path) (path : path_in p ≡ sub c scope) (clear : (r : Rec) → In Rec r (records_of s.made) → After scope c (path_of r) → ⊥) where
  pub found_is : what_of (find (sub c scope) (records_of s.trace)) ≡ told.at (known_to s) p
  found_is =
      ap what_of (sym (looks_found (records_of s.trace) (records_of s.made) scope c clear))
      ∙ ap (λ q. what_of (find q (records_of s.trace ++ records_of s.made))) (sym path)
      ∙ ap (λ l. what_of (find (path_in p) l)) (sym (map-append record_of s.trace s.made))
      ∙ find_tied (s.trace ++ s.made) p

  pub below_is : below (sub c scope) (records_of s.trace) ≡ told.below (known_to s) p
  below_is =
      sym (looks_below (records_of s.trace) (records_of s.made) scope c clear)
      ∙ ap (λ q. below q (records_of s.trace ++ records_of s.made)) (sym path)
      ∙ ap (λ l. below (path_in p) l) (sym (map-append record_of s.trace s.made))
      ∙ below_tied (s.trace ++ s.made) p

-- ---- draws

draws_more : (l : List Rec) (p : Path) (x : Record) → draws_in (l ++ rec p x ∷ []) ≡ drawn_by x (draws_in l)
draws_more [] p x = refl
draws_more (rec q y ∷ l) p x = ap (drawn_by y) (draws_more l p x) ∙ swap y x (draws_in l)
  where
    swap : (y x : Record) (n : ℕ) → drawn_by y (drawn_by x n) ≡ drawn_by x (drawn_by y n)
    swap (kept.Post t) x n = refl
    swap (kept.Reply t u) x n = refl
    swap (kept.Once d) x n = refl
    swap (kept.Draw b v) (kept.Post t) n = refl
    swap (kept.Draw b v) (kept.Reply t u) n = refl
    swap (kept.Draw b v) (kept.Once d) n = refl
    swap (kept.Draw b v) (kept.Draw c w) n = refl

some_same : {A : Type 0} {x y : A} → Some x ≡ Some y → x ≡ y
some_same e = cc

some_none : {A : Type 0} {x : A} → None ≡ Some x → ⊥
some_none e = cc

-- how many draws were made after a record that was made
drew_is : (q : Question) (E : World) (n : ℕ) (p : Path) (f : Fresh q) (w : Rest) → fresh q E n p ≡ Some f → drew q w ≡ record w { drawn = drawn_by f.what w.drawn }
unfolding fresh
drew_is (posts t) E n p f w e = ap (λ x. record w { drawn = drawn_by x w.drawn }) (ap (λ (f : Fresh (posts t)). f.what) (some_same e))
drew_is (replies t) E n p f w e = by (answer E.pairs t) e
  where
    by : (o : Option (List ℕ)) → fresh_reply t o ≡ Some f → w ≡ record w { drawn = drawn_by f.what w.drawn }
    by (Some y) e = ap (λ x. record w { drawn = drawn_by x w.drawn }) (ap (λ (f : Fresh (replies t)). f.what) (some_same e))
    by None e = absurd (some_none e)
drew_is (draws b) E n p f w e = by (draw_of E.dice n p b) e
  where
    by : (o : Option ℤ) → fresh_draw b o ≡ Some f → record w { drawn = suc w.drawn } ≡ record w { drawn = drawn_by f.what w.drawn }
    by (Some v) e = ap (λ x. record w { drawn = drawn_by x w.drawn }) (ap (λ (f : Fresh (draws b)). f.what) (some_same e))
    by None e = absurd (some_none e)

-- ---- an ask at its path

module _ (q : Question) (f : Step (AnsOf q)) (is : Asks f (steps.ask q give)) (s : Asked) (m n : Moment alone) (trace : m.trace ≡ records_of s.trace) (made : m.made ≡ records_of s.made) (p : List ℕ) (x : Indexed p m n) where
  abbrev at_call : Naming → Path
  at_call nu = sub (m.heap.first nu).calls m.heap.scope.path

  clear_in : (nu : Naming) → Clear nu m → (r : Rec) → In Rec r (records_of s.made) → After m.heap.scope.path (m.heap.first nu).calls (path_of r) → ⊥
  clear_in nu c r i a = c r (subst (λ l. In Rec r l) (sym made) i) a

  what_there : (nu : Naming) → Clear nu m → what_of (find (at_call nu) m.trace) ≡ told.at (known_to s) p
  what_there nu c = ap (λ T. what_of (find (at_call nu) T)) trace ∙ found_is s p (m.heap.first nu).calls m.heap.scope.path (x.path nu) (clear_in nu c)

  below_there : (nu : Naming) → Clear nu m → below (at_call nu) m.trace ≡ told.below (known_to s) p
  below_there nu c = ap (λ T. below (at_call nu) T) trace ∙ below_is s p (m.heap.first nu).calls m.heap.scope.path (x.path nu) (clear_in nu c)

  ask_run : (nu : Naming) (E : World) (k : AnsOf q → St → Rest → Res) (o : Option Rec) (b : Bool) (fr : Option (Fresh q)) → find (at_call nu) m.trace ≡ o → below (at_call nu) m.trace ≡ b → fresh q E (draws_in m.made) (at_call nu) ≡ fr
      → run_steps (steps.ask q give) E m.trace m.heap.scope.path m.heap.scope.branch m.heap.scope.body k (m.heap.first nu) (rest_of m) ≡ on_ask q o b fr E (at_call nu) (next_call (m.heap.first nu)) (rest_of m) (λ a w. k a (next_call (m.heap.first nu)) w)
  unfolding run_steps
  ask_run nu E k o b fr e h g = λ i. on_ask q (e i) (h i) (g i) E (at_call nu) (next_call (m.heap.first nu)) (rest_of m) (λ a w. k a (next_call (m.heap.first nu)) w)

  grown : (i : ℕ) (name : Name) → slice_get m.heap.names i ≡ Some name → slice_get n.heap.names i ≡ Some name
  grown i name e = ap (λ l. slice_get l i) x.names ∙ e

  below_new : (i : ℕ) (name : Name) → slice_get n.heap.names i ≡ Some name → cells m ≤ i → Under m.heap.scope.path (home name)
  below_new i name e l = let h = slice_get_within n.heap.names i name e in absurd (let q = ap length x.names in omega (arith, h, q, l))

  -- what was made before lies at no call to come, and neither does the record at this call
  clear_with : (nu : Naming) → Fits nu n.heap.names → Clear nu m → (l : List Rec) → ((r : Rec) → In Rec r l → path_of r ≡ at_call nu) → (r : Rec) → In Rec r (m.made ++ l) → After n.heap.scope.path (n.heap.first nu).calls (path_of r) → ⊥
  clear_with nu fits c l here r i a =
      let b : After m.heap.scope.path (suc (m.heap.first nu).calls) (path_of r) = subst (λ (z : Scope). After z.path (suc (m.heap.first nu).calls) (path_of r)) x.scope (subst (λ (σ : St). After n.heap.scope.path σ.calls (path_of r)) (x.first nu fits) a) in
      elim (in_split m.made l i) [
        | inl o ↦ c r o (b.0, (let h = b.1 in omega (arith, h)), b.2)
        | inr o ↦ (let e = one_index b.2 (subst (λ z. Under (at_call nu) z) (sym (here r o)) self) in let h = b.1 in omega (arith, e, h))
      ]

  abbrev with_record : Record → (ℕ → ℕ) → Moment alone
  with_record what v = record m { heap = n.heap; made = m.made ++ rec (path_in p) what ∷ []; words = v }

  ask_answered : told.at (known_to s) p ≡ None → told.below (known_to s) p ≡ false → (a : Fresh q) → (v : ℕ → ℕ) → asking.Draws m.words v (path_in p) a.what → ((E : World) → Suits E (with_record a.what v) → fresh q E (draws_in m.made) (path_in p) ≡ Some a) → Gives (λ nu. f) (λ nu. a.answer) m (with_record a.what v)
  ask_answered unfound unbelow a v drew_words d = gives_at (λ nu. f) (λ nu. steps.ask q give) (λ nu. is) m (with_record a.what v) (λ nu. a.answer) (rec (path_in p) a.what ∷ [])
      (record { later = tt; session = refl; trace = refl; pairs = refl; grows = grown })
      (record { scope = x.scope; outer = x.outer; below = below_new; falls = let h = x.left in omega (arith, h) })
      refl
      (drew_words.dealt, tt)
      (record { on = drew_words.moved })
      refl
      (λ nu fits c. clear_with nu fits c (rec (path_in p) a.what ∷ []) (λ r i. ap path_of (in_one i) ∙ x.path nu))
      (λ nu fits E su c k.
      let e = d E su in
      let w = rest_of m in
      let drawn : drew q w ≡ rest_of (with_record a.what v) = drew_is q E (draws_in m.made) (path_in p) a w e ∙ (λ i. record { left = sym x.left i; drawn = sym (draws_more m.made (path_in p) a.what) i; forks = m.forks; waits = m.waits }) in
      ask_run nu E k None false (Some a) (what_none (find (at_call nu) m.trace) (what_there nu c ∙ unfound)) (below_there nu c ∙ unbelow) (ap (λ z. fresh q E (draws_in m.made) z) (sym (x.path nu)) ∙ e)
      ∙ (λ i. add (rec (sym (x.path nu) i) a.what ∷ []) (k a.answer (sym (x.first nu fits) i) (drawn i))))

  -- where nothing answers and the run waits
  abbrev with_wait : Moment alone
  with_wait = record m { heap = n.heap; waits = (noted q (rest_of m)).waits }

  noted_is : (z : Question) (left : ℕ) → left ≡ m.heap.left → noted z (rest_of m) ≡ record { left = left; drawn = draws_in m.made; forks = m.forks; waits = (noted z (rest_of m)).waits }
  noted_is (posts t) left e = λ i. record (rest_of m) { left = sym e i }
  noted_is (replies t) left e = λ i. record (noted (replies t) (rest_of m)) { left = sym e i }
  noted_is (draws b) left e = λ i. record (rest_of m) { left = sym e i }

  same_first : (nu : Naming) → Fits nu n.heap.names → Like (next_call (m.heap.first nu)) (n.heap.first nu)
  same_first nu fits = let e = x.first nu fits in record { text = ap (λ (σ : St). σ.text) (sym e); verdict = ap (λ (σ : St). σ.verdict) (sym e); gone = ap (λ (σ : St). σ.gone) (sym e) }

  ask_missing : told.at (known_to s) p ≡ None → told.below (known_to s) p ≡ false → unanswered q ≡ waits → ((E : World) → Suits E with_wait → fresh q E (draws_in m.made) (path_in p) ≡ None) → Leaves (λ nu. f) (exit.Halted halt.Waits) m with_wait
  ask_missing unfound unbelow out d = halts_at (λ nu. f) (λ nu. steps.ask q give) (λ nu. is) m with_wait halt.Waits waits (λ nu. refl)
      (record { later = tt; session = refl; trace = refl; pairs = refl; grows = grown })
      (record { scope = x.scope; outer = x.outer; below = below_new; falls = let h = x.left in omega (arith, h) })
      refl
      refl
      refl
      (λ nu fits E su c. record {
        at = next_call (m.heap.first nu);
        left = n.heap.left;
        like = same_first nu fits;
        fuel = refl;
        is = λ k.
            ask_run nu E k None false None (what_none (find (at_call nu) m.trace) (what_there nu c ∙ unfound)) (below_there nu c ∙ unbelow) (ap (λ z. fresh q E (draws_in m.made) z) (sym (x.path nu)) ∙ d E su)
            ∙ (λ i. res (out i) (next_call (m.heap.first nu)) (noted_is q n.heap.left x.left i));
      })

  noted_waits : (z : Question) → (noted z (rest_of (record m { heap = n.heap }))).waits ≡ (noted z (rest_of m)).waits
  noted_waits (posts t) = refl
  noted_waits (replies t) = refl
  noted_waits (draws b) = refl

  -- where the asker refused the record
  abbrev with_refusal : AskStop → (ℕ → ℕ) → Moment alone
  with_refusal why v = record m { heap = n.heap; stopped = Some why; unmade = moment.asking (path_in p) q; words = v }

  follows_fresh : (nu : Naming) (E : World) (k : AnsOf q → Rest → Res) (o : Option (Fresh q)) → (o ≡ None → unanswered q ≡ halted undrawn)
      → Follows [] (shown.next_fresh (path_in p) o) (on_ask q None false o E (at_call nu) (next_call (m.heap.first nu)) (rest_of m) k)
  follows_fresh nu E k (Some a) h = front _ (ap (λ z. rec z a.what ∷ (k a.answer (drew q (rest_of m))).made) (sym (x.path nu)))
  follows_fresh nu E k None h = (h refl, refl)

  follows_why : (why : AskStop) (E : World) (r : Res) → Follows [] (shown.next_fresh (path_in p) (fresh q E (draws_in m.made) (path_in p))) r → Follows [] (next_of E (draws_in m.made) (moment.asking (path_in p) q) why) r
  follows_why stop.Memory E r h = front r.made refl
  follows_why (stop.Fault which) E r h = h
  follows_why (stop.Diverged d) E r h = h
  follows_why stop.TraceFull E r h = h
  follows_why stop.LogFull E r h = h

  shown_why : (why : AskStop) → IsShown (shown.Fails why) m.stopped (Some why)
  shown_why stop.Memory = inr refl
  shown_why (stop.Fault which) = refl
  shown_why (stop.Diverged d) = refl
  shown_why stop.TraceFull = refl
  shown_why stop.LogFull = refl

  ask_refused : told.at (known_to s) p ≡ None → told.below (known_to s) p ≡ false → (why : AskStop) → (v : ℕ → ℕ) → ((E : World) → Suits E (with_refusal why v) → fresh q E (draws_in m.made) (path_in p) ≡ None → unanswered q ≡ halted undrawn)
      → Leaves (λ nu. f) (exit.Stopped why) m (with_refusal why v)
  ask_refused unfound unbelow why v d = refused_at (λ nu. f) (λ nu. steps.ask q give) (λ nu. is) m (with_refusal why v) why
      (record { later = tt; session = refl; trace = refl; pairs = refl; grows = grown }) refl (λ nu. shown_why why)
      (λ nu fits E su c k.
      let o = fresh q E (draws_in m.made) (path_in p) in
      follows_why why E _ (subst (λ r. Follows [] (shown.next_fresh (path_in p) o) r)
      (sym (ask_run nu E k None false o (what_none (find (at_call nu) m.trace) (what_there nu c ∙ unfound)) (below_there nu c ∙ unbelow) (ap (λ z. fresh q E (draws_in m.made) z) (sym (x.path nu)))))
      (follows_fresh nu E (λ a w. k a (next_call (m.heap.first nu)) w) o (d E su))))

  -- where a record answers, or diverges
  abbrev with_index : Moment alone
  with_index = record m { heap = n.heap }

  found_there : (r : Record) → told.at (known_to s) p ≡ Some r → (nu : Naming) → Clear nu m → (z : Path) × (find (at_call nu) m.trace ≡ Some (rec z r))
  found_there r here nu c = what_some (find (at_call nu) m.trace) r (what_there nu c ∙ here)

  ask_kept : (r : Record) → told.at (known_to s) p ≡ Some r → (a : AnsOf q) → kept_answer q m.session (path_in p) r ≡ Some a → Gives (λ nu. f) (λ nu. a) m with_index
  ask_kept r here a e = gives_at (λ nu. f) (λ nu. steps.ask q give) (λ nu. is) m with_index (λ nu. a) []
      (record { later = tt; session = refl; trace = refl; pairs = refl; grows = grown })
      (record { scope = x.scope; outer = x.outer; below = below_new; falls = let h = x.left in omega (arith, h) })
      (sym (append-nil m.made))
      tt
      (moves_same refl)
      refl
      (λ nu fits c r i z. clear_with nu fits c [] (λ r o. elim o [ ]) r (subst (λ l. In Rec r l) (sym (append-nil m.made)) i) z)
      (λ nu fits E su c k.
      let o = found_there r here nu c in
      let w : rest_of m ≡ rest_of with_index = λ i. record { left = sym x.left i; drawn = draws_in m.made; forks = m.forks; waits = m.waits } in
      ask_run nu E k (Some (rec o.0 r)) (below (at_call nu) m.trace) (fresh q E (draws_in m.made) (at_call nu)) o.1 refl refl
      ∙ (λ i. on_kept (kept_answer q (su.session i) (sym (x.path nu) i) r) (diverges (at_call nu) (found_kept r) (called_by q)) (next_call (m.heap.first nu)) (rest_of m) (λ a w. k a (next_call (m.heap.first nu)) w))
      ∙ ap (λ o. on_kept o (diverges (at_call nu) (found_kept r) (called_by q)) (next_call (m.heap.first nu)) (rest_of m) (λ a w. k a (next_call (m.heap.first nu)) w)) e
      ∙ (λ i. k a (sym (x.first nu fits) i) (w i)))

  diverges_at : (y : Exit) (d : meaning.Divergence) → Tells y d
      → ((nu : Naming) → Fits nu n.heap.names → (E : World) → Suits E with_index → Clear nu m → (k : AnsOf q → St → Rest → Res) →
      run_steps (steps.ask q give) E m.trace m.heap.scope.path m.heap.scope.branch m.heap.scope.body k (m.heap.first nu) (rest_of m) ≡ res (halted (diverged d)) (next_call (m.heap.first nu)) (rest_of m))
      → Leaves (λ nu. f) y m with_index
  diverges_at y d t run = subst (λ y. Leaves (λ nu. f) y m with_index) (sym t.1) (halts_at (λ nu. f) (λ nu. steps.ask q give) (λ nu. is) m with_index (halt.Diverges t.0) (halted (diverged d)) (λ nu. (d, t.2, refl))
      (record { later = tt; session = refl; trace = refl; pairs = refl; grows = grown })
      (record { scope = x.scope; outer = x.outer; below = below_new; falls = let h = x.left in omega (arith, h) })
      refl
      refl
      refl
      (λ nu fits E su c. record { at = next_call (m.heap.first nu); left = m.heap.left; like = same_first nu fits; fuel = sym x.left; is = λ k. run nu fits E su c k }))

  ask_diverges : (r : Record) → told.at (known_to s) p ≡ Some r → kept_answer q m.session (path_in p) r ≡ None → (y : Exit) → Tells y (diverges (path_in p) (found_kept r) (called_by q)) → Leaves (λ nu. f) y m with_index
  ask_diverges r here e y t = diverges_at y (diverges (path_in p) (found_kept r) (called_by q)) t
      (λ nu fits E su c k.
      let o = found_there r here nu c in
      ask_run nu E k (Some (rec o.0 r)) (below (at_call nu) m.trace) (fresh q E (draws_in m.made) (at_call nu)) o.1 refl refl
      ∙ (λ i. on_kept (kept_answer q (su.session i) (sym (x.path nu) i) r) (diverges (sym (x.path nu) i) (found_kept r) (called_by q)) (next_call (m.heap.first nu)) (rest_of m) (λ a w. k a (next_call (m.heap.first nu)) w))
      ∙ ap (λ o. on_kept o (diverges (path_in p) (found_kept r) (called_by q)) (next_call (m.heap.first nu)) (rest_of m) (λ a w. k a (next_call (m.heap.first nu)) w)) e)

  ask_below : told.at (known_to s) p ≡ None → told.below (known_to s) p ≡ true → (y : Exit) → Tells y (diverges (path_in p) found_below (called_by q)) → Leaves (λ nu. f) y m with_index
  ask_below unfound low y t = diverges_at y (diverges (path_in p) found_below (called_by q)) t
      (λ nu fits E su c k.
      ask_run nu E k None true (fresh q E (draws_in m.made) (at_call nu)) (what_none (find (at_call nu) m.trace) (what_there nu c ∙ unfound)) (below_there nu c ∙ low) refl
      ∙ (λ i. res (halted (diverged (diverges (sym (x.path nu) i) found_below (called_by q)))) (next_call (m.heap.first nu)) (rest_of m)))

  -- ---- as the functions tell of them

  pub kept_takes : (l : Moment alone) → l ≡ with_index → (r : Record) → told.at (known_to s) p ≡ Some r → (y : Result (AnsOf q) Exit) → KeptGives q m.session (path_in p) r y → Takes (λ nu. f) (λ nu a. a) y m l
  kept_takes l e r here y h = subst (λ l. Takes (λ nu. f) (λ nu a. a) y m l) (sym e) (by y h)
    where
      by : (y : Result (AnsOf q) Exit) → KeptGives q m.session (path_in p) r y → Takes (λ nu. f) (λ nu a. a) y m (record m { heap = n.heap })
      by (Ok a) h = ask_kept r here a h
      by (Err y) (inl lost) = subst (λ y. Leaves (λ nu. f) y m (record m { heap = n.heap })) (sym lost) (lost_leaves m (record m { heap = n.heap }) (record { later = tt; session = refl; trace = refl; pairs = refl; grows = grown }) refl refl)
      by (Err y) (inr d) = ask_diverges r here d.0 y d.1

  pub below_takes : {B : Type 0} (h : Naming → B → AnsOf q) (l : Moment alone) → l ≡ with_index → told.at (known_to s) p ≡ None → told.below (known_to s) p ≡ true → (y : Exit) → (y ≡ exit.Stopped stop.Memory) ⊎ Tells y (diverges (path_in p) found_below (called_by q)) → Leaves (λ nu. f) y m l
  below_takes h l e unfound low y t = subst (λ l. Leaves (λ nu. f) y m l) (sym e) (by t)
    where
      by : (y ≡ exit.Stopped stop.Memory) ⊎ Tells y (diverges (path_in p) found_below (called_by q)) → Leaves (λ nu. f) y m (record m { heap = n.heap })
      by (inl lost) = subst (λ y. Leaves (λ nu. f) y m (record m { heap = n.heap })) (sym lost) (lost_leaves m (record m { heap = n.heap }) (record { later = tt; session = refl; trace = refl; pairs = refl; grows = grown }) refl refl)
      by (inr d) = ask_below unfound low y d

  pub ask_takes : (l : Moment alone) → told.at (known_to s) p ≡ None → told.below (known_to s) p ≡ false → (y : Result (AnsOf q) Exit) → asking.Asks q (path_in p) (record m { heap = n.heap }) l y → Takes (λ nu. f) (λ nu a. a) y m l
  ask_takes l unfound low (Ok a) (asking.answered f' v e w d) = subst (λ l. Gives (λ nu. f) (λ nu. f'.answer) m l) (sym e) (ask_answered unfound low f' v w (λ E su. d E (subst (Suits E) (sym e) su)))
  ask_takes l unfound low (Err y) (asking.missing e out d) =
      let g : l ≡ with_wait = e ∙ ap (λ w. record m { heap = n.heap; waits = w }) (noted_waits q) in
      subst (λ l. Leaves (λ nu. f) (exit.Halted halt.Waits) m l) (sym g) (ask_missing unfound low out (λ E su. d E (subst (Suits E) (sym g) su)))
  ask_takes l unfound low (Err y) (asking.refused why v e d) = subst (λ l. Leaves (λ nu. f) (exit.Stopped why) m l) (sym e) (ask_refused unfound low why v (λ E su. d E (subst (Suits E) (sym e) su)))
  ask_takes l unfound low (Err y) (asking.lost z h) = subst (λ y. Leaves (λ nu. f) y m l) (sym h.is)
      (lost_leaves m l (same_trans {a = m} {b = record m { heap = n.heap }} {c = l} (record { later = tt; session = refl; trace = refl; pairs = refl; grows = grown }) h.same) h.made h.stopped)
