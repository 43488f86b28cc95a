-- A run goes on with its asker: what holds from one to the next holds over both, and of a run whose asker was not asked.
use Rattle.std.specs.Prelude.{List, Option, Some, Bool, true, false, if◌then◌else◌, min}
use Rattle.std.proofs.Common.{◌≡◌, ◌+◌, ◌≤◌, arith, ℕ, refl, sym, ap, subst, ◌∙◌, [], ◌∷◌, ◌++◌, inl, inr, ◌⊎◌, append-nil, append_assoc}
use Rattle.std.proofs.lemmas.List.{append_cancel_left}
use native.Mathlib.Nat.{le_refl, le_trans}
use Rattle.outside.specs.Faults.{Rose}
use Rattle.turk_base.specs.Names.{In}
use Rattle.turk_base.specs.Names.In.{first, later}
use Rattle.turk_base.specs.Trace.{answer, same_list, token_of}
use Rattle.turk_base.specs.declared.Entry.{Entry}
use Rattle.ask_model.specs.declared.AskStop.{AskStop}
use Rattle.ask_model.specs.Asker.{Seen as Asked, Pairs, known_to}
use Rattle.run_host.specs.Moment.{Chain}
use Rattle.machine_host.specs.declared.AskedRun.{AskedRun}
use Rattle.machine_host.specs.declared.Unmade.{Unmade}
use Rattle.machine_host.specs.Chain.{IsStill, IsRecordOf, IsHeldPost, IsCause, IsOpen, LeftNow, LeftBetween, Traces, IsPosted, Tasks, Later, Goes}
use Rattle.machine_host.specs.Chain.Goes.{here, onward}

-- ---- lists, tokens and counts

found_more : (b : Bool) (x y z : Option (List ℕ)) (text : List ℕ) → (y ≡ Some text → z ≡ Some text) → (if b then x else y) ≡ Some text → (if b then x else z) ≡ Some text
found_more true x y z text h e = e
found_more false x y z text h e = h e

answer_more : (l more : Pairs) (token text : List ℕ) → answer l token ≡ Some text → answer (l ++ more) token ≡ Some text
answer_more [] more token text e = absurd (cc)
answer_more (r ∷ rs) more token text e = found_more (same_list r.0 token) (Some r.1) (answer rs token) (answer (rs ++ more) token) text (answer_more rs more token text) e

none_added : {B : Type 0} (l more : List B) → l ≡ l ++ more → more ≡ []
none_added l more e = append_cancel_left l more [] (sym e ∙ sym (append-nil l))

in_front : {B : Type 0} {x : B} (l m : List B) → In B x l → In B x (l ++ m)
in_front [] m h = elim h [ ]
in_front (y ∷ l) m first = first
in_front (y ∷ l) m (later h) = later (in_front l m h)

in_back : {B : Type 0} {x : B} (l m : List B) → In B x m → In B x (l ++ m)
in_back [] m h = h
in_back (y ∷ l) m h = later (in_back l m h)

in_either : {B : Type 0} {x : B} (l m : List B) → In B x (l ++ m) → In B x l ⊎ In B x m
in_either [] m h = inr h
in_either (y ∷ l) m first = inl first
in_either (y ∷ l) m (later h) = elim (in_either l m h) [ inl a ↦ inl (later a) | inr a ↦ inr a ]

least_before : (a b c k : ℕ) → a ≤ b → min (b + 1) k ≤ c → min (a + 1) k ≤ c
least_before a b c k h r = omega arith

rose_before : (a b c : ℕ) → a ≤ b → Rose b c → Rose a c
rose_before a b c h r = least_before a b c _ h r

rose_after : (a b c : ℕ) → b ≤ c → Rose a b → Rose a c
rose_after a b c h r = le_trans r h

-- ---- a run whose asker was not asked

module _ {A : Type 0} (seen : A → Asked) where
  still_open : {old new : AskedRun A} (e : Entry) → IsStill old new → IsOpen seen old e → IsOpen seen new e
  still_open {old} {new} e s o = record {
    closed = s.closed ∙ o.closed;
    stopped = s.stopped ∙ o.stopped;
    is = subst (λ (u : Unmade). IsRecordOf (seen new.asker).replies u e) (sym s.unmade) (subst (λ (a : A). IsRecordOf (seen a).replies old.notes.unmade e) (sym s.asker) o.is);
  }

  still_left : {old new : AskedRun A} (t : List Entry) → IsStill old new → LeftNow seen old t → LeftNow seen new t
  still_left t s (inl is) = inl (is ∙ ap (λ (a : A). known_to (seen a)) (sym s.asker))
  still_left t s (inr (e, o, is)) = inr (e, still_open e s o, is ∙ ap (λ (a : A). known_to (seen a) ++ e ∷ []) (sym s.asker))

  still_traces : (moment : A → ℕ) (left_since : A → ℕ → List Entry → Type 0) (old new : AskedRun A) → IsStill old new → Traces seen moment left_since old new []
  still_traces moment left_since old new s = record {
    later = subst (λ (a : A). moment old.asker ≤ moment a) (sym s.asker) (le_refl (moment old.asker));
    since = λ m t le l. inl (subst (λ (a : A). left_since a m t) s.asker l);
    now = λ h t l. still_left t s (h t (subst (λ (a : A). left_since a (moment a) t) s.asker l));
  }

  still_cause : (fits : A → Entry → Bool) (old new : AskedRun A) (why : AskStop) → IsStill old new → IsCause seen fits old why → IsCause seen fits new why
  still_cause fits old new why s c = record {
    closed = s.closed ∙ c.closed;
    unfit = λ is.
        let u = c.unfit is in (
          u.0,
          subst (λ (v : Unmade). IsRecordOf (seen new.asker).replies v u.0) (sym s.unmade) (subst (λ (a : A). IsRecordOf (seen a).replies old.notes.unmade u.0) (sym s.asker) u.1),
          ap (λ (a : A). fits a u.0) s.asker ∙ u.2,
        );
    held = λ d is. subst (λ (v : Unmade). IsHeldPost d v) (sym s.unmade) (c.held d is);
  }

  -- as many tasks, and no record
  pub no_tasks : (old new : AskedRun A) → (seen new.asker).tasks ≡ (seen old.asker).tasks → Tasks seen old new []
  no_tasks old new same = record {
    more = [];
    tasks = same ∙ sym (append-nil (seen old.asker).tasks);
    posted = λ task h. elim h [ ];
    held = λ path text h. elim h [ ];
  }

-- ---- two steps in a row

module _ {A : Type 0} (seen : A → Asked) (old mid new : AskedRun A) (a b : List Entry) (still : mid.closed ≡ true → IsStill mid new) (none : mid.closed ≡ true → b ≡ []) where
  first_left : (t : List Entry) → LeftBetween seen (seen old.asker) a mid t → LeftBetween seen (seen old.asker) (a ++ b) new t
  first_left t (inl (front, rest, is, e)) = inl (front, rest ++ b, ap (λ (l : List Entry). l ++ b) is ∙ append_assoc front rest b, e)
  first_left t (inr (e, o, is)) =
      let all : a ≡ a ++ b = sym (ap (λ (l : List Entry). a ++ l) (none o.closed) ∙ append-nil a) in
      inr (e, still_open seen e (still o.closed) o, is ∙ ap (λ (l : List Entry). known_to (seen old.asker) ++ (l ++ e ∷ [])) all)

  second_left : known_to (seen mid.asker) ≡ known_to (seen old.asker) ++ a → (t : List Entry) → LeftBetween seen (seen mid.asker) b new t → LeftBetween seen (seen old.asker) (a ++ b) new t
  second_left known t (inl (front, rest, is, e)) = inl (a ++ front, rest, ap (λ (l : List Entry). a ++ l) is ∙ sym (append_assoc a front rest), e ∙ ap (λ (l : List Entry). l ++ front) known ∙ append_assoc (known_to (seen old.asker)) a front)
  second_left known t (inr (e, o, is)) = inr (e, o, is ∙ ap (λ (l : List Entry). l ++ (b ++ e ∷ [])) known ∙ append_assoc (known_to (seen old.asker)) a (b ++ e ∷ []) ∙ ap (λ (l : List Entry). known_to (seen old.asker) ++ l) (sym (append_assoc a b (e ∷ []))))

  traces_trans : (moment : A → ℕ) (left_since : A → ℕ → List Entry → Type 0) → known_to (seen mid.asker) ≡ known_to (seen old.asker) ++ a → Traces seen moment left_since old mid a → Traces seen moment left_since mid new b → Traces seen moment left_since old new (a ++ b)
  traces_trans moment left_since known x y = record {
    later = le_trans x.later y.later;
    since = λ m t le l. elim (y.since m t (le_trans le x.later) l) [
      | inl k ↦ elim (x.since m t le k) [ inl j ↦ inl j | inr j ↦ inr (first_left t j) ]
      | inr k ↦ inr (second_left known t k)
    ];
    now = λ h t l. y.now (x.now h) t l;
  }

  first_posted : new.notes.session ≡ mid.notes.session → (seen mid.asker).disk_faults ≤ (seen new.asker).disk_faults → (seen mid.asker).board_faults ≤ (seen new.asker).board_faults → (task : List ℕ × List ℕ) → IsPosted seen old mid a task → IsPosted seen old new (a ++ b) task
  first_posted session disk board task (path, is, inl made) = (path, is ∙ ap (λ (s : List ℕ). token_of s path) (sym session), inl (in_front a b made))
  first_posted session disk board task (path, is, inr u) =
      let s = still u.closed in (
        path,
        is ∙ ap (λ (s : List ℕ). token_of s path) (sym session),
        inr (record {
          closed = s.closed ∙ u.closed;
          which = u.which;
          stopped = s.stopped ∙ u.stopped;
          unmade = s.unmade ∙ u.unmade;
          rose = elim u.rose [ inl r ↦ inl (rose_after _ _ _ disk r) | inr r ↦ inr (rose_after _ _ _ board r) ];
        }),
      )

  second_posted : (seen old.asker).disk_faults ≤ (seen mid.asker).disk_faults → (seen old.asker).board_faults ≤ (seen mid.asker).board_faults → (task : List ℕ × List ℕ) → IsPosted seen mid new b task → IsPosted seen old new (a ++ b) task
  second_posted disk board task (path, is, inl made) = (path, is, inl (in_back a b made))
  second_posted disk board task (path, is, inr u) = (
    path,
    is,
    inr (record {
      closed = u.closed;
      which = u.which;
      stopped = u.stopped;
      unmade = u.unmade;
      rose = elim u.rose [ inl r ↦ inl (rose_before _ _ _ disk r) | inr r ↦ inr (rose_before _ _ _ board r) ];
    }),
  )

  module _ (session : new.notes.session ≡ mid.notes.session) (disk : (seen old.asker).disk_faults ≤ (seen mid.asker).disk_faults) (board : (seen old.asker).board_faults ≤ (seen mid.asker).board_faults)
      (disk_on : (seen mid.asker).disk_faults ≤ (seen new.asker).disk_faults) (board_on : (seen mid.asker).board_faults ≤ (seen new.asker).board_faults) where
    tasks_trans : Tasks seen old mid a → Tasks seen mid new b → Tasks seen old new (a ++ b)
    tasks_trans x y = record {
      more = x.more ++ y.more;
      tasks = y.tasks ∙ ap (λ (l : Pairs). l ++ y.more) x.tasks ∙ append_assoc (seen old.asker).tasks x.more y.more;
      posted = λ task h. elim (in_either x.more y.more h) [
        | inl k ↦ first_posted session disk_on board_on task (x.posted task k)
        | inr k ↦ second_posted disk board task (y.posted task k)
      ];
      held = λ path text h. elim (in_either a b h) [
        | inl k ↦ subst (λ (l : Pairs). answer l (token_of new.notes.session path) ≡ Some text) (sym y.tasks)
            (answer_more (seen mid.asker).tasks y.more (token_of new.notes.session path) text (subst (λ (s : List ℕ). answer (seen mid.asker).tasks (token_of s path) ≡ Some text) (sym session) (x.held path text k)))
        | inr k ↦ y.held path text k
      ];
    }

-- ---- all of it

module _ {A : Type 0} (seen : A → Asked) (fits : A → Entry → Bool) (keeps : A → A → Type 0) (tells_tasks tells_traces : Type 0) (moment : A → ℕ) (left_since : A → ℕ → List Entry → Type 0) where
  pub later_still : ((a : A) → keeps a a) → (old new : AskedRun A) → IsStill old new → Later seen fits keeps tells_tasks tells_traces moment left_since old new
  later_still keeps_refl old new s = record {
    keeps = subst (λ (a : A). keeps old.asker a) (sym s.asker) (keeps_refl old.asker);
    session = s.session;
    still = λ closed. s;
    refused = λ why is. inl (sym s.stopped ∙ is);
    trace = ap (λ (a : A). (seen a).trace) s.asker;
    replies = ap (λ (a : A). (seen a).replies) s.asker;
    disk = subst (λ (a : A). (seen old.asker).disk_faults ≤ (seen a).disk_faults) (sym s.asker) (le_refl (seen old.asker).disk_faults);
    board = subst (λ (a : A). (seen old.asker).board_faults ≤ (seen a).board_faults) (sym s.asker) (le_refl (seen old.asker).board_faults);
    added = [];
    made = ap (λ (a : A). (seen a).made) s.asker ∙ sym (append-nil (seen old.asker).made);
    traces = λ tells. still_traces seen moment left_since old new s;
    tasks = λ tells. no_tasks seen old new (ap (λ (a : A). (seen a).tasks) s.asker);
  }

  pub later_refl : ((a : A) → keeps a a) → (h : AskedRun A) → Later seen fits keeps tells_tasks tells_traces moment left_since h h
  later_refl keeps_refl h = later_still keeps_refl h h (record { asker = refl; closed = refl; session = refl; stopped = refl; unmade = refl })

  still_trans : (old mid new : AskedRun A) → IsStill old mid → IsStill mid new → IsStill old new
  still_trans old mid new x y = record {
    asker = y.asker ∙ x.asker;
    closed = y.closed ∙ x.closed;
    session = y.session ∙ x.session;
    stopped = y.stopped ∙ x.stopped;
    unmade = y.unmade ∙ x.unmade;
  }

  pub later_trans : ((a b c : A) → keeps a b → keeps b c → keeps a c) → (old mid new : AskedRun A) → Later seen fits keeps tells_tasks tells_traces moment left_since old mid → Later seen fits keeps tells_tasks tells_traces moment left_since mid new → Later seen fits keeps tells_tasks tells_traces moment left_since old new
  later_trans keeps_trans old mid new x y =
      let none = λ (closed : mid.closed ≡ true). none_added (seen mid.asker).made y.added (sym (ap (λ (a : A). (seen a).made) (y.still closed).asker) ∙ y.made) in
      let known : known_to (seen mid.asker) ≡ known_to (seen old.asker) ++ x.added = ap (λ (l : List Entry). l ++ (seen mid.asker).made) x.trace ∙ ap (λ (l : List Entry). (seen old.asker).trace ++ l) x.made ∙ sym (append_assoc (seen old.asker).trace (seen old.asker).made x.added) in
      record {
        keeps = keeps_trans old.asker mid.asker new.asker x.keeps y.keeps;
        session = y.session ∙ x.session;
        still = λ closed. let s = x.still closed in still_trans old mid new s (y.still (s.closed ∙ closed));
        refused = λ why is. elim (y.refused why is) [
          | inl told ↦ elim (x.refused why told) [ inl before ↦ inl before | inr c ↦ inr (still_cause seen fits mid new why (y.still c.closed) c) ]
          | inr c ↦ inr c
        ];
        trace = y.trace ∙ x.trace;
        replies = y.replies ∙ x.replies;
        disk = le_trans x.disk y.disk;
        board = le_trans x.board y.board;
        added = x.added ++ y.added;
        made = y.made ∙ ap (λ (l : List Entry). l ++ y.added) x.made ∙ append_assoc (seen old.asker).made x.added y.added;
        traces = λ tells. traces_trans seen old mid new x.added y.added y.still none moment left_since known (x.traces tells) (y.traces tells);
        tasks = λ tells. tasks_trans seen old mid new x.added y.added y.still none y.session x.disk x.board y.disk y.board (x.tasks tells) (y.tasks tells);
      }

  -- in many steps, as in one
  pub later_all : ((a : A) → keeps a a) → ((a b c : A) → keeps a b → keeps b c → keeps a c) → (old new : AskedRun A) → Goes (Later seen fits keeps tells_tasks tells_traces moment left_since) old new → Later seen fits keeps tells_tasks tells_traces moment left_since old new
  later_all keeps_refl keeps_trans old new here = later_refl keeps_refl old
  later_all keeps_refl keeps_trans old new (onward mid last g h) = later_trans keeps_trans old mid last (later_all keeps_refl keeps_trans old mid g) h

-- ---- the runs over one asker, each of which may come after another

pub goes_trans : {S : Type 0} {To : S → S → Type 0} (a b c : S) → Goes To a b → Goes To b c → Goes To a c
goes_trans a b c g here = g
goes_trans a b c g (onward d e h t) = onward d e (goes_trans a b d g h) t

abbrev pub chain_of : {A : Type 0} → (A → Asked) → (A → Entry → Bool) → (A → A → Type 0) → Type 0 → Type 0 → (A → ℕ) → (A → ℕ → List Entry → Type 0) → Chain
chain_of {A} seen fits keeps tells_tasks tells_traces moment left_since = record {
  State = AskedRun A;
  To = Goes (Later seen fits keeps tells_tasks tells_traces moment left_since);
  stays = λ a. here;
  goes_on = goes_trans;
}
