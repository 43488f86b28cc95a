-- What one call of the asker did: how a run goes on with its asker.
use Rattle.std.specs.Prelude.{ℤ, List, Option, Some, None, Result, Ok, Err, Bool, true, false}
use Rattle.std.proofs.Common.{◌≡◌, ◌≤◌, ℕ, refl, sym, ap, subst, ◌∙◌, [], ◌∷◌, ◌++◌, inl, inr, ◌⊎◌, append-nil}
use native.Mathlib.Nat.{le_refl}
use Rattle.outside.specs.Faults.{Rose}
use Rattle.turk_base.specs.Names.{In}
use Rattle.turk_base.specs.Names.In.{first, later}
use Rattle.turk_base.specs.Trace.{answer, token_of}
use Rattle.turk_base.specs.Values.{Data}
use Rattle.turk_base.specs.declared.Entry.{Entry}
use Rattle.turk_base.specs.declared.Record.TheVariants as kept
use Rattle.ask_model.specs.declared.Which.{Which}
use Rattle.ask_model.specs.declared.Which.TheVariants.{Disk, Board}
use Rattle.ask_model.specs.declared.Divergence.{Divergence}
use Rattle.ask_model.specs.declared.AskStop.{AskStop}
use Rattle.ask_model.specs.declared.AskStop.TheVariants.{Fault, Diverged, TraceFull, LogFull, Memory}
use Rattle.ask_model.specs.Asker.{Seen as Asked, Pairs, known_to, asked_at, entry, HasCause, Stays, Adds, IsAnswer, LacksRoom, NoBoard, IsHeld, Leaves, Perhaps, Posts, Replies, WithReply}
use Rattle.machine_host.specs.declared.AskedRun.{AskedRun}
use Rattle.machine_host.specs.declared.Notes.{Notes}
use Rattle.machine_host.specs.declared.Question.TheVariants.{Post, Reply}
use Rattle.machine_host.specs.declared.Unmade.{Unmade}
use Rattle.machine_host.specs.declared.Unmade.TheVariants.{Asking}
use Rattle.machine_host.specs.Chain.{IsStill, Closes, IsRecordOf, IsHeldPost, IsCause, IsOpen, LeftNow, LeftBetween, Traces, IsUnrecorded, IsPosted, Tasks, Later}
use Rattle.machine_host.specs.Laws.{no_tasks}
pub use Rattle.machine_host.specs.Laws.{later_still, later_refl, later_trans}

-- ---- one call of the asker: what it did to the tasks

in_one : {B : Type 0} {x y : B} → In B x (y ∷ []) → x ≡ y
in_one first = refl
in_one (later h) = elim h [ ]

same_post : {path text path' text' : List ℕ} → entry path (kept.Post text) ≡ entry path' (kept.Post text') → (path ≡ path') × (text ≡ text')
same_post e = let w = ap (λ (e : Entry). e.what) e in (ap (λ (e : Entry). e.path) e, cc)

-- why a post was refused that left the tasks with one more
post_refused : (token text : List ℕ) (old new : Pairs) (why : AskStop) → Posts token text old new (Some why) → (new ≡ old) ⊎ ((which : Which) × (why ≡ Fault which) × (new ≡ old ++ (token, text) ∷ []))
post_refused token text old new (Fault which) p = elim p.only [ inl same ↦ inl same | inr q ↦ inr (which, refl, q.1) ]
post_refused token text old new (Diverged d) p = inl p.task.0
post_refused token text old new TraceFull p = inl p.task
post_refused token text old new LogFull p = inl p.task
post_refused token text old new Memory p = inl p.task

rose_of : (old new : Asked) (which : Which) → HasCause old new (Some (Fault which)) → Rose old.disk_faults new.disk_faults ⊎ Rose old.board_faults new.board_faults
rose_of old new Disk r = inl r
rose_of old new Board r = inr r

module _ {A : Type 0} (seen : A → Asked) where
  -- a record that is no post's was made
  pub other_made : (old new : AskedRun A) (e : Entry) → ((path text : List ℕ) → e ≡ entry path (kept.Post text) → ⊥) → (seen new.asker).tasks ≡ (seen old.asker).tasks → Tasks seen old new (e ∷ [])
  other_made old new e other same = record {
    more = [];
    tasks = same ∙ sym (append-nil (seen old.asker).tasks);
    posted = λ task h. elim h [ ];
    held = λ path text h. absurd (other path text (sym (in_one h)));
  }

  pub post_made : (old new : AskedRun A) (path token text : List ℕ) → token ≡ token_of new.notes.session path → Posts token text (seen old.asker).tasks (seen new.asker).tasks None → Tasks seen old new (entry path (kept.Post text) ∷ [])
  post_made old new path token text is p = record {
    more = by.0;
    tasks = by.1;
    posted = by.2;
    held = λ path' text' h.
        let same = same_post (in_one h) in
        ap (λ (l : List ℕ). answer (seen new.asker).tasks (token_of new.notes.session l)) same.0 ∙ ap (answer (seen new.asker).tasks) (sym is) ∙ p.task ∙ ap Some (sym same.1);
  }
    where
      by : (more : Pairs) × ((seen new.asker).tasks ≡ (seen old.asker).tasks ++ more) × ((task : List ℕ × List ℕ) → In (List ℕ × List ℕ) task more → IsPosted seen old new (entry path (kept.Post text) ∷ []) task)
      by = elim p.only [
        | inl same ↦ ([], same ∙ sym (append-nil (seen old.asker).tasks), λ task h. elim h [ ])
        | inr q ↦ ((token, text) ∷ [], q.1, λ task h. subst (λ (task : List ℕ × List ℕ). IsPosted seen old new (entry path (kept.Post text) ∷ []) task) (sym (in_one h)) (path, is, inl first))
      ]

  -- a call that is no post was refused
  pub other_unmade : (old mid new : AskedRun A) → new.asker ≡ mid.asker → (seen mid.asker).tasks ≡ (seen old.asker).tasks → Tasks seen old new []
  other_unmade old mid new asker same = no_tasks seen old new (ap (λ (a : A). (seen a).tasks) asker ∙ same)

  pub post_unmade : (old mid new : AskedRun A) (path token text : List ℕ) (why : AskStop) (unmade : Unmade) → Closes why unmade mid new → mid.notes.session ≡ old.notes.session → unmade ≡ Asking path (Post text) → token ≡ token_of old.notes.session path
      → Stays (seen old.asker) (seen mid.asker) (Some why) → Posts token text (seen old.asker).tasks (seen mid.asker).tasks (Some why) → Tasks seen old new []
  post_unmade old mid new path token text why unmade c session un is stays p =
      elim (post_refused token text (seen old.asker).tasks (seen mid.asker).tasks why p) [ inl same ↦ other_unmade old mid new c.asker same | inr q ↦ lacking q.0 q.1 q.2 ]
    where
      clash : (d : Divergence) (which : Which) → Diverged d ≡ Fault which → ⊥
      clash d which e = cc

      told : (which : Which) → why ≡ Fault which → (new.notes.stopped ≡ Some why) × (new.notes.unmade ≡ unmade)
      told which cause = elim c.told [ inl t ↦ t | inr d ↦ absurd (clash d.0.0 which (sym d.0.1 ∙ cause)) ]

      unrecorded : (which : Which) → why ≡ Fault which → IsUnrecorded seen old new path text
      unrecorded which cause = record {
        closed = c.closed;
        which = which;
        stopped = (told which cause).0 ∙ ap Some cause;
        unmade = (told which cause).1 ∙ un;
        rose = rose_of (seen old.asker) (seen new.asker) which (subst (λ (a : A). HasCause (seen old.asker) (seen a) (Some (Fault which))) (sym c.asker) (subst (λ (w : AskStop). HasCause (seen old.asker) (seen mid.asker) (Some w)) cause stays.cause));
      }

      lacking : (which : Which) → why ≡ Fault which → (seen mid.asker).tasks ≡ (seen old.asker).tasks ++ (token, text) ∷ [] → Tasks seen old new []
      lacking which cause more = record {
        more = (token, text) ∷ [];
        tasks = ap (λ (a : A). (seen a).tasks) c.asker ∙ more;
        posted = λ task h. subst (λ (task : List ℕ × List ℕ). IsPosted seen old new [] task) (sym (in_one h)) (path, is ∙ ap (λ (s : List ℕ). token_of s path) (sym (c.session ∙ session)), inr (unrecorded which cause));
        held = λ path text h. elim h [ ];
      }

-- ---- why a call was refused

same_some : {B : Type 0} {x y : B} → Some x ≡ Some y → x ≡ y
same_some e = cc

-- A post was refused since the board held another text.
pub held_post : (d : Divergence) (path text : List ℕ) (unmade : Unmade) (why : AskStop) → unmade ≡ Asking path (Post text) → IsHeld path text (Some why) → why ≡ Diverged d → IsHeldPost d unmade
held_post d path text unmade why un held is = subst (λ (u : Unmade). IsHeldPost d u) (sym un) (subst (λ (w : AskStop). IsHeld path text (Some w)) is held)

-- A call that has to do with no board is not refused so.
pub no_held : (d : Divergence) (unmade : Unmade) (why : AskStop) → NoBoard (Some why) → why ≡ Diverged d → IsHeldPost d unmade
no_held d unmade why none is = absurd (subst (λ (w : AskStop). NoBoard (Some w)) is none)

-- ---- one call of the asker

-- what a refused call leaves
perhaps_refused : (why : AskStop) (s : Asked) (e : Entry) (t : List Entry) → Perhaps (Some why) s e t → (t ≡ known_to s) ⊎ ((why ≡ Fault Disk) × (t ≡ known_to s ++ e ∷ []))
perhaps_refused (Fault Disk) s e t (inl k) = inl k
perhaps_refused (Fault Disk) s e t (inr k) = inr (refl, k)
perhaps_refused (Fault Board) s e t k = inl k
perhaps_refused (Diverged d) s e t k = inl k
perhaps_refused TraceFull s e t k = inl k
perhaps_refused LogFull s e t k = inl k
perhaps_refused Memory s e t k = inl k

not_closed : {b : Bool} → b ≡ false → b ≡ true → ⊥
not_closed e d = cc

module _ {A : Type 0} (seen : A → Asked) where
  same_left : (h : AskedRun A) (s : Asked) (t : List Entry) → t ≡ known_to s → LeftBetween seen s [] h t
  same_left h s t is = inl ([], [], refl, is ∙ sym (append-nil (known_to s)))

  one_left : (h : AskedRun A) (s : Asked) (e : Entry) (t : List Entry) → Perhaps None s e t → LeftBetween seen s (e ∷ []) h t
  one_left h s e t (inl is) = inl ([], e ∷ [], refl, is ∙ sym (append-nil (known_to s)))
  one_left h s e t (inr is) = inl (e ∷ [], [], refl, is)

  asked_left : (old new : AskedRun A) (path : List ℕ) (t : List Entry) → seen new.asker ≡ asked_at (seen old.asker) path → old.closed ≡ false → LeftNow seen old t → LeftNow seen new t
  asked_left old new path t asked open_run (inl is) = inl (is ∙ ap known_to (sym asked))
  asked_left old new path t asked open_run (inr (e, o, is)) = absurd (not_closed open_run o.closed)

module _ {A : Type 0} (seen : A → Asked) (fits : A → Entry → Bool) (keeps : A → A → Type 0) (tells_tasks tells_traces : Type 0) (moment : A → ℕ) (left_since : A → ℕ → List Entry → Type 0) where
  -- what is known at a path was asked
  pub later_known : (old new : AskedRun A) (path : List ℕ) → keeps old.asker new.asker → seen new.asker ≡ asked_at (seen old.asker) path → (tells_traces → moment new.asker ≡ moment old.asker)
      → (tells_traces → (m : ℕ) (t : List Entry) → left_since new.asker m t → left_since old.asker m t) → old.closed ≡ false → new.notes ≡ old.notes → Later seen fits keeps tells_tasks tells_traces moment left_since old new
  later_known old new path k asked same before open_run notes = record {
    keeps = k;
    session = ap (λ (n : Notes). n.session) notes;
    still = λ closed. absurd (not_closed open_run closed);
    refused = λ why is. inl (ap (λ (n : Notes). n.stopped) (sym notes) ∙ is);
    trace = ap (λ (s : Asked). s.trace) asked;
    replies = ap (λ (s : Asked). s.replies) asked;
    disk = subst (λ (s : Asked). (seen old.asker).disk_faults ≤ s.disk_faults) (sym asked) (le_refl (seen old.asker).disk_faults);
    board = subst (λ (s : Asked). (seen old.asker).board_faults ≤ s.board_faults) (sym asked) (le_refl (seen old.asker).board_faults);
    added = [];
    made = ap (λ (s : Asked). s.made) asked ∙ sym (append-nil (seen old.asker).made);
    traces = λ tells. record {
      later = subst (λ (n : ℕ). moment old.asker ≤ n) (sym (same tells)) (le_refl (moment old.asker));
      since = λ m t le l. inl (before tells m t l);
      now = λ h t l. asked_left seen old new path t asked open_run (h t (subst (λ (n : ℕ). left_since old.asker n t) (same tells) (before tells (moment new.asker) t l)));
    };
    tasks = λ tells. no_tasks seen old new (ap (λ (s : Asked). s.tasks) asked);
  }

module _ {A : Type 0} (seen : A → Asked) (fits : A → Entry → Bool) (is_sound : A → Type 0) (keeps : A → A → Type 0) (tells_tasks tells_traces : Type 0) (moment : A → ℕ) (left_since : A → ℕ → List Entry → Type 0)
    (now_is : (s : A) (t : List Entry) → tells_traces → is_sound s → (seen s).closed ≡ false → left_since s (moment s) t → t ≡ known_to (seen s))
    (counts_now : (s : A) (m : ℕ) (t : List Entry) → tells_traces → m ≤ moment s → left_since s (moment s) t → left_since s m t) where
  abbrev IsLater : AskedRun A → AskedRun A → Type 0
  IsLater old new = Later seen fits keeps tells_tasks tells_traces moment left_since old new

  abbrev Left : A → A → (List Entry → Type 0) → Type 0
  Left old new P = tells_traces → Leaves moment left_since old new P

  -- a record was made
  pub later_made : (old new : AskedRun A) (e : Entry) → keeps old.asker new.asker → Adds (fits old.asker) (fits new.asker) e (seen old.asker) (seen new.asker) None → old.closed ≡ false → (seen old.asker).closed ≡ false → is_sound new.asker
      → new.notes ≡ old.notes → Left old.asker new.asker (Perhaps None (seen old.asker) e) → (tells_tasks → Tasks seen old new (e ∷ [])) → IsLater old new
  later_made old new e k adds open_run open_asker sound notes left tasks = record {
    keeps = k;
    session = ap (λ (n : Notes). n.session) notes;
    still = λ closed. absurd (not_closed open_run closed);
    refused = λ why is. inl (ap (λ (n : Notes). n.stopped) (sym notes) ∙ is);
    trace = adds.stays.trace;
    replies = adds.stays.replies;
    disk = adds.stays.disk_later;
    board = adds.stays.board_later;
    added = e ∷ [];
    made = adds.made;
    traces = λ tells. let w = left tells in record {
      later = w.later;
      since = λ m t le l. elim (w.before m t le l) [ inl j ↦ inl j | inr j ↦ inr (one_left seen new (seen old.asker) e t j) ];
      now = λ h t l. inl (now_is new.asker t tells sound (adds.stays.closed ∙ open_asker) l);
    };
    tasks = tasks;
  }

  -- no record was to be made
  pub later_none : (old new : AskedRun A) → keeps old.asker new.asker → Stays (seen old.asker) (seen new.asker) None → (seen new.asker).made ≡ (seen old.asker).made → old.closed ≡ false → (seen old.asker).closed ≡ false → is_sound new.asker
      → new.notes ≡ old.notes → Left old.asker new.asker (λ t. t ≡ known_to (seen old.asker)) → (tells_tasks → (seen new.asker).tasks ≡ (seen old.asker).tasks) → IsLater old new
  later_none old new k stays made open_run open_asker sound notes left tasks = record {
    keeps = k;
    session = ap (λ (n : Notes). n.session) notes;
    still = λ closed. absurd (not_closed open_run closed);
    refused = λ why is. inl (ap (λ (n : Notes). n.stopped) (sym notes) ∙ is);
    trace = stays.trace;
    replies = stays.replies;
    disk = stays.disk_later;
    board = stays.board_later;
    added = [];
    made = made ∙ sym (append-nil (seen old.asker).made);
    traces = λ tells. let w = left tells in record {
      later = w.later;
      since = λ m t le l. elim (w.before m t le l) [ inl j ↦ inl j | inr j ↦ inr (same_left seen new (seen old.asker) t j) ];
      now = λ h t l. inl (now_is new.asker t tells sound (stays.closed ∙ open_asker) l);
    };
    tasks = λ tells. no_tasks seen old new (tasks tells);
  }

  -- a record was refused, and the run was closed
  module _ (old mid new : AskedRun A) (e : Entry) (why : AskStop) (unmade : Unmade) (closes : Closes why unmade mid new) (trace : (seen mid.asker).trace ≡ (seen old.asker).trace) (replies : (seen mid.asker).replies ≡ (seen old.asker).replies)
      (made : (seen mid.asker).made ≡ (seen old.asker).made) (is : IsRecordOf (seen old.asker).replies unmade e) where
    record_now : new.notes.unmade ≡ unmade → IsRecordOf (seen new.asker).replies new.notes.unmade e
    record_now told = subst (λ (u : Unmade). IsRecordOf (seen new.asker).replies u e) (sym told) (subst (λ (l : Pairs). IsRecordOf l unmade e) (sym (ap (λ (a : A). (seen a).replies) closes.asker ∙ replies)) is)

    open_by : why ≡ Fault Disk → IsOpen seen new e
    open_by cause = record {
      closed = closes.closed;
      stopped = told.0 ∙ ap Some cause;
      is = record_now told.1;
    }
      where
        clash : (d : Divergence) → Diverged d ≡ Fault Disk → ⊥
        clash d e = cc

        told : (new.notes.stopped ≡ Some why) × (new.notes.unmade ≡ unmade)
        told = elim closes.told [ inl t ↦ t | inr d ↦ absurd (clash d.0.0 (sym d.0.1 ∙ cause)) ]

    -- The refusal that is told is this one, or the one that was told before.
    told_now : (w : AskStop) → mid.notes ≡ old.notes → new.notes.stopped ≡ Some w → (old.notes.stopped ≡ Some w) ⊎ ((why ≡ w) × (new.notes.unmade ≡ unmade))
    told_now w notes now = elim closes.told [ inl t ↦ inr (same_some (sym t.0 ∙ now), t.1) | inr d ↦ inl (ap (λ (n : Notes). n.stopped) (sym notes) ∙ sym d.1 ∙ now) ]

    cause_now : (w : AskStop) → IsAnswer (fits old.asker) (fits mid.asker) e (seen old.asker) (Some why) → ((d : Divergence) → why ≡ Diverged d → IsHeldPost d unmade) → why ≡ w → new.notes.unmade ≡ unmade → IsCause seen fits new w
    cause_now w answers held same told = record {
      closed = closes.closed;
      unfit = λ is.
          let lacks : LacksRoom (fits old.asker) (fits mid.asker) e (seen old.asker) = subst (λ (s : AskStop). IsAnswer (fits old.asker) (fits mid.asker) e (seen old.asker) (Some s)) (same ∙ is) answers in
          (e, record_now told, ap (λ (a : A). fits a e) closes.asker ∙ lacks.still);
      held = λ d is. subst (λ (u : Unmade). IsHeldPost d u) (sym told) (held d (same ∙ is));
    }

    refused_cause : (w : AskStop) → mid.notes ≡ old.notes → IsAnswer (fits old.asker) (fits mid.asker) e (seen old.asker) (Some why) → ((d : Divergence) → why ≡ Diverged d → IsHeldPost d unmade) → new.notes.stopped ≡ Some w → (old.notes.stopped ≡ Some w) ⊎ IsCause seen fits new w
    refused_cause w notes answers held now = elim (told_now w notes now) [ inl before ↦ inl before | inr t ↦ inr (cause_now w answers held t.0 t.1) ]

    known_still : known_to (seen old.asker) ≡ known_to (seen new.asker)
    known_still = sym (ap (λ (a : A). known_to (seen a)) closes.asker ∙ ap (λ (l : List Entry). l ++ (seen mid.asker).made) trace ∙ ap (λ (l : List Entry). (seen old.asker).trace ++ l) made)

    refused_between : (t : List Entry) → Perhaps (Some why) (seen old.asker) e t → LeftBetween seen (seen old.asker) [] new t
    refused_between t p = elim (perhaps_refused why (seen old.asker) e t p) [ inl k ↦ same_left seen new (seen old.asker) t k | inr k ↦ inr (e, open_by k.0, k.1) ]

    refused_now : (t : List Entry) → Perhaps (Some why) (seen old.asker) e t → LeftNow seen new t
    refused_now t p = elim (perhaps_refused why (seen old.asker) e t p) [ inl k ↦ inl (k ∙ known_still) | inr k ↦ inr (e, open_by k.0, k.1 ∙ ap (λ (l : List Entry). l ++ e ∷ []) known_still) ]

    refused_traces : tells_traces → is_sound old.asker → (seen old.asker).closed ≡ false → Leaves moment left_since old.asker mid.asker (Perhaps (Some why) (seen old.asker) e) → Traces seen moment left_since old new []
    refused_traces tells sound open_asker w = record {
      later = subst (λ (a : A). moment old.asker ≤ moment a) (sym closes.asker) w.later;
      since = λ m t le l. elim (w.before m t le (subst (λ (a : A). left_since a m t) closes.asker l)) [ inl j ↦ inl j | inr j ↦ inr (refused_between t j) ];
      now = λ h t l. elim (w.before (moment old.asker) t (le_refl (moment old.asker)) (counts_now mid.asker (moment old.asker) t tells w.later (subst (λ (a : A). left_since a (moment a) t) closes.asker l))) [
        | inl j ↦ inl (now_is old.asker t tells sound open_asker j ∙ known_still)
        | inr j ↦ refused_now t j
      ];
    }

  pub later_refused : (old mid new : AskedRun A) (e : Entry) (why : AskStop) (unmade : Unmade) → keeps old.asker mid.asker → Adds (fits old.asker) (fits mid.asker) e (seen old.asker) (seen mid.asker) (Some why) → Closes why unmade mid new
      → mid.notes ≡ old.notes → old.closed ≡ false → (seen old.asker).closed ≡ false → is_sound old.asker → IsRecordOf (seen old.asker).replies unmade e
      → ((d : Divergence) → why ≡ Diverged d → IsHeldPost d unmade) → Left old.asker mid.asker (Perhaps (Some why) (seen old.asker) e) → (tells_tasks → Tasks seen old new []) → IsLater old new
  later_refused old mid new e why unmade k adds closes notes open_run open_asker sound is held left tasks = record {
    keeps = subst (λ (a : A). keeps old.asker a) (sym closes.asker) k;
    session = closes.session ∙ ap (λ (n : Notes). n.session) notes;
    still = λ closed. absurd (not_closed open_run closed);
    refused = λ w now. refused_cause old mid new e why unmade closes adds.stays.trace adds.stays.replies adds.made is w notes adds.answers held now;
    trace = ap (λ (a : A). (seen a).trace) closes.asker ∙ adds.stays.trace;
    replies = ap (λ (a : A). (seen a).replies) closes.asker ∙ adds.stays.replies;
    disk = subst (λ (a : A). (seen old.asker).disk_faults ≤ (seen a).disk_faults) (sym closes.asker) adds.stays.disk_later;
    board = subst (λ (a : A). (seen old.asker).board_faults ≤ (seen a).board_faults) (sym closes.asker) adds.stays.board_later;
    added = [];
    made = ap (λ (a : A). (seen a).made) closes.asker ∙ adds.made ∙ sym (append-nil (seen old.asker).made);
    traces = λ tells. refused_traces old mid new e why unmade closes adds.stays.trace adds.stays.replies adds.made is tells sound open_asker (left tells);
    tasks = tasks;
  }

  -- ---- a reply

  pub later_replied : (old new : AskedRun A) (path token text : List ℕ) (f o : Option (List ℕ)) → f ≡ Some text → Replies (fits old.asker) (fits new.asker) path token (seen old.asker) (seen new.asker) (Ok f) o → keeps old.asker new.asker
      → old.closed ≡ false → (seen old.asker).closed ≡ false → is_sound new.asker → new.notes ≡ old.notes → Left old.asker new.asker (WithReply None (seen old.asker) path token o)
      → (tells_tasks → (seen new.asker).tasks ≡ (seen old.asker).tasks) → IsLater old new
  later_replied old new path token text f None e h k open_run open_asker sound notes left tasks = absurd (clash f text (Ok f) (Ok None) e refl refl h.0)
    where
      clash : (f : Option (List ℕ)) (text : List ℕ) (r s : Result (Option (List ℕ)) AskStop) → f ≡ Some text → r ≡ Ok f → s ≡ Ok None → r ≡ s → ⊥
      clash f text r s e re se d = cc
  later_replied old new path token text f (Some there) e h k open_run open_asker sound notes left tasks =
      later_made old new (entry path (kept.Reply token there)) k h.1 open_run open_asker sound notes left (λ tells. other_made seen old new (entry path (kept.Reply token there)) (λ p u e. not_post token there u (ap (λ (e : Entry). e.what) e)) (tasks tells))
    where
      not_post : (token there u : List ℕ) → kept.Reply token there ≡ kept.Post u → ⊥
      not_post token there u e = cc

  pub later_unreplied : (old new : AskedRun A) (path token : List ℕ) (f o : Option (List ℕ)) → f ≡ None → Replies (fits old.asker) (fits new.asker) path token (seen old.asker) (seen new.asker) (Ok f) o → keeps old.asker new.asker
      → old.closed ≡ false → (seen old.asker).closed ≡ false → is_sound new.asker → new.notes ≡ old.notes → Left old.asker new.asker (WithReply None (seen old.asker) path token o)
      → (tells_tasks → (seen new.asker).tasks ≡ (seen old.asker).tasks) → IsLater old new
  later_unreplied old new path token f None e h k open_run open_asker sound notes left tasks = later_none old new k h.1 h.2 open_run open_asker sound notes left tasks
  later_unreplied old new path token f (Some there) e h k open_run open_asker sound notes left tasks = absurd (clash f there e h.0)
    where
      clash : (f : Option (List ℕ)) (there : List ℕ) → f ≡ None → f ≡ Some there → ⊥
      clash f there e d = cc

  pub later_reply_refused : (old mid new : AskedRun A) (path token : List ℕ) (why : AskStop) (unmade : Unmade) (o : Option (List ℕ)) → answer (seen old.asker).replies token ≡ o → unmade ≡ Asking path (Reply token)
      → Replies (fits old.asker) (fits mid.asker) path token (seen old.asker) (seen mid.asker) (Err why) o → keeps old.asker mid.asker → Closes why unmade mid new → mid.notes ≡ old.notes → old.closed ≡ false → (seen old.asker).closed ≡ false → is_sound old.asker → NoBoard (Some why)
      → Left old.asker mid.asker (WithReply (Some why) (seen old.asker) path token o) → (tells_tasks → (seen mid.asker).tasks ≡ (seen old.asker).tasks) → IsLater old new
  later_reply_refused old mid new path token why unmade None there un h k closes notes open_run open_asker sound board left tasks = absurd (clash why (Err why) (Ok None) refl refl h.0)
    where
      clash : (why : AskStop) (r s : Result (Option (List ℕ)) AskStop) → r ≡ Err why → s ≡ Ok None → r ≡ s → ⊥
      clash why r s re se d = cc
  later_reply_refused old mid new path token why unmade (Some text) there un h k closes notes open_run open_asker sound board left tasks =
      later_refused old mid new (entry path (kept.Reply token text)) why unmade k h.1 closes notes open_run open_asker sound
      (subst (λ (u : Unmade). IsRecordOf (seen old.asker).replies u (entry path (kept.Reply token text))) (sym un) (text, there, refl)) (λ d is. no_held d unmade why board is) left (λ tells. other_unmade seen old mid new closes.asker (tasks tells))

-- ---- records that are no post's

pub no_draw : (path : List ℕ) (bound value : ℤ) (p text : List ℕ) → entry path (kept.Draw bound value) ≡ entry p (kept.Post text) → ⊥
no_draw path bound value p text e = let w = ap (λ (e : Entry). e.what) e in cc

pub no_once : (path : List ℕ) (value : Data) (p text : List ℕ) → entry path (kept.Once value) ≡ entry p (kept.Post text) → ⊥
no_once path value p text e = let w = ap (λ (e : Entry). e.what) e in cc

-- ---- a fork was counted

pub still_counted : {A : Type 0} (old new : AskedRun A) (forks : ℕ) → IsStill old new → IsStill old (record new { notes = record new.notes { forks = forks } })
still_counted old new forks s = record { asker = s.asker; closed = s.closed; session = s.session; stopped = s.stopped; unmade = s.unmade }

-- ---- an index was taken, and then what is known at its path was asked

module _ {A : Type 0} (seen : A → Asked) (fits : A → Entry → Bool) (keeps : A → A → Type 0) (tells_tasks tells_traces : Type 0) (moment : A → ℕ) (left_since : A → ℕ → List Entry → Type 0) (keeps_refl : (a : A) → keeps a a) (keeps_trans : (a b c : A) → keeps a b → keeps b c → keeps a c) where
  pub later_found : (old mid new : AskedRun A) (path : List ℕ) → IsStill old mid → keeps mid.asker new.asker → seen new.asker ≡ asked_at (seen mid.asker) path → (tells_traces → moment new.asker ≡ moment mid.asker)
      → (tells_traces → (m : ℕ) (t : List Entry) → left_since new.asker m t → left_since mid.asker m t) → mid.closed ≡ false → new.notes ≡ mid.notes → Later seen fits keeps tells_tasks tells_traces moment left_since old new
  later_found old mid new path still k asked same before open_run notes = later_trans seen fits keeps tells_tasks tells_traces moment left_since keeps_trans old mid new (later_still seen fits keeps tells_tasks tells_traces moment left_since keeps_refl old mid still)
      (later_known seen fits keeps tells_tasks tells_traces moment left_since mid new path k asked same before open_run notes)

  -- and then the asker was asked no more
  pub later_passed : (old mid next new : AskedRun A) (path : List ℕ) → IsStill old mid → keeps mid.asker next.asker → seen next.asker ≡ asked_at (seen mid.asker) path → (tells_traces → moment next.asker ≡ moment mid.asker)
      → (tells_traces → (m : ℕ) (t : List Entry) → left_since next.asker m t → left_since mid.asker m t) → mid.closed ≡ false → next.notes ≡ mid.notes → IsStill next new → Later seen fits keeps tells_tasks tells_traces moment left_since old new
  later_passed old mid next new path still k asked same before open_run notes on = later_trans seen fits keeps tells_tasks tells_traces moment left_since keeps_trans old next new (later_found old mid next path still k asked same before open_run notes)
      (later_still seen fits keeps tells_tasks tells_traces moment left_since keeps_refl next new on)
