-- What the asker did of an ask that has no record at its path.
use Rattle.std.specs.Prelude.{ℤ, pos, int_rem, List, Option, Some, None, Result, Ok, Err, Bool}
use Rattle.std.proofs.Common.{◌≡◌, ◌+◌, arith, IsErrAnd, ℕ, refl, sym, ap, subst, ◌∙◌, [], ◌∷◌, ◌++◌, inl, inr}
use Rattle.std.proofs.lemmas.List.{map-append}
use Rattle.turk_base.specs.Names.{Path, path_in}
use Rattle.turk_base.specs.declared.Record.{Record}
use Rattle.turk_base.specs.declared.Record.TheVariants as kept
use Rattle.turk_base.specs.declared.Entry.{Entry}
use Rattle.turk_base.specs.Values.{task}
use Rattle.turk_base.specs.Asks.{Question, posts, replies, draws, AnsOf, Rec, rec, token, answer}
use Rattle.turk_base.specs.Trace as told
use Rattle.turk_base.specs.Trace.{token_of}
use Rattle.turk_base.specs.Told.{record_of, records_of}
use Rattle.js_tree.specs.Run.{halted, undrawn, unanswered}
use Rattle.js_tree.specs.World.{World, Draws, fresh, fresh_reply, fresh_draw, draw_of}
use Rattle.meaning_laws.proofs.Tied.{token_tied, answer_tied}
use Rattle.ask_model.specs.declared.AskStop.{AskStop}
use Rattle.ask_model.specs.declared.AskStop.TheVariants.{Memory}
use Rattle.ask_model.specs.Asker.{Seen as Asked, entry, Adds, Replies}
use Rattle.value_cells.specs.Seen.{Seen}
use Rattle.run_host.specs.declared.Exit.{Exit}
use Rattle.run_host.specs.declared.Exit.TheVariants.{Stopped}
use Rattle.run_host.specs.Moment.{alone, Moment, asking, drawn_by, draws_in, Deals, AllDealt, Suits, Same}
use Rattle.run_host.proofs.Moments.{same_refl}
use Rattle.machine_host.specs.Moments.{Notes, moment_at}
use Rattle.machine_host.specs.Asking as spec
use Rattle.machine_host.specs.Asking.{Loses, Refuses, AwaitsTask, Asks}

pub none_made : {q : Question} {p : Path} (m : Moment alone) (y : Exit) → y ≡ Stopped Memory → Asks q p m m (Err y)
none_made m y e = spec.lost y (record { is = e; same = same_refl; made = refl; stopped = refl })

pub none_exit : {q : Question} {p : Path} (m : Moment alone) (r : Result (AnsOf q) Exit) (e : Exit) → IsErrAnd r (λ x. x ≡ e) → e ≡ Stopped Memory → Asks q p m m r
none_exit m (Ok a) e h is = absurd h
none_exit m (Err y) e h is = none_made m y (h ∙ is)

-- ---- what the asker has

module _ (heap : Seen) (s t : Asked) (before after : ℕ → ℕ) (notes : Notes) (trace : t.trace ≡ s.trace) (pairs : t.replies ≡ s.replies) where
  -- but for the words that are to be drawn
  pub as_before : t.made ≡ s.made → moment_at heap t after notes ≡ record (moment_at heap s before notes) { words = after }
  as_before made = λ i. record (moment_at heap s before notes) { words = after; trace = records_of (trace i); pairs = pairs i; made = records_of (made i) }

  -- where nothing was drawn
  pub as_was : ((k : ℕ) → after k ≡ before k) → t.made ≡ s.made → moment_at heap t after notes ≡ moment_at heap s before notes
  as_was same made = as_before made ∙ (λ i. record (moment_at heap s before notes) { words = λ k. same k i })

  pub with_one : (p : List ℕ) (what : Record) → t.made ≡ s.made ++ entry p what ∷ [] → moment_at heap t after notes ≡ record (moment_at heap s before notes) { made = records_of s.made ++ rec (path_in p) what ∷ []; words = after }
  with_one p what made =
      let e : records_of t.made ≡ records_of s.made ++ rec (path_in p) what ∷ [] = ap records_of made ∙ map-append record_of s.made (entry p what ∷ []) in
      λ i. record (moment_at heap s before notes) { trace = records_of (trace i); pairs = pairs i; made = e i; words = after }

-- ---- a call that was refused

same_words : {m n : Moment alone} {v : ℕ → ℕ} → Same (record m { words = v }) n → Same m n
same_words h = record { later = tt; session = h.session; trace = h.trace; pairs = h.pairs; grows = h.grows }

pub refused_asks : (q : Question) (p : Path) (old mid new : Moment alone) (why : AskStop) (y : Exit) (v : ℕ → ℕ) → mid ≡ record old { words = v } → Refuses (asking p q) why y mid new
    → ((E : World) → E.pairs ≡ old.pairs → fresh q E (draws_in old.made) p ≡ None → unanswered q ≡ halted undrawn) → Asks q p old new (Err y)
refused_asks q p old mid new why y v e (inl (is, n)) lacks =
    let g = n ∙ ap (λ (m : Moment alone). record m { stopped = Some why; unmade = asking p q }) e in
    subst (λ y. Asks q p old new (Err y)) (sym is) (spec.refused why v g (λ E su. lacks E (su.pairs ∙ ap (λ (m : Moment alone). m.pairs) g)))
refused_asks q p old mid new why y v e (inr l) lacks = spec.lost y (record { is = l.is; same = same_words (subst (λ m. Same m new) e l.same); made = l.made ∙ ap (λ (m : Moment alone). m.made) e; stopped = l.stopped ∙ ap (λ (m : Moment alone). m.stopped) e })

some_none : {A : Type 0} {x : A} → Some x ≡ None → ⊥
some_none e = cc

-- ---- posts

pub post_asks : (heap : Seen) (s t : Asked) (before after : ℕ → ℕ) (notes : Notes) (fits later : Entry → Bool) (text p told : List ℕ) → Adds fits later (entry p (kept.Post text)) s t None → ((k : ℕ) → after k ≡ before k) → told ≡ token_of notes.session p
    → Asks (posts text) (path_in p) (moment_at heap s before notes) (moment_at heap t after notes) (Ok told)
unfolding fresh
post_asks heap s t before after notes fits later text p told a same e =
    subst (λ y. Asks (posts text) (path_in p) (moment_at heap s before notes) (moment_at heap t after notes) (Ok y)) (token_tied notes.session p ∙ sym e)
    (spec.answered (record { answer = token notes.session (path_in p); what = kept.Post text }) after (with_one heap s t before after notes a.stays.trace a.stays.replies p (kept.Post text) a.made)
    (record { dealt = tt; moved = λ k. same k ∙ ap before (omega arith) })
    (λ E su i. Some (record { answer = token (su.session i) (path_in p); what = kept.Post text })))

pub post_lacks : (text : List ℕ) (p : Path) (n : ℕ) (E : World) → fresh (posts text) E n p ≡ None → unanswered (posts text) ≡ halted undrawn
unfolding fresh
post_lacks text p n E e = absurd (some_none e)

-- ---- draws

after : ℕ → List Rec → ℕ
after k [] = k
after k (rec p x ∷ l) = after (drawn_by x k) l

swap : (y x : Record) (n : ℕ) → drawn_by y (drawn_by x n) ≡ drawn_by x (drawn_by y n)
swap (kept.Post t) x n = refl
swap (kept.Reply t u) x n = refl
swap (kept.Once d) x n = refl
swap (kept.Draw b v) (kept.Post t) n = refl
swap (kept.Draw b v) (kept.Reply t u) n = refl
swap (kept.Draw b v) (kept.Once d) n = refl
swap (kept.Draw b v) (kept.Draw c w) n = refl

after_one : (l : List Rec) (x : Record) (k : ℕ) → after (drawn_by x k) l ≡ drawn_by x (after k l)
unfolding after
after_one [] x k = refl
after_one (rec p y ∷ l) x k = ap (λ n. after n l) (swap y x k) ∙ after_one l x (drawn_by y k)

after_is : (l : List Rec) → after 0 l ≡ draws_in l
unfolding after
after_is [] = refl
after_is (rec p x ∷ l) = after_one l x 0 ∙ ap (drawn_by x) (after_is l)

dealt_last : (d : Draws) (p : Path) (x : Record) (l : List Rec) (k : ℕ) → AllDealt d k (l ++ rec p x ∷ []) → Deals d (after k l) p x
unfolding after
dealt_last d p x [] k h = h.0
dealt_last d p x (rec q y ∷ l) k h = dealt_last d p x l (drawn_by y k) h.1

pub draw_asks : (heap : Seen) (s t : Asked) (before after : ℕ → ℕ) (notes : Notes) (fits later : Entry → Bool) (p : List ℕ) (bound value told : ℤ) → Adds fits later (entry p (kept.Draw bound value)) s t None
    → told ≡ int_rem (pos (before 0)) bound → ((k : ℕ) → after k ≡ before (1 + k)) → told ≡ value
    → Asks (draws bound) (path_in p) (moment_at heap s before notes) (moment_at heap t after notes) (Ok told)
unfolding fresh
draw_asks heap s t before after notes fits later p bound value told a word next e =
    let n = with_one heap s t before after notes a.stays.trace a.stays.replies p (kept.Draw bound value) a.made in
    subst (λ y. Asks (draws bound) (path_in p) (moment_at heap s before notes) (moment_at heap t after notes) (Ok y)) (sym e)
    (spec.answered (record { answer = value; what = kept.Draw bound value }) after n
    (record { dealt = ap Some (sym word ∙ e); moved = next })
    (λ E su.
    let dealt = subst (AllDealt E.dice 0) (ap (λ (m : Moment alone). m.made) n) su.dealt in
    ap (fresh_draw bound) (subst (λ k. draw_of E.dice k (path_in p) bound ≡ Some value) (after_is (records_of s.made)) (dealt_last E.dice (path_in p) (kept.Draw bound value) (records_of s.made) 0 dealt))))

-- ---- replies

ok_of : Result (Option (List ℕ)) AskStop → Option (List ℕ)
ok_of (Ok o) = o
ok_of (Err e) = None

err_text : Result (Option (List ℕ)) AskStop → Option (List ℕ)
err_text (Ok o) = None
err_text (Err e) = Some []

-- the reply that the snapshot has
reply_there : (E : World) (m : Moment alone) (pairs : List (List ℕ × List ℕ)) (key text : List ℕ) (n : ℕ) (p : Path) → m.pairs ≡ pairs → Suits E m → told.answer pairs key ≡ Some text → fresh (replies key) E n p ≡ Some (record { answer = text; what = kept.Reply key text })
unfolding fresh
reply_there E m pairs key text n p e su h = ap (fresh_reply key) (ap (λ l. answer l key) (su.pairs ∙ e) ∙ answer_tied pairs key ∙ h)

reply_none : (E : World) (m : Moment alone) (pairs : List (List ℕ × List ℕ)) (key : List ℕ) (n : ℕ) (p : Path) → m.pairs ≡ pairs → Suits E m → told.answer pairs key ≡ None → fresh (replies key) E n p ≡ None
unfolding fresh
reply_none E m pairs key n p e su h = ap (fresh_reply key) (ap (λ l. answer l key) (su.pairs ∙ e) ∙ answer_tied pairs key ∙ h)

module _ (heap : Seen) (s t : Asked) (before after : ℕ → ℕ) (same : (k : ℕ) → after k ≡ before k) (notes : Notes) (fits later : Entry → Bool) (p key : List ℕ) where
  pub reply_asks : (text : List ℕ) (r : Result (Option (List ℕ)) AskStop) → r ≡ Ok (Some text) → Replies fits later p key s t r (told.answer s.replies key) → Asks (replies key) (path_in p) (moment_at heap s before notes) (moment_at heap t after notes) (Ok text)
  unfolding ok_of
  reply_asks text r is h = by (told.answer s.replies key) refl (subst (λ r. Replies fits later p key s t r (told.answer s.replies key)) is h)
    where
      by : (o : Option (List ℕ)) → told.answer s.replies key ≡ o → Replies fits later p key s t (Ok (Some text)) o → Asks (replies key) (path_in p) (moment_at heap s before notes) (moment_at heap t after notes) (Ok text)
      by None e h = absurd (some_none (ap ok_of h.0))
      by (Some there) e h =
          let equal : text ≡ there = some_same h.0 in
          let a = h.1 in
          let n = with_one heap s t before after notes a.stays.trace a.stays.replies p (kept.Reply key there) a.made in
          subst (λ y. Asks (replies key) (path_in p) (moment_at heap s before notes) (moment_at heap t after notes) (Ok y)) (sym equal)
          (spec.answered (record { answer = there; what = kept.Reply key there }) after n (record { dealt = tt; moved = λ k. same k ∙ ap before (omega arith) }) (λ E su. reply_there E (moment_at heap t after notes) s.replies key there (draws_in (records_of s.made)) (path_in p) a.stays.replies su e))
        where
          some_same : {A : Type 0} {x y : A} → Some x ≡ Some y → x ≡ y
          some_same e = cc

  -- the snapshot lacks the token
  pub reply_missing : (r : Result (Option (List ℕ)) AskStop) → r ≡ Ok None → Replies fits later p key s t r (told.answer s.replies key) → (told.answer s.replies key ≡ None) × (moment_at heap t after notes ≡ moment_at heap s before notes)
  unfolding ok_of
  reply_missing r is h = by (told.answer s.replies key) refl (subst (λ r. Replies fits later p key s t r (told.answer s.replies key)) is h)
    where
      by : (o : Option (List ℕ)) → told.answer s.replies key ≡ o → Replies fits later p key s t (Ok None) o → (told.answer s.replies key ≡ None) × (moment_at heap t after notes ≡ moment_at heap s before notes)
      by None e h = (e, as_was heap s t before after notes h.1.trace h.1.replies same h.2)
      by (Some there) e h = absurd (some_none (sym h.0))

  -- the asker refused its record
  pub reply_refused : (why : AskStop) (r : Result (Option (List ℕ)) AskStop) → r ≡ Err why → Replies fits later p key s t r (told.answer s.replies key)
      → (text : List ℕ) × (told.answer s.replies key ≡ Some text) × (moment_at heap t after notes ≡ moment_at heap s before notes)
  unfolding err_text
  reply_refused why r is h = by (told.answer s.replies key) refl (subst (λ r. Replies fits later p key s t r (told.answer s.replies key)) is h)
    where
      by : (o : Option (List ℕ)) → told.answer s.replies key ≡ o → Replies fits later p key s t (Err why) o → (text : List ℕ) × (told.answer s.replies key ≡ Some text) × (moment_at heap t after notes ≡ moment_at heap s before notes)
      by None e h = absurd (some_none (ap err_text h.0))
      by (Some there) e h = (there, e, as_was heap s t before after notes h.1.stays.trace h.1.stays.replies same h.1.made)

pub reply_lacks : (pairs : List (List ℕ × List ℕ)) (key text : List ℕ) (p : Path) (n : ℕ) (E : World) → E.pairs ≡ pairs → told.answer pairs key ≡ Some text → fresh (replies key) E n p ≡ None → unanswered (replies key) ≡ halted undrawn
unfolding fresh
reply_lacks pairs key text p n E e h none = absurd (some_none (sym (ap (fresh_reply key) (ap (λ l. answer l key) e ∙ answer_tied pairs key ∙ h)) ∙ none))

-- the run waits for the reply
pub waits_for : (key : List ℕ) (p : Path) (old mid new : Moment alone) (y : Exit) (pairs : List (List ℕ × List ℕ)) → old.pairs ≡ pairs → mid ≡ old → told.answer pairs key ≡ None → AwaitsTask key y mid new → Asks (replies key) p old new (Err y)
waits_for key p old mid new y pairs e same none (inl (is, n)) =
    let g : new ≡ record old { waits = old.waits ++ task key ∷ [] } = n ∙ ap (λ (m : Moment alone). record m { waits = m.waits ++ task key ∷ [] }) same in
    subst (λ y. Asks (replies key) p old new (Err y)) (sym is) (spec.missing g refl (λ E su. reply_none E new pairs key (draws_in old.made) p (ap (λ (m : Moment alone). m.pairs) g ∙ e) su none))
waits_for key p old mid new y pairs e same none (inr l) = spec.lost y (record { is = l.is; same = subst (λ m. Same m new) same l.same; made = l.made ∙ ap (λ (m : Moment alone). m.made) same; stopped = l.stopped ∙ ap (λ (m : Moment alone). m.stopped) same })
