-- What a history's events make of its bytes.
use Rattle.std.proofs.Common.{◌≡◌, inl, inr, ℕ, zero, suc, ◌+◌, ◌-◌, ◌≤◌, ◌<◌, min, List, [], ◌∷◌, ◌++◌, length, get_or, take, drop, refl, sym, ◌∙◌, ap, subst, arith, add-one, length-append, length-take, length-drop, take-append-drop}
use Rattle.std.proofs.lemmas.Bool.{cases_lt}
use Rattle.std.proofs.lemmas.List.{take_all, append-nil}
use Rattle.disk_model.specs.Disk.{Torn}
use Rattle.disk_model.specs.Kept.{torn_part}
use Rattle.disk_model.specs.Images.{State, overwritten, done, size_of, kept, IsImage, LeaveNoGap, start, read_of, after, state, AreWrites, EndWithin, redone, event_size}
use Rattle.disk_model.specs.declared.event.Write.{Write}
use Rattle.disk_model.specs.declared.event.Event.{Event}
use Rattle.disk_model.specs.declared.event.Event.TheVariants.{Wrote, Synced}

pub state-append : (s : State) (es fs : List Event) → state s (es ++ fs) ≡ state (state s es) fs
state-append s [] fs = refl
state-append s (e ∷ es) fs = state-append (after s e) es fs

state_more-suc : (s : State) (es : List Event) (i : ℕ) (d : Event) → i < length es → state s (take (suc i) es) ≡ after (state s (take i es)) (get_or es i d)
state_more-suc s [] i d lt = absurd (omega arith)
state_more-suc s (e ∷ es) zero d lt = refl
state_more-suc s (e ∷ es) (suc i) d lt = state_more-suc (after s e) es i d (omega arith)

pub state_more : (s : State) (es : List Event) (i : ℕ) (d : Event) → i < length es → state s (take (i + 1) es) ≡ after (state s (take i es)) (get_or es i d)
state_more s es i d lt = ap (λ (n : ℕ). state s (take n es)) (add-one i) ∙ state_more-suc s es i d lt

pub redone_all : (s : State) (e : Event) → redone e (event_size e) (read_of s) ≡ read_of (after s e)
redone_all s (Wrote w) = ap (λ (l : List ℕ). overwritten w.at l (read_of s)) (take_all (length w.bytes.items) w.bytes.items (omega arith))
redone_all s Synced = refl

pub redone_part : (base : List ℕ) (s : State) (e : Event) (n : ℕ) → AreWrites (e ∷ []) → redone e (n - size_of s.pending) (kept base s.pending n) ≡ kept base (after s e).pending n
redone_part base s (Wrote w) n are = refl
redone_part base s Synced n are = absurd are

pub size_part : (s : State) (e : Event) (n : ℕ) → AreWrites (e ∷ []) → n - size_of s.pending - event_size e ≡ n - size_of (after s e).pending
size_part s (Wrote w) n are = omega arith
size_part s Synced n are = absurd are

-- at an index of the events
pub within_at : (n : ℕ) (es : List Event) (i : ℕ) (d : Event) → i < length es → EndWithin n (drop i es) → EndWithin n (get_or es i d ∷ []) × EndWithin n (drop (suc i) es)
within_at n [] i d lt all = absurd (omega arith)
within_at n (Wrote w ∷ es) zero d lt all = ((all.0, tt), all.1)
within_at n (Synced ∷ es) zero d lt all = (tt, all)
within_at n (e ∷ es) (suc i) d lt all = within_at n es i d (omega arith) all

pub writes_at : (es : List Event) (i : ℕ) (d : Event) → i < length es → AreWrites (drop i es) → AreWrites (get_or es i d ∷ []) × AreWrites (drop (suc i) es)
writes_at [] i d lt are = absurd (omega arith)
writes_at (Wrote w ∷ es) zero d lt are = (tt, are)
writes_at (Synced ∷ es) zero d lt are = absurd are
writes_at (e ∷ es) (suc i) d lt are = writes_at es i d (omega arith) are

pub synced_stays : (s : State) (es : List Event) → AreWrites es → (state s es).synced ≡ s.synced
synced_stays s [] are = refl
synced_stays s (Wrote w ∷ es) are = synced_stays (after s (Wrote w)) es are
synced_stays s (Synced ∷ es) are = absurd are

-- a state with nothing pending is that of a beginning
pub settled_is : (s : State) → s.pending ≡ [] → s ≡ start (read_of s)
settled_is s none =
    let reads : s.synced ≡ read_of s = sym (ap (λ (ws : List Write). done s.synced ws) none) in
    λ i. record { synced = reads i; pending = none i }

pub kept_all : (base : List ℕ) (ws : List Write) (n : ℕ) → size_of ws ≤ n → kept base ws n ≡ done base ws
kept_all base [] n le = refl
kept_all base (w ∷ ws) n le =
    let whole : take (n - size_of ws) w.bytes.items ≡ w.bytes.items = take_all _ _ (omega arith) in
    λ i. overwritten w.at (whole i) (kept_all base ws n (omega arith) i)

pub torn_same : (at n : ℕ) (old new : List ℕ) → new ≡ old → Torn at n old new
torn_same at n old new is = subst (λ (l : List ℕ). Torn at n old l) (sym is) (record { before = refl; after = refl; no_shorter = omega arith; no_longer = omega arith })

-- writing nothing
pub overwritten_none : (at : ℕ) (bytes base : List ℕ) → length bytes ≡ 0 → overwritten at bytes base ≡ base
overwritten_none at [] base none = ap (λ (l : List ℕ). l ++ drop (at + 0) base) (append-nil (take at base)) ∙ ap (λ (n : ℕ). take at base ++ drop n base) (let z : at + 0 ≡ at = omega arith in z) ∙ take-append-drop at base
overwritten_none at (b ∷ bytes) base none = absurd (omega arith)

pub kept_image : (base : List ℕ) (ws : List Write) (n : ℕ) → LeaveNoGap base ws → IsImage base ws (kept base ws n)
kept_image base [] n gap = refl
kept_image base (w ∷ ws) n gap =
    let part : List ℕ = take (n - size_of ws) w.bytes.items in (
      kept base ws n,
      kept_image base ws n gap.1,
      elim (cases_lt n (size_of ws)) [
        | inl few ↦ torn_same w.at (length w.bytes.items) (kept base ws n) (overwritten w.at part (kept base ws n)) (overwritten_none w.at part (kept base ws n) (omega (arith, length-take (n - size_of ws) w.bytes.items)))
        | inr enough ↦ torn_part w.at (length w.bytes.items) part (kept base ws n) (overwritten w.at part (kept base ws n)) (omega (arith, gap.0, ap length (kept_all base ws n enough))) (omega (arith, length-take (n - size_of ws) w.bytes.items)) refl
      ],
    )

pub done_image : (base : List ℕ) (ws : List Write) → LeaveNoGap base ws → IsImage base ws (done base ws)
done_image base ws gap = subst (λ (l : List ℕ). IsImage base ws l) (kept_all base ws (size_of ws) (omega arith)) (kept_image base ws (size_of ws) gap)

length-overwritten : (at : ℕ) (bytes base : List ℕ) → length (overwritten at bytes base) ≡ min at (length base) + length bytes + (length base - (at + length bytes))
length-overwritten at bytes base =
    length-append (take at base ++ bytes) (drop (at + length bytes) base) ∙ omega (arith, length-append (take at base) bytes, length-take at base, length-drop (at + length bytes) base)

pub kept_shorter : (base : List ℕ) (ws : List Write) (n : ℕ) → length (kept base ws n) ≤ length (done base ws)
kept_shorter base [] n = omega arith
kept_shorter base (w ∷ ws) n =
    let part : List ℕ = take (n - size_of ws) w.bytes.items in
    omega (arith, length-overwritten w.at part (kept base ws n), length-overwritten w.at w.bytes.items (done base ws), kept_shorter base ws n, length-take (n - size_of ws) w.bytes.items)

pub within-push : (n : ℕ) (es : List Event) (w : Write) → EndWithin n es → w.at + length w.bytes.items ≤ n → EndWithin n (es ++ Wrote w ∷ [])
within-push n [] w all le = (le, tt)
within-push n (Wrote v ∷ es) w all le = (all.0, within-push n es w all.1 le)
within-push n (Synced ∷ es) w all le = within-push n es w all le

pub within_synced : (n : ℕ) (es : List Event) → EndWithin n es → EndWithin n (es ++ Synced ∷ [])
within_synced n [] all = tt
within_synced n (Wrote v ∷ es) all = (all.0, within_synced n es all.1)
within_synced n (Synced ∷ es) all = within_synced n es all

pub within_more : (n m : ℕ) (es : List Event) → EndWithin n es → n ≤ m → EndWithin m es
within_more n m [] all le = tt
within_more n m (Wrote v ∷ es) all le = (omega (arith, all.0), within_more n m es all.1 le)
within_more n m (Synced ∷ es) all le = within_more n m es all le

pub within_front : (n k : ℕ) (es : List Event) → EndWithin n es → EndWithin n (take k es)
within_front n zero es all = tt
within_front n (suc k) [] all = tt
within_front n (suc k) (Wrote v ∷ es) all = (all.0, within_front n k es all.1)
within_front n (suc k) (Synced ∷ es) all = within_front n k es all

pub within_rest : (n k : ℕ) (es : List Event) → EndWithin n es → EndWithin n (drop k es)
within_rest n zero es all = all
within_rest n (suc k) [] all = tt
within_rest n (suc k) (Wrote v ∷ es) all = within_rest n k es all.1
within_rest n (suc k) (Synced ∷ es) all = within_rest n k es all

pub writes-push : (k : ℕ) (es : List Event) (w : Write) → k ≤ length es → AreWrites (drop k es) → AreWrites (drop k (es ++ Wrote w ∷ []))
writes-push zero [] w le are = tt
writes-push zero (Wrote v ∷ es) w le are = writes-push zero es w (omega arith) are
writes-push zero (Synced ∷ es) w le are = absurd are
writes-push (suc k) [] w le are = absurd (omega arith)
writes-push (suc k) (e ∷ es) w le are = writes-push k es w (omega arith) are

pub none_past : (k : ℕ) (es : List Event) → length es ≤ k → AreWrites (drop k es)
none_past zero [] le = tt
none_past zero (e ∷ es) le = absurd (omega arith)
none_past (suc k) [] le = tt
none_past (suc k) (e ∷ es) le = none_past k es (omega arith)

-- what stands there after all settled events were done again, and then a part of the writes behind them
pub cut_is : (first a b : List ℕ) (es : List Event) (k keep : ℕ) → (state (start first) (take k es)).pending ≡ [] → AreWrites (drop k es) → a ≡ read_of (state (start first) (take k es)) → b ≡ kept a (state (start a) (drop k es)).pending keep
    → b ≡ kept (state (start first) es).synced (state (start first) es).pending keep
cut_is first a b es k keep none are redone_first redone_rest =
    let mid : State = state (start first) (take k es) in
    let is : mid ≡ start a = settled_is mid none ∙ ap start (sym redone_first) in
    let whole : state (start first) es ≡ state (start a) (drop k es) =
    ap (λ (l : List Event). state (start first) l) (sym (take-append-drop k es)) ∙ state-append (start first) (take k es) (drop k es) ∙ ap (λ (x : State). state x (drop k es)) is in
    let synced : (state (start a) (drop k es)).synced ≡ a = synced_stays (start a) (drop k es) are in
    redone_rest ∙ (λ i. kept (sym synced i) (state (start a) (drop k es)).pending keep) ∙ sym (ap (λ (x : State). kept x.synced x.pending keep) whole)
