-- Moments one after another.
use Rattle.std.specs.Prelude.{List, length, Option, Some, slice_get, pos, int_rem}
use Rattle.std.proofs.Common.{◌≡◌, ◌≤◌, ◌<◌, ◌+◌, ℕ, suc, refl, sym, ap, subst, ◌∙◌, arith, [], ◌∷◌, ◌++◌, ◌⊎◌, inl, inr, get_or}
use Rattle.std.proofs.lemmas.Option.{slice_get_within, slice_get-get_or}
use Rattle.std.proofs.lemmas.Bool.{cases_lt}
use Rattle.turk_base.specs.Names.{root, Name, cell, In, Under, home}
use Rattle.turk_base.specs.Asks.{Rec, rec, path_of}
use Rattle.turk_base.specs.Prog.{Prog}
use Rattle.turk_base.specs.Values.{Outcome}
use Rattle.turk_base.specs.declared.Record.{Record}
use Rattle.turk_base.specs.declared.Record.TheVariants as kept
use Rattle.js_tree.specs.World.{Draws, words, World, Rest}
use Rattle.run_laws.proofs.Sequel.{Ends}
use Rattle.run_laws.proofs.Within.{After}
use Rattle.run_laws.proofs.Looks.{ends_counted, ends_before}
use Rattle.run_laws.proofs.Props.{in_split}
use Rattle.value_cells.specs.Seen.{Naming, Fits, Grows, Scope}
use Rattle.ask_model.specs.declared.AskStop.TheVariants.{Memory, Fault, Diverged, TraceFull, LogFull}
use Rattle.ask_model.specs.declared.AskStop.{AskStop}
use Rattle.run_host.specs.Told.{Told, Says, Halts, Fails, IsShown}
use Rattle.run_host.specs.Moment.{Chain, Moment, cells, drawn_by, draws_in, Deals, AllDealt, Moves, Suits, Clear, place, Same, Within}
use native.Mathlib.Nat.{le_refl, le_trans}

pub fits_before : {nu : Naming} {old new : List Name} → Grows old new → Fits nu new → Fits nu old
fits_before g f = record { agrees = λ i n e. f.agrees i n (g i n e) }

pub there : (xs : List Name) (i : ℕ) → i < length xs → (n : Name) × (slice_get xs i ≡ Some n)
there [] i h = absurd (omega arith)
there (x ∷ xs) i h = (get_or (x ∷ xs) i x, slice_get-get_or (x ∷ xs) i x h)

some_same : {x y : Name} → Some x ≡ Some y → x ≡ y
some_same e = cc

pub same_refl : {κ : Chain} {m : Moment κ} → Same m m
same_refl {κ} {m} = record { later = κ.stays m.asker; session = refl; trace = refl; pairs = refl; grows = λ i n e. e }

pub same_trans : {κ : Chain} {a b c : Moment κ} → Same a b → Same b c → Same a c
same_trans {κ} {a} {b} {c} h k = record { later = κ.goes_on a.asker b.asker c.asker h.later k.later; session = k.session ∙ h.session; trace = k.trace ∙ h.trace; pairs = k.pairs ∙ h.pairs; grows = λ i n e. k.grows i n (h.grows i n e) }

-- what is told after a part in which no call was refused
pub shown_on : (t : Told) (a b c : Option AskStop) → b ≡ a → IsShown t b c → IsShown t a c
shown_on (Says o) a b c e s = s ∙ e
shown_on (Halts h) a b c e s = s ∙ e
shown_on (Fails Memory) a b c e (inl s) = inl (s ∙ e)
shown_on (Fails Memory) a b c e (inr s) = inr s
shown_on (Fails (Fault which)) a b c e s = s
shown_on (Fails (Diverged d)) a b c e s = s
shown_on (Fails TraceFull) a b c e s = s
shown_on (Fails LogFull) a b c e s = s

pub within_refl : {κ : Chain} {m : Moment κ} → Within m m
within_refl {κ} {m} = record {
  scope = refl;
  outer = refl;
  below = λ i n e l. let h : i < length m.heap.names = slice_get_within m.heap.names i n e in absurd (omega arith);
  falls = le_refl m.heap.left;
}

pub within_trans : {κ : Chain} {a b c : Moment κ} → Same b c → Within a b → Within b c → Within a c
within_trans {κ} {a} {b} {c} g h k = record {
  scope = k.scope ∙ h.scope;
  outer = k.outer ∙ h.outer;
  below = λ i n e l. new_below i n e l (cases_lt i (cells b));
  falls = le_trans k.falls h.falls;
}
  where
    new_below : (i : ℕ) (n : Name) → slice_get c.heap.names i ≡ Some n → cells a ≤ i → (i < cells b) ⊎ (cells b ≤ i) → Under a.heap.scope.path (home n)
    new_below i n e l (inr j) = subst (λ (p : Scope). Under p.path (home n)) h.scope (k.below i n e j)
    new_below i n e l (inl j) = let f : (m : Name) × (slice_get b.heap.names i ≡ Some m) = there b.heap.names i j in
        let same : f.0 ≡ n = some_same (sym (g.grows i f.0 f.1) ∙ e) in
        h.below i n (f.1 ∙ ap Some same) l

dealt_front : (d : Draws) (k : ℕ) (l m : List Rec) → AllDealt d k (l ++ m) → AllDealt d k l
dealt_front d k [] m h = tt
dealt_front d k (rec p x ∷ l) m h = (h.0, dealt_front d (drawn_by x k) l m h.1)

pub suits_before : {κ : Chain} {E : World} {old new : Moment κ} → Same old new → (added : List Rec) → new.made ≡ old.made ++ added → Suits E new → Suits E old
suits_before {κ} {E} {old} {new} s added e h = record {
  session = h.session ∙ s.session;
  pairs = h.pairs ∙ s.pairs;
  dealt = dealt_front E.dice 0 old.made added (subst (λ l. AllDealt E.dice 0 l) e h.dealt);
}

pub place_after : {κ : Chain} {E : World} {bound : ℕ} {old new : Moment κ} → Same old new → Within old new → place E bound new ≡ place E bound old
place_after {κ} {E} {bound} {old} {new} s h = ap (λ t. record { world = E; trace = t; bound = bound; scope = new.heap.scope.path; branch = new.heap.scope.branch; body = new.heap.scope.body }) s.trace
    ∙ ap (λ (c : Scope). record { world = E; trace = old.trace; bound = bound; scope = c.path; branch = c.branch; body = c.body }) h.scope

-- What was made lies at calls that were counted.
pub clear_after : {κ : Chain} {nu : Naming} {E : World} {bound : ℕ} {old new : Moment κ} {g : Prog} {o : Outcome} {w w' : Rest} {added : List Rec} →
    Within old new → new.made ≡ old.made ++ added → Ends (place E bound old) g o (old.heap.first nu) w (new.heap.first nu) w' added → Clear nu old → Clear nu new
clear_after {κ} {nu} {E} {bound} {old} {new} {g} {o} {w} {w'} {added} s e h c r m a = elim (in_split old.made added (subst (λ l. In Rec r l) e m)) [
  | inl i ↦ c r i (earlier (subst (λ (p : Scope). After p.path (new.heap.first nu).calls (path_of r)) s.scope a))
  | inr j ↦ ends_before h r j (subst (λ (p : Scope). After p.path (new.heap.first nu).calls (path_of r)) s.scope a)
]
  where
    earlier : After old.heap.scope.path (new.heap.first nu).calls (path_of r) → After old.heap.scope.path (old.heap.first nu).calls (path_of r)
    earlier (i, l, u) = (i, le_trans (ends_counted h).0 l, u)

-- ---- draws

-- some naming
pub nowhere : Naming
nowhere i = cell root i

-- nothing was drawn
pub moves_none : {κ : Chain} {m : Moment κ} → Moves m m []
moves_none {κ} {m} = record { on = λ k. ap m.words (omega arith) }

counted : (l m : List Rec) → draws_in (l ++ m) ≡ draws_in l + draws_in m
counted [] m = omega arith
counted (rec p x ∷ l) m = by x (counted l m)
  where
    by : (x : Record) → draws_in (l ++ m) ≡ draws_in l + draws_in m → drawn_by x (draws_in (l ++ m)) ≡ drawn_by x (draws_in l) + draws_in m
    by (kept.Post t) e = e
    by (kept.Reply t v) e = e
    by (kept.Draw b v) e = omega (arith, e)
    by (kept.Once d) e = e

pub moves_twice : {κ : Chain} {a b c : Moment κ} (l m : List Rec) → Moves a b l → Moves b c m → Moves a c (l ++ m)
moves_twice {κ} {a} {b} {c} l m h g = record { on = λ k. g.on k ∙ h.on (draws_in m + k) ∙ ap a.words (let e = counted l m in omega (arith, e)) }

-- the words from one on are those from another
dealt_shift : (v w : ℕ → ℕ) (n j : ℕ) (l : List Rec) → ((k : ℕ) → v k ≡ w (n + k)) → AllDealt (words v) j l → AllDealt (words w) (n + j) l
dealt_shift v w n j [] e h = tt
dealt_shift v w n j (rec p x ∷ l) e h = by x h (λ i. dealt_shift v w n i l e)
  where
    by : (x : Record) → Deals (words v) j p x × AllDealt (words v) (drawn_by x j) l → ((i : ℕ) → AllDealt (words v) i l → AllDealt (words w) (n + i) l)
        → Deals (words w) (n + j) p x × AllDealt (words w) (drawn_by x (n + j)) l
    by (kept.Post t) h ih = (tt, ih j h.1)
    by (kept.Reply t y) h ih = (tt, ih j h.1)
    by (kept.Draw b y) h ih = (ap (λ i. Some (int_rem (pos i) b)) (sym (e j)) ∙ h.0, subst (λ i. AllDealt (words w) i l) (omega arith) (ih (suc j) h.1))
    by (kept.Once d) h ih = (tt, ih j h.1)

dealt_more : (d : Draws) (k : ℕ) (l m : List Rec) → AllDealt d k l → AllDealt d (draws_in l + k) m → AllDealt d k (l ++ m)
dealt_more d k [] m h g = subst (λ i. AllDealt d i m) (omega arith) g
dealt_more d k (rec p x ∷ l) m h g = (h.0, by x h.1 g (λ i. dealt_more d i l m))
  where
    by : (x : Record) → AllDealt d (drawn_by x k) l → AllDealt d (drawn_by x (draws_in l) + k) m → ((i : ℕ) → AllDealt d i l → AllDealt d (draws_in l + i) m → AllDealt d i (l ++ m)) → AllDealt d (drawn_by x k) (l ++ m)
    by (kept.Post t) h g ih = ih k h g
    by (kept.Reply t y) h g ih = ih k h g
    by (kept.Draw b y) h g ih = ih (suc k) h (subst (λ i. AllDealt d i m) (omega arith) g)
    by (kept.Once c) h g ih = ih k h g

pub dealt_twice : {κ : Chain} {a b : Moment κ} (l m : List Rec) → AllDealt (words a.words) 0 l → Moves a b l → AllDealt (words b.words) 0 m → AllDealt (words a.words) 0 (l ++ m)
dealt_twice {κ} {a} {b} l m h g k = dealt_more (words a.words) 0 l m h (dealt_shift b.words a.words (draws_in l) 0 m g.on k)
