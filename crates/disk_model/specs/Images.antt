-- The images of a disk in memory. Own rules: what a crash may leave between two syncs.
use Rattle.std.specs.Prelude.{◌≡◌, ◌+◌, ◌-◌, ◌≤◌, ⊤, ℕ, List, [], ◌∷◌, ◌++◌, length, take, drop}
use Rattle.std.specs.Prelude.{refl}
use native.Mathlib.Bridge.{le_prop}
use Rattle.disk_model.specs.Disk.{Torn}
use Rattle.disk_model.specs.declared.event.Write.{Write}
use Rattle.disk_model.specs.declared.event.Event.{Event}
use Rattle.disk_model.specs.declared.event.Event.TheVariants.{Wrote, Synced}

-- base with these bytes at this place
abbrev pub overwritten : ℕ → List ℕ → List ℕ → List ℕ
overwritten at bytes base = take at base ++ bytes ++ drop (at + length bytes) base

-- what was on the disk at the last sync, and the writes since, the newest first
pub record State : Type 0 where
  pub synced : List ℕ
  pub pending : List Write

-- base with all these writes done, the last in the list first
abbrev pub done : List ℕ → List Write → List ℕ
done base [] = base
done base (w ∷ ws) = overwritten w.at w.bytes.items (done base ws)

-- how many bytes were written
abbrev pub size_of : List Write → ℕ
size_of [] = 0
size_of (w ∷ ws) = size_of ws + length w.bytes.items

-- base with the first n bytes of these writes done
abbrev pub kept : List ℕ → List Write → ℕ → List ℕ
kept base [] n = base
kept base (w ∷ ws) n = overwritten w.at (take (n - size_of ws) w.bytes.items) (kept base ws n)

-- each written range, and the part past the old end, may hold any bytes
abbrev pub IsImage : List ℕ → List Write → List ℕ → Type 0
IsImage base [] c = c ≡ base
IsImage base (w ∷ ws) c = (d : List ℕ) × IsImage base ws d × Torn w.at (length w.bytes.items) d c

-- no write leaves a gap behind the end
abbrev pub LeaveNoGap : List ℕ → List Write → Type 0
LeaveNoGap base [] = ⊤
LeaveNoGap base (w ∷ ws) = (w.at ≤ length (done base ws)) × LeaveNoGap base ws

abbrev pub start : List ℕ → State
start first = record { synced = first; pending = [] }

abbrev pub read_of : State → List ℕ
read_of s = done s.synced s.pending

abbrev pub AreInPlace : State → Type 0
AreInPlace s = LeaveNoGap s.synced s.pending

abbrev pub after : State → Event → State
after s (Wrote w) = record { synced = s.synced; pending = w ∷ s.pending }
after s Synced = record { synced = done s.synced s.pending; pending = [] }

abbrev pub state : State → List Event → State
state s [] = s
state s (e ∷ es) = state (after s e) es

-- what a crash now may leave
abbrev pub IsImageOf : State → List ℕ → Type 0
IsImageOf s c = IsImage s.synced s.pending c

-- what a crash at a moment from t on might have left; a moment is a number of events
abbrev pub LeftSince : List ℕ → List Event → ℕ → List ℕ → Type 0
LeftSince first events t c = (k : ℕ) × (t ≤ k) × (k ≤ length events) × IsImageOf (state (start first) (take k events)) c

-- there is no sync among them
abbrev pub AreWrites : List Event → Type 0
AreWrites [] = ⊤
AreWrites (Wrote w ∷ es) = AreWrites es
AreWrites (Synced ∷ es) = ⊥

-- each write ends at this place or before it
abbrev pub EndWithin : ℕ → List Event → Type 0
EndWithin n [] = ⊤
EndWithin n (Wrote w ∷ es) = (w.at + length w.bytes.items ≤ n) × EndWithin n es
EndWithin n (Synced ∷ es) = EndWithin n es

-- these are facts
pub LeaveNoGap-prop : (base : List ℕ) (ws : List Write) → IsProp (LeaveNoGap base ws)
LeaveNoGap-prop base [] = λ p q. refl
LeaveNoGap-prop base (w ∷ ws) = λ p q i. (le_prop p.0 q.0 i, LeaveNoGap-prop base ws p.1 q.1 i)

pub AreWrites-prop : (es : List Event) → IsProp (AreWrites es)
AreWrites-prop [] = λ p q. refl
AreWrites-prop (Wrote w ∷ es) = AreWrites-prop es
AreWrites-prop (Synced ∷ es) = λ p q. absurd p

pub EndWithin-prop : (n : ℕ) (es : List Event) → IsProp (EndWithin n es)
EndWithin-prop n [] = λ p q. refl
EndWithin-prop n (Wrote w ∷ es) = λ p q i. (le_prop p.0 q.0 i, EndWithin-prop n es p.1 q.1 i)
EndWithin-prop n (Synced ∷ es) = EndWithin-prop n es

-- one event done again, of a write the first n bytes
abbrev pub redone : Event → ℕ → List ℕ → List ℕ
redone (Wrote w) n base = overwritten w.at (take n w.bytes.items) base
redone Synced n base = base

abbrev pub event_size : Event → ℕ
event_size (Wrote w) = length w.bytes.items
event_size Synced = 0
