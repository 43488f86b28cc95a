-- A history of a disk, as its callers see it. Own rules.
use Rattle.std.specs.Prelude.{◌≡◌, ◌+◌, ◌-◌, ◌^◌, ◌≤◌, min, ℕ, Bool, false, List, length, if◌then◌else◌, ◌==◌, nat_le, Option, None, Some}
use Rattle.disk_model.specs.Images.{State, state, start, kept, LeftSince}
use Rattle.disk_model.specs.declared.history.History.{History}
use Rattle.disk_model.specs.declared.memory.MemoryDisk.{MemoryDisk}
use Rattle.disk_model.specs.declared.memory.Stop.{Stop}

abbrev pub content_of : History → List ℕ
content_of h = h.content.items

abbrev pub moment_of : History → ℕ
moment_of h = length h.events.items

abbrev pub left_since_of : History → ℕ → List ℕ → Type 0
left_since_of h t c = LeftSince h.first.items h.events.items t c

abbrev pub state_of : History → State
state_of h = state (start h.first.items) h.events.items

-- what was on the disk at the last sync, with the first n bytes that were written since
abbrev pub cut_at : History → ℕ → List ℕ
cut_at h n = kept (state_of h).synced (state_of h).pending n

-- a crash leaves what is read, and nothing else
abbrev pub IsSynced : History → Type 0
IsSynced h = (c : List ℕ) → left_since_of h (moment_of h) c → c ≡ content_of h

abbrev pub bytes_of : MemoryDisk → List ℕ
bytes_of d = content_of d.history

abbrev pub moments_of : MemoryDisk → ℕ
moments_of d = moment_of d.history

abbrev pub images_of : MemoryDisk → ℕ → List ℕ → Type 0
images_of d t c = left_since_of d.history t c

-- a crash now may leave this
abbrev pub is_now_image : MemoryDisk → List ℕ → Type 0
is_now_image d c = images_of d (moments_of d) c

-- a crash now leaves what is read, and nothing else
abbrev pub IsOnlyImage : MemoryDisk → Type 0
IsOnlyImage d = IsSynced d.history

abbrev pub calls_of : MemoryDisk → ℕ
calls_of d = d.changes

abbrev pub faults_of : MemoryDisk → ℕ
faults_of d = d.faults

abbrev pub has_lacked_of : MemoryDisk → Bool
has_lacked_of d = d.has_lacked

abbrev pub stop_of : MemoryDisk → Option Stop
stop_of d = d.stop

-- the count of calls reached the stop's
abbrev pub IsReached : Option Stop → ℕ → Type 0
IsReached None calls = ⊥
IsReached (Some s) calls = s.at ≤ calls

abbrev pub IsStopped : MemoryDisk → Type 0
IsStopped d = IsReached d.stop d.changes

abbrev pub keep_of : Option Stop → ℕ
keep_of None = 0
keep_of (Some s) = s.keep

-- a stop at a call that is counted from 1 and from here; there is no call 0
abbrev pub stop_from : ℕ → ℕ → ℕ → Option Stop
stop_from calls call keep = if call == 0 then None else Some (record { at = min (calls + call) (2 ^ 64 - 1); keep = keep })

-- a stop that was reached stays
abbrev pub is_reached : Option Stop → ℕ → Bool
is_reached None calls = false
is_reached (Some s) calls = nat_le s.at calls

abbrev pub stop_after : MemoryDisk → ℕ → ℕ → Option Stop
stop_after d call keep = if is_reached d.stop d.changes then d.stop else stop_from d.changes call keep
