-- Laws of the images of a history.
use Rattle.std.proofs.Common.{◌≡◌, ℕ, ◌+◌, ◌-◌, ◌≤◌, List, [], ◌∷◌, ◌++◌, length, take, drop, refl, sym, ◌∙◌, ap, subst, arith, length-append, length-take, length-drop}
use Rattle.std.proofs.lemmas.List.{take_at, append_assoc, take_all}
use Rattle.std.proofs.lemmas.Slice.{drop-append-drop}
use Rattle.disk_model.specs.Disk.{Torn, Holds}
use Rattle.disk_model.specs.Images.{State, state, start, done, IsImage, IsImageOf, LeaveNoGap}
use Rattle.disk_model.specs.Memory.{content_of, moment_of, left_since_of}
use Rattle.disk_model.specs.declared.event.Write.{Write}
use Rattle.disk_model.specs.declared.event.Event.{Event}
use Rattle.disk_model.specs.declared.history.History.{History}

-- a part of a write is what a torn one may leave
pub torn_part : (at n : ℕ) (bytes old new : List ℕ) → at ≤ length old → length bytes ≤ n → Holds at bytes old new → Torn at n old new
torn_part at n bytes old new le short holds =
    let front : length (take at old) ≡ at = omega (arith, length-take at old) in
    let k : length (take at old ++ bytes) ≡ at + length bytes = omega (arith, length-append (take at old) bytes) in
    let whole : new ≡ (take at old ++ bytes) ++ drop (at + length bytes) old = holds in
    let size : length new ≡ at + length bytes + (length old - (at + length bytes)) =
    ap length whole ∙ length-append (take at old ++ bytes) (drop (at + length bytes) old) ∙ omega (arith, length-drop (at + length bytes) old) in
    record {
      before = ap (λ (l : List ℕ). take at l) (whole ∙ append_assoc (take at old) bytes (drop (at + length bytes) old)) ∙ take_at (take at old) (bytes ++ drop (at + length bytes) old) at front;
      after = ap (λ (l : List ℕ). drop (at + n) l) whole ∙ drop-append-drop (at + length bytes) old (take at old ++ bytes) (at + n) (omega arith) k;
      no_shorter = omega arith;
      no_longer = omega arith;
    }

full_image : (base : List ℕ) (ws : List Write) → LeaveNoGap base ws → IsImage base ws (done base ws)
full_image base [] gap = refl
full_image base (w ∷ ws) gap = (done base ws, full_image base ws gap.1, torn_part w.at (length w.bytes.items) w.bytes.items (done base ws) (done base (w ∷ ws)) gap.0 (omega arith) refl)

-- what is read is an image
pub reads_image : (h : History) → left_since_of h (moment_of h) (content_of h)
reads_image h =
    let es = h.events.items in
    let s : State = state (start h.first.items) es in
    let image : IsImageOf s (content_of h) = subst (λ (l : List ℕ). IsImageOf s l) (sym h.reads) (full_image s.synced s.pending h.in_place) in
    (length es, omega arith, omega arith, subst (λ (l : List Event). IsImageOf (state (start h.first.items) l) (content_of h)) (sym (take_all (length es) es (omega arith))) image)

-- this moment is one of those since an earlier one
pub counts_now_of : (h : History) (t : ℕ) (c : List ℕ) → t ≤ moment_of h → left_since_of h (moment_of h) c → left_since_of h t c
counts_now_of h t c le left = (left.0, omega (arith, left.1, le), left.2, left.3)
