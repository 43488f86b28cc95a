use Rattle.std.proofs.Common.{◌≡◌, ◌≤◌, ◌-◌, take, drop, vec_capacity}
use Rattle.disk_model.specs.Images.{kept, size_of, state, start, EndWithin, AreWrites}
use Rattle.disk_model.proofs.history.redo_part.Given as goal

abbrev pub invariant-loop-event : goal.invariant-loop-event
invariant-loop-event l = record {
  so_far : l.content.items ≡ kept l.fn.content.items (state (start l.fn.content.items) (take l.event-index l.events)).pending l.keep;
  left : l.left ≡ l.keep - size_of (state (start l.fn.content.items) (take l.event-index l.events)).pending;
  reach : EndWithin (vec_capacity l.content) (drop l.event-index l.events);
  writes : AreWrites (drop l.event-index l.events);
  capacity : vec_capacity l.fn.content ≤ vec_capacity l.content;
}
