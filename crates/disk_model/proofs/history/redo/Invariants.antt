use Rattle.std.proofs.Common.{◌≡◌, ◌≤◌, take, drop, vec_capacity}
use Rattle.disk_model.specs.Images.{read_of, state, start, EndWithin}
use Rattle.disk_model.proofs.history.redo.Given as goal

abbrev pub invariant-loop-event : goal.invariant-loop-event
invariant-loop-event l = record {
  so_far : l.content.items ≡ read_of (state (start l.fn.content.items) (take l.event-index l.events));
  reach : EndWithin (vec_capacity l.content) (drop l.event-index l.events);
  capacity : vec_capacity l.fn.content ≤ vec_capacity l.content;
}
