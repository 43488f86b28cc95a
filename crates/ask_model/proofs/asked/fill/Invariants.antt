use Rattle.std.proofs.Common.{◌≡◌, ◌≤◌, take}
use Rattle.std.specs.Prelude.{vec_len, vec_capacity}
use Rattle.ask_model.proofs.asked.fill.Given as goal

abbrev pub invariant-loop-index : goal.invariant-loop-index
invariant-loop-index l = record {
  items : l.room.items ≡ take l.index-index l.indexes;
  len : vec_len l.room ≡ l.index-index;
  capacity : vec_capacity l.fn.room ≤ vec_capacity l.room;
}
