-- What a source and a sink in memory are seen as (own rule).
use Rattle.std.specs.Prelude.{ℕ, ◌+◌, ◌-◌, ◌^◌, List, drop, min, vec_capacity}
use Rattle.outside.specs.declared.memory.MemorySource.{MemorySource}
use Rattle.outside.specs.declared.memory.MemorySink.{MemorySink}

-- The bytes that a source in memory has left.
abbrev pub left_of : MemorySource → List ℕ
left_of s = drop s.at s.bytes.items

-- The numbers of the calls at which a source fails.
abbrev pub source_fails : MemorySource → List ℕ
source_fails s = s.fails.items

-- How many calls a source had.
abbrev pub source_calls : MemorySource → ℕ
source_calls s = s.calls

-- How many calls of a source failed.
abbrev pub source_faults : MemorySource → ℕ
source_faults s = s.faults

-- The bytes that were written to a sink in memory.
abbrev pub written_of : MemorySink → List ℕ
written_of s = s.bytes.items

-- How many bytes a sink can hold before it asks for memory.
abbrev pub room_of : MemorySink → ℕ
room_of s = vec_capacity s.bytes

-- The numbers of the calls at which a sink fails.
abbrev pub sink_fails : MemorySink → List ℕ
sink_fails s = s.fails.items

-- How many calls a sink had whose piece was not empty.
abbrev pub sink_calls : MemorySink → ℕ
sink_calls s = s.calls

-- How many calls of a sink failed.
abbrev pub sink_faults : MemorySink → ℕ
sink_faults s = s.faults

-- The count after one more call. It stands still at the greatest number of 64 bits.
abbrev pub one_more : ℕ → ℕ
one_more calls = min (calls + 1) (2 ^ 64 - 1)
