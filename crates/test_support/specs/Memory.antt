-- What contracts see of the source and the sink in memory.
use Rattle.std.specs.Prelude.{ℕ, Bool, List, Some, take, drop}
use Rattle.base_devices.specs.Sinks.{SinkParts}
use Rattle.test_support.specs.declared.memory.MemorySource.{MemorySource}
use Rattle.test_support.specs.declared.memory.MemorySink.{MemorySink}

-- the bytes given so far
abbrev pub source_given : MemorySource → List ℕ
source_given s = take s.at s.bytes.items

-- whether the last read came to the end
abbrev pub source_ended : MemorySource → Bool
source_ended s = s.ended

-- the bytes that are left
abbrev pub source_left : MemorySource → List ℕ
source_left s = drop s.at s.bytes.items

-- how many bytes a call gives at the most
abbrev pub source_piece : MemorySource → ℕ
source_piece s = s.piece

-- how many calls there were
abbrev pub source_calls : MemorySource → ℕ
source_calls s = s.failing.calls

-- the numbers of the calls that fail
abbrev pub source_fails : MemorySource → List ℕ
source_fails s = s.failing.fails.items

-- how many calls failed
abbrev pub source_faults : MemorySource → ℕ
source_faults s = s.failing.faults

-- the bytes written
abbrev pub sink_bytes : MemorySink → List ℕ
sink_bytes s = s.bytes.items

-- for how many bytes more there is room
abbrev pub sink_room : MemorySink → ℕ
sink_room s = s.room

-- how many bytes a call takes at the most
abbrev pub sink_piece : MemorySink → ℕ
sink_piece s = s.piece

-- how many calls there were
abbrev pub sink_calls : MemorySink → ℕ
sink_calls s = s.failing.calls

-- the numbers of the calls that fail
abbrev pub sink_fails : MemorySink → List ℕ
sink_fails s = s.failing.fails.items

-- how many calls failed
abbrev pub sink_faults : MemorySink → ℕ
sink_faults s = s.failing.faults

-- what it took, which is what it holds
abbrev pub sink_state : MemorySink → SinkParts
sink_state s = record { taken = sink_bytes s; contents = Some (sink_bytes s); faults = sink_faults s }
