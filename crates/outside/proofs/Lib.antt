pub mod MemoryLemmas
pub mod SinkLemmas
pub mod SourceLemmas
pub mod WordLemmas
