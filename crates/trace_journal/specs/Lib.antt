pub mod Apart
pub mod Journal
pub mod Laws
pub mod TraceJournal
