pub mod OptionLemmas
pub mod FuelLemmas
pub mod NumberLemmas
pub mod WordLemmas
