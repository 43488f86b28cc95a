-- What the proofs of this crate share.
pub mod Halts
pub mod Told
