pub mod Leaves
pub mod Lines
pub mod LeafData
pub mod Rows
