pub mod Grammar
pub mod Files
pub mod LeafCalls
pub mod Texts
