pub mod Chars
pub mod Marks
pub mod Pieces
pub mod Tokens
pub mod Words
