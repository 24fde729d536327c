pub mod ByteWords
pub mod Texts
