pub mod Tables
pub mod Writings
pub mod Packings
mod Digits
pub mod Trees
pub mod Answering
pub mod Texts
pub mod Fields
pub mod Numerals
pub mod ReadBack
pub mod PackedOnce
