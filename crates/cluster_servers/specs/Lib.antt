pub mod Slots
pub mod Replies
pub mod Fates
pub mod Together
pub mod Alone
pub mod Asked
pub mod Seen
