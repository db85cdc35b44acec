pub mod Links
pub mod Calls
pub mod OneServer
pub mod WholeCalls
