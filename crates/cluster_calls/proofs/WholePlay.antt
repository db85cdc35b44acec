pub mod LinksEnd
pub mod Spelled
pub mod LinkCalled
pub mod OneCall
pub mod OneRun
