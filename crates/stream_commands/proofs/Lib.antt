pub mod Reading
pub mod Telling
mod ExampleCommands
pub mod Made
pub mod Forms
mod EntryLists
pub mod Gather
pub mod GatherSteps
pub mod Lookups
pub mod FieldCopies
pub mod Respellings
pub mod RespelledErrors
mod WholeCommands
mod EqualEntries
