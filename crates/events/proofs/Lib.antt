-- Laws of rows: facts, actions with their objects, open entries, events that wait.
pub mod Members
pub mod RowLoops
pub mod Meeting
pub mod FactRows
pub mod Listed
pub mod GroundRows
pub mod OpenRows
pub mod MoreWaiting
pub mod GroundLiterals
pub mod Agenda
pub mod ByIndex
