-- The claims of the list, proved.
pub mod Legal
pub mod Labels
pub mod Listed
pub mod Renamed
pub mod Kept
pub mod Written
pub mod Alone
pub mod Narrowed
pub mod EntryBytes
pub mod Said
