-- A reader must believe Trying (the plain engine, and what it writes) and Claims (what is claimed of it). Held is how the code tries a
-- class.
pub mod Trying
pub mod Claims
pub mod Held
