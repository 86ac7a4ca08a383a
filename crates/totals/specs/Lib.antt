-- A reader must believe Totals (a box of files, and its totals) and Claims (what is claimed of them). Held is how the code counts them.
pub mod Totals
pub mod Claims
pub mod Held
