-- How the code holds the names of all moments; what a reader must believe of them is classes/Classes.
pub mod Held
