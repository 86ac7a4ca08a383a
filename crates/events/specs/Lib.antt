-- How the code holds events, open entries and ground literals; what a reader must believe of them is verdict/Machine.
pub mod Held
