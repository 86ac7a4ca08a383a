-- What playing a run file means for the machine.
pub mod Allowed
pub mod Loop
pub mod Entries
pub mod Runs
pub mod Stops
pub mod Traced
pub mod Never
pub mod Tracked
pub mod Numbers
