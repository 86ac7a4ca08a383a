-- Laws of judging a file: the report, a domain, a file.
pub mod Reported
pub mod Calls
pub mod FileCalls
