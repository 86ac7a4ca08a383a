-- Laws of classes: class numbers by rows, tests and rows by index, the usages of literals at a moment, the class numbers of a table, the members of a class, which literals of a class have a usage, and what decides its name.
pub mod NewClasses
pub mod Numbers
pub mod Numbering
pub mod Tables
pub mod Rows
pub mod Usages
pub mod Roles
pub mod Members
pub mod Soles
pub mod Decides
