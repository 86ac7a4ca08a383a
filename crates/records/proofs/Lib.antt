pub mod Chains
pub mod Laws
pub mod Lists
pub mod Memory
pub mod Numbers
