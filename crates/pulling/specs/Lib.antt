-- What pull promises, what is demanded of it, and what the functions on one entry and on the list promise.
pub mod Promise
pub mod Entries
