-- What list promises, and what the promises of `listing` cite besides the rules.
pub mod Laying
pub mod Listing
