-- What the promises of `walk` cite besides the rules: the code's own state and table, as the rules have them.
pub mod Keeping
pub mod Words
pub mod Walking
pub mod References
pub mod Promise
