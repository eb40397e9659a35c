-- What write promises.
pub mod Promise
