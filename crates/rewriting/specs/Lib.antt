-- What rewrite promises, and the three demands said of it.
pub mod Promise
