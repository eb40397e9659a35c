-- The definitions that the promises cite beside those of `rules`: Types ties the types to the values of `rules`, Leaves says what the parts of the work give.
pub mod Types
pub mod Leaves
