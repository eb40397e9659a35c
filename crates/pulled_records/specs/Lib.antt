-- What the theorems are about: a run of pull, and what is read of a pulled record.
pub mod AfterPull
