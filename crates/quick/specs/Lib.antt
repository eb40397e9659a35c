pub mod Rows  -- what may stand in each column of each kind, and the test of a line by it
pub mod Rest  -- what a row does not tell of a record
