-- The laws that belong to no one function.
pub mod JudgeLaws  -- tests in a row
pub mod KindLaws  -- the tests of each kind of record
pub mod GivenLaws  -- a record as it is given to write
