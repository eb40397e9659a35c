-- The laws behind the functions, each over plain values.
pub mod LineLaws  -- the lines of a file
pub mod ValueLaws  -- typed values
pub mod WidthLaws  -- the width of a field
pub mod CallLaws  -- read and field
pub mod Determined  -- their promises leave nothing open
