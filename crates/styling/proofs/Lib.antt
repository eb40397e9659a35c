-- The laws that belong to no one function.
pub mod LayLaws  -- fields laid into a line
pub mod StandLaws  -- what stands in house style already
pub mod StyleLaws  -- a copy of a good line, changed in place
