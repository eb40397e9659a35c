-- Why pull keeps its promise, and what the promise says of each entry.
pub mod EntryLaws  -- one entry
pub mod DrawingLaws  -- the entries one after the other
pub mod PullLaws  -- the call
pub mod PullDemands  -- the demands, from the promise alone
pub mod Refuted  -- wrong pulls that the promise does not allow
