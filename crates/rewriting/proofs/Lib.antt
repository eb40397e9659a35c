-- Why the rewriter keeps its promise, and the three demands as facts about it.
pub mod LayingLaws  -- the records laid one after the other
pub mod RewriteLaws  -- the call
pub mod RewriteDemands  -- the demands, from the promise alone
pub mod Refuted  -- wrong rewriters that the promise does not allow
