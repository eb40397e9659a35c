-- The definitions that the promises cite beside those of `rules` and `kinds`.
pub mod Accuracies
pub mod Judging
