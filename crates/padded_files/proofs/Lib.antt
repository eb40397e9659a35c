-- What the promises of pad and of a call after it say together.
pub mod OverPadded  -- form, references and rewrite go by the padded file alone
pub mod Trimmed  -- trimming and line ends make no difference
pub mod Accepted  -- an accepted file is padded to itself
pub mod Copied  -- a carriage return that is copied is refused
