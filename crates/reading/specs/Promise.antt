-- What read and field promise.
use Rattle.std.specs.Prelude.{◌≡◌, List, ℕ, ◌+◌, Result, Option}
use Rattle.rules.specs.Calls.{read_of, field_of, field_offset}
use Rattle.kinds.specs.declared.Fault.{Fault}
use Rattle.kinds.specs.declared.Record.{Record}
use Rattle.kinds.specs.Values.{reading_of}

-- read: the answer r of record n of a file f
pub record PromisedReading (f : List ℕ) (n : ℕ) (r : Result (Option ℕ × Record) Fault) : Type 0 where
  pub answered : r ≡ reading_of (read_of f n)

-- field: the columns at column c of record n of a file f. The file starts at byte `start` of a block; the columns lie at byte `at` of a block b
pub record PromisedPart (f : List ℕ) (n c : ℕ) {B : Type 0} (block : B) (start : ℕ) (columns : List ℕ) (b : B) (at : ℕ) : Type 0 where
  pub contents : columns ≡ field_of f n c
  pub same_block : b ≡ block
  pub offset : at ≡ start + field_offset f n c
