-- What write promises.
use Rattle.std.specs.Prelude.{◌≡◌, List, ℕ, length, Result, Option}
use Rattle.rules.specs.Calls.{write_verdict, write_output}
use Rattle.kinds.specs.declared.Record.{Record}
use Rattle.kinds.specs.declared.Fault.{Fault}
use Rattle.kinds.specs.Values.{kind_number, meaning_of, written_of}
use Rattle.columns.specs.Types.{count_value}

-- of a sequence number, a record and the texts beside it: the answer r, and what is left of the output
pub record Promised (s : Option ℕ) (w : Record) (a b c out : List ℕ) (r : Result (Unit {0}) Fault) (left : List ℕ) : Type 0 where
  pub answer : r ≡ written_of (write_verdict (length out) (kind_number w) (count_value s) (meaning_of w a b c))
  pub output : left ≡ write_output (kind_number w) (count_value s) (meaning_of w a b c) out
