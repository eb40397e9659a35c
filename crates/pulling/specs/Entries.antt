-- What the functions below pull promise: of one record by what read gives of it, and of the entries of a list.
use Rattle.std.specs.Prelude.{◌≡◌, List, ◌++◌, ℕ, ◌*◌, length, drop}
use Rattle.rules.specs.Calls.{Reading}
use Rattle.rules.specs.Pulling.{line_for, fault_for, pulled_lines, pulled_faults}

-- of record r, which read gives as x: the fault number n and the line l
pub record Entry (r : ℕ) (x : Reading) (n : ℕ) (l : List ℕ) : Type 0 where
  pub fault : n ≡ fault_for x
  pub line : l ≡ line_for r x

-- of a file f and a list rs: the output p left of o and the fault list t left of s
pub record Entries (f rs o s p t : List ℕ) : Type 0 where
  pub lines : p ≡ pulled_lines f rs ++ drop (81 * length rs) o
  pub faults : t ≡ pulled_faults f rs ++ drop (length rs) s
