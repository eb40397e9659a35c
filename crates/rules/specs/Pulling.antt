-- 02, T-07, "A pull list": for each entry of a list of record numbers its 81 bytes in house style and its fault number, and what the call answers and leaves.
use Rattle.std.specs.Prelude.{Bool, cond, List, [], ◌∷◌, ◌++◌, map, ℕ, zero, suc, ◌+◌, ◌*◌, length, drop, replicate}
use Rattle.rules.specs.Tests.{◌&◌, ◌≤?◌}
use Rattle.rules.specs.Records.{style}
use Rattle.rules.specs.Files.{Result, accept, refuse, begun, join}
use Rattle.rules.specs.Chapter4.{chapter4}
use Rattle.rules.specs.Calls.{Reading, values, unread, read_of}

-- ---- one entry, by what read gives of its record
-- "80 blanks and a line feed"
unfoldable pub blank_line : List ℕ
blank_line = replicate 80 32 ++ 10 ∷ []

-- "gives for each its 81 bytes in house style", "A good record's sequence number is 10 times its own record number, as in rewriting";
-- "A record that can't be read gets 80 blanks and a line feed"
unfoldable pub line_for : ℕ → Reading → List ℕ
line_for r (values q m) = style chapter4 r m
line_for r (unread n p c) = blank_line

-- "each fault number, 0 for a good record", "each entry's fault is as in read"
unfoldable pub fault_for : Reading → ℕ
fault_for (values q m) = 0
fault_for (unread n p c) = n

unfoldable pub pulled_line : List ℕ → ℕ → List ℕ
pulled_line f r = line_for r (read_of f r)

unfoldable pub pulled_fault : List ℕ → ℕ → ℕ
pulled_fault f r = fault_for (read_of f r)

-- ---- the list: "Answers stand in the list's order"
unfoldable pub pulled_lines : List ℕ → List ℕ → List ℕ
pulled_lines f rs = join (map (pulled_line f) rs)

unfoldable pub pulled_faults : List ℕ → List ℕ → List ℕ
pulled_faults f rs = map (pulled_fault f) rs

-- all records of a file in order
unfoldable pub records_from : ℕ → ℕ → List ℕ
records_from r zero = []
records_from r (suc n) = r ∷ records_from (r + 1) n

unfoldable pub every_record : List ℕ → List ℕ
every_record f = records_from 1 (begun f)

-- ---- the call, lent an output and a fault list
-- "1 first, if the output has fewer than 81 bytes an entry or the fault list fewer places than entries"
unfoldable pub pull_room : (rs out faults : List ℕ) → Bool
pull_room rs out faults = 81 * length rs ≤? length out & length rs ≤? length faults

unfoldable pub pull_answer : (rs out faults : List ℕ) → Result
pull_answer rs out faults = cond (pull_room rs out faults) accept (refuse 1 0 0)

-- "with nothing touched"; else "Places beyond the answer keep what they held"
unfoldable pub pull_output : (f rs out faults : List ℕ) → List ℕ
pull_output f rs out faults = cond (pull_room rs out faults) (pulled_lines f rs ++ drop (81 * length rs) out) out

unfoldable pub pull_faults : (f rs out faults : List ℕ) → List ℕ
pull_faults f rs out faults = cond (pull_room rs out faults) (pulled_faults f rs ++ drop (length rs) faults) faults
