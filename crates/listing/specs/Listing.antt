-- What `list` answers and leaves, for every input, table and output, and what it promises.
use Rattle.std.specs.Prelude.{◌≡◌, Bool, cond, List, [], ◌∷◌, ◌++◌, ℕ, length, drop, get_or, Result, Ok, Err}
use Rattle.rules.specs.Tests.{◌&◌, ◌≤?◌}
use Rattle.rules.specs.Characters.{ascii}
use Rattle.rules.specs.Digits.{numeral}
use Rattle.rules.specs.Calls.{references_table}
use Rattle.rules.specs.Sheet.{tabbed, file_line, kind_names, kind_lines, sheet}
use Rattle.kinds.specs.declared.Fault.{Fault}

-- 512 bytes have room for every sheet
unfoldable pub big_enough : List ℕ → Bool
big_enough out = 512 ≤? length out

-- the length of the sheet; 0 where it is not written
unfoldable pub list_answer : List ℕ → List ℕ → List ℕ → ℕ
list_answer input table out = cond (big_enough out) (length (sheet input table)) 0

-- the sheet from the first byte on, and the rest as it was; too short an output stays as it was
unfoldable pub list_output : List ℕ → List ℕ → List ℕ → List ℕ
list_output input table out = cond (big_enough out) (sheet input table ++ drop (length (sheet input table)) out) out

-- as references leave it; too large an input and too short an output leave it as it was
unfoldable pub list_table : List ℕ → List ℕ → List ℕ → List ℕ
list_table input table out = cond (big_enough out & length input ≤? 64_800) (references_table input table) table

-- the promise: the answer r to an input f, and what is left of the table t and of the output o
pub record Promised (f t o : List ℕ) (r : ℕ) (words left : List ℕ) : Type 0 where
  pub answer : r ≡ list_answer f t o
  pub table : words ≡ list_table f t o
  pub output : left ≡ list_output f t o

-- ---- the parts
-- the sheet of a file of so many records, by what form and references say together
unfoldable pub listed_in : ℕ → Result (List ℕ) Fault → List ℕ
listed_in blocks (Ok cs) = file_line blocks 0 0 0 ++ kind_lines kind_names cs
listed_in blocks (Err g) = file_line blocks g.number g.«record» g.column

unfoldable pub kind_line : ℕ → ℕ → List ℕ
unfolding ascii
kind_line k n = tabbed (ascii "KIND" ∷ get_or kind_names k [] ∷ numeral n ∷ [])
