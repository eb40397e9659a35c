-- 01, "The deposit sheet": its text, for every input.
use Rattle.std.specs.Prelude.{cond, List, [], ◌∷◌, ◌++◌, ℕ, ◌/◌, length}
use Rattle.rules.specs.Tests.{◌≤?◌, ◌=?◌}
use Rattle.rules.specs.Characters.{ascii}
use Rattle.rules.specs.Digits.{numeral}
use Rattle.rules.specs.Calls.{Answer, file_answer}

-- the words of a line, parted by tabs; a line feed ends it
unfoldable pub tabbed : List (List ℕ) → List ℕ
tabbed [] = 10 ∷ []
tabbed (w ∷ []) = w ++ 10 ∷ []
tabbed (w ∷ v ∷ ws) = w ++ 9 ∷ tabbed (v ∷ ws)

unfoldable pub file_line : (blocks number place column : ℕ) → List ℕ
unfolding ascii
file_line blocks number place column = tabbed (ascii "FILE" ∷ numeral blocks ∷ numeral number ∷ numeral place ∷ numeral column ∷ [])

unfoldable pub kind_names : List (List ℕ)
unfolding ascii
kind_names =
    ascii "AA" ∷ ascii "10" ∷ ascii "11" ∷ ascii "12" ∷ ascii "25" ∷ ascii "26" ∷ ascii "27"
    ∷ ascii "70" ∷ ascii "72" ∷ ascii "80" ∷ ascii "86" ∷ ascii "91" ∷ ascii "92" ∷ ascii "93" ∷ []

unfoldable pub kind_lines : List (List ℕ) → List ℕ → List ℕ
unfolding ascii
kind_lines [] counts = []
kind_lines (name ∷ names) [] = []
kind_lines (name ∷ names) (n ∷ counts) = tabbed (ascii "KIND" ∷ name ∷ numeral n ∷ []) ++ kind_lines names counts

-- on acceptance 14 lines follow the first
unfoldable pub listed : ℕ → Answer → List ℕ
listed blocks a =
    file_line blocks a.number a.place a.column ++ cond (a.number =? 0) (kind_lines kind_names a.counts) []

-- up to 64,800 bytes; more gives the line of refusal 1
unfoldable pub sheet : List ℕ → List ℕ → List ℕ
sheet input table = cond (length input ≤? 64_800) (listed (length input / 81) (file_answer input table)) (file_line 0 1 0 0)
