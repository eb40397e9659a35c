-- Decimal digits and the numbers that they write.
use Rattle.std.specs.Prelude.{cond, List, [], ◌∷◌, ◌++◌, ℕ, zero, suc, ◌+◌, ◌-◌, ◌*◌, ◌/◌, ◌%◌}
use Rattle.rules.specs.Tests.{◌=?◌}

-- the number that digits write after the number a; a blank (32) and a minus (45) count as 0, since 32 - 48 is 0 in ℕ
unfoldable pub val : ℕ → List ℕ → ℕ
val a [] = a
val a (b ∷ bs) = val (a * 10 + (b - 48)) bs

-- 01, "Number": written zero filled, in w columns
unfoldable pub put : ℕ → ℕ → List ℕ
put zero n = []
put (suc w) n = put w (n / 10) ++ (48 + n % 10) ∷ []

-- without the zeros in front, of which the last digit is none
unfoldable pub stripped : List ℕ → List ℕ
stripped [] = []
stripped (b ∷ []) = b ∷ []
stripped (b ∷ c ∷ bs) = cond (b =? 48) (stripped (c ∷ bs)) (b ∷ c ∷ bs)

-- 01, "The deposit sheet": a number below 10,000,000,000 as it is printed
unfoldable pub numeral : ℕ → List ℕ
numeral n = stripped (put 10 n)
