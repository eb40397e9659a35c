-- Texts laid into a lent output.
use Rattle.std.specs.Prelude.{◌≡◌, List, ◌++◌, ℕ, ◌+◌, ◌≤◌, length, take, drop}
use Rattle.rules.specs.Digits.{stripped}

-- the text from byte `at` on, and the rest of the output as it was
unfoldable pub laid : ℕ → List ℕ → List ℕ → List ℕ
laid at text out = take at out ++ (text ++ drop (at + length text) out)

-- a call that lays a text of at most so many bytes answers where it ends
pub record Laid (at most : ℕ) (text out : List ℕ) (end : ℕ) (left : List ℕ) : Type 0 where
  pub ends : end ≡ at + length text
  pub short : end ≤ at + most
  pub output : left ≡ laid at text out

-- what is left of digits without the zeros in front
pub record Zeros (digits : List ℕ) (zeros : ℕ) : Type 0 where
  pub within : zeros ≤ length digits
  pub rest : drop zeros digits ≡ stripped digits
