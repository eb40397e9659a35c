-- Tests: Boolean functions that stay shut, so that a proof sees the test and not its inside. A test holds when it is ≡ true.
use Rattle.std.specs.Prelude.{Bool, true, false, List, [], ◌∷◌, ℕ, leb, eqb}

infixl 35 ◌&◌
infix 40 ◌≤?◌
infix 40 ◌=?◌
unfoldable pub ◌&◌ : Bool → Bool → Bool
true & b = b
false & b = false

unfoldable pub ◌≤?◌ : ℕ → ℕ → Bool
m ≤? n = leb m n

unfoldable pub ◌=?◌ : ℕ → ℕ → Bool
m =? n = eqb m n

-- within lo hi b: lo ≤ b ≤ hi
unfoldable pub within : ℕ → ℕ → ℕ → Bool
within lo hi b = lo ≤? b & b ≤? hi

module _ {A : Type 0} where
  unfoldable pub all : (A → Bool) → List A → Bool
  all p [] = true
  all p (x ∷ xs) = p x & all p xs
