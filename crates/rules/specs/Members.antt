-- Members of a list.
use Rattle.std.specs.Prelude.{◌≡◌, ◌⊎◌, List, [], ◌∷◌}

module _ {A : Type 0} where
  infix 40 ◌∈◌
  infix 40 ◌⊆◌
  unfoldable pub ◌∈◌ : A → List A → Type 0
  x ∈ [] = ⊥
  x ∈ (y ∷ ys) = (x ≡ y) ⊎ (x ∈ ys)

  -- every member of the one is a member of the other
  unfoldable pub ◌⊆◌ : List A → List A → Type 0
  xs ⊆ ys = (x : A) → x ∈ xs → x ∈ ys
