-- Fields laid into a line, one after the other.
use Rattle.std.specs.Prelude.{Bool, cond, List, [], ◌∷◌, ◌++◌, ℕ, ◌+◌, ◌-◌, length, take, drop}
use Rattle.rules.specs.Tests.{◌&◌, ◌≤?◌}
use Rattle.rules.specs.Items.{Value, render}
use Rattle.rules.specs.Fields.{Field}

-- whether a line of n bytes has w columns from column c on
unfoldable pub roomy : (n c w : ℕ) → Bool
roomy n c w = 1 ≤? c & c ≤? n & w ≤? n - (c - 1)

-- bytes in the columns from c on; where they have no room the line stays
unfoldable pub lay : ℕ → List ℕ → List ℕ → List ℕ
lay c ys l = cond (roomy (length l) c (length ys)) (take (c - 1) l ++ (ys ++ drop (c - 1 + length ys) l)) l

-- values in their fields, in house style
unfoldable pub lay_fields : List Field → List Value → List ℕ → List ℕ
lay_fields [] vs l = l
lay_fields (f ∷ fs) [] l = l
lay_fields (f ∷ fs) (v ∷ vs) l = lay_fields fs vs (lay f.from (render f.item v) l)
