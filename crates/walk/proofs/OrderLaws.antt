-- The order of records is looked up in any table of rows for which the code's array has room, and the rules' is such a table.
use mathlib.Core.Path.{◌≡◌, refl, sym}
use mathlib.Core.Bool.{true}
use mathlib.Core.List.{List, [], ◌∷◌}
use Prim.Native.Nat.{ℕ, zero, suc, ◌≤◌}
use native.Mathlib.Omega.{arith}
use lib.ListN.{length, get_or}
use Rattle.rules.specs.Tests.{all, ◌&◌, ◌≤?◌}
use Rattle.rules.specs.Order.{order, goto}
use Rattle.rules.proofs.Truth.{both, to≤, of≤, all_get_d}
use Rattle.walk.specs.Keeping.{tabular}

-- no entry stands outside a table
pub get_d_past : {A : Type 0} (l : List A) (d : A) (i : ℕ) → length l ≤ i → get_or l i d ≡ d
get_d_past [] d i h = refl
get_d_past (x ∷ l) d zero h = absurd (omega arith)
get_d_past (x ∷ l) d (suc i) h = get_d_past l d i (omega arith)

module _ (rows : List (List ℕ)) (place kind : ℕ) (fit : tabular rows ≡ true) where
  pub look_past : 17 ≤ place → 0 ≡ goto rows place kind
  unfolding tabular goto
  look_past h = rw (get_d_past rows [] place (omega (arith, to≤ (both fit).0)))

  pub look_unknown : 14 ≤ kind → 0 ≡ goto rows place kind
  unfolding tabular goto
  look_unknown h =
      let row = all_get_d (λ row. length row ≤? 14) rows [] place (both fit).1 (of≤ (omega arith)) in
      sym (get_d_past (get_or rows place []) 0 kind (omega (arith, to≤ row)))

pub order-tabular : tabular order ≡ true
unfolding tabular order all ◌≤?◌ ◌&◌
order-tabular = refl
