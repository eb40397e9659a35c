-- For callers that know the width of the part they lend: the promises at that width, without their guards. Assumes nothing.
use mathlib.Core.Path.{◌≡◌, ap}
use mathlib.Core.Bool.{Bool}
use mathlib.Core.List.{List}
use Prim.Native.Nat.{ℕ, ◌≤◌}
use native.Mathlib.Omega.{arith}
use lib.ListN.{length}
use Rattle.rules.specs.Tests.{◌&◌, ◌≤?◌}
use Rattle.rules.specs.Items.{Item, number, good}
use Rattle.rules.proofs.Truth.{of≤, true_and}

module _ (bs : List ℕ) {w : ℕ} (e : length bs ≡ w) where
  -- good_blank, good_word, good_word_or_blank, good_height: `item` takes the width
  pub good-at : (item : ℕ → Item) → good (item (length bs)) bs ≡ good (item w) bs
  good-at item = ap (λ k. good (item k) bs) e

  pub number-at : (lo hi : ℕ) (may : Bool) → w ≤ 16 → (length bs ≤? 16 & good (number (length bs) lo hi may) bs) ≡ good (number w lo hi may) bs
  number-at lo hi may h =
      let k : length bs ≤ 16 = omega arith in
      rw (of≤ k, true_and) (good-at (λ j. number j lo hi may))
