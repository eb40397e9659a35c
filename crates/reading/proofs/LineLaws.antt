-- The lines of a file: one law for each way through the functions.
use mathlib.Core.Path.{◌≡◌, sym, ◌∙◌, ap}
use mathlib.Core.List.{List, []}
use Prim.Native.Nat.{ℕ, ◌+◌, ◌-◌, ◌*◌, ◌/◌, ◌%◌, ◌≤◌, ◌<◌}
use native.Mathlib.Nat.{add-sub_cancel_left}
use native.Mathlib.Omega.{arith}
use lib.ListN.{length, take, drop, length-drop, drop_of_length-le}
use lib.Seq.{take_all}
use Rattle.rules.specs.Files.{line_at, begun}

module _ (f : List ℕ) where
  pub begun_whole : length f % 81 ≡ 0 → length f / 81 ≡ begun f
  unfolding begun
  begun_whole h = omega arith

  pub begun-part : (length f % 81 ≡ 0 → ⊥) → length f / 81 + 1 ≡ begun f
  unfolding begun
  begun-part h = omega arith

  module _ (i : ℕ) where
    pub line_none : length f / 81 < i → [] ≡ line_at f i
    unfolding line_at
    line_none h = let k : length f ≤ 81 * i = omega arith in rw (drop_of_length-le f k)

    pub line_short : i ≤ length f / 81 → length f - 81 * i < 81 → take (length f - 81 * i) (drop (81 * i) f) ≡ line_at f i
    unfolding line_at
    line_short h k =
        let n : length (drop (81 * i) f) ≡ length f - 81 * i = length-drop (81 * i) f in
        take_all (length f - 81 * i) (drop (81 * i) f) (omega arith) ∙ sym (take_all 81 (drop (81 * i) f) (omega arith))

    pub line_whole : take (81 * i + 81 - 81 * i) (drop (81 * i) f) ≡ line_at f i
    unfolding line_at
    line_whole = ap (λ n. take n (drop (81 * i) f)) (add-sub_cancel_left (81 * i) 81)
