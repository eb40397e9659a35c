-- The kind of a code: one law for each way through the functions.
use mathlib.Core.Path.{◌≡◌, sym, ◌∙◌, ap, ap₂}
use mathlib.Core.Bool.{Bool, true, false, ◌&&◌}
use mathlib.Core.List.{List, [], ◌∷◌}
use Prim.Native.Nat.{ℕ, ◌+◌, ◌-◌, ◌*◌, ◌≤◌, ◌<◌, min}
use native.Mathlib.Nat.{min-le_right}
use native.Mathlib.Omega.{arith}
use lib.Dec.{leb}
use lib.ListN.{length, drop, get_or, length-take, length-drop}
use lib.Seq.{get_or-take, get_or-drop, length-take-le}
use Rattle.rules.specs.Tests.{within, ◌&◌, ◌≤?◌}
use Rattle.rules.specs.Characters.{is_digit, is_letter, letter, digit, ◌or◌, member}
use Rattle.rules.specs.Digits.{val}
use Rattle.rules.specs.Kinds.{data_codes, kind_from, starred, kind_between, kind_of}
use Rattle.rules.specs.Records.{code_at}
use Rattle.columns.proofs.Loops.{&_is}
use Rattle.rules.proofs.Truth.{both, and, to_within, to≡, of≡, of≢, is_no}

range_is : (lo hi b : ℕ) → (leb lo b && leb b hi) ≡ within lo hi b
unfolding within ◌≤?◌
range_is lo hi b = sym (&_is (leb lo b) (leb b hi))

pub data_is : (a b : ℕ) → ((leb 48 a && leb a 57) && (leb 48 b && leb b 57)) ≡ is_digit a & is_digit b
unfolding is_digit
data_is a b = sym (&_is (leb 48 a && leb a 57) (leb 48 b && leb b 57)) ∙ ap₂ ◌&◌ (range_is 48 57 a) (range_is 48 57 b)

pub digits : (a b : ℕ) → is_digit a & is_digit b ≡ true → (48 ≤ a) × (a ≤ 57) × (48 ≤ b) × (b ≤ 57)
unfolding is_digit
digits a b h = let x = to_within (both h).0 in let y = to_within (both h).1 in (x.0, x.1, y.0, y.1)

-- the number of no code
pub no_code : (n : ℕ) → (n ≡ 10 → ⊥) → (n ≡ 11 → ⊥) → (n ≡ 12 → ⊥) → (n ≡ 25 → ⊥) → (n ≡ 26 → ⊥) → (n ≡ 27 → ⊥) → (n ≡ 70 → ⊥) → (n ≡ 72 → ⊥) → (n ≡ 80 → ⊥) → (n ≡ 86 → ⊥) → (n ≡ 91 → ⊥) → (n ≡ 92 → ⊥) → (n ≡ 93 → ⊥)
    → 14 ≡ kind_from 1 n data_codes
unfolding kind_from data_codes
no_code n a b c d e f g h i j k l m = rw (of≢ a, of≢ b, of≢ c, of≢ d, of≢ e, of≢ f, of≢ g, of≢ h, of≢ i, of≢ j, of≢ k, of≢ l, of≢ m)

pub data-kind : (a b : ℕ) → is_digit a & is_digit b ≡ true → (x : ℕ) → x ≡ a - 48 → (y : ℕ) → y ≡ b - 48 → (k : ℕ) → k ≡ kind_from 1 (x * 10 + y) data_codes
    → k ≡ kind_from 1 (val 0 (a ∷ b ∷ [])) data_codes
unfolding val
data-kind a b h x p y q k e =
    let d = digits a b h in
    let n : x * 10 + y ≡ (0 * 10 + (a - 48)) * 10 + (b - 48) = omega arith in
    e ∙ ap (λ m. kind_from 1 m data_codes) n

-- the three ways
module _ (a b : ℕ) where
  pub is_data : (d : Bool) → d ≡ is_digit a & is_digit b → d ≡ true → (k : ℕ) → k ≡ kind_from 1 (val 0 (a ∷ b ∷ [])) data_codes → k ≡ kind_between a b
  unfolding kind_between
  is_data d e t k z = rw (sym e ∙ t) z

  pub is_job : (d : Bool) → d ≡ is_digit a & is_digit b → d ≡ false → (j : Bool) → j ≡ is_letter a & member (letter or digit) b → j ≡ true → 0 ≡ kind_between a b
  unfolding kind_between
  is_job d e t j f u = rw (sym e ∙ t, sym f ∙ u)

  pub is_none : (d : Bool) → d ≡ is_digit a & is_digit b → d ≡ false → (j : Bool) → j ≡ is_letter a & member (letter or digit) b → j ≡ false → 14 ≡ kind_between a b
  unfolding kind_between
  is_none d e t j f u = rw (sym e ∙ t, sym f ∙ u)

-- ---- columns 7-10
module _ (l : List ℕ) where
  code_long : 10 ≤ length l → length (code_at l) ≡ 4
  unfolding code_at
  code_long h = length-take-le 4 (drop 6 l) (rw length-drop (omega arith))

  code_short : length l < 10 → length (code_at l) ≡ 4 → ⊥
  unfolding code_at
  code_short h e =
      let f : min 4 (length l - 6) ≡ 4 = simp (length-take, length-drop) at e in
      omega (arith, f, min-le_right 4 (length l - 6))

  pub at_column : (i : ℕ) → i < 4 → get_or (code_at l) i 0 ≡ get_or l (6 + i) 0
  unfolding code_at
  at_column i h = get_or-take 4 (drop 6 l) i 0 h ∙ get_or-drop 6 l i 0

  unstarred : starred (code_at l) ≡ false → 14 ≡ kind_of (code_at l)
  unfolding kind_of
  unstarred h = rw h

  pub too_short : length l < 10 → 14 ≡ kind_of (code_at l)
  unfolding starred
  too_short h = unstarred (is_no _ (λ e. code_short h (to≡ (both (both e).0).0)))

  pub no_first : (get_or l 6 0 ≡ 42 → ⊥) → 14 ≡ kind_of (code_at l)
  unfolding starred
  no_first h = unstarred (is_no _ (λ e. h (sym (at_column 0 (omega arith)) ∙ to≡ (both (both e).0).1)))

  pub no_last : (get_or l 9 0 ≡ 42 → ⊥) → 14 ≡ kind_of (code_at l)
  unfolding starred
  no_last h = unstarred (is_no _ (λ e. h (sym (at_column 3 (omega arith)) ∙ to≡ (both e).1)))

  pub coded : 10 ≤ length l → get_or l 6 0 ≡ 42 → get_or l 9 0 ≡ 42 → (k : ℕ) → k ≡ kind_between (get_or l 7 0) (get_or l 8 0) → k ≡ kind_of (code_at l)
  unfolding kind_of starred
  coded h p q k e =
      let star : starred (code_at l) ≡ true = unfold starred in and (and (of≡ (code_long h)) (of≡ (at_column 0 (omega arith) ∙ p))) (of≡ (at_column 3 (omega arith) ∙ q)) in
      e ∙ sym (rw star (ap₂ kind_between (at_column 1 (omega arith)) (at_column 2 (omega arith))))
