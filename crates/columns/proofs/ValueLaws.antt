-- Values of numbers, heights and months as the code reads, tests and writes them: one law for each way through a function. Assumes nothing.
use mathlib.Core.Path.{◌≡◌, refl, sym, ◌∙◌}
use mathlib.Core.Bool.{Bool, true, false, cond, ◌&&◌}
use mathlib.Core.List.{List, [], ◌∷◌}
use Prim.Native.Nat.{ℕ, suc, ◌-◌, ◌^◌, ◌≤◌, ◌<◌}
use native.Mathlib.Omega.{arith}
use lib.Dec.{leb, eqb}
use lib.IntN.{ℤ, pos, negsuc, nat_abs}
use lib.Signed.{lt_z}
use lib.ListN.{length}
use Rattle.rules.specs.Tests.{◌&◌, ◌≤?◌, ◌=?◌, within, all}
use Rattle.rules.specs.Characters.{is_blank, is_digit}
use Rattle.rules.specs.Digits.{val}
use Rattle.rules.specs.Items.{minus, signed, number, height, month, num, on_number, width, shape, value_of, fits, good}
use Rattle.rules.proofs.Truth.{both, of≤, to≡, cases, of>, true_and}
use Rattle.columns.specs.Types.{count_of, count_value, height_of, height_value, int_of, nat_of}
use Rattle.columns.specs.Leaves.{between}
use Rattle.columns.proofs.Loops.{&_is}
use Rattle.columns.proofs.Signed.{not_below}
use Rattle.std.specs.Prelude.{Option, Some, None}
use Rattle.columns.specs.declared.Height.{Height}

-- ---- reading
module _ (bs : List ℕ) {r : Bool} (e : r ≡ all is_blank bs) where
  pub count_blank : r ≡ true → None ≡ count_of (value_of (number 0 0 0 true) bs)
  unfolding count_of value_of
  count_blank h = rw (sym e ∙ h)

  pub count_some : {v : ℕ} → r ≡ false → v ≡ val 0 bs → Some v ≡ count_of (value_of (number 0 0 0 true) bs)
  unfolding count_of value_of
  count_some h k = rw (k, sym e ∙ h)

  pub height-blank : r ≡ true → Height.Missing ≡ height_of (value_of (height 0 0 0 true) bs)
  unfolding height_of value_of
  height-blank h = rw (sym e ∙ h)

  pub height-some : {m : Bool} {v : ℕ} {z : ℤ} → r ≡ false → m ≡ minus bs → v ≡ val 0 bs → z ≡ signed m v → Height.Mm z ≡ height_of (value_of (height 0 0 0 true) bs)
  unfolding height_of value_of
  height-some h d k q = rw (q, d, k, sym e ∙ h)

blank-minus : (bs : List ℕ) → all is_blank bs ≡ true → minus bs ≡ false
unfolding minus all
blank-minus [] h = refl
blank-minus (b ∷ bs) h = rw (both h).0 (blank-minus bs (both h).1)

pub blank-val : (bs : List ℕ) → all is_blank bs ≡ true → val 0 bs ≡ 0
unfolding val all is_blank
blank-val [] h = refl
blank-val (b ∷ bs) h = rw (to≡ (both h).0) (blank-val bs (both h).1)

-- a number that may be blank is 0 there
pub signed_value : (bs : List ℕ) {m : Bool} {v : ℕ} {z : ℤ} → m ≡ minus bs → v ≡ val 0 bs → z ≡ signed m v → z ≡ int_of (value_of (height 0 0 0 true) bs)
unfolding int_of value_of
signed_value bs d k q =
    q ∙ rw (d, k) (cases (all is_blank bs) (λ e. rw (e, blank-minus bs e, blank-val bs e) (unfold signed in refl)) (λ e. rw e))

pub month_value : (bs : List ℕ) {v : ℕ} → v ≡ val 0 bs → v ≡ nat_of (value_of month bs)
unfolding nat_of value_of
month_value bs e = e

pub month-good : (bs : List ℕ) {a r : Bool} {m : ℕ} → a ≡ all (within 48 57) bs → m ≡ cond (length bs ≤? 8) (nat_of (value_of month bs)) 0
    → r ≡ fits month (num (pos m)) → (eqb (length bs) 6 && a && r) ≡ good month bs
unfolding good width shape value_of nat_of is_digit
month-good bs d e k =
    cases (length bs =? 6)
    (λ h. let q : length bs ≤ 8 = omega (arith, to≡ h) in rw (k, e, of≤ q, d) (sym (unfold ◌=?◌ in simp &_is)))
    (λ h. unfold ◌&◌ ◌=?◌ in rw h)

-- ---- fitting
module _ (w lo hi : ℕ) (may : Bool) {x : Option ℕ} where
  pub count_missing : x ≡ None → may ≡ fits (number w lo hi may) (count_value x)
  unfolding fits on_number count_value
  count_missing e = rw e

  pub count_is : {n m : ℕ} {r : Bool} → x ≡ Some n → m ≡ n → r ≡ fits (number w lo hi false) (num (pos m)) → r ≡ fits (number w lo hi may) (count_value x)
  unfolding fits on_number count_value
  count_is e q k = k ∙ rw (e, q)

pub number_is : (w lo hi n : ℕ) {a b : ℕ} {r : Bool} → a ≡ lo → b ≡ hi → r ≡ (suc n ≤? 10 ^ w) → (leb 1 w && r && (leb a n && leb n b)) ≡ fits (number w lo hi false) (num (pos n))
unfolding fits on_number within ◌≤?◌
number_is w lo hi n p q k = rw (p, q, k) (sym (simp &_is))

-- ---- signed numbers
module _ (lo hi n : ℕ) {t : Bool} {m : ℕ} where
  pub between_below : t ≡ true → m ≡ lo → leb n m ≡ between lo hi t n
  unfolding between ◌≤?◌
  between_below e k = rw (e, k)

  pub between_above : t ≡ false → m ≡ hi → leb n m ≡ between lo hi t n
  unfolding between ◌≤?◌
  between_above e k = rw (e, k)

pub signed_none : (w lo hi : ℕ) (z : ℤ) → w < 1 → false ≡ fits (height w lo hi false) (num z)
unfolding fits on_number ◌&◌
signed_none w lo hi (pos n) h = rw (of> h)
signed_none w lo hi (negsuc n) h = rw (of> h)

pub signed_is : (w lo hi : ℕ) (z : ℤ) {y : ℤ} {n room : ℕ} {r t : Bool} → 1 ≤ w → y ≡ z → n ≡ nat_abs y → room ≡ cond (lt_z y (pos 0)) (w - 1) w
    → r ≡ (suc n ≤? 10 ^ room) → t ≡ between lo hi (lt_z y (pos 0)) n → (r && t) ≡ fits (height w lo hi false) (num z)
unfolding fits on_number between
signed_is w lo hi (pos m) h q e d k l = rw (k, l, d, e, q, not_below m, of≤ h, true_and) (sym (&_is _ _))
signed_is w lo hi (negsuc m) h q e d k l = rw (k, l, d, e, q, of≤ h, true_and) (sym (&_is _ _))

-- a number that is there fits whether it may be missing or not
may_not : (w lo hi : ℕ) (may : Bool) (z : ℤ) → fits (height w lo hi false) (num z) ≡ fits (height w lo hi may) (num z)
unfolding fits on_number
may_not w lo hi may (pos n) = refl
may_not w lo hi may (negsuc n) = refl

module _ (w lo hi : ℕ) where
  module _ (may : Bool) {x : Height} where
    pub height-missing : x ≡ Height.Missing → may ≡ fits (height w lo hi may) (height_value x)
    unfolding fits on_number height_value
    height-missing e = rw e

    pub height_is : {z y : ℤ} {r : Bool} → x ≡ Height.Mm z → y ≡ z → r ≡ fits (height w lo hi false) (num y) → r ≡ fits (height w lo hi may) (height_value x)
    unfolding height_value
    height_is {z} e q k = rw (e) (k ∙ rw q (may_not w lo hi may z))
