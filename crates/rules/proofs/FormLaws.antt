-- The tests of numbers and signed heights are what the paper says: blanks, perhaps a minus, digits.
use mathlib.Core.Path.{◌≡◌, refl, sym, ◌∙◌, ap, ap₂, subst}
use mathlib.Core.Logic.{inl, inr}
use mathlib.Core.Bool.{Bool, true, false, cond, false≢true}
use mathlib.Core.List.{List, [], ◌∷◌, ◌++◌, append-nil}
use Prim.Native.Nat.{ℕ, zero, suc, ◌+◌, ◌-◌, ◌*◌, ◌^◌, ◌≤◌, ◌<◌}
use native.Mathlib.Omega.{arith}
use native.Mathlib.Nat.{pow-le-pow_right}
use lib.ListN.{length, length-append, replicate, length-replicate}
use lib.IntN.{ℤ, pos, negsuc}
use Rattle.rules.specs.Tests.{all, ◌&◌, ◌≤?◌, ◌=?◌}
use Rattle.rules.specs.Characters.{is_blank, is_digit}
use Rattle.rules.specs.Digits.{val}
use Rattle.rules.specs.Items.{Value, missing, num, number, height, num_form, height_form, minus, signed, value_of, fits, on_number, width, shape, good}
use Rattle.rules.specs.Forms.{NumberField, Between, HeightField}
use Rattle.rules.proofs.Truth.{both, and, to≤, of≤, no≤, to≡, of≡, of_within, to_within, cases, all_weaken, is_no, not_both}
use Rattle.rules.proofs.SetLaws.{digits_in, digits_of}
use Rattle.rules.proofs.DigitLaws.{not_above9, val_lt}
use Rattle.rules.proofs.Lawful.{digits-not-blank, blanks, blanks-num_form, digits-num_form, blanks-height_form, digits-height_form, digits_no_minus}

-- ---- blanks in front
pub all-blank : (bs : List ℕ) → all is_blank bs ≡ true → bs ≡ replicate (length bs) 32
unfolding all is_blank
all-blank [] h = refl
all-blank (b ∷ bs) h = ap₂ ◌∷◌ (to≡ (both h).0) (all-blank bs (both h).1)

val-blanks : (k : ℕ) (bs : List ℕ) → val 0 (replicate k 32 ++ bs) ≡ val 0 bs
unfolding val
val-blanks zero bs = refl
val-blanks (suc k) bs = val-blanks k bs

blank_32 : is_blank 32 ≡ true
unfolding is_blank ◌=?◌
blank_32 = refl

num_form-blanks : (k : ℕ) (bs : List ℕ) → num_form (replicate k 32 ++ bs) ≡ num_form bs
unfolding num_form
num_form-blanks zero bs = refl
num_form-blanks (suc k) bs = rw blank_32 (num_form-blanks k bs)

height_form-blanks : (k : ℕ) (bs : List ℕ) → height_form (replicate k 32 ++ bs) ≡ height_form bs
unfolding height_form
height_form-blanks zero bs = refl
height_form-blanks (suc k) bs = rw blank_32 (height_form-blanks k bs)

minus-blanks : (k : ℕ) (bs : List ℕ) → minus (replicate k 32 ++ bs) ≡ minus bs
unfolding minus
minus-blanks zero bs = refl
minus-blanks (suc k) bs = rw blank_32 (minus-blanks k bs)

not-blank-after : (k : ℕ) (bs : List ℕ) → all is_blank bs ≡ false → all is_blank (replicate k 32 ++ bs) ≡ false
unfolding all
not-blank-after zero bs h = h
not-blank-after (suc k) bs h = rw (blank_32, not-blank-after k bs h) (unfold ◌&◌ in refl)

-- ---- digits in so many columns
pub digit_low : (b : ℕ) → is_digit b ≡ true → not_above9 b ≡ true
unfolding is_digit not_above9
digit_low b h = of≤ (to_within h).1

pub digits_lt : (w : ℕ) (ds : List ℕ) → all is_digit ds ≡ true → length ds ≤ w → val 0 ds < 10 ^ w
digits_lt w ds h k =
    let v : val 0 ds < 1 * 10 ^ length ds = val_lt 0 ds (all_weaken is_digit not_above9 digit_low ds h) in
    omega (arith, v, pow-le-pow_right {n = 10} (omega arith) {i = length ds} {j = w} k)

-- ---- numbers
-- blanks then digits, where the digits may be none
pub record Split (bs : List ℕ) : Type 0 where
  pub blank : ℕ
  pub digits : List ℕ
  pub spelled : bs ≡ replicate blank 32 ++ digits
  pub decimal : all is_digit digits ≡ true

split_number : (bs : List ℕ) → num_form bs ≡ true → Split bs
unfolding num_form
split_number [] h = record { blank = 0; digits = []; spelled = refl; decimal = unfold all in refl }
split_number (b ∷ bs) h =
    cases (is_blank b)
    (λ e. let s = split_number bs (rw e at h) in record { blank = suc s.blank; digits = s.digits; spelled = ap₂ ◌∷◌ (unfold is_blank in to≡ e) s.spelled; decimal = s.decimal })
    (λ e. record { blank = 0; digits = b ∷ bs; spelled = refl; decimal = rw e at h })

-- with no digits there are blanks only
only-blanks : (bs : List ℕ) (s : Split bs) {w : ℕ} → length bs ≡ w → 1 ≤? length s.digits ≡ false → bs ≡ replicate w 32
only-blanks bs s {w} e h =
    let none : s.digits ≡ [] = empty s.digits (no≤ h) in
    let same : bs ≡ replicate s.blank 32 = s.spelled ∙ ap (λ ds. replicate s.blank 32 ++ ds) none ∙ append-nil (replicate s.blank 32) in
    same ∙ ap (λ n. replicate n 32) (sym (length-replicate {A = ℕ} s.blank 32) ∙ ap length (sym same) ∙ e)
  where
    empty : (ds : List ℕ) → length ds < 1 → ds ≡ []
    empty [] k = refl
    empty (d ∷ ds) k = absurd (omega arith)

behind-blanks : (w k : ℕ) (ds : List ℕ) → length (replicate k 32 ++ ds) ≡ w → length ds ≤ w
behind-blanks w k ds e = omega (arith, length-append (replicate k 32) ds)

module _ (w lo hi : ℕ) (may : Bool) where
  pub value_blank : (bs : List ℕ) → all is_blank bs ≡ true → value_of (number w lo hi may) bs ≡ missing
  unfolding value_of
  value_blank bs h = rw h

  value_digits : (k : ℕ) (ds : List ℕ) → all is_digit ds ≡ true → 1 ≤ length ds → value_of (number w lo hi may) (replicate k 32 ++ ds) ≡ num (pos (val 0 ds))
  unfolding value_of
  value_digits k ds h s = rw (not-blank-after k ds (digits-not-blank ds h s), val-blanks k ds)

  -- the range of a value that is there
  pub in-range : (n : ℕ) → fits (number w lo hi may) (num (pos n)) ≡ true → (lo ≤ n) × (n ≤ hi)
  unfolding fits on_number
  in-range n h = to_within (both h).1

  pub fits_room : (n : ℕ) → fits (number w lo hi may) (num (pos n)) ≡ true → (1 ≤ w) × (n < 10 ^ w)
  unfolding fits on_number
  fits_room n h = (to≤ (both (both h).0).0, to≤ (both (both h).0).1)

  may_miss : fits (number w lo hi may) missing ≡ true → may ≡ true
  unfolding fits on_number
  may_miss h = h

  pub fits_range : (n : ℕ) → 1 ≤ w → n < 10 ^ w → lo ≤ n → n ≤ hi → fits (number w lo hi may) (num (pos n)) ≡ true
  unfolding fits on_number
  fits_range n p q a b = and (and (of≤ p) (of≤ q)) (of_within a b)

  fits-missing : may ≡ true → fits (number w lo hi may) missing ≡ true
  unfolding fits on_number
  fits-missing h = h

  pub number_forth : (bs : List ℕ) → good (number w lo hi may) bs ≡ true → NumberField w lo hi may bs (value_of (number w lo hi may) bs)
  unfolding good shape width NumberField
  number_forth bs h =
      let size : length bs ≡ w = to≡ (both (both h).0).0 in
      let s = split_number bs (both (both h).0).1 in
      cases (1 ≤? length s.digits)
      (λ some.
      let v : value_of (number w lo hi may) bs ≡ num (pos (val 0 s.digits)) = ap (value_of (number w lo hi may)) s.spelled ∙ value_digits s.blank s.digits s.decimal (to≤ some) in
      let r = in-range (val 0 s.digits) (subst (λ x. fits (number w lo hi may) x ≡ true) v (both h).1) in
      inr (val 0 s.digits, size, record { blanks = s.blank; digits = s.digits; spelled = s.spelled; decimal = digits_in s.digits s.decimal; some = to≤ some; value = refl }, r.0, r.1, v))
      (λ none.
      let blank : bs ≡ replicate w 32 = only-blanks bs s size none in
      let v : value_of (number w lo hi may) bs ≡ missing = value_blank bs (rw blank (blanks w)) in
      inl (may_miss (subst (λ x. fits (number w lo hi may) x ≡ true) v (both h).1), blank, v))

  pub number_back : (bs : List ℕ) (v : Value) → NumberField w lo hi may bs v → (good (number w lo hi may) bs ≡ true) × (value_of (number w lo hi may) bs ≡ v)
  unfolding good shape width NumberField
  number_back bs v (inl x) =
      let e : value_of (number w lo hi may) bs ≡ missing = value_blank bs (rw x.1 (blanks w)) in
      (and (and (of≡ (ap length x.1 ∙ length-replicate {A = ℕ} w 32)) (rw x.1 (blanks-num_form _ (blanks w)))) (rw e (fits-missing x.0)), e ∙ sym x.2)
  number_back bs v (inr (n, size, i, a, b, q)) =
      let ds : all is_digit i.digits ≡ true = digits_of i.digits i.decimal in
      let long : length i.digits ≤ w = behind-blanks w i.blanks i.digits (sym (ap length i.spelled) ∙ size) in
      let small : n < 10 ^ w = rw i.value (digits_lt w i.digits ds long) in
      let e : value_of (number w lo hi may) bs ≡ num (pos n) = ap (value_of (number w lo hi may)) i.spelled ∙ value_digits i.blanks i.digits ds i.some ∙ ap (λ k. num (pos k)) (sym i.value) in (
        and (and (of≡ size) (rw i.spelled (num_form-blanks i.blanks i.digits ∙ digits-num_form i.digits ds))) (rw e (fits_range n (omega (arith, i.some)) small a b)),
        e ∙ sym q,
      )

-- ---- signed heights
pub record SplitHeight (bs : List ℕ) : Type 0 where
  pub blank : ℕ
  pub sign : Bool
  pub digits : List ℕ
  pub spelled : bs ≡ replicate blank 32 ++ (cond sign (45 ∷ []) [] ++ digits)
  pub decimal : all is_digit digits ≡ true
  pub some : sign ≡ true → 1 ≤ length digits

split_height : (bs : List ℕ) → height_form bs ≡ true → SplitHeight bs
unfolding height_form
split_height [] h = record { blank = 0; sign = false; digits = []; spelled = refl; decimal = unfold all in refl; some = λ e. absurd (false≢true e) }
split_height (b ∷ bs) h =
    cases (is_blank b)
    (λ e. let s = split_height bs (rw e at h) in record {
      blank = suc s.blank;
      sign = s.sign;
      digits = s.digits;
      spelled = ap₂ ◌∷◌ (unfold is_blank in to≡ e) s.spelled;
      decimal = s.decimal;
      some = s.some;
    })
    (λ e. cases (b =? 45)
    (λ m. let k : 1 ≤? length bs & all is_digit bs ≡ true = rw (e, m) at h in
    record { blank = 0; sign = true; digits = bs; spelled = ap₂ ◌∷◌ (to≡ m) refl; decimal = (both k).1; some = λ _. to≤ (both k).0 })
    (λ m. record { blank = 0; sign = false; digits = b ∷ bs; spelled = refl; decimal = rw (e, m) at h; some = λ x. absurd (false≢true x) }))

-- a sign, then digits, at least one
module _ (sign : Bool) (ds : List ℕ) (h : all is_digit ds ≡ true) (some : 1 ≤ length ds) where
  signed-not-blank : all is_blank (cond sign (45 ∷ []) [] ++ ds) ≡ false
  signed-not-blank = by sign
    where
      by : (t : Bool) → all is_blank (cond t (45 ∷ []) [] ++ ds) ≡ false
      by true = unfold all is_blank ◌=?◌ ◌&◌ in refl
      by false = digits-not-blank ds h some

  signed-minus : minus (cond sign (45 ∷ []) [] ++ ds) ≡ sign
  signed-minus = by sign
    where
      by : (t : Bool) → minus (cond t (45 ∷ []) [] ++ ds) ≡ t
      by true = unfold minus is_blank ◌=?◌ in refl
      by false = digits_no_minus ds h

  signed_value : val 0 (cond sign (45 ∷ []) [] ++ ds) ≡ val 0 ds
  signed_value = by sign
    where
      by : (t : Bool) → val 0 (cond t (45 ∷ []) [] ++ ds) ≡ val 0 ds
      by true = unfold val in refl
      by false = refl

  signed_form : height_form (cond sign (45 ∷ []) [] ++ ds) ≡ true
  signed_form = by sign
    where
      by : (t : Bool) → height_form (cond t (45 ∷ []) [] ++ ds) ≡ true
      by true = unfold height_form is_blank ◌=?◌ in and (of≤ some) h
      by false = digits-height_form ds h

-- the minus and the value of all its columns are those of the parts
pub split_value : (bs : List ℕ) (s : SplitHeight bs) → 1 ≤ length s.digits → signed (minus bs) (val 0 bs) ≡ signed s.sign (val 0 s.digits)
split_value bs s some =
    let tail = cond s.sign (45 ∷ []) [] ++ s.digits in
    ap₂ signed
    (ap minus s.spelled ∙ minus-blanks s.blank tail ∙ signed-minus s.sign s.digits s.decimal some)
    (ap (val 0) s.spelled ∙ val-blanks s.blank tail ∙ signed_value s.sign s.digits s.decimal some)

module _ (w lo hi : ℕ) (may : Bool) where
  height_value_lem : (k : ℕ) (sign : Bool) (ds : List ℕ) → all is_digit ds ≡ true → 1 ≤ length ds
      → value_of (height w lo hi may) (replicate k 32 ++ (cond sign (45 ∷ []) [] ++ ds)) ≡ num (signed sign (val 0 ds))
  unfolding value_of
  height_value_lem k sign ds h s =
      rw (
        not-blank-after k (cond sign (45 ∷ []) [] ++ ds) (signed-not-blank sign ds h s),
        minus-blanks k (cond sign (45 ∷ []) [] ++ ds),
        signed-minus sign ds h s,
        val-blanks k (cond sign (45 ∷ []) [] ++ ds),
        signed_value sign ds h s,
      )

  pub height-blank : (bs : List ℕ) → all is_blank bs ≡ true → value_of (height w lo hi may) bs ≡ missing
  unfolding value_of
  height-blank bs h = rw h

  height_may_miss : fits (height w lo hi may) missing ≡ true → may ≡ true
  unfolding fits on_number
  height_may_miss h = h

  height-missing : may ≡ true → fits (height w lo hi may) missing ≡ true
  unfolding fits on_number
  height-missing h = h

  -- the form and the width leave room for it, so the range alone decides
  pub up : (n : ℕ) → 1 ≤ w → n < 10 ^ w → Between lo hi (signed false n) → fits (height w lo hi may) (num (signed false n)) ≡ true
  unfolding fits signed on_number Between
  up n p h b = and (and (of≤ p) (of≤ h)) (of≤ b)

  pub down : (n : ℕ) → 1 ≤ w → n < 10 ^ (w - 1) → Between lo hi (signed true n) → fits (height w lo hi may) (num (signed true n)) ≡ true
  unfolding fits signed on_number Between
  down zero p h b = and (and (of≤ p) (of≤ (omega (arith, pow-le-pow_right {n = 10} (omega arith) {i = w - 1} {j = w} (omega arith))))) (of≤ b)
  down (suc n) p h b = and (and (of≤ p) (of≤ h)) (of≤ b)

  height-fits : (sign : Bool) (ds : List ℕ) → all is_digit ds ≡ true → 1 ≤ length ds → length (cond sign (45 ∷ []) [] ++ ds) ≤ w → Between lo hi (signed sign (val 0 ds)) → fits (height w lo hi may) (num (signed sign (val 0 ds))) ≡ true
  height-fits true ds h s k b =
      let short : length ds ≤ w - 1 = omega arith in
      down (val 0 ds) (omega arith) (digits_lt (w - 1) ds h short) b
  height-fits false ds h s k b = up (val 0 ds) (omega arith) (digits_lt w ds h k) b

  pub height-between : (z : ℤ) → fits (height w lo hi may) (num z) ≡ true → Between lo hi z
  unfolding fits on_number Between
  height-between (pos n) h = to≤ (both h).1
  height-between (negsuc n) h = to≤ (both h).1

  height-only-blanks : (bs : List ℕ) (s : SplitHeight bs) → length bs ≡ w → 1 ≤? length s.digits ≡ false → bs ≡ replicate w 32
  height-only-blanks bs s e h =
      only-blanks bs record { blank = s.blank; digits = s.digits; spelled = s.spelled ∙ ap (λ t. replicate s.blank 32 ++ (cond t (45 ∷ []) [] ++ s.digits)) unsigned; decimal = s.decimal } e h
    where
      unsigned : s.sign ≡ false
      unsigned = is_no s.sign (λ x. omega (arith, s.some x, no≤ h))

  pub height_forth : (bs : List ℕ) → good (height w lo hi may) bs ≡ true → HeightField w lo hi may bs (value_of (height w lo hi may) bs)
  unfolding good shape width HeightField
  height_forth bs h =
      let size : length bs ≡ w = to≡ (both (both h).0).0 in
      let s = split_height bs (both (both h).0).1 in
      cases (1 ≤? length s.digits)
      (λ some.
      let v : value_of (height w lo hi may) bs ≡ num (signed s.sign (val 0 s.digits)) = ap (value_of (height w lo hi may)) s.spelled ∙ height_value_lem s.blank s.sign s.digits s.decimal (to≤ some) in
      let b = height-between (signed s.sign (val 0 s.digits)) (subst (λ x. fits (height w lo hi may) x ≡ true) v (both h).1) in
      inr (signed s.sign (val 0 s.digits), size, record { blanks = s.blank; minus = s.sign; digits = s.digits; spelled = s.spelled; decimal = digits_in s.digits s.decimal; some = to≤ some; value = refl }, b, v))
      (λ none.
      let blank : bs ≡ replicate w 32 = height-only-blanks bs s size none in
      let v : value_of (height w lo hi may) bs ≡ missing = height-blank bs (rw blank (blanks w)) in
      inl (height_may_miss (subst (λ x. fits (height w lo hi may) x ≡ true) v (both h).1), blank, v))

  pub height_back : (bs : List ℕ) (v : Value) → HeightField w lo hi may bs v → (good (height w lo hi may) bs ≡ true) × (value_of (height w lo hi may) bs ≡ v)
  unfolding good shape width HeightField
  height_back bs v (inl x) =
      let e : value_of (height w lo hi may) bs ≡ missing = height-blank bs (rw x.1 (blanks w)) in
      (and (and (of≡ (ap length x.1 ∙ length-replicate {A = ℕ} w 32)) (rw x.1 (blanks-height_form _ (blanks w)))) (rw e (height-missing x.0)), e ∙ sym x.2)
  height_back bs v (inr (z, size, i, b, q)) =
      let ds : all is_digit i.digits ≡ true = digits_of i.digits i.decimal in
      let tail = cond i.minus (45 ∷ []) [] ++ i.digits in
      let long : length tail ≤ w = behind-blanks w i.blanks tail (sym (ap length i.spelled) ∙ size) in
      let e : value_of (height w lo hi may) bs ≡ num z = ap (value_of (height w lo hi may)) i.spelled ∙ height_value_lem i.blanks i.minus i.digits ds i.some ∙ ap num (sym i.value) in (
        and (and (of≡ size) (rw i.spelled (height_form-blanks i.blanks tail ∙ signed_form i.minus i.digits ds i.some)))
            (rw e (subst (λ x. fits (height w lo hi may) (num x) ≡ true) (sym i.value) (height-fits i.minus i.digits ds i.some long (subst (Between lo hi) i.value b)))),
        e ∙ sym q,
      )

  -- whatever has the form, is not blank and is of the range is a height of its own width
  pub height-formed : (bs : List ℕ) → length bs ≡ w → height_form bs ≡ true → all is_blank bs ≡ false → Between lo hi (signed (minus bs) (val 0 bs)) → good (height w lo hi may) bs ≡ true
  unfolding HeightField
  height-formed bs size h some b =
      let s = split_height bs h in
      cases (1 ≤? length s.digits)
      (λ k. let e : signed (minus bs) (val 0 bs) ≡ signed s.sign (val 0 s.digits) = split_value bs s (to≤ k) in
      (height_back bs (num (signed s.sign (val 0 s.digits)))
      (inr (signed s.sign (val 0 s.digits), size, record { blanks = s.blank; minus = s.sign; digits = s.digits; spelled = s.spelled; decimal = digits_in s.digits s.decimal; some = to≤ k; value = refl }, subst (Between lo hi) e b, refl))).0)
      (λ k. absurd (not_both (rw (height-only-blanks bs s size k) (blanks w)) some))
