-- Numbers and heights: the form column by column is the form, its last column tells a blank one, and whatever has the form fits its own width, so that the range decides. Assumes nothing.
use mathlib.Core.Path.{◌≡◌, refl, sym, ap, ◌∙◌, subst}
use mathlib.Core.Bool.{Bool, true, false, cond, not, ◌&&◌, ◌||◌, and-false, or-true, or-false, false≢true}
use mathlib.Core.List.{List, [], ◌∷◌}
use Prim.Native.Nat.{ℕ, zero, suc, ◌+◌, ◌-◌, ◌^◌, ◌≤◌, ◌<◌}
use native.Mathlib.Omega.{arith}
use lib.Dec.{leb, eqb}
use lib.ListN.{length, get_or}
use borrow.Author.Tests.{le-leb}
use Rattle.rules.specs.Tests.{◌&◌, ◌≤?◌, ◌=?◌, within, all}
use Rattle.rules.specs.Characters.{is_blank, is_digit}
use Rattle.rules.specs.Digits.{val}
use Rattle.rules.specs.Items.{num, num_form, height_form, minus, signed, number, height, on_number, width, shape, value_of, fits, good}
use Rattle.rules.proofs.Truth.{both, and, of≤, to≡, of≡, to_within, is_no, cases, and_true, all_weaken}
use Rattle.rules.proofs.DigitLaws.{not_above9, val_lt}
use Rattle.rules.proofs.FormLaws.{digit_low}
use Rattle.columns.specs.Leaves.{formed, last_of, between}
use Rattle.columns.proofs.Loops.{&_is, pow_most}
use Rattle.columns.proofs.ItemLaws.{same_size}

-- ---- the characters apart
32_is_32 : 32 =? 32 ≡ true
32_is_32 = of≡ {m = 32} refl

32_no_45 : 32 =? 45 ≡ false
unfolding ◌=?◌
32_no_45 = refl

pub digit_no : (b k : ℕ) → k < 48 → is_digit b ≡ true → b =? k ≡ false
unfolding is_digit
digit_no b k l h = is_no (b =? k) (λ e. omega (arith, to≡ e, (to_within h).0))

-- ---- the form column by column
-- after a digit, and after any other character that is no blank, only digits follow
digits-after : (m p : ℕ) (bs : List ℕ) → is_digit p ≡ true → formed m p bs ≡ all is_digit bs
unfolding formed all ◌&◌
digits-after m p [] h = rw (digit_no p 45 (omega arith) h)
digits-after m p (b ∷ bs) h =
    rw (digit_no p 32 (omega arith) h, and-false (b =? 32 || b =? m), or-false (is_digit b))
    (cases (is_digit b) (λ e. rw e (digits-after m b bs e)) (λ e. rw e))

-- before the first that is no blank: a blank, the mark, or anything else
module _ (m b : ℕ) (bs : List ℕ) where
  blank_next : b =? 32 ≡ true → formed m 32 (b ∷ bs) ≡ formed m 32 bs
  unfolding formed ◌&◌
  blank_next e = rw (e, 32_is_32, or-true (is_digit b)) (ap (λ k. formed m k bs) (to≡ e))

  digits_next : b =? 32 ≡ false → b =? m ≡ false → formed m 32 (b ∷ bs) ≡ all is_digit (b ∷ bs)
  unfolding formed all ◌&◌
  digits_next e k = rw (e, k, or-false (is_digit b)) (cases (is_digit b) (λ d. rw d (digits-after m b bs d)) (λ d. rw d))

pub number_form : (bs : List ℕ) → formed 32 32 bs ≡ num_form bs
unfolding num_form is_blank
number_form [] = unfold formed in rw 32_no_45
number_form (b ∷ bs) =
    cases (b =? 32) (λ e. blank_next 32 b bs e ∙ rw e (number_form bs)) (λ e. digits_next 32 b bs e e ∙ sym (rw e))

-- after the minus at least one digit
minus_next : (bs : List ℕ) → formed 45 45 bs ≡ (1 ≤? length bs & all is_digit bs)
unfolding formed all ◌&◌ ◌≤?◌ ◌=?◌
minus_next [] = refl
minus_next (b ∷ bs) =
    rw (and-false (eqb b 32 || eqb b 45), or-false (is_digit b), le-leb 1 (suc (length bs)) (omega arith))
    (cases (is_digit b) (λ d. rw d (digits-after 45 b bs d)) (λ d. rw d))

minus-first : (b : ℕ) (bs : List ℕ) → b =? 32 ≡ false → b =? 45 ≡ true → formed 45 32 (b ∷ bs) ≡ formed 45 45 bs
unfolding formed ◌&◌
minus-first b bs e k = rw (e, k, 32_is_32, or-true (is_digit b)) (ap (λ j. formed 45 j bs) (to≡ k))

pub height_form_lem : (bs : List ℕ) → formed 45 32 bs ≡ height_form bs
unfolding height_form is_blank
height_form_lem [] = unfold formed in rw 32_no_45
height_form_lem (b ∷ bs) =
    cases (b =? 32) (λ e. blank_next 45 b bs e ∙ rw e (height_form_lem bs))
    (λ e. cases (b =? 45) (λ k. minus-first b bs e k ∙ minus_next bs ∙ sym (rw (e, k))) (λ k. digits_next 45 b bs e k ∙ sym (rw (e, k))))

-- ---- the last column
last_from : (m p : ℕ) (bs : List ℕ) → formed m p bs ≡ true → (get_or (p ∷ bs) (length bs) 0 =? 32) ≡ (p =? 32 & all is_blank bs)
unfolding formed all
last_from m p [] h = sym (and_true (p =? 32))
last_from m p (b ∷ bs) h =
    last_from m b bs (both h).1
    ∙ cases (p =? 32) (λ e. unfold ◌&◌ is_blank in rw e) (λ e. unfold ◌&◌ is_blank in rw (e, digit_no b 32 (omega arith) (only e (both h).0)))
  where
    only : p =? 32 ≡ false → (is_digit b || (b =? 32 || b =? m) && p =? 32) ≡ true → is_digit b ≡ true
    only e k = rw (e, and-false (b =? 32 || b =? m), or-false (is_digit b)) at k

pub last_tells : (m : ℕ) (bs : List ℕ) → formed m 32 bs ≡ true → (last_of bs =? 32) ≡ all is_blank bs
unfolding last_of ◌&◌
last_tells m bs h = last_from m 32 bs h ∙ rw 32_is_32

-- ---- what has the form fits its width
is_low : (b k : ℕ) → k ≤ 57 → b =? k ≡ true → not_above9 b ≡ true
unfolding not_above9
is_low b k l e = of≤ (omega (arith, to≡ e))

digits_low : (bs : List ℕ) → all is_digit bs ≡ true → all not_above9 bs ≡ true
digits_low bs h = all_weaken is_digit not_above9 digit_low bs h

pub form_low : (m p : ℕ) (bs : List ℕ) → m ≤ 57 → formed m p bs ≡ true → all not_above9 bs ≡ true
unfolding formed all
form_low m p [] l h = refl
form_low m p (b ∷ bs) l h = and (any (both h).0) (form_low m b bs l (both h).1)
  where
    any : (is_digit b || (b =? 32 || b =? m) && p =? 32) ≡ true → not_above9 b ≡ true
    any k = cases (is_digit b) (digit_low b) (λ d. cases (b =? 32) (is_low b 32 (omega arith)) (λ e. cases (b =? m) (is_low b m l) (λ f. absurd (false≢true (rw (d, e, f) at k)))))

pub form_lt : (m : ℕ) (bs : List ℕ) → m ≤ 57 → formed m 32 bs ≡ true → val 0 bs < 10 ^ length bs
form_lt m bs l h = omega (arith, val_lt 0 bs (form_low m 32 bs l h))

-- a field that is not blank has a column
some : (bs : List ℕ) → all is_blank bs ≡ false → 1 ≤ length bs
unfolding all
some [] h = absurd (false≢true (sym h))
some (b ∷ bs) h = omega arith

-- ---- numbers
module _ (lo hi : ℕ) (may : Bool) (bs : List ℕ) where
  number_fits : formed 32 32 bs ≡ true → fits (number (length bs) lo hi may) (value_of (number (length bs) lo hi may) bs) ≡ cond (all is_blank bs) may (within lo hi (val 0 bs))
  unfolding fits value_of on_number ◌&◌
  number_fits h =
      cases (all is_blank bs) (λ e. rw e) (λ e. rw (e, of≤ (some bs e), of≤ (form_lt 32 bs (omega arith) h)))

  pub number-good : {f : Bool} {l v a b : ℕ} → f ≡ formed 32 32 bs → l ≡ last_of bs → v ≡ val 0 bs → a ≡ lo → b ≡ hi
      → (f && (eqb l 32 && may || not (eqb l 32) && (leb a v && leb v b))) ≡ good (number (length bs) lo hi may) bs
  unfolding good width shape
  number-good d e k p q =
      rw (same_size bs, d, e, k, p, q, ← number_form bs)
      (cases (formed 32 32 bs)
      (λ h. rw (number_fits h) (unfold ◌&◌ in rw h (unfold ◌=?◌ in rw (last_tells 32 bs h) (pick (all is_blank bs)))))
      (λ h. unfold ◌&◌ in rw h))
    where
      pick : (z : Bool) → (z && may || not z && (leb lo (val 0 bs) && leb (val 0 bs) hi)) ≡ cond z may (within lo hi (val 0 bs))
      pick true = or-false may
      pick false = unfold within ◌≤?◌ in sym (&_is _ _)

-- ---- heights
-- a minus takes one of the columns
minus_lt : (bs : List ℕ) → height_form bs ≡ true → minus bs ≡ true → val 0 bs < 10 ^ (length bs - 1)
unfolding height_form minus is_blank
minus_lt [] h k = absurd (false≢true k)
minus_lt (b ∷ bs) h k =
    cases (b =? 32)
    (λ e. wider (rw e at h) (rw e at k) e (minus_lt bs (rw e at h) (rw e at k)))
    (λ e. cases (b =? 45) (λ m. tail e m) (λ m. absurd (false≢true (sym m ∙ (rw e at k)))))
  where
    first : b - 48 ≡ 0 → val 0 (b ∷ bs) ≡ val 0 bs
    first z = unfold val in rw z

    less : length (b ∷ bs) - 1 ≡ length bs
    less = omega arith

    tail : b =? 32 ≡ false → b =? 45 ≡ true → val 0 (b ∷ bs) < 10 ^ (length (b ∷ bs) - 1)
    tail e m =
        let d : 1 ≤? length bs & all is_digit bs ≡ true = rw (e, m) at h in
        rw (first (omega (arith, to≡ m)), less) (omega (arith, val_lt 0 bs (digits_low bs (both d).1)))

    wider : height_form bs ≡ true → minus bs ≡ true → b =? 32 ≡ true → val 0 bs < 10 ^ (length bs - 1) → val 0 (b ∷ bs) < 10 ^ (length (b ∷ bs) - 1)
    wider _ _ e l = rw (first (omega (arith, to≡ e)), less) (omega (arith, l, pow_most (length bs - 1) (length bs) (omega arith)))

-- zero is held with either sign, and any other by the end on its side
module _ (w lo hi : ℕ) (may : Bool) where
  pub held_above : (n : ℕ) → 1 ≤ w → n < 10 ^ w → fits (height w lo hi may) (num (signed false n)) ≡ between lo hi false n
  unfolding fits signed on_number between ◌&◌
  held_above n p h = rw (of≤ p, of≤ h)

  pub held_below : (n : ℕ) → 1 ≤ w → n < 10 ^ (w - 1) → fits (height w lo hi may) (num (signed true n)) ≡ between lo hi true n
  unfolding fits signed on_number between ◌&◌
  held_below zero p h = rw (of≤ p, of≤ {m = 1} {n = 10 ^ w} (omega (arith, pow_most (w - 1) w (omega arith))), of≤ {m = 0} {n = hi} (omega arith), of≤ {m = 0} {n = lo} (omega arith))
  held_below (suc n) p h = rw (of≤ p, of≤ h)

-- a range as wide as its columns holds all that has the form
pub form_between : (w lo hi : ℕ) → lo + 1 ≡ 10 ^ w → hi + 1 ≡ 10 ^ suc w → (bs : List ℕ) → length bs ≡ suc w → formed 45 32 bs ≡ true → between lo hi (minus bs) (val 0 bs) ≡ true
unfolding between
form_between w lo hi p q bs n h =
    cases (minus bs)
    (λ m. let less : length bs - 1 ≡ w = omega arith in
    rw m (of≤ (omega (arith, subst (λ k. val 0 bs < 10 ^ k) less (minus_lt bs (sym (height_form_lem bs) ∙ h) m)))))
    (λ m. rw m (of≤ (omega (arith, subst (λ k. val 0 bs < 10 ^ k) n (form_lt 45 bs (omega arith) h)))))

module _ (lo hi : ℕ) (may : Bool) (bs : List ℕ) where
  height-fits : formed 45 32 bs ≡ true → fits (height (length bs) lo hi may) (value_of (height (length bs) lo hi may) bs) ≡ cond (all is_blank bs) may (between lo hi (minus bs) (val 0 bs))
  unfolding value_of
  height-fits h =
      cases (all is_blank bs) (λ e. rw e (unfold fits on_number in refl))
      (λ e. rw e
      (cases (minus bs)
      (λ m. rw m (held_below (length bs) lo hi may (val 0 bs) (some bs e) (minus_lt bs (sym (height_form_lem bs) ∙ h) m)))
      (λ m. rw m (held_above (length bs) lo hi may (val 0 bs) (some bs e) (form_lt 45 bs (omega arith) h)))))

  pub height-good : {f t : Bool} {l : ℕ} → f ≡ formed 45 32 bs → l ≡ last_of bs → t ≡ between lo hi (minus bs) (val 0 bs) → (f && (eqb l 32 && may || not (eqb l 32) && t)) ≡ good (height (length bs) lo hi may) bs
  unfolding good width shape
  height-good d e k =
      rw (same_size bs, d, e, k, ← height_form_lem bs)
      (cases (formed 45 32 bs)
      (λ h. rw (height-fits h) (unfold ◌&◌ in rw h (unfold ◌=?◌ in rw (last_tells 45 bs h) (pick _ (all is_blank bs)))))
      (λ h. unfold ◌&◌ in rw h))
    where
      pick : (t z : Bool) → (z && may || not z && t) ≡ cond z may t
      pick t true = or-false may
      pick t false = refl
