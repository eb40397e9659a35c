-- Digits: what is put reads back, and how large a number in so many columns can be.
use mathlib.Core.Path.{◌≡◌, refl, sym, ◌∙◌, ap}
use mathlib.Core.Bool.{Bool, true}
use mathlib.Core.List.{List, [], ◌∷◌, ◌++◌}
use Prim.Native.Nat.{ℕ, zero, suc, ◌+◌, ◌-◌, ◌*◌, ◌/◌, ◌%◌, ◌^◌, ◌≤◌, ◌<◌}
use native.Mathlib.Nat.{mul-le-mul_right, mul_assoc, pow-succ'}
use native.Mathlib.Omega.{arith}
use lib.ListN.{length, length-append}
use Rattle.rules.specs.Tests.{all, ◌≤?◌, ◌=?◌}
use Rattle.rules.specs.Characters.{is_digit}
use Rattle.rules.specs.Digits.{val, put, stripped, numeral}
use Rattle.rules.proofs.Truth.{all_append, of_within, and, both, to≤, to≡, of≡, cases}

pub length-put : (w n : ℕ) → length (put w n) ≡ w
unfolding put
length-put zero n = refl
length-put (suc w) n = length-append (put w (n / 10)) _ ∙ omega (arith, length-put w (n / 10))

pub digits-put : (w n : ℕ) → all is_digit (put w n) ≡ true
unfolding put all is_digit
digits-put zero n = refl
digits-put (suc w) n = all_append is_digit (put w (n / 10)) _ (digits-put w (n / 10)) (and (of_within (omega arith) (omega arith)) refl)

pub val_snoc : (a : ℕ) (xs : List ℕ) (b : ℕ) → val a (xs ++ b ∷ []) ≡ val a xs * 10 + (b - 48)
unfolding val
val_snoc a [] b = refl
val_snoc a (x ∷ xs) b = val_snoc (a * 10 + (x - 48)) xs b

-- a number cut in two
pub val-append : (a : ℕ) (xs ys : List ℕ) → val a (xs ++ ys) ≡ val (val a xs) ys
unfolding val
val-append a [] ys = refl
val-append a (x ∷ xs) ys = val-append (a * 10 + (x - 48)) xs ys

pub val_from : (a : ℕ) (ys : List ℕ) → val a ys ≡ a * 10 ^ length ys + val 0 ys
unfolding val
val_from a [] = omega arith
val_from a (b ∷ ys) =
    let e : a * 10 ^ suc (length ys) ≡ a * 10 * 10 ^ length ys = ap (λ k. a * k) (pow-succ' 10 (length ys)) ∙ sym (mul_assoc a 10 (10 ^ length ys)) in
    val_from (a * 10 + (b - 48)) ys ∙ omega (arith, e, val_from (0 * 10 + (b - 48)) ys)

pub val_cut : (n : ℕ) (xs ys : List ℕ) → length ys ≡ n → val 0 (xs ++ ys) ≡ val 0 xs * 10 ^ n + val 0 ys
val_cut n xs ys e = val-append 0 xs ys ∙ val_from (val 0 xs) ys ∙ ap (λ k. val 0 xs * 10 ^ k + val 0 ys) e

pub val-zeros : (a : ℕ) (bs : List ℕ) → all (λ b. b =? 48) bs ≡ true → val a bs ≡ a * 10 ^ length bs
unfolding val all
val-zeros a [] h = omega arith
val-zeros a (b ∷ bs) h =
    let z : a * 10 + (b - 48) ≡ a * 10 = omega (arith, to≡ (both h).0) in
    ap (λ k. val k bs) z ∙ val-zeros (a * 10) bs (both h).1 ∙ mul_assoc a 10 (10 ^ length bs) ∙ ap (λ k. a * k) (sym (pow-succ' 10 (length bs)))

pub put-zeros : (w : ℕ) → all (λ b. b =? 48) (put w 0) ≡ true
unfolding put all
put-zeros zero = refl
put-zeros (suc w) = all_append (λ b. b =? 48) (put w 0) _ (put-zeros w) (and (of≡ {m = 48} refl) refl)

pub val_put : (w n : ℕ) → n < 10 ^ w → val 0 (put w n) ≡ n
unfolding val put
val_put zero n h = omega arith
val_put (suc w) n h = val_snoc 0 (put w (n / 10)) (48 + n % 10) ∙ omega (arith, val_put w (n / 10) (omega arith))

unfoldable pub not_above9 : ℕ → Bool
not_above9 b = b ≤? 57

pub val_lt : (a : ℕ) (bs : List ℕ) → all not_above9 bs ≡ true → val a bs < suc a * 10 ^ length bs
unfolding val all not_above9
val_lt a [] h = omega arith
val_lt a (b ∷ bs) h =
    let d : suc (a * 10 + (b - 48)) ≤ suc a * 10 = omega (arith, to≤ (both h).0) in
    let e : suc a * 10 ^ suc (length bs) ≡ suc a * 10 * 10 ^ length bs = ap (λ k. suc a * k) (pow-succ' 10 (length bs)) ∙ sym (mul_assoc (suc a) 10 (10 ^ length bs)) in
    omega (arith, val_lt (a * 10 + (b - 48)) bs (both h).1, mul-le-mul_right (10 ^ length bs) d, e)

-- zeros in front say nothing
zero_front : (b : ℕ) (bs : List ℕ) → b =? 48 ≡ true → val 0 bs ≡ val 0 (b ∷ bs)
unfolding val
zero_front b bs e = ap (λ k. val k bs) none
  where
    none : 0 ≡ 0 * 10 + (b - 48)
    none = omega (arith, to≡ e)

pub val-stripped : (bs : List ℕ) → val 0 (stripped bs) ≡ val 0 bs
unfolding stripped
val-stripped [] = refl
val-stripped (b ∷ []) = refl
val-stripped (b ∷ c ∷ bs) = cases (b =? 48) (λ e. rw e (val-stripped (c ∷ bs) ∙ zero_front b (c ∷ bs) e)) (λ e. rw e)

-- the deposit sheet's numerals read back
pub val-numeral : (n : ℕ) → n < 10_000_000_000 → val 0 (numeral n) ≡ n
unfolding numeral
val-numeral n h = val-stripped (put 10 n) ∙ val_put 10 n h
