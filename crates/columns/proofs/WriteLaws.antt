-- What the writers leave: one law for each way through a function. Assumes nothing.
use mathlib.Core.Path.{◌≡◌, refl, sym, ◌∙◌}
use mathlib.Core.Bool.{true, false, false≢true}
use mathlib.Core.List.{List, [], ◌∷◌, append-nil}
use Prim.Native.Nat.{ℕ, zero, suc, ◌-◌, ◌≤◌, ◌<◌}
use native.Mathlib.Omega.{arith}
use lib.IntN.{ℤ, pos, negsuc, nat_abs}
use lib.Signed.{le_z}
use lib.ListN.{length, replicate, set}
use lib.Seq.{take-length, drop-length}
use borrow.Rule.Slice.PartMut.{mid_of, put_mid}
use borrow.Author.Tests.{le-leb}
use Rattle.rules.specs.Tests.{◌&◌, ◌=?◌}
use Rattle.rules.specs.Digits.{put}
use Rattle.rules.specs.Items.{Item, Value, number, month, num, on_number, width, fits, render}
use Rattle.rules.proofs.Truth.{of≡, cases, of≢}
use Rattle.columns.specs.Types.{count_value, height_value}
use Rattle.columns.specs.Leaves.{height_columns, written}
use Rattle.columns.proofs.Loops.{suc_less_one}
use Rattle.std.specs.Prelude.{Option, Some, None}
use Rattle.columns.specs.declared.Height.{Height}

-- ---- a writer that leaves what it cannot write
module _ (i : Item) (v : Value) (old : List ℕ) where
  pub kept-wide : (length old ≡ width i → ⊥) → old ≡ written i v old
  unfolding written ◌&◌
  kept-wide h = sym (rw (of≢ h))

  pub kept_unfit : fits i v ≡ false → old ≡ written i v old
  unfolding written ◌&◌
  kept_unfit h = cases (length old =? width i) (λ e. sym (rw (e, h))) (λ e. sym (rw e))

  pub now_written : {new : List ℕ} → length old ≡ width i → fits i v ≡ true → new ≡ render i v → new ≡ written i v old
  unfolding written ◌&◌
  now_written e h k = sym (rw (of≡ e, h) (sym k))

pub month-wide : width month ≡ 6
unfolding width
month-wide = refl

pub month-put : (n : ℕ) {w : ℕ} {new : List ℕ} → w ≡ 6 → new ≡ put w n → new ≡ render month (num (pos n))
unfolding render on_number
month-put n e h = rw (← e) h

-- ---- numbers
module _ (w : ℕ) {x : Option ℕ} {new : List ℕ} where
  pub count_blanks : x ≡ None → new ≡ replicate w 32 → new ≡ render (number w 0 0 true) (count_value x)
  unfolding render on_number count_value
  count_blanks e h = rw e h

  pub count_digits : {n : ℕ} → x ≡ Some n → new ≡ put w n → new ≡ render (number w 0 0 true) (count_value x)
  unfolding render on_number count_value
  count_digits e h = rw e h

-- ---- heights
pub height-blanks : (w : ℕ) {x : Height} {new : List ℕ} → x ≡ Height.Missing → new ≡ replicate w 32 → new ≡ height_columns w x
unfolding height_columns render on_number height_value
height-blanks zero e h = h
height-blanks (suc w) e h = rw e h

digits_of : (w : ℕ) (z : ℤ) → le_z (pos 0) z ≡ true → put w (nat_abs z) ≡ height_columns w (Height.Mm z)
unfolding height_columns render on_number height_value put
digits_of zero (pos n) h = refl
digits_of (suc w) (pos n) h = refl
digits_of w (negsuc n) h = absurd (false≢true h)

minus_of : (w : ℕ) (z : ℤ) → le_z (pos 0) z ≡ false → 45 ∷ put w (nat_abs z) ≡ height_columns (suc w) (Height.Mm z)
unfolding height_columns render on_number height_value
minus_of w (pos n) h = absurd (false≢true (sym h ∙ le-leb 0 n (omega arith)))
minus_of w (negsuc n) h = rw suc_less_one

pub signed_nothing : (f : List ℕ) (z : ℤ) → length f ≤ 0 → f ≡ height_columns (length f) (Height.Mm z)
unfolding height_columns
signed_nothing [] z h = refl
signed_nothing (x ∷ xs) z h = absurd (omega arith)

module _ {z y : ℤ} {n : ℕ} (q : y ≡ z) (e : n ≡ nat_abs y) where
  pub signed_digits : (w : ℕ) {new : List ℕ} → le_z (pos 0) y ≡ true → new ≡ put w n → new ≡ height_columns w (Height.Mm z)
  signed_digits w h k = k ∙ rw (e, q) (digits_of w z (rw q at h))

  -- the digits stand after the first column
  pub signed_minus : (f last : List ℕ) → le_z (pos 0) y ≡ false → 0 < length f → last ≡ put (length (mid_of 1 (length f - 1) f)) n
      → set (put_mid 1 (length f - 1) f last) 0 45 ≡ height_columns (length f) (Height.Mm z)
  signed_minus [] last h k d = absurd (omega arith)
  signed_minus (x ∷ xs) last h k d = rw (d, e, q, suc_less_one, take-length xs, drop-length xs, append-nil) (minus_of (length xs) z (rw q at h))

pub height-signed : (w : ℕ) {x : Height} {z y : ℤ} {new : List ℕ} → x ≡ Height.Mm z → y ≡ z → new ≡ height_columns w (Height.Mm y) → new ≡ height_columns w x
height-signed w e k h = h ∙ rw (k, e)
