-- Angles: the limits are those of `rules`, and a value is in range exactly when its size is at most the top. Assumes nothing.
use mathlib.Core.Path.{◌≡◌, refl, sym, ap, ◌∙◌}
use mathlib.Core.Bool.{Bool, true, false, cond, ◌&&◌, ◌||◌}
use mathlib.Core.List.{List, [], ◌∷◌, ◌++◌}
use Prim.Native.Nat.{ℕ, zero, suc, ◌+◌, ◌-◌, ◌/◌, ◌%◌, ◌^◌, ◌≤◌, ◌<◌}
use native.Mathlib.Omega.{arith}
use lib.Dec.{leb, eqb}
use lib.IntN.{ℤ, pos, negsuc, nat_abs}
use lib.Signed.{lt_z}
use lib.ListN.{length, get_or, set, take, drop, drop_of_length-le}
use lib.Seq.{drop-cons, length-take-le, set_at}
use Rattle.rules.specs.Tests.{◌&◌, ◌≤?◌, ◌=?◌, within, all}
use Rattle.rules.specs.Characters.{is_digit}
use Rattle.rules.specs.Digits.{val, put}
use Rattle.rules.specs.Items as items
use Rattle.rules.specs.Items.{angle, num, signed, angle_of, dms, dms_form, columns, top, low, plus, minus_of, angle_value, on_number, width, shape, value_of, fits, render, good}
use Rattle.rules.proofs.Truth.{both, to≤, of≤, of≡, cases, &_assoc, &_comm, true_and, of≢, or-cond}
use Rattle.rules.proofs.DigitLaws.{length-put}
use Rattle.rules.proofs.Lawful.{low-top}
use Rattle.rules.proofs.FileLaws.{length-take_most}
use Rattle.columns.specs.Types.{way_of, int_of}
use Rattle.columns.specs.Leaves.{limits_of, digits_up_to}
use Rattle.columns.specs.declared.Way.{Way}
use Rattle.columns.specs.declared.angles.Limits.{Limits}
use Rattle.columns.proofs.Loops.{&_is}
use Rattle.columns.proofs.Signed.{not_below}

-- ---- the limits
pub record Agrees (m : Limits) (w : items.Way) : Type 0 where
  pub wide : m.columns ≡ columns w
  pub most : m.top ≡ top w
  pub least : m.low ≡ low w
  pub east : m.plus ≡ plus w
  pub west : m.minus ≡ minus_of w

pub agrees : (way : Way) {m : Limits} → m ≡ limits_of way → Agrees m (way_of way)
unfolding way_of columns top low plus minus_of
agrees Way.Latitude e = record { wide = ap (λ k. k.columns) e; most = ap (λ k. k.top) e; least = ap (λ k. k.low) e; east = ap (λ k. k.plus) e; west = ap (λ k. k.minus) e }
agrees Way.Longitude e = record { wide = ap (λ k. k.columns) e; most = ap (λ k. k.top) e; least = ap (λ k. k.low) e; east = ap (λ k. k.plus) e; west = ap (λ k. k.minus) e }

columns_few : (w : items.Way) → columns w ≤ 12
unfolding columns
columns_few items.latitude = omega arith
columns_few items.longitude = omega arith

pub few : {m : Limits} {w : items.Way} → Agrees m w → m.columns ≤ 12
few {w = w} a = omega (arith, a.wide, columns_few w)

top_most : (w : items.Way) → top w ≤ 64_800_000_000
unfolding top
top_most items.latitude = omega arith
top_most items.longitude = omega arith

-- ---- judging
pub digits-good : (n : ℕ) (ds : List ℕ) {a : Bool} {v g : ℕ} → a ≡ all (within 48 57) ds → v ≡ val 0 ds → g ≡ angle_of v
    → (a && (leb (v / 10_000_000 % 100) 59 && leb (v % 10_000_000) 5_999_999) && leb g n) ≡ digits_up_to n ds
unfolding digits_up_to dms_form is_digit ◌≤?◌
digits-good n ds d e k = rw (k, d, e) (sym (simp &_is))

-- a sign does not take an angle out of its range: that of the letter is given only where it stays in
in-range : (w : items.Way) (m l : ℕ) → fits (angle w) (num (angle_value w m l)) ≡ m ≤? top w
unfolding fits on_number angle_value
in-range w m l = cases (l =? minus_of w & m ≤? low w) (λ e. rw e (neg m (to≤ (both e).1))) (λ e. rw e (unfold signed in refl))
  where
    neg : (m : ℕ) → m ≤ low w → fits (angle w) (num (signed true m)) ≡ m ≤? top w
    neg zero h = unfold fits on_number signed in refl
    neg (suc n) h = unfold fits on_number signed in of≤ h ∙ sym (of≤ (omega (arith, h, low-top w)))

letter_is : (l p q : ℕ) → (eqb l p || eqb l q) ≡ cond (l =? p) true (l =? q)
unfolding ◌=?◌
letter_is l p q = or-cond (eqb l p) (eqb l q)

swap : (a b c : Bool) → (a & b & c) ≡ (a & c & b)
swap a b c = &_assoc a b c ∙ ap (λ t. a & t) (&_comm b c) ∙ sym (&_assoc a c b)

module _ {m : Limits} {w : items.Way} (a : Agrees m w) (bs : List ℕ) where
  short : length (take (columns w) bs) ≤ 16
  short = omega (arith, length-take_most (columns w) bs, columns_few w)

  pub angle-wide : (length bs ≡ m.columns + 1 → ⊥) → false ≡ good (angle w) bs
  unfolding good width ◌&◌
  angle-wide h = sym (rw (of≢ {m = length bs} {n = suc (columns w)} (λ e. h (omega (arith, e, a.wide)))))

  pub angle-good : {r : Bool} {l : ℕ} → length bs ≡ m.columns + 1 → r ≡ (length (take m.columns bs) ≤? 16 & digits_up_to m.top (take m.columns bs))
      → l ≡ get_or bs m.columns 0 → (r && (eqb l m.plus || eqb l m.minus)) ≡ good (angle w) bs
  unfolding good width shape value_of digits_up_to
  angle-good {r} {l} e k q =
      let size : length bs =? suc (columns w) ≡ true = of≡ (omega (arith, e, a.wide)) in
      rw (letter_is l m.plus m.minus, k, q, a.wide, a.most, a.east, a.west, size, of≤ short, in-range w, true_and (all is_digit (take (columns w) bs) & dms_form (val 0 (take (columns w) bs)) & angle_of (val 0 (take (columns w) bs)) ≤? top w), true_and)
      (sym (&_is _ _) ∙ swap _ _ _)

  -- ---- reading
  pub angle-read : {v g l : ℕ} {z : ℤ} → v ≡ cond (length (take m.columns bs) ≤? 16) (val 0 (take m.columns bs)) 0 → g ≡ angle_of v → l ≡ get_or bs m.columns 0
      → z ≡ signed (eqb l m.minus && leb g m.low) g → z ≡ int_of (value_of (angle w) bs)
  unfolding int_of value_of angle_value ◌≤?◌ ◌=?◌
  angle-read d e k q = rw (q, e, d, k, a.wide, a.least, a.west, of≤ short, &_is)

pub angle_small : (v : ℕ) → v < 2 ^ 64 → angle_of v < 2 ^ 63
unfolding angle_of
angle_small v h = omega arith

-- ---- fitting
by_sign : (w : items.Way) (z : ℤ) → leb (nat_abs z) (cond (lt_z z (pos 0)) (low w) (top w)) ≡ fits (angle w) (num z)
unfolding fits on_number ◌≤?◌
by_sign w (pos n) = rw (not_below n)
by_sign w (negsuc n) = refl

pub angle-fits_is : {m : Limits} {w : items.Way} → Agrees m w → (z : ℤ) {y : ℤ} {n k : ℕ} → y ≡ z → n ≡ nat_abs y → k ≡ cond (lt_z y (pos 0)) m.low m.top → leb n k ≡ fits (angle w) (num z)
angle-fits_is {w = w} a z q e h = rw (e, h, q, a.most, a.least) (by_sign w z)

-- ---- writing
pub angle_size : (w : items.Way) (z : ℤ) {y : ℤ} {n : ℕ} → fits (angle w) (num z) ≡ true → y ≡ z → n ≡ nat_abs y → n ≤ 64_800_000_000
unfolding fits on_number
angle_size w (pos k) h q e = omega (arith, to≤ h, top_most w, e ∙ ap nat_abs q)
angle_size w (negsuc k) h q e = omega (arith, to≤ h, low-top w, top_most w, e ∙ ap nat_abs q)

pub angle-render : {m : Limits} {w : items.Way} → Agrees m w → (z : ℤ) {y : ℤ} {n l : ℕ} → y ≡ z → n ≡ nat_abs y → l ≡ cond (lt_z y (pos 0)) m.minus m.plus → put (columns w) (dms n) ++ l ∷ [] ≡ render (angle w) (num z)
unfolding render on_number
angle-render a (pos k) q e h = rw (h, e, q, not_below k, a.east)
angle-render a (negsuc k) q e h = rw (h, e, q, a.west)

pub angle-wide_is : {m : Limits} {w : items.Way} → Agrees m w → width (angle w) ≡ m.columns + 1
unfolding width
angle-wide_is {w = w} a = omega (arith, a.wide)

-- the digits, and the letter after them
pub size_put : (out last : List ℕ) (l n : ℕ) → 1 ≤ length out → last ≡ put (length (take (length out - 1 - 0) out)) n
    → set (last ++ drop (length out - 1 - 0) out) (length out - 1) l ≡ put (length out - 1) n ++ l ∷ []
size_put out last l n h e =
    let k : length out - 1 - 0 ≡ length out - 1 = omega arith in
    let p : length out - 1 < length out = omega arith in
    let q : length out ≤ suc (length out - 1) = omega arith in
    let d : last ≡ put (length out - 1) n = e ∙ ap (λ j. put j n) (rw k (length-take-le (length out - 1) out (omega arith))) in
    rw (d, k, drop-cons out (length out - 1) 0 p, drop_of_length-le out q)
    (set_at (put (length out - 1) n) (get_or out (length out - 1) 0) [] l (length out - 1) (length-put (length out - 1) n))
