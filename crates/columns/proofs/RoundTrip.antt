-- What is written reads back as the same value, for every width and every value that fits; and the ends of the ranges. `rules` proves it of its definitions; here it is said of what the writers leave and the readers give. Assumes nothing.
use mathlib.Core.Path.{◌≡◌, refl, ap, ◌∙◌}
use mathlib.Core.Bool.{Bool, true, false, cond, false≢true}
use mathlib.Core.List.{List, []}
use Prim.Native.Nat.{ℕ, zero, suc, ◌≤◌}
use native.Mathlib.Omega.{arith}
use lib.IntN.{ℤ, pos, negsuc}
use lib.ListN.{length}
use Rattle.rules.specs.Tests.{◌&◌, ◌≤?◌, ◌=?◌, all}
use Rattle.rules.specs.Characters.{is_blank, ascii}
use Rattle.rules.specs.Digits.{put}
use Rattle.rules.specs.Items as items
use Rattle.rules.specs.Items.{Item, Value, number, height, angle, month, media, num, signed, latitude, longitude, top, low, on_number, width, value_of, fits, render}
use Rattle.rules.specs.Layouts.{correlation}
use Rattle.rules.proofs.Truth.{of≤, of≡}
use Rattle.rules.proofs.Lawful.{lawful}
use Rattle.columns.specs.Types.{way_of, count_of, count_value, height_of, height_value, nat_of, int_of, media_of, media_value, four, four_of}
use Rattle.columns.specs.Leaves.{height_columns, written}
use Rattle.columns.specs.declared.Way.{Way}
use Rattle.columns.specs.declared.Media.{Media}
use Rattle.std.specs.Prelude.{Option, Some, None, int_lt, unsigned_abs}
use Rattle.columns.proofs.Signed.{not_below}
use Rattle.columns.specs.declared.Height.{Height}

-- ---- signs: what is taken apart, as `z < 0` and `unsigned_abs`, is put together again, whatever the number
abbrev pub split_of : ℤ → Bool × ℕ
split_of z = (int_lt z (pos 0), unsigned_abs z)

abbrev pub join : Bool × ℕ → ℤ
join s = signed s.0 s.1

pub split_back : (z : ℤ) → join (split_of z) ≡ z
unfolding signed
split_back (pos n) = rw (not_below n)
split_back (negsuc n) = refl

-- ---- heights, in w columns
-- what read_height gives of columns
abbrev pub height_read : List ℕ → Height
height_read bs = cond (length bs ≤? 7) (height_of (value_of (height 0 0 0 true) bs)) Height.Missing

pub height_same : (h : Height) → height_of (height_value h) ≡ h
unfolding height_of height_value
height_same Height.Missing = refl
height_same (Height.Mm z) = refl

-- neither the width nor the range has a say in the value or in its house style
any-height : (w lo hi : ℕ) (may : Bool) (bs : List ℕ) → value_of (height 0 0 0 true) bs ≡ value_of (height w lo hi may) bs
unfolding value_of
any-height w lo hi may bs = refl

any_range : (w lo hi : ℕ) (may : Bool) (v : Value) → render (height w 0 0 true) v ≡ render (height w lo hi may) v
unfolding render
any_range w lo hi may v = refl

width_is : (w lo hi : ℕ) (may : Bool) → width (height w lo hi may) ≡ w
unfolding width
width_is w lo hi may = refl

no_column : (lo hi : ℕ) (h : Height) → fits (height 0 lo hi true) (height_value h) ≡ true → Height.Missing ≡ h
unfolding fits on_number height_value ◌&◌ ◌≤?◌
no_column lo hi Height.Missing f = refl
no_column lo hi (Height.Mm (pos n)) f = absurd (false≢true f)
no_column lo hi (Height.Mm (negsuc n)) f = absurd (false≢true f)

nothing_read : height_read [] ≡ Height.Missing
unfolding height_of value_of all
nothing_read = rw (of≤ {m = 0} {n = 7} (omega arith))

pub height_back : (w lo hi : ℕ) (h : Height) → w ≤ 7 → fits (height w lo hi true) (height_value h) ≡ true → height_read (height_columns w h) ≡ h
unfolding height_columns
height_back zero lo hi h l f = nothing_read ∙ no_column lo hi h f
height_back (suc w) lo hi h l f =
    let st = lawful (height (suc w) lo hi true) (height_value h) f in
    let short : length (render (height (suc w) lo hi true) (height_value h)) ≤ 7 = omega (arith, st.sized, width_is (suc w) lo hi true) in
    rw (any_range (suc w) lo hi true (height_value h), of≤ short, any-height (suc w) lo hi true, st.valued) (height_same h)

-- the same of any signed number in w columns, where none is missing
abbrev pub signed_read : List ℕ → ℤ
signed_read bs = cond (length bs ≤? 16) (int_of (value_of (height 0 0 0 true) bs)) (pos 0)

pub signed_back : (w lo hi : ℕ) (z : ℤ) → 1 ≤ w → w ≤ 16 → fits (height w lo hi false) (num z) ≡ true → signed_read (height_columns w (Height.Mm z)) ≡ z
unfolding height_columns height_value
signed_back zero lo hi z p l f = absurd (omega arith)
signed_back (suc w) lo hi z p l f =
    let st = lawful (height (suc w) lo hi false) (num z) f in
    let short : length (render (height (suc w) lo hi false) (num z)) ≤ 16 = omega (arith, st.sized, width_is (suc w) lo hi false) in
    rw (any_range (suc w) lo hi false (num z), of≤ short, any-height (suc w) lo hi false, st.valued) (unfold int_of in refl)

-- the ends: -999,999, 0 and 9,999,999 in seven columns, and no further
pub height-low : height_read (height_columns 7 (Height.Mm (negsuc 999_998))) ≡ Height.Mm (negsuc 999_998)
unfolding fits on_number height_value ◌&◌ ◌≤?◌
height-low = height_back 7 999_999 9_999_999 (Height.Mm (negsuc 999_998)) (omega arith) refl

pub height-zero : height_read (height_columns 7 (Height.Mm (pos 0))) ≡ Height.Mm (pos 0)
unfolding fits on_number height_value ◌&◌ ◌≤?◌
height-zero = height_back 7 999_999 9_999_999 (Height.Mm (pos 0)) (omega arith) refl

pub height_high : height_read (height_columns 7 (Height.Mm (pos 9_999_999))) ≡ Height.Mm (pos 9_999_999)
unfolding fits on_number height_value ◌&◌ ◌≤?◌
height_high = height_back 7 999_999 9_999_999 (Height.Mm (pos 9_999_999)) (omega arith) refl

pub height-ends : (fits (height 7 999_999 9_999_999 true) (num (negsuc 999_999)) ≡ false) × (fits (height 7 999_999 9_999_999 true) (num (pos 10_000_000)) ≡ false)
unfolding fits on_number ◌&◌ ◌≤?◌
height-ends = (refl, refl)

-- 02, T-03: -99,999,990, 0 and 99,999,999 in ten columns, and no further
pub correlation-ends :
    (signed_read (height_columns 10 (Height.Mm (negsuc 99_999_989))) ≡ negsuc 99_999_989)
    × (signed_read (height_columns 10 (Height.Mm (pos 0))) ≡ pos 0)
    × (signed_read (height_columns 10 (Height.Mm (pos 99_999_999))) ≡ pos 99_999_999)
    × (fits correlation (num (negsuc 99_999_990)) ≡ false) × (fits correlation (num (pos 100_000_000)) ≡ false)
unfolding fits on_number ◌&◌ ◌≤?◌
correlation-ends = (
  signed_back 10 99_999_990 99_999_999 (negsuc 99_999_989) (omega arith) (omega arith) refl,
  signed_back 10 99_999_990 99_999_999 (pos 0) (omega arith) (omega arith) refl,
  signed_back 10 99_999_990 99_999_999 (pos 99_999_999) (omega arith) (omega arith) refl,
  refl,
  refl,
)

-- half a metre below zero keeps its sign
pub half_metre_lem : (height_columns 7 (Height.Mm (negsuc 499)) ≡ ascii "-000500") × (height_read (ascii "-000500") ≡ Height.Mm (negsuc 499))
unfolding height_columns height_value render on_number put ascii height_of value_of all is_blank items.minus signed Rattle.rules.specs.Digits.val ◌&◌ ◌≤?◌ ◌=?◌
half_metre_lem = (refl, refl)

-- ---- what is written where it fits
pub written_back : (i : Item) (v : Value) (old : List ℕ) → length old ≡ width i → fits i v ≡ true → value_of i (written i v old) ≡ v
unfolding written ◌&◌
written_back i v old e f = rw (of≡ e, f) (lawful i v f).valued

pub angle_back : (way : Way) (z : ℤ) (old : List ℕ) → length old ≡ width (angle (way_of way)) → fits (angle (way_of way)) (num z) ≡ true
    → int_of (value_of (angle (way_of way)) (written (angle (way_of way)) (num z) old)) ≡ z
unfolding int_of
angle_back way z old e f = ap int_of (written_back (angle (way_of way)) (num z) old e f)

pub month_back : (n : ℕ) (old : List ℕ) → length old ≡ width month → fits month (num (pos n)) ≡ true → nat_of (value_of month (written month (num (pos n)) old)) ≡ n
unfolding nat_of
month_back n old e f = ap nat_of (written_back month (num (pos n)) old e f)

pub media_back : (m : Media) (old : List ℕ) → length old ≡ width media → fits media (media_value m) ≡ true → media_of (value_of media (written media (media_value m) old)) ≡ m
unfolding media_of media_value four four_of
media_back m old e f = ap media_of (written_back media (media_value m) old e f)

-- a number, in its own width and range
pub count_back : (w lo hi : ℕ) (may : Bool) (c : Option ℕ) → fits (number w lo hi may) (count_value c) ≡ true → count_of (value_of (number w lo hi may) (render (number w lo hi may) (count_value c))) ≡ c
count_back w lo hi may c f = ap count_of (lawful (number w lo hi may) (count_value c) f).valued ∙ same c
  where
    same : (c : Option ℕ) → count_of (count_value c) ≡ c
    same None = unfold count_of count_value in refl
    same (Some n) = unfold count_of count_value in refl

-- the ends: ±90 degrees and 0; from just short of 180 west to 180 east, and no further
abbrev pub AngleBack : Way → ℤ → Type 0
AngleBack way z = (old : List ℕ) → length old ≡ width (angle (way_of way)) → int_of (value_of (angle (way_of way)) (written (angle (way_of way)) (num z) old)) ≡ z

pub latitude-ends : AngleBack Way.Latitude (negsuc 32_399_999_999) × AngleBack Way.Latitude (pos 0) × AngleBack Way.Latitude (pos 32_400_000_000)
latitude-ends = (λ old e. angle_back Way.Latitude (negsuc 32_399_999_999) old e south, λ old e. angle_back Way.Latitude (pos 0) old e equator, λ old e. angle_back Way.Latitude (pos 32_400_000_000) old e north)
  where
    south : fits (angle (way_of Way.Latitude)) (num (negsuc 32_399_999_999)) ≡ true
    south = unfold fits on_number way_of low ◌≤?◌ in refl

    equator : fits (angle (way_of Way.Latitude)) (num (pos 0)) ≡ true
    equator = unfold fits on_number way_of top ◌≤?◌ in refl

    north : fits (angle (way_of Way.Latitude)) (num (pos 32_400_000_000)) ≡ true
    north = unfold fits on_number way_of top ◌≤?◌ in refl

pub longitude-ends : AngleBack Way.Longitude (negsuc 64_799_999_998) × AngleBack Way.Longitude (pos 0) × AngleBack Way.Longitude (pos 64_800_000_000)
longitude-ends = (λ old e. angle_back Way.Longitude (negsuc 64_799_999_998) old e west, λ old e. angle_back Way.Longitude (pos 0) old e zeroth, λ old e. angle_back Way.Longitude (pos 64_800_000_000) old e east)
  where
    west : fits (angle (way_of Way.Longitude)) (num (negsuc 64_799_999_998)) ≡ true
    west = unfold fits on_number way_of low ◌≤?◌ in refl

    zeroth : fits (angle (way_of Way.Longitude)) (num (pos 0)) ≡ true
    zeroth = unfold fits on_number way_of top ◌≤?◌ in refl

    east : fits (angle (way_of Way.Longitude)) (num (pos 64_800_000_000)) ≡ true
    east = unfold fits on_number way_of top ◌≤?◌ in refl

pub beyond :
    (fits (angle latitude) (num (negsuc 32_400_000_000)) ≡ false) × (fits (angle latitude) (num (pos 32_400_000_001)) ≡ false)
    × (fits (angle longitude) (num (negsuc 64_799_999_999)) ≡ false) × (fits (angle longitude) (num (pos 64_800_000_001)) ≡ false)
unfolding fits on_number low top ◌≤?◌
beyond = (refl, refl, refl, refl)
