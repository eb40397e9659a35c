-- Angles by their rows: minutes and seconds by their tens, whatever the degrees are, and the limit by the first columns with ten behind them.
use mathlib.Core.Path.{◌≡◌, refl, sym, ap, ◌∙◌, subst}
use mathlib.Core.Bool.{Bool, true, ◌&&◌, ◌||◌}
use mathlib.Core.List.{List, [], ◌∷◌}
use Prim.Native.Nat.{ℕ, suc, ◌+◌, ◌-◌, ◌*◌, ◌/◌, ◌%◌, ◌^◌, ◌≤◌, ◌<◌}
use native.Mathlib.Omega.{arith}
use lib.Dec.{leb, eqb, lit≤}
use lib.ListN.{length, get_or, take, drop, length-drop}
use lib.Seq.{length-take-le, get_or-take, take-take, take-add}
use borrow.Author.Tests.{leb-true, eqb-true}
use Rattle.rules.specs.Tests.{◌&◌, ◌≤?◌, ◌=?◌, within, all}
use Rattle.rules.specs.Characters.{is_digit}
use Rattle.rules.specs.Digits.{val}
use Rattle.rules.specs.Items.{angle, angle_of, dms_form, good}
use Rattle.rules.proofs.Truth.{and, of≤, below_or_equal, either, to_within, both_true}
use Rattle.rules.proofs.DigitLaws.{val-append, val-zeros, not_above9, val_lt}
use Rattle.columns.specs.declared.Way.{Way}
use Rattle.columns.specs.Types.{way_of}
use Rattle.columns.specs.Leaves.{limits_of, digits_up_to}
use Rattle.columns.proofs.AngleLaws.{agrees, angle-good}
use Rattle.kinds.specs.declared.tables.Item.TheVariants as I
use Rattle.quick.specs.Rows.{Class, digits, tens, in_class, row_ok, row_of}
use Rattle.quick.specs.Rest.{zeros, latitude_rest, longitude_rest}
use Rattle.quick.proofs.ClassLaws.{one_true, admits, all-columns, column_is, row_part, row_within, spread, spread_is}

-- ---- an angle in its parts
module _ (d m s : ℕ) (p : m ≤ 59) (q : s ≤ 5_999_999) where
  parts_form : dms_form (d * 1_000_000_000 + m * 10_000_000 + s) ≡ true
  unfolding dms_form
  parts_form = and (of≤ minutes) (of≤ seconds)
    where
      minutes : (d * 1_000_000_000 + m * 10_000_000 + s) / 10_000_000 % 100 ≤ 59
      minutes = omega arith

      seconds : (d * 1_000_000_000 + m * 10_000_000 + s) % 10_000_000 ≤ 5_999_999
      seconds = omega arith

  whole : (d * 1_000_000_000 + m * 10_000_000 + s) / 1_000_000_000 ≡ d
  whole = omega arith

  minute : (d * 1_000_000_000 + m * 10_000_000 + s) / 10_000_000 % 100 ≡ m
  minute = omega arith

  second : (d * 1_000_000_000 + m * 10_000_000 + s) % 10_000_000 ≡ s
  second = omega arith

  parts_size : (t : ℕ) → d * 1_000_000_000 + m * 10_000_000 + s ≤ t * 1_000_000_000 → angle_of (d * 1_000_000_000 + m * 10_000_000 + s) ≤ t * 360_000_000
  unfolding angle_of
  parts_size t h = rw (whole, minute, second) (either (λ (k : d < t). omega (arith, k)) (λ (k : d ≡ t). omega (arith, k)) (below_or_equal d t (omega arith)))

-- nine digits behind the degrees
nine : (d a b c e f g h i j : ℕ)
    → (((((((((d * 10 + a) * 10 + b) * 10 + c) * 10 + e) * 10 + f) * 10 + g) * 10 + h) * 10 + i) * 10 + j)
    ≡ d * 1_000_000_000 + (a * 10 + b) * 10_000_000 + (c * 1_000_000 + e * 100_000 + f * 10_000 + g * 1_000 + h * 100 + i * 10 + j)
nine d a b c e f g h i j = omega arith

pub record Angled (top v : ℕ) : Type 0 where
  pub form : dms_form v ≡ true
  pub size : angle_of v ≤ top

nine_angled : (t d a b c e f g h i j : ℕ) → a ≤ 5 → b ≤ 9 → c ≤ 5 → e ≤ 9 → f ≤ 9 → g ≤ 9 → h ≤ 9 → i ≤ 9 → j ≤ 9
    → (((((((((d * 10 + a) * 10 + b) * 10 + c) * 10 + e) * 10 + f) * 10 + g) * 10 + h) * 10 + i) * 10 + j) ≤ t * 1_000_000_000
    → Angled (t * 360_000_000) (((((((((d * 10 + a) * 10 + b) * 10 + c) * 10 + e) * 10 + f) * 10 + g) * 10 + h) * 10 + i) * 10 + j)
nine_angled t d a b c e f g h i j pa pb pc pe pf pg ph pi pj l =
    let z = nine d a b c e f g h i j in
    let m : a * 10 + b ≤ 59 = omega arith in
    let s : c * 1_000_000 + e * 100_000 + f * 10_000 + g * 1_000 + h * 100 + i * 10 + j ≤ 5_999_999 = omega arith in
    record {
      form = rw z (parts_form d (a * 10 + b) (c * 1_000_000 + e * 100_000 + f * 10_000 + g * 1_000 + h * 100 + i * 10 + j) m s);
      size = rw z (parts_size d (a * 10 + b) (c * 1_000_000 + e * 100_000 + f * 10_000 + g * 1_000 + h * 100 + i * 10 + j) m s t (rw z at l));
    }

-- ---- digits, and zeros
digit_size : (b : ℕ) → is_digit b ≡ true → b - 48 ≤ 9
unfolding is_digit
digit_size b h = omega (arith, (to_within h).1)

unfoldable is_tens : ℕ → Bool
is_tens b = within 48 53 b

tens_size : (b : ℕ) → is_tens b ≡ true → b - 48 ≤ 5
unfolding is_tens
tens_size b h = omega (arith, (to_within h).1)

-- ---- a number cut in two
val_cut : (n m : ℕ) (bs : List ℕ) → val 0 (take (n + m) bs) ≡ val (val 0 (take n bs)) (take m (drop n bs))
val_cut n m bs = ap (val 0) (take-add n m bs) ∙ val-append 0 (take n bs) (take m (drop n bs))

-- ---- the nine columns of minutes and seconds, after degrees of n columns
abbrev minutes : List Class
minutes = tens ∷ digits ∷ tens ∷ digits ∷ digits ∷ digits ∷ digits ∷ digits ∷ digits ∷ []

minutes_spread : (d : ℕ) (bs : List ℕ) → 9 ≤ length bs
    → val d (take 9 bs) ≡ (((((((((d * 10 + (get_or bs 0 0 - 48)) * 10 + (get_or bs 1 0 - 48)) * 10 + (get_or bs 2 0 - 48)) * 10 + (get_or bs 3 0 - 48)) * 10 + (get_or bs 4 0 - 48)) * 10 + (get_or bs 5 0 - 48)) * 10 + (get_or bs 6 0 - 48)) * 10 + (get_or bs 7 0 - 48)) * 10 + (get_or bs 8 0 - 48))
unfolding val spread
minutes_spread d bs h = ap (val d) (spread_is 9 0 bs h)

module _ (bs : List ℕ) (h : row_ok minutes bs ≡ true) where
  nine_at : (j : ℕ) → admits is_digit (get_or minutes j digits) ≡ true → j < 9 → get_or bs j 0 - 48 ≤ 9
  nine_at j a k = digit_size (get_or bs j 0) (column_is is_digit minutes j digits a k bs h)

  five_at_lem : (j : ℕ) → admits is_tens (get_or minutes j digits) ≡ true → j < 9 → get_or bs j 0 - 48 ≤ 5
  five_at_lem j a k = tens_size (get_or bs j 0) (column_is is_tens minutes j digits a k bs h)

  minutes_angled : (t d : ℕ) → val d (take 9 bs) ≤ t * 1_000_000_000 → Angled (t * 360_000_000) (val d (take 9 bs))
  unfolding admits in_class all is_digit is_tens within ◌&◌ ◌≤?◌ ◌=?◌
  minutes_angled t d k =
      let e = minutes_spread d bs (row_within minutes bs h) in
      rw e (nine_angled t d
      (get_or bs 0 0 - 48) (get_or bs 1 0 - 48) (get_or bs 2 0 - 48) (get_or bs 3 0 - 48) (get_or bs 4 0 - 48) (get_or bs 5 0 - 48) (get_or bs 6 0 - 48) (get_or bs 7 0 - 48) (get_or bs 8 0 - 48)
      (five_at_lem 0 refl (lit≤ tt)) (nine_at 1 refl (lit≤ tt)) (five_at_lem 2 refl (lit≤ tt)) (nine_at 3 refl (lit≤ tt)) (nine_at 4 refl (lit≤ tt)) (nine_at 5 refl (lit≤ tt)) (nine_at 6 refl (lit≤ tt)) (nine_at 7 refl (lit≤ tt)) (nine_at 8 refl (lit≤ tt))
      (rw e at k))

angled : (n t : ℕ) (bs : List ℕ) → row_ok minutes (drop n bs) ≡ true → val 0 (take (n + 9) bs) ≤ t * 1_000_000_000 → Angled (t * 360_000_000) (val 0 (take (n + 9) bs))
angled n t bs h k = rw (val_cut n 9 bs) (minutes_angled (drop n bs) h t (val 0 (take n bs)) (rw (val_cut n 9 bs) at k))

-- ---- the limit by the first n columns, with ten behind them
module _ (n : ℕ) (bs : List ℕ) (long : n + 10 ≤ length bs) where
  ten_long : length (take 10 (drop n bs)) ≡ 10
  ten_long = length-take-le 10 (drop n bs) (rw length-drop (omega arith))

  ten_lt : all not_above9 (take 10 (drop n bs)) ≡ true → val 0 (take (n + 10) bs) < suc (val 0 (take n bs)) * 10_000_000_000
  ten_lt h = rw (val_cut n 10 bs) (subst (λ k. val (val 0 (take n bs)) (take 10 (drop n bs)) < suc (val 0 (take n bs)) * 10 ^ k) ten_long (val_lt (val 0 (take n bs)) (take 10 (drop n bs)) h))

  ten_zeros : all (λ b. b =? 48) (take 10 (drop n bs)) ≡ true → val 0 (take (n + 10) bs) ≡ val 0 (take n bs) * 10_000_000_000
  ten_zeros h = val_cut n 10 bs ∙ subst (λ k. val (val 0 (take n bs)) (take 10 (drop n bs)) ≡ val 0 (take n bs) * 10 ^ k) ten_long (val-zeros (val 0 (take n bs)) (take 10 (drop n bs)) h)

one_val : (bs : List ℕ) → 1 ≤ length bs → val 0 (take 1 bs) ≡ 0 * 10 + (get_or bs 0 0 - 48)
unfolding val spread
one_val bs h = ap (val 0) (spread_is 1 0 bs h)

two-val : (bs : List ℕ) → 2 ≤ length bs → val 0 (take 2 bs) ≡ (0 * 10 + (get_or bs 0 0 - 48)) * 10 + (get_or bs 1 0 - 48)
unfolding val spread
two-val bs h = ap (val 0) (spread_is 2 0 bs h)

latitude_limit : (bs : List ℕ) → 11 ≤ length bs → all not_above9 (take 10 (drop 1 bs)) ≡ true → get_or bs 0 0 - 48 ≤ 9 → latitude_rest bs 0 ≡ true → val 0 (take 11 bs) ≤ 90 * 1_000_000_000
unfolding latitude_rest zeros
latitude_limit bs n low q t =
    let first = one_val bs (omega arith) in
    one_true (leb (get_or bs 0 0) 56) (all (λ b. b =? 48) (take 10 (drop 1 bs))) t
    (λ e. omega (arith, ten_lt 1 bs n low, first, leb-true (get_or bs 0 0) 56 e))
    (λ e. omega (arith, ten_zeros 1 bs n e, first, q))

longitude_limit : (bs : List ℕ) → 12 ≤ length bs → all not_above9 (take 10 (drop 2 bs)) ≡ true → get_or bs 1 0 - 48 ≤ 9 → longitude_rest bs 0 ≡ true → val 0 (take 12 bs) ≤ 180 * 1_000_000_000
unfolding longitude_rest zeros
longitude_limit bs n low q t =
    let Z = all (λ b. b =? 48) (take 10 (drop 2 bs)) in
    let first = two-val bs (omega arith) in
    let less = ten_lt 2 bs n low in
    one_true (eqb (get_or bs 0 0) 48) (eqb (get_or bs 0 0) 49 && (leb (get_or bs 1 0) 55 || eqb (get_or bs 1 0) 56 && Z)) t
    (λ e. omega (arith, less, first, eqb-true (get_or bs 0 0) 48 e, q))
    (λ e.
    let p = both_true (eqb (get_or bs 0 0) 49) (leb (get_or bs 1 0) 55 || eqb (get_or bs 1 0) 56 && Z) e in
    one_true (leb (get_or bs 1 0) 55) (eqb (get_or bs 1 0) 56 && Z) p.1
    (λ f. omega (arith, less, first, eqb-true (get_or bs 0 0) 49 p.0, leb-true (get_or bs 1 0) 55 f))
    (λ f.
    let r = both_true (eqb (get_or bs 1 0) 56) Z f in
    omega (arith, ten_zeros 2 bs n r.1, first, eqb-true (get_or bs 0 0) 49 p.0, eqb-true (get_or bs 1 0) 56 r.0)))

-- ---- the fields
up_to : (top : ℕ) (ds : List ℕ) → all is_digit ds ≡ true → Angled top (val 0 ds) → digits_up_to top ds ≡ true
unfolding digits_up_to
up_to top ds d a = and (and d a.form) (of≤ a.size)

-- an angle of w columns with its letter behind them
angle_from : (way : Way) (w : ℕ) → (limits_of way).columns ≡ w → w ≤ 16 → (bs : List ℕ) → w < length bs → all is_digit (take w bs) ≡ true → Angled (limits_of way).top (val 0 (take w bs))
    → (eqb (get_or bs w 0) (limits_of way).plus || eqb (get_or bs w 0) (limits_of way).minus) ≡ true → good (angle (way_of way)) (take (w + 1) bs) ≡ true
angle_from way w z s bs long d a l =
    let few : length (take w bs) ≤? 16 ≡ true = of≤ (omega (arith, length-take-le w bs (omega arith))) in
    let cut : take w (take (w + 1) bs) ≡ take w bs = take-take w (w + 1) bs (omega arith) in
    let size : length (take (w + 1) bs) ≡ (limits_of way).columns + 1 = rw z (length-take-le (w + 1) bs (omega arith)) in
    let up : length (take (limits_of way).columns (take (w + 1) bs)) ≤? 16 & digits_up_to (limits_of way).top (take (limits_of way).columns (take (w + 1) bs)) ≡ true = rw (z, cut) (and few (up_to (limits_of way).top (take w bs) d a)) in
    let letter : get_or bs w 0 ≡ get_or (take (w + 1) bs) (limits_of way).columns 0 = rw z (sym (get_or-take (w + 1) bs w 0 (omega arith))) in
    sym (angle-good (agrees way refl) (take (w + 1) bs) size (sym up) letter) ∙ l

abbrev is_north : ℕ → Bool
is_north b = eqb b 78 || eqb b 83

abbrev is_east : ℕ → Bool
is_east b = eqb b 69 || eqb b 87

pub latitude_ok : (bs : List ℕ) → row_ok (row_of I.Latitude 12) bs ≡ true → latitude_rest bs 0 ≡ true → good (angle (way_of Way.Latitude)) (take 12 bs) ≡ true
unfolding admits in_class all is_digit not_above9 within ◌&◌ ◌≤?◌ ◌=?◌
latitude_ok bs h t =
    let row = row_of I.Latitude 12 in
    let long : 12 ≤ length bs = row_within row bs h in
    let ds : all is_digit (take 11 bs) ≡ true = all-columns is_digit (take 11 row) refl bs (row_part 0 11 row bs h) in
    let low : all not_above9 (take 10 (drop 1 bs)) ≡ true = all-columns not_above9 (take 10 (drop 1 row)) refl (drop 1 bs) (row_part 1 10 row bs h) in
    let first = digit_size (get_or bs 0 0) (column_is is_digit row 0 digits refl (lit≤ tt) bs h) in
    angle_from Way.Latitude 11 refl (lit≤ tt) bs long ds
    (angled 2 90 bs (row_part 2 9 row bs h) (latitude_limit bs (omega arith) low first t)) (column_is is_north row 11 digits refl (lit≤ tt) bs h)

pub longitude_ok : (bs : List ℕ) → row_ok (row_of I.Longitude 13) bs ≡ true → longitude_rest bs 0 ≡ true → good (angle (way_of Way.Longitude)) (take 13 bs) ≡ true
unfolding admits in_class all is_digit not_above9 within ◌&◌ ◌≤?◌ ◌=?◌
longitude_ok bs h t =
    let row = row_of I.Longitude 13 in
    let long : 13 ≤ length bs = row_within row bs h in
    let ds : all is_digit (take 12 bs) ≡ true = all-columns is_digit (take 12 row) refl bs (row_part 0 12 row bs h) in
    let low : all not_above9 (take 10 (drop 2 bs)) ≡ true = all-columns not_above9 (take 10 (drop 2 row)) refl (drop 2 bs) (row_part 2 10 row bs h) in
    let second = digit_size (get_or bs 1 0) (column_is is_digit row 1 digits refl (lit≤ tt) bs h) in
    angle_from Way.Longitude 12 refl (lit≤ tt) bs long ds
    (angled 3 180 bs (row_part 3 9 row bs h) (longitude_limit bs (omega arith) low second t)) (column_is is_east row 12 digits refl (lit≤ tt) bs h)
