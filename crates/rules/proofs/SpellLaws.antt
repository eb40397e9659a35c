-- The test of every kind of field is what the paper says of it, and the value read is the one that is spelled: digits are what their number puts.
use mathlib.Core.Path.{◌≡◌, refl, sym, ◌∙◌, ap, ap₂, subst}
use mathlib.Core.Logic.{inl, inr, ◌↔◌}
use mathlib.Core.Bool.{Bool, true, false, cond}
use mathlib.Core.List.{List, [], ◌∷◌, ◌++◌, append_assoc, append-nil}
use Prim.Native.Nat.{ℕ, zero, suc, ◌+◌, ◌-◌, ◌*◌, ◌/◌, ◌%◌, ◌^◌, ◌≤◌, ◌<◌}
use native.Mathlib.Nat.{mul_assoc, pow-suc}
use native.Mathlib.Omega.{arith}
use lib.ListN.{length, length-append, replicate, length-replicate, take, drop, get_or, drop_of_length-le}
use lib.Seq.{take_at, drop_at, get_or_at, split_at, length-take-le}
use lib.IntN.{ℤ, pos}
use Rattle.rules.specs.Tests.{all, within, ◌&◌, ◌≤?◌, ◌=?◌}
use Rattle.rules.specs.Characters.{is_blank, is_digit, is_letter, Set, letter, digit, printable, ◌or◌, member}
use Rattle.rules.specs.Digits.{val, put}
use Rattle.rules.specs.Items.{Value, gap, num, label, Way, latitude, longitude, each, or_blank, Item, blank, constant, number, height, angle, month, media, word}
use Rattle.rules.specs.Items.{signed, passes, render, angle_of, dms_form, columns, top, low, plus, minus_of, angle_value, is_month, is_media, on_gap, on_number, on_text, on_label, width, shape, value_of, fits, good}
use Rattle.rules.specs.Kinds.{*AA*, *10*, data_codes, kind_from, starred, kind_between, kind_of, known}
use Rattle.rules.specs.Members.{◌∈◌, ◌⊆◌}
use Rattle.rules.specs.Forms.{characters_of, IsAngle, Sided, AngleField, MonthField, MediaField, Spells, Code}
use Rattle.rules.proofs.Truth.{both, and, to≤, of≤, no≤, of>, to≡, of≡, is_no, to_within, of_within, cases, choice, either, all-parts, tried, under, true_and}
use Rattle.rules.proofs.DigitLaws.{length-put, digits-put, val_put}
use Rattle.rules.proofs.Lawful.{blanks, lawful, render-good, low-top, east, degrees, minutes, seconds}
use Rattle.rules.proofs.SetLaws.{in-set, of_set, all_in, all_of, printed_in, printed_of}
use Rattle.rules.proofs.FormLaws.{all-blank, number_forth, number_back, height_forth, height_back}

-- ---- digits are what their number puts
digit_again : (a b : ℕ) → is_digit b ≡ true → ((a * 10 + (b - 48)) / 10 ≡ a) × (48 + (a * 10 + (b - 48)) % 10 ≡ b)
unfolding is_digit
digit_again a b h = let r = to_within h in (omega (arith, r.0, r.1), omega (arith, r.0, r.1))

put_more : (w a : ℕ) (ds : List ℕ) → all is_digit ds ≡ true → put (w + length ds) (val a ds) ≡ put w a ++ ds
unfolding all val
put_more w a [] h = let e : w + 0 ≡ w = omega arith in ap (λ k. put k a) e ∙ sym (append-nil (put w a))
put_more w a (b ∷ bs) h =
    let n = a * 10 + (b - 48) in
    let d = digit_again a b (both h).0 in
    let e : w + suc (length bs) ≡ suc w + length bs = omega arith in
    let last : put (suc w) n ≡ put w a ++ b ∷ [] = unfold put in ap₂ (λ k c. put w k ++ c ∷ []) d.0 d.1 in
    ap (λ k. put k (val n bs)) e ∙ put_more (suc w) n bs (both h).1 ∙ ap (λ (x : List ℕ). x ++ bs) last ∙ append_assoc (put w a) (b ∷ []) bs

put-val : (w : ℕ) (ds : List ℕ) → length ds ≡ w → all is_digit ds ≡ true → ds ≡ put w (val 0 ds)
unfolding put
put-val w ds e h = let z : 0 + length ds ≡ w = omega (arith, e) in sym (put_more 0 0 ds h) ∙ ap (λ k. put k (val 0 ds)) z

-- two numbers side by side are one
put-join : (v w a b : ℕ) → b < 10 ^ w → put (v + w) (a * 10 ^ w + b) ≡ put v a ++ put w b
unfolding put
put-join v zero a b h =
    let e : v + 0 ≡ v = omega arith in
    let n : a * 1 + b ≡ a = omega arith in
    ap₂ put e n ∙ sym (append-nil (put v a))
put-join v (suc w) a b h =
    let e : a * 10 ^ suc w ≡ a * 10 ^ w * 10 = ap (λ k. a * k) (pow-suc 10 w) ∙ sym (mul_assoc a (10 ^ w) 10) in
    let f : v + suc w ≡ suc (v + w) = omega arith in
    let over : (a * 10 ^ suc w + b) / 10 ≡ a * 10 ^ w + b / 10 = omega arith in
    let under : (a * 10 ^ suc w + b) % 10 ≡ b % 10 = omega arith in
    let small : b / 10 < 10 ^ w = omega arith in
    ap (λ k. put k (a * 10 ^ suc w + b)) f
    ∙ ap₂ (λ k c. put (v + w) k ++ (48 + c) ∷ []) over under
    ∙ ap (λ (x : List ℕ). x ++ (48 + b % 10) ∷ []) (put-join v w a (b / 10) small)
    ∙ append_assoc (put v a) (put w (b / 10)) ((48 + b % 10) ∷ [])

pub put-behind : (v w a b : ℕ) → b < 10 ^ w → drop v (put (v + w) (a * 10 ^ w + b)) ≡ put w b
put-behind v w a b h = ap (drop v) (put-join v w a b h) ∙ drop_at (put v a) (put w b) v (length-put v a)

-- ---- words, blanks and constants
module _ (i : Item) (bs : List ℕ) where
  pub sized : good i bs ≡ true → length bs ≡ width i
  unfolding good
  sized h = to≡ (both (both h).0).0

  pub shaped : good i bs ≡ true → shape i bs ≡ true
  unfolding good
  shaped h = (both (both h).0).1

  pub fitting : good i bs ≡ true → fits i (value_of i bs) ≡ true
  unfolding good
  fitting h = (both h).1

  pub goodly : length bs ≡ width i → shape i bs ≡ true → {v : Value} → value_of i bs ≡ v → fits i v ≡ true → (good i bs ≡ true) × (value_of i bs ≡ v)
  unfolding good
  goodly a b e c = (and (and (of≡ a) b) (rw e c), e)

module _ (w : ℕ) (bs : List ℕ) where
  blank_forth : good (blank w) bs ≡ true → (bs ≡ replicate w 32) × (value_of (blank w) bs ≡ gap)
  unfolding shape width value_of
  blank_forth h = (all-blank bs (shaped (blank w) bs h) ∙ ap (λ n. replicate n 32) (sized (blank w) bs h), refl)

  blank_back : bs ≡ replicate w 32 → (good (blank w) bs ≡ true) × (value_of (blank w) bs ≡ gap)
  unfolding shape width value_of fits on_gap
  blank_back e = goodly (blank w) bs (ap length e ∙ length-replicate {A = ℕ} w 32) (rw e (blanks w)) refl refl

module _ (c : ℕ) where
  constant_forth : (bs : List ℕ) → good (constant c) bs ≡ true → (bs ≡ c ∷ []) × (c ∈ characters_of printable) × (value_of (constant c) bs ≡ gap)
  unfolding shape width value_of fits on_gap all
  constant_forth [] h = absurd (omega (arith, sized (constant c) [] h))
  constant_forth (b ∷ []) h =
      (ap (λ x. x ∷ []) (to≡ (both (shaped (constant c) (b ∷ []) h)).0), in-set printable c (unfold member in fitting (constant c) (b ∷ []) h), refl)
  constant_forth (b ∷ d ∷ bs) h = absurd (omega (arith, sized (constant c) (b ∷ d ∷ bs) h))

  constant_back : (bs : List ℕ) → bs ≡ c ∷ [] → c ∈ characters_of printable → (good (constant c) bs ≡ true) × (value_of (constant c) bs ≡ gap)
  unfolding shape width value_of fits on_gap all
  constant_back bs e m = goodly (constant c) bs (ap length e) (rw e (and (of≡ {m = c} refl) refl)) refl (unfold member in of_set printable c m)

-- ---- YYYYMM
pub month_forth : (bs : List ℕ) → good month bs ≡ true → MonthField bs (value_of month bs)
unfolding shape width value_of fits on_number is_month
month_forth bs h =
    let n = val 0 bs in
    let y = to_within (both (fitting month bs h)).0 in
    let m = to_within (both (fitting month bs h)).1 in
    let whole : n ≡ n / 100 * 100 + n % 100 = omega arith in
    record {
      year = n / 100;
      month = n % 100;
      spelled = put-val 6 bs (sized month bs h) (shaped month bs h) ∙ ap (put 6) whole ∙ put-join 4 2 (n / 100) (n % 100) (omega arith);
      from_1 = y.0;
      to_9999 = y.1;
      from_01 = m.0;
      to_12 = m.1;
      value = ap (λ k. num (pos k)) whole;
    }

pub month_back : (bs : List ℕ) (v : Value) → MonthField bs v → (good month bs ≡ true) × (value_of month bs ≡ v)
unfolding shape width value_of fits on_number is_month
month_back bs v f =
    let n = f.year * 100 + f.month in
    let e : bs ≡ put 6 n = f.spelled ∙ sym (put-join 4 2 f.year f.month (omega (arith, f.to_12))) in
    let y : n / 100 ≡ f.year = omega (arith, f.to_12) in
    let m : n % 100 ≡ f.month = omega (arith, f.to_12) in
    let read : num (pos (val 0 bs)) ≡ num (pos n) = ap (λ k. num (pos k)) (ap (val 0) e ∙ val_put 6 n (omega (arith, f.to_9999, f.to_12))) in
    let fine = goodly month bs (ap length e ∙ length-put 6 n) (rw e (digits-put 6 n)) read
    (and (rw y (of_within f.from_1 f.to_9999)) (rw m (of_within f.from_01 f.to_12))) in
    (fine.0, fine.1 ∙ sym f.value)

-- ---- media identifier
pub media_forth : (bs : List ℕ) → good media bs ≡ true → MediaField bs (value_of media bs)
unfolding shape width value_of fits on_label is_media
media_forth (a ∷ b ∷ c ∷ d ∷ e ∷ g ∷ t) h =
    let bs = a ∷ b ∷ c ∷ d ∷ e ∷ g ∷ t in
    let fit = fitting media bs h in
    let digits = all-parts is_digit (b ∷ c ∷ d ∷ []) (e ∷ []) (shaped media bs h) in
    let day = to_within (both (both (both (both fit).0).0).0).1 in
    record {
      maker = a;
      day = val 0 (b ∷ c ∷ d ∷ []);
      year = val 0 (e ∷ []);
      session = g;
      mark = t;
      spelled = ap₂ (λ x y. a ∷ (x ++ y ++ g ∷ t)) (put-val 3 (b ∷ c ∷ d ∷ []) refl digits.0) (put-val 1 (e ∷ []) refl digits.1);
      a_letter = in-set letter a (unfold member in (both (both (both (both fit).0).0).0).0);
      from_001 = day.0;
      to_366 = day.1;
      a_digit = to≤ (both (both (both fit).0).0).1;
      letter_or_digit = in-set (letter or digit) g (both (both fit).0).1;
      four = to≡ (both (both fit).1).0;
      printed = printed_in t (both (both fit).1).1;
      value = refl;
    }
media_forth [] h = absurd (omega (arith, sized media [] h))
media_forth (a ∷ []) h = absurd (omega (arith, sized media (a ∷ []) h))
media_forth (a ∷ b ∷ []) h = absurd (omega (arith, sized media (a ∷ b ∷ []) h))
media_forth (a ∷ b ∷ c ∷ []) h = absurd (omega (arith, sized media (a ∷ b ∷ c ∷ []) h))
media_forth (a ∷ b ∷ c ∷ d ∷ []) h = absurd (omega (arith, sized media (a ∷ b ∷ c ∷ d ∷ []) h))
media_forth (a ∷ b ∷ c ∷ d ∷ e ∷ []) h = absurd (omega (arith, sized media (a ∷ b ∷ c ∷ d ∷ e ∷ []) h))

one_digit : (n : ℕ) → n ≤ 9 → put 1 n ≡ (48 + n) ∷ []
unfolding put
one_digit n h = let e : 48 + n % 10 ≡ 48 + n = omega arith in ap (λ k. k ∷ []) e

pub media_back : (bs : List ℕ) (v : Value) → MediaField bs v → (good media bs ≡ true) × (value_of media bs ≡ v)
media_back bs v f =
    let l = label f.maker f.day f.year f.session f.mark in
    let e : bs ≡ render media l = f.spelled ∙ ap (λ x. f.maker ∷ x) (one ∙ append_assoc (put 3 f.day) ((48 + f.year) ∷ []) (f.session ∷ f.mark)) ∙ (unfold render on_label in refl) in
    let st = lawful media l fit in
    (rw e (render-good media l st fit), ap (value_of media) e ∙ st.valued ∙ sym f.value)
  where
    fit : fits media (label f.maker f.day f.year f.session f.mark) ≡ true
    fit = unfold fits on_label is_media member in
        and (and (and (and (unfold member in of_set letter f.maker f.a_letter) (of_within f.from_001 f.to_366)) (of≤ f.a_digit)) (of_set (letter or digit) f.session f.letter_or_digit))
        (and (of≡ f.four) (printed_of f.mark f.printed))

    one : put 3 f.day ++ put 1 f.year ++ f.session ∷ f.mark ≡ put 3 f.day ++ (48 + f.year) ∷ [] ++ f.session ∷ f.mark
    one = ap (λ (x : List ℕ). put 3 f.day ++ x ++ f.session ∷ f.mark) (one_digit f.year f.a_digit)

-- ---- words
module _ (w : ℕ) (bs : List ℕ) where
  each_forth : (s : Set) → good (word w (each s)) bs ≡ true → Spells (word w (each s)) bs (value_of (word w (each s)) bs)
  unfolding Spells shape width value_of passes
  each_forth s h = (sized (word w (each s)) bs h, all_in s bs (shaped (word w (each s)) bs h), refl)

  each_back : (s : Set) (v : Value) → Spells (word w (each s)) bs v → (good (word w (each s)) bs ≡ true) × (value_of (word w (each s)) bs ≡ v)
  unfolding Spells shape width value_of passes fits on_text
  each_back s v (size, m, e) =
      let fine = goodly (word w (each s)) bs size (all_of s bs m) refl (and (of≡ size) (all_of s bs m)) in (fine.0, fine.1 ∙ sym e)

  blank-or_forth : (s : Set) → good (word w (or_blank s)) bs ≡ true → Spells (word w (or_blank s)) bs (value_of (word w (or_blank s)) bs)
  unfolding Spells shape width value_of passes
  blank-or_forth s h =
      let size : length bs ≡ w = sized (word w (or_blank s)) bs h in
      (size, choice (all is_blank bs) (all (member s) bs) (shaped (word w (or_blank s)) bs h) _ (λ e. inr (all-blank bs e ∙ ap (λ n. replicate n 32) size)) (λ e. inl (all_in s bs e)), refl)

  blank-or_back : (s : Set) (v : Value) → Spells (word w (or_blank s)) bs v → (good (word w (or_blank s)) bs ≡ true) × (value_of (word w (or_blank s)) bs ≡ v)
  unfolding Spells shape width value_of passes fits on_text
  blank-or_back s v (size, m, e) =
      let passing = either kept blanked m in
      let fine = goodly (word w (or_blank s)) bs size passing refl (and (of≡ size) passing) in (fine.0, fine.1 ∙ sym e)
    where
      kept : bs ⊆ characters_of s → cond (all is_blank bs) true (all (member s) bs) ≡ true
      kept m = cases (all is_blank bs) (λ e. rw e) (λ e. rw e (all_of s bs m))

      blanked : bs ≡ replicate w 32 → cond (all is_blank bs) true (all (member s) bs) ≡ true
      blanked e = let none : all is_blank bs ≡ true = rw e (blanks w) in rw none

-- ---- angles
-- degrees, minutes, seconds and decimals side by side
put-angle : (w d q s t : ℕ) → q < 100 → s < 100 → t < 100_000 → put (w + 2 + 2 + 5) (((d * 100 + q) * 100 + s) * 100_000 + t) ≡ put w d ++ put 2 q ++ put 2 s ++ put 5 t
put-angle w d q s t hq hs ht =
    put-join (w + 2 + 2) 5 ((d * 100 + q) * 100 + s) t ht
    ∙ ap (λ (x : List ℕ). x ++ put 5 t) (put-join (w + 2) 2 (d * 100 + q) s hs ∙ ap (λ (x : List ℕ). x ++ put 2 s) (put-join w 2 d q hq))

module _ (way : Way) where
  -- columns of degrees
  nine : columns way - 9 + 2 + 2 + 5 ≡ columns way
  nine = by way
    where
      by : (u : Way) → columns u - 9 + 2 + 2 + 5 ≡ columns u
      by latitude = unfold columns in refl
      by longitude = unfold columns in refl

  -- ---- the letter gives the sign
  sign : (m l : ℕ) (t : Bool) → l ≡ minus_of way → m ≤? low way ≡ t → angle_value way m l ≡ signed t m
  unfolding angle_value
  sign m l t e k = rw (of≡ e, k, true_and t)

  behind : (m l : ℕ) → l ≡ minus_of way → cond (l =? plus way) true (l =? minus_of way) ≡ true
  behind m l e = cases (l =? plus way) (λ k. rw k) (λ k. rw (k, of≡ e))

  letter_side : (m l : ℕ) → cond (l =? plus way) true (l =? minus_of way) ≡ true → Sided way m l (angle_value way m l)
  unfolding Sided signed
  letter_side m l h =
      choice (l =? plus way) (l =? minus_of way) h _
      (λ e. inl (to≡ e, ap (angle_value way m) (to≡ e) ∙ east way m))
      (λ e. cases (m ≤? low way) (λ k. inr (inl (to≡ e, to≤ k, sign m l true (to≡ e) k))) (λ k. inr (inr (to≡ e, no≤ k, sign m l false (to≡ e) k))))

  side_letter : (m l : ℕ) (z : ℤ) → Sided way m l z → (cond (l =? plus way) true (l =? minus_of way) ≡ true) × (angle_value way m l ≡ z)
  unfolding Sided signed
  side_letter m l z (inl x) = (rw (of≡ x.0), ap (angle_value way m) x.0 ∙ east way m ∙ sym x.1)
  side_letter m l z (inr (inl x)) = (behind m l x.0, sign m l true x.0 (of≤ x.1) ∙ sym x.2)
  side_letter m l z (inr (inr x)) = (behind m l x.0, sign m l false x.0 (of> {m = m} {n = low way} x.1) ∙ sym x.2)

  -- ---- at most 90, at most 180 degrees
  fits_most : (m : ℕ) (t : Bool) → (t ≡ true → m ≤ low way) → fits (angle way) (num (signed t m)) ≡ true → m ≤ top way
  unfolding fits on_number signed
  fits_most m true f h = omega (arith, f refl, low-top way)
  fits_most m false f h = to≤ h

  most_fits : (m : ℕ) (t : Bool) → (t ≡ true → m ≤ low way) → m ≤ top way → fits (angle way) (num (signed t m)) ≡ true
  unfolding fits on_number signed
  most_fits zero true f h = of≤ h
  most_fits (suc n) true f h = of≤ (f refl)
  most_fits m false f h = of≤ h

  pub angle_most : (bs : List ℕ) → good (angle way) bs ≡ true → angle_of (val 0 (take (columns way) bs)) ≤ top way
  unfolding value_of angle_value
  angle_most bs h =
      let n = val 0 (take (columns way) bs) in
      fits_most (angle_of n) (get_or bs (columns way) 0 =? minus_of way & angle_of n ≤? low way) (λ e. to≤ (both e).1) (fitting (angle way) bs h)

  pub angle_forth : (bs : List ℕ) → good (angle way) bs ≡ true → AngleField way bs (value_of (angle way) bs)
  unfolding shape width value_of dms_form angle_of angle_value
  angle_forth bs h =
      let size : length bs ≡ suc (columns way) = sized (angle way) bs h in
      let form = shaped (angle way) bs h in
      let ds = take (columns way) bs in
      let l = get_or bs (columns way) 0 in
      let n = val 0 ds in
      let room : length ds ≡ columns way = length-take-le (columns way) bs (omega arith) in
      let below = to≤ (both (both (both form).0).1).0 in
      let less = to≤ (both (both (both form).0).1).1 in
      let whole : n ≡ ((n / 1_000_000_000 * 100 + n / 10_000_000 % 100) * 100 + n % 10_000_000 / 100_000) * 100_000 + n % 10_000_000 % 100_000 = omega arith in
      record {
        front = ds;
        side = l;
        spelled = split_at bs (columns way) 0 (omega arith) ∙ ap (λ (x : List ℕ). ds ++ l ∷ x) (drop_of_length-le bs {i = suc (columns way)} (omega arith));
        size = angle_of n;
        angle = record {
          degrees = n / 1_000_000_000;
          minutes = n / 10_000_000 % 100;
          seconds = n % 10_000_000 / 100_000;
          decimals = n % 10_000_000 % 100_000;
          spelled = put-val (columns way) ds room (both (both form).0).0 ∙ ap₂ put (sym nine) whole ∙ put-angle (columns way - 9) _ _ _ _ (omega arith) (omega arith) (omega arith);
          minutes_below = omega (arith, below);
          seconds_below = omega (arith, less);
          five = omega arith;
          value = omega arith;
        };
        most = angle_most bs h;
        signed = angle_value way (angle_of n) l;
        sided = letter_side (angle_of n) l (both form).1;
        value = refl;
      }

  -- the digits of an angle that is not too large
  module _ (ds : List ℕ) (m : ℕ) (a : IsAngle m (columns way - 9) ds) (most : m ≤ top way) where
    spelling : ℕ
    spelling = ((a.degrees * 100 + a.minutes) * 100 + a.seconds) * 100_000 + a.decimals

    as_put : ds ≡ put (columns way) spelling
    unfolding spelling
    as_put = a.spelled ∙ sym (put-angle (columns way - 9) a.degrees a.minutes a.seconds a.decimals (omega (arith, a.minutes_below)) (omega (arith, a.seconds_below)) a.five) ∙ ap (λ k. put k spelling) nine

    as_read : val 0 ds ≡ spelling
    as_read = ap (val 0) as_put ∙ val_put (columns way) spelling (small way most)
      where
        small : (u : Way) → m ≤ top u → spelling < 10 ^ columns u
        small latitude h = unfold spelling top columns in omega (arith, a.value, a.minutes_below, a.seconds_below, a.five)
        small longitude h = unfold spelling top columns in omega (arith, a.value, a.minutes_below, a.seconds_below, a.five)

    parted : spelling ≡ a.degrees * 1_000_000_000 + a.minutes * 10_000_000 + (a.seconds * 100_000 + a.decimals)
    unfolding spelling
    parted = omega arith

    rest : a.seconds * 100_000 + a.decimals < 10_000_000
    rest = omega (arith, a.seconds_below, a.five)

    spelled_form : dms_form (val 0 ds) ≡ true
    unfolding dms_form
    spelled_form =
        rw (as_read ∙ parted)
        (and (of≤ (rw (minutes a.degrees a.minutes _ (omega (arith, a.minutes_below)) rest) (omega (arith, a.minutes_below))))
        (of≤ (rw (seconds a.degrees a.minutes _ rest) (omega (arith, a.seconds_below, a.five)))))

    spelled_size : angle_of (val 0 ds) ≡ m
    unfolding angle_of
    spelled_size =
        rw (as_read ∙ parted, degrees a.degrees a.minutes _ (omega (arith, a.minutes_below)) rest, minutes a.degrees a.minutes _ (omega (arith, a.minutes_below)) rest, seconds a.degrees a.minutes _ rest)
        (omega (arith, a.value))

  pub angle_back : (bs : List ℕ) (v : Value) → AngleField way bs v → (good (angle way) bs ≡ true) × (value_of (angle way) bs ≡ v)
  unfolding shape width value_of angle_value
  angle_back bs v f =
      let ds = f.front in
      let a = f.angle in
      let room : length ds ≡ columns way = ap length (as_put ds f.size a f.most) ∙ length-put (columns way) _ in
      let front : take (columns way) bs ≡ ds = ap (take (columns way)) f.spelled ∙ take_at ds (f.side ∷ []) (columns way) room in
      let last : get_or bs (columns way) 0 ≡ f.side = ap (λ (x : List ℕ). get_or x (columns way) 0) f.spelled ∙ get_or_at ds f.side [] 0 (columns way) room in
      let side = side_letter f.size f.side f.signed f.sided in
      let size : length bs ≡ suc (columns way) = ap length f.spelled ∙ length-append ds (f.side ∷ []) ∙ omega (arith, room) in
      let read : value_of (angle way) bs ≡ num (angle_value way f.size f.side) = ap₂ (λ k l. num (angle_value way k l)) (ap (λ (x : List ℕ). angle_of (val 0 x)) front ∙ spelled_size ds f.size a f.most) last in
      let digits : all is_digit ds ≡ true = subst (λ (x : List ℕ). all is_digit x ≡ true) (sym (as_put ds f.size a f.most)) (digits-put (columns way) _) in
      let fine = goodly (angle way) bs size (and (and (rw front digits) (rw front (spelled_form ds f.size a f.most))) (rw last side.0)) read
      (most_fits f.size (f.side =? minus_of way & f.size ≤? low way) (λ e. to≤ (both e).1) f.most) in
      (fine.0, fine.1 ∙ ap num side.1 ∙ sym f.value)

-- ---- every kind of field: it is good, with the value v, exactly when its columns spell v
forth : (i : Item) (bs : List ℕ) → good i bs ≡ true → Spells i bs (value_of i bs)
unfolding Spells
forth (blank w) bs h = blank_forth w bs h
forth (constant c) bs h = constant_forth c bs h
forth (number w lo hi may) bs h = number_forth w lo hi may bs h
forth (height w lo hi may) bs h = height_forth w lo hi may bs h
forth (angle way) bs h = angle_forth way bs h
forth month bs h = month_forth bs h
forth media bs h = media_forth bs h
forth (word w (each s)) bs h = each_forth w bs s h
forth (word w (or_blank s)) bs h = blank-or_forth w bs s h

back : (i : Item) (bs : List ℕ) (v : Value) → Spells i bs v → (good i bs ≡ true) × (value_of i bs ≡ v)
unfolding Spells
back (blank w) bs v x = let fine = blank_back w bs x.0 in (fine.0, fine.1 ∙ sym x.1)
back (constant c) bs v x = let fine = constant_back c bs x.0 x.1 in (fine.0, fine.1 ∙ sym x.2)
back (number w lo hi may) bs v x = number_back w lo hi may bs v x
back (height w lo hi may) bs v x = height_back w lo hi may bs v x
back (angle way) bs v x = angle_back way bs v x
back month bs v x = month_back bs v x
back media bs v x = media_back bs v x
back (word w (each s)) bs v x = each_back w bs s v x
back (word w (or_blank s)) bs v x = blank-or_back w bs s v x

pub spelled_iff : (i : Item) (bs : List ℕ) (v : Value) → ((good i bs ≡ true) × (value_of i bs ≡ v)) ↔ Spells i bs v
spelled_iff i bs v = ((λ h. subst (Spells i bs) h.1 (forth i bs h.0)), back i bs v)

-- ---- columns 7-10
-- a number that is found among codes stands there at its place
found : (k n : ℕ) (cs : List ℕ) → k + length cs ≤ 14 → kind_from k n cs ≤ 13 → (k ≤ kind_from k n cs) × (n ≡ get_or cs (kind_from k n cs - k) 0)
unfolding kind_from
found k n [] h j = absurd (omega arith)
found k n (c ∷ cs) h j =
    cases (n =? c)
    (λ e. let z : k - k ≡ 0 = omega arith in rw e (omega arith, to≡ e ∙ ap (λ i. get_or (c ∷ cs) i 0) (sym z)))
    (λ e. rw e (later (found (k + 1) n cs (omega arith) (rw e at j))))
  where
    later : (k + 1 ≤ kind_from (k + 1) n cs) × (n ≡ get_or cs (kind_from (k + 1) n cs - (k + 1)) 0) → (k ≤ kind_from (k + 1) n cs) × (n ≡ get_or (c ∷ cs) (kind_from (k + 1) n cs - k) 0)
    later (a, q) =
        let z : kind_from (k + 1) n cs - k ≡ suc (kind_from (k + 1) n cs - (k + 1)) = omega arith in
        (omega arith, q ∙ ap (λ i. get_or (c ∷ cs) i 0) (sym z))

between : (a b : ℕ) → kind_between a b ≤ 13 → Code (42 ∷ a ∷ b ∷ 42 ∷ []) (kind_between a b)
unfolding kind_between Code
between a b h =
    cases (is_digit a & is_digit b)
    (λ e. rw e (numbered e (rw e at h)))
    (λ e. cases (is_letter a & member (letter or digit) b)
    (λ k. rw (e, k) (inl (refl, a, b, refl, in-set letter a (unfold member in (both k).0), in-set (letter or digit) b (both k).1)))
    (λ k. absurd (omega (arith, rw (e, k) at h))))
  where
    numbered : is_digit a & is_digit b ≡ true → kind_from *10* (val 0 (a ∷ b ∷ [])) data_codes ≤ 13 → Code (42 ∷ a ∷ b ∷ 42 ∷ []) (kind_from *10* (val 0 (a ∷ b ∷ [])) data_codes)
    numbered e k =
        let n = val 0 (a ∷ b ∷ []) in
        let x = found *10* n data_codes (unfold data_codes in omega arith) k in
        let two : a ∷ b ∷ [] ≡ put 2 n = put-val 2 (a ∷ b ∷ []) refl (unfold all in and (both e).0 (and (both e).1 refl)) in
        unfold Code in inr (x.0, k, ap (λ (y : List ℕ). 42 ∷ (y ++ 42 ∷ [])) (two ∙ ap (put 2) x.1))

-- an asterisk, two characters, an asterisk
starred_is : (c : List ℕ) → starred c ≡ true → c ≡ 42 ∷ get_or c 1 0 ∷ get_or c 2 0 ∷ 42 ∷ []
unfolding starred
starred_is [] e = absurd (omega (arith, to≡ (both (both e).0).0))
starred_is (x ∷ []) e = absurd (omega (arith, to≡ (both (both e).0).0))
starred_is (x ∷ a ∷ []) e = absurd (omega (arith, to≡ (both (both e).0).0))
starred_is (x ∷ a ∷ b ∷ []) e = absurd (omega (arith, to≡ (both (both e).0).0))
starred_is (x ∷ a ∷ b ∷ y ∷ []) e = ap₂ (λ u v. u ∷ a ∷ b ∷ v ∷ []) (to≡ (both (both e).0).1) (to≡ (both e).1)
starred_is (x ∷ a ∷ b ∷ y ∷ z ∷ zs) e = absurd (omega (arith, to≡ (both (both e).0).0))

code_forth : (c : List ℕ) → known c ≡ true → Code c (kind_of c)
unfolding known kind_of
code_forth c h =
    cases (starred c)
    (λ e. rw e (subst (λ x. Code x (kind_between (get_or c 1 0) (get_or c 2 0))) (sym (starred_is c e)) (between (get_or c 1 0) (get_or c 2 0) (to≤ (rw e at h)))))
    (λ e. absurd (omega (arith, to≤ (rw e at h))))

-- every data code, tried
tried_code : ℕ → Bool
tried_code i = kind_of (42 ∷ (put 2 (get_or data_codes i 0) ++ 42 ∷ [])) =? i + 1

codes_known : all tried_code (under 13) ≡ true
unfolding all under tried_code kind_of starred kind_between kind_from data_codes put val is_digit within ◌=?◌ ◌≤?◌ ◌&◌
codes_known = refl

letter_no_digit : (a : ℕ) → is_letter a ≡ true → is_digit a ≡ false
unfolding is_letter is_digit
letter_no_digit a h = is_no (within 48 57 a) (λ d. omega (arith, (to_within d).1, (to_within h).0))

job_kind : (a b : ℕ) → member letter a ≡ true → member (letter or digit) b ≡ true → kind_of (42 ∷ a ∷ b ∷ 42 ∷ []) ≡ *AA*
unfolding kind_of starred kind_between ◌=?◌ ◌&◌
job_kind a b x y =
    let first : is_letter a ≡ true = unfold member in x in
    rw (letter_no_digit a first, first, y)

code_kind : (c : List ℕ) (k : ℕ) → Code c k → (kind_of c ≡ k) × (k ≤ 13)
unfolding Code tried_code
code_kind c k (inl (e, a, b, q, x, y)) = (ap kind_of q ∙ job_kind a b (of_set letter a x) (of_set (letter or digit) b y) ∙ sym e, omega (arith, e))
code_kind c k (inr (least, most, q)) =
    let z : k - 1 + 1 ≡ k = omega arith in
    (ap kind_of q ∙ to≡ (tried tried_code 13 (k - 1) codes_known (omega arith)) ∙ z, most)

pub code_iff : (c : List ℕ) (k : ℕ) → ((known c ≡ true) × (kind_of c ≡ k)) ↔ Code c k
code_iff c k = (
  (λ h. subst (Code c) h.1 (code_forth c h.0)),
  (λ x. let e = code_kind c k x in ((unfold known in of≤ (rw e.0 e.1)), e.0)),
)
