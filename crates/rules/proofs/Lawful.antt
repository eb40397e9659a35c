-- Each kind of field is lawful: a value that it can hold is written in its width and form, and reads back.
use mathlib.Core.Path.{◌≡◌, refl, sym, ◌∙◌, ap, ap₂, subst}
use mathlib.Core.Bool.{Bool, true, false, cond, false≢true}
use mathlib.Core.List.{List, [], ◌∷◌, ◌++◌}
use Prim.Native.Nat.{ℕ, zero, suc, ◌+◌, ◌-◌, ◌*◌, ◌/◌, ◌%◌, ◌^◌, ◌≤◌, ◌<◌}
use native.Mathlib.Omega.{arith}
use lib.ListN.{length, length-append, replicate, length-replicate, take, drop, get_or}
use lib.Seq.{take_at, drop_at, get_or_at, take-add, drop-drop, get_or-drop}
use lib.IntN.{pos, negsuc}
use Rattle.rules.specs.Tests.{all, within, ◌&◌, ◌≤?◌, ◌=?◌}
use Rattle.rules.specs.Characters.{ascii, is_printable, is_blank, is_digit, is_letter, any_of, title_characters, name_characters, Set, letter, digit, space, printable, title, name, only, ◌or◌, member}
use Rattle.rules.specs.Digits.{val, put}
use Rattle.rules.specs.Items.{Value, gap, missing, num, text, label, Way, latitude, longitude, Test, each, or_blank, Item, blank, constant, number, height, angle, month, media, word}
use Rattle.rules.specs.Items.{num_form, height_form, minus, signed, passes, angle_of, dms, dms_form, columns, top, low, plus, minus_of, angle_value, is_month, is_media, on_gap, on_number, on_text, on_label, width, shape, value_of, fits, render, good, begins, first_bad, spot}
use Rattle.rules.proofs.Truth.{all_append, all_weaken, all_replicate, of_within, to_within, both, and, to≤, of≤, to≡, of≡, is_no, cases, choice}
use Rattle.rules.proofs.DigitLaws.{length-put, digits-put, val_put}

-- ---- all that records and files use of a field
pub record Styled (i : Item) (v : Value) : Type 0 where
  pub sized : length (render i v) ≡ width i
  pub shaped : shape i (render i v) ≡ true
  pub valued : value_of i (render i v) ≡ v
  pub printed : all is_printable (render i v) ≡ true

abbrev pub Lawful : Item → Type 0
Lawful i = (v : Value) → fits i v ≡ true → Styled i v

pub good-fits : (i : Item) (bs : List ℕ) → good i bs ≡ true → fits i (value_of i bs) ≡ true
unfolding good
good-fits i bs h = (both h).1

pub render-good : (i : Item) (v : Value) → Styled i v → fits i v ≡ true → good i (render i v) ≡ true
unfolding good
render-good i v st h = and (and (of≡ st.sized) st.shaped) (rw st.valued h)

-- ---- printable
range_printable : {lo hi : ℕ} (b : ℕ) → 32 ≤ lo → hi ≤ 126 → within lo hi b ≡ true → is_printable b ≡ true
unfolding is_printable
range_printable b p q h = of_within (omega (arith, (to_within h).0)) (omega (arith, (to_within h).1))

pub digit-printable : (b : ℕ) → is_digit b ≡ true → is_printable b ≡ true
unfolding is_digit
digit-printable b h = range_printable b (omega arith) (omega arith) h

pub letter-printable : (b : ℕ) → is_letter b ≡ true → is_printable b ≡ true
unfolding is_letter
letter-printable b h = range_printable b (omega arith) (omega arith) h

blank-printable : (b : ℕ) → is_blank b ≡ true → is_printable b ≡ true
unfolding is_blank is_printable
blank-printable b h = of_within (omega (arith, to≡ h)) (omega (arith, to≡ h))

any_of-printable : (cs : List ℕ) (b : ℕ) → all is_printable cs ≡ true → any_of cs b ≡ true → is_printable b ≡ true
unfolding any_of all
any_of-printable [] b k h = absurd (false≢true h)
any_of-printable (c ∷ cs) b k h =
    choice (b =? c) (any_of cs b) h _ (λ e. rw (to≡ e) (both k).0) (λ e. any_of-printable cs b (both k).1 e)

titles_printable : all is_printable title_characters ≡ true
unfolding title_characters ascii all is_printable within ◌&◌ ◌≤?◌
titles_printable = refl

names_printable : all is_printable name_characters ≡ true
unfolding name_characters ascii all is_printable within ◌&◌ ◌≤?◌
names_printable = refl

pub member-printable : (s : Set) (b : ℕ) → member s b ≡ true → is_printable b ≡ true
unfolding member
member-printable letter b h = letter-printable b h
member-printable digit b h = digit-printable b h
member-printable space b h = blank-printable b h
member-printable printable b h = h
member-printable title b h = any_of-printable title_characters b titles_printable h
member-printable name b h = any_of-printable name_characters b names_printable h
member-printable (only c) b h = (both h).0
member-printable (s or t) b h = choice (member s b) (member t b) h _ (member-printable s b) (member-printable t b)

-- ---- blanks and constants
pub blanks : (w : ℕ) → all is_blank (replicate w 32) ≡ true
unfolding is_blank ◌=?◌
blanks w = all_replicate is_blank 32 refl w

blanks-printable : (w : ℕ) → all is_printable (replicate w 32) ≡ true
blanks-printable w = all_weaken is_blank is_printable blank-printable _ (blanks w)

pub digits-printable : (bs : List ℕ) → all is_digit bs ≡ true → all is_printable bs ≡ true
digits-printable bs h = all_weaken is_digit is_printable digit-printable bs h

blank_lawful : (w : ℕ) → Lawful (blank w)
unfolding fits render shape value_of width on_gap
blank_lawful w gap h = record { sized = length-replicate w 32; shaped = blanks w; valued = refl; printed = blanks-printable w }
blank_lawful w missing h = absurd (false≢true h)
blank_lawful w (num k) h = absurd (false≢true h)
blank_lawful w (text t) h = absurd (false≢true h)
blank_lawful w (label m d y s t) h = absurd (false≢true h)

constant_lawful : (c : ℕ) → Lawful (constant c)
unfolding fits render shape value_of width on_gap all
constant_lawful c gap h = record { sized = refl; shaped = and (of≡ {m = c} refl) refl; valued = refl; printed = and h refl }
constant_lawful c missing h = absurd (false≢true h)
constant_lawful c (num k) h = absurd (false≢true h)
constant_lawful c (text t) h = absurd (false≢true h)
constant_lawful c (label m d y s t) h = absurd (false≢true h)

-- ---- words
passes-printable : (t : Test) (bs : List ℕ) → passes t bs ≡ true → all is_printable bs ≡ true
unfolding passes
passes-printable (each s) bs h = all_weaken (member s) is_printable (member-printable s) bs h
passes-printable (or_blank s) bs h =
    choice (all is_blank bs) (all (member s) bs) h _ (all_weaken is_blank is_printable blank-printable bs) (all_weaken (member s) is_printable (member-printable s) bs)

word_lawful : (w : ℕ) (t : Test) → Lawful (word w t)
unfolding fits render shape value_of width on_text
word_lawful w t gap h = absurd (false≢true h)
word_lawful w t missing h = absurd (false≢true h)
word_lawful w t (num k) h = absurd (false≢true h)
word_lawful w t (text x) h = record { sized = to≡ (both h).0; shaped = (both h).1; valued = refl; printed = passes-printable t x (both h).1 }
word_lawful w t (label m d y s x) h = absurd (false≢true h)

-- ---- numbers
pub digit-not-blank : (b : ℕ) → is_digit b ≡ true → is_blank b ≡ false
unfolding is_digit is_blank
digit-not-blank b h = is_no (b =? 32) (λ e. omega (arith, to≡ e, (to_within h).0))

pub digits-not-blank : (bs : List ℕ) → all is_digit bs ≡ true → 1 ≤ length bs → all is_blank bs ≡ false
unfolding all ◌&◌
digits-not-blank [] h k = absurd (omega arith)
digits-not-blank (b ∷ bs) h k = rw (digit-not-blank b (both h).0)

pub blanks-num_form : (bs : List ℕ) → all is_blank bs ≡ true → num_form bs ≡ true
unfolding all num_form
blanks-num_form [] h = refl
blanks-num_form (b ∷ bs) h = rw (both h).0 (blanks-num_form bs (both h).1)

pub digits-num_form : (bs : List ℕ) → all is_digit bs ≡ true → num_form bs ≡ true
unfolding all num_form
digits-num_form [] h = refl
digits-num_form (b ∷ bs) h = rw (digit-not-blank b (both h).0) h

number_lawful : (w lo hi : ℕ) (may : Bool) → Lawful (number w lo hi may)
unfolding fits render shape value_of width on_number
number_lawful w lo hi may gap h = absurd (false≢true h)
number_lawful w lo hi may missing h =
    record { sized = length-replicate w 32; shaped = blanks-num_form _ (blanks w); valued = rw (blanks w); printed = blanks-printable w }
number_lawful w lo hi may (num (pos n)) h =
    let big : 1 ≤ length (put w n) = omega (arith, length-put w n, to≤ (both (both h).0).0) in
    record {
      sized = length-put w n;
      shaped = digits-num_form _ (digits-put w n);
      valued = rw (digits-not-blank (put w n) (digits-put w n) big, val_put w n (to≤ (both (both h).0).1));
      printed = digits-printable _ (digits-put w n);
    }
number_lawful w lo hi may (num (negsuc n)) h = absurd (false≢true h)
number_lawful w lo hi may (text t) h = absurd (false≢true h)
number_lawful w lo hi may (label m d y s t) h = absurd (false≢true h)

-- ---- heights
pub blanks-height_form : (bs : List ℕ) → all is_blank bs ≡ true → height_form bs ≡ true
unfolding all height_form
blanks-height_form [] h = refl
blanks-height_form (b ∷ bs) h = rw (both h).0 (blanks-height_form bs (both h).1)

pub digit-not-minus : (b : ℕ) → is_digit b ≡ true → b =? 45 ≡ false
unfolding is_digit
digit-not-minus b h = is_no (b =? 45) (λ e. omega (arith, to≡ e, (to_within h).0))

pub digits-height_form : (bs : List ℕ) → all is_digit bs ≡ true → height_form bs ≡ true
unfolding all height_form
digits-height_form [] h = refl
digits-height_form (b ∷ bs) h = rw (digit-not-blank b (both h).0, digit-not-minus b (both h).0) h

pub digits_no_minus : (bs : List ℕ) → all is_digit bs ≡ true → minus bs ≡ false
unfolding all minus
digits_no_minus [] h = refl
digits_no_minus (b ∷ bs) h = rw (digit-not-blank b (both h).0) (digit-not-minus b (both h).0)

minus-printable : (ds : List ℕ) → all is_digit ds ≡ true → all is_printable (45 ∷ ds) ≡ true
unfolding all is_printable
minus-printable ds h = and (of_within (omega arith) (omega arith)) (digits-printable ds h)

room : (k n : ℕ) → suc (suc n) ≤ 10 ^ k → 1 ≤ k
room zero n h = absurd (omega arith)
room (suc k) n h = omega arith

-- a minus, then digits
minus_form : (ds : List ℕ) → 1 ≤ length ds → all is_digit ds ≡ true → height_form (45 ∷ ds) ≡ true
unfolding height_form is_blank ◌=?◌
minus_form ds h k = and (of≤ h) k

minus_value : (w lo hi : ℕ) (may : Bool) (n : ℕ) (ds : List ℕ) → val 0 ds ≡ suc n → value_of (height w lo hi may) (45 ∷ ds) ≡ num (negsuc n)
unfolding value_of all is_blank minus val signed ◌=?◌ ◌&◌
minus_value w lo hi may n ds h = rw h

height_lawful : (w lo hi : ℕ) (may : Bool) → Lawful (height w lo hi may)
unfolding fits render shape value_of width signed on_number
height_lawful w lo hi may gap h = absurd (false≢true h)
height_lawful w lo hi may missing h =
    record { sized = length-replicate w 32; shaped = blanks-height_form _ (blanks w); valued = rw (blanks w); printed = blanks-printable w }
height_lawful w lo hi may (num (pos n)) h =
    let big : 1 ≤ length (put w n) = omega (arith, length-put w n, to≤ (both (both h).0).0) in
    record {
      sized = length-put w n;
      shaped = digits-height_form _ (digits-put w n);
      valued = rw (digits-not-blank (put w n) (digits-put w n) big, digits_no_minus (put w n) (digits-put w n), val_put w n (to≤ (both (both h).0).1));
      printed = digits-printable _ (digits-put w n);
    }
height_lawful w lo hi may (num (negsuc n)) h =
    let ds = digits-put (w - 1) (suc n) in
    record {
      sized = omega (arith, length-put (w - 1) (suc n), to≤ (both (both h).0).0);
      shaped = minus_form _ (omega (arith, length-put (w - 1) (suc n), room (w - 1) n (to≤ (both (both h).0).1))) ds;
      valued = minus_value w lo hi may n _ (val_put (w - 1) (suc n) (to≤ (both (both h).0).1));
      printed = minus-printable _ ds;
    }
height_lawful w lo hi may (text t) h = absurd (false≢true h)
height_lawful w lo hi may (label m d y s t) h = absurd (false≢true h)

-- ---- angles
dms_lt : (m : ℕ) → m ≤ 32_400_000_000 → dms m < 10 ^ 11
unfolding dms
dms_lt m h = omega arith

dms_lt' : (m : ℕ) → m ≤ 64_800_000_000 → dms m < 10 ^ 12
unfolding dms
dms_lt' m h = omega arith

-- degrees, minutes and seconds out of the one number
pub degrees : (d q t : ℕ) → q < 100 → t < 10_000_000 → (d * 1_000_000_000 + q * 10_000_000 + t) / 1_000_000_000 ≡ d
degrees d q t h k = omega arith

pub minutes : (d q t : ℕ) → q < 100 → t < 10_000_000 → (d * 1_000_000_000 + q * 10_000_000 + t) / 10_000_000 % 100 ≡ q
minutes d q t h k = let e : (d * 1_000_000_000 + q * 10_000_000 + t) / 10_000_000 ≡ d * 100 + q = omega arith in omega arith

pub seconds : (d q t : ℕ) → t < 10_000_000 → (d * 1_000_000_000 + q * 10_000_000 + t) % 10_000_000 ≡ t
seconds d q t k = omega arith

module _ (m : ℕ) where
  q<60 : m % 360_000_000 / 6_000_000 < 60
  q<60 = omega arith

  t<6e6 : m % 360_000_000 % 6_000_000 < 6_000_000
  t<6e6 = omega arith

  q<100 : m % 360_000_000 / 6_000_000 < 100
  q<100 = omega (arith, q<60)

  t<1e7 : m % 360_000_000 % 6_000_000 < 10_000_000
  t<1e7 = omega (arith, t<6e6)

  pub angle-dms : angle_of (dms m) ≡ m
  unfolding dms angle_of
  angle-dms =
      rw (degrees (m / 360_000_000) _ _ q<100 t<1e7, minutes (m / 360_000_000) _ _ q<100 t<1e7, seconds (m / 360_000_000) (m % 360_000_000 / 6_000_000) _ t<1e7)
      (omega arith)

  dms_form_lem : dms_form (dms m) ≡ true
  unfolding dms dms_form
  dms_form_lem =
      and (of≤ (rw (minutes (m / 360_000_000) _ _ q<100 t<1e7) (omega (arith, q<60))))
      (of≤ (rw (seconds (m / 360_000_000) (m % 360_000_000 / 6_000_000) _ t<1e7) (omega (arith, t<6e6))))

dms-top : (way : Way) (m : ℕ) → m ≤ top way → dms m < 10 ^ columns way
unfolding top columns
dms-top latitude m h = dms_lt m h
dms-top longitude m h = dms_lt' m h

pub low-top : (way : Way) → low way ≤ top way
unfolding low top
low-top latitude = omega arith
low-top longitude = omega arith

pub east : (way : Way) (m : ℕ) → angle_value way m (plus way) ≡ pos m
unfolding angle_value plus minus_of signed ◌=?◌ ◌&◌
east latitude m = refl
east longitude m = refl

west : (way : Way) (n : ℕ) → suc n ≤? low way ≡ true → angle_value way (suc n) (minus_of way) ≡ negsuc n
unfolding angle_value minus_of signed ◌=?◌ ◌&◌
west latitude n h = rw h
west longitude n h = rw h

pub plus-letter : (way : Way) → cond (plus way =? plus way) true (plus way =? minus_of way) ≡ true
unfolding plus ◌=?◌
plus-letter latitude = refl
plus-letter longitude = refl

minus-letter : (way : Way) → cond (minus_of way =? plus way) true (minus_of way =? minus_of way) ≡ true
unfolding plus minus_of ◌=?◌
minus-letter latitude = refl
minus-letter longitude = refl

module _ (way : Way) (m l : ℕ) (bound : m ≤ top way) where
  front : take (columns way) (put (columns way) (dms m) ++ l ∷ []) ≡ put (columns way) (dms m)
  front = take_at (put (columns way) (dms m)) (l ∷ []) (columns way) (length-put _ _)

  last : get_or (put (columns way) (dms m) ++ l ∷ []) (columns way) 0 ≡ l
  last = get_or_at (put (columns way) (dms m)) l [] 0 (columns way) (length-put _ _)

  back : val 0 (take (columns way) (put (columns way) (dms m) ++ l ∷ [])) ≡ dms m
  back = ap (val 0) front ∙ val_put (columns way) (dms m) (dms-top way m bound)

  angle_value_lem : value_of (angle way) (put (columns way) (dms m) ++ l ∷ []) ≡ num (angle_value way m l)
  unfolding value_of
  angle_value_lem = rw (back, last, angle-dms m)

  angle-shape : cond (l =? plus way) true (l =? minus_of way) ≡ true → shape (angle way) (put (columns way) (dms m) ++ l ∷ []) ≡ true
  unfolding shape
  angle-shape h = and (and (rw front (digits-put (columns way) (dms m))) (rw back (dms_form_lem m))) (rw last h)

  angle_size : length (put (columns way) (dms m) ++ l ∷ []) ≡ suc (columns way)
  angle_size = length-append (put (columns way) (dms m)) (l ∷ []) ∙ omega (arith, length-put (columns way) (dms m))

angle-printable : (way : Way) (m l : ℕ) → is_printable l ≡ true → all is_printable (put (columns way) (dms m) ++ l ∷ []) ≡ true
unfolding all
angle-printable way m l h = all_append is_printable (put (columns way) (dms m)) _ (digits-printable (put (columns way) (dms m)) (digits-put (columns way) (dms m))) (and h refl)

letters-printable : (way : Way) → (is_printable (plus way) ≡ true) × (is_printable (minus_of way) ≡ true)
unfolding plus minus_of is_printable within ◌≤?◌ ◌&◌
letters-printable latitude = (refl, refl)
letters-printable longitude = (refl, refl)

angle_lawful : (way : Way) → Lawful (angle way)
unfolding fits render width on_number
angle_lawful way gap h = absurd (false≢true h)
angle_lawful way missing h = absurd (false≢true h)
angle_lawful way (num (pos n)) h = record {
  sized = angle_size way n (plus way) (to≤ h);
  shaped = angle-shape way n (plus way) (to≤ h) (plus-letter way);
  valued = angle_value_lem way n (plus way) (to≤ h) ∙ ap num (east way n);
  printed = angle-printable way n (plus way) (letters-printable way).0;
}
angle_lawful way (num (negsuc n)) h =
    let lower : suc n ≤ top way = omega (arith, to≤ h, low-top way) in
    record {
      sized = angle_size way (suc n) (minus_of way) lower;
      shaped = angle-shape way (suc n) (minus_of way) lower (minus-letter way);
      valued = angle_value_lem way (suc n) (minus_of way) lower ∙ ap num (west way n h);
      printed = angle-printable way (suc n) (minus_of way) (letters-printable way).1;
    }
angle_lawful way (text t) h = absurd (false≢true h)
angle_lawful way (label m d y s t) h = absurd (false≢true h)

-- ---- YYYYMM
month_small : (n : ℕ) → is_month n ≡ true → n < 10 ^ 6
unfolding is_month
month_small n h = omega (arith, (to_within (both h).0).1)

month_lawful : Lawful month
unfolding fits render shape value_of width on_number
month_lawful gap h = absurd (false≢true h)
month_lawful missing h = absurd (false≢true h)
month_lawful (num (pos n)) h = record {
  sized = length-put 6 n;
  shaped = digits-put 6 n;
  valued = ap (λ k. num (pos k)) (val_put 6 n (month_small n h));
  printed = digits-printable _ (digits-put 6 n);
}
month_lawful (num (negsuc n)) h = absurd (false≢true h)
month_lawful (text t) h = absurd (false≢true h)
month_lawful (label m d y s t) h = absurd (false≢true h)

-- ---- media identifier
module _ (m d y s : ℕ) (t : List ℕ) (h : is_media m d y s t ≡ true) where
  parted : (is_letter m ≡ true) × (d < 1_000) × (y ≤? 9 ≡ true) × (member (letter or digit) s ≡ true) × (length t =? 4 & all is_printable t ≡ true)
  unfolding is_media
  parted = ((both (both (both (both h).0).0).0).0, omega (arith, (to_within (both (both (both (both h).0).0).0).1).1), (both (both (both h).0).0).1, (both (both h).0).1, (both h).1)

  days : take 3 (put 3 d ++ (48 + y) ∷ s ∷ t) ≡ put 3 d
  days = take_at (put 3 d) ((48 + y) ∷ s ∷ t) 3 (length-put 3 d)

  others : drop 3 (put 3 d ++ (48 + y) ∷ s ∷ t) ≡ (48 + y) ∷ s ∷ t
  others = drop_at (put 3 d) ((48 + y) ∷ s ∷ t) 3 (length-put 3 d)

  year_digit : is_digit (48 + y) ≡ true
  unfolding is_digit
  year_digit = of_within (omega arith) (omega (arith, to≤ parted.2))

media_value_lem : (m d y s : ℕ) (t : List ℕ) → is_media m d y s t ≡ true → value_of media (m ∷ (put 3 d ++ (48 + y) ∷ s ∷ t)) ≡ label m d y s t
unfolding value_of
media_value_lem m d y s t h =
    let x = put 3 d ++ (48 + y) ∷ s ∷ t in
    let day : val 0 (take 3 x) ≡ d = ap (val 0) (days m d y s t h) ∙ val_put 3 d (omega (arith, (parted m d y s t h).1)) in
    let year : val 0 (take 1 (drop 3 x)) ≡ y = ap (λ z. val 0 (take 1 z)) (others m d y s t h) ∙ one y in
    let session : get_or x 4 0 ≡ s = sym (get_or-drop 3 x 1 0) ∙ ap (λ z. get_or z 1 0) (others m d y s t h) in
    let mark : drop 5 x ≡ t = sym (drop-drop 2 3 x) ∙ ap (drop 2) (others m d y s t h) in
    λ j. label m (day j) (year j) (session j) (mark j)
  where
    one : (k : ℕ) → val 0 ((48 + k) ∷ []) ≡ k
    one k = unfold val in omega arith

media-shape : (m d y s : ℕ) (t : List ℕ) → is_media m d y s t ≡ true → shape media (m ∷ (put 3 d ++ (48 + y) ∷ s ∷ t)) ≡ true
unfolding shape all
media-shape m d y s t h =
    let x = put 3 d ++ (48 + y) ∷ s ∷ t in
    let e : take 4 x ≡ put 3 d ++ (48 + y) ∷ [] = take-add 3 1 x ∙ ap₂ ◌++◌ (days m d y s t h) (ap (take 1) (others m d y s t h)) in
    subst (λ z. all is_digit z ≡ true) (sym e) (all_append is_digit (put 3 d) _ (digits-put 3 d) (and (year_digit m d y s t h) refl))

media-printable : (m d y s : ℕ) (t : List ℕ) → is_media m d y s t ≡ true → all is_printable (m ∷ (put 3 d ++ (48 + y) ∷ s ∷ t)) ≡ true
unfolding all
media-printable m d y s t h =
    let p = parted m d y s t h in
    and (letter-printable m p.0)
    (all_append is_printable (put 3 d) _ (digits-printable (put 3 d) (digits-put 3 d))
    (and (digit-printable _ (year_digit m d y s t h)) (and (member-printable (letter or digit) s p.3) (both p.4).1)))

media_size : (m d y s : ℕ) (t : List ℕ) → is_media m d y s t ≡ true → length (m ∷ (put 3 d ++ (48 + y) ∷ s ∷ t)) ≡ 10
media_size m d y s t h =
    ap suc (length-append (put 3 d) ((48 + y) ∷ s ∷ t)) ∙ omega (arith, length-put 3 d, to≡ (both (parted m d y s t h).4).0)

media_lawful : Lawful media
unfolding fits render width on_label
media_lawful gap h = absurd (false≢true h)
media_lawful missing h = absurd (false≢true h)
media_lawful (num k) h = absurd (false≢true h)
media_lawful (text t) h = absurd (false≢true h)
media_lawful (label m d y s t) h =
    record { sized = media_size m d y s t h; shaped = media-shape m d y s t h; valued = media_value_lem m d y s t h; printed = media-printable m d y s t h }

-- ---- every kind of field
pub lawful : (i : Item) → Lawful i
lawful (blank w) = blank_lawful w
lawful (constant c) = constant_lawful c
lawful (number w lo hi may) = number_lawful w lo hi may
lawful (height w lo hi may) = height_lawful w lo hi may
lawful (angle way) = angle_lawful way
lawful month = month_lawful
lawful media = media_lawful
lawful (word w t) = word_lawful w t

-- the fault is named inside the field
pub first_bad_most : (i : Item) (bs : List ℕ) (n k : ℕ) → first_bad i bs n k ≤ k + n
unfolding first_bad
first_bad_most i bs zero k = omega arith
first_bad_most i bs (suc n) k = cases (begins i (take (k + 1) bs)) (λ e. rw e (omega (arith, first_bad_most i bs n (k + 1)))) (λ e. rw e (omega arith))

pub spot-inside : (i : Item) (bs : List ℕ) → 1 ≤ width i → spot i bs < width i
unfolding spot
spot-inside i bs h = omega (arith, first_bad_most i bs (width i - 1) 0)
