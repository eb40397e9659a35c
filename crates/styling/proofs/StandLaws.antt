-- A good field in house style, in place: what stands already, and what becomes of a number, a height and an angle that does not, is what writing its value gives. Assumes nothing.
use mathlib.Core.Path.{◌≡◌, refl, sym, ap, ap₂, ◌∙◌}
use mathlib.Core.Bool.{Bool, true, false, not, ◌&&◌, false≢true}
use mathlib.Core.List.{List, [], ◌∷◌, ◌++◌, map, append-nil, append_assoc}
use Prim.Native.Nat.{ℕ, zero, suc, ◌+◌, ◌-◌, ◌*◌, ◌/◌, ◌%◌, ◌≤◌, ◌<◌}
use native.Mathlib.Omega.{arith}
use lib.Dec.{lit≤, eqb}
use lib.IntN.{pos}
use borrow.Author.Tests.{eq-eqb, ne_eqb, eqb-true}
use lib.ListN.{length, get_or, set, take, drop, replicate, length-set, take-append-drop, length-drop, length-map, drop_of_length-le}
use lib.Seq.{take-add, length-take-le, drop-cons, drop-drop, take_all, take-suc-set}
use Rattle.rules.specs.Tests.{◌&◌, ◌≤?◌, ◌=?◌, within, all}
use Rattle.rules.specs.Characters.{is_digit, is_blank}
use Rattle.rules.specs.Digits.{val, put}
use Rattle.rules.specs.Items.{num, Way, latitude, longitude, Item, blank, constant, number, height, angle, month, media, word, on_gap, on_number, on_text, on_label, columns, plus, minus_of, low, top, minus, num_form, height_form, signed, angle_value, angle_of, dms, dms_form, width, shape, value_of, fits, render, good}
use Rattle.rules.proofs.Truth.{all-parts, both, and, to≤, of≤, of>, to≡, of≡, of≢, no≤, to_within, cases, both_true}
use Rattle.rules.proofs.Lawful.{good-fits, digits_no_minus}
use Rattle.rules.proofs.FileLaws.{length-take_most}
use Rattle.columns.proofs.Loops.{suc_less_one}
use Rattle.styling.specs.Styling.{style_of, filled, settled, value_in, rise_stands, metres_stands, height_anew, height_style, sided, angle_stands, angle_style}

-- ---- digits as they stand
digit_back : (a b : ℕ) → is_digit b ≡ true → ((a * 10 + (b - 48)) / 10 ≡ a) × (48 + (a * 10 + (b - 48)) % 10 ≡ b)
unfolding is_digit
digit_back a b h = let p = to_within h in (omega arith, omega arith)

put_on : (k a : ℕ) (bs : List ℕ) → all is_digit bs ≡ true → put (k + length bs) (val a bs) ≡ put k a ++ bs
unfolding all val
put_on k a [] h = let z : k + 0 ≡ k = omega arith in rw z (sym (append-nil (put k a)))
put_on k a (b ∷ bs) h =
    let d = digit_back a b (both h).0 in
    let n : k + suc (length bs) ≡ suc k + length bs = omega arith in
    rw n (put_on (suc k) (a * 10 + (b - 48)) bs (both h).1 ∙ unfold put in rw (d.0, d.1) (append_assoc (put k a) (b ∷ []) bs))

year_back : (y : ℕ) → is_digit y ≡ true → 48 + val 0 (y ∷ []) ≡ y
unfolding val is_digit
year_back y h = let p = to_within h in omega arith

put-val : (w : ℕ) (bs : List ℕ) → length bs ≡ w → all is_digit bs ≡ true → put w (val 0 bs) ≡ bs
put-val w bs e h =
    let z : w ≡ 0 + length bs = omega arith in
    ap (λ k. put k (val 0 bs)) z ∙ put_on 0 0 bs h ∙ unfold put in refl

-- ---- fields that are in house style as they stand
same_bytes_lem : (p : ℕ → Bool) (k : ℕ) → ((b : ℕ) → p b ≡ true → b ≡ k) → (bs : List ℕ) → all p bs ≡ true → replicate (length bs) k ≡ bs
unfolding all
same_bytes_lem p k f [] h = refl
same_bytes_lem p k f (b ∷ bs) h = rw (f b (both h).0) (ap (λ l. k ∷ l) (same_bytes_lem p k f bs (both h).1))

all_one : (b : ℕ) → all is_digit (b ∷ []) ≡ true → is_digit b ≡ true
unfolding all
all_one b h = (both h).0

media_back : (bs : List ℕ) → length bs ≡ 10 → all is_digit (take 4 (drop 1 bs)) ≡ true → style_of media bs ≡ bs
unfolding style_of value_of render on_label
media_back bs e h =
    let x = drop 1 bs in
    let fourth : drop 4 bs ≡ get_or bs 4 0 ∷ drop 5 bs = drop-cons bs 4 0 (omega arith) in
    let third : drop 3 x ≡ drop 4 bs = drop-drop 3 1 bs in
    let parts : (all is_digit (take 3 x) ≡ true) × (all is_digit (take 1 (drop 3 x)) ≡ true) = all-parts is_digit (take 3 x) (take 1 (drop 3 x)) (rw (take-add 3 1 x) at h) in
    let one : take 1 (drop 4 bs) ≡ get_or bs 4 0 ∷ [] = ap (take 1) fourth in
    let last : all is_digit (get_or bs 4 0 ∷ []) ≡ true = rw (third, one) at parts.1 in
    let digit : is_digit (get_or bs 4 0) ≡ true = all_one (get_or bs 4 0) last in
    let year : 48 + val 0 (take 1 (drop 4 bs)) ≡ get_or bs 4 0 = ap (λ l. 48 + val 0 l) one ∙ year_back (get_or bs 4 0) digit in
    let few : length (take 3 x) ≡ 3 = length-take-le 3 x (rw length-drop (omega arith)) in
    ap (λ l. get_or bs 0 0 ∷ (l ++ (48 + val 0 (take 1 (drop 4 bs))) ∷ get_or bs 5 0 ∷ drop 6 bs)) (put-val 3 (take 3 x) few parts.0)
    ∙ ap (λ y. get_or bs 0 0 ∷ (take 3 x ++ y ∷ get_or bs 5 0 ∷ drop 6 bs)) year
    ∙ sym (drop-cons bs 0 0 (omega arith) ∙ ap (λ l. get_or bs 0 0 ∷ l) (sym (take-append-drop 3 x) ∙ ap (λ l. take 3 x ++ l) (third ∙ fourth ∙ ap (λ l. get_or bs 4 0 ∷ l) (drop-cons bs 5 0 (omega arith)))))

-- what is neither a number nor a height nor an angle
abbrev pub kept_as_is : Item → Bool
kept_as_is (blank w) = true
kept_as_is (constant c) = true
kept_as_is (number w lo hi may) = false
kept_as_is (height w lo hi may) = false
kept_as_is (angle way) = false
kept_as_is month = true
kept_as_is media = true
kept_as_is (word w t) = true

pub style_same : (i : Item) (bs : List ℕ) → kept_as_is i ≡ true → good i bs ≡ true → style_of i bs ≡ bs
unfolding style_of value_of render on_gap on_number on_text good width shape is_blank
style_same (blank w) bs t h = rw (← to≡ (both (both h).0).0) (same_bytes_lem (λ b. b =? 32) 32 (λ b k. to≡ k) bs (both (both h).0).1)
style_same (constant c) bs t h = sym (ap (λ n. replicate n c) (to≡ (both (both h).0).0)) ∙ same_bytes_lem (λ b. b =? c) c (λ b k. to≡ k) bs (both (both h).0).1
style_same (number w lo hi may) bs t h = absurd (false≢true t)
style_same (height w lo hi may) bs t h = absurd (false≢true t)
style_same (angle way) bs t h = absurd (false≢true t)
style_same month bs t h = put-val 6 bs (to≡ (both (both h).0).0) (both (both h).0).1
style_same media bs t h = unfold style_of value_of render on_label in media_back bs (to≡ (both (both h).0).0) (both (both h).0).1
style_same (word w q) bs t h = refl

-- ---- what stands before the digits counts as a zero does
filled-digit : (b : ℕ) → is_digit b ≡ true → filled b ≡ b
unfolding filled is_digit
filled-digit b h = let p = to_within h in rw (of≤ p.0)

filled-low : (b : ℕ) → b < 48 → is_digit (filled b) ≡ true
unfolding filled
filled-low b h = rw (of> h) (unfold is_digit within ◌&◌ ◌≤?◌ in refl)

filled-val : (a : ℕ) (bs : List ℕ) → val a (map filled bs) ≡ val a bs
unfolding val filled
filled-val a [] = refl
filled-val a (b ∷ bs) =
    cases (48 ≤? b)
    (λ e. rw e (filled-val (a * 10 + (b - 48)) bs))
    (λ e. let z : b - 48 ≡ 0 = omega (arith, no≤ e) in rw (e, z) (filled-val (a * 10 + 0) bs))

digits_stay : (bs : List ℕ) → all is_digit bs ≡ true → map filled bs ≡ bs
unfolding all
digits_stay [] h = refl
digits_stay (b ∷ bs) h = ap₂ ◌∷◌ (filled-digit b (both h).0) (digits_stay bs (both h).1)

digits_on_lem : (b : ℕ) (bs : List ℕ) → is_digit b ≡ true → all is_digit bs ≡ true → all is_digit (b ∷ bs) ≡ true
unfolding all
digits_on_lem b bs h k = and h k

digits-behind : (b : ℕ) (bs : List ℕ) → all is_digit (b ∷ bs) ≡ true → all is_digit bs ≡ true
unfolding all
digits-behind b bs h = (both h).1

digit_no_minus : (b : ℕ) (bs : List ℕ) → all is_digit (b ∷ bs) ≡ true → b =? 45 ≡ false
unfolding all is_digit
digit_no_minus b bs h = let p = to_within (both h).0 in of≢ (λ e. absurd (omega arith))

blank-low : (b : ℕ) → is_blank b ≡ true → b < 48
unfolding is_blank
blank-low b h = let e : b ≡ 32 = to≡ h in omega arith

filled-digits : (bs : List ℕ) → height_form bs ≡ true → all is_digit (map filled bs) ≡ true
unfolding height_form
filled-digits [] h = unfold all in refl
filled-digits (b ∷ bs) h =
    cases (is_blank b)
    (λ e. digits_on_lem (filled b) (map filled bs) (filled-low b (blank-low b e)) (filled-digits bs (rw e at h)))
    (λ e.
    cases (b =? 45)
    (λ m.
    let k : 1 ≤? length bs & all is_digit bs ≡ true = rw (e, m) at h in
    digits_on_lem (filled b) (map filled bs) (filled-low b (omega (arith, to≡ m))) (rw (digits_stay bs (both k).1) (both k).1))
    (λ m. let d : all is_digit (b ∷ bs) ≡ true = rw (e, m) at h in rw (digits_stay (b ∷ bs) d) d))

filled_put : (bs : List ℕ) → height_form bs ≡ true → put (length bs) (val 0 bs) ≡ map filled bs
filled_put bs h = ap (put (length bs)) (sym (filled-val 0 bs)) ∙ put-val (length bs) (map filled bs) (length-map bs filled) (filled-digits bs h)

-- ---- numbers: a height without a minus
number_form : (bs : List ℕ) → num_form bs ≡ true → height_form bs ≡ true
unfolding num_form height_form
number_form [] h = refl
number_form (b ∷ bs) h = cases (is_blank b) (λ e. rw e (number_form bs (rw e at h))) (λ e. let d : all is_digit (b ∷ bs) ≡ true = rw e at h in rw (e, digit_no_minus b bs d) d)

pub number_done : (w lo hi : ℕ) (bs : List ℕ) → good (number w lo hi false) bs ≡ true → map filled bs ≡ style_of (number w lo hi false) bs
unfolding good shape width fits style_of value_of render on_number
number_done w lo hi bs h =
    cases (all is_blank bs)
    (λ e. absurd (false≢true (rw e at (both h).1)))
    (λ e. rw (e, ← to≡ (both (both h).0).0) (sym (filled_put bs (number_form bs (both (both h).0).1))))

good_long : (i : Item) (bs : List ℕ) → good i bs ≡ true → length bs ≡ width i
unfolding good
good_long i bs h = to≡ (both (both h).0).0

not_is : (m n : ℕ) → not (eqb m n) ≡ true → m ≡ n → ⊥
not_is m n h e = false≢true (ap not (sym (eq-eqb m n e)) ∙ h)

value_is : (bs : List ℕ) → length bs ≤ 16 → value_in bs ≡ val 0 bs
value_is bs h = rw (of≤ h)

-- ---- the sign of a value
module _ (x : List ℕ) (f g : ℕ → List ℕ) where
  below_zero : (t : Bool) (v : ℕ) → t ≡ true → (v ≡ 0 → ⊥) → on_number [] x f g (num (signed t v)) ≡ g v
  unfolding on_number signed
  below_zero false v e h = absurd (false≢true e)
  below_zero true zero e h = absurd (h refl)
  below_zero true (suc n) e h = refl

  from_zero : (t : Bool) (v : ℕ) → (t && not (eqb v 0)) ≡ false → on_number [] x f g (num (signed t v)) ≡ f v
  unfolding on_number signed
  from_zero false v h = refl
  from_zero true zero h = refl
  from_zero true (suc n) h = absurd (false≢true (sym h ∙ ap not (ne_eqb (suc n) 0 (λ e. absurd (omega arith)))))

-- ---- heights
anew_below : (bs : List ℕ) → (minus bs && not (eqb (value_in bs) 0)) ≡ true → height_anew bs ≡ set (map filled bs) 0 45
unfolding height_anew
anew_below bs t = rw t

anew_from : (bs : List ℕ) → (minus bs && not (eqb (value_in bs) 0)) ≡ false → height_anew bs ≡ map filled bs
unfolding height_anew
anew_from bs t = rw t

-- the minus goes to the first column, where a blank or the minus itself stood
minus-low : (b : ℕ) (ds : List ℕ) → minus (b ∷ ds) ≡ true → b < 48
unfolding minus is_blank
minus-low b ds h = cases (b =? 32) (λ e. omega (arith, to≡ e)) (λ e. omega (arith, to≡ (rw e at h)))

low-val : (b : ℕ) (ds : List ℕ) → b < 48 → val 0 (b ∷ ds) ≡ val 0 ds
unfolding val
low-val b ds h = let z : b - 48 ≡ 0 = omega arith in rw z

minus-laid : (bs : List ℕ) → height_form bs ≡ true → minus bs ≡ true → set (map filled bs) 0 45 ≡ 45 ∷ put (length bs - 1) (val 0 bs)
minus-laid [] f m = absurd (false≢true (unfold minus in m))
minus-laid (b ∷ ds) f m =
    let d : all is_digit (map filled ds) ≡ true = digits-behind (filled b) (map filled ds) (filled-digits (b ∷ ds) f) in
    let v : val 0 (b ∷ ds) ≡ val 0 (map filled ds) = low-val b ds (minus-low b ds m) ∙ sym (filled-val 0 ds) in
    ap (λ l. 45 ∷ l) (sym (ap₂ put (suc_less_one (length ds)) v ∙ put-val (length ds) (map filled ds) (length-map ds filled) d))

module _ (lo hi : ℕ) (may : Bool) (bs : List ℕ) where
  height_is : all is_blank bs ≡ false → style_of (height (length bs) lo hi may) bs ≡ on_number [] (replicate (length bs) 32) (put (length bs)) (λ m. 45 ∷ put (length bs - 1) m) (num (signed (minus bs) (val 0 bs)))
  unfolding style_of value_of render
  height_is n = rw n

  height_anew_lem : length bs ≤ 16 → height_form bs ≡ true → all is_blank bs ≡ false → height_anew bs ≡ style_of (height (length bs) lo hi may) bs
  height_anew_lem few f n =
      let e : value_in bs ≡ val 0 bs = value_is bs few in
      let x : List ℕ = replicate (length bs) 32 in
      cases (minus bs && not (eqb (value_in bs) 0))
      (λ t.
      let m = both_true (minus bs) (not (eqb (value_in bs) 0)) t in
      anew_below bs t ∙ minus-laid bs f m.0
      ∙ sym (height_is n ∙ below_zero x (put (length bs)) (λ k. 45 ∷ put (length bs - 1) k) (minus bs) (val 0 bs) m.0 (λ z. not_is (value_in bs) 0 m.1 (e ∙ z))))
      (λ t.
      anew_from bs t
      ∙ sym (height_is n ∙ from_zero x (put (length bs)) (λ k. 45 ∷ put (length bs - 1) k) (minus bs) (val 0 bs) (ap (λ v. minus bs && not (eqb v 0)) (sym e) ∙ t) ∙ filled_put bs f))

  missed : all is_blank bs ≡ true → style_of (height (length bs) lo hi may) bs ≡ bs
  unfolding style_of value_of render on_number is_blank
  missed h = rw h (same_bytes_lem (λ b. b =? 32) 32 (λ b k. to≡ k) bs h)

-- what begins with a digit or, not being zero, with a minus is written anew as it stands
led_digits : (b : ℕ) (bs : List ℕ) → 48 ≤ b → height_form (b ∷ bs) ≡ true → all is_digit (b ∷ bs) ≡ true
unfolding height_form is_blank
led_digits b bs h k =
    let n : b =? 32 ≡ false = of≢ (λ e. absurd (omega arith)) in
    let m : b =? 45 ≡ false = of≢ (λ e. absurd (omega arith)) in
    rw (n, m) at k

minus-digits : (ds : List ℕ) → height_form (45 ∷ ds) ≡ true → (minus (45 ∷ ds) ≡ true) × (all is_digit ds ≡ true)
unfolding height_form minus is_blank ◌=?◌
minus-digits ds h = (refl, (both h).1)

rise_same : (bs : List ℕ) → height_form bs ≡ true → rise_stands bs ≡ true → height_anew bs ≡ bs
unfolding rise_stands
rise_same [] f h = absurd (false≢true (unfold ◌≤?◌ ◌=?◌ in h))
rise_same (b ∷ ds) f h =
    cases (48 ≤? b)
    (λ t.
    let d : all is_digit (b ∷ ds) ≡ true = led_digits b ds (to≤ t) f in
    anew_from (b ∷ ds) (ap (λ m. m && not (eqb (value_in (b ∷ ds)) 0)) (digits_no_minus (b ∷ ds) d)) ∙ digits_stay (b ∷ ds) d)
    (λ t.
    cases (b =? 45)
    (λ m.
    let e : b ≡ 45 = to≡ m in
    let d = minus-digits ds (rw e at f) in
    let below : minus (b ∷ ds) ≡ true = rw e d.0 in
    anew_below (b ∷ ds) (ap₂ ◌&&◌ below (rw (t, m) at h)) ∙ ap₂ ◌∷◌ (sym e) (digits_stay ds d.1))
    (λ m. absurd (false≢true (rw (t, m) at h))))

module _ (w lo hi : ℕ) (bs : List ℕ) (few : w ≤ 16) where
  pub rise_done : good (height w lo hi false) bs ≡ true → height_style false bs ≡ style_of (height w lo hi false) bs
  unfolding settled good width shape fits value_of on_number
  rise_done g =
      let e : length bs ≡ w = to≡ (both (both g).0).0 in
      let f : height_form bs ≡ true = (both (both g).0).1 in
      cases (all is_blank bs)
      (λ s. absurd (false≢true (rw s at (both g).1)))
      (λ s.
      let anew : height_anew bs ≡ style_of (height (length bs) lo hi false) bs = height_anew_lem lo hi false bs (omega arith) f s in
      rw (← e) (cases (rise_stands bs) (λ t. rw t (sym (rise_same bs f t) ∙ anew)) (λ t. rw t anew)))

  pub metres_done : good (height w lo hi true) bs ≡ true → height_style true bs ≡ style_of (height w lo hi true) bs
  unfolding settled metres_stands good width shape
  metres_done g =
      let e : length bs ≡ w = to≡ (both (both g).0).0 in
      let f : height_form bs ≡ true = (both (both g).0).1 in
      rw (← e)
      (cases (all is_blank bs)
      (λ s. cases (rise_stands bs) (λ t. rw t (sym (missed lo hi true bs s))) (λ t. rw (t, s) (sym (missed lo hi true bs s))))
      (λ s.
      let anew : height_anew bs ≡ style_of (height (length bs) lo hi true) bs = height_anew_lem lo hi true bs (omega arith) f s in
      cases (rise_stands bs) (λ t. rw t (sym (rise_same bs f t) ∙ anew)) (λ t. rw (t, s) anew)))

-- ---- angles
dms-parts : (d q t : ℕ) → q ≤ 59 → t ≤ 5_999_999 → dms (d * 360_000_000 + q * 6_000_000 + t) ≡ d * 1_000_000_000 + q * 10_000_000 + t
unfolding dms
dms-parts d q t a b =
    let x : (d * 360_000_000 + q * 6_000_000 + t) / 360_000_000 ≡ d = omega arith in
    let y : (d * 360_000_000 + q * 6_000_000 + t) % 360_000_000 ≡ q * 6_000_000 + t = omega arith in
    let z : (q * 6_000_000 + t) / 6_000_000 ≡ q = omega arith in
    let u : (q * 6_000_000 + t) % 6_000_000 ≡ t = omega arith in
    rw (x, y, z, u)

parts_back : (v : ℕ) → v / 1_000_000_000 * 1_000_000_000 + v / 10_000_000 % 100 * 10_000_000 + v % 10_000_000 ≡ v
parts_back v = omega arith

dms_back : (v : ℕ) → dms_form v ≡ true → dms (angle_of v) ≡ v
unfolding dms_form angle_of
dms_back v h = dms-parts (v / 1_000_000_000) (v / 10_000_000 % 100) (v % 10_000_000) (to≤ (both h).0) (to≤ (both h).1) ∙ parts_back v

not-minus : (way : Way) (l : ℕ) → l ≡ plus way → (l =? minus_of way) ≡ false
unfolding plus minus_of ◌=?◌
not-minus latitude l e = rw e
not-minus longitude l e = rw e

-- ---- the digits and the letter of a good angle
module _ (way : Way) (bs : List ℕ) (g : good (angle way) bs ≡ true) where
  formed-digits : dms_form (val 0 (take (columns way) bs)) ≡ true
  unfolding good shape
  formed-digits = (both (both (both (both g).0).1).0).1

  digits_back : put (columns way) (dms (angle_of (val 0 (take (columns way) bs)))) ≡ take (columns way) bs
  unfolding good shape width
  digits_back =
      let c = columns way in
      let long : length bs ≡ suc c = to≡ (both (both g).0).0 in
      let few : length (take c bs) ≡ c = length-take-le c bs (omega arith) in
      ap (put c) (dms_back (val 0 (take c bs)) formed-digits) ∙ put-val c (take c bs) few (both (both (both (both g).0).1).0).0

  -- the line's own letter, or the other
  letter_back : (letter : ℕ) → get_or bs (columns way) 0 ≡ letter → put (columns way) (dms (angle_of (val 0 (take (columns way) bs)))) ++ letter ∷ [] ≡ bs
  letter_back letter e =
      let c = columns way in
      let long : length bs ≡ suc c = unfold width in good_long (angle way) bs g in
      let last : drop c bs ≡ get_or bs c 0 ∷ drop (suc c) bs = drop-cons bs c 0 (omega arith) in
      let whole : length bs ≤ suc c = omega arith in
      let none : drop (suc c) bs ≡ [] = drop_of_length-le bs whole in
      ap (λ l. l ++ letter ∷ []) digits_back ∙ ap (λ l. take c bs ++ l) (sym (last ∙ ap₂ ◌∷◌ e none)) ∙ take-append-drop c bs

  letter-set : (letter : ℕ) → set bs (columns way) letter ≡ put (columns way) (dms (angle_of (val 0 (take (columns way) bs)))) ++ letter ∷ []
  letter-set letter =
      let c = columns way in
      let long : length bs ≡ suc c = unfold width in good_long (angle way) bs g in
      let whole : length (set bs c letter) ≤ suc c = simp length-set (omega arith) in
      sym (take_all (suc c) (set bs c letter) whole) ∙ take-suc-set bs c letter (omega arith) ∙ ap (λ l. l ++ letter ∷ []) (sym digits_back)

  minus-letter : (get_or bs (columns way) 0 =? plus way) ≡ false → get_or bs (columns way) 0 ≡ minus_of way
  unfolding good shape
  minus-letter n = to≡ (rw n at (both (both (both g).0).1).1)

and_false : (a : Bool) → (a & false) ≡ false
unfolding ◌&◌
and_false true = refl
and_false false = refl

-- ---- north and east, and what is never south or west
plus-laid : (way : Way) (bs : List ℕ) → angle_value way (angle_of (val 0 (take (columns way) bs))) (get_or bs (columns way) 0) ≡ pos (angle_of (val 0 (take (columns way) bs)))
    → style_of (angle way) bs ≡ put (columns way) (dms (angle_of (val 0 (take (columns way) bs)))) ++ plus way ∷ []
unfolding style_of value_of render on_number
plus-laid way bs e = rw e

plus_value : (way : Way) (m l : ℕ) → l ≡ plus way → angle_value way m l ≡ pos m
unfolding angle_value signed ◌&◌
plus_value way m l e = rw (not-minus way l e)

zero_value : (way : Way) (l : ℕ) → angle_value way (angle_of 0) l ≡ pos (angle_of 0)
unfolding angle_value signed angle_of
zero_value way l = cases (l =? minus_of way & 0 ≤? low way) (λ t. rw t) (λ t. rw t)

half_value : (way : Way) (l : ℕ) → angle_value way (angle_of 180_000_000_000) l ≡ pos (angle_of 180_000_000_000)
unfolding angle_value signed angle_of low ◌≤?◌
half_value latitude l = rw (and_false (l =? minus_of latitude))
half_value longitude l = rw (and_false (l =? minus_of longitude))

-- south and west
south_west : (way : Way) (bs : List ℕ) (m : ℕ) → get_or bs (columns way) 0 ≡ minus_of way → m ≡ angle_of (val 0 (take (columns way) bs)) → m ≤? low way ≡ true → (m ≡ 0 → ⊥)
    → style_of (angle way) bs ≡ put (columns way) (dms m) ++ minus_of way ∷ []
unfolding style_of value_of render angle_value
south_west way bs m e q t n =
    let z : (get_or bs (columns way) 0 =? minus_of way & m ≤? low way) ≡ true = and (of≡ e) t in
    rw (← q) (below_zero [] (λ k. put (columns way) (dms k) ++ plus way ∷ []) (λ k. put (columns way) (dms k) ++ minus_of way ∷ []) (get_or bs (columns way) 0 =? minus_of way & m ≤? low way) m z n)

half : (v : ℕ) → dms_form v ≡ true → angle_of v ≡ 64_800_000_000 → v ≡ 180_000_000_000
unfolding dms
half v f e = sym (dms_back v f) ∙ ap dms e

no_parts : (x y z : ℕ) → x * 360_000_000 + y * 6_000_000 + z ≡ 0 → (x ≡ 0) × (y ≡ 0) × (z ≡ 0)
no_parts x y z e = (omega arith, omega arith, omega arith)

nought : (v : ℕ) → angle_of v ≡ 0 → v ≡ 0
unfolding angle_of
nought v e =
    let k = no_parts (v / 1_000_000_000) (v / 10_000_000 % 100) (v % 10_000_000) e in
    sym (parts_back v) ∙ rw (k.0, k.1, k.2)

no_sign : (l c : ℕ) (b : Bool) → b ≡ false → (l =? c & b) ≡ false
no_sign l c b e = rw e (and_false (l =? c))

-- what is not 180 degrees keeps its sign
side : (way : Way) (v l : ℕ) → dms_form v ≡ true → fits (angle way) (num (angle_value way (angle_of v) l)) ≡ true → (v ≡ 180_000_000_000 → ⊥) → angle_of v ≤? low way ≡ true
unfolding fits on_number angle_value signed low top minus_of
side latitude v l f h n =
    cases (angle_of v ≤? 32_400_000_000) (λ t. t)
    (λ t. let k : angle_of v ≤? 32_400_000_000 ≡ true = rw (no_sign l 83 (angle_of v ≤? 32_400_000_000) t) at h in k)
side longitude v l f h n =
    cases (angle_of v ≤? 64_799_999_999) (λ t. t)
    (λ t.
    let k : angle_of v ≤ 64_800_000_000 = to≤ (rw (no_sign l 87 (angle_of v ≤? 64_799_999_999) t) at h) in
    absurd (n (half v f (omega (arith, no≤ t)))))

few_columns : (way : Way) → columns way ≤ 16
unfolding columns
few_columns latitude = lit≤ tt
few_columns longitude = lit≤ tt

angle-fits : (way : Way) (bs : List ℕ) → good (angle way) bs ≡ true → fits (angle way) (num (angle_value way (angle_of (val 0 (take (columns way) bs))) (get_or bs (columns way) 0))) ≡ true
unfolding value_of
angle-fits way bs g = good-fits (angle way) bs g

module _ (way : Way) (bs : List ℕ) (g : good (angle way) bs ≡ true) where
  digits_value : value_in (take (columns way) bs) ≡ val 0 (take (columns way) bs)
  digits_value = value_is (take (columns way) bs) (omega (arith, few_columns way, length-take_most (columns way) bs))

  side_stands : get_or bs (columns way) 0 ≡ minus_of way → sided (take (columns way) bs) ≡ true → style_of (angle way) bs ≡ bs
  unfolding sided
  side_stands e s =
      let ds = take (columns way) bs in
      let v = val 0 ds in
      let form : dms_form v ≡ true = formed-digits way bs g in
      let t = both_true (not (eqb (value_in ds) 0)) (not (eqb (value_in ds) 180_000_000_000)) s in
      let le : angle_of v ≤? low way ≡ true = side way v (get_or bs (columns way) 0) form (angle-fits way bs g) (λ z. not_is (value_in ds) 180_000_000_000 t.1 (digits_value ∙ z)) in
      south_west way bs (angle_of v) e refl le (λ z. not_is (value_in ds) 0 t.0 (digits_value ∙ nought v z)) ∙ letter_back way bs g (minus_of way) e

  no_side : sided (take (columns way) bs) ≡ false → angle_value way (angle_of (val 0 (take (columns way) bs))) (get_or bs (columns way) 0) ≡ pos (angle_of (val 0 (take (columns way) bs)))
  unfolding sided
  no_side s =
      let ds = take (columns way) bs in
      cases (eqb (value_in ds) 0)
      (λ z. let e : val 0 ds ≡ 0 = sym digits_value ∙ eqb-true (value_in ds) 0 z in rw e (zero_value way (get_or bs (columns way) 0)))
      (λ z.
      cases (eqb (value_in ds) 180_000_000_000)
      (λ y. let e : val 0 ds ≡ 180_000_000_000 = sym digits_value ∙ eqb-true (value_in ds) 180_000_000_000 y in rw e (half_value way (get_or bs (columns way) 0)))
      (λ y. absurd (false≢true (sym (rw (z, y) at s)))))

  pub angle_done : angle_style (columns way) (plus way) bs ≡ style_of (angle way) bs
  unfolding settled angle_stands
  angle_done =
      cases (get_or bs (columns way) 0 =? plus way)
      (λ t. rw t (sym (plus-laid way bs (plus_value way _ _ (to≡ t)) ∙ letter_back way bs g (plus way) (to≡ t))))
      (λ t.
      cases (sided (take (columns way) bs))
      (λ s. rw (t, s) (sym (side_stands (minus-letter way bs g t) s)))
      (λ s. rw (t, s) (letter-set way bs g (plus way) ∙ sym (plus-laid way bs (no_side s)))))

-- ---- what is written anew keeps its width
pub height_same : (bs : List ℕ) → length (height_anew bs) ≡ length bs
unfolding height_anew
height_same bs = cases (minus bs && not (eqb (value_in bs) 0)) (λ t. rw t (simp length-set (length-map bs filled))) (λ t. rw t (length-map bs filled))
