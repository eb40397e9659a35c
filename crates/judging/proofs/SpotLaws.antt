-- Where a bad field is refused: one law for each way through the functions.
use mathlib.Core.Path.{◌≡◌, refl, sym, ◌∙◌, ap, ap₂}
use mathlib.Core.Bool.{Bool, true, false, cond}
use mathlib.Core.List.{List, ◌∷◌, ◌++◌}
use Prim.Native.Nat.{ℕ, zero, suc, ◌+◌, ◌-◌, ◌≤◌, ◌<◌}
use native.Mathlib.Omega.{arith}
use lib.ListN.{length, take, drop, replicate, length-drop, length-append}
use lib.Seq.{length-take-le, take_at, take-add, drop_at, take-append-add}
use lib.IntN.{pos}
use Rattle.rules.specs.Tests.{all, within, ◌&◌, ◌≤?◌, ◌=?◌}
use Rattle.rules.specs.Characters.{one_of, member, is_letter, is_digit, is_printable}
use Rattle.rules.specs.Digits.{put}
use Rattle.rules.specs.Items.{Item, num, constant, number, height, angle, month, media, set_in, on_gap, on_number, on_text, on_label, top, width, good, fits, render, least, ends, goes_on, begins, first_bad, spot, is_month, is_media}
use Rattle.rules.proofs.BeginningLaws.{least-sized}
use Rattle.rules.proofs.Truth.{both, to≤, of≤, to≡, of≡, true_and}
use Rattle.columns.specs.declared.Set.{Set}
use Rattle.columns.specs.declared.Way.{Way}
use Rattle.columns.specs.Types.{set_of, way_of, media_value, four_of}
use Rattle.columns.specs.Leaves.{written}
use Rattle.judging.specs.declared.spots.FieldKind.{FieldKind}
use Rattle.judging.specs.declared.spots.FieldKind.TheVariants as K
use Rattle.judging.specs.Judging.{item_as, spans, sized}

-- ---- so many columns hold a field
module _ (i : Item) (w : ℕ) (h : spans i w ≡ true) where
  pub spans-width : width i ≡ w
  unfolding spans
  spans-width = to≡ (both (both h).0).0

  pub spans_80 : w ≤ 80
  unfolding spans
  spans_80 = to≤ (both (both h).0).1

  pub spans_sized : sized i ≡ true
  unfolding spans
  spans_sized = (both h).1

-- ---- of its kind and range
pub sized-number : (w lo hi : ℕ) (may : Bool) → sized (number w lo hi may) ≡ w ≤? 16
unfolding sized
sized-number w lo hi may = refl

pub sized-height : (w lo hi : ℕ) (may : Bool) → sized (height w lo hi may) ≡ w ≤? 16
unfolding sized
sized-height w lo hi may = refl

pub good_narrow : (k : FieldKind) (bs : List ℕ) {kind : FieldKind} {r : Bool} → sized (item_as k (length bs)) ≡ length bs ≤? 16 → kind ≡ k → spans (item_as kind (length bs)) (length bs) ≡ true
    → r ≡ length bs ≤? 16 & good (item_as k (length bs)) bs → r ≡ good (item_as kind (length bs)) bs
good_narrow k bs s e h z =
    let few : length bs ≤? 16 ≡ true = sym s ∙ spans_sized (item_as k (length bs)) (length bs) (rw e at h) in
    rw e (z ∙ ap (λ t. t & good (item_as k (length bs)) bs) few ∙ true_and (good (item_as k (length bs)) bs))

pub media_long : (bs : List ℕ) {kind : FieldKind} → kind ≡ K.Media → spans (item_as kind (length bs)) (length bs) ≡ true → length bs ≡ 10
unfolding width
media_long bs e h = sym (spans-width media (length bs) (rw e at h))

-- ---- a character of a set
abbrev pub one_in : Set → ℕ
one_in Set.Letter = 65
one_in Set.LetterOrSpace = 65
one_in Set.LetterOrDigit = 65
one_in Set.LetterOrDigitOrSpace = 65
one_in Set.Digit = 48
one_in Set.Printable = 65
one_in Set.Title = 65
one_in Set.Name = 65
one_in Set.YesNo = 89
one_in Set.YesNoOrSpace = 89

pub one_in_lem : {s t : Set} → s ≡ t → one_in t ≡ one_of (set_of s)
one_in_lem {s} {t} e = rw e (by t)
  where
    by : (u : Set) → one_in u ≡ one_of (set_of u)
    by Set.Letter = unfold one_of set_of in refl
    by Set.LetterOrSpace = unfold one_of set_of member is_letter within ◌≤?◌ ◌&◌ in refl
    by Set.LetterOrDigit = unfold one_of set_of member is_letter within ◌≤?◌ ◌&◌ in refl
    by Set.LetterOrDigitOrSpace = unfold one_of set_of member is_letter within ◌≤?◌ ◌&◌ in refl
    by Set.Digit = unfold one_of set_of in refl
    by Set.Printable = unfold one_of set_of in refl
    by Set.Title = unfold one_of set_of in refl
    by Set.Name = unfold one_of set_of in refl
    by Set.YesNo = unfold one_of set_of member is_printable within ◌≤?◌ ◌=?◌ ◌&◌ in refl
    by Set.YesNoOrSpace = unfold one_of set_of member is_printable within ◌≤?◌ ◌=?◌ ◌&◌ in refl

-- ---- the least value
abbrev Least : FieldKind → ℕ → List ℕ → Type 0
Least kind n out = out ≡ render (item_as kind n) (least (item_as kind n))

-- a value that fits its columns is written in them
least-written : (i : Item) (n : ℕ) {out : List ℕ} (old : List ℕ) → spans i n ≡ true → length old ≡ n → fits i (least i) ≡ true → out ≡ written i (least i) old → out ≡ render i (least i)
unfolding written ◌&◌
least-written i n old h s f z = z ∙ rw (of≡ (s ∙ sym (spans-width i n h)), f)

module _ (n : ℕ) {kind : FieldKind} {out : List ℕ} where
  pub least-blank : kind ≡ K.Blank → out ≡ replicate n 32 → Least kind n out
  unfolding render least on_gap
  least-blank e z = rw e z

  pub least-constant : (b : ℕ) → kind ≡ K.Constant b → spans (item_as kind n) n ≡ true → out ≡ replicate n b → Least kind n out
  unfolding render least on_gap width
  least-constant b e h z = rw e (z ∙ ap (λ k. replicate k b) (sym (spans-width (constant b) n (rw e at h))))

  pub least-angle : (way : Way) (old : List ℕ) → kind ≡ K.Angle way → spans (item_as kind n) n ≡ true → length old ≡ n → out ≡ written (angle (way_of way)) (num (pos 0)) old → Least kind n out
  least-angle way old e h s z = rw e (least-written (angle (way_of way)) n old (rw e at h) s (unfold fits least on_number in of≤ {m = 0} {n = top (way_of way)} (omega arith)) (unfold least in z))

  pub least-month : (old : List ℕ) → kind ≡ K.Month → spans (item_as kind n) n ≡ true → length old ≡ n → out ≡ written month (num (pos 101)) old → Least kind n out
  least-month old e h s z = rw e (least-written month n old (rw e at h) s (unfold fits least on_number is_month within ◌≤?◌ ◌&◌ in refl) (unfold least in z))

  pub least-media : (old : List ℕ) → kind ≡ K.Media → spans (item_as kind n) n ≡ true → length old ≡ n
      → out ≡ written media (media_value record { maker = 65; day = 1; year = 0; session = 48; mark = record { 0 = 32; 1 = 32; 2 = 32; 3 = 32 } }) old → Least kind n out
  least-media old e h s z = rw e (least-written media n old (rw e at h) s (unfold fits least on_label is_media is_letter is_printable is_digit member all within ◌≤?◌ ◌=?◌ ◌&◌ in refl) (unfold least media_value four_of in z))

  pub least-number : (lo hi : ℕ) (may : Bool) → kind ≡ K.Number lo hi may → (v : ℕ) → v ≡ lo → out ≡ put n v → Least kind n out
  unfolding render least on_number
  least-number lo hi may e v k z = rw e (z ∙ ap (put n) k)

  pub least-height : (lo hi : ℕ) (may : Bool) → kind ≡ K.Height lo hi may → out ≡ put n 0 → Least kind n out
  unfolding render least on_number
  least-height lo hi may e z = rw e z

  pub least-word : (s : Set) → kind ≡ K.Word s → (b : ℕ) → b ≡ one_of (set_of s) → out ≡ replicate n b → Least kind n out
  unfolding render least on_text set_in
  least-word s e b k z = rw e (z ∙ ap (replicate n) k)

  pub least-or-blank : (s : Set) → kind ≡ K.WordOrBlank s → (b : ℕ) → b ≡ one_of (set_of s) → out ≡ replicate n b → Least kind n out
  unfolding render least on_text set_in
  least-or-blank s e b k z = rw e (z ∙ ap (replicate n) k)

-- ---- a beginning with an end behind it, as it is laid
module _ (part end text : List ℕ) (k : ℕ) (few : k ≤ length part) (long : length part ≤ length end)
    (e : text ≡ cond (length (take (k - 0) part) =? length (take (k - 0) end)) (take (k - 0) part) (take (k - 0) end)) where
  none_off : (m : ℕ) → m - 0 ≡ m
  none_off m = omega arith

  laid : text ≡ take k part
  laid = e ∙ rw (none_off k, of≡ (length-take-le k part few ∙ sym (length-take-le k end (omega arith))))

  -- the rest of a beginning of a list
  rest_of : (n : ℕ) → k ≤ n → drop k (take n end) ≡ take (n - k) (drop k end)
  rest_of n h =
      let up : n ≡ k + (n - k) = omega arith in
      ap (λ m. drop k (take m end)) up ∙ ap (drop k) (take-add k (n - k) end) ∙ drop_at (take k end) (take (n - k) (drop k end)) k (length-take-le k end (omega arith))

  pub trial_is : take (length part - 0) (text ++ drop (k - 0) end) ≡ take k part ++ drop k (take (length part) end)
  trial_is =
      let n = length part in
      let up : n ≡ length (take k part) + (n - k) = omega (arith, length-take-le k part few) in
      ap₂ (λ m j. take m (text ++ drop j end)) (none_off n) (none_off k)
      ∙ ap (λ (x : List ℕ). take n (x ++ drop k end)) laid
      ∙ ap (λ m. take m (take k part ++ drop k end)) up
      ∙ take-append-add (take k part) (drop k end) (n - k)
      ∙ ap (λ (x : List ℕ). take k part ++ x) (sym (rest_of n few))

  pub trial_room : length (text ++ drop (k - 0) end) ≡ length end
  trial_room = length-append text (drop (k - 0) end) ∙ omega (arith, ap length laid, length-take-le k part few, length-drop (k - 0) end)

  pub trial_long : length (take (length part - 0) (text ++ drop (k - 0) end)) ≡ length part
  trial_long =
      ap length trial_is ∙ length-append (take k part) (drop k (take (length part) end))
      ∙ omega (arith, length-take-le k part few, length-drop k (take (length part) end), length-take-le (length part) end long)

  module _ (kind : FieldKind) (h : spans (item_as kind (length part)) (length part) ≡ true) where
    pub trial_spans : spans (item_as kind (length (take (length part - 0) (text ++ drop (k - 0) end)))) (length (take (length part - 0) (text ++ drop (k - 0) end))) ≡ true
    trial_spans = ap (λ n. spans (item_as kind n) n) trial_long ∙ h

    pub trial_good : {r : Bool} → r ≡ good (item_as kind (length (take (length part - 0) (text ++ drop (k - 0) end)))) (take (length part - 0) (text ++ drop (k - 0) end))
        → r ≡ good (item_as kind (length part)) (take k part ++ drop k (take (length part) end))
    trial_good z = z ∙ ap₂ (λ n (x : List ℕ). good (item_as kind n) x) trial_long trial_is

-- ---- whether it begins a good field
same_in : (n m b : ℕ) → n ≤ m → take n (replicate m b) ≡ replicate n b
same_in zero m b h = refl
same_in (suc n) zero b h = absurd (omega arith)
same_in (suc n) (suc m) b h = ap (λ (x : List ℕ). b ∷ x) (same_in n m b (omega arith))

module _ (kind : FieldKind) (part low : List ℕ) (k : ℕ) (few : k ≤ length part) (h : spans (item_as kind (length part)) (length part) ≡ true)
    (least-in : take (length part) low ≡ render (item_as kind (length part)) (least (item_as kind (length part)))) where
  abbrev this : Item
  this = item_as kind (length part)

  -- the ends as the code has them
  tried : (end other : List ℕ) → take (length part) end ≡ other → {r : Bool} → r ≡ good this (take k part ++ drop k (take (length part) end)) → good this (take k part ++ drop (length (take k part)) other) ≡ r
  tried end other e z = sym (z ∙ ap₂ (λ j (x : List ℕ). good this (take k part ++ drop j x)) (sym (length-take-le k part few)) e)

  module _ {r : Bool} (z : r ≡ good this (take k part ++ drop k (take (length part) low))) where
    first_end : good this (take k part ++ drop (length (take k part)) (render this (least this))) ≡ r
    first_end = tried low _ least-in z

    pub begin_least : r ≡ true → true ≡ begins this (take k part)
    unfolding begins ends goes_on
    begin_least t = sym (rw (first_end ∙ t))

    module _ (f : r ≡ false) {u : Bool} (y : u ≡ good this (take k part ++ drop k (take (length part) (replicate 80 48)))) where
      second_end : good this (take k part ++ drop (length (take k part)) (replicate (width this) 48)) ≡ u
      second_end = tried (replicate 80 48) _ (same_in (length part) 80 48 (spans_80 this (length part) h) ∙ ap (λ n. replicate n 48) (sym (spans-width this (length part) h))) y

      pub begin_zeros : u ≡ true → true ≡ begins this (take k part)
      unfolding begins ends goes_on
      begin_zeros t = sym (rw (first_end ∙ f, second_end ∙ t))

      pub begin_blanks : u ≡ false → {v : Bool} → v ≡ good this (take k part ++ drop k (take (length part) (replicate 80 32))) → v ≡ begins this (take k part)
      unfolding begins ends goes_on
      begin_blanks t {v} x =
          let third : good this (take k part ++ drop (length (take k part)) (replicate (width this) 32)) ≡ v
          = tried (replicate 80 32) _ (same_in (length part) 80 32 (spans_80 this (length part) h) ∙ ap (λ n. replicate n 32) (sym (spans-width this (length part) h))) x in
          sym (rw (first_end ∙ f, second_end ∙ t, third) (by v))
        where
          by : (b : Bool) → cond b true false ≡ b
          by true = refl
          by false = refl

-- ---- the least value in the first columns of a line
module _ (kind : FieldKind) (part blanks : List ℕ) (h : spans (item_as kind (length part)) (length part) ≡ true) (room : length part ≤ length blanks) where
  abbrev cut_in : List ℕ
  cut_in = take (length part - 0) blanks

  cut_long : length cut_in ≡ length part
  cut_long = let e : length part - 0 ≡ length part = omega arith in ap (λ n. length (take n blanks)) e ∙ length-take-le (length part) blanks room

  pub least-spans : spans (item_as kind (length cut_in)) (length cut_in) ≡ true
  least-spans = ap (λ n. spans (item_as kind n) n) cut_long ∙ h

  pub least-laid : (out : List ℕ) → out ≡ render (item_as kind (length cut_in)) (least (item_as kind (length cut_in)))
      → take (length part) (out ++ drop (length part - 0) blanks) ≡ render (item_as kind (length part)) (least (item_as kind (length part)))
  least-laid out z =
      let e : out ≡ render (item_as kind (length part)) (least (item_as kind (length part))) = z ∙ ap (λ n. render (item_as kind n) (least (item_as kind n))) cut_long in
      take_at out (drop (length part - 0) blanks) (length part) (ap length e ∙ least-sized (item_as kind (length part)) ∙ spans-width (item_as kind (length part)) (length part) h) ∙ e

-- ---- the first column that begins none
abbrev pub left : Item → List ℕ → ℕ → ℕ
left i bs k = first_bad i bs (length bs - 1 - k) k

module _ (i : Item) (bs : List ℕ) (h : spans i (length bs) ≡ true) where
  pub bad_from : left i bs 0 ≡ spot i bs
  unfolding spot
  bad_from = let e : length bs - 1 - 0 ≡ width i - 1 = omega (arith, spans-width i (length bs) h) in ap (λ n. first_bad i bs n 0) e

  module _ (k : ℕ) (more : k + 1 < length bs) {r : Bool} (z : r ≡ begins i (take (k + 1) bs)) where
    one_more : left i bs k ≡ cond r (left i bs (k + 1)) k
    unfolding first_bad
    one_more =
        let e : length bs - 1 - k ≡ suc (length bs - 1 - (k + 1)) = omega arith in
        ap (λ n. first_bad i bs n k) e ∙ ap (λ t. cond t (left i bs (k + 1)) k) (sym z)

    pub bad_here : r ≡ false → left i bs k ≡ spot i bs → k ≡ spot i bs
    bad_here t e = sym (one_more ∙ rw t) ∙ e

    pub bad_later : r ≡ true → left i bs k ≡ spot i bs → left i bs (k + 1) ≡ spot i bs
    bad_later t e = sym (one_more ∙ rw t) ∙ e

  pub bad_last : (k : ℕ) → length bs ≤ k + 1 → left i bs k ≡ spot i bs → k ≡ spot i bs
  unfolding first_bad
  bad_last k l e = let z : length bs - 1 - k ≡ 0 = omega arith in sym (ap (λ n. first_bad i bs n k) z) ∙ e
