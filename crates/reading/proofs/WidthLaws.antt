-- The width of the field that starts at a column: the look-up by rows, and where such a field lies.
use mathlib.Core.Path.{◌≡◌, refl, sym, ◌∙◌, ap}
use mathlib.Core.Bool.{Bool, true, false, cond, false≢true}
use mathlib.Core.List.{List, [], ◌∷◌}
use Prim.Native.Nat.{ℕ, ◌+◌, ◌≤◌, ◌<◌}
use native.Mathlib.Omega.{arith}
use lib.ListN.{get_or}
use lib.Seq.{slice, slice_empty}
use Rattle.rules.specs.Tests.{all, ◌&◌, ◌≤?◌, ◌=?◌}
use Rattle.rules.specs.Items.{Item, blank, constant, number, height, angle, month, media, word, latitude, longitude, columns, width, parts}
use Rattle.rules.specs.Fields.{Field, covers}
use Rattle.rules.specs.Layouts.{at, station, state, any_text, kept, point, layouts}
use Rattle.rules.specs.Calls.{part_width, field_width}
use Rattle.rules.proofs.Truth.{both, to≤, to≡, of≡, no≡, of≢, cases, above_0}
use Rattle.rules.proofs.FieldLaws.{covers_end}
use Rattle.kinds.specs.declared.Kind.{Kind}
use Rattle.kinds.specs.declared.Kind.TheVariants as K
use Rattle.kinds.specs.Values.{kind_index}
use Rattle.kinds.specs.Tables.{row_lists, rows, starts, firsts, widths}
use Rattle.kinds.proofs.KindLaws.{index_small, other_index}
use Rattle.kinds.proofs.TableLaws.{each_kind, begins, first_is, width_is, rows_from}
use Rattle.reading.specs.Widths.{row_width, plain_width}

-- ---- fields of one part
is_angle : Item → Bool
is_angle (blank w) = false
is_angle (constant c) = false
is_angle (number w lo hi may) = false
is_angle (height w lo hi may) = false
is_angle (angle way) = true
is_angle month = false
is_angle media = false
is_angle (word w t) = false

one_part : (i : Item) → is_angle i ≡ false → parts i ≡ width i ∷ []
unfolding is_angle parts width
one_part (blank w) e = refl
one_part (constant c) e = refl
one_part (number w lo hi may) e = refl
one_part (height w lo hi may) e = refl
one_part (angle way) e = absurd (false≢true (sym e))
one_part month e = refl
one_part media e = refl
one_part (word w t) e = refl

unfoldable plain : Field → Bool
plain f = cond (is_angle f.item) false (1 ≤? width f.item)

unfoldable width_from : ℕ → List Field → ℕ
width_from c [] = 0
width_from c (f ∷ fs) = cond (c =? f.from) (width f.item) (width_from c fs)

not-zero : (w : ℕ) → 1 ≤? w ≡ true → w =? 0 ≡ false
not-zero w h = of≢ (λ e. omega (arith, to≤ h, e))

zero_is : 0 =? 0 ≡ true
unfolding ◌=?◌
zero_is = refl

plain_cons : (c : ℕ) (f : Field) (fs : List Field) → plain f ≡ true → field_width c (f ∷ fs) ≡ cond (c =? f.from) (width f.item) (field_width c fs)
unfolding plain field_width part_width
plain_cons c f fs h =
    cases (is_angle f.item)
    (λ e. absurd (false≢true (rw e at h)))
    (λ e.
    let wide : 1 ≤? width f.item ≡ true = rw e at h in
    rw (one_part f.item e) (cases (c =? f.from) (λ z. rw (z, not-zero (width f.item) wide)) (λ z. rw (z, zero_is))))

plain_is : (c : ℕ) (fs : List Field) → all plain fs ≡ true → field_width c fs ≡ width_from c fs
unfolding all width_from
plain_is c [] h = unfold field_width in refl
plain_is c (f ∷ fs) h = plain_cons c f fs (both h).0 ∙ ap (cond (c =? f.from) (width f.item)) (plain_is c fs (both h).1)

-- every kind but the control point's has such fields only
abbrev Plain : ℕ → Type 0
Plain k = (k ≡ 9 → ⊥) → all plain (get_or layouts k kept) ≡ true

all_plain : (k : ℕ) → k < 14 → Plain k
unfolding all plain is_angle width columns layouts ◌≤?◌ ◌&◌
all_plain = each_kind Plain (λ n. refl) (λ n. refl) (λ n. refl) (λ n. refl) (λ n. refl) (λ n. refl) (λ n. refl) (λ n. refl) (λ n. refl) (λ n. absurd (n refl)) (λ n. refl) (λ n. refl) (λ n. refl) (λ n. refl)

abbrev ByRow : ℕ → ℕ → Type 0
ByRow c k = row_width c (get_or row_lists k []) ≡ width_from c (get_or layouts k kept)

by_row : (c k : ℕ) → k < 14 → ByRow c k
unfolding row_width width_from width columns layouts
by_row c = each_kind (ByRow c) refl refl refl refl refl refl refl refl refl refl refl refl refl refl

pub width_by_row : (k : Kind) (c : ℕ) → (k ≡ K.Point → ⊥) → (r : ℕ) → r ≡ row_width c (get_or row_lists (kind_index k) []) → r ≡ field_width c (get_or layouts (kind_index k) kept)
width_by_row k c n r z =
    let h = index_small k in
    let other : kind_index k ≡ 9 → ⊥ = λ e. other_index k K.Point n (e ∙ (unfold kind_index in refl)) in
    z ∙ by_row c (kind_index k) h ∙ sym (plain_is c (get_or layouts (kind_index k) kept) (all_plain (kind_index k) h other))

pub width_of_point : (k : Kind) (c : ℕ) → k ≡ K.Point → (r : ℕ) → r ≡ field_width c point → r ≡ field_width c (get_or layouts (kind_index k) kept)
unfolding layouts kind_index
width_of_point k c e r z = rw e z

-- ---- the loop over a kind's rows
pub record Sought (c kind end i : ℕ) : Type 0 where
  pub low : i ≤ end
  pub high : end ≤ 87
  pub same : row_width c (slice i end rows) ≡ row_width c (get_or row_lists kind [])

pub seek_from : (c : ℕ) (k : Kind) (end : ℕ) → end ≡ get_or starts (kind_index k + 1) 0 → (i : ℕ) → i ≡ get_or starts (kind_index k) 0 → Sought c (kind_index k) end i
seek_from c k end p i q =
    let b = begins (kind_index k) (index_small k) in
    rw (p, q) record { low = b.low; high = b.high; same = ap (row_width c) b.whole }

module _ {c kind end i : ℕ} (v : Sought c kind end i) (h : i < end) where
  pub below : i < 87
  below = omega (arith, v.high)

  step : row_width c (slice i end rows) ≡ cond (c =? get_or firsts i 0) (get_or widths i 0) (row_width c (slice (i + 1) end rows))
  unfolding row_width
  step = ap (row_width c) (rows_from i end h v.high) ∙ rw (first_is i, width_is i)

  module _ (f : ℕ) (p : f ≡ get_or firsts i 0) (g : ℕ) (q : g ≡ f) where
    pub seek_found : c ≡ g → (w : ℕ) → w ≡ get_or widths i 0 → (r : ℕ) → r ≡ w → r ≡ row_width c (get_or row_lists kind [])
    seek_found e w z r u = u ∙ z ∙ sym (sym v.same ∙ step ∙ rw (of≡ {m = c} {n = get_or firsts i 0} (e ∙ q ∙ p)))

    pub seek_on : (c ≡ g → ⊥) → Sought c kind end (i + 1)
    seek_on n = record { low = omega arith; high = v.high; same = sym (step ∙ rw (of≢ {m = c} {n = get_or firsts i 0} (λ e. n (e ∙ sym (q ∙ p))))) ∙ v.same }

pub seek_done : {c kind end i : ℕ} → Sought c kind end i → end ≤ i → 0 ≡ row_width c (get_or row_lists kind [])
unfolding row_width
seek_done {c} {kind} {end} {i} v h =
    let z : i ≡ end = omega (arith, v.low) in
    sym (sym v.same ∙ ap (λ k. row_width c (slice k end rows)) z ∙ ap (row_width c) (slice_empty end rows))

-- ---- the control point
angle-cons : (c d : ℕ) (f : Field) (fs : List Field) → f.from ≡ d → (w : ℕ) → parts f.item ≡ w ∷ 1 ∷ [] → (c ≡ d → ⊥) → (c ≡ d + w → ⊥) → field_width c (f ∷ fs) ≡ field_width c fs
unfolding field_width part_width
angle-cons c d f fs e w p n m = rw (p, e, of≢ n, of≢ m, zero_is)

module _ (c : ℕ) where
  pub at-latitude : c ≡ 45 → 11 ≡ field_width c point
  unfolding field_width part_width parts columns ◌=?◌
  at-latitude e = rw e

  pub at-latitude-letter : c ≡ 56 → 1 ≡ field_width c point
  unfolding field_width part_width parts columns ◌=?◌
  at-latitude-letter e = rw e

  pub at-longitude : c ≡ 57 → 12 ≡ field_width c point
  unfolding field_width part_width parts columns ◌=?◌
  at-longitude e = rw e

  pub at-longitude-letter : c ≡ 69 → 1 ≡ field_width c point
  unfolding field_width part_width parts columns ◌=?◌
  at-longitude-letter e = rw e

  -- elsewhere
  tail_plain : all plain (at 70 (blank 7) ∷ at 77 state ∷ at 79 (blank 2) ∷ []) ≡ true
  unfolding all plain is_angle width ◌≤?◌ ◌&◌
  tail_plain = refl

  station_plain : plain (at 11 station) ≡ true
  unfolding plain is_angle width ◌≤?◌
  station_plain = refl

  name_plain : plain (at 15 (any_text 30)) ≡ true
  unfolding plain is_angle width ◌≤?◌
  name_plain = refl

  latitude-parts : parts (at 45 (angle latitude)).item ≡ 11 ∷ 1 ∷ []
  unfolding parts columns
  latitude-parts = refl

  longitude-parts : parts (at 57 (angle longitude)).item ≡ 12 ∷ 1 ∷ []
  unfolding parts columns
  longitude-parts = refl

  last_three : field_width c (at 70 (blank 7) ∷ at 77 state ∷ at 79 (blank 2) ∷ []) ≡ cond (c =? 70) 7 (cond (c =? 77) 2 (cond (c =? 79) 2 0))
  unfolding width_from width
  last_three = plain_is c (at 70 (blank 7) ∷ at 77 state ∷ at 79 (blank 2) ∷ []) tail_plain

  pub elsewhere : (c ≡ 45 → ⊥) → (c ≡ 56 → ⊥) → (c ≡ 57 → ⊥) → (c ≡ 69 → ⊥) → (r : ℕ) → r ≡ plain_width c → r ≡ field_width c point
  unfolding plain_width width
  elsewhere h i j k r z =
      z
      ∙ sym
      (plain_cons c (at 11 station) _ station_plain
      ∙ ap (cond (c =? 11) 4) (plain_cons c (at 15 (any_text 30)) _ name_plain
      ∙ ap (cond (c =? 15) 30) (angle-cons c 45 (at 45 (angle latitude)) _ refl 11 latitude-parts h i
      ∙ angle-cons c 57 (at 57 (angle longitude)) _ refl 12 longitude-parts j k ∙ last_three)))

  -- the fields that are no angle's, one by one
  pub plain_station : c ≡ 11 → 4 ≡ plain_width c
  unfolding plain_width ◌=?◌
  plain_station e = rw e

  pub plain_name : c ≡ 15 → 30 ≡ plain_width c
  unfolding plain_width ◌=?◌
  plain_name e = rw e

  pub plain_spacer : c ≡ 70 → 7 ≡ plain_width c
  unfolding plain_width ◌=?◌
  plain_spacer e = rw e

  pub plain_state : c ≡ 77 → 2 ≡ plain_width c
  unfolding plain_width ◌=?◌
  plain_state e = rw e

  pub plain_end : c ≡ 79 → 2 ≡ plain_width c
  unfolding plain_width ◌=?◌
  plain_end e = rw e

  pub plain_none : (c ≡ 11 → ⊥) → (c ≡ 15 → ⊥) → (c ≡ 70 → ⊥) → (c ≡ 77 → ⊥) → (c ≡ 79 → ⊥) → 0 ≡ plain_width c
  unfolding plain_width
  plain_none h i j k l = rw (of≢ h, of≢ i, of≢ j, of≢ k, of≢ l)

-- ---- a field lies inside the line
total : List ℕ → ℕ
total [] = 0
total (w ∷ ws) = w + total ws

total_parts : (i : Item) → total (parts i) ≡ width i
unfolding total parts width
total_parts (blank w) = omega arith
total_parts (constant c) = refl
total_parts (number w lo hi may) = omega arith
total_parts (height w lo hi may) = omega arith
total_parts (angle way) = omega arith
total_parts month = refl
total_parts media = refl
total_parts (word w t) = omega arith

part-inside : (c d : ℕ) (ws : List ℕ) → 1 ≤ part_width c d ws → (d ≤ c) × (c + part_width c d ws ≤ d + total ws)
unfolding part_width total
part-inside c d [] h = absurd (omega arith)
part-inside c d (w ∷ ws) h =
    cases (c =? d)
    (λ e. (omega (arith, to≡ e), rw e (omega (arith, to≡ e))))
    (λ e. let k = part-inside c (d + w) ws (rw e at h) in (omega (arith, k.0), rw e (omega (arith, k.1))))

pub field_inside : (c d : ℕ) (fs : List Field) → covers d fs ≡ true → 1 ≤ field_width c fs → (d ≤ c) × (c + field_width c fs ≤ 81)
unfolding field_width covers
field_inside c d [] h k = absurd (omega arith)
field_inside c d (f ∷ fs) h k =
    cases (part_width c f.from (parts f.item) =? 0)
    (λ e. let r = field_inside c (d + width f.item) fs (both h).1 (rw e at k) in (omega (arith, r.0), rw e r.1))
    (λ e.
    let some : 1 ≤ part_width c f.from (parts f.item) = above_0 _ (no≡ e) in
    let r = part-inside c f.from (parts f.item) some in
    let from : f.from ≡ d = to≡ (both (both h).0).0 in
    let last : d + width f.item ≤ 81 = covers_end (d + width f.item) fs (both h).1 in
    (omega (arith, r.0), rw e (omega (arith, r.1, total_parts f.item))))
