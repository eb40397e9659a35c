-- A record's long texts are what `field` gives at their columns: of every record that reads.
use mathlib.Core.Path.{◌≡◌, refl, sym, ap, ◌∙◌}
use mathlib.Core.Bool.{true}
use mathlib.Core.List.{List, [], ◌∷◌, map}
use Prim.Native.Nat.{ℕ, zero, suc, ◌+◌, ◌-◌, ◌*◌, ◌≤◌}
use native.Mathlib.Omega.{arith}
use lib.ListN.{get_or, take, drop, get_or-map}
use lib.Seq.{take-take, drop-drop}
use Rattle.rules.specs.Tests.{◌&◌, ◌≤?◌, ◌=?◌, within}
use Rattle.rules.specs.Items.{gap, value_of, width, columns, parts}
use Rattle.rules.specs.Fields.{Field, Verdict, ok, fault, is_ok, columns_of, values}
use Rattle.rules.specs.Records.{code_at, read_line, meaning}
use Rattle.rules.specs.Files.{line_at, begun}
use Rattle.rules.specs.Kinds.{kind_of}
use Rattle.rules.specs.Layouts.{kept, layouts, layout}
use Rattle.rules.specs.Calls.{read_as, read_of, is_read, part_width, field_width, width_asked, field_of}
use Rattle.rules.specs.Chapter4.{chapter4}
use Rattle.rules.proofs.Truth.{to≡, no≡, above_0, cases}
use Rattle.rules.proofs.Chapter4Laws.{layout-covers}
use Rattle.kinds.specs.Values.{text_of}
use Rattle.reading.proofs.CallLaws.{some_offset}
use Rattle.reading.proofs.WidthLaws.{field_inside}
use Rattle.round_trips.specs.Texts.{is_long, long_columns}
use Rattle.round_trips.proofs.MeaningBack.{texts, texts_of, Upto, upto}

-- ---- of each kind: the columns, as docs/LAYOUT.md has them
pub columns_are : map long_columns layouts ≡
    (11 ∷ []) ∷ (11 ∷ []) ∷ (11 ∷ []) ∷ (26 ∷ 47 ∷ []) ∷ [] ∷ (11 ∷ []) ∷ [] ∷ (23 ∷ 63 ∷ 71 ∷ []) ∷ (17 ∷ 45 ∷ []) ∷ (15 ∷ []) ∷ (30 ∷ 57 ∷ [])
    ∷ (66 ∷ []) ∷ (68 ∷ []) ∷ (27 ∷ []) ∷ []
unfolding layouts is_long long_columns ◌≤?◌
columns_are = refl

-- and the texts, where they stand in a line
abbrev InLine : List ℕ → List Field → Type 0
InLine l fs = texts fs (λ i. get_or (values fs l) i gap) ≡ map (λ c. take (field_width c fs) (drop (c - 1) l)) (long_columns fs)

in-line : (l : List ℕ) (k : ℕ) → InLine l (get_or layouts k kept)
unfolding Upto layouts texts is_long long_columns values value_of columns_of width columns parts part_width field_width text_of ◌=?◌ ◌≤?◌
in-line l k = upto 14 (λ k. InLine l (get_or layouts k kept)) (refl, (refl, (refl, (refl, (refl, (refl, (refl, (refl, (refl, (refl, (refl, (refl, (refl, (refl, (λ k. refl))))))))))))))) k

-- ---- a part of the first m
first_part : (k w m : ℕ) (l : List ℕ) → k + w ≤ m → take w (drop k (take m l)) ≡ take w (drop k l)
first_part zero w m l h = take-take w m l (omega (arith, h))
first_part (suc k) w zero l h = absurd (omega (arith, h))
first_part (suc k) w (suc m) [] h = refl
first_part (suc k) w (suc m) (x ∷ l) h = first_part k w m l (omega (arith, h))

read_is : (n : ℕ) (l : List ℕ) (v : Verdict) → is_ok v ≡ true → is_read (read_as n l v) ≡ true
unfolding read_as is_read is_ok
read_is n l ok h = refl
read_is n l (fault a b) h = h

map_same : (f g : ℕ → List ℕ) → ((c : ℕ) → f c ≡ g c) → (cs : List ℕ) → map f cs ≡ map g cs
map_same f g h [] = refl
map_same f g h (c ∷ cs) = rw (h c, map_same f g h cs)

module _ (file : List ℕ) (n : ℕ) (there : within 1 99_999 n & n ≤? begun file ≡ true) (reads : is_ok (read_line chapter4 (line_at file (n - 1))) ≡ true) where
  abbrev line : List ℕ
  line = line_at file (n - 1)

  wide : (c : ℕ) → width_asked file n c ≡ field_width c (layout (code_at line))
  unfolding width_asked read_of
  wide c = rw (there, read_is n line (read_line chapter4 line) reads)

  -- what field gives at any column stands in the record's own line
  pub field_in_line : (c : ℕ) → field_of file n c ≡ take (field_width c (layout (code_at line))) (drop (c - 1) line)
  unfolding field_of line_at
  field_in_line c =
      cases (width_asked file n c =? 0)
      (λ e. let z : field_width c (layout (code_at line)) ≡ 0 = sym (wide c) ∙ to≡ e in rw (to≡ e, z))
      (λ e.
      let some : 1 ≤ field_width c (layout (code_at line)) = omega (arith, above_0 (width_asked file n c) (no≡ e), wide c) in
      let k = field_inside c 11 (layout (code_at line)) (layout-covers (code_at line)) some in
      rw (← some_offset file n c (width_asked file n c) refl (no≡ e), wide c)
      (sym (first_part (c - 1) (field_width c (layout (code_at line))) 81 (drop (81 * (n - 1)) file) (omega (arith, k.1, k.0))
      ∙ ap (take (field_width c (layout (code_at line)))) (drop-drop (c - 1) (81 * (n - 1)) file))))

  -- no field starts at column 0
  pub no_field : field_of file n 0 ≡ []
  no_field =
      cases (field_width 0 (layout (code_at line)) =? 0)
      (λ e. field_in_line 0 ∙ rw (to≡ e))
      (λ e. absurd (omega (arith, (field_inside 0 11 (layout (code_at line)) (layout-covers (code_at line)) (above_0 _ (no≡ e))).0)))

  pub texts_in_line : texts_of (meaning chapter4 line) ≡ map (field_of file n) (long_columns (layout (code_at line)))
  unfolding meaning layout
  texts_in_line =
      in-line line (kind_of (code_at line))
      ∙ sym (map_same (field_of file n) (λ c. take (field_width c (get_or layouts (kind_of (code_at line)) kept)) (drop (c - 1) line)) field_in_line (long_columns (get_or layouts (kind_of (code_at line)) kept)))

  pub text_in_line : (i : ℕ) → get_or (texts_of (meaning chapter4 line)) i [] ≡ field_of file n (get_or (long_columns (layout (code_at line))) i 0)
  text_in_line i =
      ap (λ ts. get_or ts i []) texts_in_line
      ∙ ap (get_or (map (field_of file n) (long_columns (layout (code_at line)))) i) (sym no_field)
      ∙ get_or-map (field_of file n) (long_columns (layout (code_at line))) i 0
