-- 01, "Columns to try": P1 to P12 as one table over the definitions, and the ends of the signed fields.
use mathlib.Core.Path.{◌≡◌, refl}
use mathlib.Core.Bool.{true, false, cond}
use mathlib.Core.List.{List, [], ◌∷◌}
use Prim.Native.Nat.{ℕ, ◌-◌}
use Prim.Native.String.{String}
use lib.IntN.{pos, negsuc}
use Rattle.rules.specs.Tests.{all, within, ◌&◌, ◌≤?◌, ◌=?◌}
use Rattle.rules.specs.Characters.{ascii, is_blank, is_digit, is_letter, is_printable, member}
use Rattle.rules.specs.Digits.{val, put}
use Rattle.rules.specs.Items.{Value, missing, num, latitude, longitude, Item, height, angle, num_form, height_form, minus, signed, angle_of, dms, dms_form, columns, top, low, plus, minus_of, angle_value, on_number, width, shape, value_of, fits, render, good, month, media, least, on_label, is_month, is_media}
use Rattle.rules.specs.Layouts.{station, metres, correlation, deviation, variance}
use Rattle.rules.proofs.Lawful.{lawful, render-good}

-- fault 9, or the value and what is written for it
pub data Outcome : Type 0 where
  bad : Outcome
  is : Value → List ℕ → Outcome

unfoldable pub try : Item → String → Outcome
unfolding ascii all within ◌&◌ ◌≤?◌ ◌=?◌ is_digit is_blank val put num_form height_form minus signed angle_of dms dms_form columns top low plus minus_of angle_value on_number width shape value_of fits render good
try i s = cond (good i (ascii s)) (is (value_of i (ascii s)) (render i (value_of i (ascii s)))) bad

-- the number -n, n from 1 on
unfoldable pub below_0 : ℕ → Value
below_0 n = num (negsuc (n - 1))

-- P1 to P12, in order
pub the-table :
    (try (angle latitude) "00000000000S" ∷ try (angle latitude) "38531512345N"
    ∷ try (angle latitude) "90000000000N" ∷ try (angle latitude) "90000000001N"
    ∷ try (angle longitude) "180000000000W" ∷ try (angle longitude) "000000000001W"
    ∷ try metres "  -1234" ∷ try metres "-000000" ∷ try metres "-999999"
    ∷ try metres "12 3456" ∷ try station "  12" ∷ try station "0000" ∷ [])
    ≡ (is (num (pos 0)) (ascii "00000000000N") ∷ is (num (pos 13_999_512_345)) (ascii "38531512345N")
    ∷ is (num (pos 32_400_000_000)) (ascii "90000000000N") ∷ bad
    ∷ is (num (pos 64_800_000_000)) (ascii "180000000000E") ∷ is (below_0 1) (ascii "000000000001W")
    ∷ is (below_0 1_234) (ascii "-001234") ∷ is (num (pos 0)) (ascii "0000000") ∷ is (below_0 999_999) (ascii "-999999")
    ∷ bad ∷ is (num (pos 12)) (ascii "0012") ∷ bad ∷ [])
unfolding try below_0
the-table = refl

-- ---- exact signs: every value that a field can hold is written, and reads back as itself
pub exact : (i : Item) (v : Value) → fits i v ≡ true → (good i (render i v) ≡ true) × (value_of i (render i v) ≡ v)
exact i v h = (render-good i v (lawful i v h) h, (lawful i v h).valued)

-- zero and both ends of each range are held, and what lies beyond is not
pub ends :
    (fits metres (num (pos 0)) ∷ fits metres (num (pos 9_999_999)) ∷ fits metres (num (pos 10_000_000))
    ∷ fits metres (below_0 999_999) ∷ fits metres (below_0 1_000_000)
    ∷ fits (height 5 9_999 99_999 false) (num (pos 0)) ∷ fits (height 5 9_999 99_999 false) (num (pos 99_999)) ∷ fits (height 5 9_999 99_999 false) (num (pos 100_000))
    ∷ fits (height 5 9_999 99_999 false) (below_0 9_999) ∷ fits (height 5 9_999 99_999 false) (below_0 10_000) ∷ fits (height 5 9_999 99_999 false) missing
    ∷ fits correlation (num (pos 0)) ∷ fits correlation (num (pos 99_999_999)) ∷ fits correlation (num (pos 100_000_000))
    ∷ fits correlation (below_0 99_999_990) ∷ fits correlation (below_0 99_999_991) ∷ fits correlation missing
    ∷ fits (angle latitude) (num (pos 0)) ∷ fits (angle latitude) (num (pos 32_400_000_000)) ∷ fits (angle latitude) (num (pos 32_400_000_001))
    ∷ fits (angle latitude) (below_0 32_400_000_000) ∷ fits (angle latitude) (below_0 32_400_000_001)
    ∷ fits (angle longitude) (num (pos 64_800_000_000)) ∷ fits (angle longitude) (num (pos 64_800_000_001))
    ∷ fits (angle longitude) (below_0 64_799_999_999) ∷ fits (angle longitude) (below_0 64_800_000_000) ∷ [])
    ≡ (true ∷ true ∷ false ∷ true ∷ false ∷ true ∷ true ∷ false ∷ true ∷ false ∷ false
    ∷ true ∷ true ∷ false ∷ true ∷ false ∷ false
    ∷ true ∷ true ∷ false ∷ true ∷ false ∷ true ∷ false ∷ true ∷ false ∷ [])
unfolding fits on_number top low below_0 ◌≤?◌ ◌&◌
ends = refl

-- the sign of half a metre is not lost though its metres are zero
pub half_metre_lem : try metres "   -500" ≡ is (below_0 500) (ascii "-000500")
unfolding try below_0
half_metre_lem = refl

-- 02, T-02: the value that is laid behind a beginning is one that its kind of field holds
pub least_held : all (λ i. fits i (least i)) (station ∷ month ∷ media ∷ metres ∷ correlation ∷ deviation ∷ variance ∷ angle latitude ∷ angle longitude ∷ []) ≡ true
unfolding all fits least on_number on_label is_month is_media is_letter is_digit is_printable member top within ◌≤?◌ ◌=?◌ ◌&◌
least_held = refl

-- 02, T-03: a correlation by the height rule at its own width, with zero and both ends
pub correlations :
    (try correlation " -50000000" ∷ try correlation "  50000000" ∷ try correlation "        -0" ∷ try correlation " -99999990" ∷ try correlation " -99999991"
    ∷ try correlation "  99999999" ∷ try correlation " 100000000" ∷ try correlation "0000000.50" ∷ try correlation "          " ∷ [])
    ≡ (is (below_0 50_000_000) (ascii "-050000000") ∷ is (num (pos 50_000_000)) (ascii "0050000000") ∷ is (num (pos 0)) (ascii "0000000000") ∷ is (below_0 99_999_990) (ascii "-099999990") ∷ bad
    ∷ is (num (pos 99_999_999)) (ascii "0099999999") ∷ bad ∷ bad ∷ bad ∷ [])
unfolding try below_0
correlations = refl
