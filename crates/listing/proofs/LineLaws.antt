-- The lines of the sheet, part by part. Assumes nothing.
use mathlib.Core.Path.{◌≡◌, refl, sym, subst}
use mathlib.Core.List.{List, [], ◌∷◌, ◌++◌, append_assoc, append-nil}
use Prim.Native.Nat.{ℕ, zero, suc, ◌+◌, ◌*◌, ◌≤◌, ◌<◌}
use native.Mathlib.Nat.{add-zero}
use native.Mathlib.Numerals.{add-one}
use native.Mathlib.Omega.{arith}
use lib.ListN.{length, take, get_or, take-append-drop}
use lib.Seq.{take_all}
use Rattle.rules.specs.Characters.{ascii}
use Rattle.rules.specs.Digits.{numeral}
use Rattle.rules.specs.Sheet.{tabbed, file_line, kind_names, kind_lines}
use Rattle.kinds.specs.declared.Kind.{Kind}
use Rattle.kinds.specs.declared.Kind.TheVariants as K
use Rattle.kinds.specs.Values.{kind_index}
use Rattle.kinds.proofs.KindLaws.{index_small}
use Rattle.kinds.proofs.TableLaws.{each_kind}
use Rattle.listing.specs.Laying.{laid, Laid}
use Rattle.listing.specs.Listing.{kind_line}
use Rattle.listing.proofs.LayLaws.{laid_on}

-- the same text
pub same_text : {at m e : ℕ} {xs ys old new : List ℕ} → xs ≡ ys → Laid at m xs old e new → Laid at m ys old e new
same_text {at} {m} {e} {old = old} {new} q p = subst (λ t. Laid at m t old e new) q p

-- ---- FILE
file_text : (blocks number place column : ℕ)
    → (70 ∷ 73 ∷ 76 ∷ 69 ∷ 9 ∷ []) ++ (numeral blocks ++ 9 ∷ []) ++ (numeral number ++ 9 ∷ []) ++ (numeral place ++ 9 ∷ []) ++ (numeral column ++ 10 ∷ []) ≡ file_line blocks number place column
unfolding file_line tabbed ascii
file_text blocks number place column = simp append_assoc

module _ (blocks number place column a b c d e : ℕ) (o p q r s t : List ℕ) where
  pub file_laid : 49 ≤ length o → Laid 0 5 (70 ∷ 73 ∷ 76 ∷ 69 ∷ 9 ∷ []) o a p → Laid a 11 (numeral blocks ++ 9 ∷ []) p b q → (n : ℕ) → n ≡ number → Laid b 11 (numeral n ++ 9 ∷ []) q c r
      → Laid c 11 (numeral place ++ 9 ∷ []) r d s → Laid d 11 (numeral column ++ 10 ∷ []) s e t → Laid 0 49 (file_line blocks number place column) o e t
  file_laid h u v n k w x y =
      same_text (file_text blocks number place column) (laid_on (laid_on (laid_on (laid_on u v (omega arith)) (rw k at w) (omega arith)) x (omega arith)) y (omega arith))

-- ---- KIND
two_long : (k : ℕ) → k < 14 → get_or (get_or kind_names k []) 0 0 ∷ get_or (get_or kind_names k []) 1 0 ∷ [] ≡ get_or kind_names k []
unfolding kind_names ascii
two_long =
    each_kind (λ k. get_or (get_or kind_names k []) 0 0 ∷ get_or (get_or kind_names k []) 1 0 ∷ [] ≡ get_or kind_names k [])
    refl refl refl refl refl refl refl refl refl refl refl refl refl refl

kind_text : (k x y count : ℕ) → x ∷ y ∷ [] ≡ get_or kind_names k [] → (75 ∷ 73 ∷ 78 ∷ 68 ∷ 9 ∷ x ∷ y ∷ 9 ∷ []) ++ (numeral count ++ 10 ∷ []) ≡ kind_line k count
unfolding kind_line tabbed ascii
kind_text k x y count e = rw (← e)

module _ (k : Kind) (name : List ℕ) (count at e r : ℕ) (o p q : List ℕ) where
  pub kind_laid : name ≡ get_or kind_names (kind_index k) [] → at + 19 ≤ length o → Laid at 8 (75 ∷ 73 ∷ 78 ∷ 68 ∷ 9 ∷ get_or name 0 0 ∷ get_or name 1 0 ∷ 9 ∷ []) o e p
      → (n : ℕ) → n ≡ count → Laid e 11 (numeral n ++ 10 ∷ []) p r q → Laid at 19 (kind_line (kind_index k) count) o r q
  kind_laid i room u n g v =
      let two : get_or name 0 0 ∷ get_or name 1 0 ∷ [] ≡ get_or kind_names (kind_index k) [] = rw i (two_long (kind_index k) (index_small k)) in
      same_text (kind_text (kind_index k) (get_or name 0 0) (get_or name 1 0) count two) (laid_on u (rw g at v) (omega arith))

-- ---- one line more
lines_snoc : (names : List (List ℕ)) (counts : List ℕ) (k : ℕ) → k < length names → k < length counts
    → kind_lines (take (suc k) names) (take (suc k) counts) ≡ kind_lines (take k names) (take k counts) ++ tabbed (ascii "KIND" ∷ get_or names k [] ∷ numeral (get_or counts k 0) ∷ [])
unfolding kind_lines
lines_snoc [] counts k h i = absurd (omega arith)
lines_snoc (w ∷ names) [] k h i = absurd (omega arith)
lines_snoc (w ∷ names) (n ∷ counts) zero h i = append-nil _
lines_snoc (w ∷ names) (n ∷ counts) (suc k) h i = rw (lines_snoc names counts k (omega arith) (omega arith)) (sym (append_assoc (tabbed (ascii "KIND" ∷ w ∷ numeral n ∷ [])) _ _))

names_fourteen : length kind_names ≡ 14
unfolding kind_names
names_fourteen = refl

kinds_on : (counts : List ℕ) (k : ℕ) → length counts ≡ 14 → k < 14
    → kind_lines (take k kind_names) (take k counts) ++ kind_line k (get_or counts k 0) ≡ kind_lines (take (k + 1) kind_names) (take (k + 1) counts)
unfolding kind_line
kinds_on counts k e h = rw add-one (sym (lines_snoc kind_names counts k (omega (arith, names_fourteen)) (omega arith)))

kinds_all : (counts : List ℕ) → length counts ≡ 14 → kind_lines (take 14 kind_names) (take 14 counts) ≡ kind_lines kind_names counts
kinds_all counts e = rw (take_all 14 kind_names (omega (arith, names_fourteen)), take_all 14 counts (omega arith))

-- the kinds in the order of the sheet, which is that of their numbers
abbrev pub sheet_kinds : List Kind
sheet_kinds = K.Job ∷ K.Title ∷ K.Continuation ∷ K.Project ∷ K.Occupation ∷ K.Comment ∷ K.Measurement ∷ K.Instrument ∷ K.Antenna ∷ K.Point ∷ K.Heights ∷ K.Network ∷ K.Local ∷ K.Factor ∷ []

in_order : (d : Kind) (i : ℕ) → i < 14 → kind_index (get_or sheet_kinds i d) ≡ i
unfolding kind_index
in_order d = each_kind (λ i. kind_index (get_or sheet_kinds i d) ≡ i) refl refl refl refl refl refl refl refl refl refl refl refl refl refl

-- the lines of the first k kinds
pub record Listed (from : ℕ) (counts o : List ℕ) (at k : ℕ) (left : List ℕ) : Type 0 where
  pub some : k ≤ 14
  pub sofar : Laid from (19 * k) (kind_lines (take k kind_names) (take k counts)) o at left

none_laid : (from : ℕ) (o : List ℕ) → Laid from 0 [] o from o
none_laid from o = record { ends = omega arith; short = omega arith; output = nothing }
  where
    nothing : o ≡ laid from [] o
    nothing = unfold laid in rw (add-zero from) (sym (take-append-drop from o))

module _ (from : ℕ) (counts o : List ℕ) where
  pub list_from : Listed from counts o from 0 o
  list_from = record { some = omega arith; sofar = unfold kind_lines in none_laid from o }

  module _ (at k : ℕ) (left : List ℕ) (l : Listed from counts o at k left) where
    pub list_on : length counts ≡ 14 → k < 14 → from + 266 ≤ length o → (d : Kind) (j : ℕ) → j ≡ kind_index (get_or sheet_kinds k d)
        → {r : ℕ} {new : List ℕ} → Laid at 19 (kind_line (kind_index (get_or sheet_kinds k d)) (get_or counts j 0)) left r new → Listed from counts o r (k + 1) new
    list_on e h room d j its {r} {new} laid =
        let p : Laid at 19 (kind_line k (get_or counts k 0)) left r new = rw (its, in_order d k h) at laid in
        let m : 19 * k + 19 ≡ 19 * (k + 1) = omega arith in
        record { some = omega arith; sofar = rw m at (same_text (kinds_on counts k e h) (laid_on l.sofar p (omega arith))) }

    pub list_end : length counts ≡ 14 → 14 ≤ k → Laid from 266 (kind_lines kind_names counts) o at left
    list_end e h =
        let z : k ≡ 14 = omega (arith, l.some) in
        same_text (kinds_all counts e) (rw z at l.sofar)
