-- How long a sheet can be. Assumes nothing.
use mathlib.Core.Path.{◌≡◌, refl}
use mathlib.Core.Bool.{Bool, true}
use mathlib.Core.List.{List, [], ◌∷◌, ◌++◌}
use Prim.Native.Nat.{ℕ, ◌*◌, ◌/◌, ◌≤◌}
use native.Mathlib.Omega.{arith}
use lib.ListN.{length, length-append}
use Rattle.rules.specs.Tests.{◌&◌, ◌≤?◌, ◌=?◌, all}
use Rattle.rules.specs.Characters.{ascii}
use Rattle.rules.specs.Digits.{put, stripped, numeral}
use Rattle.rules.specs.Sheet.{tabbed, file_line, kind_names, kind_lines, listed, sheet}
use Rattle.rules.specs.Calls.{Answer, file_answer}
use Rattle.rules.proofs.Truth.{both, to≤, cases}
use Rattle.rules.proofs.DigitLaws.{length-put}

stripped_short : (l : List ℕ) → length (stripped l) ≤ length l
unfolding stripped
stripped_short [] = omega arith
stripped_short (b ∷ []) = omega arith
stripped_short (b ∷ c ∷ l) = cases (b =? 48) (λ e. rw e (omega (arith, stripped_short (c ∷ l)))) (λ e. rw e (omega arith))

numeral_short : (n : ℕ) → length (numeral n) ≤ 10
unfolding numeral
numeral_short n = omega (arith, stripped_short (put 10 n), length-put 10 n)

file_short : (a b c d : ℕ) → length (file_line a b c d) ≤ 49
unfolding file_line tabbed ascii
file_short a b c d = simp length-append (omega (arith, numeral_short a, numeral_short b, numeral_short c, numeral_short d))

-- no sheet is empty
file_some : (a b c d : ℕ) → 1 ≤ length (file_line a b c d)
unfolding file_line tabbed ascii
file_some a b c d = omega arith

-- the names have two characters
is_pair : List ℕ → Bool
is_pair w = length w ≤? 2

names_pairs : all is_pair kind_names ≡ true
unfolding all kind_names is_pair ◌≤?◌ ◌&◌ ascii
names_pairs = refl

line_short : (w : List ℕ) (n : ℕ) → length w ≤ 2 → length (tabbed (ascii "KIND" ∷ w ∷ numeral n ∷ [])) ≤ 19
unfolding tabbed ascii
line_short w n h = simp length-append (omega (arith, numeral_short n))

lines_short : (names : List (List ℕ)) (counts : List ℕ) → all is_pair names ≡ true → length (kind_lines names counts) ≤ 19 * length names
unfolding kind_lines all is_pair
lines_short [] counts h = omega arith
lines_short (w ∷ names) [] h = omega arith
lines_short (w ∷ names) (n ∷ counts) h =
    rw (length-append (tabbed (ascii "KIND" ∷ w ∷ numeral n ∷ [])) (kind_lines names counts))
    (omega (arith, line_short w n (to≤ (both h).0), lines_short names counts (both h).1))

kinds_short : (counts : List ℕ) → length (kind_lines kind_names counts) ≤ 266
kinds_short counts = omega (arith, lines_short kind_names counts names_pairs, fourteen)
  where
    fourteen : length kind_names ≡ 14
    fourteen = unfold kind_names in refl

pub record Sized (text : List ℕ) : Type 0 where
  pub some : 1 ≤ length text
  pub short : length text ≤ 315

file_sized : (a b c d : ℕ) → Sized (file_line a b c d)
file_sized a b c d = record { some = file_some a b c d; short = omega (arith, file_short a b c d) }

more_sized : (line more : List ℕ) → 1 ≤ length line → length line ≤ 49 → length more ≤ 266 → Sized (line ++ more)
more_sized line more h k l = let e = length-append line more in record { some = omega arith; short = omega arith }

listed-sized : (blocks : ℕ) (a : Answer) → Sized (listed blocks a)
unfolding listed
listed-sized blocks a =
    cases (a.number =? 0) (λ e. rw e (with_more (kind_lines kind_names a.counts) (kinds_short a.counts))) (λ e. rw e (with_more [] (omega arith)))
  where
    with_more : (more : List ℕ) → length more ≤ 266 → Sized (file_line blocks a.number a.place a.column ++ more)
    with_more more h =
        more_sized (file_line blocks a.number a.place a.column) more (file_some blocks a.number a.place a.column) (file_short blocks a.number a.place a.column) h

-- every sheet is 1 to 315 bytes long
pub sheet-sized : (input table : List ℕ) → Sized (sheet input table)
unfolding sheet
sheet-sized input table =
    cases (length input ≤? 64_800) (λ e. rw e (listed-sized (length input / 81) (file_answer input table))) (λ e. rw e (file_sized 0 1 0 0))
