-- The test of a set is the set: ranges are tried below 128 one by one, by computing, and above neither holds; titles and names are compared as their lists say. Assumes nothing.
use mathlib.Core.Path.{◌≡◌, refl, sym, ◌∙◌}
use mathlib.Core.Bool.{Bool, true, false, and-false}
use mathlib.Core.List.{List, [], ◌∷◌}
use Prim.Native.Nat.{ℕ, ◌<◌}
use native.Mathlib.Omega.{arith}
use lib.Dec.{leb}
use borrow.Author.Tests.{lt-leb, ne_eqb}
use Rattle.rules.specs.Tests.{◌&◌, ◌≤?◌, ◌=?◌, within, all}
use Rattle.rules.specs.Characters.{is_printable, is_blank, is_digit, is_letter, member}
use Rattle.rules.specs.Fields.{same_truth}
use Rattle.rules.proofs.Truth.{both, to≤, under}
use Rattle.rules.proofs.SetLaws.{by_trial, no_member_above}
use Rattle.columns.specs.Types.{set_of}
use Rattle.columns.specs.Leaves.{inside, test_of}
use Rattle.columns.specs.declared.Set.{Set}
use Rattle.columns.specs.declared.sets.Ranges.{Ranges}

-- ---- ranges
-- the last of each range, and the character
ends : Ranges → List ℕ
ends m = m.high ∷ m.top ∷ m.one ∷ []

none : (m : Ranges) (b : ℕ) → all (λ c. c ≤? 127) (ends m) ≡ true → 127 < b → inside m b ≡ false
unfolding all ends
none m b h k =
    let one = both h in
    let two = both one.1 in
    let three = both two.1 in
    rw (
      lt-leb b m.high (omega (arith, to≤ one.0)),
      lt-leb b m.top (omega (arith, to≤ two.0)),
      ne_eqb b m.one (λ e. omega (arith, e, to≤ three.0)),
      and-false (leb m.low b),
      and-false (leb m.bottom b),
    )

ranged : (m : Ranges) (s : Set) → all (λ c. c ≤? 127) (ends m) ≡ true → all (λ b. same_truth (inside m b) (member (set_of s) b)) (under 128) ≡ true → (b : ℕ) → inside m b ≡ member (set_of s) b
ranged m s e h = by_trial (inside m) (member (set_of s)) h (λ b k. none m b e k ∙ sym (no_member_above (set_of s) b k))

-- ---- every set
test_member : (s : Set) (b : ℕ) → test_of s b ≡ member (set_of s) b
unfolding all ends under same_truth set_of member is_printable is_blank is_digit is_letter within ◌&◌ ◌≤?◌ ◌=?◌
test_member Set.Letter b = ranged _ Set.Letter refl refl b
test_member Set.LetterOrSpace b = ranged _ Set.LetterOrSpace refl refl b
test_member Set.LetterOrDigit b = ranged _ Set.LetterOrDigit refl refl b
test_member Set.LetterOrDigitOrSpace b = ranged _ Set.LetterOrDigitOrSpace refl refl b
test_member Set.Digit b = ranged _ Set.Digit refl refl b
test_member Set.Printable b = ranged _ Set.Printable refl refl b
test_member Set.Title b = refl
test_member Set.Name b = refl
test_member Set.YesNo b = ranged _ Set.YesNo refl refl b
test_member Set.YesNoOrSpace b = ranged _ Set.YesNoOrSpace refl refl b

all_same : (p q : ℕ → Bool) → ((b : ℕ) → p b ≡ q b) → (bs : List ℕ) → all p bs ≡ all q bs
unfolding all
all_same p q f [] = refl
all_same p q f (b ∷ bs) = rw (f b, all_same p q f bs)

pub all_members : (s : Set) (bs : List ℕ) → all (test_of s) bs ≡ all (member (set_of s)) bs
all_members s bs = all_same _ _ (test_member s) bs
