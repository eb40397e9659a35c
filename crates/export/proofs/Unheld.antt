-- A word that is lacking, or that its field's type cannot hold, is taken for a value that no field of its kind holds: it is refused.
use mathlib.Core.Path.{◌≡◌, refl}
use mathlib.Core.Bool.{Bool, true, false, not}
use mathlib.Core.List.{List, [], ◌∷◌, ◌++◌}
use Prim.Native.Nat.{ℕ}
use lib.IntN.{pos}
use Rattle.rules.specs.Tests.{◌&◌, ◌≤?◌, ◌=?◌, within, all}
use Rattle.rules.specs.Characters.{ascii, is_printable, is_blank, is_digit, is_letter, any_of, title_characters, name_characters, letter, digit, ◌or◌, member}
use Rattle.rules.specs.Items.{Item, blank, constant, number, height, angle, month, media, word, each, or_blank, num, on_number, fits, top, is_month, is_media}
use Rattle.rules.specs.Records.{sequence}
use Rattle.rules.specs.Kinds.{starred, kind_between, kind_of, known}
use Rattle.rules.specs.Layouts as L
use Rattle.rules.specs.Layouts.{layouts}
use Rattle.rules.proofs.Truth.{and_false}

unfoldable pub refuses : Item → Bool
refuses (blank w) = true
refuses (constant c) = true
refuses (number w lo hi may) = not (fits (number w lo hi may) (num (pos 4_294_967_295)))
refuses (height w lo hi may) = not (fits (height w lo hi may) (num (pos 100_000_000)))
refuses (angle way) = not (fits (angle way) (num (pos 9_223_372_036_854_775_807)))
refuses month = not (fits month (num (pos 4_294_967_295)))
refuses media = not (is_printable 0)
refuses (word w (each s)) = not (member s 0)
refuses (word w (or_blank s)) = not (member s 0)

-- every field of every kind of record
pub layouts-refuse : all (λ fs. all (λ f. refuses f.item) fs) layouts ≡ true
unfolding refuses all fits on_number member is_printable is_blank is_digit is_letter any_of title_characters name_characters ascii top is_month within ◌&◌ ◌≤?◌ ◌=?◌ layouts
layouts-refuse = refl

-- and so where there is no such kind
pub kept_refuses : all (λ f. refuses f.item) L.kept ≡ true
unfolding refuses all member is_printable within ◌&◌ ◌≤?◌
kept_refuses = refl

pub sequence_refuses : refuses sequence ≡ true
unfolding refuses fits on_number sequence within ◌&◌ ◌≤?◌
sequence_refuses = refl

-- ---- a character among others, and the parts of a media identifier
-- a code with a character that its set has not is refused, wherever it stands
pub code_refuses : (p : ℕ → Bool) (x : ℕ) → p x ≡ false → (xs ys : List ℕ) → all p (xs ++ (x ∷ ys)) ≡ false
unfolding all ◌&◌
code_refuses p x e [] ys = rw e
code_refuses p x e (y ∷ xs) ys = rw (code_refuses p x e xs ys) (and_false (p y))

module _ (maker day year session : ℕ) (mark : List ℕ) where
  pub media_maker : is_media 0 day year session mark ≡ false
  unfolding is_media is_letter within ◌&◌ ◌≤?◌
  media_maker = refl

  pub media_day : is_media maker 4_294_967_295 year session mark ≡ false
  unfolding is_media
  media_day =
      let e : within 1 366 4_294_967_295 ≡ false = unfold within ◌&◌ ◌≤?◌ in refl in
      rw (e, and_false (is_letter maker)) (unfold ◌&◌ in refl)

  pub media_year : is_media maker day 10 session mark ≡ false
  unfolding is_media
  media_year =
      let e : 10 ≤? 9 ≡ false = unfold ◌≤?◌ in refl in
      rw (e, and_false (is_letter maker & within 1 366 day)) (unfold ◌&◌ in refl)

  pub media_session : is_media maker day year 0 mark ≡ false
  unfolding is_media
  media_session =
      let e : member (letter or digit) 0 ≡ false = unfold member is_letter is_digit within ◌&◌ ◌≤?◌ in refl in
      rw (e, and_false (is_letter maker & within 1 366 day & year ≤? 9)) (unfold ◌&◌ in refl)

-- ---- a job code with a character that is none, as a kind outside 0..13 and a lacking character give it
pub first_unknown : (b : ℕ) → known (42 ∷ 0 ∷ b ∷ 42 ∷ []) ≡ false
unfolding known kind_of ◌≤?◌ starred ◌&◌ ◌=?◌ kind_between is_digit within is_letter
first_unknown b = refl

pub second_unknown : (a : ℕ) → known (42 ∷ a ∷ 0 ∷ 42 ∷ []) ≡ false
unfolding known kind_of starred kind_between
second_unknown a =
    let d : is_digit 0 ≡ false = unfold is_digit within ◌&◌ ◌≤?◌ in refl in
    let e : member (letter or digit) 0 ≡ false = unfold member is_letter is_digit within ◌&◌ ◌≤?◌ in refl in
    rw (d, e, and_false (is_digit a), and_false (is_letter a)) (unfold ◌&◌ ◌=?◌ ◌≤?◌ in refl)
