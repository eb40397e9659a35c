-- Texts laid one after another, and numbers without zeros in front. Assumes nothing.
use mathlib.Core.Path.{◌≡◌, refl, sym, ◌∙◌, ap, subst}
use mathlib.Core.Bool.{Bool, true, false, cond, not}
use mathlib.Core.List.{List, [], ◌∷◌, ◌++◌, append_assoc}
use Prim.Native.Nat.{ℕ, zero, suc, ◌+◌, ◌-◌, ◌≤◌, ◌<◌}
use native.Mathlib.Nat.{add-sub_cancel_left}
use native.Mathlib.Numerals.{add-one}
use native.Mathlib.Omega.{arith}
use lib.Dec.{eqb}
use lib.ListN.{length, take, drop, set, length-append, length-drop}
use lib.Seq.{length-take-le, take_at, take_all, drop-drop, drop-append-add, set_split}
use borrow.Rule.Slice.PartMut.{mid_of, put_mid}
use Rattle.rules.specs.Tests.{◌=?◌}
use Rattle.rules.specs.Digits.{put, stripped, numeral}
use Rattle.std.specs.List.{position_or_len, position}
use Rattle.std.specs.Option.{unwrap_or}
use Rattle.std.specs.declared.option.Option.{Option}
use Rattle.std.proofs.Common.{nat_lt}
use Rattle.std.proofs.lemmas.List.Sums.{prefix_len-le-length}
use Rattle.rules.proofs.Truth.{of≡, cases}
use Rattle.rules.proofs.DigitLaws.{length-put}
use Rattle.listing.specs.Laying.{laid, Laid, Zeros}

-- ---- one text after another
module _ (at : ℕ) (xs out : List ℕ) (h : at + length xs ≤ length out) where
  front : length (take at out ++ xs) ≡ at + length xs
  front = let t : length (take at out) ≡ at = length-take-le at out (omega arith) in length-append (take at out) xs ∙ rw t

  parted : laid at xs out ≡ take at out ++ xs ++ drop (at + length xs) out
  unfolding laid
  parted = sym (append_assoc (take at out) xs _)

  take-laid : take (at + length xs) (laid at xs out) ≡ take at out ++ xs
  take-laid = rw parted (take_at (take at out ++ xs) _ (at + length xs) front)

  drop-laid : (n : ℕ) → drop (at + length xs + n) (laid at xs out) ≡ drop (at + length xs + n) out
  drop-laid n = rw (parted, ← front) (drop-append-add (take at out ++ xs) _ n ∙ rw front (drop-drop n (at + length xs) out))

  laid_rest : (ys : List ℕ) → take at out ++ xs ++ (ys ++ drop (at + length xs + length ys) out) ≡ laid at (xs ++ ys) out
  unfolding laid
  laid_rest ys =
      let k : at + (length xs + length ys) ≡ at + length xs + length ys = omega arith in
      rw (length-append xs ys, k) (simp append_assoc)

  laid_twice : (ys : List ℕ) → laid (at + length xs) ys (laid at xs out) ≡ laid at (xs ++ ys) out
  laid_twice ys = whole (laid at xs out) take-laid (drop-laid (length ys)) ∙ laid_rest ys
    where
      whole : (mid : List ℕ) → take (at + length xs) mid ≡ take at out ++ xs → drop (at + length xs + length ys) mid ≡ drop (at + length xs + length ys) out
          → laid (at + length xs) ys mid ≡ take at out ++ xs ++ (ys ++ drop (at + length xs + length ys) out)
      whole mid p q = unfold laid in rw (p, q)

pub laid_on : {at m n e r : ℕ} {xs ys old mid new : List ℕ} → Laid at m xs old e mid → Laid e n ys mid r new → at + m ≤ length old → Laid at (m + n) (xs ++ ys) old r new
laid_on {at} {m} {n} {e} {r} {xs} {ys} {old} p q h = record {
  ends = q.ends ∙ rw (p.ends, length-append xs ys) (omega arith);
  short = omega (arith, p.short, q.short);
  output = q.output ∙ rw (p.ends, p.output) (laid_twice at xs old (omega (arith, p.ends, p.short)) ys);
}

-- ---- a text lent as it stands
put-laid : (at : ℕ) (text out last : List ℕ) → last ≡ text → put_mid at (at + length text - at) out last ≡ laid at text out
unfolding laid
put-laid at text out last e = rw (e, add-sub_cancel_left at (length text), drop-drop (length text) at out)

pub text-laid : (at : ℕ) (text out last : List ℕ) → at + length text ≤ length out
    → last ≡ cond (length text =? length (mid_of at (at + length text - at) out)) text (mid_of at (at + length text - at) out)
    → Laid at (length text) text out (at + length text) (put_mid at (at + length text - at) out last)
text-laid at text out last h e =
    let k : at + length text - at ≡ length text = add-sub_cancel_left at (length text) in
    let room : length text ≤ length (drop at out) = rw length-drop (omega arith) in
    let wide : length (mid_of at (at + length text - at) out) ≡ length text = rw k (length-take-le (length text) (drop at out) room) in
    record { ends = refl; short = omega arith; output = put-laid at text out last (e ∙ rw (of≡ (sym wide))) }

-- ---- zeros in front
-- another digit than 0
abbrev pub is_other : ℕ → Bool
is_other b = not (eqb b 48)

module _ (b c : ℕ) (d : List ℕ) where
  zero_in_front : eqb b 48 ≡ true → stripped (b ∷ c ∷ d) ≡ stripped (c ∷ d)
  unfolding stripped ◌=?◌
  zero_in_front h = rw h refl

  other_in_front : eqb b 48 ≡ false → stripped (b ∷ c ∷ d) ≡ b ∷ c ∷ d
  unfolding stripped ◌=?◌
  other_in_front h = rw h refl

  zeros_one_more : (k : ℕ) → eqb b 48 ≡ true → Zeros (c ∷ d) k → Zeros (b ∷ c ∷ d) (1 + k)
  zeros_one_more k h z =
      let s : 1 + k ≡ suc k = omega arith in
      record { within = omega (arith, z.within); rest = ap (λ i. drop i (b ∷ c ∷ d)) s ∙ z.rest ∙ sym (zero_in_front h) }

  zeros_none : eqb b 48 ≡ false → Zeros (b ∷ c ∷ d) 0
  zeros_none h = record { within = omega arith; rest = sym (other_in_front h) }

-- the first place of another digit, the last digit left out, which stays whatever it is
first_other : (d : List ℕ) (n : ℕ) → n ≡ length d - 1 → Zeros d (position_or_len is_other (take n d))
unfolding stripped
first_other [] zero e = record { within = omega arith; rest = refl }
first_other [] (suc n) e = absurd (omega arith)
first_other (b ∷ []) zero e = record { within = omega arith; rest = refl }
first_other (b ∷ []) (suc n) e = absurd (omega arith)
first_other (b ∷ c ∷ d) zero e = absurd (omega arith)
first_other (b ∷ c ∷ d) (suc n) e =
    cases (eqb b 48) (λ h. rw h (zeros_one_more b c d _ h (first_other (c ∷ d) n (omega arith)))) (λ h. rw h (zeros_none b c d h))

-- `unwrap_or` of what `position` answers
pub zeros_first : (d : List ℕ) (n : ℕ) (p : Option ℕ) → n ≡ length d - 1 → p ≡ position is_other (take n d) → Zeros d (unwrap_or p n)
zeros_first d n p e q = rw q (cases (nat_lt (position_or_len is_other (take n d)) (length (take n d)))
    (λ h. rw h (first_other d n e))
    (λ h. rw h (subst (Zeros d) (none_other h) (first_other d n e))))
  where
    none_other : nat_lt (position_or_len is_other (take n d)) (length (take n d)) ≡ false → position_or_len is_other (take n d) ≡ n
    none_other h =
        let t : length (take n d) ≡ n = length-take-le n d (omega arith) in
        let m : position_or_len is_other (take n d) ≤ length (take n d) = prefix_len-le-length _ (take n d) in
        grind (arith, t, m, h)

-- ---- a number and the byte behind it
pub byte_laid : (e mark : ℕ) (mid : List ℕ) → e < length mid → Laid e 1 (mark ∷ []) mid (e + 1) (set mid e mark)
byte_laid e mark mid h = record { ends = refl; short = omega arith; output = unfold laid in rw add-one (set_split mid e mark h) }

pub number-laid : (n at z e mark : ℕ) (digits out mid : List ℕ) → at + 11 ≤ length out → digits ≡ put 10 n → Zeros digits z
    → Laid at (length (take (10 - z) (drop z digits))) (take (10 - z) (drop z digits)) out e mid → length mid ≡ length out
    → Laid at 11 (numeral n ++ mark ∷ []) out (e + 1) (set mid e mark)
number-laid n at z e mark digits out mid h d zs p q =
    let ten : length digits ≡ 10 = rw d (length-put 10 n) in
    let few : length (drop z digits) ≤ 10 - z = rw length-drop (omega arith) in
    let whole : take (10 - z) (drop z digits) ≡ numeral n = take_all (10 - z) (drop z digits) few ∙ zs.rest ∙ (unfold numeral in rw d) in
    let most : length (take (10 - z) (drop z digits)) ≤ 10 = rw (take_all (10 - z) (drop z digits) few) (omega arith) in
    let first : Laid at 10 (numeral n) out e mid = record { ends = p.ends ∙ rw whole; short = omega (arith, p.ends); output = p.output ∙ rw whole } in
    laid_on first (byte_laid e mark mid (omega (arith, p.ends))) (omega arith)
