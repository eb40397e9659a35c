-- The lowest column at fault: the first of the eighty that is not printable, or else what stands behind them.
use mathlib.Core.Path.{◌≡◌, sym, ◌∙◌, ap}
use mathlib.Core.Bool.{Bool, true, false, cond, not, ◌&&◌}
use mathlib.Core.List.{List, [], ◌∷◌}
use Prim.Native.Nat.{ℕ, zero, suc, ◌+◌, ◌≤◌, ◌<◌}
use native.Mathlib.Omega.{arith}
use lib.Dec.{leb}
use lib.ListN.{length, drop, take, get_or, drop_of_length-le}
use lib.Seq.{drop-cons, take_all, length-take-le}
use Rattle.std.specs.List.{position_from}
use Rattle.std.proofs.Common.{Option, None, Some}
use Rattle.std.specs.Prelude.{Ok, Err}
use Rattle.rules.specs.Tests.{◌≤?◌, ◌=?◌, within}
use Rattle.rules.specs.Characters.{is_printable}
use Rattle.rules.specs.Fields.{fault, check, ◌⨾◌}
use Rattle.rules.specs.Records.{bytes}
use Rattle.rules.proofs.Truth.{of≡, of≢}
use Rattle.columns.proofs.Loops.{&_is}
use Rattle.kinds.specs.declared.Flaw.{Flaw}
use Rattle.kinds.specs.Values.{judged_of}
use Rattle.kinds.proofs.ValueLaws.{flaw}

-- as the code tests a byte
pub outside : (b : ℕ) → not (leb 32 b && leb b 126) ≡ not (is_printable b)
unfolding is_printable within ◌≤?◌
outside b = sym (ap not (&_is _ _))

abbrev bad : ℕ → Bool
bad b = not (is_printable b)

-- the first of n columns that is not printable, from column k + 1 on
seen : (n k i : ℕ) (f : List ℕ) → position_from bad k (take n f) ≡ Some i → bytes n (k + 1) f ≡ fault 4 (i + 1)
unfolding bytes check ◌⨾◌
seen zero k i f e = absurd (cc)
seen (suc n) k i [] e = absurd (cc)
seen (suc n) k i (b ∷ f) e = by (is_printable b) e (seen n (k + 1) i f)
  where
    by : (t : Bool) → cond (not t) (Some k) (position_from bad (k + 1) (take n f)) ≡ Some i → (position_from bad (k + 1) (take n f) ≡ Some i → bytes n (k + 1 + 1) f ≡ fault 4 (i + 1)) → check t 4 (k + 1) ⨾ bytes n (k + 1 + 1) f ≡ fault 4 (i + 1)
    by true e on = on e
    by false e on = cc

seen_within : (n k i : ℕ) (f : List ℕ) → position_from bad k (take n f) ≡ Some i → i < k + n
seen_within zero k i f e = absurd (cc)
seen_within (suc n) k i [] e = absurd (cc)
seen_within (suc n) k i (b ∷ f) e = by (is_printable b) e (seen_within n (k + 1) i f)
  where
    by : (t : Bool) → cond (not t) (Some k) (position_from bad (k + 1) (take n f)) ≡ Some i → (position_from bad (k + 1) (take n f) ≡ Some i → i < k + 1 + n) → i < k + suc n
    by true e on = let h : i < k + 1 + n = on e in omega arith
    by false e on = let h : k ≡ i = cc in omega arith

-- none of them: what stands behind them decides
unseen : (n k : ℕ) (f : List ℕ) → position_from bad k (take n f) ≡ None → bytes n (k + 1) f ≡ bytes 0 (length (take n f) + k + 1) (drop n f)
unfolding bytes check ◌⨾◌
unseen zero k f e = ap (λ m. bytes 0 m f) (omega arith)
unseen (suc n) k [] e = ap (fault 3) (omega arith)
unseen (suc n) k (b ∷ f) e = by (is_printable b) e (unseen n (k + 1) f)
  where
    by : (t : Bool) → cond (not t) (Some k) (position_from bad (k + 1) (take n f)) ≡ None → (position_from bad (k + 1) (take n f) ≡ None → bytes n (k + 1 + 1) f ≡ bytes 0 (length (take n f) + (k + 1) + 1) (drop n f)) → check t 4 (k + 1) ⨾ bytes n (k + 1 + 1) f ≡ bytes 0 (suc (length (take n f)) + k + 1) (drop n f)
    by true e on = on e ∙ ap (λ m. bytes 0 m (drop n f)) (omega arith)
    by false e on = absurd (cc)

module _ (f : List ℕ) {columns : List ℕ} (cut : columns ≡ take 80 f) {r : Option ℕ} (first : r ≡ position_from bad 0 columns) where
  found : r ≡ position_from bad 0 (take 80 f)
  found = first ∙ ap (position_from bad 0) cut

  pub bad_byte : {i : ℕ} → r ≡ Some i → {w : Flaw} → w ≡ flaw 4 (i + 1) → Err w ≡ judged_of (bytes 80 1 f)
  unfolding judged_of
  bad_byte {i} e z = rw z (sym (ap judged_of (seen 80 0 i f (sym found ∙ e))))

  pub bad_within : {i : ℕ} → r ≡ Some i → i < 80
  bad_within {i} e = seen_within 80 0 i f (sym found ∙ e)

  behind : r ≡ None → bytes 0 (length (take 80 f) + 0 + 1) (drop 80 f) ≡ bytes 80 1 f
  behind e = sym (unseen 80 0 f (sym found ∙ e))

  pub no_feed : r ≡ None → length f ≤ 80 → {w : Flaw} → w ≡ flaw 3 (length f + 1) → Err w ≡ judged_of (bytes 80 1 f)
  unfolding judged_of bytes
  no_feed e k z =
      let all : take 80 f ≡ f = take_all 80 f k in
      rw z (ap judged_of (ap (fault 3) (omega (arith, ap length all)) ∙ ap (bytes 0 (length (take 80 f) + 0 + 1)) (sym (drop_of_length-le f k)) ∙ behind e))

  -- column 81
  at_81 : r ≡ None → 80 < length f → bytes 80 1 f ≡ check (get_or f 80 0 =? 10) 5 81
  unfolding bytes
  at_81 e k = sym (behind e) ∙ rw (drop-cons f 80 0 k) (ap (λ m. check (get_or f 80 0 =? 10) 5 (m + 0 + 1)) (length-take-le 80 f (omega arith)))

  pub other_byte : r ≡ None → 80 < length f → (get_or f 80 0 ≡ 10 → ⊥) → {w : Flaw} → w ≡ flaw 5 81 → Err w ≡ judged_of (bytes 80 1 f)
  unfolding judged_of check
  other_byte e k n z = rw z (sym (rw (at_81 e k, of≢ n)))

  pub fine : r ≡ None → 80 < length f → get_or f 80 0 ≡ 10 → Ok tt ≡ judged_of (bytes 80 1 f)
  unfolding judged_of check
  fine e k y = sym (rw (at_81 e k, of≡ y))
