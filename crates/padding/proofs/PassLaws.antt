-- From one line to the next, and the judge that goes so: the verdict on what is left from here is the verdict on all.
use mathlib.Core.Path.{◌≡◌, refl, sym, ◌∙◌, ap}
use mathlib.Core.List.{List, [], ◌∷◌}
use Prim.Native.Nat.{ℕ, ◌+◌, ◌-◌, ◌≤◌, ◌<◌}
use native.Mathlib.Nat.{le_trans}
use native.Mathlib.Omega.{arith}
use lib.ListN.{length, length-take, length-drop, take, drop, drop_of_length-le}
use lib.Seq.{drop-drop, length-take-le}
use Rattle.std.specs.Prelude.{Ok, Err}
use Rattle.rules.specs.Tests.{◌=?◌}
use Rattle.rules.specs.Fields.{check, ◌⨾◌}
use Rattle.rules.specs.Files.{accept, refuse, in_record}
use Rattle.rules.specs.Padding.{lines_of, texts, judge_texts, pad_answer_by}
use Rattle.rules.proofs.Truth.{of≤, of>, of≢}
use Rattle.kinds.specs.declared.Fault.{Fault}
use Rattle.padding.specs.Lines.{feed_at, text_length}
use Rattle.padding.specs.Promise.{padded_of}
use Rattle.padding.proofs.FeedLaws.{feed_most}
use Rattle.padding.proofs.TextLaws.{text_most, first-text, fitting_text, long_text}

-- ---- one line judged
pub judged_2 : (r : ℕ) (t : List ℕ) (ts : List (List ℕ)) → 99_999 < r → judge_texts r (t ∷ ts) ≡ refuse 2 r 1
unfolding judge_texts in_record check ◌⨾◌
judged_2 r t ts h = rw (of> h)

pub judged_5 : (r : ℕ) (t : List ℕ) (ts : List (List ℕ)) → r ≤ 99_999 → 80 < length t → judge_texts r (t ∷ ts) ≡ refuse 5 r 81
unfolding judge_texts in_record check ◌⨾◌
judged_5 r t ts h k = rw (of≤ h, of> k)

pub judged_on : (r : ℕ) (t : List ℕ) (ts : List (List ℕ)) → r ≤ 99_999 → length t ≤ 80 → judge_texts r (t ∷ ts) ≡ judge_texts (r + 1) ts
unfolding judge_texts in_record check ◌⨾◌
judged_on r t ts h k = rw (of≤ h, of≤ k)

pub no_texts : (f : List ℕ) (at : ℕ) → length f ≤ at → texts (drop at f) ≡ []
no_texts f at h = ap texts (drop_of_length-le f h) ∙ (unfold texts lines_of in refl)

-- ---- where the line is that starts at a place
-- the 82 bytes in which it is looked for
pub window : (f : List ℕ) (at : ℕ) → take (at + 82 - at) (drop at f) ≡ take 82 (drop at f)
window f at = let width : at + 82 - at ≡ 82 = omega arith in ap (λ m. take m (drop at f)) width

pub start_within : (f : List ℕ) (at : ℕ) → at ≤ length f → (w : List ℕ) → w ≡ take 82 (drop at f) → (n : ℕ) → n ≡ feed_at w → at + n ≤ length f
start_within f at h w ew n en = omega (arith, en, feed_most w, ap length ew, length-take 82 (drop at f), length-drop at f)

module _ (f : List ℕ) (at : ℕ) (h : at < length f) where
  some : 0 < length (drop at f)
  some = omega (arith, length-drop at f)

  module _ (w : List ℕ) (ew : w ≡ take 82 (drop at f)) (n : ℕ) (en : n ≡ feed_at w) where
    feed_there : n ≤ length w
    feed_there = rw en (feed_most w)

    pub next_within : at + (n + 1) ≤ length f + 1
    next_within = omega (arith, start_within f at (omega arith) w ew n en)

    module _ (k : ℕ) (ek : k ≡ text_length w n) where
      pub text_there : k ≤ length w
      text_there = le_trans (rw ek (text_most w n)) feed_there

      pub next_text : k ≤ 80 → texts (drop at f) ≡ take k w ∷ texts (drop (at + (n + 1)) f)
      next_text l = fitting_text (drop at f) some w ew n en k ek l ∙ ap (λ g. take k w ∷ texts g) (drop-drop (n + 1) at f)

      pub text_size : length (take k w) ≡ k
      text_size = length-take-le k w text_there

-- ---- line by line
pub record Judging (f : List ℕ) (at lines : ℕ) : Type 0 where
  pub few : lines ≤ 99_999
  pub within : at ≤ length f + 1
  pub verdict : judge_texts (lines + 1) (texts (drop at f)) ≡ judge_texts 1 (texts f)
  pub count : lines + length (texts (drop at f)) ≡ length (texts f)

pub judge_from : (f : List ℕ) → Judging f 0 0
judge_from f = record { few = omega arith; within = omega arith; verdict = refl; count = omega arith }

-- what a verdict gives is the answer
pub answer_is : (f : List ℕ) (n : ℕ) → accept ≡ judge_texts 1 (texts f) → n ≡ length (texts f) → Ok n ≡ padded_of (pad_answer_by (judge_texts 1 (texts f)) (length (texts f)))
unfolding padded_of pad_answer_by ◌=?◌
answer_is f n p q = rw (← p, q)

refusal_is : (f : List ℕ) (x r c : ℕ) → 1 ≤ x → {b : Fault} → b ≡ record { number = x; «record» = r; column = c } → judge_texts 1 (texts f) ≡ refuse x r c
    → Err b ≡ padded_of (pad_answer_by (judge_texts 1 (texts f)) (length (texts f)))
unfolding padded_of pad_answer_by
refusal_is f x r c h z p = rw (z, p, of≢ {m = x} {n = 0} (λ y. omega arith))

module _ (f : List ℕ) (at lines : ℕ) (g : Judging f at lines) where
  pub judge_end : length f ≤ at → Ok lines ≡ padded_of (pad_answer_by (judge_texts 1 (texts f)) (length (texts f)))
  judge_end h =
      let none : accept ≡ judge_texts (lines + 1) [] = unfold judge_texts in refl in
      answer_is f lines
      (none ∙ ap (judge_texts (lines + 1)) (sym (no_texts f at h)) ∙ g.verdict)
      (omega (arith, ap length (no_texts f at h), g.count))

  module _ (h : at < length f) where
    pub judge_2 : lines ≡ 99_999 → {b : Fault} → b ≡ record { number = 2; «record» = 100_000; column = 1 } → Err b ≡ padded_of (pad_answer_by (judge_texts 1 (texts f)) (length (texts f)))
    judge_2 l e =
        let last : lines + 1 ≡ 100_000 = omega arith in
        refusal_is f 2 100_000 1 (omega arith) e
        (sym g.verdict ∙ ap (judge_texts (lines + 1)) (first-text (drop at f) (some f at h)) ∙ judged_2 (lines + 1) _ _ (omega arith) ∙ ap (λ r. refuse 2 r 1) last)

    module _ (z : lines ≡ 99_999 → ⊥) (w : List ℕ) (ew : w ≡ take 82 (drop at f)) (n : ℕ) (en : n ≡ feed_at w) (k : ℕ) (ek : k ≡ text_length w n) where
      below : lines + 1 ≤ 99_999
      below = omega (arith, z, g.few)

      pub judge_5 : 80 < k → {b : Fault} → b ≡ record { number = 5; «record» = lines + 1; column = 81 } → Err b ≡ padded_of (pad_answer_by (judge_texts 1 (texts f)) (length (texts f)))
      judge_5 l e =
          let x = long_text (drop at f) (some f at h) w ew n en k ek l in
          refusal_is f 5 (lines + 1) 81 (omega arith) e
          (sym g.verdict ∙ ap (judge_texts (lines + 1)) x.2 ∙ judged_5 (lines + 1) x.0 x.1 below x.3)

      pub judge_next : k ≤ 80 → Judging f (at + (n + 1)) (lines + 1)
      judge_next l =
          let e = next_text f at h w ew n en k ek l in
          record {
            few = below;
            within = next_within f at h w ew n en;
            verdict = sym (judged_on (lines + 1) (take k w) _ below (omega (arith, text_size f at h w ew n en k ek))) ∙ ap (judge_texts (lines + 1)) (sym e) ∙ g.verdict;
            count = omega (arith, g.count, ap length e);
          }
