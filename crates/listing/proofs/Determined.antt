-- What the promise of `list` says: it determines the answer, every word of the table and every byte of the output. Assumes nothing.
use mathlib.Core.Path.{◌≡◌, refl, sym, ◌∙◌, ap}
use mathlib.Core.List.{List, ◌++◌}
use Prim.Native.Nat.{ℕ, ◌≤◌, ◌<◌}
use native.Mathlib.Omega.{arith}
use lib.ListN.{length, take, drop, length-append, length-drop}
use lib.Seq.{take_at, drop_at, length-take-le}
use Rattle.rules.specs.Sheet.{sheet}
use Rattle.rules.specs.Tests.{◌≤?◌}
use Rattle.rules.proofs.Truth.{to≤, cases}
use Rattle.listing.specs.Listing.{big_enough, list_answer, list_output, Promised}
use Rattle.listing.proofs.SheetLaws.{short_answer, short_table, short_output, big_answer, big_output_lem}
use Rattle.listing.proofs.Lengths.{sheet-sized}

-- the input f, the table t and the output o at entry
module _ (f t o : List ℕ) where
  -- 01, "Each public call's promise determines its verdict, its values and every lent byte or word afterwards"
  pub one_result : {r r' : ℕ} {words words' left left' : List ℕ} → Promised f t o r words left → Promised f t o r' words' left' → (r ≡ r') × (words ≡ words') × (left ≡ left')
  one_result p q = (p.answer ∙ sym q.answer, p.table ∙ sym q.table, p.output ∙ sym q.output)

  -- an output below 512 bytes: nothing is touched, and the answer is 0
  pub nothing-listed : {r : ℕ} {words left : List ℕ} → length o < 512 → Promised f t o r words left → (r ≡ 0) × (words ≡ t) × (left ≡ o)
  nothing-listed h p = one_result p record { answer = short_answer f t o h; table = short_table f t o h; output = short_output f t o h }

  -- otherwise the sheet stands at the start, and what lies behind it stays; the answer is its length, which is never 0
  module _ {r : ℕ} {words left : List ℕ} (h : 512 ≤ length o) (p : Promised f t o r words left) where
    long : r ≡ length (sheet f t)
    long = p.answer ∙ big_answer f t o h

    pub sheet-listed : take r left ≡ sheet f t
    sheet-listed = rw (long, p.output, big_output_lem f t o h) (take_at (sheet f t) _ (length (sheet f t)) refl)

    pub sheet_beyond : drop r left ≡ drop r o
    sheet_beyond = rw (long, p.output, big_output_lem f t o h) (drop_at (sheet f t) _ (length (sheet f t)) refl)

    pub sheet-some : 1 ≤ r
    sheet-some = rw long (sheet-sized f t).some

-- the answer is a number of the output's bytes, and the output keeps its length
answer_within : (f t o : List ℕ) → list_answer f t o ≤ length o
unfolding list_answer big_enough
answer_within f t o = cases (512 ≤? length o) (λ e. rw e (omega (arith, to≤ e, (sheet-sized f t).short))) (λ e. rw e (omega arith))

text_over : (text o : List ℕ) → length text ≤ length o → length (text ++ drop (length text) o) ≡ length o
text_over text o h = rw (length-append text (drop (length text) o), length-drop (length text) o) (omega arith)

output_long : (f t o : List ℕ) → length (list_output f t o) ≡ length o
unfolding list_output big_enough
output_long f t o = cases (512 ≤? length o) (λ e. rw e (text_over (sheet f t) o (omega (arith, to≤ e, (sheet-sized f t).short)))) (λ e. rw e)

module _ (f t o : List ℕ) {r : ℕ} {words left : List ℕ} (p : Promised f t o r words left) where
  pub answer_fits : r ≤ length left
  answer_fits = let e : length left ≡ length o = ap length p.output ∙ output_long f t o in omega (arith, p.answer, answer_within f t o)

  pub text_taken : r ≡ length (take r left)
  text_taken = sym (length-take-le r left answer_fits)
