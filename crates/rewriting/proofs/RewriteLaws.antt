-- The call: room, what form and references answer together, and what then stands in the output.
use mathlib.Core.Path.{◌≡◌, refl, sym, ◌∙◌, ap}
use mathlib.Core.Bool.{Bool, true, false, false≢true}
use mathlib.Core.List.{List, ◌++◌}
use Prim.Native.Nat.{ℕ, ◌≤◌, ◌<◌}
use lib.ListN.{length, drop}
use Rattle.std.specs.Prelude.{Result, Err, is_ok, IsOk}
use Rattle.rules.specs.Tests.{◌&◌, ◌=?◌}
use Rattle.rules.specs.Files.{is_accept, lines, join, meanings, verdict, accepted, styles, house_style, rewritten, formed_lines}
use Rattle.rules.specs.Calls.{outcome, big_table, big_output, answer, table_left, output_left, file_answer, references_table, rewrite_room, rewrite_answer, rewrite_table, rewrite_output}
use Rattle.rules.specs.Chapter4.{chapter4}
use Rattle.rules.proofs.Truth.{of≤, of>, cases, and_true}
use Rattle.rules.proofs.FileLaws.{accepted-parts}
use Rattle.kinds.specs.declared.Fault.{Fault}
use Rattle.kinds.specs.Values.{checked_of}
use Rattle.walk.proofs.JudgeLaws.{answer_ok, answer_told, outcome_from_1}

-- ---- an output shorter than the file
module _ (f t o : List ℕ) (h : length o < length f) where
  pub no_room : rewrite_room f t o ≡ false
  unfolding rewrite_room big_output ◌&◌
  no_room = rw (of> {m = length f} {n = length o} h) (cases (big_table t) (λ e. rw e) (λ e. rw e))

  pub tight_answer : {g : Fault} → g ≡ record { number = 1; «record» = 0; column = 0 } → Err g ≡ checked_of (rewrite_answer f t o)
  unfolding rewrite_answer outcome checked_of answer ◌=?◌
  tight_answer z = rw (z, no_room)

  pub tight_table : t ≡ rewrite_table f t o
  unfolding rewrite_table table_left
  tight_table = rw no_room

  pub tight_output : o ≡ rewrite_output f t o
  unfolding rewrite_output output_left outcome is_accept
  tight_output = rw no_room

-- ---- with room it goes by the table, as references do
module _ (f t o : List ℕ) (h : length f ≤ length o) where
  pub by_table : rewrite_room f t o ≡ big_table t
  unfolding rewrite_room big_output
  by_table = rw (of≤ h) (and_true (big_table t))

  module _ (v : Result (List ℕ) Fault) (e : v ≡ checked_of (file_answer f t)) where
    pub roomy_answer : v ≡ checked_of (rewrite_answer f t o)
    unfolding rewrite_answer file_answer
    roomy_answer = e ∙ rw by_table

    pub roomy_table : (u : List ℕ) → u ≡ references_table f t → u ≡ rewrite_table f t o
    unfolding rewrite_table references_table
    roomy_table u q = q ∙ rw by_table

    file_is : file_answer f t ≡ answer (outcome (big_table t) f) (meanings chapter4 f)
    unfolding file_answer
    file_is = refl

    accepts : is_ok v ≡ is_accept (outcome (big_table t) f)
    accepts =
        ap is_ok (e ∙ ap checked_of file_is ∙ answer_told (outcome (big_table t) f) (meanings chapter4 f) (outcome_from_1 (big_table t) f))
        ∙ answer_ok (outcome (big_table t) f) (meanings chapter4 f)

    taken : IsOk v → is_accept (outcome (big_table t) f) ≡ true
    taken z = sym accepts ∙ z

    -- an accepted file has good lines
    pub good-lines : IsOk v → formed_lines chapter4 1 (lines f) ≡ true
    good-lines z = (accepted-parts chapter4 f (unfold accepted in by (big_table t) (taken z))).0
      where
        by : (b : Bool) → is_accept (outcome b f) ≡ true → is_accept (verdict chapter4 f) ≡ true
        by true a = unfold outcome in a
        by false a = absurd (false≢true (unfold outcome is_accept in a))

    pub roomy_output : IsOk v → (u : List ℕ) → u ≡ join (styles chapter4 1 (meanings chapter4 f)) ++ drop (length f) o → u ≡ rewrite_output f t o
    unfolding rewrite_output output_left rewritten house_style
    roomy_output z u q = q ∙ rw (by_table, taken z)

    pub kept_output : is_ok v ≡ false → o ≡ rewrite_output f t o
    unfolding rewrite_output output_left
    kept_output n = rw (by_table, sym accepts ∙ n)
