-- Inputs that differ only in trimming and line ends, from the promises alone.
use mathlib.Core.Path.{◌≡◌, refl, sym, ◌∙◌}
use mathlib.Core.Logic.{◌↔◌}
use mathlib.Core.List.{List}
use Prim.Native.Nat.{ℕ}
use Rattle.std.specs.Prelude.{Ok}
use Rattle.rules.specs.Files.{accept}
use Rattle.rules.specs.Padding.{texts, padded, judge_texts, OnlyTrimmed}
use Rattle.rules.proofs.PaddingLaws.{trimmed_same}
use Rattle.padding.proofs.PadDemands.{passed}
use Rattle.padded_files.specs.AfterPad.{Padding, padded_part, SameAnswers}
use Rattle.padded_files.proofs.OverPadded.{padded_part_is, same_answers}

lines_pass : {f : List ℕ} (x : Padding f) → judge_texts 1 (texts f) ≡ accept
lines_pass {f} x = passed f x.output (Ok x.lines) x.output_left x.promised refl

module _ {f g : List ℕ} (x : Padding f) (y : Padding g) where
  same_padded : (padded f ≡ padded g) ↔ OnlyTrimmed f g
  same_padded = trimmed_same f g (lines_pass x) (lines_pass y)

  -- pad leaves the same bytes exactly when the inputs differ only in trimming and line ends
  pub same_bytes_lem : (padded_part x ≡ padded_part y) ↔ OnlyTrimmed f g
  same_bytes_lem = (
    (λ e. same_padded.0 (sym (padded_part_is x) ∙ e ∙ padded_part_is y)),
    (λ o. padded_part_is x ∙ same_padded.1 o ∙ sym (padded_part_is y)),
  )

  -- and then form, references and rewrite answer the same
  pub trimmed_answers : OnlyTrimmed f g → SameAnswers x y
  trimmed_answers o = same_answers x y (same_padded.1 o)
