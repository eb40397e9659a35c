-- 02, T-07: all records of an accepted file, pulled in order, are the rewritten file byte for byte, from the promises of pull and rewrite alone.
use mathlib.Core.Path.{◌≡◌, sym, ◌∙◌}
use mathlib.Core.List.{List}
use Prim.Native.Nat.{ℕ}
use lib.ListN.{replicate}
use Rattle.rules.specs.Files.{begun}
use Rattle.rules.specs.Pulling.{every_record}
use Rattle.rules.proofs.PullingLaws.{all_pulled}
use Rattle.rewriting.specs.Promise as rewrite
use Rattle.rewriting.proofs.RewriteDemands.{its_file, its_style}
use Rattle.pulling.proofs.PullDemands.{lines_are, faults_are}
use Rattle.pulled_records.specs.AfterPull.{Pull, pulled_part, faults_part}

-- a run of pull over all records of a file, and a run of rewrite that took it
pub whole : (f : List ℕ) (x : Pull f (every_record f)) (y : rewrite.Run f) → (pulled_part x ≡ rewrite.styled y) × (faults_part x ≡ replicate (begun f) 0)
unfolding pulled_part faults_part
whole f x y =
    let all = all_pulled f (its_file f y) in (
      lines_are f (every_record f) x.output x.places x.answer x.output_left x.places_left x.promised x.good ∙ all.0 ∙ sym (its_style f y),
      faults_are f (every_record f) x.output x.places x.answer x.output_left x.places_left x.promised x.good ∙ all.1,
    )
