-- "A carriage return anywhere else is copied, for check to refuse": what form says of a padded file in which a line has one, from the promises alone.
use mathlib.Core.Path.{◌≡◌, refl, ◌∙◌, ap}
use mathlib.Core.Bool.{true}
use mathlib.Core.List.{List, [], ◌∷◌, ◌++◌}
use Prim.Native.Nat.{ℕ, ◌+◌, ◌-◌, ◌<◌}
use native.Mathlib.Omega.{arith}
use lib.ListN.{length, replicate, get_or, take}
use lib.Seq.{take-append-add}
use Rattle.std.specs.Prelude.{Result, Ok, IsOk}
use Rattle.rules.specs.Tests.{all}
use Rattle.rules.specs.Members.{◌∈◌}
use Rattle.rules.specs.Characters.{is_printable}
use Rattle.rules.specs.Files.{accept, line_at, begun}
use Rattle.rules.specs.Conforms.{Formed}
use Rattle.rules.specs.Padding.{texts, padded, judge_texts}
use Rattle.rules.proofs.Truth.{all-parts, all_members}
use Rattle.rules.proofs.SetLaws.{printed_of}
use Rattle.rules.proofs.PaddingLaws.{padded_long, padded_line_lem, not_printed, short_at}
use Rattle.kinds.specs.declared.Fault.{Fault}
use Rattle.walk.specs.Promise as walk
use Rattle.padding.proofs.PadDemands.{passed}
use Rattle.padded_files.specs.AfterPad.{Padding, padded_part}
use Rattle.padded_files.proofs.OverPadded.{forms}

-- a line of the padded file begins with its source line
module _ (f : List ℕ) (good : judge_texts 1 (texts f) ≡ accept) (i : ℕ) (h : i < length (texts f)) where
  columns : (rest : List ℕ) × (take 80 (line_at (padded f) i) ≡ get_or (texts f) i [] ++ rest)
  columns =
      let t = get_or (texts f) i [] in
      let behind : List ℕ = replicate (80 - length t) 32 ++ (10 ∷ []) in
      let width : 80 ≡ length t + (80 - length t) = omega (arith, short_at f good i h) in
      (take (80 - length t) behind, ap (take 80) (padded_line_lem f good i h) ∙ ap (λ n. take n (t ++ behind)) width ∙ take-append-add t behind (80 - length t))

  its_record : i < begun (padded f)
  unfolding begun
  its_record = omega (arith, padded_long f good)

  formed_printed : Formed (padded f) → all is_printable (get_or (texts f) i []) ≡ true
  formed_printed c =
      let w = columns in
      (all-parts is_printable (get_or (texts f) i []) w.0 (rw w.1 at (printed_of _ (c.each i its_record).printed))).0

-- form accepts nothing that pad left where a line of the input has a CR
pub copied_refused : {f : List ℕ} (x : Padding f) (i : ℕ) → i < length (texts f) → 13 ∈ get_or (texts f) i []
    → (v : Result (List ℕ) Fault) → walk.FormPromised (padded_part x) v → IsOk v → ⊥
copied_refused {f} x i h cr v p zero =
    let good = passed f x.output (Ok x.lines) x.output_left x.promised refl in
    not_printed 13 (all_members is_printable (get_or (texts f) i []) (formed_printed f good i h ((forms x v p).judging.forming.0 zero)) 13 cr) (omega arith)
