-- The demands, proved for Chapter 4.
use mathlib.Core.Path.{◌≡◌, refl, sym, ◌∙◌, ap}
use mathlib.Core.Logic.{◌↔◌}
use mathlib.Core.Bool.{Bool, true}
use mathlib.Core.List.{List, [], ◌∷◌, map}
use Prim.Native.Nat.{ℕ}
use lib.ListN.{length, length-map}
use Rattle.rules.specs.Records.{code_at, meaning}
use Rattle.rules.specs.Files.{is_accept, lines, meanings, form_verdict, verdict, accepted, rewritten}
use Rattle.rules.specs.Kinds.{kind_of}
use Rattle.rules.specs.References.{counts, sum}
use Rattle.rules.specs.Faults.{FirstOf, FormFault, HasFault, CallFaults, ReferencesFaults}
use Rattle.rules.specs.Calls.{outcome, references_outcome}
use Rattle.rules.specs.Chapter4.{chapter4}
use Rattle.rules.specs.Demands.{Demand2, Demand3, Tells}
use Rattle.rules.proofs.Truth.{both}
use Rattle.rules.proofs.FileLaws.{walk_splits, formed-meant, keeps_accepted, keeps_meaning, keeps_codes, keeps_records, keeps_length, settled, numbered_anew, same_style_same_meaning, accepted-meant}
use Rattle.rules.proofs.ReferenceLaws.{word_in, word_first}
use Rattle.rules.proofs.TableLaws.{tabled, filled_is_words, count_at, counts-sum}
use Rattle.rules.proofs.FileFaults.{one_first, none_iff, first_form, first-verdict, first-outcome, first_references}
use Rattle.rules.proofs.Chapter4Laws.{sound, sound_refs}
use Rattle.rules.proofs.Conforming.{accepted_conforms}
use Rattle.rules.proofs.InstrumentLaws.{together}

-- the first fault
pub first_fault : (enough : Bool) (f : List ℕ) → FirstOf (CallFaults chapter4 enough f) (outcome enough f)
unfolding outcome
first_fault enough f = first-outcome chapter4 sound sound_refs enough f

pub accepted_iff : (f : List ℕ) → (accepted chapter4 f ≡ true) ↔ ((n r c : ℕ) → HasFault chapter4 f n r c → ⊥)
unfolding accepted
accepted_iff f = none_iff (HasFault chapter4 f) (verdict chapter4 f) (first-verdict chapter4 sound sound_refs f)

-- 02, T-05: of each call
pub first_form_fault : (f : List ℕ) → FirstOf (FormFault chapter4 f) (form_verdict chapter4 f)
first_form_fault f = first_form chapter4 sound f

pub first_references_fault : (enough : Bool) (f : List ℕ) → FirstOf (ReferencesFaults chapter4 enough f) (references_outcome enough f)
unfolding references_outcome
first_references_fault enough f = first_references chapter4 sound sound_refs enough f

pub demand_2 : (enough : Bool) (f : List ℕ) → Demand2 enough f
demand_2 enough f = record {
  first = first_fault enough f;
  unique = λ v h. one_first (CallFaults chapter4 enough f) v (outcome enough f) h (first_fault enough f);
  exactly = accepted_iff f;
}

pub demand_3 : (a b : List ℕ) → accepted chapter4 a ≡ true → accepted chapter4 b ≡ true → Demand3 a b
demand_3 a b h k = record {
  same = same_style_same_meaning chapter4 sound a b h k;
  accepted_again = keeps_accepted chapter4 sound a h;
  means = keeps_meaning chapter4 sound a h;
  as_many = keeps_records chapter4 sound a h;
  as_long = keeps_length chapter4 sound a h;
  kinds = keeps_kinds (lines (rewritten chapter4 a)) (lines a) (keeps_codes chapter4 sound a h);
  settled = settled chapter4 sound a h;
  numbered = numbered_anew chapter4 sound a h;
}
  where
    twice : (ls : List (List ℕ)) → map kind_of (map code_at ls) ≡ map (λ l. kind_of (code_at l)) ls
    twice [] = refl
    twice (l ∷ ls) = ap (λ ks. kind_of (code_at l) ∷ ks) (twice ls)

    keeps_kinds : (xs ys : List (List ℕ)) → map code_at xs ≡ map code_at ys → map (λ l. kind_of (code_at l)) xs ≡ map (λ l. kind_of (code_at l)) ys
    keeps_kinds xs ys e = sym (twice xs) ∙ ap (map kind_of) e ∙ twice ys

-- the counts of a file whose form is good
pub form_counts : (f : List ℕ) → is_accept (form_verdict chapter4 f) ≡ true → sum (counts (meanings chapter4 f)) ≡ length (lines f)
unfolding meanings
form_counts f h =
    counts-sum (meanings chapter4 f) (formed-meant chapter4 1 (lines f) (both (sym (walk_splits chapter4 chapter4.start 1 (lines f)) ∙ h)).0) ∙ length-map (lines f) (meaning chapter4)

-- the counts and the words of an accepted file
pub counts-and-words : (f : List ℕ) → accepted chapter4 f ≡ true → Tells f (meanings chapter4 f)
counts-and-words f h =
    let ms = meanings chapter4 f in
    let meant = accepted-meant chapter4 f h in
    record {
      counted = count_at ms;
      none_passed_over = counts-sum ms meant ∙ (unfold meanings in length-map (lines f) (meaning chapter4));
      word = word_in ms;
      as_filled = filled_is_words ms meant;
      first = word_first ms;
      tabled = λ F i. tabled F i ms meant;
      together = together f ((accepted_conforms f).0 h).form;
    }
