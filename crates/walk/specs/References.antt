-- 11 and 12 by the words of the table and the columns of a line.
use Rattle.std.specs.Prelude.{◌≡◌, Bool, true, cond, not, List, [], ◌∷◌, map, ℕ, get_or}
use Rattle.rules.specs.Tests.{◌=?◌}
use Rattle.rules.specs.Fields.{Verdict, check, Check, run}
use Rattle.rules.specs.Kinds.{*80*}
use Rattle.rules.specs.Files.{lines, meanings, formed_lines}
use Rattle.rules.specs.References.{Naming, namings, words}
use Rattle.rules.specs.Chapter4.{chapter4}
use Rattle.reading.specs.Values.{nat_in}
use Rattle.walk.specs.Words.{slot_in}

-- 11: the word of its station is the record itself
unfoldable pub first_in : List ℕ → ℕ → List ℕ → Verdict
first_in t r l = check (get_or t (slot_in *80* (nat_in 11 4 l)) 0 =? r) 11 11

-- the word of a number that records of kind k define is 0
unfoldable pub undefined_in : List ℕ → ℕ → ℕ → Bool
undefined_in t k n = get_or t (slot_in k n) 0 =? 0

-- what records of kind k name
unfoldable pub named_by : ℕ → List Naming → List Naming
named_by k [] = []
named_by k (N ∷ Ns) = cond (k =? N.by) (N ∷ named_by k Ns) (named_by k Ns)

-- 12: the words of what a record names are not 0
abbrev pub word_check : List ℕ → List ℕ → Naming → Check
word_check t l N = record { test = not (undefined_in t N.family.kind (nat_in N.column N.family.width l)); number = 12; column = N.column }

unfoldable pub named_in : List ℕ → ℕ → List ℕ → Verdict
named_in t k l = run (map (word_check t l) (named_by k namings))

unfoldable pub ref_in : List ℕ → ℕ → ℕ → List ℕ → Verdict
ref_in t r k l = cond (k =? *80*) (first_in t r l) (named_in t k l)

-- a file that the walk accepted, and the table that it filled
pub record Referable (f t : List ℕ) : Type 0 where
  pub form : formed_lines chapter4 1 (lines f) ≡ true
  pub table : t ≡ words (meanings chapter4 f)
