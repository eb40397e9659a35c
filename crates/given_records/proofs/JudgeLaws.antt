-- Tests in a row: one law for each way through a function. Assumes nothing.
use mathlib.Core.Path.{◌≡◌, refl, sym}
use mathlib.Core.Bool.{Bool, true, false, not, ◌&&◌, ◌||◌}
use mathlib.Core.List.{List, [], ◌∷◌, ◌++◌}
use Prim.Native.Nat.{ℕ}
use lib.Dec.{eqb}
use lib.ListN.{length}
use Rattle.rules.specs.Tests.{◌&◌, ◌=?◌, all}
use Rattle.rules.specs.Characters.{is_blank}
use Rattle.rules.specs.Items.{Test, word, text, on_text, passes, width, shape, value_of, fits, good}
use Rattle.rules.specs.Fields.{Verdict, ok, fault, check, ◌⨾◌, same_truth, is_missing}
use Rattle.rules.proofs.Truth.{of≡}
use Rattle.rules.proofs.FieldLaws.{⨾_assoc}
use Rattle.columns.proofs.Loops.{&_is}

-- what follows a good test alone matters
pub ⨾_same : (b : Bool) (n c : ℕ) (u v : Verdict) → (b ≡ true → u ≡ v) → (check b n c ⨾ u) ≡ (check b n c ⨾ v)
unfolding check ◌⨾◌
⨾_same true n c u v f = f refl
⨾_same false n c u v f = refl

pub ok_then : (v : Verdict) → (ok ⨾ v) ≡ v
unfolding ◌⨾◌
ok_then v = refl

pub fault_then : (n c : ℕ) (v : Verdict) → (fault n c ⨾ v) ≡ fault n c
unfolding ◌⨾◌
fault_then n c v = refl

pub ruleset firsts = (ok_then, fault_then)

-- ---- words
twice : (p : Bool) → (true & p & (true & p)) ≡ p
unfolding ◌&◌
twice true = refl
twice false = refl

pub word_good : (q : Test) (t : List ℕ) → good (word (length t) q) t ≡ passes q t
unfolding good width shape value_of fits on_text
word_good q t = rw (of≡ {m = length t} refl) (twice (passes q t))

pub word_fits : (w : ℕ) (q : Test) (t : List ℕ) {g : Bool} → g ≡ good (word (length t) q) t → (eqb (length t) w && g) ≡ fits (word w q) (text t)
unfolding fits on_text ◌=?◌
word_fits w q t e = rw (e, word_good q t) (sym (&_is (eqb (length t) w) (passes q t)))

-- ---- agreement
pub tie_test : (m : Bool) (t : ℕ) → (m && eqb t 32 || not m && not (eqb t 32)) ≡ same_truth m (is_missing (text (t ∷ [])))
unfolding same_truth is_missing all is_blank ◌=?◌
tie_test m t = go m (eqb t 32)
  where
    go : (m z : Bool) → (m && z || not m && not z) ≡ same_truth m (z & true)
    go true true = unfold ◌&◌ in refl
    go true false = unfold ◌&◌ in refl
    go false true = unfold ◌&◌ in refl
    go false false = unfold ◌&◌ in refl

-- ---- verdicts in a row
abbrev pub chain : List Verdict → Verdict
chain [] = ok
chain (v ∷ vs) = v ⨾ chain vs

pub chain_append : (us vs : List Verdict) → chain (us ++ vs) ≡ (chain us ⨾ chain vs)
chain_append [] vs = unfold ◌⨾◌ in refl
chain_append (u ∷ us) vs = rw (chain_append us vs) (sym (⨾_assoc u (chain us) (chain vs)))

-- some of them as one
pub chain_within : (us vs ws : List Verdict) → chain (us ++ (vs ++ ws)) ≡ chain (us ++ chain vs ∷ ws)
chain_within [] vs ws = chain_append vs ws
chain_within (u ∷ us) vs ws = rw (chain_within us vs ws)

-- two of them made as one test
pub chain_two : (us : List Verdict) (a b : Verdict) (vs : List Verdict) → chain (us ++ a ∷ b ∷ vs) ≡ chain (us ++ (a ⨾ b) ∷ vs)
chain_two [] a b vs = sym (⨾_assoc a b (chain vs))
chain_two (u ∷ us) a b vs = rw (chain_two us a b vs)
