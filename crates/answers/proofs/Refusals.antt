-- A refused call hands back no counts and no lines: where the first word of an answer is not 0, the words behind the fault are.
use mathlib.Core.Path.{◌≡◌, refl}
use mathlib.Core.List.{List}
use Prim.Native.Nat.{ℕ, ◌≤◌}
use lib.ListN.{length, get_or, replicate, take, drop}
use Rattle.rules.proofs.Truth.{of≤}
use Rattle.rules.specs.Calls.{form_answer, rewrite_answer}
use Rattle.rules.specs.Padding.{pad_answer}
use Rattle.kinds.specs.Values.{checked_of}
use Rattle.kinds.specs.declared.Fault.{Fault}
use Rattle.padding.specs.Promise.{padded_of}
use Rattle.std.specs.Prelude.{Result, Ok, Err}
use Rattle.answers.specs.Answers.{answered, fault_words, fault_in, counts_in, checked_words, lines_in, padded_words}
use Rattle.answers.specs.Promise.{Forms, Rewrites, Pads}

no_counts : (v : Result (List ℕ) Fault) (a b : List ℕ) → b ≡ answered 17 (checked_words v) a → 17 ≤ length a → (get_or b 0 0 ≡ 0 → ⊥) → take 14 (drop 3 b) ≡ replicate 14 0
unfolding answered checked_words fault_words fault_in counts_in
no_counts (Ok cs) a b e h refused = absurd (refused (rw (e, of≤ h)))
no_counts (Err g) a b e h refused = rw (e, of≤ h)

no_lines : (v : Result ℕ Fault) (a b : List ℕ) → b ≡ answered 4 (padded_words v) a → 4 ≤ length a → (get_or b 0 0 ≡ 0 → ⊥) → get_or b 3 0 ≡ 0
unfolding answered padded_words fault_words fault_in lines_in
no_lines (Ok n) a b e h refused = absurd (refused (rw (e, of≤ h)))
no_lines (Err g) a b e h refused = rw (e, of≤ h)

pub form_refused : (f a b : List ℕ) → Forms f a b → 17 ≤ length a → (get_or b 0 0 ≡ 0 → ⊥) → take 14 (drop 3 b) ≡ replicate 14 0
form_refused f a b p = no_counts (checked_of (form_answer f)) a b p.answer

pub rewrite_refused : (f t o a u p b : List ℕ) → Rewrites f t o a u p b → 17 ≤ length a → (get_or b 0 0 ≡ 0 → ⊥) → take 14 (drop 3 b) ≡ replicate 14 0
rewrite_refused f t o a u p b x = no_counts (checked_of (rewrite_answer f t o)) a b x.answer

pub pad_refused : (f o a p b : List ℕ) → Pads f o a p b → 4 ≤ length a → (get_or b 0 0 ≡ 0 → ⊥) → get_or b 3 0 ≡ 0
pad_refused f o a p b x = no_lines (padded_of (pad_answer f o)) a b x.answer
