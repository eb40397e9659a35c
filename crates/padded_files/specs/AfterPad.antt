-- 02, T-01: demands 2 and 3 over the padded file, stated of pad and of form, references or rewrite after it.
use Rattle.std.specs.Prelude.{◌≡◌, ◌↔◌, List, ℕ, ◌*◌, length, take, Result, Ok}
use Rattle.std.proofs.Common.{subst}
use Rattle.rules.specs.Files.{lines}
use Rattle.rules.specs.Padding.{padded}
use Rattle.kinds.specs.declared.Fault.{Fault}
use Rattle.walk.specs.Promise as walk
use Rattle.rewriting.specs.Promise as rewrite
use Rattle.padding.specs.Promise as pad

-- a run of pad that took the input f
pub record Padding (f : List ℕ) : Type 0 where
  pub output : List ℕ
  pub lines : ℕ
  pub output_left : List ℕ
  pub promised : pad.Promised f output (Ok lines) output_left

-- the first 81 x lines bytes of the output that it left
unfoldable pub padded_part : {f : List ℕ} → Padding f → List ℕ
padded_part x = take (81 * x.lines) x.output_left

-- demands 1 and 2 of form after pad, read over the padded file
pub record FormsPadded (f : List ℕ) (v : Result (List ℕ) Fault) : Type 0 where
  pub refusing : walk.FormRefusing v
  pub judging : walk.FormJudging (padded f) v

-- of references after pad
pub record RefersPadded (f t : List ℕ) (w : Result (Unit {0}) Fault) (u : List ℕ) : Type 0 where
  pub refusing : walk.ReferencesRefusing t w u
  pub judging : walk.ReferencesJudging (padded f) t w u

-- of what both say together
pub record JudgesPadded (f t : List ℕ) (v : Result (List ℕ) Fault) (u : List ℕ) : Type 0 where
  pub refusing : walk.Refusing t v u
  pub judging : walk.Judging (padded f) t v u

-- demands 1 and 2 of a rewriting after pad, read over the padded file
pub record RewritesPadded (f t o : List ℕ) (v : Result (List ℕ) Fault) (u p : List ℕ) : Type 0 where
  pub refusing : rewrite.Refusing t o v u p
  pub judging : rewrite.Judging (padded f) t o v u

-- a run of rewrite said of an equal file: the same table, output and answer, so that demand 3 can be read over the padded file
unfoldable pub said_of : {a b : List ℕ} → a ≡ b → rewrite.Run a → rewrite.Run b
said_of e r = record {
  table = r.table;
  output = r.output;
  answer = r.answer;
  table_left = r.table_left;
  output_left = r.output_left;
  promised = subst (λ f. rewrite.Promised f r.table r.output r.answer r.table_left r.output_left) e r.promised;
  accepted = r.accepted;
}

-- after two runs of pad form, references and rewrite, lent the same, answer the same and leave the same
pub record SameAnswers {f g : List ℕ} (x : Padding f) (y : Padding g) : Type 0 where
  pub forms : (v w : Result (List ℕ) Fault) → walk.FormPromised (padded_part x) v → walk.FormPromised (padded_part y) w → v ≡ w
  pub refers : (t : List ℕ) (v w : Result (Unit {0}) Fault) (u s : List ℕ) → walk.ReferencesPromised (padded_part x) t v u → walk.ReferencesPromised (padded_part y) t w s
      → (v ≡ w) × (u ≡ s)
  pub rewrites : (t o : List ℕ) (v w : Result (List ℕ) Fault) (u s p q : List ℕ) → rewrite.Promised (padded_part x) t o v u p → rewrite.Promised (padded_part y) t o w s q
      → (v ≡ w) × (u ≡ s) × (p ≡ q)

-- pad took f and changed nothing of it: as many lines as records, and form, references and rewrite answer as without padding
pub record Unchanged (f : List ℕ) (v : Result ℕ Fault) (p : List ℕ) : Type 0 where
  pub good : v ≡ Ok (length (lines f))
  pub same : take (81 * length (lines f)) p ≡ f
  pub forms : (w : Result (List ℕ) Fault) → walk.FormPromised (take (81 * length (lines f)) p) w ↔ walk.FormPromised f w
  pub refers : (t : List ℕ) (w : Result (Unit {0}) Fault) (u : List ℕ) → walk.ReferencesPromised (take (81 * length (lines f)) p) t w u ↔ walk.ReferencesPromised f t w u
  pub rewrites : (t o : List ℕ) (w : Result (List ℕ) Fault) (u q : List ℕ) → rewrite.Promised (take (81 * length (lines f)) p) t o w u q ↔ rewrite.Promised f t o w u q
