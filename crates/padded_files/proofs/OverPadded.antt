-- Demands 1, 2 and 3 of form, references and rewrite after pad, from the promises alone.
use mathlib.Core.Path.{◌≡◌, refl, subst}
use mathlib.Core.List.{List}
use Prim.Native.Nat.{ℕ}
use Rattle.std.specs.Prelude.{Result, Ok}
use Rattle.rules.specs.Padding.{padded}
use Rattle.kinds.specs.declared.Fault.{Fault}
use Rattle.walk.specs.Promise as walk
use Rattle.walk.proofs.CallDemands as walked
use Rattle.rewriting.specs.Promise as rewrite
use Rattle.rewriting.proofs.RewriteDemands as rewritten
use Rattle.padding.proofs.PadDemands.{demand_2_pad}
use Rattle.padded_files.specs.AfterPad.{Padding, padded_part, FormsPadded, RefersPadded, JudgesPadded, RewritesPadded, said_of, SameAnswers}

module _ {f : List ℕ} (x : Padding f) where
  -- what pad left in the output's first 81 x lines bytes is the padded file
  pub padded_part_is : padded_part x ≡ padded f
  unfolding padded_part
  padded_part_is = (demand_2_pad f x.output (Ok x.lines) x.output_left x.promised).written x.lines refl

  -- what is promised of it is promised of the padded file
  pub form_padded : (v : Result (List ℕ) Fault) → walk.FormPromised (padded_part x) v → walk.FormPromised (padded f) v
  form_padded v = subst (λ a. walk.FormPromised a v) padded_part_is

  pub references_padded : (t : List ℕ) (w : Result (Unit {0}) Fault) (u : List ℕ) → walk.ReferencesPromised (padded_part x) t w u → walk.ReferencesPromised (padded f) t w u
  references_padded t w u = subst (λ a. walk.ReferencesPromised a t w u) padded_part_is

  pub rewrite_padded : (t o : List ℕ) (v : Result (List ℕ) Fault) (u p : List ℕ) → rewrite.Promised (padded_part x) t o v u p → rewrite.Promised (padded f) t o v u p
  rewrite_padded t o v u p = subst (λ a. rewrite.Promised a t o v u p) padded_part_is

  -- demands 1 and 2 of each call
  pub forms : (v : Result (List ℕ) Fault) → walk.FormPromised (padded_part x) v → FormsPadded f v
  forms v p =
      let over = form_padded v p in
      record { refusing = walked.demand_1_form (padded f) v over; judging = walked.demand_2_form (padded f) v over }

  pub refers : (t : List ℕ) (w : Result (Unit {0}) Fault) (u : List ℕ) → walk.ReferencesPromised (padded_part x) t w u → RefersPadded f t w u
  refers t w u p =
      let over = references_padded t w u p in
      record { refusing = walked.demand_1_references (padded f) t w u over; judging = walked.demand_2_references (padded f) t w u over }

  -- and of both together
  pub judges : (t : List ℕ) (v : Result (List ℕ) Fault) (w : Result (Unit {0}) Fault) (u : List ℕ) → walk.FormPromised (padded_part x) v → walk.ReferencesPromised (padded_part x) t w u
      → JudgesPadded f t (walk.together v w) u
  judges t v w u p q =
      let over = form_padded v p in
      let referred = references_padded t w u q in
      record { refusing = walked.demand_1_calls (padded f) t v w u over referred; judging = walked.demand_2_calls (padded f) t v w u over referred }

  pub rewrites : (t o : List ℕ) (v : Result (List ℕ) Fault) (u p : List ℕ) → rewrite.Promised (padded_part x) t o v u p → RewritesPadded f t o v u p
  rewrites t o v u p q =
      let over = rewrite_padded t o v u p q in
      record { refusing = rewritten.demand_1_rewrite (padded f) t o v u p over; judging = rewritten.demand_2_rewrite (padded f) t o v u p over }

  -- a rewriting of what pad left is a rewriting of the padded file
  unfoldable pub run_over_padded : rewrite.Run (padded_part x) → rewrite.Run (padded f)
  run_over_padded r = said_of padded_part_is r

module _ {f g : List ℕ} (x : Padding f) (y : Padding g) where
  -- demand 3 of two rewritings after pad
  pub demand_3_padded : (r : rewrite.Run (padded_part x)) (s : rewrite.Run (padded_part y))
      → rewrite.Rewrites (padded f) (padded g) (run_over_padded x r) (run_over_padded y s)
  demand_3_padded r s = rewritten.demand_3_rewrite (padded f) (padded g) (run_over_padded x r) (run_over_padded y s)

  -- what is answered and left depends only on the padded file
  pub same_answers : padded f ≡ padded g → SameAnswers x y
  same_answers e = record {
    forms = λ v w p q. walked.one_form (padded g) v w (subst (λ a. walk.FormPromised a v) e (form_padded x v p)) (form_padded y w q);
    refers = λ t v w u s p q.
        walked.one_references (padded g) t v w u s (subst (λ a. walk.ReferencesPromised a t v u) e (references_padded x t v u p)) (references_padded y t w s q);
    rewrites = λ t o v w u s p q a b.
        rewritten.one_result (padded g) t o v w u s p q
        (subst (λ a. rewrite.Promised a t o v u p) e (rewrite_padded x t o v u p a)) (rewrite_padded y t o w s q b);
  }
