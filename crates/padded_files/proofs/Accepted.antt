-- A file that references accept, after pad, from the promises alone.
use mathlib.Core.Path.{◌≡◌, sym, ◌∙◌, subst}
use mathlib.Core.Bool.{true}
use mathlib.Core.List.{List, ◌++◌}
use Prim.Native.Nat.{ℕ, ◌*◌, ◌≤◌}
use lib.ListN.{length, take, drop}
use Rattle.std.specs.Prelude.{Result, Ok, IsOk}
use Rattle.rules.specs.Files.{lines, accepted}
use Rattle.rules.specs.Chapter4.{chapter4}
use Rattle.rules.proofs.PaddingLaws.{accepted_pads}
use Rattle.kinds.specs.declared.Fault.{Fault}
use Rattle.walk.specs.Promise as walk
use Rattle.walk.proofs.CallDemands.{zero-accepted}
use Rattle.rewriting.specs.Promise as rewrite
use Rattle.padding.specs.Promise as pad
use Rattle.padding.proofs.PadDemands.{demand_2_pad, accepted_unchanged}
use Rattle.padded_files.specs.AfterPad.{Unchanged}

-- a file that references accept, which they do with a full-size table and a good form alone
module _ (f t : List ℕ) (w : Result (Unit {0}) Fault) (u : List ℕ) (promised : walk.ReferencesPromised f t w u) (zero : IsOk w) where
  is_accepted : accepted chapter4 f ≡ true
  is_accepted = (zero-accepted f t w u promised zero).1

  -- every padding of it with an output as long as the file takes it, and changes nothing
  pub unchanged : (o : List ℕ) (v : Result ℕ Fault) (p : List ℕ) → length f ≤ length o → pad.Promised f o v p → Unchanged f v p
  unchanged o v p k q = record {
    good = its.0;
    same = same;
    forms = λ w. (subst (λ a. walk.FormPromised a w) same, subst (λ a. walk.FormPromised a w) (sym same));
    refers = λ t w u. (subst (λ a. walk.ReferencesPromised a t w u) same, subst (λ a. walk.ReferencesPromised a t w u) (sym same));
    rewrites = λ t o w u q. (subst (λ a. rewrite.Promised a t o w u q) same, subst (λ a. rewrite.Promised a t o w u q) (sym same));
  }
    where
      its : (v ≡ Ok (length (lines f))) × (p ≡ f ++ drop (length f) o)
      its = accepted_unchanged f o v p is_accepted k q

      same : take (81 * length (lines f)) p ≡ f
      same = (demand_2_pad f o v p q).written (length (lines f)) its.0 ∙ (accepted_pads f is_accepted).1
