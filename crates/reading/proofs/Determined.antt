-- Two results that one promise allows are equal: the promises of read and field leave nothing open.
use mathlib.Core.Path.{◌≡◌, sym, ◌∙◌}
use mathlib.Core.List.{List}
use Prim.Native.Nat.{ℕ}
use Rattle.std.specs.Prelude.{Result, Option}
use Rattle.kinds.specs.declared.Fault.{Fault}
use Rattle.kinds.specs.declared.Record.{Record}
use Rattle.reading.specs.Promise.{PromisedReading, PromisedPart}

pub one_reading : (f : List ℕ) (n : ℕ) (r s : Result (Option ℕ × Record) Fault) → PromisedReading f n r → PromisedReading f n s → r ≡ s
one_reading f n r s p q = p.answered ∙ sym q.answered

-- contents, block and place
pub one_part : {B : Type 0} (f : List ℕ) (n c : ℕ) (block : B) (start : ℕ) (x y : List ℕ) (b d : B) (i j : ℕ)
    → PromisedPart f n c block start x b i → PromisedPart f n c block start y d j → (x ≡ y) × (b ≡ d) × (i ≡ j)
one_part f n c block start x y b d i j p q = (p.contents ∙ sym q.contents, p.same_block ∙ sym q.same_block, p.offset ∙ sym q.offset)
