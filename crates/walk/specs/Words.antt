-- The words of the lent table by the columns of a line.
use Rattle.std.specs.Prelude.{cond, List, ℕ, ◌+◌, replicate}
use Rattle.rules.specs.Tests.{◌=?◌}
use Rattle.rules.specs.Kinds.{*25*}
use Rattle.rules.specs.References.{stations, families, of_first}
use Rattle.reading.specs.Values.{nat_in}

-- the words where no record defines a number
unfoldable pub no_words : List ℕ
no_words = replicate 12_000 0

-- the columns of the number at column 11 that is kept of a kind, 0 for a kind of which none is kept
unfoldable pub lead_width : ℕ → ℕ
lead_width k = cond (k =? *25*) stations.width (of_first (λ F. k =? F.kind) (λ F. F.width) 0 families)

unfoldable pub lead_in : ℕ → List ℕ → ℕ
lead_in k l = nat_in 11 (lead_width k) l

-- the word of number n that records of kind k define, 12,000 for a kind that defines none
unfoldable pub slot_in : ℕ → ℕ → ℕ
slot_in k n = of_first (λ F. k =? F.kind) (λ F. F.base + n) 12_000 families
