-- The code's rows are the layouts of `rules`, kind by kind, and the flat tables are the rows one kind after the other.
use mathlib.Core.Path.{◌≡◌, refl, sym, ap, ◌∙◌}
use mathlib.Core.Bool.{Bool, true}
use mathlib.Core.List.{[], ◌∷◌, map}
use Prim.Native.Nat.{ℕ, zero, suc, ◌+◌, ◌≤◌, ◌<◌}
use native.Mathlib.Numerals.{add-one}
use native.Mathlib.Omega.{arith}
use lib.Dec.{lit≤}
use lib.ListN.{get_or, get_or-map}
use lib.Seq.{slice, slice-cons}
use Rattle.rules.specs.Tests.{all}
use Rattle.rules.specs.Layouts.{layouts}
use Rattle.rules.proofs.Truth.{all-at}
use Rattle.columns.specs.Types.{way_of, set_of}
use Rattle.kinds.specs.declared.tables.Item.TheVariants as I
use Rattle.kinds.specs.declared.tables.Bond.{Bond}
use Rattle.kinds.specs.declared.tables.Bond.TheVariants as B
use Rattle.kinds.specs.declared.tables.Tie.{Tie}
use Rattle.kinds.specs.Tables.{bond_as, Row, row, field_of, row_lists, rows, row_at, items, ties, bonds, firsts, widths, starts}

pub rows_are_layouts : map (map field_of) row_lists ≡ layouts
unfolding field_of way_of set_of layouts
rows_are_layouts = refl

-- a fact of each of the fourteen kinds
pub each_kind : (P : ℕ → Type 0) → P 0 → P 1 → P 2 → P 3 → P 4 → P 5 → P 6 → P 7 → P 8 → P 9 → P 10 → P 11 → P 12 → P 13 → (k : ℕ) → k < 14 → P k
each_kind P a b c d e f g h i j l m n o zero p = a
each_kind P a b c d e f g h i j l m n o (suc zero) p = b
each_kind P a b c d e f g h i j l m n o (suc (suc zero)) p = c
each_kind P a b c d e f g h i j l m n o (suc (suc (suc zero))) p = d
each_kind P a b c d e f g h i j l m n o (suc (suc (suc (suc zero)))) p = e
each_kind P a b c d e f g h i j l m n o (suc (suc (suc (suc (suc zero))))) p = f
each_kind P a b c d e f g h i j l m n o (suc (suc (suc (suc (suc (suc zero)))))) p = g
each_kind P a b c d e f g h i j l m n o (suc (suc (suc (suc (suc (suc (suc zero))))))) p = h
each_kind P a b c d e f g h i j l m n o (suc (suc (suc (suc (suc (suc (suc (suc zero)))))))) p = i
each_kind P a b c d e f g h i j l m n o (suc (suc (suc (suc (suc (suc (suc (suc (suc zero))))))))) p = j
each_kind P a b c d e f g h i j l m n o (suc (suc (suc (suc (suc (suc (suc (suc (suc (suc zero)))))))))) p = l
each_kind P a b c d e f g h i j l m n o (suc (suc (suc (suc (suc (suc (suc (suc (suc (suc (suc zero))))))))))) p = m
each_kind P a b c d e f g h i j l m n o (suc (suc (suc (suc (suc (suc (suc (suc (suc (suc (suc (suc zero)))))))))))) p = n
each_kind P a b c d e f g h i j l m n o (suc (suc (suc (suc (suc (suc (suc (suc (suc (suc (suc (suc (suc zero))))))))))))) p = o
each_kind P a b c d e f g h i j l m n o (suc (suc (suc (suc (suc (suc (suc (suc (suc (suc (suc (suc (suc (suc k)))))))))))))) p = absurd (omega arith)

-- where a kind's rows stand in the flat tables
pub record Begins (k : ℕ) : Type 0 where
  pub low : get_or starts k 0 ≤ get_or starts (k + 1) 0
  pub high : get_or starts (k + 1) 0 ≤ 87
  pub whole : slice (get_or starts k 0) (get_or starts (k + 1) 0) rows ≡ get_or row_lists k []

pub begins : (k : ℕ) → k < 14 → Begins k
begins = each_kind Begins
    record { low = lit≤ tt; high = lit≤ tt; whole = refl } record { low = lit≤ tt; high = lit≤ tt; whole = refl }
    record { low = lit≤ tt; high = lit≤ tt; whole = refl } record { low = lit≤ tt; high = lit≤ tt; whole = refl }
    record { low = lit≤ tt; high = lit≤ tt; whole = refl } record { low = lit≤ tt; high = lit≤ tt; whole = refl }
    record { low = lit≤ tt; high = lit≤ tt; whole = refl } record { low = lit≤ tt; high = lit≤ tt; whole = refl }
    record { low = lit≤ tt; high = lit≤ tt; whole = refl } record { low = lit≤ tt; high = lit≤ tt; whole = refl }
    record { low = lit≤ tt; high = lit≤ tt; whole = refl } record { low = lit≤ tt; high = lit≤ tt; whole = refl }
    record { low = lit≤ tt; high = lit≤ tt; whole = refl } record { low = lit≤ tt; high = lit≤ tt; whole = refl }

-- ---- what the flat tables say of row i
module _ (i : ℕ) where
  pub item_is : get_or items i I.Blank ≡ (row_at i).item
  unfolding row_at
  item_is = get_or-map (λ (r : Row). r.item) rows i (row I.Blank 0 0)

  pub bond_is : get_or bonds i B.Free ≡ (row_at i).bond
  unfolding row_at
  bond_is = get_or-map (λ (r : Row). r.bond) rows i (row I.Blank 0 0)

  pub first_is : get_or firsts i 0 ≡ (row_at i).first
  unfolding row_at
  first_is = get_or-map (λ (r : Row). r.first) rows i (row I.Blank 0 0)

  pub width_is : get_or widths i 0 ≡ (row_at i).width
  unfolding row_at
  width_is = get_or-map (λ (r : Row). r.width) rows i (row I.Blank 0 0)

-- a bond by its name
pub bond_named : (i : ℕ) (t : Tie) → t ≡ get_or ties i Tie.Free → (u : Tie) → t ≡ u → {b : Bond} → b ≡ bond_as u → b ≡ get_or bonds i B.Free
bond_named i t e u z q = q ∙ ap bond_as (sym z ∙ e) ∙ sym (get_or-map bond_as ties i Tie.Free)

-- a test of every row, at row i
pub row_passes : (p : Row → Bool) → all p rows ≡ true → (i : ℕ) → i < 87 → p (row_at i) ≡ true
unfolding row_at
row_passes p t i h = all-at p rows (row I.Blank 0 0) i t h

-- the rows from i on
pub rows_from : (i end : ℕ) → i < end → end ≤ 87 → slice i end rows ≡ row_at i ∷ slice (i + 1) end rows
unfolding row_at
rows_from i end h k = slice-cons i end rows (row I.Blank 0 0) h k ∙ rw (add-one i)
