-- A new small tree is the definition's.
use Rattle.std.proofs.Common.{◌≡◌, ℕ, zero, suc, ◌≤◌, ◌<◌, refl, arith, replicate}
use Rattle.std.specs.Prelude.{not}
use Rattle.codec_terms.specs.Grid.{grid_of}
use Rattle.codec_terms.specs.TagTree.{FoundTree, nothing_found, blank_tree, blank_levels, is_root}
use Rattle.packet_scan.specs.SmallTrees.{half, shown, IsSmall}
use Rattle.packet_scan.specs.Trees.{blank_where}

abbrev pub blank_shown : ℕ → ℕ → FoundTree
blank_shown columns rows =
    record {
      columns = columns;
      levels = shown columns rows (blank_where (not (is_root (half columns) (half rows)))) (replicate 4 (blank_where (not (is_root columns rows)))) (replicate 16 nothing_found);
    }

one : (columns : ℕ) → 0 < columns → columns ≤ 4 → blank_shown columns 1 ≡ blank_tree columns 1
unfolding blank_tree blank_levels shown grid_of
one zero some few = absurd (omega arith)
one (suc zero) some few = refl
one (suc (suc zero)) some few = refl
one (suc (suc (suc zero))) some few = refl
one (suc (suc (suc (suc zero)))) some few = refl
one (suc (suc (suc (suc (suc n))))) some few = absurd (omega arith)

two : (columns : ℕ) → 0 < columns → columns ≤ 4 → blank_shown columns 2 ≡ blank_tree columns 2
unfolding blank_tree blank_levels shown grid_of
two zero some few = absurd (omega arith)
two (suc zero) some few = refl
two (suc (suc zero)) some few = refl
two (suc (suc (suc zero))) some few = refl
two (suc (suc (suc (suc zero)))) some few = refl
two (suc (suc (suc (suc (suc n))))) some few = absurd (omega arith)

three : (columns : ℕ) → 0 < columns → columns ≤ 4 → blank_shown columns 3 ≡ blank_tree columns 3
unfolding blank_tree blank_levels shown grid_of
three zero some few = absurd (omega arith)
three (suc zero) some few = refl
three (suc (suc zero)) some few = refl
three (suc (suc (suc zero))) some few = refl
three (suc (suc (suc (suc zero)))) some few = refl
three (suc (suc (suc (suc (suc n))))) some few = absurd (omega arith)

four : (columns : ℕ) → 0 < columns → columns ≤ 4 → blank_shown columns 4 ≡ blank_tree columns 4
unfolding blank_tree blank_levels shown grid_of
four zero some few = absurd (omega arith)
four (suc zero) some few = refl
four (suc (suc zero)) some few = refl
four (suc (suc (suc zero))) some few = refl
four (suc (suc (suc (suc zero)))) some few = refl
four (suc (suc (suc (suc (suc n))))) some few = absurd (omega arith)

pub blank-is : (columns rows : ℕ) → IsSmall columns rows → blank_shown columns rows ≡ blank_tree columns rows
blank-is columns zero s = absurd (omega (arith, s.some_rows))
blank-is columns (suc zero) s = one columns s.some_columns s.few_columns
blank-is columns (suc (suc zero)) s = two columns s.some_columns s.few_columns
blank-is columns (suc (suc (suc zero))) s = three columns s.some_columns s.few_columns
blank-is columns (suc (suc (suc (suc zero)))) s = four columns s.some_columns s.few_columns
blank-is columns (suc (suc (suc (suc (suc n))))) s = absurd (omega (arith, s.few_rows))
