-- Dimensions of subsets.
use Rattle.std.proofs.Common.{◌≡◌, ◌∙◌, ℕ, List, [], ◌∷◌, ◌++◌, length, refl, ap, sym}
use Rattle.std.proofs.lemmas.List.{append-nil}
use Rattle.sd_lex.specs.TreeFold.{dimensions_of}
use Rattle.sd_lex.specs.declared.syntax.memlet.Slot.{Slot}
use Rattle.sd_program.specs.Names.{Named}
use Rattle.sd_range.specs.declared.affine.Affine.{Affine}
use Rattle.sd_range.specs.declared.subset.Dim.{Dim}
use Rattle.sd_task.specs.in_force.Subsets.{dims_of}

-- where no slot or no extent is left no dimension is
pub no_slot_left : (variables : Named ℕ) (slots : List Slot) (extents : List Affine) → length slots ≡ 0 → dims_of variables (dimensions_of slots) extents ≡ []
no_slot_left variables [] extents none = refl
no_slot_left variables (first ∷ rest) extents none = cc

pub no_extent_left : (variables : Named ℕ) (slots : List Slot) (extents : List Affine) → length extents ≡ 0 → dims_of variables (dimensions_of slots) extents ≡ []
no_extent_left variables [] extents none = refl
no_extent_left variables (first ∷ rest) [] none = refl
no_extent_left variables (first ∷ rest) (extent ∷ extents) none = cc

-- what was made is all where nothing is left
pub all_made : (made all left : List Dim) → made ++ left ≡ all → left ≡ [] → made ≡ all
all_made made all left whole none = sym (append-nil made) ∙ ap (λ rest. made ++ rest) (sym none) ∙ whole
