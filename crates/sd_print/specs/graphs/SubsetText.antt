-- The texts of ranges and subsets.
use Rattle.std.specs.Prelude.{ℕ, nat_eq, ℤ, pos, List, [], ◌∷◌, ◌++◌, length, codes, if◌then◌else◌}
use Rattle.std.specs.Ordering.{int_eq}
use Rattle.std.specs.List.{flat_map}
use Rattle.std.specs.Fmt.{signed_decimal}
use Rattle.sd_range.specs.declared.affine.Affine.{Affine}
use Rattle.sd_range.specs.declared.range.Range.{Range}
use Rattle.sd_range.specs.declared.subset.Dim.{Dim}
use Rattle.sd_range.specs.declared.subset.Dim.TheVariants.{Index, Span}
use Rattle.sd_print.specs.graphs.AffineText.{affine_text, end_text}

-- nothing for a step of 1
abbrev pub step_text : ℤ → List ℕ
step_text step = if int_eq step (pos 1) then [] else codes ":" ++ signed_decimal step

module _ (names : List (List ℕ)) (order : List ℕ) where
  -- one end, or the least of several
  abbrev pub ends_text : List Affine → List ℕ
  ends_text [] = []
  ends_text (end ∷ others) =
      if nat_eq (length others) 0
      then end_text names order end
      else codes "min(" ++ (end_text names order end ++ (flat_map (λ other. codes "," ++ end_text names order other) others ++ codes ")"))

  -- `begin:end`, and `:step` unless it is 1
  abbrev pub range_text : Range → List ℕ
  range_text range = affine_text names order range.begin ++ (codes ":" ++ (ends_text range.ends ++ step_text range.step))

  abbrev pub dim_text : Dim → List ℕ
  dim_text (Index at) = affine_text names order at
  dim_text (Span range) = range_text range

  -- dimensions, joined by commas
  abbrev pub dims_text : List Dim → List ℕ
  dims_text [] = []
  dims_text (dim ∷ dims) = dim_text dim ++ flat_map (λ other. codes ", " ++ dim_text other) dims
