-- Subsets that do not depend on a variable, but for the index of one element.
use Rattle.std.specs.Prelude.{ℕ, List, Bool, not, nat_eq, ◌&&◌, ◌||◌}
use Rattle.std.specs.List.{list_all}
use Rattle.sd_range.specs.declared.affine.Affine.{Affine}
use Rattle.sd_range.specs.declared.subset.Dim.{Dim}
use Rattle.sd_range.specs.declared.subset.Dim.TheVariants.{Index, Span}
use Rattle.sd_scope.specs.even.Even.{is_scalar}

-- no term has the variable
abbrev pub is_free : (variable : ℕ) → Affine → Bool
is_free variable a = list_all (λ term. not (nat_eq term.0 variable)) a.terms

-- a dimension names it nowhere
abbrev pub is_free_dim : (variable : ℕ) → Dim → Bool
is_free_dim variable (Index at) = is_free variable at
is_free_dim variable (Span range) = is_free variable range.begin && list_all (is_free variable) range.ends

-- a subset of one element, or one that names it nowhere
abbrev pub is_still : (variable : ℕ) → List Dim → Bool
is_still variable dims = is_scalar dims || list_all (is_free_dim variable) dims
