-- Affine expressions, and what has them, with sizes in the place of the size symbols, which are the first variables.
use Rattle.std.specs.Prelude.{ℕ, ℤ, List, length, map, not, nat_lt}
use Rattle.std.specs.List.{filter}
use Rattle.sd_range.specs.Affine.{affine_value}
use Rattle.sd_range.specs.declared.affine.Affine.{Affine}
use Rattle.sd_range.specs.declared.range.Range.{Range}
use Rattle.sd_range.specs.declared.subset.Dim.{Dim}
use Rattle.sd_range.specs.declared.subset.Dim.TheVariants.{Index, Span}
use Rattle.sd_range.specs.declared.subset.Subset.{Subset}
use Rattle.sd_graph.specs.declared.link.Memlet.{Memlet}
use Rattle.sd_graph.specs.declared.link.Link.{Link}
use Rattle.sd_graph.specs.declared.container.Container.{Container}

-- the terms of variables that are no size symbols
abbrev pub terms_left : (symbols : ℕ) → List (ℕ × ℤ) → List (ℕ × ℤ)
terms_left symbols terms = filter (λ term. not (nat_lt term.0 symbols)) terms

-- an expression: its constant with the value of its size symbols, and its other terms
abbrev pub bound_affine : (sizes : List ℤ) → Affine → Affine
bound_affine sizes a = record { constant = affine_value sizes a; terms = terms_left (length sizes) a.terms }

abbrev pub bound_range : (sizes : List ℤ) → Range → Range
bound_range sizes range = record { begin = bound_affine sizes range.begin; ends = map (bound_affine sizes) range.ends; step = range.step }

abbrev pub bound_dim : (sizes : List ℤ) → Dim → Dim
bound_dim sizes (Index at) = Index (bound_affine sizes at)
bound_dim sizes (Span range) = Span (bound_range sizes range)

abbrev pub bound_subset : (sizes : List ℤ) → Subset → Subset
bound_subset sizes subset = record { dims = map (bound_dim sizes) subset.dims }

abbrev pub bound_memlet : (sizes : List ℤ) → Memlet → Memlet
bound_memlet sizes memlet = record memlet { subset = bound_subset sizes memlet.subset }

abbrev pub bound_link : (sizes : List ℤ) → Link → Link
bound_link sizes link = record link { memlet = bound_memlet sizes link.memlet }

abbrev pub bound_container : (sizes : List ℤ) → Container → Container
bound_container sizes container = record container { extents = map (bound_affine sizes) container.extents }

-- a variable that is set to an expression
abbrev pub bound_assignment : (sizes : List ℤ) → ℕ × Affine → ℕ × Affine
bound_assignment sizes assignment = (assignment.0, bound_affine sizes assignment.1)

-- a parameter with its range
abbrev pub bound_param : (sizes : List ℤ) → ℕ × Range → ℕ × Range
bound_param sizes param = (param.0, bound_range sizes param.1)
