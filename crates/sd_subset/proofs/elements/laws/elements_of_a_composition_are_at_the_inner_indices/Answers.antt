use Rattle.std.proofs.lemmas.List.Elements.{recursion_from_All}
use Rattle.sd_range.specs.Subset.{IsDim}
use Rattle.sd_subset.specs.elements.Composition.{outer_dims, HasUnitStep}
use Rattle.sd_subset.proofs.elements_lemmas.Spans.{outer-units}
use Rattle.sd_subset.proofs.elements_lemmas.Compositions.{composed-elements}
use Rattle.sd_subset.proofs.elements.laws.elements_of_a_composition_are_at_the_inner_indices.Goals as goal

pub returns : goal.returns
returns c = λ outer inner values units ok same.
    composed-elements (outer_dims outer.dims) inner.dims values
    (outer-units outer.dims (recursion_from_All HasUnitStep outer.dims units))
    (recursion_from_All IsDim inner.dims ok) same
