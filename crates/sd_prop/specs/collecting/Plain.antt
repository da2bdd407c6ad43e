-- What the body of a scope is done for, as the definitions have it.
use Rattle.sd_prop.specs.propagation.Scopes.{Over, points, elements}
use Rattle.sd_prop.specs.declared.collecting.scope.Over as kept
use Rattle.sd_prop.specs.declared.collecting.scope.Over.TheVariants.{Points, Elements}

abbrev pub over_of : kept.Over → Over
over_of (Points params sequential) = points sequential params.items
over_of Elements = elements
