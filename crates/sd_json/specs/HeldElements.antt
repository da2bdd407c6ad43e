-- The elements of a list that is kept narrow or wide.
use Rattle.std.specs.Prelude.{ℤ, List}
use Rattle.sd_json.specs.declared.elements.Held.{Held}
use Rattle.sd_json.specs.declared.elements.Held.TheVariants.{Narrow, Wide}

abbrev pub elements_held : Held → List ℤ
elements_held (Narrow small) = small.items
elements_held (Wide wide) = wide.items
