-- What the elaboration of a program asks of it.
use Rattle.std.specs.Prelude.{List, bytes_eq}
use Rattle.std.specs.List.{AllByRecursion, IsDistinct}
use Rattle.sd_lex.specs.PlainTree.{FunctionTree}
use Rattle.sd_program.specs.Bounds.{EachBound}
use Rattle.sd_program.specs.DeclaredNames.{container_names}
use Rattle.sd_program.specs.Every.{EveryOf}
use Rattle.sd_program.specs.IsAffine.{IsAffine}
use Rattle.sd_program.specs.Small.{IsSmall}

-- affine places hold affine expressions within the limits, and the containers have different names
pub record IsElaborable (function : FunctionTree) : Type 0 where
  pub affine : EveryOf (EachBound IsAffine) function
  pub small : EveryOf (EachBound IsSmall) function
  pub different : IsDistinct bytes_eq (container_names function)

abbrev pub AreElaborable : List FunctionTree → Type 0
AreElaborable functions = AllByRecursion IsElaborable functions
