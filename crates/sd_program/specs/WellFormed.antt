-- What holds of each program that was read: names are in force for their uses, affine places are affine, and limits that need no sizes are kept.
use Rattle.std.specs.Prelude.{◌≡◌, ◌≤◌, reverse, None, bytes_eq}
use Rattle.std.specs.List.{AllByRecursion, IsDistinct}
use Rattle.sd_lex.specs.PlainTree.{ProgramTree}
use Rattle.sd_source.specs.nodes.NodeLimits.{node_limits, nodes_over}
use Rattle.sd_program.specs.Bounds.{EachBound}
use Rattle.sd_program.specs.IsAffine.{IsAffine}
use Rattle.sd_program.specs.Small.{IsSmall}
use Rattle.sd_program.specs.Every.{Everywhere}
use Rattle.sd_program.specs.Place.{EveryPlace}
use Rattle.sd_program.specs.Known.{IsPlaced, IsKnown}
use Rattle.sd_program.specs.DeclaredNames.{container_names}
use Rattle.sd_program.specs.Calls.{IsCallable, CallShallowly}
use Rattle.sd_program.specs.Limits.{HasSteps, HasFewDimensions, HasFewParameters, HasFewAbout, HasFewReads, HasSmallTask, containers_of, states_of}

pub record IsWellFormed (program : ProgramTree) : Type 0 where
  -- each affine place holds an affine expression
  pub affine : Everywhere (EachBound IsAffine) program
  -- constants below 2^40 and coefficients of together at most 2^10, in each partial result too
  pub small : Everywhere (EachBound IsSmall) program
  -- steps of at least 1 and below 2^40
  pub steps : Everywhere HasSteps program
  -- at most four dimensions
  pub dimensions : Everywhere HasFewDimensions program
  -- at most eight parameters, each with a range
  pub parameters : Everywhere HasFewParameters program
  -- each form stands where it may
  pub placed : EveryPlace IsPlaced program
  -- each container is in force where it is named, and is what is asked for
  pub known : EveryPlace IsKnown program
  -- each call is of a program above, with as many arguments
  pub calls : EveryPlace IsCallable program
  -- at most seven scopes and loops about a statement
  pub depth : EveryPlace HasFewAbout program
  -- at most 64 connectors of an element statement or a condition
  pub reads : EveryPlace HasFewReads program
  -- at most 64 connectors and 1,024 lines of a tasklet
  pub tasklets : Everywhere HasSmallTask program
  -- no limit on nodes is passed
  pub nodes : nodes_over node_limits program ≡ None
  -- at most 256 containers of each program
  pub containers : AllByRecursion (λ function. containers_of function ≤ 256) program.functions
  -- the containers of each program have different names
  pub names : AllByRecursion (λ function. IsDistinct bytes_eq (container_names function)) program.functions
  -- at most 256 states of each program
  pub states : AllByRecursion (λ function. states_of function ≤ 256) program.functions
  -- at most eight calls stand in a chain
  pub chains : CallShallowly (reverse program.functions)
