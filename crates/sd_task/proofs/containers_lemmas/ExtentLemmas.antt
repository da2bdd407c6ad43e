-- The extents of a program's containers are within the limits.
use Rattle.std.proofs.Common.{ℕ, List, [], ◌∷◌, ◌++◌, Bool, true, false, cond, pos, arith}
use Rattle.std.specs.List.{AllByRecursion}
use Rattle.sd_num.specs.declared.width.Width.TheVariants.{W64}
use Rattle.sd_lex.specs.PlainTree.{StatementTree, argument_array, local_array, local_stream, assign, copy, reduce, map_scope, tasklet, consume_scope, call, for_loop, while_loop, branch, input, output, set, set_at, tasklet_branch, Block, no_statement, and_statement, Expressions, no_expression, and_expression, FunctionTree}
use Rattle.sd_lex.specs.StatementKind.{has_connector}
use Rattle.sd_graph.specs.declared.container.Container.{Container}
use Rattle.sd_graph.specs.declared.container.ContainerKind.TheVariants.{Private}
use Rattle.sd_program.specs.Names.{Name, Named}
use Rattle.sd_program.specs.Affines.{affine_number, affines_of}
use Rattle.sd_program.specs.Bounds.{EachExpression, EachBound}
use Rattle.sd_program.specs.Every.{Every, EveryIn, EveryOf}
use Rattle.sd_program.specs.Small.{IsSmall, IsWithinLimits}
use Rattle.sd_task.specs.in_force.Names.{with_numbered}
use Rattle.sd_task.specs.in_force.Ranges.{extents_of}
use Rattle.sd_task.specs.in_force.SmallExtents.{HasSmallExtents, HaveSmallExtents}
use Rattle.sd_program.specs.DeclaredNames.{container_names}
use Rattle.sd_task.specs.containers.Declarations.{Containers, containers_with, containers_with_all, containers_of_function, with_element, element_name}

pub one_within : IsWithinLimits (affine_number (pos 1))
one_within = record { constant = omega arith; coefficients = omega arith }

affines_within : (symbols : Named ℕ) (expressions : Expressions) → EachExpression IsSmall expressions → AllByRecursion IsWithinLimits (affines_of symbols expressions)
affines_within symbols no_expression small = tt
affines_within symbols (and_expression first rest) small = (small.0.0 symbols, affines_within symbols rest small.1)

extents_within : (symbols : Named ℕ) (expressions : Expressions) → EachExpression IsSmall expressions → AllByRecursion IsWithinLimits (extents_of symbols expressions)
extents_within symbols no_expression small = (one_within, tt)
extents_within symbols (and_expression first rest) small = affines_within symbols (and_expression first rest) small

one_more_small : (containers : Containers) (name : Name) (container : Container) → HaveSmallExtents containers → HasSmallExtents container → HaveSmallExtents (containers ++ (name, container) ∷ [])
one_more_small [] name container all small = (small, tt)
one_more_small (first ∷ containers) name container all small = (all.0, one_more_small containers name container all.1 small)

module _ (symbols : Named ℕ) (declared : List Name) where
  mutual
    small_with : (statement : StatementTree) (in_scope : Bool) (containers : Containers) → Every (EachBound IsSmall) statement → HaveSmallExtents containers → HaveSmallExtents (containers_with symbols declared statement in_scope containers)
    small_with (argument_array line name bits extents) in_scope containers small all = one_more_small containers name _ all (extents_within symbols extents small)
    small_with (local_array line name extents bits) in_scope containers small all = one_more_small containers name _ all (extents_within symbols extents small)
    small_with (local_stream line name bits size) in_scope containers small all = one_more_small containers name _ all tt
    small_with (map_scope line parameters ranges body) in_scope containers small all = small_with_all body true containers small.1 all
    small_with (consume_scope line stream size name element worker body) in_scope containers small all =
        let with : Containers = with_element declared containers (has_connector body) element in
        let with_small : HaveSmallExtents with = one_more_small containers (element_name declared containers (has_connector body) element) (record { extents = affine_number (pos 1) ∷ []; kind = Private; width = W64 }) all (one_within, tt) in
        by with with_small (has_connector body) (small_with_all body true with small.1 with_small)
      where
        by : (with : Containers) → HaveSmallExtents with → (is_task : Bool) → HaveSmallExtents (containers_with_all symbols declared body true with) → HaveSmallExtents (cond is_task with (containers_with_all symbols declared body true with))
        by with with_small true rest = with_small
        by with with_small false rest = rest
    small_with (for_loop line name begin end step body) in_scope containers small all = small_with_all body in_scope containers small.1 all
    small_with (while_loop line when body) in_scope containers small all = small_with_all body in_scope containers small.1 all
    small_with (branch line when body other) in_scope containers small all = small_with_all other in_scope (containers_with_all symbols declared body in_scope containers) small.1.1 (small_with_all body in_scope containers small.1.0 all)
    small_with (assign line name at add value) in_scope containers small all = all
    small_with (copy line to to_dimensions from from_dimensions) in_scope containers small all = all
    small_with (reduce line lambda from to axis identity) in_scope containers small all = all
    small_with (tasklet line body) in_scope containers small all = all
    small_with (call line name arguments) in_scope containers small all = all
    small_with (input line connector memlet) in_scope containers small all = all
    small_with (output line connector memlet) in_scope containers small all = all
    small_with (set line name value) in_scope containers small all = all
    small_with (set_at line name at value) in_scope containers small all = all
    small_with (tasklet_branch line when body other) in_scope containers small all = all

    small_with_all : (block : Block) (in_scope : Bool) (containers : Containers) → EveryIn (EachBound IsSmall) block → HaveSmallExtents containers → HaveSmallExtents (containers_with_all symbols declared block in_scope containers)
    small_with_all no_statement in_scope containers small all = all
    small_with_all (and_statement first rest) in_scope containers small all = small_with_all rest in_scope (containers_with symbols declared first in_scope containers) small.1 (small_with first in_scope containers small.0 all)

pub small_of_function : (symbols : List Name) (function : FunctionTree) → EveryOf (EachBound IsSmall) function → HaveSmallExtents (containers_of_function symbols function)
small_of_function symbols function small =
    let known : Named ℕ = with_numbered symbols 0 [] in
    small_with_all known (container_names function) function.body false _ small.1 (small_with_all known (container_names function) function.arguments false [] small.0 tt)
