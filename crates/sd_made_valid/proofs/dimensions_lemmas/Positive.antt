-- Where each array that is declared has an extent, each array in force has a dimension.
use Rattle.std.proofs.Common.{◌≡◌, ℕ, ◌≤◌, List, [], ◌∷◌, Option, Some, Bool, true, false, cond, bytes_eq, reverse, subst, arith}
use Rattle.std.specs.Prelude.{⊤}
use Rattle.std.specs.List.{AllByRecursion}
use Rattle.std.proofs.lemmas.Option.{same_Some}
use Rattle.sd_lex.specs.PlainTree.{StatementTree, argument_array, local_array, local_stream, map_scope, tasklet, consume_scope, for_loop, while_loop, branch, tasklet_branch, Expressions, no_expression, and_expression, Block, no_statement, and_statement, FunctionTree, ProgramTree}
use Rattle.sd_lex.specs.StatementKind.{has_connector}
use Rattle.sd_program.specs.Names.{Name, Named, in_force}
use Rattle.sd_program.specs.Every.{Every, EveryIn, EveryOf, Everywhere}
use Rattle.sd_program.specs.Place.{Holder, of_dimensions, of_values, Place, dimensions_of, behind, behind_all, past, past_all, in_map, in_tasklet, in_loop, in_consume, in_signature, in_function, EveryAt, EveryFrom, EveryFunction, EveryPlace}
use Rattle.sd_read.specs.readable.Parts.{HasParts}
use Rattle.sd_made.proofs.places_lemmas.LinksMade.{ArePositive}
use Rattle.sd_made.proofs.places_lemmas.Givens.{all_reversed}

-- in the place of a statement
abbrev pub ArePositiveAt : Place → StatementTree → Type 0
ArePositiveAt place statement = ArePositive place.containers

abbrev IsPositive : Holder → Type 0
IsPositive (of_dimensions count) = 1 ≤ count
IsPositive of_values = ⊤

-- ---- one more container

positive_first : (same : Bool) (holder : Holder) (others : Option Holder) (count : ℕ) → IsPositive holder → (others ≡ Some (of_dimensions count) → 1 ≤ count) →
    cond same (Some holder) others ≡ Some (of_dimensions count) → 1 ≤ count
positive_first true holder others count is rest e = subst IsPositive (same_Some holder (of_dimensions count) e) is
positive_first false holder others count is rest e = rest e

one_more : (known : Named Holder) (name : Name) (holder : Holder) → IsPositive holder → ArePositive known → ArePositive ((name, holder) ∷ known)
one_more known name holder is are other count e = positive_first (bytes_eq other name) holder (in_force known other) count is (are other count) e

written : (extents : Expressions) → 1 ≤ dimensions_of extents
written no_expression = omega arith
written (and_expression first rest) = omega arith

none_positive : ArePositive []
none_positive name count e = cc

-- ---- behind statements

mutual
  positive_behind : (statement : StatementTree) (known : Named Holder) → Every HasParts statement → ArePositive known → ArePositive (behind statement known)
  positive_behind (argument_array line name bits extents) known every are = one_more known name (of_dimensions (dimensions_of extents)) (written extents) are
  positive_behind (local_array line name extents bits) known every are = one_more known name _ every are
  positive_behind (local_stream line name bits size) known every are = one_more known name of_values tt are
  positive_behind (for_loop line name begin end step body) known every are = all_behind body known every.1 are
  positive_behind (while_loop line when body) known every are = all_behind body known every.1 are
  positive_behind (branch line when body other) known every are = all_behind other (behind_all body known) every.1.1 (all_behind body known every.1.0 are)
  positive_behind (tasklet_branch line when body other) known every are = all_behind other (behind_all body known) every.1.1 (all_behind body known every.1.0 are)
  positive_behind statement known every are = are

  all_behind : (block : Block) (known : Named Holder) → EveryIn HasParts block → ArePositive known → ArePositive (behind_all block known)
  all_behind no_statement known every are = are
  all_behind (and_statement first rest) known every are = all_behind rest (behind first known) every.1 (positive_behind first known every.0 are)

consumed : (is_task : Bool) (element : Name) (place : Place) → ArePositive place.containers → ArePositive (in_consume is_task element place).containers
consumed true element place are = are
consumed false element place are = one_more place.containers element (of_dimensions 1) (omega arith) are

-- ---- in each place

mutual
  positive_at : (place : Place) (statement : StatementTree) → ArePositive place.containers → Every HasParts statement → EveryAt ArePositiveAt place statement
  positive_at place (map_scope line parameters ranges body) are every = (are, positive_from (in_map place) body are every.1)
  positive_at place (tasklet line body) are every = (are, positive_from (in_tasklet place) body are every.1)
  positive_at place (consume_scope line stream size name element worker body) are every =
      (are, positive_from (in_consume (has_connector body) element place) body (consumed (has_connector body) element place are) every.1)
  positive_at place (for_loop line name begin end step body) are every = (are, positive_from (in_loop place) body are every.1)
  positive_at place (while_loop line when body) are every = (are, positive_from (in_loop place) body are every.1)
  positive_at place (branch line when body other) are every =
      (are, (positive_from place body are every.1.0, positive_from (past_all body place) other (all_behind body place.containers every.1.0 are) every.1.1))
  positive_at place (tasklet_branch line when body other) are every =
      (are, (positive_from place body are every.1.0, positive_from (past_all body place) other (all_behind body place.containers every.1.0 are) every.1.1))
  positive_at place statement are every = are

  positive_from : (place : Place) (block : Block) → ArePositive place.containers → EveryIn HasParts block → EveryFrom ArePositiveAt place block
  positive_from place no_statement are every = tt
  positive_from place (and_statement first rest) are every =
      (positive_at place first are every.0, positive_from (past first place) rest (positive_behind first place.containers every.0 are) every.1)

functions_positive : (functions : List FunctionTree) → AllByRecursion (EveryOf HasParts) functions → EveryFunction ArePositiveAt functions
functions_positive [] every = tt
functions_positive (function ∷ above) every = (
  (
    positive_from (in_signature above) function.arguments none_positive every.0.0,
    positive_from (in_function above function.arguments) function.body (all_behind function.arguments [] every.0.0 none_positive) every.0.1,
  ),
  functions_positive above every.1,
)

pub positive_places : (source : ProgramTree) → Everywhere HasParts source → EveryPlace ArePositiveAt source
positive_places source every = functions_positive (reverse source.functions) (all_reversed (EveryOf HasParts) source.functions every)
