-- What is said of every statement of a program, and of every place, is said of each statement in its place.
use Rattle.std.proofs.Common.{List, [], ◌∷◌, ◌++◌, reverse, subst, sym}
use Rattle.std.proofs.lemmas.Grind.{reverse_onto}
use Rattle.std.specs.List.{AllByRecursion}
use Rattle.sd_lex.specs.PlainTree.{StatementTree, map_scope, tasklet, consume_scope, for_loop, while_loop, branch, tasklet_branch, Block, no_statement, and_statement, FunctionTree, ProgramTree}
use Rattle.sd_lex.specs.StatementKind.{has_connector}
use Rattle.sd_program.specs.Every.{Every, EveryIn, EveryOf, Everywhere}
use Rattle.sd_program.specs.Place.{Place, past, past_all, in_map, in_tasklet, in_loop, in_consume, in_signature, in_function, EveryAt, EveryFrom, EveryFunction, EveryPlace}
use Rattle.sd_program.specs.Bounds.{EachBound}
use Rattle.sd_program.specs.IsAffine.{IsAffine}
use Rattle.sd_program.specs.Limits.{HasFewParameters}
use Rattle.sd_program.specs.Known.{IsPlaced, IsKnown}
use Rattle.sd_program.specs.WellFormed.{IsWellFormed}
use Rattle.sd_made.proofs.places_lemmas.Made.{Fitting}

module _ (P : StatementTree → Type 0) where
  mutual
    wherever : (place : Place) (statement : StatementTree) → Every P statement → EveryAt (λ place. P) place statement
    wherever place (map_scope line parameters ranges body) every = (every.0, all_wherever (in_map place) body every.1)
    wherever place (tasklet line body) every = (every.0, all_wherever (in_tasklet place) body every.1)
    wherever place (consume_scope line stream size name element worker body) every = (every.0, all_wherever (in_consume (has_connector body) element place) body every.1)
    wherever place (for_loop line name begin end step body) every = (every.0, all_wherever (in_loop place) body every.1)
    wherever place (while_loop line when body) every = (every.0, all_wherever (in_loop place) body every.1)
    wherever place (branch line when body other) every = (every.0, (all_wherever place body every.1.0, all_wherever (past_all body place) other every.1.1))
    wherever place (tasklet_branch line when body other) every = (every.0, (all_wherever place body every.1.0, all_wherever (past_all body place) other every.1.1))
    wherever place statement every = every

    all_wherever : (place : Place) (block : Block) → EveryIn P block → EveryFrom (λ place. P) place block
    all_wherever place no_statement every = tt
    all_wherever place (and_statement first rest) every = (wherever place first every.0, all_wherever (past first place) rest every.1)

  functions_wherever : (functions : List FunctionTree) → AllByRecursion (EveryOf P) functions → EveryFunction (λ place. P) functions
  functions_wherever [] every = tt
  functions_wherever (function ∷ above) every =
      ((all_wherever (in_signature above) function.arguments every.0.0, all_wherever (in_function above function.arguments) function.body every.0.1), functions_wherever above every.1)

all_behind : {A : Type 0} (P : A → Type 0) (first second : List A) → AllByRecursion P first → AllByRecursion P second → AllByRecursion P (first ++ second)
all_behind P [] second all others = others
all_behind P (member ∷ first) second all others = (all.0, all_behind P first second all.1 others)

pub all_reversed : {A : Type 0} (P : A → Type 0) (members : List A) → AllByRecursion P members → AllByRecursion P (reverse members)
all_reversed P [] all = tt
all_reversed P (member ∷ members) all =
    subst (AllByRecursion P) (sym (reverse_onto members member [])) (all_behind P (reverse members) (member ∷ []) (all_reversed P members all.1) (all.0, tt))

pub everywhere_at : (P : StatementTree → Type 0) (source : ProgramTree) → Everywhere P source → EveryPlace (λ place. P) source
everywhere_at P source every = functions_wherever P (reverse source.functions) (all_reversed (EveryOf P) source.functions every)

-- two things that are given are given together
module _ (First Second Both : Place → StatementTree → Type 0) (so : (place : Place) (statement : StatementTree) → First place statement → Second place statement → Both place statement) where
  mutual
    both_at : (place : Place) (statement : StatementTree) → EveryAt First place statement → EveryAt Second place statement → EveryAt Both place statement
    both_at place (map_scope line parameters ranges body) first second = (so place _ first.0 second.0, both_from (in_map place) body first.1 second.1)
    both_at place (tasklet line body) first second = (so place _ first.0 second.0, both_from (in_tasklet place) body first.1 second.1)
    both_at place (consume_scope line stream size name element worker body) first second =
        (so place _ first.0 second.0, both_from (in_consume (has_connector body) element place) body first.1 second.1)
    both_at place (for_loop line name begin end step body) first second = (so place _ first.0 second.0, both_from (in_loop place) body first.1 second.1)
    both_at place (while_loop line when body) first second = (so place _ first.0 second.0, both_from (in_loop place) body first.1 second.1)
    both_at place (branch line when body other) first second =
        (so place _ first.0 second.0, (both_from place body first.1.0 second.1.0, both_from (past_all body place) other first.1.1 second.1.1))
    both_at place (tasklet_branch line when body other) first second =
        (so place _ first.0 second.0, (both_from place body first.1.0 second.1.0, both_from (past_all body place) other first.1.1 second.1.1))
    both_at place statement first second = so place statement first second

    both_from : (place : Place) (block : Block) → EveryFrom First place block → EveryFrom Second place block → EveryFrom Both place block
    both_from place no_statement first second = tt
    both_from place (and_statement one rest) first second = (both_at place one first.0 second.0, both_from (past one place) rest first.1 second.1)

  functions_both : (functions : List FunctionTree) → EveryFunction First functions → EveryFunction Second functions → EveryFunction Both functions
  functions_both [] first second = tt
  functions_both (function ∷ above) first second =
      ((both_from (in_signature above) function.arguments first.0.0 second.0.0, both_from (in_function above function.arguments) function.body first.0.1 second.0.1), functions_both above first.1 second.1)

  pub both_places : (source : ProgramTree) → EveryPlace First source → EveryPlace Second source → EveryPlace Both source
  both_places source first second = functions_both (reverse source.functions) first second

abbrev IsPlacedKnown : Place → StatementTree → Type 0
IsPlacedKnown place statement = IsPlaced place statement × IsKnown place statement

abbrev IsFewAffine : Place → StatementTree → Type 0
IsFewAffine place statement = HasFewParameters statement × EachBound IsAffine statement

-- each statement of a well-formed program fits its place
pub fitting : (source : ProgramTree) → IsWellFormed source → EveryPlace Fitting source
fitting source well =
    both_places IsPlacedKnown IsFewAffine Fitting (λ place statement first second. record { placed = first.0; known = first.1; parameters = second.0; affine = second.1 }) source
    (both_places IsPlaced IsKnown IsPlacedKnown (λ place statement placed known. (placed, known)) source well.placed well.known)
    (both_places (λ place. HasFewParameters) (λ place. EachBound IsAffine) IsFewAffine (λ place statement few affine. (few, affine)) source
    (everywhere_at HasFewParameters source well.parameters) (everywhere_at (EachBound IsAffine) source well.affine))
