-- The graph of a program with sizes that are not refused.
use Rattle.std.proofs.Common.{◌≡◌, ℕ, List, [], ◌∷◌, Option, Some, None, Result, Ok, Err, reverse, subst}
use Rattle.std.specs.Prelude.{⊤}
use Rattle.std.specs.List.{AllByRecursion}
use Rattle.sd_lex.specs.PlainTree.{FunctionTree, ProgramTree}
use Rattle.sd_graph.specs.PlainTree.{GraphTree}
use Rattle.sd_program.specs.Names.{Name}
use Rattle.sd_program.specs.WellFormed.{IsWellFormed}
use Rattle.sd_elab.specs.elab.Elaboration.{graph_of}
use Rattle.sd_valid.specs.declared.error.BindError.{BindError}
use Rattle.sd_valid.specs.declared.error.BindError.TheVariants.{MissingSize, BadSize}
use Rattle.sd_valid.specs.SizeValues.{NamedSizes, symbols_of, first_name, has_no_size, has_bad_size, sizes_in}
use Rattle.sd_valid.specs.BoundTree.{bound_graph}
use Rattle.sd_valid.specs.Limits.{all_containers, tally}
use Rattle.sd_valid.specs.Binding.{binding, unless_refused, within_limits, with_sizes}
use Rattle.sd_validity.specs.rules.StreamUse.{rule_4}
use Rattle.sd_validity.specs.rules.Failing.{Holds}
use Rattle.sd_made.proofs.places_lemmas.Made.{Fitting}
use Rattle.sd_made.proofs.places_lemmas.ProgramMade.{IsTold, program_told}
use Rattle.sd_made.proofs.places_lemmas.Givens.{fitting}
use Rattle.sd_made.proofs.places_lemmas.Streams.{streams_in_place}

not_refused : (error : List ℕ → BindError) (refused : Option (List ℕ)) (next : Result GraphTree BindError) (bound : GraphTree) → unless_refused error refused next ≡ Ok bound → next ≡ Ok bound
not_refused error None next bound is = is
not_refused error (Some name) next bound is = cc

limits_kept : (counted : Result ℕ (List ℕ)) (tree bound : GraphTree) → within_limits counted tree ≡ Ok bound → tree ≡ bound
limits_kept (Ok total) tree bound is = cc
limits_kept (Err name) tree bound is = cc

-- what binding gives is the graph with its sizes
pub bound_is : (tree bound : GraphTree) (named : NamedSizes) → binding tree named ≡ Ok bound → bound_graph (sizes_in named tree) tree ≡ bound
bound_is tree bound named is =
    let sized = with_sizes tree named in
    let limited = within_limits (tally 0 (all_containers sized)) sized in
    let bad = first_name (has_bad_size named) (symbols_of tree) in
    let first = not_refused MissingSize (first_name (has_no_size named) (symbols_of tree)) (unless_refused BadSize bad limited) bound is in
    limits_kept (tally 0 (all_containers sized)) sized bound (not_refused BadSize bad limited bound first)

-- nothing is asked of the programs
abbrev pub AnyFunction : List Name → FunctionTree → Type 0
AnyFunction symbols function = ⊤

any_function : (symbols : List Name) (functions : List FunctionTree) → AllByRecursion (AnyFunction symbols) functions
any_function symbols [] = tt
any_function symbols (function ∷ functions) = (tt, any_function symbols functions)

pub told : (source : ProgramTree) → IsWellFormed source → IsTold Fitting AnyFunction (λ place statement fits. fits) (graph_of source)
told source well = program_told Fitting AnyFunction (λ place statement fits. fits) source (any_function source.symbols (reverse source.functions)) (fitting source well)

pub streams_bound : (source : ProgramTree) (named : NamedSizes) (bound : GraphTree) → IsWellFormed source → binding (graph_of source) named ≡ Ok bound → Holds rule_4 bound
streams_bound source named bound well is =
    subst (Holds rule_4) (bound_is (graph_of source) bound named is)
    (streams_in_place (sizes_in named (graph_of source)) Fitting AnyFunction (λ place statement fits. fits) (graph_of source) (told source well))
