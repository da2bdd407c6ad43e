-- The containers of the bound graph of a program are few, and have few dimensions.
use Rattle.std.proofs.Common.{◌≡◌, ◌∙◌, inl, inr, ℕ, ◌+◌, ◌≤◌, nat_le, ℤ, List, [], ◌∷◌, ◌++◌, map, length, Ok, Bool, true, false, cond, reverse, refl, ap, sym, subst, arith}
use Rattle.std.specs.List.{AllByRecursion, list_all}
use Rattle.std.proofs.lemmas.List.{length-map}
use Rattle.sd_num.specs.declared.width.Width.TheVariants.{W64}
use Rattle.sd_lex.specs.PlainTree.{Expressions, no_expression, and_expression, StatementTree, argument_array, local_array, local_stream, map_scope, consume_scope, for_loop, while_loop, branch, Block, no_statement, and_statement, FunctionTree, ProgramTree}
use Rattle.sd_lex.specs.StatementKind.{has_connector}
use Rattle.sd_range.specs.declared.affine.Affine.{Affine}
use Rattle.sd_graph.specs.PlainTree.{GraphTree, graph}
use Rattle.sd_graph.specs.TreeParts.{containers_of}
use Rattle.sd_graph.specs.ContainerParts.{Containers, is_stream}
use Rattle.sd_graph.specs.declared.container.Container.{Container}
use Rattle.sd_program.specs.Names.{Name, Named}
use Rattle.sd_program.specs.Bounds.{EachBound}
use Rattle.sd_program.specs.DeclaredNames.{container_names}
use Rattle.sd_program.specs.Every.{Every, EveryIn, EveryOf}
use Rattle.sd_program.specs.Known.{IsPlaced}
use Rattle.sd_program.specs.Limits as limits
use Rattle.sd_program.specs.Limits.{HasFewDimensions}
use Rattle.sd_program.specs.Place.{length_of, dimensions_of, in_signature, in_function, EveryOfFunction, EveryFunction}
use Rattle.sd_program.specs.Small.{IsWithinLimits, IsSmall}
use Rattle.sd_program.specs.WellFormed.{IsWellFormed}
use Rattle.sd_task.specs.in_force.Names.{with_numbered}
use Rattle.sd_task.specs.in_force.Ranges.{extents_of}
use Rattle.sd_task.specs.in_force.SmallExtents.{HaveSmallExtents}
use Rattle.sd_task.specs.containers.Declarations.{array_kind, stream_kind, with_element, containers_with, containers_with_all, containers_of_function}
use Rattle.sd_task.proofs.containers_lemmas.ExtentLemmas.{small_of_function}
use Rattle.sd_elab.specs.elab.Elaboration.{graph_of}
use Rattle.sd_made.proofs.elab_lemmas.ContainersMade.{all_made}
use Rattle.sd_valid.specs.BoundExpression.{bound_affine, bound_container}
use Rattle.sd_valid.specs.BoundTree.{bound_entry, bound_graph}
use Rattle.sd_valid.specs.SizeValues.{NamedSizes, sizes_in}
use Rattle.sd_valid.specs.Binding.{binding}
use Rattle.sd_validity.specs.rules.Places.{all_places, places_of}
use Rattle.sd_validity.specs.rules.Parts.{is_empty}
use Rattle.sd_validity.specs.rules.WithinLimits.{is_within, is_small, is_container_small}
use Rattle.sd_validity.specs.bound_places.BoundPlace.{bound_place}
use Rattle.sd_validity.proofs.bound_places_lemmas.EachPlace.{all_joined, AtPlace, graph_places}
use Rattle.sd_validity.proofs.bound_places_lemmas.Asked.{all_mapped}
use Rattle.sd_validity.proofs.bound_places_lemmas.BoundPlaces.{graph_bound}
use Rattle.sd_made.proofs.places_lemmas.Made.{Fitting, IsWhole, IsItem, IsExit}
use Rattle.sd_made.proofs.places_lemmas.ItemsMade.{written_extents}
use Rattle.sd_made.proofs.places_lemmas.ProgramMade.{IsTold, program_told}
use Rattle.sd_made.proofs.places_lemmas.Givens.{all_reversed, fitting}
use Rattle.sd_made.proofs.places_lemmas.Bound.{bound_is}
use Rattle.sd_made.specs.limits.Containers.{are_containers_few}
use Rattle.sd_made.proofs.limits_lemmas.Near.{AreSizes, are_sizes, near_within, near_bound}

-- ---- dimensions

abbrev IsFormed : Container → Type 0
IsFormed container = is_container_small container ≡ true

abbrev AreFormed : Containers → Type 0
AreFormed containers = AllByRecursion (λ entry. IsFormed entry.1) containers

written_few : (extents : Expressions) → length_of extents ≤ 4 → is_within 1 4 (dimensions_of extents) ≡ true
written_few no_expression few = refl
written_few (and_expression first rest) few =
    let least : nat_le 1 (length_of rest + 1) ≡ true = grind arith in
    let most : nat_le (length_of rest + 1) 4 ≡ true = grind (arith, few) in
    rw (least, most) refl

scope_array : (in_scope : Bool) → is_stream (array_kind in_scope) ≡ false
scope_array true = refl
scope_array false = refl

scope_stream : (in_scope : Bool) → is_stream (stream_kind in_scope) ≡ true
scope_stream true = refl
scope_stream false = refl

module _ (symbols : Named ℕ) (declared : List Name) where
  extents_few : (extents : Expressions) → length_of extents ≤ 4 → is_within 1 4 (length (extents_of symbols extents)) ≡ true
  extents_few extents few = ap (is_within 1 4) (written_extents symbols extents) ∙ written_few extents few

  one_more : (containers : Containers) (entry : Name × Container) → AreFormed containers → IsFormed entry.1 → AreFormed (containers ++ entry ∷ [])
  one_more containers entry all is = all_joined (λ entry. IsFormed entry.1) containers (entry ∷ []) all (is, tt)

  either_formed : (is_task : Bool) (one other : Containers) → AreFormed one → AreFormed other → AreFormed (cond is_task one other)
  either_formed true one other is others = is
  either_formed false one other is others = others

  mutual
    statement_formed : (statement : StatementTree) (in_scope : Bool) (before : Containers) → Every HasFewDimensions statement → AreFormed before → AreFormed (containers_with symbols declared statement in_scope before)
    statement_formed (argument_array line name bits extents) in_scope before few all = one_more before _ all (extents_few extents few)
    statement_formed (local_array line name extents bits) in_scope before few all =
        let is : IsFormed (record { extents = extents_of symbols extents; kind = array_kind in_scope; width = W64 }) = rw (scope_array in_scope) (extents_few extents few) in
        one_more before _ all is
    statement_formed (local_stream line name bits size) in_scope before few all =
        let is : IsFormed (record { extents = []; kind = stream_kind in_scope; width = W64 }) = rw (scope_stream in_scope) refl in
        one_more before _ all is
    statement_formed (map_scope line parameters ranges body) in_scope before few all = block_formed body true before few.1 all
    statement_formed (consume_scope line stream size name element worker body) in_scope before few all =
        let with : Containers = with_element declared before (has_connector body) element in
        let more : AreFormed with = one_more before _ all refl in
        either_formed (has_connector body) with (containers_with_all symbols declared body true with) more (block_formed body true with few.1 more)
    statement_formed (for_loop line name begin end step body) in_scope before few all = block_formed body in_scope before few.1 all
    statement_formed (while_loop line when body) in_scope before few all = block_formed body in_scope before few.1 all
    statement_formed (branch line when body other) in_scope before few all =
        block_formed other in_scope (containers_with_all symbols declared body in_scope before) few.1.1 (block_formed body in_scope before few.1.0 all)
    statement_formed statement in_scope before few all = all

    block_formed : (body : Block) (in_scope : Bool) (before : Containers) → EveryIn HasFewDimensions body → AreFormed before → AreFormed (containers_with_all symbols declared body in_scope before)
    block_formed no_statement in_scope before few all = all
    block_formed (and_statement first rest) in_scope before few all =
        block_formed rest in_scope (containers_with symbols declared first in_scope before) few.1 (statement_formed first in_scope before few.0 all)

-- ---- of a program

-- what is known of a program: its forms stand where they may, and it declares few containers of few dimensions with small extents
pub record IsCompact (symbols : List Name) (function : FunctionTree) : Type 0 where
  pub above : List FunctionTree
  pub placed : EveryOfFunction IsPlaced above function
  pub few : limits.containers_of function ≤ 256
  pub dimensions : EveryOf HasFewDimensions function
  pub small : EveryOf (EachBound IsSmall) function

function_formed : (symbols : List Name) (function : FunctionTree) → IsCompact symbols function → AreFormed (containers_of_function symbols function)
function_formed symbols function is =
    let known : Named ℕ = with_numbered symbols 0 [] in
    let declared : List Name = container_names function in
    block_formed known declared function.body false (containers_with_all known declared function.arguments false []) is.dimensions.1 (block_formed known declared function.arguments false [] is.dimensions.0 tt)

function_counted : (symbols : List Name) (function : FunctionTree) → IsCompact symbols function → length (containers_of_function symbols function) ≤ 256
function_counted symbols function is =
    let known : Named ℕ = with_numbered symbols 0 [] in
    let declared : List Name = container_names function in
    let arguments : Containers = containers_with_all known declared function.arguments false [] in
    omega (arith, all_made known declared function.arguments false (in_signature is.above) [] is.placed.0, all_made known declared function.body false (in_function is.above function.arguments) arguments is.placed.1, is.few)

-- what holds of a graph's containers without sizes
pub record AreFew (containers : Containers) : Type 0 where
  pub few : length containers ≤ 256
  pub formed : AreFormed containers
  pub small : HaveSmallExtents containers

whole_few : (tree : GraphTree) → IsWhole Fitting IsCompact tree → AreFew (containers_of tree)
whole_few tree (inl none) = subst (λ tree. AreFew (containers_of tree)) (sym none) (record { few = omega arith; formed = tt; small = tt })
whole_few tree (inr is) =
    subst (λ tree. AreFew (containers_of tree)) (sym is.made)
    (record {
      few = function_counted is.symbols is.function is.is;
      formed = function_formed is.symbols is.function is.is;
      small = small_of_function is.symbols is.function is.is.small;
    })

-- ---- with sizes

empty_bound : (sizes : List ℤ) (extents : List Affine) → is_empty (map (bound_affine sizes) extents) ≡ is_empty extents
empty_bound sizes [] = refl
empty_bound sizes (extent ∷ extents) = refl

container_bound : (sizes : List ℤ) (container : Container) → is_container_small (bound_container sizes container) ≡ is_container_small container
container_bound sizes container = rw (empty_bound sizes container.extents, length-map container.extents (bound_affine sizes)) refl

module _ (sizes : List ℤ) (are : AreSizes sizes) where
  all_formed : (containers : Containers) → AreFormed containers → list_all (λ entry. is_container_small entry.1) (map (bound_entry sizes) containers) ≡ true
  all_formed [] all = refl
  all_formed (entry ∷ containers) all = rw (container_bound sizes entry.1 ∙ all.0) (all_formed containers all.1)

  extents_bound : (extents : List Affine) → AllByRecursion IsWithinLimits extents → list_all is_small (map (bound_affine sizes) extents) ≡ true
  extents_bound [] all = refl
  extents_bound (extent ∷ extents) all = rw (near_bound sizes are extent (near_within extent all.0)) (extents_bound extents all.1)

  all_small : (containers : Containers) → HaveSmallExtents containers → list_all (λ entry. list_all is_small entry.1.extents) (map (bound_entry sizes) containers) ≡ true
  all_small [] all = refl
  all_small (entry ∷ containers) all = rw (extents_bound entry.1.extents all.0) (all_small containers all.1)

  few_bound : (containers : Containers) → AreFew containers → are_containers_few (map (bound_entry sizes) containers) ≡ true
  few_bound containers is =
      let counted : length (map (bound_entry sizes) containers) ≤ 256 = omega (arith, length-map containers (bound_entry sizes), is.few) in
      let first : nat_le (length (map (bound_entry sizes) containers)) 256 ≡ true = grind (arith, counted) in
      rw (first, all_formed containers is.formed) (all_small containers is.small)

  graph_few : (tree : GraphTree) → AreFew (containers_of tree) → are_containers_few (containers_of (bound_graph sizes tree)) ≡ true
  graph_few (graph name containers arguments variables symbols states) is = few_bound containers is

  all_few : (tree : GraphTree) → IsTold Fitting IsCompact (λ place statement fits. fits) tree → AllByRecursion (λ place. are_containers_few (containers_of place.graph) ≡ true) (all_places (bound_graph sizes tree))
  all_few tree told =
      subst (AllByRecursion (λ place. are_containers_few (containers_of place.graph) ≡ true)) (sym (graph_bound sizes tree [] 0))
      (all_mapped (bound_place sizes) (AtPlace (IsWhole Fitting IsCompact) (IsExit Fitting IsCompact) (IsItem Fitting IsCompact)) (λ place. are_containers_few (containers_of place.graph) ≡ true)
      (λ place is. graph_few place.graph (whole_few place.graph is.0)) (places_of tree [] 0) (graph_places _ _ _ tree [] 0 told))

-- ---- together

all_compact : (symbols : List Name) (functions : List FunctionTree) → EveryFunction IsPlaced functions → AllByRecursion (λ function. limits.containers_of function ≤ 256) functions →
    AllByRecursion (EveryOf HasFewDimensions) functions → AllByRecursion (EveryOf (EachBound IsSmall)) functions → AllByRecursion (IsCompact symbols) functions
all_compact symbols [] placed few dimensions small = tt
all_compact symbols (function ∷ above) placed few dimensions small =
    (record { above = above; placed = placed.0; few = few.0; dimensions = dimensions.0; small = small.0 }, all_compact symbols above placed.1 few.1 dimensions.1 small.1)

pub compact_functions : (program : ProgramTree) → IsWellFormed program → AllByRecursion (IsCompact program.symbols) (reverse program.functions)
compact_functions program well =
    all_compact program.symbols (reverse program.functions) well.placed (all_reversed (λ function. limits.containers_of function ≤ 256) program.functions well.containers)
    (all_reversed (EveryOf HasFewDimensions) program.functions well.dimensions) (all_reversed (EveryOf (EachBound IsSmall)) program.functions well.small)

pub containers_few : (program : ProgramTree) (known : NamedSizes) (bound : GraphTree) → IsWellFormed program → binding (graph_of program) known ≡ Ok bound →
    AllByRecursion (λ place. are_containers_few (containers_of place.graph) ≡ true) (all_places bound)
containers_few program known bound well is =
    let told : IsTold Fitting IsCompact (λ place statement fits. fits) (graph_of program) =
    program_told Fitting IsCompact (λ place statement fits. fits) program (compact_functions program well) (fitting program well) in
    subst (λ bound. AllByRecursion (λ place. are_containers_few (containers_of place.graph) ≡ true) (all_places bound)) (bound_is (graph_of program) bound known is)
    (all_few (sizes_in known (graph_of program)) (are_sizes (graph_of program) bound known is) (graph_of program) told)
