-- The items of a program that counts name what is there.
use Rattle.std.proofs.Common.{◌≡◌, ◌∙◌, ℕ, ◌+◌, ℤ, nat_abs, codes, option_map, List, [], ◌∷◌, map, length, Option, Some, Bool, true, false, cond, ◌&&◌, refl, ap, arith}
use Rattle.std.specs.Prelude.{⊤}
use Rattle.sd_lex.specs.PlainTree.{StatementTree, assign, copy, reduce, map_scope, tasklet, consume_scope, call, Block, no_statement, and_statement}
use Rattle.sd_lex.specs.StatementKind.{has_connector}
use Rattle.sd_num.specs.declared.resolution.Resolution.{Resolution}
use Rattle.sd_range.specs.declared.range.Range.{Range}
use Rattle.sd_graph.specs.PlainTree as plain
use Rattle.sd_graph.specs.PlainTree.{KindTree, ItemTrees, GraphTree, ExitTree}
use Rattle.sd_graph.specs.TreeParts.{containers_of}
use Rattle.sd_graph.specs.ContainerParts.{Containers}
use Rattle.sd_graph.specs.declared.link.Link.{Link}
use Rattle.sd_program.specs.Declared.{containers_in}
use Rattle.sd_program.specs.Names.{Name, Named, in_force}
use Rattle.sd_program.specs.Place.{of_dimensions, scope, Place, past, in_map, in_consume, EveryAt, EveryFrom}
use Rattle.sd_task.specs.task.Table.{Table, with_container, with_variables}
use Rattle.sd_task.specs.task.Links.{subset_link, resolution_of}
use Rattle.sd_task.specs.in_force.Names.{with_numbered}
use Rattle.sd_task.specs.in_force.Ranges.{parameters_of}
use Rattle.sd_elab.specs.items.Counts.{variables_in}
use Rattle.sd_elab.specs.items.NamesBehind.{own_of, table_behind}
use Rattle.sd_elab.specs.items.Items.{call_links, items_with, items_of_body}
use Rattle.sd_task.specs.containers.Declarations.{with_element, containers_with, containers_with_all}
use Rattle.sd_made.proofs.elab_lemmas.ContainersMade.{Begins, first_begins, counted, element_longer}
use Rattle.sd_valid.specs.BoundExpression.{bound_link, bound_param}
use Rattle.sd_valid.specs.BoundTree.{bound_kind, bound_exit}
use Rattle.sd_validity.specs.rules.Places.{Scopes, in_map as in_map_of, in_consume as in_consume_of}
use Rattle.sd_validity.specs.rules.Parts.{is_link_passed, are_params_passed, is_kind_passed, is_exit_passed}
use Rattle.sd_validity.specs.bound_places.Throughout.{InKind, InItems, Throughout}
use Rattle.sd_made_valid.specs.values.Names.{names_tests}
use Rattle.sd_made_valid.proofs.values_lemmas.Values.{statement_known, links_passed, range_passed, dims_passed}
use Rattle.sd_made_valid.proofs.counted_lemmas.Tied.{Fit, placed_at, Are, one_more_tied, element_of, tied_behind}
use Rattle.sd_made_valid.proofs.counted_lemmas.Lines.{tasklet_known, taking_known}

-- what is asked of a graph, of a transition and of an item
abbrev pub IsWhole : GraphTree → Type 0
IsWhole tree = ⊤

abbrev pub IsLeaving : GraphTree → (state : ℕ) → ExitTree → Type 0
IsLeaving tree state exit = (sizes : List ℤ) → is_exit_passed names_tests (bound_exit sizes exit) ≡ true

-- it names what is there, with sizes too
abbrev pub IsRight : KindTree → Type 0
IsRight kind = (sizes : List ℤ) → is_kind_passed names_tests (bound_kind sizes kind) ≡ true

abbrev pub IsDoing : GraphTree → (state : ℕ) → Scopes → KindTree → Type 0
IsDoing tree state scopes kind = IsRight kind

abbrev pub IsRightThroughout : GraphTree → Type 0
IsRightThroughout tree = Throughout IsWhole IsLeaving IsDoing tree

-- ---- items without code

params_passed : (params : List (ℕ × Range)) → are_params_passed names_tests params ≡ true
params_passed [] = refl
params_passed (param ∷ params) = rw (range_passed param.1) (params_passed params)

link_passed : (link : Link) → is_link_passed names_tests link ≡ true
link_passed link = dims_passed link.memlet.subset.dims

copy_right : (from to : Link) → IsRight (plain.copy from to)
copy_right from to sizes = rw (link_passed (bound_link sizes from)) (link_passed (bound_link sizes to))

reduction_right : (resolution : Resolution) (axis : Option ℕ) (identity : Option ℤ) (from to : Link) → IsRight (plain.reduction resolution axis identity from to)
reduction_right resolution axis identity from to sizes = rw (link_passed (bound_link sizes from)) (link_passed (bound_link sizes to))

-- ---- items

module _ (symbols : List Name) (wholes : Named ℕ) (graphs : Name → GraphTree) (right : (name : Name) → IsRightThroughout (graphs name)) (declared : List Name) (all : Containers) (tree : GraphTree) where
  abbrev known : Named ℕ
  known = with_numbered symbols 0 []

  abbrev Items : ItemTrees → (state : ℕ) → Scopes → Type 0
  Items items state scopes = InItems IsWhole IsLeaving IsDoing items tree state scopes

  abbrev Inside : KindTree → (state : ℕ) → Scopes → Type 0
  Inside kind state scopes = InKind IsWhole IsLeaving IsDoing kind tree state scopes

  abbrev AllFit : Place → StatementTree → Type 0
  AllFit = Fit symbols wholes

  abbrev Known : Place → Table → Type 0
  Known place table = Are symbols wholes declared all place.containers table

  either_inside : (resolved : Bool) (one other : KindTree) (state : ℕ) (scopes : Scopes) → Inside one state scopes → Inside other state scopes → Inside (cond resolved one other) state scopes
  either_inside true one other state scopes is others = is
  either_inside false one other state scopes is others = others

  -- the items of a consume scope, one tasklet or those of its body
  consumed_right : (is_task : Bool) (body : Block) (taking : KindTree) (line : ℕ) (table : Table) (container variable : ℕ) (element : Name) (place : Place) (before : Containers) (state : ℕ) (scopes : Scopes) → length before ≡ container →
      (is_task ≡ true → EveryFrom AllFit (in_consume true element place) body → IsRight taking) → Inside taking state scopes → (is_task ≡ false → in_force wholes element ≡ Some 0) →
      Begins (cond is_task (with_element declared before is_task element) (containers_with_all known declared body true (with_element declared before is_task element))) all →
      Known place table → EveryFrom AllFit (in_consume is_task element place) body →
      ((with : Containers) → length with ≡ container + 1 → Begins (containers_with_all known declared body true with) all → Known (in_consume false element place) (with_container element container table) →
      EveryFrom AllFit (in_consume false element place) body → Items (items_of_body graphs body (with_container element container table) (container + 1) variable) state scopes) →
      Items (cond is_task (plain.and_item line taking plain.no_item) (items_of_body graphs body (with_container element container table) (container + 1) variable)) state scopes
  consumed_right true body taking line table container variable element place before state scopes e taken inside counts begins are fits of_body = (taken refl fits, inside, tt)
  consumed_right false body taking line table container variable element place before state scopes e taken inside counts begins are fits of_body =
      let with : Containers = with_element declared before false element in
      let own = element_of symbols wholes declared all before element container e (first_begins known declared body true with all begins) (counts refl) in
      of_body with (omega (arith, element_longer known declared before false element, e)) begins
      (are.0, one_more_tied symbols wholes declared all place.containers table.containers element (of_dimensions 1) container own are.1) fits

  mutual
    pub item_right : (statement : StatementTree) (in_scope : Bool) (table : Table) (container variable : ℕ) (rest : ItemTrees) (state : ℕ) (scopes : Scopes) (place : Place) (before : Containers) → length before ≡ container →
        Begins (containers_with known declared statement in_scope before) all → Known place table → EveryAt AllFit place statement → Items rest state scopes →
        Items (items_with graphs statement in_scope table container variable rest) state scopes
    item_right (assign line name at add value) in_scope table container variable rest state scopes place before e begins are fit others =
        (λ sizes. statement_known sizes table in_scope name at add value, either_inside (add && in_scope) _ _ state scopes tt tt, others)
    item_right (copy line to to_dimensions from from_dimensions) in_scope table container variable rest state scopes place before e begins are fit others = (copy_right (subset_link table (codes "from") from from_dimensions) (subset_link table (codes "to") to to_dimensions), tt, others)
    item_right (reduce line lambda from to axis identity) in_scope table container variable rest state scopes place before e begins are fit others =
        (reduction_right (resolution_of lambda) (option_map nat_abs axis) identity (subset_link table (codes "from") from []) (subset_link table (codes "to") to []), tt, others)
    item_right (map_scope line parameters ranges body) in_scope table container variable rest state scopes place before e begins are fit others = (
      λ sizes. params_passed (map (bound_param sizes) (parameters_of table.variables ranges variable)),
      body_right body (with_variables parameters variable table) container (variable + length parameters) state (in_map_of scopes (parameters_of table.variables ranges variable) (own_of body container)) (in_map place) before refl e begins
          (are.0, are.1) fit.1,
      others,
    )
    item_right (tasklet line body) in_scope table container variable rest state scopes place before e begins are fit others =
        (tasklet_known symbols wholes declared all place table are body fit.1 fit.0.1.1.0, tt, others)
    item_right (consume_scope line stream size name element worker body) in_scope table container variable rest state scopes place before e begins are fit others =
        let inside : Scopes = in_consume_of scopes container (own_of body (container + 1)) in (
          λ sizes. refl,
          consumed_right (has_connector body) body _ line table container variable element place before state inside e
              (λ is fits. taking_known symbols wholes declared all place table are element container body fits (fit.0.1.1.0.0 is)) tt fit.0.1.1.0.1 begins are fit.1
              (λ with e begins are fit. body_right body (with_container element container table) (container + 1) variable state inside (in_consume false element place) with refl e begins are fit),
          others,
        )
    item_right (call line name arguments) in_scope table container variable rest state scopes place before e begins are fit others = (λ sizes. links_passed (map (bound_link sizes) (call_links table arguments (containers_of (graphs name)))), right name, others)
    item_right statement in_scope table container variable rest state scopes place before e begins are fit others = others

    body_right : (body : Block) (table : Table) (container variable : ℕ) (state : ℕ) (scopes : Scopes) (place : Place) (before : Containers) → place.around ≡ scope → length before ≡ container →
        Begins (containers_with_all known declared body true before) all → Known place table → EveryFrom AllFit place body → Items (items_of_body graphs body table container variable) state scopes
    body_right no_statement table container variable state scopes place before around e begins are fit = tt
    body_right (and_statement first rest) table container variable state scopes place before around e begins are fit =
        let middle : Containers = containers_with known declared first true before in
        let made : Begins middle all = first_begins known declared rest true middle all begins in
        item_right first true table container variable _ state scopes place before e made are fit.0
        (body_right rest (table_behind first container table) (container + containers_in first) (variable + variables_in first) state scopes (past first place) middle around
        (counted known declared first true place before (placed_at symbols wholes place first fit.0) ∙ ap (λ number. number + containers_in first) e) begins
        (tied_behind symbols wholes declared all first table container place before around fit.0 e made are) fit.1)
