-- The items of a program have the shapes that they may.
use Rattle.std.proofs.Common.{◌≡◌, ◌∙◌, ℕ, ◌+◌, pos, List, [], ◌∷◌, length, Some, Bool, true, false, cond, ◌&&◌, refl, ap, arith}
use Rattle.std.specs.Prelude.{⊤}
use Rattle.sd_lex.specs.PlainTree.{Dimension, Expression, number, StatementTree, assign, copy, reduce, map_scope, tasklet, consume_scope, call, Block, no_statement, and_statement, FunctionTree}
use Rattle.sd_lex.specs.StatementKind.{has_connector}
use Rattle.sd_graph.specs.PlainTree as plain
use Rattle.sd_graph.specs.PlainTree.{KindTree, ItemTrees, GraphTree, ExitTree}
use Rattle.sd_graph.specs.TreeParts.{containers_of}
use Rattle.sd_graph.specs.ContainerParts.{Containers}
use Rattle.sd_program.specs.Declared.{containers_in}
use Rattle.sd_program.specs.Names.{Name, Named, in_force}
use Rattle.sd_program.specs.Place.{of_dimensions, scope, Place, past, in_map, in_consume, EveryAt, EveryFrom}
use Rattle.sd_task.specs.task.Table.{Table, with_container, with_variables}
use Rattle.sd_task.specs.in_force.Ranges.{parameters_of}
use Rattle.sd_elab.specs.items.Counts.{variables_in}
use Rattle.sd_elab.specs.items.NamesBehind.{own_of, table_behind}
use Rattle.sd_elab.specs.items.Items.{call_links, items_with, items_of_body}
use Rattle.sd_task.specs.containers.Declarations.{with_element, containers_with, containers_with_all}
use Rattle.sd_made.proofs.elab_lemmas.ContainersMade.{Begins, first_begins, counted, element_longer}
use Rattle.sd_validity.specs.rules.Places.{doing, Scopes, in_map as in_map_of, in_consume as in_consume_of}
use Rattle.sd_validity.specs.rules.MovedShapes.{are_shapes_right}
use Rattle.sd_validity.specs.bound_places.Throughout.{InKind, InItems, Throughout}
use Rattle.sd_made.proofs.shapes_lemmas.NormalForms.{AreNormal}
use Rattle.sd_made_valid.specs.nesting.Shaped.{HaveShapes}
use Rattle.sd_made_valid.specs.read_shapes.Fits.{extents_of_programs}
use Rattle.sd_made_valid.proofs.fits_lemmas.Agreeing.{others_agree}
use Rattle.sd_made_valid.proofs.fits_lemmas.Tied.{Fit, placed_at, Are, one_more_tied, element_of, tied_behind}
use Rattle.sd_made_valid.proofs.fits_lemmas.Sides.{HasParameters, copy_right, reduction_right, call_right}

-- what is asked of a graph, of a transition and of an item
abbrev pub IsWhole : GraphTree → Type 0
IsWhole tree = ⊤

abbrev pub IsLeaving : GraphTree → (state : ℕ) → ExitTree → Type 0
IsLeaving tree state exit = ⊤

abbrev pub IsRight : KindTree → Type 0
IsRight kind = HaveShapes kind × (are_shapes_right (doing kind) ≡ true)

abbrev pub IsDoing : GraphTree → (state : ℕ) → Scopes → KindTree → Type 0
IsDoing tree state scopes kind = IsRight kind

abbrev pub IsRightThroughout : GraphTree → Type 0
IsRightThroughout tree = Throughout IsWhole IsLeaving IsDoing tree

-- what is known of the graphs of the programs above
pub record AreMade (known : Named ℕ) (above : List FunctionTree) (graphs : Name → GraphTree) : Type 0 where
  pub right : (name : Name) → IsRightThroughout (graphs name)
  pub have : (name : Name) (parameters : List (List Expression)) → in_force (extents_of_programs above) name ≡ Some parameters → HasParameters known (containers_of (graphs name)) 0 parameters

module _ (symbols : List Name) (arrays : Named (List Expression)) (above : List FunctionTree) (graphs : Name → GraphTree) (known : Named ℕ) (are_made : AreMade known above graphs) (declared : List Name) (all : Containers)
    (normal : AreNormal all) (tree : GraphTree) where
  abbrev Items : ItemTrees → (state : ℕ) → Scopes → Type 0
  Items items state scopes = InItems IsWhole IsLeaving IsDoing items tree state scopes

  abbrev Inside : KindTree → (state : ℕ) → Scopes → Type 0
  Inside kind state scopes = InKind IsWhole IsLeaving IsDoing kind tree state scopes

  abbrev AllFit : Place → StatementTree → Type 0
  AllFit = Fit symbols arrays above

  abbrev Known : Place → Table → Type 0
  Known place table = Are symbols arrays above known declared all place.containers table

  either_right : (resolved : Bool) (one other : KindTree) → IsRight one → IsRight other → IsRight (cond resolved one other)
  either_right true one other is others = is
  either_right false one other is others = others

  either_inside : (resolved : Bool) (one other : KindTree) (state : ℕ) (scopes : Scopes) → Inside one state scopes → Inside other state scopes → Inside (cond resolved one other) state scopes
  either_inside true one other state scopes is others = is
  either_inside false one other state scopes is others = others

  -- the items of a consume scope, one tasklet or those of its body
  consumed_right : (is_task : Bool) (body : Block) (taking : KindTree) (line : ℕ) (table : Table) (container variable : ℕ) (element : Name) (place : Place) (before : Containers) (state : ℕ) (scopes : Scopes) → length before ≡ container →
      IsRight taking → Inside taking state scopes → (is_task ≡ false → in_force arrays element ≡ Some (number (pos 1) ∷ [])) →
      Begins (cond is_task (with_element declared before is_task element) (containers_with_all known declared body true (with_element declared before is_task element))) all →
      Known place table → EveryFrom AllFit (in_consume is_task element place) body →
      ((with : Containers) → length with ≡ container + 1 → Begins (containers_with_all known declared body true with) all → Known (in_consume false element place) (with_container element container table) →
      EveryFrom AllFit (in_consume false element place) body → Items (items_of_body graphs body (with_container element container table) (container + 1) variable) state scopes) →
      Items (cond is_task (plain.and_item line taking plain.no_item) (items_of_body graphs body (with_container element container table) (container + 1) variable)) state scopes
  consumed_right true body taking line table container variable element place before state scopes e right inside fit begins are fits of_body = (right, inside, tt)
  consumed_right false body taking line table container variable element place before state scopes e right inside fit begins are fits of_body =
      let with : Containers = with_element declared before false element in
      let own = element_of symbols arrays above known declared all before element container e (first_begins known declared body true with all begins) (fit refl) in
      of_body with (omega (arith, element_longer known declared before false element, e)) begins
      (are.0, (are.1.0, one_more_tied symbols arrays above known declared all place.containers table.containers element (of_dimensions 1) container own are.1.1)) fits

  call_item : (place : Place) (line : ℕ) (name : Name) (arguments : List (Name × List Dimension)) (table : Table) → AllFit place (call line name arguments) → Known place table →
      IsRight (plain.nested_graph (graphs name) (call_links table arguments (containers_of (graphs name))))
  call_item place line name arguments table fit are =
      (call_right symbols arrays above known declared all normal place.containers table are (containers_of (graphs name)) 0 arguments fit.1.1.0 (containers_of (graphs name)) fit.1.0 fit.1.1.1.1 (are_made.have name fit.1.1.0 fit.1.1.1.0), refl)

  mutual
    pub item_right : (statement : StatementTree) (in_scope : Bool) (table : Table) (container variable : ℕ) (rest : ItemTrees) (state : ℕ) (scopes : Scopes) (place : Place) (before : Containers) → length before ≡ container →
        Begins (containers_with known declared statement in_scope before) all → Known place table → EveryAt AllFit place statement → Items rest state scopes →
        Items (items_with graphs statement in_scope table container variable rest) state scopes
    item_right (assign line name at add value) in_scope table container variable rest state scopes place before e begins are fit others =
        (either_right (add && in_scope) _ _ (tt, refl) (tt, refl), either_inside (add && in_scope) _ _ state scopes tt tt, others)
    item_right (copy line to to_dimensions from from_dimensions) in_scope table container variable rest state scopes place before e begins are fit others =
        ((tt, copy_right symbols arrays above known declared all normal place.containers table are to to_dimensions from from_dimensions fit.1.0.0 fit.1.0.1 fit.1.1), tt, others)
    item_right (reduce line lambda from to axis identity) in_scope table container variable rest state scopes place before e begins are fit others =
        ((tt, reduction_right symbols arrays above known declared all normal place.containers table are from to axis fit.1.0.0 fit.1.0.1 fit.1.1), tt, others)
    item_right (map_scope line parameters ranges body) in_scope table container variable rest state scopes place before e begins are fit others = (
      (tt, refl),
      body_right body (with_variables parameters variable table) container (variable + length parameters) state (in_map_of scopes (parameters_of table.variables ranges variable) (own_of body container)) (in_map place) before refl e begins
          (are.0, (others_agree symbols known parameters variable table.variables fit.0.1.1 are.1.0, are.1.1)) fit.1,
      others,
    )
    item_right (tasklet line body) in_scope table container variable rest state scopes place before e begins are fit others = ((tt, refl), tt, others)
    item_right (consume_scope line stream size name element worker body) in_scope table container variable rest state scopes place before e begins are fit others =
        let inside : Scopes = in_consume_of scopes container (own_of body (container + 1)) in (
          (tt, refl),
          consumed_right (has_connector body) body _ line table container variable element place before state inside e (tt, refl) tt fit.0.1.1 begins are fit.1
              (λ with e begins are fit. body_right body (with_container element container table) (container + 1) variable state inside (in_consume false element place) with refl e begins are fit),
          others,
        )
    item_right (call line name arguments) in_scope table container variable rest state scopes place before e begins are fit others =
        (call_item place line name arguments table fit are, are_made.right name, others)
    item_right statement in_scope table container variable rest state scopes place before e begins are fit others = others

    body_right : (body : Block) (table : Table) (container variable : ℕ) (state : ℕ) (scopes : Scopes) (place : Place) (before : Containers) → place.around ≡ scope → length before ≡ container →
        Begins (containers_with_all known declared body true before) all → Known place table → EveryFrom AllFit place body → Items (items_of_body graphs body table container variable) state scopes
    body_right no_statement table container variable state scopes place before around e begins are fit = tt
    body_right (and_statement first rest) table container variable state scopes place before around e begins are fit =
        let middle : Containers = containers_with known declared first true before in
        let made : Begins middle all = first_begins known declared rest true middle all begins in
        item_right first true table container variable _ state scopes place before e made are fit.0
        (body_right rest (table_behind first container table) (container + containers_in first) (variable + variables_in first) state scopes (past first place) middle around
        (counted known declared first true place before (placed_at symbols arrays above place first fit.0) ∙ ap (λ number. number + containers_in first) e) begins
        (tied_behind symbols arrays above known declared all first table container place before around fit.0 e made are) fit.1)
