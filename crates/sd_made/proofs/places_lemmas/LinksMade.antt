-- The links that statements make: their containers are in force, their subsets have one end in each range and name variables in force.
use Rattle.std.proofs.Common.{◌≡◌, ◌∙◌, inl, inr, ℕ, zero, suc, ◌≤◌, List, [], ◌∷◌, map, length, Option, Some, None, unwrap_or, Bool, true, false, refl, ap, sym, subst, arith}
use Rattle.std.specs.List.{AllByRecursion, list_all}
use Rattle.std.proofs.lemmas.List.{length-map}
use Rattle.sd_lex.specs.PlainTree.{Expression, number, named, element_at, one, two, choice, Expressions, no_expression, and_expression, Dimension, index, span, Memlet, StatementTree, input, output, Block, no_statement, and_statement}
use Rattle.sd_num.specs.declared.resolution.Resolution.{Resolution}
use Rattle.sd_range.specs.declared.affine.Affine.{Affine}
use Rattle.sd_range.specs.declared.subset.Dim.TheVariants.{Index}
use Rattle.sd_graph.specs.PlainTree.{GraphTree}
use Rattle.sd_graph.specs.TreeParts.{containers_of}
use Rattle.sd_graph.specs.ContainerParts.{Containers, container_at, is_stream}
use Rattle.sd_graph.specs.InForce.{IsInForce}
use Rattle.sd_graph.specs.declared.container.Container.{Container}
use Rattle.sd_graph.specs.declared.link.Link.{Link}
use Rattle.sd_program.specs.Names.{Name, Named, in_force}
use Rattle.sd_program.specs.Affines.{affines_of}
use Rattle.sd_program.specs.Place.{Holder, of_dimensions, of_values, task, Place, length_of, past, EveryFrom}
use Rattle.sd_program.specs.Known.{IsArrayOf, IsPart, IsTarget, KnowsElements, KnowsContainers, IsKnown, IsPlaced}
use Rattle.sd_task.specs.in_force.Subsets.{whole, first_element, dim_of, dims_of, subset_of, are_units, first_or_whole, connector_subset}
use Rattle.sd_task.specs.task.Table.{Table, container_number, extents_at}
use Rattle.sd_task.specs.task.Links.{element_link, subset_link, memlet_link}
use Rattle.sd_task.specs.task.ElementCode.{input_name, links_with}
use Rattle.sd_task.specs.tasklets.Item.{input_before, output_before, inputs_of, outputs_of}
use Rattle.sd_elab.specs.items.Items.{call_links}
use Rattle.sd_made.proofs.elab_lemmas.ContainersMade.{holds_here, same_behind}
use Rattle.sd_validity.specs.rules.Places.{Scopes}
use Rattle.sd_validity.specs.rules.Dimensions.{has_one_end}
use Rattle.sd_validity.proofs.bound_places_lemmas.EachPlace.{all_joined}
use Rattle.sd_made.proofs.places_lemmas.Named.{InAffine, InDim, subset_named, connector_named, indices_named}
use Rattle.sd_made.proofs.places_lemmas.Held.{IsOf, IsVariable}
use Rattle.sd_made.proofs.places_lemmas.Made.{Stands}

-- ---- subsets

extents_same : (all : Containers) (container : ℕ) → extents_at all container ≡ (container_at all container).extents
extents_same [] container = refl
extents_same (entry ∷ all) zero = refl
extents_same (entry ∷ all) (suc container) = extents_same all container

whole_ends : (extents : List Affine) → list_all has_one_end (whole extents) ≡ true
whole_ends [] = refl
whole_ends (extent ∷ extents) = whole_ends extents

first_ends : (extents : List Affine) → list_all has_one_end (first_element extents) ≡ true
first_ends [] = refl
first_ends (extent ∷ extents) = first_ends extents

either_ends : (units : Bool) (extents : List Affine) → list_all has_one_end (first_or_whole units extents) ≡ true
either_ends true extents = first_ends extents
either_ends false extents = whole_ends extents

either_counted : (units : Bool) (extents : List Affine) → length (first_or_whole units extents) ≡ length extents
either_counted true extents = length-map extents _
either_counted false extents = length-map extents _

module _ (variables : Named ℕ) where
  one_end : (dimension : Dimension) (extent : Affine) → has_one_end (dim_of variables dimension extent) ≡ true
  one_end (index at) extent = refl
  one_end (span begin end step) extent = refl

  dims_ends : (dimensions : List Dimension) (extents : List Affine) → list_all has_one_end (dims_of variables dimensions extents) ≡ true
  dims_ends [] extents = refl
  dims_ends (dimension ∷ dimensions) [] = refl
  dims_ends (dimension ∷ dimensions) (extent ∷ extents) = rw (one_end dimension extent) (dims_ends dimensions extents)

  dims_counted : (dimensions : List Dimension) (extents : List Affine) → length extents ≡ length dimensions → length (dims_of variables dimensions extents) ≡ length extents
  dims_counted [] [] e = refl
  dims_counted [] (extent ∷ extents) e = absurd (omega (arith, e))
  dims_counted (dimension ∷ dimensions) [] e = refl
  dims_counted (dimension ∷ dimensions) (extent ∷ extents) e = omega (arith, dims_counted dimensions extents (omega (arith, e)))

  indices_ends : (at : Expressions) → list_all has_one_end (map Index (affines_of variables at)) ≡ true
  indices_ends no_expression = refl
  indices_ends (and_expression first rest) = indices_ends rest

  indices_counted : (at : Expressions) → length (map Index (affines_of variables at)) ≡ length_of at
  indices_counted no_expression = refl
  indices_counted (and_expression first rest) = omega (arith, indices_counted rest)

-- ---- links

-- an array in force has at least one dimension
abbrev pub ArePositive : Named Holder → Type 0
ArePositive known = (name : Name) (count : ℕ) → in_force known name ≡ Some (of_dimensions count) → 1 ≤ count

-- Where containers and variables of a graph are in force: the container of a link is, its subset has a dimension for each of the container's, where arrays
-- have dimensions, each range of it has one end, and it names variables in force.
pub record IsSound (tree : GraphTree) (scopes : Scopes) (loops : List ℕ) (Sized : Type 0) (link : Link) : Type 0 where
  pub there : IsInForce (containers_of tree) scopes.private link.memlet.container
  pub dims : Sized → length link.memlet.subset.dims ≡ length (container_at (containers_of tree) link.memlet.container).extents
  pub ends : list_all has_one_end link.memlet.subset.dims ≡ true
  pub names : AllByRecursion (InDim (IsVariable tree scopes.params loops)) link.memlet.subset.dims

-- and it is of an array
abbrev pub IsOfArray : GraphTree → Link → Type 0
IsOfArray tree link = is_stream (container_at (containers_of tree) link.memlet.container).kind ≡ false

module _ (tree : GraphTree) (scopes : Scopes) (loops : List ℕ) (extents : (container : ℕ) → AllByRecursion (InAffine (IsVariable tree scopes.params loops)) (container_at (containers_of tree) container).extents)
    (place : Place) (table : Table) (stands : Stands tree scopes loops place table) where
  abbrev all : Containers
  all = containers_of tree

  abbrev P : ℕ → Type 0
  P variable = IsVariable tree scopes.params loops variable

  abbrev pub Sound : Link → Type 0
  Sound link = IsSound tree scopes loops (ArePositive place.containers) link

  abbrev pub OfArray : Link → Type 0
  OfArray link = Sound link × IsOfArray tree link

  -- the container that a name stands for
  pub found : (name : Name) (holder : Holder) → in_force place.containers name ≡ Some holder →
      IsInForce all scopes.private (container_number table name) × IsOf holder (container_at all (container_number table name))
  found name holder e =
      let is = stands.containers name holder e in
      subst (λ found. IsInForce all scopes.private (unwrap_or found 0) × IsOf holder (container_at all (unwrap_or found 0))) (sym is.1) is.2

  extents_of_table : (container : ℕ) → extents_at table.all container ≡ (container_at all container).extents
  extents_of_table container = ap (λ all. extents_at all container) stands.all ∙ extents_same all container

  extents_named : (container : ℕ) → AllByRecursion (InAffine P) (extents_at table.all container)
  extents_named container = subst (AllByRecursion (InAffine P)) (sym (extents_of_table container)) (extents container)

  -- the dimensions of a subset that is written for an array
  subset_counted : (name : Name) (dimensions : List Dimension) → IsPart place.containers name dimensions →
      length (subset_of table.variables dimensions (extents_at table.all (container_number table name))) ≡ length (container_at all (container_number table name)).extents
  subset_counted name [] part = length-map (extents_at table.all (container_number table name)) _ ∙ ap length (extents_of_table (container_number table name))
  subset_counted name (dimension ∷ dimensions) part =
      let same : length (container_at all (container_number table name)).extents ≡ length (dimension ∷ dimensions) = (found name _ part).1.1 (omega arith) in
      dims_counted table.variables (dimension ∷ dimensions) (extents_at table.all (container_number table name)) (ap length (extents_of_table (container_number table name)) ∙ same)
      ∙ ap length (extents_of_table (container_number table name))

  subset_ends : (dimensions : List Dimension) (extents : List Affine) → list_all has_one_end (subset_of table.variables dimensions extents) ≡ true
  subset_ends [] extents = whole_ends extents
  subset_ends (dimension ∷ dimensions) extents = dims_ends table.variables (dimension ∷ dimensions) extents

  part_of_array : (name : Name) (dimensions : List Dimension) → IsPart place.containers name dimensions → (count : ℕ) × IsArrayOf place.containers name count
  part_of_array name [] part = part
  part_of_array name (dimension ∷ dimensions) part = (_, part)

  pub subset_sound : (connector name : Name) (dimensions : List Dimension) → IsPart place.containers name dimensions → OfArray (subset_link table connector name dimensions)
  subset_sound connector name dimensions part =
      let is = part_of_array name dimensions part in
      let of = found name _ is.1 in (
        record {
          there = of.0;
          dims = λ sized. subset_counted name dimensions part;
          ends = subset_ends dimensions (extents_at table.all (container_number table name));
          names = subset_named P table.variables stands.variables dimensions (extents_at table.all (container_number table name)) (extents_named (container_number table name));
        },
        of.1.0,
      )

  pub element_sound : (connector name : Name) (at : Expressions) (resolution : Option Resolution) → IsArrayOf place.containers name (length_of at) → OfArray (element_link table connector name at resolution)
  element_sound connector name at resolution array =
      let of = found name _ array in (
        record {
          there = of.0;
          dims = λ sized. indices_counted table.variables at ∙ sym (of.1.1 (sized name (length_of at) array));
          ends = indices_ends table.variables at;
          names = indices_named P table.variables stands.variables at;
        },
        of.1.0,
      )

  connector_counted : (name : Name) (dimensions : List Dimension) → IsPart place.containers name dimensions →
      length (connector_subset table.variables dimensions (extents_at table.all (container_number table name))) ≡ length (container_at all (container_number table name)).extents
  connector_counted name [] part =
      either_counted (are_units (extents_at table.all (container_number table name))) (extents_at table.all (container_number table name)) ∙ ap length (extents_of_table (container_number table name))
  connector_counted name (dimension ∷ dimensions) part = subset_counted name (dimension ∷ dimensions) part

  connector_ends : (dimensions : List Dimension) (extents : List Affine) → list_all has_one_end (connector_subset table.variables dimensions extents) ≡ true
  connector_ends [] extents = either_ends (are_units extents) extents
  connector_ends (dimension ∷ dimensions) extents = dims_ends table.variables (dimension ∷ dimensions) extents

  memlet_named : (memlet : Memlet) → AllByRecursion (InDim P) (connector_subset table.variables memlet.dimensions (extents_at table.all (container_number table memlet.name)))
  memlet_named memlet =
      connector_named P table.variables stands.variables memlet.dimensions (extents_at table.all (container_number table memlet.name)) (extents_named (container_number table memlet.name))

  pub memlet_sound : (connector : Name) (memlet : Memlet) → IsPart place.containers memlet.name memlet.dimensions → OfArray (memlet_link table connector memlet)
  memlet_sound connector memlet part =
      let is = part_of_array memlet.name memlet.dimensions part in
      let of = found memlet.name _ is.1 in (
        record {
          there = of.0;
          dims = λ sized. connector_counted memlet.name memlet.dimensions part;
          ends = connector_ends memlet.dimensions (extents_at table.all (container_number table memlet.name));
          names = memlet_named memlet;
        },
        of.1.0,
      )

  -- a stream has no extents
  stream_counted : (name : Name) (dimensions : List Dimension) → (container_at all (container_number table name)).extents ≡ [] →
      length (connector_subset table.variables [] (extents_at table.all (container_number table name))) ≡ length (container_at all (container_number table name)).extents
  stream_counted name dimensions none =
      either_counted (are_units (extents_at table.all (container_number table name))) (extents_at table.all (container_number table name)) ∙ ap length (extents_of_table (container_number table name))

  target_sound : (connector : Name) (memlet : Memlet) (dimensions : List Dimension) → memlet.dimensions ≡ dimensions → IsTarget place.containers memlet.name dimensions → Sound (memlet_link table connector memlet)
  target_sound connector memlet [] e (inl array) = (memlet_sound connector memlet (subst (IsPart place.containers memlet.name) (sym e) array)).0
  target_sound connector memlet [] e (inr stream) = record {
    there = (found memlet.name of_values stream).0;
    dims = λ sized.
        ap (λ dimensions. length (connector_subset table.variables dimensions (extents_at table.all (container_number table memlet.name)))) e
        ∙ stream_counted memlet.name [] (found memlet.name of_values stream).1.1;
    ends = connector_ends memlet.dimensions (extents_at table.all (container_number table memlet.name));
    names = memlet_named memlet;
  }
  target_sound connector memlet (dimension ∷ dimensions) e array = (memlet_sound connector memlet (subst (IsPart place.containers memlet.name) (sym e) array)).0

  pub output_sound : (connector : Name) (memlet : Memlet) → IsTarget place.containers memlet.name memlet.dimensions → Sound (memlet_link table connector memlet)
  output_sound connector memlet target = target_sound connector memlet memlet.dimensions refl target

  -- those of an expression's elements
  pub elements_sound : (links : List Link) (expression : Expression) → KnowsElements place.containers expression → AllByRecursion OfArray links → AllByRecursion OfArray (links_with table links expression)
  elements_sound links (number value) knows sound = sound
  elements_sound links (named name) knows sound = sound
  elements_sound links (element_at name at) knows sound =
      all_joined OfArray links (element_link table (input_name (length links)) name at None ∷ []) sound (element_sound (input_name (length links)) name at None knows, tt)
  elements_sound links (one sign of) knows sound = elements_sound links of knows sound
  elements_sound links (two sign left right) knows sound = elements_sound (links_with table links left) right knows.1 (elements_sound links left knows.0 sound)
  elements_sound links (choice value when other) knows sound =
      elements_sound (links_with table (links_with table links value) when) other knows.1.1
      (elements_sound (links_with table links value) when knows.1.0 (elements_sound links value knows.0 sound))

  -- those of a call
  pub call_sound : (arguments : List (Name × List Dimension)) (parameters : List (Name × Container)) → AllByRecursion (λ argument. IsPart place.containers argument.0 argument.1) arguments →
      AllByRecursion OfArray (call_links table arguments parameters)
  call_sound [] parameters parts = tt
  call_sound (argument ∷ arguments) [] parts = tt
  call_sound (argument ∷ arguments) (parameter ∷ parameters) parts = (subset_sound parameter.0 argument.0 argument.1 parts.0, call_sound arguments parameters parts.1)

  -- ---- the lines of a tasklet

  input_line : (statement : StatementTree) (links : List Link) → KnowsContainers place.containers statement → AllByRecursion OfArray links → AllByRecursion OfArray (input_before table statement links)
  input_line (input line connector memlet) links knows sound = (memlet_sound connector memlet knows, sound)
  input_line statement links knows sound = sound

  output_line : (statement : StatementTree) (links : List Link) → KnowsContainers place.containers statement → AllByRecursion Sound links → AllByRecursion Sound (output_before table statement links)
  output_line (output line connector memlet) links knows sound = (output_sound connector memlet knows, sound)
  output_line statement links knows sound = sound

  -- a block whose lines know containers as this place does
  pub lines_sound : (body : Block) (other : Place) → other.containers ≡ place.containers → other.around ≡ task → EveryFrom IsPlaced other body → EveryFrom IsKnown other body →
      AllByRecursion OfArray (inputs_of table body) × AllByRecursion Sound (outputs_of table body)
  lines_sound no_statement other e around placed known = (tt, tt)
  lines_sound (and_statement first rest) other e around placed known =
      let others = lines_sound rest (past first other) (same_behind first other around placed.0 ∙ e) around placed.1 known.1 in
      let here : KnowsContainers place.containers first = subst (λ containers. KnowsContainers containers first) e (holds_here IsKnown other first known.0) in
      (input_line first (inputs_of table rest) here others.0, output_line first (outputs_of table rest) here others.1)
