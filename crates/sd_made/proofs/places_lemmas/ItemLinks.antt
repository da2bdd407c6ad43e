-- The links of items and conditions are sound.
use Rattle.std.proofs.Common.{◌≡◌, inr, ℕ, List, [], length, Option, Some, None, Bool, true, false, cond, refl, ap, sym, subst}
use Rattle.std.specs.Prelude.{⊤}
use Rattle.std.specs.List.{AllByRecursion}
use Rattle.std.proofs.lemmas.Option.{same_Some}
use Rattle.sd_lex.specs.PlainTree.{Expression, two, Expressions, element_at, StatementTree, assign, copy, reduce, map_scope, tasklet, consume_scope, call, while_loop, branch, Block, FunctionTree}
use Rattle.sd_lex.specs.declared.syntax.operator.TwoSign.TheVariants.{Add}
use Rattle.sd_num.specs.declared.resolution.Resolution.{Resolution}
use Rattle.sd_num.specs.declared.resolution.Resolution.TheVariants.{Sum}
use Rattle.sd_graph.specs.PlainTree as plain
use Rattle.sd_graph.specs.PlainTree.{KindTree, GraphTree, ExitTree}
use Rattle.sd_graph.specs.TreeParts.{containers_of}
use Rattle.sd_graph.specs.ContainerParts.{container_at, is_stream}
use Rattle.sd_graph.specs.InForce.{IsInForce}
use Rattle.sd_graph.specs.declared.link.Link.{Link}
use Rattle.sd_program.specs.Names.{Name}
use Rattle.sd_program.specs.Place.{of_values, Place, in_tasklet, in_consume, length_of, EveryAt, EveryFrom}
use Rattle.sd_program.specs.Known.{IsArrayOf, KnowsElements, IsPlaced, IsKnown}
use Rattle.sd_task.specs.task.Table.{Table}
use Rattle.sd_task.specs.task.ElementCode.{links_with, assignment, element_task}
use Rattle.sd_elab.specs.items.Kinds.{kind_of}
use Rattle.sd_validity.specs.rules.Places.{Scopes, no_scopes, loops_at}
use Rattle.sd_made.proofs.places_lemmas.Named.{InAffine}
use Rattle.sd_made.proofs.places_lemmas.Held.{IsVariable}
use Rattle.sd_made.proofs.places_lemmas.Made.{Stands, Fitting, IsOfStatement, IsTaking, IsAsked, IsCondition}
use Rattle.sd_made.proofs.places_lemmas.Given.{so_from}
use Rattle.sd_made.proofs.places_lemmas.LinksMade.{ArePositive, IsSound, IsOfArray, found, subset_sound, element_sound, elements_sound, call_sound, lines_sound}

module _ (tree : GraphTree) (scopes : Scopes) (loops : List ℕ) (Sized : Type 0) where
  abbrev pub SoundLinks : List Link → Type 0
  SoundLinks links = AllByRecursion (IsSound tree scopes loops Sized) links

  abbrev pub IsArrayLink : Link → Type 0
  IsArrayLink link = IsSound tree scopes loops Sized link × IsOfArray tree link

  abbrev pub ArrayLinks : List Link → Type 0
  ArrayLinks links = AllByRecursion IsArrayLink links

  -- the links of an item are sound; those that are no outputs of tasklets are of arrays, and what is consumed is a stream
  abbrev pub HasSoundLinks : KindTree → Type 0
  HasSoundLinks (plain.task code ins outs) = ArrayLinks ins × SoundLinks outs
  HasSoundLinks (plain.map_scope sequential params private body) = ⊤
  HasSoundLinks (plain.consume_scope stream element private body) = IsInForce (containers_of tree) scopes.private stream × (is_stream (container_at (containers_of tree) stream).kind ≡ true)
  HasSoundLinks (plain.nested_graph inner links) = ArrayLinks links
  HasSoundLinks (plain.reduction resolution axis identity from to) = IsArrayLink from × IsArrayLink to
  HasSoundLinks (plain.copy from to) = IsArrayLink from × IsArrayLink to

  either_sound : (resolved : Bool) (one other : KindTree) → HasSoundLinks one → HasSoundLinks other → HasSoundLinks (cond resolved one other)
  either_sound true one other is others = is
  either_sound false one other is others = others

module _ (tree : GraphTree) (scopes : Scopes) (loops : List ℕ) (extents : (container : ℕ) → AllByRecursion (InAffine (IsVariable tree scopes.params loops)) (container_at (containers_of tree) container).extents)
    (place : Place) (table : Table) (stands : Stands tree scopes loops place table) where
  abbrev Has : KindTree → Type 0
  Has kind = HasSoundLinks tree scopes loops (ArePositive place.containers) kind

  assignment_sound : (name : Name) (at : Expressions) (resolution : Option Resolution) (value : Expression) → IsArrayOf place.containers name (length_of at) → KnowsElements place.containers value →
      Has (assignment table name at resolution value)
  assignment_sound name at resolution value array knows =
      (elements_sound tree scopes loops extents place table stands [] value knows tt, ((element_sound tree scopes loops extents place table stands _ name at resolution array).0, tt))

  -- an element statement; `+=` may read its target
  element_links : (in_scope add : Bool) (name : Name) (at : Expressions) (value : Expression) → IsArrayOf place.containers name (length_of at) → KnowsElements place.containers value →
      Has (element_task table in_scope name at add value)
  element_links in_scope false name at value array knows = assignment_sound name at None value array knows
  element_links true true name at value array knows = assignment_sound name at (Some Sum) value array knows
  element_links false true name at value array knows = assignment_sound name at None (two Add (element_at name at) value) array (array, knows)

module _ (Given : Place → StatementTree → Type 0) (Is : List Name → FunctionTree → Type 0) (fits : (place : Place) (statement : StatementTree) → Given place statement → Fitting place statement)
    (tree : GraphTree) (state : ℕ) (scopes : Scopes) (extents : (container : ℕ) → AllByRecursion (InAffine (IsVariable tree scopes.params (loops_at tree state))) (container_at (containers_of tree) container).extents) where
  abbrev loops : List ℕ
  loops = loops_at tree state

  placed_lines : (place : Place) (body : Block) → EveryFrom Given place body → EveryFrom IsPlaced place body
  placed_lines = so_from Given IsPlaced (λ place statement given. (fits place statement given).placed)

  known_lines : (place : Place) (body : Block) → EveryFrom Given place body → EveryFrom IsKnown place body
  known_lines = so_from Given IsKnown (λ place statement given. (fits place statement given).known)

  of_statement : (statement : StatementTree) (in_scope : Bool) (place : Place) (table : Table) (container variable : ℕ) (graphs : Name → GraphTree) (kind : KindTree) → Stands tree scopes loops place table →
      EveryAt Given place statement → kind_of graphs statement in_scope table container variable ≡ Some kind → HasSoundLinks tree scopes loops (ArePositive place.containers) kind
  of_statement (assign line name at add value) in_scope place table container variable graphs kind stands given made =
      let known : IsKnown place (assign line name at add value) = (fits place (assign line name at add value) given).known in
      subst (HasSoundLinks tree scopes loops (ArePositive place.containers)) (same_Some (element_task table in_scope name at add value) kind made)
      (element_links tree scopes loops extents place table stands in_scope add name at value known.0 known.1)
  of_statement (copy line to to_dimensions from from_dimensions) in_scope place table container variable graphs kind stands given made =
      let known : IsKnown place (copy line to to_dimensions from from_dimensions) = (fits place (copy line to to_dimensions from from_dimensions) given).known in
      subst (HasSoundLinks tree scopes loops (ArePositive place.containers)) (same_Some _ kind made)
      (subset_sound tree scopes loops extents place table stands _ from from_dimensions known.1, subset_sound tree scopes loops extents place table stands _ to to_dimensions known.0)
  of_statement (reduce line lambda from to axis identity) in_scope place table container variable graphs kind stands given made =
      let known : IsKnown place (reduce line lambda from to axis identity) = (fits place (reduce line lambda from to axis identity) given).known in
      subst (HasSoundLinks tree scopes loops (ArePositive place.containers)) (same_Some _ kind made)
      (subset_sound tree scopes loops extents place table stands _ from [] known.0, subset_sound tree scopes loops extents place table stands _ to [] known.1)
  of_statement (map_scope line parameters ranges body) in_scope place table container variable graphs kind stands given made =
      subst (HasSoundLinks tree scopes loops (ArePositive place.containers)) (same_Some _ kind made) tt
  of_statement (tasklet line body) in_scope place table container variable graphs kind stands given made =
      subst (HasSoundLinks tree scopes loops (ArePositive place.containers)) (same_Some _ kind made)
      (lines_sound tree scopes loops extents place table stands body (in_tasklet place) refl refl (placed_lines (in_tasklet place) body given.1) (known_lines (in_tasklet place) body given.1))
  of_statement (consume_scope line stream size name element worker body) in_scope place table container variable graphs kind stands given made =
      let known : IsKnown place (consume_scope line stream size name element worker body) = (fits place (consume_scope line stream size name element worker body) given.0).known in
      let of = found tree scopes loops extents place table stands stream of_values known in
      subst (HasSoundLinks tree scopes loops (ArePositive place.containers)) (same_Some _ kind made) (of.0, of.1.0)
  of_statement (call line name arguments) in_scope place table container variable graphs kind stands given made =
      let known : IsKnown place (call line name arguments) = (fits place (call line name arguments) given).known in
      subst (HasSoundLinks tree scopes loops (ArePositive place.containers)) (same_Some _ kind made)
      (call_sound tree scopes loops extents place table stands arguments (containers_of (graphs name)) known)
  of_statement statement in_scope place table container variable graphs kind stands given made = cc

  pub statement_links : (kind : KindTree) (is : IsOfStatement Given Is tree state scopes kind) → HasSoundLinks tree scopes loops (ArePositive is.place.containers) kind
  statement_links kind is = of_statement is.statement is.in_scope is.place is.table is.container is.variable is.graphs kind is.stands is.given is.made

  -- the tasklet that a consume scope is
  pub taking_links : (kind : KindTree) (is : IsTaking Given Is tree state scopes kind) → HasSoundLinks tree scopes loops (ArePositive is.place.containers) kind
  taking_links kind is =
      let inside : Place = in_consume true is.element is.place in
      let lines = lines_sound tree scopes loops extents is.place is.table is.stands is.body inside refl refl (placed_lines inside is.body is.given) (known_lines inside is.body is.given) in
      subst (HasSoundLinks tree scopes loops (ArePositive is.place.containers)) (sym is.made) (
        (
          (
            record { there = (is.there, inr is.private); dims = λ sized. ap (λ container. length container.extents) (sym is.held); ends = refl; names = (tt, tt) },
            ap (λ container. is_stream container.kind) is.held,
          ),
          lines.0,
        ),
        lines.1,
      )

-- ---- conditions

module _ (Given : Place → StatementTree → Type 0) (Is : List Name → FunctionTree → Type 0) (fits : (place : Place) (statement : StatementTree) → Given place statement → Fitting place statement)
    (tree : GraphTree) (state : ℕ) (extents : (container : ℕ) → AllByRecursion (InAffine (IsVariable tree [] (loops_at tree state))) (container_at (containers_of tree) container).extents) where
  -- what a condition reads are arrays
  pub reads_sound : (place : Place) (table : Table) (when : Expression) → Stands tree no_scopes (loops_at tree state) place table → KnowsElements place.containers when →
      ArrayLinks tree no_scopes (loops_at tree state) (ArePositive place.containers) (links_with table [] when)
  reads_sound place table when stands knows = elements_sound tree no_scopes (loops_at tree state) extents place table stands [] when knows tt

  pub knows_condition : (place : Place) (statement : StatementTree) (line : ℕ) (when : Expression) → EveryAt Given place statement → IsAsked Given Is statement line when → KnowsElements place.containers when
  knows_condition place (while_loop line when body) line' when' given asked =
      subst (KnowsElements place.containers) asked.1 (fits place (while_loop line when body) given.0).known
  knows_condition place (branch line when body other) line' when' given asked =
      subst (KnowsElements place.containers) asked.1 (fits place (branch line when body other) given.0).known
  knows_condition place statement line' when' given asked = absurd asked

  pub condition_links : (exit : ExitTree) (is : IsCondition Given Is tree state exit) → ArrayLinks tree no_scopes (loops_at tree state) (ArePositive is.place.containers) (links_with is.table [] is.when)
  condition_links exit is = reads_sound is.place is.table is.when is.stands (knows_condition is.place is.statement is.line is.when is.given is.asked)
