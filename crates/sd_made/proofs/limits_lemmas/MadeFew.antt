-- The items and transitions that statements make have small expressions.
use Rattle.std.proofs.Common.{◌≡◌, inl, inr, ℕ, ◌<◌, ◌^◌, ℤ, pos, List, [], ◌∷◌, Option, Some, None, Bool, true, false, codes, sym, subst, arith}
use Rattle.std.specs.List.{AllByRecursion}
use Rattle.std.proofs.lemmas.Option.{same_Some}
use Rattle.sd_lex.specs.PlainTree.{Expression, number, named, element_at, one, two, choice, Expressions, Dimension, Memlet, StatementTree, assign, copy, reduce, map_scope, tasklet, consume_scope, call, input, output, Block, no_statement, and_statement, FunctionTree}
use Rattle.sd_lex.specs.declared.syntax.operator.TwoSign.TheVariants.{Add}
use Rattle.sd_num.specs.declared.resolution.Resolution.{Resolution}
use Rattle.sd_num.specs.declared.resolution.Resolution.TheVariants.{Sum}
use Rattle.sd_range.specs.Arithmetic.{affine_zero}
use Rattle.sd_graph.specs.PlainTree.{KindTree, GraphTree}
use Rattle.sd_graph.specs.TreeParts.{containers_of}
use Rattle.sd_graph.specs.ContainerParts.{Containers}
use Rattle.sd_graph.specs.declared.link.Link.{Link}
use Rattle.sd_program.specs.Names.{Name}
use Rattle.sd_program.specs.Bounds.{EachBound, EachExpression, EachSubscript, EachDimension}
use Rattle.sd_program.specs.Every.{EveryOf}
use Rattle.sd_program.specs.IsAffine.{IsAffine}
use Rattle.sd_program.specs.Limits.{IsStep, HasStep, HasSteps}
use Rattle.sd_program.specs.Place.{Place, in_tasklet, in_consume, past, EveryAt, EveryFrom}
use Rattle.sd_program.specs.Small.{IsWithinLimits, IsSmall}
use Rattle.sd_task.specs.in_force.SmallExtents.{HaveSmallExtents}
use Rattle.sd_task.proofs.in_force_lemmas.SmallLemmas.{zero_within}
use Rattle.sd_task.specs.task.Table.{Table, container_number, extents_at}
use Rattle.sd_task.specs.task.Links.{element_link, subset_link, memlet_link}
use Rattle.sd_task.specs.task.ElementCode.{input_name, links_with, assignment, element_task}
use Rattle.sd_task.specs.tasklets.Item.{input_before, output_before, inputs_of, outputs_of}
use Rattle.sd_elab.specs.items.Items.{call_links}
use Rattle.sd_elab.specs.items.Kinds.{kind_of}
use Rattle.sd_elab.specs.states.Exits.{stepped_on}
use Rattle.sd_task.proofs.containers_lemmas.ExtentLemmas.{small_of_function}
use Rattle.sd_made.proofs.elab_lemmas.ContainersMade.{holds_here}
use Rattle.sd_validity.specs.rules.Places.{Scopes, loops_at}
use Rattle.sd_validity.proofs.bound_places_lemmas.EachPlace.{all_joined}
use Rattle.sd_made.proofs.places_lemmas.Made.{Stands, Fitting, IsWhole, IsItem}
use Rattle.sd_made.proofs.limits_lemmas.Near.{IsNear, near_within}
use Rattle.sd_made.proofs.limits_lemmas.Few.{extents_within, params_few, subset_few, connector_few, indices_few}
use Rattle.sd_made.proofs.limits_lemmas.FewBound.{IsFewLink, AreFewLinks, HasFewDims}

-- what is given of each statement in its place: it fits, and its expressions and steps are small
pub record IsLight (place : Place) (statement : StatementTree) : Type 0 where
  pub fitting : Fitting place statement
  pub small : EachBound IsSmall statement
  pub steps : HasSteps statement

-- the expressions of a program are small
abbrev pub IsLightFunction : List Name → FunctionTree → Type 0
IsLightFunction symbols function = EveryOf (EachBound IsSmall) function

pub light_fits : (place : Place) (statement : StatementTree) → IsLight place statement → Fitting place statement
light_fits place statement light = light.fitting

-- the extents of its containers are small
pub whole_light : (tree : GraphTree) → IsWhole IsLight IsLightFunction tree → HaveSmallExtents (containers_of tree)
whole_light tree (inl none) = subst (λ tree. HaveSmallExtents (containers_of tree)) (sym none) tt
whole_light tree (inr is) = subst (λ tree. HaveSmallExtents (containers_of tree)) (sym is.made) (small_of_function is.symbols is.function is.is)

-- ---- links

module _ (table : Table) (light : (container : ℕ) → AllByRecursion IsWithinLimits (extents_at table.all container)) where
  part_few : (connector name : Name) (dimensions : List Dimension) → EachDimension IsSmall dimensions → AllByRecursion HasStep dimensions → IsFewLink (subset_link table connector name dimensions)
  part_few connector name dimensions small steps =
      subset_few table.variables dimensions (extents_at table.all (container_number table name)) (light (container_number table name)) small steps

  memlet_few : (connector : Name) (memlet : Memlet) → EachDimension IsSmall memlet.dimensions → AllByRecursion HasStep memlet.dimensions → IsFewLink (memlet_link table connector memlet)
  memlet_few connector memlet small steps =
      connector_few table.variables memlet.dimensions (extents_at table.all (container_number table memlet.name)) (light (container_number table memlet.name)) small steps

  -- those of an expression's elements
  pub elements_few : (links : List Link) (expression : Expression) → EachSubscript IsSmall expression → AreFewLinks links → AreFewLinks (links_with table links expression)
  elements_few links (number value) small all = all
  elements_few links (named name) small all = all
  elements_few links (element_at name at) small all =
      all_joined IsFewLink links (element_link table (input_name _) name at None ∷ []) all (indices_few table.variables at small, tt)
  elements_few links (one sign of) small all = elements_few links of small all
  elements_few links (two sign left right) small all = elements_few (links_with table links left) right small.1 (elements_few links left small.0 all)
  elements_few links (choice value when other) small all =
      elements_few (links_with table (links_with table links value) when) other small.1.1
      (elements_few (links_with table links value) when small.1.0 (elements_few links value small.0 all))

  assignment_few : (name : Name) (at : Expressions) (resolution : Option Resolution) (value : Expression) → EachExpression IsSmall at → EachSubscript IsSmall value → HasFewDims (assignment table name at resolution value)
  assignment_few name at resolution value places small = (elements_few [] value small tt, (indices_few table.variables at places, tt))

  element_few : (in_scope add : Bool) (name : Name) (at : Expressions) (value : Expression) → EachExpression IsSmall at → EachSubscript IsSmall value → HasFewDims (element_task table in_scope name at add value)
  element_few in_scope false name at value places small = assignment_few name at None value places small
  element_few true true name at value places small = assignment_few name at (Some Sum) value places small
  element_few false true name at value places small = assignment_few name at None (two Add (element_at name at) value) places (places, small)

  call_few : (arguments : List (Name × List Dimension)) (parameters : Containers) → AllByRecursion (λ argument. EachDimension IsSmall argument.1) arguments →
      AllByRecursion (λ argument. AllByRecursion HasStep argument.1) arguments → AreFewLinks (call_links table arguments parameters)
  call_few [] parameters small steps = tt
  call_few (argument ∷ arguments) [] small steps = tt
  call_few (argument ∷ arguments) (parameter ∷ parameters) small steps =
      (part_few parameter.0 argument.0 argument.1 small.0 steps.0, call_few arguments parameters small.1 steps.1)

  -- the lines of a tasklet
  input_few : (statement : StatementTree) (links : List Link) → EachBound IsSmall statement → HasSteps statement → AreFewLinks links → AreFewLinks (input_before table statement links)
  input_few (input line connector memlet) links small steps all = (memlet_few connector memlet small steps, all)
  input_few statement links small steps all = all

  output_few : (statement : StatementTree) (links : List Link) → EachBound IsSmall statement → HasSteps statement → AreFewLinks links → AreFewLinks (output_before table statement links)
  output_few (output line connector memlet) links small steps all = (memlet_few connector memlet small steps, all)
  output_few statement links small steps all = all

  lines_few : (body : Block) (place : Place) → EveryFrom IsLight place body → AreFewLinks (inputs_of table body) × AreFewLinks (outputs_of table body)
  lines_few no_statement place given = (tt, tt)
  lines_few (and_statement first rest) place given =
      let here : IsLight place first = holds_here IsLight place first given.0 in
      let others = lines_few rest (past first place) given.1 in
      (input_few first (inputs_of table rest) here.small here.steps others.0, output_few first (outputs_of table rest) here.small here.steps others.1)

-- ---- items

module _ (tree : GraphTree) (about : IsWhole IsLight IsLightFunction tree) (scopes : Scopes) (loops : List ℕ) where
  -- the extents of the containers of a table
  pub table_light : (place : Place) (table : Table) → Stands tree scopes loops place table → (container : ℕ) → AllByRecursion IsWithinLimits (extents_at table.all container)
  table_light place table stands container =
      subst (λ containers. AllByRecursion IsWithinLimits (extents_at containers container)) (sym stands.all) (extents_within (containers_of tree) container (whole_light tree about))

  statement_few : (statement : StatementTree) (in_scope : Bool) (place : Place) (table : Table) (container variable : ℕ) (graphs : Name → GraphTree) (kind : KindTree) →
      ((container : ℕ) → AllByRecursion IsWithinLimits (extents_at table.all container)) → EveryAt IsLight place statement → kind_of graphs statement in_scope table container variable ≡ Some kind → HasFewDims kind
  statement_few (assign line name at add value) in_scope place table container variable graphs kind light given made =
      subst HasFewDims (same_Some _ kind made) (element_few table light in_scope add name at value given.small.0 given.small.1)
  statement_few (copy line to to_dimensions from from_dimensions) in_scope place table container variable graphs kind light given made =
      subst HasFewDims (same_Some _ kind made) (part_few table light (codes "from") from from_dimensions given.small.1 given.steps.1, part_few table light (codes "to") to to_dimensions given.small.0 given.steps.0)
  statement_few (reduce line lambda from to axis identity) in_scope place table container variable graphs kind light given made =
      subst HasFewDims (same_Some _ kind made) (part_few table light (codes "from") from [] tt tt, part_few table light (codes "to") to [] tt tt)
  statement_few (map_scope line parameters ranges body) in_scope place table container variable graphs kind light given made =
      subst HasFewDims (same_Some _ kind made) (params_few table.variables ranges variable given.0.small given.0.steps)
  statement_few (tasklet line body) in_scope place table container variable graphs kind light given made =
      subst HasFewDims (same_Some _ kind made) (lines_few table light body (in_tasklet place) given.1)
  statement_few (consume_scope line stream size name element worker body) in_scope place table container variable graphs kind light given made =
      subst HasFewDims (same_Some _ kind made) tt
  statement_few (call line name arguments) in_scope place table container variable graphs kind light given made =
      subst HasFewDims (same_Some _ kind made) (call_few table light arguments (containers_of (graphs name)) given.small given.steps)
  statement_few statement in_scope place table container variable graphs kind light given made = cc

module _ (tree : GraphTree) (about : IsWhole IsLight IsLightFunction tree) (state : ℕ) (scopes : Scopes) where
  pub item_few : (kind : KindTree) → IsItem IsLight IsLightFunction tree state scopes kind → HasFewDims kind
  item_few kind (inl is) =
      statement_few tree about scopes (loops_at tree state) is.statement is.in_scope is.place is.table is.container is.variable is.graphs kind (table_light tree about scopes (loops_at tree state) is.place is.table is.stands) is.given is.made
  item_few kind (inr is) =
      let lines = lines_few is.table (table_light tree about scopes (loops_at tree state) is.place is.table is.stands) is.body (in_consume true is.element is.place) is.given in
      subst HasFewDims (sym is.made) (((near_within affine_zero zero_within, tt), lines.0), lines.1)

-- ---- transitions

-- an affine expression has no element
pub no_subscript : (expression : Expression) → IsAffine expression → EachSubscript IsSmall expression
no_subscript (number value) is = tt
no_subscript (named name) is = tt
no_subscript (element_at name at) is = absurd is
no_subscript (one sign of) is = no_subscript of is.1
no_subscript (two sign left right) is = (no_subscript left is.1.0, no_subscript right is.1.1)
no_subscript (choice value when other) is = absurd is

-- a variable plus its step
step_near : (variable n : ℕ) → n < 2 ^ 40 → IsNear (record { constant = pos n; terms = (variable, pos 1) ∷ [] })
step_near variable n low = record { constant = omega (arith, low); coefficients = omega arith }

pub stepped_near : (variable : ℕ) (step : Option ℤ) → IsStep step → IsNear (stepped_on variable step)
stepped_near variable None is = step_near variable 1 (omega arith)
stepped_near variable (Some step) (n, (same, (low, high))) = subst (λ step. IsNear (record { constant = step; terms = (variable, pos 1) ∷ [] })) (sym same) (step_near variable n high)
