-- Code has a link for each of its connectors, and so it has with sizes.
use Rattle.std.proofs.Common.{◌≡◌, ◌∙◌, inl, inr, ℕ, suc, ℤ, List, [], ◌∷◌, map, length, Option, Some, None, Bool, true, false, refl, ap, sym, subst}
use Rattle.std.specs.Prelude.{⊤}
use Rattle.std.specs.List.{AllByRecursion, list_all}
use Rattle.std.proofs.lemmas.Option.{same_Some}
use Rattle.sd_lex.specs.PlainTree.{Expression, number, named, element_at, one, two, choice, Expressions, no_expression, and_expression, StatementTree, assign, copy, reduce, map_scope, tasklet, consume_scope, call, FunctionTree}
use Rattle.sd_lex.specs.declared.syntax.operator.TwoSign.TheVariants.{Add}
use Rattle.sd_num.specs.declared.resolution.Resolution.{Resolution}
use Rattle.sd_num.specs.declared.resolution.Resolution.TheVariants.{Sum}
use Rattle.sd_range.specs.declared.subset.Dim.{Dim}
use Rattle.sd_range.specs.declared.subset.Dim.TheVariants.{Index, Span}
use Rattle.sd_graph.specs.PlainTree as plain
use Rattle.sd_graph.specs.PlainTree.{KindTree, GraphTree, GuardTree}
use Rattle.sd_graph.specs.declared.link.Link.{Link}
use Rattle.sd_graph.proofs.Among.{nat_eq_same}
use Rattle.sd_program.specs.Names.{Name, Named}
use Rattle.sd_program.specs.Affines.{affines_of}
use Rattle.sd_task.specs.in_force.Subsets.{ranges_among}
use Rattle.sd_task.specs.task.Table.{Table}
use Rattle.sd_task.specs.task.Links.{element_link, ports_of}
use Rattle.sd_task.specs.task.ElementCode.{input_name, links_with, assignment, element_task, guard_of}
use Rattle.sd_elab.specs.items.Kinds.{kind_of}
use Rattle.sd_valid.specs.BoundExpression.{bound_dim, bound_link}
use Rattle.sd_valid.specs.BoundTree.{bound_guard}
use Rattle.sd_validity.specs.rules.Places.{Scopes}
use Rattle.sd_validity.specs.rules.Parts.{is_empty, spans_of, link_spans}
use Rattle.sd_validity.specs.rules.Dimensions.{are_ports_linked, is_condition_sound}
use Rattle.sd_program.specs.Place.{Place}
use Rattle.sd_validity.proofs.bound_places_lemmas.EachPlace.{all_joined}
use Rattle.sd_made.proofs.places_lemmas.Made.{IsItem}

-- ---- connectors and their links

ranges_counted : (dims : List Dim) → ranges_among dims ≡ length (spans_of dims)
ranges_counted [] = refl
ranges_counted (Index at ∷ dims) = ranges_counted dims
ranges_counted (Span range ∷ dims) = ap suc (ranges_counted dims)

-- sizes leave the ranges of a subset as many
spans_bound : (sizes : List ℤ) (dims : List Dim) → length (spans_of (map (bound_dim sizes) dims)) ≡ length (spans_of dims)
spans_bound sizes [] = refl
spans_bound sizes (Index at ∷ dims) = spans_bound sizes dims
spans_bound sizes (Span range ∷ dims) = ap suc (spans_bound sizes dims)

pub ports_linked : (sizes : List ℤ) (links : List Link) → are_ports_linked (ports_of links) (map (bound_link sizes) links) ≡ true
ports_linked sizes [] = refl
ports_linked sizes (link ∷ links) =
    let dims : List Dim = link.memlet.subset.dims in
    rw (nat_eq_same (ranges_among dims) (length (spans_of (map (bound_dim sizes) dims))) (ranges_counted dims ∙ sym (spans_bound sizes dims))) (ports_linked sizes links)

-- ---- elements

indices_have_none : (variables : Named ℕ) (at : Expressions) → spans_of (map Index (affines_of variables at)) ≡ []
indices_have_none variables no_expression = refl
indices_have_none variables (and_expression first rest) = indices_have_none variables rest

-- a link of single elements
abbrev IsOfElement : Link → Type 0
IsOfElement link = link_spans link ≡ []

module _ (table : Table) where
  elements_alone : (links : List Link) (expression : Expression) → AllByRecursion IsOfElement links → AllByRecursion IsOfElement (links_with table links expression)
  elements_alone links (number value) all = all
  elements_alone links (named name) all = all
  elements_alone links (element_at name at) all =
      all_joined IsOfElement links (element_link table (input_name (length links)) name at None ∷ []) all (indices_have_none table.variables at, tt)
  elements_alone links (one sign of) all = elements_alone links of all
  elements_alone links (two sign left right) all = elements_alone (links_with table links left) right (elements_alone links left all)
  elements_alone links (choice value when other) all =
      elements_alone (links_with table (links_with table links value) when) other (elements_alone (links_with table links value) when (elements_alone links value all))

  -- the connector of one element is a scalar
  element_port : (connector name : Name) (at : Expressions) (resolution : Option Resolution) → ranges_among (map Index (affines_of table.variables at)) ≡ 0
  element_port connector name at resolution = ranges_counted (map Index (affines_of table.variables at)) ∙ ap length (indices_have_none table.variables at)

none_bound : (sizes : List ℤ) (dims : List Dim) → spans_of dims ≡ [] → is_empty (spans_of (map (bound_dim sizes) dims)) ≡ true
none_bound sizes [] none = refl
none_bound sizes (Index at ∷ dims) none = none_bound sizes dims none
none_bound sizes (Span range ∷ dims) none = cc

all_alone : (sizes : List ℤ) (links : List Link) → AllByRecursion IsOfElement links → list_all (λ link. is_empty (link_spans link)) (map (bound_link sizes) links) ≡ true
all_alone sizes [] all = refl
all_alone sizes (link ∷ links) all = rw (none_bound sizes link.memlet.subset.dims all.0) (all_alone sizes links all.1)

-- a condition reads single elements, and is one assignment to its one output
pub condition_sound : (sizes : List ℤ) (table : Table) (line : ℕ) (when : Expression) → is_condition_sound (Some (bound_guard sizes (guard_of table line when))) ≡ true
condition_sound sizes table line when =
    let links : List Link = links_with table [] when in
    rw (ports_linked sizes links, all_alone sizes links (elements_alone table [] when tt)) refl

-- ---- items

-- the connectors of code are those of its links
abbrev pub HasPorts : KindTree → Type 0
HasPorts (plain.task code ins outs) = (code.ins ≡ ports_of ins) × (code.outs ≡ ports_of outs)
HasPorts (plain.map_scope sequential params private body) = ⊤
HasPorts (plain.consume_scope stream element private body) = ⊤
HasPorts (plain.nested_graph inner links) = ⊤
HasPorts (plain.reduction resolution axis identity from to) = ⊤
HasPorts (plain.copy from to) = ⊤

assignment_ports : (table : Table) (name : Name) (at : Expressions) (resolution : Option Resolution) (value : Expression) → HasPorts (assignment table name at resolution value)
assignment_ports table name at resolution value = (refl, rw (element_port table name name at resolution) refl)

element_ports : (table : Table) (in_scope add : Bool) (name : Name) (at : Expressions) (value : Expression) → HasPorts (element_task table in_scope name at add value)
element_ports table in_scope false name at value = assignment_ports table name at None value
element_ports table true true name at value = assignment_ports table name at (Some Sum) value
element_ports table false true name at value = assignment_ports table name at None (two Add (element_at name at) value)

statement_ports : (statement : StatementTree) (in_scope : Bool) (table : Table) (container variable : ℕ) (graphs : Name → GraphTree) (kind : KindTree) →
    kind_of graphs statement in_scope table container variable ≡ Some kind → HasPorts kind
statement_ports (assign line name at add value) in_scope table container variable graphs kind made = subst HasPorts (same_Some _ kind made) (element_ports table in_scope add name at value)
statement_ports (copy line to to_dimensions from from_dimensions) in_scope table container variable graphs kind made = subst HasPorts (same_Some _ kind made) tt
statement_ports (reduce line lambda from to axis identity) in_scope table container variable graphs kind made = subst HasPorts (same_Some _ kind made) tt
statement_ports (map_scope line parameters ranges body) in_scope table container variable graphs kind made = subst HasPorts (same_Some _ kind made) tt
statement_ports (tasklet line body) in_scope table container variable graphs kind made = subst HasPorts (same_Some _ kind made) (refl, refl)
statement_ports (consume_scope line stream size name element worker body) in_scope table container variable graphs kind made = subst HasPorts (same_Some _ kind made) tt
statement_ports (call line name arguments) in_scope table container variable graphs kind made = subst HasPorts (same_Some _ kind made) tt
statement_ports statement in_scope table container variable graphs kind made = cc

module _ (Given : Place → StatementTree → Type 0) (Is : List Name → FunctionTree → Type 0) where
  pub item_ports : (tree : GraphTree) (state : ℕ) (scopes : Scopes) (kind : KindTree) → IsItem Given Is tree state scopes kind → HasPorts kind
  item_ports tree state scopes kind (inl is) = statement_ports is.statement is.in_scope is.table is.container is.variable is.graphs kind is.made
  item_ports tree state scopes kind (inr is) = subst HasPorts (sym is.made) (refl, refl)
