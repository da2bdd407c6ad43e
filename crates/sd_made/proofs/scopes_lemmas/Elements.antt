-- The element of a consume scope is a private array with one element.
use Rattle.std.proofs.Common.{◌≡◌, inl, inr, ℕ, zero, suc, ◌<◌, ℤ, pos, List, [], ◌∷◌, map, length, Some, Bool, true, false, cond, ◌&&◌, refl, ap, sym, subst, arith}
use Rattle.std.specs.Prelude.{⊤}
use Rattle.std.proofs.lemmas.Option.{same_Some}
use Rattle.sd_num.specs.declared.width.Width.TheVariants.{W64}
use Rattle.sd_lex.specs.PlainTree.{StatementTree, assign, copy, reduce, map_scope, tasklet, consume_scope, call, Block, FunctionTree}
use Rattle.sd_lex.specs.StatementKind.{has_connector}
use Rattle.sd_graph.specs.PlainTree as plain
use Rattle.sd_graph.specs.PlainTree.{KindTree, GraphTree, graph}
use Rattle.sd_graph.specs.TreeParts.{containers_of}
use Rattle.sd_graph.specs.ContainerParts.{Containers, container_at}
use Rattle.sd_graph.specs.declared.container.Container.{Container}
use Rattle.sd_graph.specs.declared.container.ContainerKind.TheVariants.{Private}
use Rattle.sd_program.specs.Affines.{affine_number}
use Rattle.sd_program.specs.Names.{Name, Named}
use Rattle.sd_program.specs.Place.{Place}
use Rattle.sd_task.specs.task.Table.{Table}
use Rattle.sd_elab.specs.items.Kinds.{kind_of}
use Rattle.sd_task.specs.containers.Declarations.{with_element, containers_with, containers_with_all}
use Rattle.sd_made.proofs.elab_lemmas.ContainersMade.{Begins, first_begins, element_made}
use Rattle.sd_valid.specs.BoundExpression.{bound_container}
use Rattle.sd_valid.specs.BoundTree.{bound_entry, bound_kind, bound_graph}
use Rattle.sd_validity.specs.rules.Places.{Scopes}
use Rattle.sd_validity.specs.rules.NamesInForce.{is_element}
use Rattle.sd_made.proofs.places_lemmas.Made.{IsItem}

abbrev one_element : Container
one_element = record { extents = affine_number (pos 1) ∷ []; kind = Private; width = W64 }

abbrev IsElement : GraphTree → ℕ → Type 0
IsElement tree element = container_at (containers_of tree) element ≡ one_element

abbrev HasElement : GraphTree → KindTree → Type 0
HasElement tree (plain.task code ins outs) = ⊤
HasElement tree (plain.map_scope sequential params private body) = ⊤
HasElement tree (plain.consume_scope stream element private body) = IsElement tree element
HasElement tree (plain.nested_graph inner links) = ⊤
HasElement tree (plain.reduction resolution axis identity from to) = ⊤
HasElement tree (plain.copy from to) = ⊤

either_element : (tree : GraphTree) (resolved : Bool) (one other : KindTree) → HasElement tree one → HasElement tree other → HasElement tree (cond resolved one other)
either_element tree true one other is others = is
either_element tree false one other is others = others

element_begins : (symbols : Named ℕ) (declared : List Name) (all : Containers) (is_task : Bool) (body : Block) (with : Containers) → Begins (cond is_task with (containers_with_all symbols declared body true with)) all → Begins with all
element_begins symbols declared all true body with begins = begins
element_begins symbols declared all false body with begins = first_begins symbols declared body true with all begins

of_statement : (tree : GraphTree) (statement : StatementTree) (in_scope : Bool) (table : Table) (container variable : ℕ) (graphs : Name → GraphTree) (symbols : Named ℕ) (declared : List Name) (before : Containers) (kind : KindTree) →
    length before ≡ container → Begins (containers_with symbols declared statement in_scope before) (containers_of tree) → kind_of graphs statement in_scope table container variable ≡ Some kind → HasElement tree kind
of_statement tree (assign line name at add value) in_scope table container variable graphs symbols declared before kind first begins made =
    subst (HasElement tree) (same_Some _ kind made) (either_element tree (add && in_scope) _ _ tt tt)
of_statement tree (copy line to to_dimensions from from_dimensions) in_scope table container variable graphs symbols declared before kind first begins made = subst (HasElement tree) (same_Some _ kind made) tt
of_statement tree (reduce line lambda from to axis identity) in_scope table container variable graphs symbols declared before kind first begins made = subst (HasElement tree) (same_Some _ kind made) tt
of_statement tree (map_scope line parameters ranges body) in_scope table container variable graphs symbols declared before kind first begins made = subst (HasElement tree) (same_Some _ kind made) tt
of_statement tree (tasklet line body) in_scope table container variable graphs symbols declared before kind first begins made = subst (HasElement tree) (same_Some _ kind made) tt
of_statement tree (consume_scope line stream size name element worker body) in_scope table container variable graphs symbols declared before kind first begins made =
    let with : Containers = with_element declared before (has_connector body) element in
    let there : (length before < length (containers_of tree)) × IsElement tree (length before) =
    element_made symbols declared before (has_connector body) element (containers_of tree) (element_begins symbols declared (containers_of tree) (has_connector body) body with begins) in
    subst (HasElement tree) (same_Some _ kind made) (subst (IsElement tree) first there.1)
of_statement tree (call line name arguments) in_scope table container variable graphs symbols declared before kind first begins made = subst (HasElement tree) (same_Some _ kind made) tt
of_statement tree statement in_scope table container variable graphs symbols declared before kind first begins made = cc

-- ---- with sizes

element_bound : (sizes : List ℤ) (containers : Containers) (number : ℕ) → container_at containers number ≡ one_element → is_element (container_at (map (bound_entry sizes) containers) number) ≡ true
element_bound sizes [] number is = absurd (omega (arith, ap (λ (container : Container). length container.extents) is))
element_bound sizes (entry ∷ containers) zero is = subst (λ (container : Container). is_element (bound_container sizes container) ≡ true) (sym is) refl
element_bound sizes (entry ∷ containers) (suc number) is = element_bound sizes containers number is

abbrev pub HasBoundElement : GraphTree → KindTree → Type 0
HasBoundElement tree (plain.task code ins outs) = ⊤
HasBoundElement tree (plain.map_scope sequential params private body) = ⊤
HasBoundElement tree (plain.consume_scope stream element private body) = is_element (container_at (containers_of tree) element) ≡ true
HasBoundElement tree (plain.nested_graph inner links) = ⊤
HasBoundElement tree (plain.reduction resolution axis identity from to) = ⊤
HasBoundElement tree (plain.copy from to) = ⊤

tree_bound : (sizes : List ℤ) (tree : GraphTree) (element : ℕ) → IsElement tree element → is_element (container_at (containers_of (bound_graph sizes tree)) element) ≡ true
tree_bound sizes (graph name containers arguments variables symbols states) element is = element_bound sizes containers element is

kind_bound : (sizes : List ℤ) (tree : GraphTree) (kind : KindTree) → HasElement tree kind → HasBoundElement (bound_graph sizes tree) (bound_kind sizes kind)
kind_bound sizes tree (plain.task code ins outs) is = tt
kind_bound sizes tree (plain.map_scope sequential params private body) is = tt
kind_bound sizes tree (plain.consume_scope stream element private body) is = tree_bound sizes tree element is
kind_bound sizes tree (plain.nested_graph inner links) is = tt
kind_bound sizes tree (plain.reduction resolution axis identity from to) is = tt
kind_bound sizes tree (plain.copy from to) is = tt

-- of an item of a program
pub item_bound : (Given : Place → StatementTree → Type 0) (Is : List Name → FunctionTree → Type 0) (sizes : List ℤ) (tree : GraphTree) (state : ℕ) (scopes : Scopes) (kind : KindTree) →
    IsItem Given Is tree state scopes kind → HasBoundElement (bound_graph sizes tree) (bound_kind sizes kind)
item_bound Given Is sizes tree state scopes kind (inl is) =
    kind_bound sizes tree kind (of_statement tree is.statement is.in_scope is.table is.container is.variable is.graphs is.symbols is.declared is.before kind is.first is.begins is.made)
item_bound Given Is sizes tree state scopes kind (inr is) = kind_bound sizes tree kind (subst (HasElement tree) (sym is.made) tt)
