-- In the bound graph of a program no size symbol is left.
use Rattle.std.proofs.Common.{◌≡◌, ◌∙◌, inl, inr, ℕ, suc, ◌≤◌, List, [], ◌∷◌, take, length, Ok, reverse, refl, sym, subst, arith}
use Rattle.std.specs.Prelude.{⊤}
use Rattle.std.specs.List.{AllByRecursion}
use Rattle.std.proofs.lemmas.List.{length-map, length-take}
use Rattle.sd_lex.specs.PlainTree.{FunctionTree, ProgramTree}
use Rattle.sd_graph.specs.PlainTree.{KindTree, task, map_scope, consume_scope, nested_graph, reduction, copy, ItemTrees, no_item, and_item, StateTrees, no_state, and_state, GraphTree, graph, ExitTree}
use Rattle.sd_program.specs.Names.{Name, Named}
use Rattle.sd_program.specs.WellFormed.{IsWellFormed}
use Rattle.sd_elab.specs.items.Graphs.{graph_named}
use Rattle.sd_elab.specs.elab.Elaboration.{function_graph, graphs_with, latest, graph_of}
use Rattle.sd_valid.specs.SizeValues.{NamedSizes, sizes_in, value_of_size}
use Rattle.sd_valid.specs.Binding.{binding}
use Rattle.sd_validity.specs.rules.GraphParts.{variables_of, symbols_in}
use Rattle.sd_validity.specs.rules.SizesGone.{rule_8}
use Rattle.sd_validity.specs.rules.Failing.{Holds}
use Rattle.sd_validity.specs.rules.Places.{Scopes, no_scopes, in_map, in_consume}
use Rattle.sd_validity.specs.bound_places.Throughout.{InKind, InItems, InStates, Throughout}
use Rattle.sd_validity.specs.bound_places.SizedExtents.{HasSizedExtents, HasSizedExtentsThroughout}
use Rattle.sd_validity.proofs.bound_places_lemmas.Gone.{sizes_gone}
use Rattle.sd_made.proofs.places_lemmas.Made.{Fitting, IsWhole, IsExit, IsItem}
use Rattle.sd_made.proofs.places_lemmas.ProgramMade.{IsTold, program_told}
use Rattle.sd_made.proofs.places_lemmas.Extents.{whole_named, few_symbols}
use Rattle.sd_made.proofs.places_lemmas.Givens.{fitting}
use Rattle.sd_made.proofs.places_lemmas.Bound.{bound_is}

-- what holds of each graph as a whole, the rest aside
module _ (Whole Other : GraphTree → Type 0) (Leaving : GraphTree → (state : ℕ) → ExitTree → Type 0) (Doing : GraphTree → (state : ℕ) → Scopes → KindTree → Type 0) (so : (tree : GraphTree) → Whole tree → Other tree) where
  abbrev NoExit : GraphTree → (state : ℕ) → ExitTree → Type 0
  NoExit tree state exit = ⊤

  abbrev NoItem : GraphTree → (state : ℕ) → Scopes → KindTree → Type 0
  NoItem tree state scopes kind = ⊤

  nothing : {A : Type 0} (members : List A) → AllByRecursion (λ (member : A). ⊤) members
  nothing [] = tt
  nothing (member ∷ members) = (tt, nothing members)

  mutual
    kind_whole : (kind : KindTree) (tree : GraphTree) (state : ℕ) (scopes : Scopes) → InKind Whole Leaving Doing kind tree state scopes → InKind Other NoExit NoItem kind tree state scopes
    kind_whole (task code ins outs) tree state scopes holds = tt
    kind_whole (map_scope sequential params private body) tree state scopes holds = items_whole body tree state (in_map scopes params private) holds
    kind_whole (consume_scope stream element private body) tree state scopes holds = items_whole body tree state (in_consume scopes element private) holds
    kind_whole (nested_graph inner links) tree state scopes holds = graph_whole inner holds
    kind_whole (reduction resolution axis identity from to) tree state scopes holds = tt
    kind_whole (copy from to) tree state scopes holds = tt

    items_whole : (items : ItemTrees) (tree : GraphTree) (state : ℕ) (scopes : Scopes) → InItems Whole Leaving Doing items tree state scopes → InItems Other NoExit NoItem items tree state scopes
    items_whole no_item tree state scopes holds = tt
    items_whole (and_item line kind items) tree state scopes holds = (tt, kind_whole kind tree state scopes holds.1, items_whole items tree state scopes holds.2)

    states_whole : (states : StateTrees) (tree : GraphTree) (number : ℕ) → InStates Whole Leaving Doing states tree number → InStates Other NoExit NoItem states tree number
    states_whole no_state tree number holds = tt
    states_whole (and_state items exits states) tree number holds = (nothing exits, items_whole items tree number no_scopes holds.1, states_whole states tree (suc number) holds.2)

    pub graph_whole : (tree : GraphTree) → Throughout Whole Leaving Doing tree → Throughout Other NoExit NoItem tree
    graph_whole (graph name containers arguments variables symbols states) holds =
        (so (graph name containers arguments variables symbols states) holds.0, states_whole states (graph name containers arguments variables symbols states) 0 holds.1)

whole_of : (Whole : GraphTree → Type 0) (Leaving : GraphTree → (state : ℕ) → ExitTree → Type 0) (Doing : GraphTree → (state : ℕ) → Scopes → KindTree → Type 0) (tree : GraphTree) → Throughout Whole Leaving Doing tree → Whole tree
whole_of Whole Leaving Doing (graph name containers arguments variables symbols states) holds = holds.0

-- so many size symbols
abbrev pub HasSymbols : (count : ℕ) → List Name → FunctionTree → Type 0
HasSymbols count symbols function = length symbols ≡ count

sized : (count : ℕ) (tree : GraphTree) → IsWhole Fitting (HasSymbols count) tree → HasSizedExtents count tree
sized count tree (inl none) = subst (HasSizedExtents count) (sym none) (omega arith, tt)
sized count tree (inr is) =
    let few : symbols_in tree ≤ count = subst (λ tree. symbols_in tree ≤ count) (sym is.made) (omega (arith, is.is)) in
    (few, whole_named Fitting (HasSymbols count) tree count few (inr is))

-- the size symbols of the last program's graph
latest_symbols : (symbols : List Name) (before : Named GraphTree) (functions : List FunctionTree) → symbols_in (latest before) ≡ length symbols → symbols_in (latest (graphs_with symbols before functions)) ≡ length symbols
latest_symbols symbols before [] e = e
latest_symbols symbols before (function ∷ functions) e = latest_symbols symbols ((function.name, function_graph symbols (graph_named before) function) ∷ before) functions refl

all_symbols : (symbols : List Name) (count : ℕ) → length symbols ≡ count → (functions : List FunctionTree) → AllByRecursion (HasSymbols count symbols) functions
all_symbols symbols count same [] = tt
all_symbols symbols count same (function ∷ functions) = (same, all_symbols symbols count same functions)

have_symbols : (symbols : List Name) (functions : List FunctionTree) → AllByRecursion (HasSymbols (symbols_in (latest (graphs_with symbols [] functions))) symbols) (reverse functions)
have_symbols symbols [] = tt
have_symbols symbols (function ∷ functions) =
    let e : symbols_in (latest (graphs_with symbols [] (function ∷ functions))) ≡ length symbols =
    latest_symbols symbols ((function.name, function_graph symbols (graph_named []) function) ∷ []) functions refl in
    all_symbols symbols (symbols_in (latest (graphs_with symbols [] (function ∷ functions)))) (sym e) (reverse (function ∷ functions))

-- there is a size for each symbol
sizes_counted : (named : NamedSizes) (tree : GraphTree) → symbols_in tree ≤ length (variables_of tree) → length (sizes_in named tree) ≡ symbols_in tree
sizes_counted named (graph name containers arguments variables symbols states) few =
    length-map (take symbols variables) (value_of_size named) ∙ omega (arith, length-take symbols variables, few)

-- the graph of a program, and those nested in it, have the size symbols of the source
pub symbols_told : (source : ProgramTree) → IsWellFormed source → IsTold Fitting (HasSymbols (symbols_in (graph_of source))) (λ place statement fits. fits) (graph_of source)
symbols_told source well =
    program_told Fitting (HasSymbols (symbols_in (graph_of source))) (λ place statement fits. fits) source (have_symbols source.symbols source.functions) (fitting source well)

pub sizes_counted_in : (source : ProgramTree) (named : NamedSizes) → IsWellFormed source → length (sizes_in named (graph_of source)) ≡ symbols_in (graph_of source)
sizes_counted_in source named well =
    let tree : GraphTree = graph_of source in
    let count : ℕ = symbols_in tree in
    sizes_counted named tree
    (few_symbols Fitting (HasSymbols count) tree (whole_of (IsWhole Fitting (HasSymbols count)) (IsExit Fitting (HasSymbols count)) (IsItem Fitting (HasSymbols count)) tree (symbols_told source well)))

pub sizes_bound : (source : ProgramTree) (named : NamedSizes) (bound : GraphTree) → IsWellFormed source → binding (graph_of source) named ≡ Ok bound → Holds rule_8 bound
sizes_bound source named bound well is =
    let tree : GraphTree = graph_of source in
    let count : ℕ = symbols_in tree in
    subst (Holds rule_8) (bound_is tree bound named is)
    (sizes_gone (sizes_in named tree) tree
    (subst (λ count. HasSizedExtentsThroughout count tree) (sym (sizes_counted_in source named well))
    (graph_whole (IsWhole Fitting (HasSymbols count)) (HasSizedExtents count) (IsExit Fitting (HasSymbols count)) (IsItem Fitting (HasSymbols count)) (sized count) tree (symbols_told source well))))
