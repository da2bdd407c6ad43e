-- What the graph of a source looks for in an arrays file, begins with and prints is what the source does by itself.
use Rattle.std.proofs.Common.{◌≡◌, ◌∙◌, ℕ, suc, ℤ, List, [], ◌∷◌, length, map, take, slice_index_or, refl, ap, sym, subst}
use Rattle.std.specs.List.{flat_map, range_with_len, AllByRecursion}
use Rattle.sd_num.specs.declared.width.Width.{Width}
use Rattle.sd_num.specs.declared.width.Width.TheVariants.{W64}
use Rattle.sd_lex.specs.PlainTree.{FunctionTree}
use Rattle.sd_work.specs.Memory.{array}
use Rattle.sd_range.specs.declared.affine.Affine.{Affine}
use Rattle.sd_graph.specs.PlainTree.{GraphTree}
use Rattle.sd_graph.specs.Unfold.{opening_of, opening_from, opening_memory}
use Rattle.sd_graph.specs.declared.container.Container.{Container}
use Rattle.sd_graph.specs.declared.container.ContainerKind.{ContainerKind}
use Rattle.sd_graph.specs.declared.container.ContainerKind.TheVariants.{Argument, Transient, Private, Stream, PrivateStream}
use Rattle.sd_mem.specs.mem.Shaped.{Shaped}
use Rattle.sd_valid.specs.SizeValues.{NamedSizes}
use Rattle.sd_valid.specs.Binding.{with_sizes}
use Rattle.sd_valid.specs.BoundExpression.{bound_container}
use Rattle.sd_valid.specs.BoundTree.{bound_entry, bound_graph}
use Rattle.sd_program.specs.Names.{Name, Named}
use Rattle.sd_program.specs.Declared.{containers_in_all}
use Rattle.sd_program.specs.Place.{in_signature}
use Rattle.sd_task.specs.in_force.Names.{with_numbered}
use Rattle.sd_task.specs.containers.Declarations.{Containers, variable_names_all, containers_of_function}
use Rattle.sd_elab.specs.items.Graphs.{graph_named}
use Rattle.sd_elab.specs.elab.Elaboration.{function_graph}
use Rattle.sd_json.specs.AnswerText.{text_of_arrays}
use Rattle.sd_json.specs.Names.{names_in}
use Rattle.sd_says.specs.Declared.{declared_of}
use Rattle.sd_tie.specs.elements.Tied.{shape_of}
use Rattle.sd_tie.specs.items.Standing.{owner_of, declared_by, variables_named_all}
use Rattle.sd_tie.specs.programs.Programs.{symbols_of, values_of, IsFitting, AreFitting, graphs_latest}
use Rattle.sd_tie.proofs.programs_lemmas.Declaring.{all_declared, program_declared}
use Rattle.sd_tie.proofs.programs_lemmas.Names.{all_names_behind}
use Rattle.sd_tie.proofs.programs_lemmas.Sizes.{numbered}
use Rattle.sd_tie.proofs.meant_lemmas.Sources.{graph_latest, named_sizes, values_latest, tree_latest}
use Rattle.sd_promise.specs.Source.{argument_names, names_sought, held_first, memory_from, memory_of_last, argument_lines, lines_of_last}
use Rattle.sd_promise.proofs.Given.{AreElements, elements_kept, each_is}
use Rattle.sd_promise.proofs.Widths.{IsWide, program_wide}
use Rattle.sd_promise.proofs.Arguments.{made, made_names, made_counted, arguments_first, first_of_joined, StandFrom, stand_first, row, lines_tied}

-- ---- what it looks for

names_tied : (symbols : List Name) (earlier : List FunctionTree) (graphs : Name → GraphTree) (function : FunctionTree) → IsFitting earlier function →
    names_in (function_graph symbols graphs function) ≡ names_sought symbols (function ∷ earlier)
names_tied symbols earlier graphs function fine =
    let known : Named ℕ = with_numbered symbols 0 [] in
    let first = made known function.arguments in
    let whole = arguments_first symbols function (in_signature earlier) refl fine.placed.0 in
    let counted = made_counted known function.arguments (in_signature earlier) refl fine.placed.0 in
    let variables : take (length symbols) (variable_names_all function.body symbols) ≡ symbols =
    ap (take (length symbols)) (all_names_behind function.body symbols) ∙ first_of_joined symbols (variables_named_all function.body) in
    let arguments : map (λ (entry : Name × Container). entry.0) (take (containers_in_all function.arguments) (containers_of_function symbols function)) ≡ argument_names function.arguments =
    (λ i. map (λ (entry : Name × Container). entry.0) (take (sym counted i) (sym whole.1 i)))
    ∙ ap (map (λ (entry : Name × Container). entry.0)) (first_of_joined first whole.0)
    ∙ made_names known function.arguments in
    (λ i. record { symbols = variables i; arguments = arguments i })

pub names_latest : (symbols : List Name) (functions : List FunctionTree) → AreFitting functions → names_in (graph_latest symbols functions) ≡ names_sought symbols functions
names_latest symbols [] fine = refl
names_latest symbols (function ∷ earlier) fine = names_tied symbols earlier (graph_named (graphs_latest symbols earlier)) function fine.0

-- ---- what it begins with

held_same : (sizes : List ℤ) (extents : List Affine) (kind : ContainerKind) (width : Width) (given : List ℤ) → width ≡ W64 → AreElements given →
    opening_of (bound_container sizes (record { extents = extents; kind = kind; width = width })) given ≡ held_first (owner_of kind) width (shape_of (bound_container sizes (record { extents = extents; kind = kind; width = width }))) given
held_same sizes extents Argument width given wide are = ap (array width) (elements_kept width wide given are)
held_same sizes extents Transient width given wide are = refl
held_same sizes extents Private width given wide are = refl
held_same sizes extents Stream width given wide are = refl
held_same sizes extents PrivateStream width given wide are = refl

memory_same : (sizes : List ℤ) (given : List (List ℤ)) (number : ℕ) (containers : Containers) → AllByRecursion AreElements given → AllByRecursion IsWide (map (declared_by sizes) containers) →
    opening_from given number (map (bound_entry sizes) containers) ≡ memory_from given number (map (declared_by sizes) containers)
memory_same sizes given number [] are wide = refl
memory_same sizes given number (entry ∷ containers) are wide =
    (λ i. held_same sizes entry.1.extents entry.1.kind entry.1.width (slice_index_or given number []) wide.0 (each_is given number are) i ∷ memory_same sizes given (suc number) containers are wide.1 i)

memory_tied : (named : Named ℤ) (earlier : List FunctionTree) (graphs : Name → GraphTree) (function : FunctionTree) → IsFitting earlier function → (given : List (List ℤ)) → AllByRecursion AreElements given →
    opening_memory (bound_graph (values_of named) (function_graph (symbols_of named) graphs function)) given ≡ memory_from given 0 (declared_of named function)
memory_tied named earlier graphs function fine given are =
    let containers : Containers = containers_of_function (symbols_of named) function in
    let as_declared : declared_of named function ≡ map (declared_by (values_of named)) containers =
    all_declared named containers (declared_of named function) (program_declared named function fine.affine.0 fine.affine.1) in
    memory_same (values_of named) given 0 containers are (subst (AllByRecursion IsWide) as_declared (program_wide named function)) ∙ ap (memory_from given 0) (sym as_declared)

pub memory_latest : (symbols : List Name) (functions : List FunctionTree) → AreFitting functions → (sizes : NamedSizes) (given : List (List ℤ)) → AllByRecursion AreElements given →
    opening_memory (with_sizes (graph_latest symbols functions) sizes) given ≡ memory_of_last (named_sizes symbols sizes) functions given
memory_latest symbols [] fine sizes given are = refl
memory_latest symbols (function ∷ earlier) fine sizes given are =
    let named : Named ℤ = named_sizes symbols sizes in
    let tree : GraphTree = graph_latest symbols (function ∷ earlier) in
    let said = memory_from given 0 (declared_of named function) in
    subst (λ values. opening_memory (bound_graph values tree) given ≡ said) (values_latest symbols function earlier sizes)
    (subst (λ tree. opening_memory (bound_graph (values_of named) tree) given ≡ said) (tree_latest symbols function earlier sizes) (memory_tied named earlier (graph_named (graphs_latest (symbols_of named) earlier)) function fine.0 given are))

-- ---- what it prints

lines_same : (named : Named ℤ) (earlier : List FunctionTree) (graphs : Name → GraphTree) (function : FunctionTree) → IsFitting earlier function → (shaped : Shaped) →
    text_of_arrays (bound_graph (values_of named) (function_graph (symbols_of named) graphs function)) shaped ≡ argument_lines named function.arguments 0 shaped.contents
lines_same named earlier graphs function fine shaped =
    let containers : Containers = containers_of_function (symbols_of named) function in
    let first = made (numbered named) function.arguments in
    let whole = arguments_first (symbols_of named) function (in_signature earlier) refl fine.placed.0 in
    let counted = made_counted (numbered named) function.arguments (in_signature earlier) refl fine.placed.0 in
    let stand : StandFrom containers first 0 = subst (λ all. StandFrom all first 0) whole.1 (stand_first first whole.0) in
    subst (λ count. flat_map (row (map (bound_entry (values_of named)) containers) shaped.contents) (range_with_len 0 count) ≡ argument_lines named function.arguments 0 shaped.contents) counted
    (lines_tied named containers shaped.contents function.arguments 0 fine.affine.0 stand)

pub lines_latest : (symbols : List Name) (functions : List FunctionTree) → AreFitting functions → (sizes : NamedSizes) (shaped : Shaped) →
    text_of_arrays (with_sizes (graph_latest symbols functions) sizes) shaped ≡ lines_of_last (named_sizes symbols sizes) functions shaped.contents
lines_latest symbols [] fine sizes shaped = refl
lines_latest symbols (function ∷ earlier) fine sizes shaped =
    let named : Named ℤ = named_sizes symbols sizes in
    let tree : GraphTree = graph_latest symbols (function ∷ earlier) in
    let said = argument_lines named function.arguments 0 shaped.contents in
    subst (λ values. text_of_arrays (bound_graph values tree) shaped ≡ said) (values_latest symbols function earlier sizes)
    (subst (λ tree. text_of_arrays (bound_graph (values_of named) tree) shaped ≡ said) (tree_latest symbols function earlier sizes) (lines_same named earlier (graph_named (graphs_latest (symbols_of named) earlier)) function fine.0 shaped))
