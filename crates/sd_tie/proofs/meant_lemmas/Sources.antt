-- A source that is well formed, its graph and its sizes.
use Rattle.std.proofs.Common.{◌≡◌, ◌∙◌, ℕ, ◌+◌, ℤ, pos, List, [], ◌∷◌, ◌++◌, length, map, take, reverse, Some, unwrap_or, Ok, Bool, true, false, cond, if◌then◌else◌, bytes_eq, refl, ap, sym, subst}
use Rattle.std.specs.List.{AllByRecursion}
use Rattle.std.proofs.lemmas.List.{reverse-append, reverse-reverse}
use Rattle.sd_lex.specs.PlainTree.{FunctionTree, ProgramTree}
use Rattle.sd_work.specs.Memory.{Memory}
use Rattle.sd_work.specs.Step.{Outcome}
use Rattle.sd_work.specs.Run.{Left, Sequential}
use Rattle.sd_work.specs.BigRun.{left_by, big_run}
use Rattle.sd_work.proofs.left_to_right.BigRuns.{big_run-sequential}
use Rattle.sd_work.proofs.Outcomes.{Run-unique}
use Rattle.sd_graph.specs.PlainTree.{GraphTree}
use Rattle.sd_graph.specs.Unfold.{run_of}
use Rattle.sd_graph.specs.declared.place.Place.{Place}
use Rattle.sd_graph.proofs.UnfoldedOrder.{run_is_ordered}
use Rattle.sd_graph.proofs.UnfoldedPools.{run_has_ordered_pools}
use Rattle.sd_valid.specs.SizeValues.{NamedSizes, size_of, known_size, value_of_size, sizes_in}
use Rattle.sd_valid.specs.SizedWork.{sized_run}
use Rattle.sd_valid.specs.Binding.{binding}
use Rattle.sd_valid.proofs.BoundSizes.{bound_run}
use Rattle.sd_program.specs.Names.{Name, Named, in_force}
use Rattle.sd_program.specs.Bounds.{EachBound}
use Rattle.sd_program.specs.IsAffine.{IsAffine}
use Rattle.sd_program.specs.Limits.{HasFewParameters}
use Rattle.sd_program.specs.Calls.{IsCallable}
use Rattle.sd_program.specs.Every.{EveryOf}
use Rattle.sd_program.specs.Place.{EveryFunction}
use Rattle.sd_program.specs.Known.{IsPlaced, IsKnown}
use Rattle.sd_program.specs.WellFormed.{IsWellFormed}
use Rattle.sd_elab.specs.items.Graphs.{graph_named}
use Rattle.sd_elab.specs.elab.Elaboration.{function_graph, graphs_with, latest, graph_of}
use Rattle.sd_elab.proofs.elab_lemmas.FunctionLemmas.{graphs_grown}
use Rattle.sd_says.specs.Says.{says_last, Says}
use Rattle.sd_says.proofs.Outcomes.{source-comes}
use Rattle.sd_tie.specs.items.Standing.{IsJoined, variables_named_all}
use Rattle.sd_tie.specs.programs.Joined.{HasPlainElement, IsJoinedWhole}
use Rattle.sd_tie.specs.items.Extents.{HasExtentsThroughout}
use Rattle.sd_tie.specs.programs.Programs as programs
use Rattle.sd_tie.specs.programs.Programs.{values_of, AreFitting, graphs_latest, source_graph}
use Rattle.sd_tie.proofs.programs_lemmas.Names.{all_names_behind}
use Rattle.sd_tie.proofs.programs_lemmas.Calls.{source_follows}
use Rattle.sd_tie.proofs.meant_lemmas.Bound.{bound_sized}

-- ---- what is known of each program, the latest first

all_with : {A : Type 0} (P : A → Type 0) (members : List A) (last : A) → AllByRecursion P members → P last → AllByRecursion P (members ++ last ∷ [])
all_with P [] last all holds = (holds, tt)
all_with P (member ∷ members) last all holds = (all.0, all_with P members last all.1 holds)

all_turned : {A : Type 0} (P : A → Type 0) (members : List A) → AllByRecursion P members → AllByRecursion P (reverse members)
all_turned P [] all = tt
all_turned P (member ∷ members) all = subst (AllByRecursion P) (sym (reverse-append (member ∷ []) members)) (all_with P (reverse members) member (all_turned P members all.1) all.0)

all_fine : (functions : List FunctionTree) → EveryFunction IsKnown functions → EveryFunction IsPlaced functions → EveryFunction IsCallable functions → AllByRecursion (EveryOf (EachBound IsAffine)) functions →
    AllByRecursion (EveryOf HasFewParameters) functions → AllByRecursion (EveryOf IsJoined) functions → AllByRecursion (EveryOf HasPlainElement) functions → AreFitting functions
all_fine [] known placed callable affine few joined plain = tt
all_fine (function ∷ above) known placed callable affine few joined plain = (
  record { known = known.0; placed = placed.0; callable = callable.0; affine = affine.0; few = few.0; joined = joined.0; plain = plain.0 },
  all_fine above known.1 placed.1 callable.1 affine.1 few.1 joined.1 plain.1,
)

pub source_fine : (source : ProgramTree) → IsWellFormed source → IsJoinedWhole source → AreFitting (reverse source.functions)
source_fine source well whole =
    all_fine (reverse source.functions) well.known well.placed well.calls (all_turned (EveryOf (EachBound IsAffine)) source.functions well.affine)
    (all_turned (EveryOf HasFewParameters) source.functions well.parameters) (all_turned (EveryOf IsJoined) source.functions whole.joined) (all_turned (EveryOf HasPlainElement) source.functions whole.plain)

-- ---- its graph

graphs_turned : (symbols : List Name) (functions : List FunctionTree) → graphs_with symbols [] (reverse functions) ≡ graphs_latest symbols functions
graphs_turned symbols [] = refl
graphs_turned symbols (function ∷ above) =
    ap (graphs_with symbols []) (reverse-append (function ∷ []) above)
    ∙ graphs_grown symbols [] (reverse above) function
    ∙ ap (λ graphs. (function.name, function_graph symbols (graph_named graphs) function) ∷ graphs) (graphs_turned symbols above)

-- that of these programs, the latest first
abbrev pub graph_latest : (symbols : List Name) → List FunctionTree → GraphTree
graph_latest symbols functions = latest (graphs_latest symbols functions)

pub graph_turned : (source : ProgramTree) → graph_of source ≡ graph_latest source.symbols (reverse source.functions)
graph_turned source =
    ap (λ functions. latest (graphs_with source.symbols [] functions)) (sym (reverse-reverse source.functions))
    ∙ ap latest (graphs_turned source.symbols (reverse source.functions))

latest_graph : (named : Named ℤ) (functions : List FunctionTree) → graph_latest (programs.symbols_of named) functions ≡ source_graph named functions
latest_graph named [] = refl
latest_graph named (function ∷ above) = refl

-- ---- its sizes

symbols_kept : (symbols : List Name) (sizes : NamedSizes) → programs.symbols_of (map (λ symbol. (symbol, unwrap_or (in_force sizes symbol) (pos 0))) symbols) ≡ symbols
symbols_kept [] sizes = refl
symbols_kept (symbol ∷ symbols) sizes = ap (λ rest. symbol ∷ rest) (symbols_kept symbols sizes)

same_size : (sizes : NamedSizes) (name : Name) → unwrap_or (in_force sizes name) (pos 0) ≡ value_of_size sizes name
same_size [] name = refl
same_size (size ∷ sizes) name = one (bytes_eq name size.0) (same_size sizes name)
  where
    one : (same : Bool) → unwrap_or (in_force sizes name) (pos 0) ≡ value_of_size sizes name →
        unwrap_or (cond same (Some size.1) (in_force sizes name)) (pos 0) ≡ known_size (if same then Some size.1 else size_of sizes name)
    one true e = refl
    one false e = e

values_kept : (symbols : List Name) (sizes : NamedSizes) → values_of (map (λ symbol. (symbol, unwrap_or (in_force sizes symbol) (pos 0))) symbols) ≡ map (value_of_size sizes) symbols
values_kept [] sizes = refl
values_kept (symbol ∷ symbols) sizes = (λ i. same_size sizes symbol i ∷ values_kept symbols sizes i)

first_names : (symbols more : List Name) → take (length symbols) (symbols ++ more) ≡ symbols
first_names [] more = refl
first_names (symbol ∷ symbols) more = ap (λ rest. symbol ∷ rest) (first_names symbols more)

sizes_kept : (symbols : List Name) (function : FunctionTree) (above : List FunctionTree) (sizes : NamedSizes) → sizes_in sizes (graph_latest symbols (function ∷ above)) ≡ map (value_of_size sizes) symbols
sizes_kept symbols function above sizes =
    ap (λ names. map (value_of_size sizes) (take (length symbols) names)) (all_names_behind function.body symbols)
    ∙ ap (map (value_of_size sizes)) (first_names symbols (variables_named_all function.body))

-- ---- what it says

-- the run from left to right, of the graph with its sizes
abbrev Runs : GraphTree → (sizes : List ℤ) → Memory → (turns : ℕ) → Outcome Place Left → Type 0
Runs tree sizes memory turns outcome = (least : ℕ) × ((more : ℕ) → big_run (sized_run sizes tree memory) (least + more) turns ≡ Some outcome)

-- the size symbols with their values
abbrev pub named_sizes : (symbols : List Name) → NamedSizes → Named ℤ
named_sizes symbols sizes = map (λ symbol. (symbol, unwrap_or (in_force sizes symbol) (pos 0))) symbols

pub values_latest : (symbols : List Name) (function : FunctionTree) (above : List FunctionTree) (sizes : NamedSizes) → values_of (named_sizes symbols sizes) ≡ sizes_in sizes (graph_latest symbols (function ∷ above))
values_latest symbols function above sizes = values_kept symbols sizes ∙ sym (sizes_kept symbols function above sizes)

pub tree_latest : (symbols : List Name) (function : FunctionTree) (above : List FunctionTree) (sizes : NamedSizes) → source_graph (named_sizes symbols sizes) (function ∷ above) ≡ graph_latest symbols (function ∷ above)
tree_latest symbols function above sizes =
    sym (latest_graph (named_sizes symbols sizes) (function ∷ above)) ∙ ap (λ symbols. graph_latest symbols (function ∷ above)) (symbols_kept symbols sizes)

latest_runs : (symbols : List Name) (functions : List FunctionTree) → AreFitting functions → (sizes : NamedSizes) → HasExtentsThroughout (sizes_in sizes (graph_latest symbols functions)) (graph_latest symbols functions) →
    (most : ℕ) (memory : Memory) (turns : ℕ) (outcome : Outcome Place Left) →
    left_by (says_last (named_sizes symbols sizes) functions most (memory ∷ []) turns) ≡ Some outcome →
    Runs (graph_latest symbols functions) (sizes_in sizes (graph_latest symbols functions)) memory turns outcome
latest_runs symbols [] fine sizes sized most memory turns outcome says = source_follows [] [] fine sized most memory turns outcome says
latest_runs symbols (function ∷ above) fine sizes sized most memory turns outcome says =
    let named : Named ℤ = named_sizes symbols sizes in
    let values = values_latest symbols function above sizes in
    let tree = tree_latest symbols function above sizes in
    subst (λ values. Runs (graph_latest symbols (function ∷ above)) values memory turns outcome) values
    (subst (λ tree. Runs tree (values_of named) memory turns outcome) tree
    (source_follows named (function ∷ above) fine
    (subst (λ tree. HasExtentsThroughout (values_of named) tree) (sym tree)
    (subst (λ values. HasExtentsThroughout values (graph_latest symbols (function ∷ above))) (sym values) sized))
    most memory turns outcome says))

pub source_runs : (source : ProgramTree) (sizes : NamedSizes) (bound : GraphTree) (memory : Memory) (turns : ℕ) (outcome : Outcome Place Left) → IsWellFormed source → IsJoinedWhole source →
    binding (graph_of source) sizes ≡ Ok bound → Says source sizes memory turns outcome → (least : ℕ) × ((more : ℕ) → big_run (run_of bound memory) (least + more) turns ≡ Some outcome)
source_runs source sizes bound memory turns outcome well whole is says =
    let functions : List FunctionTree = reverse source.functions in
    subst (λ term. (least : ℕ) × ((more : ℕ) → big_run term (least + more) turns ≡ Some outcome)) (sym (bound_run (graph_of source) bound sizes memory is))
    (subst (λ tree. Runs tree (sizes_in sizes tree) memory turns outcome) (sym (graph_turned source))
    (latest_runs source.symbols functions (source_fine source well whole) sizes
    (subst (λ tree. HasExtentsThroughout (sizes_in sizes tree) tree) (graph_turned source) (bound_sized (graph_of source) bound sizes is)) says.0 memory turns outcome says.1))

pub source_is_run : (source : ProgramTree) (sizes : NamedSizes) (bound : GraphTree) (memory : Memory) (turns : ℕ) (outcome : Outcome Place Left) → IsWellFormed source → IsJoinedWhole source →
    binding (graph_of source) sizes ≡ Ok bound → Says source sizes memory turns outcome → Sequential (run_of bound memory) turns outcome
source_is_run source sizes bound memory turns outcome well whole is says =
    let runs = source_runs source sizes bound memory turns outcome well whole is says in
    big_run-sequential (run_of bound memory) (runs.0 + 0) turns outcome (run_is_ordered bound memory) (run_has_ordered_pools bound memory) (runs.1 0)

pub run_is_said : (source : ProgramTree) (sizes : NamedSizes) (bound : GraphTree) (memory : Memory) (turns : ℕ) (outcome : Outcome Place Left) → IsWellFormed source → IsJoinedWhole source →
    binding (graph_of source) sizes ≡ Ok bound → Sequential (run_of bound memory) turns outcome → Says source sizes memory turns outcome
run_is_said source sizes bound memory turns outcome well whole is run =
    let said = source-comes source sizes memory turns in
    let same : said.0 ≡ outcome = Run-unique (run_of bound memory) turns [] said.0 outcome (source_is_run source sizes bound memory turns said.0 well whole is said.1) run in
    subst (Says source sizes memory turns) same said.1
