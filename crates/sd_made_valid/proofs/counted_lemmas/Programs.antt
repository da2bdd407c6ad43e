-- The graph of a program that counts names what is there.
use Rattle.std.proofs.Common.{◌∙◌, ℕ, List, [], ◌∷◌, Option, Some, unwrap_or, Bool, true, false, cond, bytes_eq, reverse, refl, subst, zero-add}
use Rattle.std.specs.List.{AllByRecursion}
use Rattle.std.proofs.lemmas.List.{reverse-reverse}
use Rattle.sd_lex.specs.PlainTree.{StatementTree, FunctionTree, ProgramTree}
use Rattle.sd_graph.specs.PlainTree.{no_item, GraphTree}
use Rattle.sd_graph.specs.TreeParts.{containers_of}
use Rattle.sd_graph.specs.ContainerParts.{Containers}
use Rattle.sd_program.specs.Declared.{containers_in_all}
use Rattle.sd_program.specs.DeclaredNames.{container_names}
use Rattle.sd_program.specs.Every.{EveryOf, Everywhere}
use Rattle.sd_program.specs.Names.{Name, Named, in_force}
use Rattle.sd_program.specs.Place.{Place, in_signature, in_function, EveryFrom, EveryOfFunction, EveryFunction, EveryPlace}
use Rattle.sd_program.specs.Known.{IsPlaced, IsKnown}
use Rattle.sd_program.specs.WellFormed.{IsWellFormed}
use Rattle.sd_task.specs.in_force.Names.{with_numbered}
use Rattle.sd_elab.specs.items.Graphs.{no_graph, graph_named}
use Rattle.sd_task.specs.containers.Declarations.{containers_with_all}
use Rattle.sd_elab.specs.elab.Elaboration.{start_of, function_graph, graphs_with, latest, graph_of}
use Rattle.sd_made.proofs.elab_lemmas.ContainersMade.{Begins, begins_itself, first_begins, all_made}
use Rattle.sd_made.proofs.places_lemmas.Givens.{all_reversed, both_places}
use Rattle.sd_made_valid.specs.read_extents.Symbols.{NamesSymbols}
use Rattle.sd_made_valid.specs.read_dimensions.Counts.{Counts, CountsOf}
use Rattle.sd_made_valid.proofs.counted_lemmas.Together.{both_of}
use Rattle.sd_made_valid.proofs.counted_lemmas.Tied.{Fit, placed_from, none_tied, arguments_tied}
use Rattle.sd_made_valid.proofs.counted_lemmas.Items.{IsRightThroughout}
use Rattle.sd_made_valid.proofs.counted_lemmas.States.{Here, block_right}

abbrev IsPlacedKnown : Place → StatementTree → Type 0
IsPlacedKnown place statement = IsPlaced place statement × IsKnown place statement

-- what is given of a function of a source with these size symbols
record IsGiven (symbols : List Name) (function : FunctionTree) : Type 0 where
  pub above : List FunctionTree
  pub placed : EveryOfFunction IsPlacedKnown above function
  pub counts : CountsOf function
  pub named : EveryOf (NamesSymbols symbols) function

-- ---- functions

module _ (symbols : List Name) (wholes : Named ℕ) where
  abbrev IsCountedPlaced : Place → StatementTree → Type 0
  IsCountedPlaced place statement = IsPlacedKnown place statement × Counts wholes statement

  all_fit : (above : List FunctionTree) (function : FunctionTree) → EveryOfFunction IsPlacedKnown above function → EveryOf (Counts wholes) function → EveryOf (NamesSymbols symbols) function → EveryOfFunction (Fit symbols wholes) above function
  all_fit above function placed counts named =
      both_of IsCountedPlaced (NamesSymbols symbols) (Fit symbols wholes) (λ place statement counted named. (counted.0.0, (counted.0.1, (counted.1, named)))) above function
      (both_of IsPlacedKnown (Counts wholes) IsCountedPlaced (λ place statement placed counts. (placed, counts)) above function placed counts) named

function_right : (symbols : List Name) (graphs : Name → GraphTree) → ((name : Name) → IsRightThroughout (graphs name)) → (function : FunctionTree) → IsGiven symbols function → IsRightThroughout (function_graph symbols graphs function)
function_right symbols graphs called function given =
    let tree : GraphTree = function_graph symbols graphs function in
    let all : Containers = containers_of tree in
    let known : Named ℕ = with_numbered symbols 0 [] in
    let declared : List Name = container_names function in
    let wholes : Named ℕ = given.counts.0 in
    let above : List FunctionTree = given.above in
    let passed : Containers = containers_with_all known declared function.arguments false [] in
    let fit : EveryOfFunction (Fit symbols wholes) above function = all_fit symbols wholes above function given.placed given.counts.1 given.named in
    let in_place : EveryFrom IsPlaced (in_signature above) function.arguments = placed_from symbols wholes (in_signature above) function.arguments fit.0 in
    let begun : Begins passed all = first_begins known declared function.body false passed all (begins_itself all) in
    let here : Here symbols wholes graphs called declared all tree (start_of symbols function) (in_function above function.arguments) passed = record {
      around = refl;
      first = all_made known declared function.arguments false (in_signature above) [] in_place ∙ zero-add (containers_in_all function.arguments);
      tied = (refl, arguments_tied symbols wholes declared all function.arguments [] 0 (in_signature above) [] refl fit.0 refl begun (none_tied symbols wholes declared all));
    } in
    (tt, block_right symbols wholes graphs called declared all tree function.body (start_of symbols function) no_item [] tt (in_function above function.arguments) passed here (begins_itself all) fit.1 (λ state. tt) 0)

-- ---- graphs

abbrev AreRight : Named GraphTree → Type 0
AreRight graphs = AllByRecursion (λ entry. IsRightThroughout entry.1) graphs

named_one : (found : Bool) (of : GraphTree) (others : Option GraphTree) → IsRightThroughout of → IsRightThroughout (unwrap_or others no_graph) → IsRightThroughout (unwrap_or (cond found (Some of) others) no_graph)
named_one true of others right rest = right
named_one false of others right rest = rest

named_right : (graphs : Named GraphTree) → AreRight graphs → (name : Name) → IsRightThroughout (graph_named graphs name)
named_right [] right name = (tt, tt)
named_right (entry ∷ graphs) right name = named_one (bytes_eq name entry.0) entry.1 (in_force graphs name) right.0 (named_right graphs right.1 name)

graphs_right : (symbols : List Name) (before : Named GraphTree) (functions : List FunctionTree) → AreRight before → AllByRecursion (IsGiven symbols) functions → AreRight (graphs_with symbols before functions)
graphs_right symbols before [] right given = right
graphs_right symbols before (function ∷ functions) right given =
    graphs_right symbols ((function.name, function_graph symbols (graph_named before) function) ∷ before) functions
    (function_right symbols (graph_named before) (named_right before right) function given.0, right) given.1

latest_right : (graphs : Named GraphTree) → AreRight graphs → IsRightThroughout (latest graphs)
latest_right [] right = (tt, tt)
latest_right (entry ∷ graphs) right = right.0

-- ---- programs

abbrev IsFounded : FunctionTree → Type 0
IsFounded function = (above : List FunctionTree) × EveryOfFunction IsPlacedKnown above function

founded : (functions : List FunctionTree) → EveryFunction IsPlacedKnown functions → AllByRecursion IsFounded functions
founded [] every = tt
founded (function ∷ above) every = ((above, every.0), founded above every.1)

all_given : (symbols : List Name) (functions : List FunctionTree) → AllByRecursion IsFounded functions → AllByRecursion CountsOf functions → AllByRecursion (EveryOf (NamesSymbols symbols)) functions → AllByRecursion (IsGiven symbols) functions
all_given symbols [] founds counts named = tt
all_given symbols (function ∷ functions) founds counts named =
    (record { above = founds.0.0; placed = founds.0.1; counts = counts.0; named = named.0 }, all_given symbols functions founds.1 counts.1 named.1)

pub program_right : (source : ProgramTree) → IsWellFormed source → AllByRecursion CountsOf source.functions → Everywhere (NamesSymbols source.symbols) source → IsRightThroughout (graph_of source)
program_right source well counts named =
    let placed : EveryPlace IsPlacedKnown source = both_places IsPlaced IsKnown IsPlacedKnown (λ place statement one other. (one, other)) source well.placed well.known in
    let founds : AllByRecursion IsFounded source.functions =
    subst (AllByRecursion IsFounded) (reverse-reverse source.functions) (all_reversed IsFounded (reverse source.functions) (founded (reverse source.functions) placed)) in
    latest_right (graphs_with source.symbols [] source.functions) (graphs_right source.symbols [] source.functions tt (all_given source.symbols source.functions founds counts named))
