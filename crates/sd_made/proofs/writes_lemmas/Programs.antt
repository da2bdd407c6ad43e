-- Of two links of one container in the graph of a program a nested graph writes neither.
use Rattle.std.proofs.Common.{◌≡◌, ◌∙◌, ℕ, suc, List, [], ◌∷◌, ◌++◌, map, length, nat_eq, Option, Some, unwrap_or, Bool, true, false, cond, ◌||◌, bytes_eq, reverse, refl, ap, sym, subst, arith, append_assoc, append-nil, zero-add}
use Rattle.std.specs.Prelude.{⊤}
use Rattle.std.specs.List.{AllByRecursion}
use Rattle.std.proofs.lemmas.Grind.{reverse_onto}
use Rattle.std.proofs.lemmas.Slice.Eq.{bytes_eq-Decides}
use Rattle.sd_lex.specs.PlainTree.{StatementTree, argument_array, Block, no_statement, and_statement, FunctionTree, ProgramTree}
use Rattle.sd_graph.specs.PlainTree.{no_item, GraphTree}
use Rattle.sd_graph.specs.TreeParts.{containers_of}
use Rattle.sd_graph.specs.ContainerParts.{Containers, name_at}
use Rattle.sd_graph.specs.Wiring.{has_number}
use Rattle.sd_graph.proofs.Among.{or_first, or_second}
use Rattle.sd_program.specs.Calls.{argument_counts, IsCallable}
use Rattle.sd_program.specs.Declared.{containers_in_all}
use Rattle.sd_program.specs.DeclaredNames.{container_names}
use Rattle.sd_program.specs.Names.{Name, Named, in_force}
use Rattle.sd_program.specs.Place.{Place, signature, past, in_signature, in_function, EveryAt, EveryFrom, EveryOfFunction, EveryFunction, EveryPlace}
use Rattle.sd_program.specs.Known.{StandsIn, IsPlaced, IsKnown}
use Rattle.sd_program.specs.WellFormed.{IsWellFormed}
use Rattle.sd_task.specs.in_force.Names.{with_numbered}
use Rattle.sd_elab.specs.items.Graphs.{no_graph, graph_named}
use Rattle.sd_task.specs.containers.Declarations.{containers_with, containers_with_all}
use Rattle.sd_elab.specs.elab.Elaboration.{start_of, states_of_function, function_graph, graphs_with, latest, graph_of}
use Rattle.sd_made.proofs.elab_lemmas.ContainersMade.{holds_here, Begins, begins_itself, first_begins, counted, all_made}
use Rattle.sd_validity.specs.rules.NestedLinks.{written_of}
use Rattle.sd_made.proofs.places_lemmas.Givens.{both_places}
use Rattle.sd_made.specs.writes.Writes.{is_among, all_written, parameter_names, parameters_written, written_by_programs}
use Rattle.sd_made.specs.writes.Apart.{CallsApart, IsGraphApart}
use Rattle.sd_made.proofs.writes_lemmas.Known.{none_known, made_named, arguments_known}
use Rattle.sd_made.proofs.writes_lemmas.Links.{Covers}
use Rattle.sd_made.proofs.writes_lemmas.Items.{Fit, placed_from, AreCovered}
use Rattle.sd_made.proofs.writes_lemmas.States.{Good, Here, block_good}

-- ---- lists

abbrev IsAmong : List Name → Name → Type 0
IsAmong names name = is_among names name ≡ true

each_among : (others names : List Name) → ((name : Name) → IsAmong names name → IsAmong others name) → AllByRecursion (IsAmong others) names
each_among others [] so = tt
each_among others (name ∷ names) so = (
  so name (or_first (bytes_eq name name) (is_among names name) ((bytes_eq-Decides name name).1 refl)),
  each_among others names (λ other is. so other (or_second (bytes_eq other name) (is_among names other) is)),
)

-- what holds of each number of a list holds of one that it has
one_holds : (P : ℕ → Type 0) (same : Bool) (number first : ℕ) (rest : List ℕ) → nat_eq number first ≡ same → P first → (has_number rest number ≡ true → P number) → (same || has_number rest number) ≡ true → P number
one_holds P true number first rest e is later has =
    let here : first ≡ number = grind (arith, e) in
    subst P here is
one_holds P false number first rest e is later has = later has

has_holds : (P : ℕ → Type 0) (numbers : List ℕ) → AllByRecursion P numbers → (number : ℕ) → has_number numbers number ≡ true → P number
has_holds P [] all number has = cc
has_holds P (first ∷ rest) all number has = one_holds P (nat_eq number first) number first rest refl all.0 (has_holds P rest all.1 number) has

-- ---- parameters

not_in_signature : (statement : StatementTree) (place : Place) → place.around ≡ signature → EveryAt IsPlaced place statement → StandsIn signature statement
not_in_signature statement place around placed = subst (λ kind. StandsIn kind statement) around (holds_here IsPlaced place statement placed)

parameters_counted : (names : List Name) (arguments : Block) (place : Place) → place.around ≡ signature → EveryFrom IsPlaced place arguments → length (map (is_among names) (parameter_names arguments)) ≡ containers_in_all arguments
parameters_counted names no_statement place around placed = refl
parameters_counted names (and_statement (argument_array line name bits extents) rest) place around placed =
    omega (arith, parameters_counted names rest (past (argument_array line name bits extents) place) around placed.1)
parameters_counted names (and_statement statement rest) place around placed = absurd (not_in_signature statement place around placed.0)

-- each parameter is the container of its number
module _ (symbols : Named ℕ) (declared : List Name) (all : Containers) (names : List Name) (written : List ℕ) (are : (number : ℕ) → has_number written number ≡ true → IsAmong names (name_at all number)) where
  parameters_covered : (arguments : Block) (number : ℕ) (place : Place) (before : Containers) → place.around ≡ signature → length before ≡ number → Begins (containers_with_all symbols declared arguments false before) all →
      EveryFrom IsPlaced place arguments → Covers written number (map (is_among names) (parameter_names arguments))
  parameters_covered no_statement number place before around e begins placed = tt
  parameters_covered (and_statement (argument_array line name bits extents) rest) number place before around e begins placed =
      let first : StatementTree = argument_array line name bits extents in
      let middle : Containers = containers_with symbols declared first false before in
      let named : name_at all number ≡ name = made_named before _ all number e (first_begins symbols declared rest false middle all begins) in
      let next : length middle ≡ suc number = counted symbols declared first false place before placed.0 ∙ omega (arith, e) in
      (λ has. subst (IsAmong names) named (are number has), parameters_covered rest (suc number) (past first place) middle around next begins placed.1)
  parameters_covered (and_statement statement rest) number place before around e begins placed = absurd (not_in_signature statement place around placed.0)

-- ---- functions

-- what is known of the graph of a function, below others
pub record IsCovered (above : List FunctionTree) (function : FunctionTree) (tree : GraphTree) : Type 0 where
  pub covers : Covers (written_of tree) 0 (parameters_written (written_by_programs above) function)
  pub counts : length (parameters_written (written_by_programs above) function) ≡ containers_in_all function.arguments
  pub apart : IsGraphApart tree

function_covered : (symbols : List Name) (above : List FunctionTree) (graphs : Name → GraphTree) (function : FunctionTree) → AreCovered above graphs → EveryOfFunction Fit above function →
    IsCovered above function (function_graph symbols graphs function)
function_covered symbols above graphs function are_covered fit =
    let tree : GraphTree = function_graph symbols graphs function in
    let all : Containers = containers_of tree in
    let known : Named ℕ = with_numbered symbols 0 [] in
    let declared : List Name = container_names function in
    let passed : Containers = containers_with_all known declared function.arguments false [] in
    let names : List Name = all_written (written_by_programs above) function.body in
    let placed : EveryFrom IsPlaced (in_signature above) function.arguments = placed_from (in_signature above) function.arguments fit.0 in
    let begun : Begins passed all = first_begins known declared function.body false passed all (begins_itself all) in
    let here : Here (IsAmong names) above graphs are_covered known declared all (start_of symbols function) (in_function above function.arguments) passed = record {
      around = refl;
      first = all_made known declared function.arguments false (in_signature above) [] placed ∙ zero-add (containers_in_all function.arguments);
      of = refl;
      known = arguments_known known declared all function.arguments [] 0 (in_signature above) [] refl refl begun placed (none_known all);
    } in
    let good : Good (IsAmong names) above graphs are_covered known declared all (states_of_function symbols graphs function) =
    block_good (IsAmong names) above graphs are_covered known declared all function.body (start_of symbols function) no_item [] (in_function above function.arguments) passed here (begins_itself all) fit.1
    (each_among names names (λ name is. is)) (tt, tt) in
    record {
      covers = parameters_covered known declared all names (written_of tree) (has_holds (λ container. IsAmong names (name_at all container)) (written_of tree) good.0) function.arguments 0 (in_signature above) [] refl refl begun placed;
      counts = parameters_counted names function.arguments (in_signature above) refl placed;
      apart = good.1;
    }

-- ---- graphs of functions, one for one

abbrev AreOf : List FunctionTree → Named GraphTree → Type 0
AreOf [] [] = ⊤
AreOf [] (entry ∷ graphs) = ⊥
AreOf (function ∷ above) [] = ⊥
AreOf (function ∷ above) (entry ∷ graphs) = (entry.0 ≡ function.name) × (IsCovered above function entry.1 × AreOf above graphs)

abbrev CoversNamed : (parameters : Option (List Bool)) → Option GraphTree → Type 0
CoversNamed parameters tree = Covers (written_of (unwrap_or tree no_graph)) 0 (unwrap_or parameters [])

abbrev IsCounted : (counts : Option ℕ) → Option (List Bool) → Type 0
IsCounted counts parameters = (count : ℕ) → counts ≡ Some count → length (unwrap_or parameters []) ≡ count

one_covered : (found : Bool) (own : List Bool) (of : GraphTree) (parameters : Option (List Bool)) (tree : Option GraphTree) → Covers (written_of of) 0 own → CoversNamed parameters tree →
    CoversNamed (cond found (Some own) parameters) (cond found (Some of) tree)
one_covered true own of parameters tree covers others = covers
one_covered false own of parameters tree covers others = others

one_counted : (found : Bool) (own : List Bool) (number : ℕ) (parameters : Option (List Bool)) (counts : Option ℕ) → length own ≡ number → IsCounted counts parameters → IsCounted (cond found (Some number) counts) (cond found (Some own) parameters)
one_counted true own number parameters counts same others count e = same ∙ inside number count e
  where
    inside : (number count : ℕ) → Some number ≡ Some count → number ≡ count
    inside number count e = cc
one_counted false own number parameters counts same others count e = others count e

one_apart : (found : Bool) (of : GraphTree) (tree : Option GraphTree) → IsGraphApart of → IsGraphApart (unwrap_or tree no_graph) → IsGraphApart (unwrap_or (cond found (Some of) tree) no_graph)
one_apart true of tree is others = is
one_apart false of tree is others = others

named_covered : (above : List FunctionTree) (graphs : Named GraphTree) → AreOf above graphs → (name : Name) → CoversNamed (in_force (written_by_programs above) name) (in_force graphs name)
named_covered [] [] of name = tt
named_covered [] (entry ∷ graphs) of name = absurd of
named_covered (function ∷ above) [] of name = absurd of
named_covered (function ∷ above) (entry ∷ graphs) of name =
    let own : List Bool = parameters_written (written_by_programs above) function in
    subst (λ named. CoversNamed (cond (bytes_eq name function.name) (Some own) (in_force (written_by_programs above) name)) (cond (bytes_eq name named) (Some entry.1) (in_force graphs name))) (sym of.0)
    (one_covered (bytes_eq name function.name) own entry.1 (in_force (written_by_programs above) name) (in_force graphs name) of.1.0.covers (named_covered above graphs of.1.1 name))

named_counted : (above : List FunctionTree) (graphs : Named GraphTree) → AreOf above graphs → (name : Name) → IsCounted (in_force (argument_counts above) name) (in_force (written_by_programs above) name)
named_counted [] graphs of name = λ count e. cc
named_counted (function ∷ above) [] of name = absurd of
named_counted (function ∷ above) (entry ∷ graphs) of name =
    let own : List Bool = parameters_written (written_by_programs above) function in
    one_counted (bytes_eq name function.name) own (containers_in_all function.arguments) (in_force (written_by_programs above) name) (in_force (argument_counts above) name) of.1.0.counts (named_counted above graphs of.1.1 name)

named_apart : (above : List FunctionTree) (graphs : Named GraphTree) → AreOf above graphs → (name : Name) → IsGraphApart (graph_named graphs name)
named_apart [] [] of name = tt
named_apart [] (entry ∷ graphs) of name = absurd of
named_apart (function ∷ above) [] of name = absurd of
named_apart (function ∷ above) (entry ∷ graphs) of name = one_apart (bytes_eq name entry.0) entry.1 (in_force graphs name) of.1.0.apart (named_apart above graphs of.1.1 name)

-- of functions, each below those before it
abbrev AreFit : (above : List FunctionTree) → List FunctionTree → Type 0
AreFit above [] = ⊤
AreFit above (function ∷ functions) = EveryOfFunction Fit above function × AreFit (function ∷ above) functions

graphs_apart : (symbols : List Name) (above : List FunctionTree) (before : Named GraphTree) (functions : List FunctionTree) → AreOf above before → AreFit above functions → IsGraphApart (latest (graphs_with symbols before functions))
graphs_apart symbols [] [] [] of fit = tt
graphs_apart symbols [] (entry ∷ before) [] of fit = absurd of
graphs_apart symbols (function ∷ above) [] [] of fit = absurd of
graphs_apart symbols (function ∷ above) (entry ∷ before) [] of fit = of.1.0.apart
graphs_apart symbols above before (function ∷ functions) of fit =
    let are_covered : AreCovered above (graph_named before) = record { covers = named_covered above before of; counts = named_counted above before of; apart = named_apart above before of } in
    graphs_apart symbols (function ∷ above) ((function.name, function_graph symbols (graph_named before) function) ∷ before) functions
    (refl, (function_covered symbols above (graph_named before) function are_covered fit.0, of)) fit.1

-- ---- programs

of_last : (first last : List FunctionTree) → EveryFunction Fit (first ++ last) → EveryFunction Fit last
of_last [] last fit = fit
of_last (function ∷ first) last fit = of_last first last fit.1

all_fit : (functions above : List FunctionTree) → EveryFunction Fit (reverse functions ++ above) → AreFit above functions
all_fit [] above fit = tt
all_fit (function ∷ functions) above fit =
    let order : reverse (function ∷ functions) ++ above ≡ reverse functions ++ function ∷ above =
    ap (λ turned. turned ++ above) (reverse_onto functions function []) ∙ append_assoc (reverse functions) (function ∷ []) above in
    let fit_on : EveryFunction Fit (reverse functions ++ function ∷ above) = subst (EveryFunction Fit) order fit in
    ((of_last (reverse functions) (function ∷ above) fit_on).0, all_fit functions (function ∷ above) fit_on)

abbrev IsCalled : Place → StatementTree → Type 0
IsCalled place statement = IsCallable place statement × CallsApart place statement

abbrev IsKnownCalled : Place → StatementTree → Type 0
IsKnownCalled place statement = IsKnown place statement × IsCalled place statement

pub program_apart : (source : ProgramTree) → IsWellFormed source → EveryPlace CallsApart source → IsGraphApart (graph_of source)
program_apart source well apart =
    let called : EveryPlace IsCalled source = both_places IsCallable CallsApart IsCalled (λ place statement one other. (one, other)) source well.calls apart in
    let known : EveryPlace IsKnownCalled source = both_places IsKnown IsCalled IsKnownCalled (λ place statement one other. (one, other)) source well.known called in
    let fit : EveryPlace Fit source = both_places IsPlaced IsKnownCalled Fit (λ place statement one other. (one, other)) source well.placed known in
    graphs_apart source.symbols [] [] source.functions tt (all_fit source.functions [] (subst (EveryFunction Fit) (sym (append-nil (reverse source.functions))) fit))
