-- The graph of a program that fits has the shapes that it may.
use Rattle.std.proofs.Common.{◌≡◌, ◌∙◌, ℕ, suc, List, [], ◌∷◌, ◌++◌, length, Option, Some, unwrap_or, Bool, true, false, cond, bytes_eq, reverse, refl, ap, sym, subst, arith, append_assoc, append-nil, zero-add}
use Rattle.std.specs.Prelude.{⊤}
use Rattle.std.proofs.lemmas.Grind.{reverse_onto}
use Rattle.sd_num.specs.declared.width.Width.TheVariants.{W64}
use Rattle.sd_lex.specs.PlainTree.{Expression, StatementTree, argument_array, Block, no_statement, and_statement, FunctionTree, ProgramTree}
use Rattle.sd_graph.specs.PlainTree.{no_item, GraphTree}
use Rattle.sd_graph.specs.TreeParts.{containers_of}
use Rattle.sd_graph.specs.ContainerParts.{Containers, container_at}
use Rattle.sd_graph.specs.declared.container.Container.{Container}
use Rattle.sd_graph.specs.declared.container.ContainerKind.TheVariants.{Argument}
use Rattle.sd_program.specs.Declared.{containers_in_all}
use Rattle.sd_program.specs.DeclaredNames.{container_names}
use Rattle.sd_program.specs.Every.{EveryOf}
use Rattle.sd_program.specs.Names.{Name, Named, in_force}
use Rattle.sd_program.specs.Place.{Place, signature, past, in_signature, in_function, EveryFrom, EveryOfFunction, EveryFunction, EveryPlace}
use Rattle.sd_program.specs.Known.{StandsIn, IsPlaced, IsKnown}
use Rattle.sd_program.specs.WellFormed.{IsWellFormed}
use Rattle.sd_task.specs.in_force.Names.{with_numbered}
use Rattle.sd_task.specs.in_force.Ranges.{extents_of}
use Rattle.sd_elab.specs.items.Graphs.{no_graph, graph_named}
use Rattle.sd_task.specs.containers.Declarations.{containers_with, containers_with_all}
use Rattle.sd_elab.specs.elab.Elaboration.{start_of, function_graph, graphs_with, latest, graph_of}
use Rattle.sd_made.proofs.elab_lemmas.ContainersMade.{holds_here, Begins, begins_itself, first_begins, made_at, counted, all_made}
use Rattle.sd_made.proofs.places_lemmas.Givens.{both_places}
use Rattle.sd_made.proofs.shapes_lemmas.NormalForms.{AreNormal, block_normal}
use Rattle.sd_made_valid.specs.read_shapes.Fits.{parameter_extents, extents_of_programs, Fits, AllFit}
use Rattle.sd_made_valid.proofs.fits_lemmas.Agreeing.{extents_listed}
use Rattle.sd_made_valid.proofs.fits_lemmas.Fitting.{IsPlacedKnown, all_together}
use Rattle.sd_made_valid.proofs.fits_lemmas.Tied.{Fit, placed_from, none_tied, arguments_tied}
use Rattle.sd_made_valid.proofs.fits_lemmas.Sides.{HasParameters}
use Rattle.sd_made_valid.proofs.fits_lemmas.Items.{IsRightThroughout, AreMade}
use Rattle.sd_made_valid.proofs.fits_lemmas.States.{Here, block_right}

-- ---- parameters

module _ (known : Named ℕ) (declared : List Name) (all : Containers) where
  parameters_made : (arguments : Block) (number : ℕ) (place : Place) (before : Containers) → place.around ≡ signature → length before ≡ number → Begins (containers_with_all known declared arguments false before) all →
      EveryFrom IsPlaced place arguments → HasParameters known all number (parameter_extents arguments)
  parameters_made no_statement number place before around e begins placed = tt
  parameters_made (and_statement (argument_array line name bits extents) rest) number place before around e begins placed =
      let first : StatementTree = argument_array line name bits extents in
      let middle : Containers = containers_with known declared first false before in
      let one' : Container = record { extents = extents_of known extents; kind = Argument; width = W64 } in
      let made : container_at all number ≡ one' = subst (λ number. container_at all number ≡ one') e (made_at before (name, one') all (first_begins known declared rest false middle all begins)).1 in
      let next : length middle ≡ suc number = counted known declared first false place before placed.0 ∙ omega (arith, e) in
      (ap (λ (container : Container). container.extents) made ∙ extents_listed known extents, parameters_made rest (suc number) (past first place) middle around next begins placed.1)
  parameters_made (and_statement statement rest) number place before around e begins placed =
      absurd (subst (λ kind. StandsIn kind statement) around (holds_here IsPlaced place statement placed.0))

-- ---- functions

-- what is known of the graph of a function
record IsMade (known : Named ℕ) (function : FunctionTree) (tree : GraphTree) : Type 0 where
  pub right : IsRightThroughout tree
  pub have : HasParameters known (containers_of tree) 0 (parameter_extents function.arguments)

-- what is given of a function below others
abbrev IsGiven : (above : List FunctionTree) → FunctionTree → Type 0
IsGiven above function = EveryOfFunction IsPlacedKnown above function × ((symbols : List Name) × ((arrays : Named (List Expression)) × EveryOf (Fits symbols arrays above) function))

function_made : (names : List Name) (above : List FunctionTree) (graphs : Name → GraphTree) (function : FunctionTree) → AreMade (with_numbered names 0 []) above graphs → IsGiven above function →
    IsMade (with_numbered names 0 []) function (function_graph names graphs function)
function_made names above graphs function are_made (placed, (symbols, (arrays, every))) =
    let tree : GraphTree = function_graph names graphs function in
    let all : Containers = containers_of tree in
    let known : Named ℕ = with_numbered names 0 [] in
    let declared : List Name = container_names function in
    let passed : Containers = containers_with_all known declared function.arguments false [] in
    let fit : EveryOfFunction (Fit symbols arrays above) above function = all_together symbols arrays above function placed every in
    let in_place : EveryFrom IsPlaced (in_signature above) function.arguments = placed_from symbols arrays above (in_signature above) function.arguments fit.0 in
    let begun : Begins passed all = first_begins known declared function.body false passed all (begins_itself all) in
    let normal : AreNormal all = block_normal known declared function.body false passed (block_normal known declared function.arguments false [] tt) in
    let here : Here symbols arrays above graphs known are_made declared all normal tree (start_of names function) (in_function above function.arguments) passed = record {
      around = refl;
      first = all_made known declared function.arguments false (in_signature above) [] in_place ∙ zero-add (containers_in_all function.arguments);
      tied = (
        refl,
        (
          λ name among. refl,
          arguments_tied symbols arrays above known declared all function.arguments [] 0 (in_signature above) [] refl fit.0 refl begun (none_tied symbols arrays above known declared all),
        ),
      );
    } in
    record {
      right = (tt, block_right symbols arrays above graphs known are_made declared all normal tree function.body (start_of names function) no_item [] (in_function above function.arguments) passed here (begins_itself all) fit.1 (λ state. tt) 0);
      have = parameters_made known declared all function.arguments 0 (in_signature above) [] refl refl begun in_place;
    }

-- ---- graphs of functions, one for one

module _ (known : Named ℕ) where
  abbrev AreOf : List FunctionTree → Named GraphTree → Type 0
  AreOf [] [] = ⊤
  AreOf [] (entry ∷ graphs) = ⊥
  AreOf (function ∷ above) [] = ⊥
  AreOf (function ∷ above) (entry ∷ graphs) = (entry.0 ≡ function.name) × (IsMade known function entry.1 × AreOf above graphs)

  abbrev HasNamed : Option (List (List Expression)) → Option GraphTree → Type 0
  HasNamed found tree = (parameters : List (List Expression)) → found ≡ Some parameters → HasParameters known (containers_of (unwrap_or tree no_graph)) 0 parameters

  one_has : (found : Bool) (own : List (List Expression)) (of : GraphTree) (parameters : Option (List (List Expression))) (tree : Option GraphTree) → HasParameters known (containers_of of) 0 own → HasNamed parameters tree →
      HasNamed (cond found (Some own) parameters) (cond found (Some of) tree)
  one_has true own of parameters tree has others wanted e = subst (HasParameters known (containers_of of) 0) (inside own wanted e) has
    where
      inside : (own wanted : List (List Expression)) → Some own ≡ Some wanted → own ≡ wanted
      inside own wanted e = cc
  one_has false own of parameters tree has others wanted e = others wanted e

  one_right : (found : Bool) (of : GraphTree) (tree : Option GraphTree) → IsRightThroughout of → IsRightThroughout (unwrap_or tree no_graph) → IsRightThroughout (unwrap_or (cond found (Some of) tree) no_graph)
  one_right true of tree is others = is
  one_right false of tree is others = others

  named_has : (above : List FunctionTree) (graphs : Named GraphTree) → AreOf above graphs → (name : Name) → HasNamed (in_force (extents_of_programs above) name) (in_force graphs name)
  named_has [] graphs of name = λ wanted e. cc
  named_has (function ∷ above) [] of name = absurd of
  named_has (function ∷ above) (entry ∷ graphs) of name =
      let own : List (List Expression) = parameter_extents function.arguments in
      subst (λ named. HasNamed (cond (bytes_eq name function.name) (Some own) (in_force (extents_of_programs above) name)) (cond (bytes_eq name named) (Some entry.1) (in_force graphs name))) (sym of.0)
      (one_has (bytes_eq name function.name) own entry.1 (in_force (extents_of_programs above) name) (in_force graphs name) of.1.0.have (named_has above graphs of.1.1 name))

  named_right : (above : List FunctionTree) (graphs : Named GraphTree) → AreOf above graphs → (name : Name) → IsRightThroughout (graph_named graphs name)
  named_right [] [] of name = (tt, tt)
  named_right [] (entry ∷ graphs) of name = absurd of
  named_right (function ∷ above) [] of name = absurd of
  named_right (function ∷ above) (entry ∷ graphs) of name = one_right (bytes_eq name entry.0) entry.1 (in_force graphs name) of.1.0.right (named_right above graphs of.1.1 name)

-- of functions, each below those before it
abbrev AreGiven : (above : List FunctionTree) → List FunctionTree → Type 0
AreGiven above [] = ⊤
AreGiven above (function ∷ functions) = IsGiven above function × AreGiven (function ∷ above) functions

graphs_right : (names : List Name) (above : List FunctionTree) (before : Named GraphTree) (functions : List FunctionTree) → AreOf (with_numbered names 0 []) above before → AreGiven above functions →
    IsRightThroughout (latest (graphs_with names before functions))
graphs_right names [] [] [] of given = (tt, tt)
graphs_right names [] (entry ∷ before) [] of given = absurd of
graphs_right names (function ∷ above) [] [] of given = absurd of
graphs_right names (function ∷ above) (entry ∷ before) [] of given = of.1.0.right
graphs_right names above before (function ∷ functions) of given =
    let known : Named ℕ = with_numbered names 0 [] in
    let are_made : AreMade known above (graph_named before) = record { right = named_right known above before of; have = named_has known above before of } in
    graphs_right names (function ∷ above) ((function.name, function_graph names (graph_named before) function) ∷ before) functions
    (refl, (function_made names above (graph_named before) function are_made given.0, of)) given.1

-- ---- programs

abbrev EachGiven : List FunctionTree → Type 0
EachGiven functions = EveryFunction IsPlacedKnown functions × AllFit functions

of_last : (first last : List FunctionTree) → EachGiven (first ++ last) → EachGiven last
of_last [] last given = given
of_last (function ∷ first) last given = of_last first last (given.0.1, given.1.1)

all_given : (functions above : List FunctionTree) → EachGiven (reverse functions ++ above) → AreGiven above functions
all_given [] above given = tt
all_given (function ∷ functions) above given =
    let order : reverse (function ∷ functions) ++ above ≡ reverse functions ++ function ∷ above =
    ap (λ turned. turned ++ above) (reverse_onto functions function []) ∙ append_assoc (reverse functions) (function ∷ []) above in
    let given_on : EachGiven (reverse functions ++ function ∷ above) = subst EachGiven order given in
    let last : EachGiven (function ∷ above) = of_last (reverse functions) (function ∷ above) given_on in
    ((last.0.0, last.1.0), all_given functions (function ∷ above) given_on)

pub program_right : (source : ProgramTree) → IsWellFormed source → AllFit (reverse source.functions) → IsRightThroughout (graph_of source)
program_right source well fit =
    let placed : EveryPlace IsPlacedKnown source = both_places IsPlaced IsKnown IsPlacedKnown (λ place statement one other. (one, other)) source well.placed well.known in
    graphs_right source.symbols [] [] source.functions tt (all_given source.functions [] (subst EachGiven (sym (append-nil (reverse source.functions))) (placed, fit)))
