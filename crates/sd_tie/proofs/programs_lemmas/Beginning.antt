-- Where the block of a program begins.
use Rattle.std.proofs.Common.{◌≡◌, ◌∙◌, ℕ, ◌+◌, ◌≤◌, ℤ, pos, List, [], ◌∷◌, length, map, slice_index_or, refl, ap, sym, subst, arith}
use Rattle.std.proofs.lemmas.List.{length-map}
use Rattle.sd_lex.specs.PlainTree.{argument_array, Block, no_statement, and_statement, FunctionTree}
use Rattle.sd_range.specs.Affine.{affine_value}
use Rattle.sd_work.specs.Exit.{Values}
use Rattle.sd_graph.specs.PlainTree.{StateTrees}
use Rattle.sd_graph.specs.ContainerParts as parts
use Rattle.sd_graph.specs.ContainerParts.{container_at, no_container}
use Rattle.sd_graph.specs.Context as graph
use Rattle.sd_graph.specs.Context.{Reach, Context}
use Rattle.sd_graph.specs.declared.container.Container.{Container}
use Rattle.sd_graph.specs.declared.place.Frame.{Frame}
use Rattle.sd_valid.specs.BoundExpression.{bound_container}
use Rattle.sd_valid.specs.SizedValues.{sized}
use Rattle.sd_valid.specs.SizedWork.{at_sizes, sized_containers}
use Rattle.sd_program.specs.Names.{Name, Named}
use Rattle.sd_program.specs.Declared.{containers_in_all}
use Rattle.sd_program.specs.Place.{Place, signature, past, in_signature, behind_all, EveryFrom}
use Rattle.sd_program.specs.Known.{StandsIn, IsPlaced}
use Rattle.sd_task.specs.in_force.Subsets.{are_units}
use Rattle.sd_task.specs.task.Table.{Table, extents_at}
use Rattle.sd_task.specs.containers.Declarations.{Containers, containers_of_function}
use Rattle.sd_elab.specs.elab.Elaboration.{arguments_in_force, table_of_function}
use Rattle.sd_made.proofs.elab_lemmas.ContainersMade.{holds_here}
use Rattle.sd_says.specs.Held as held
use Rattle.sd_says.specs.Held.{Shape, Held}
use Rattle.sd_says.specs.Setting.{with_each}
use Rattle.sd_says.specs.Declared.{Declaration, declaration_at, held_with, declared_of}
use Rattle.sd_says.specs.Says.{shape_at, arguments_held, setting_of}
use Rattle.sd_tie.specs.elements.Tied.{shape_of, held_at, AreNumbered}
use Rattle.sd_tie.specs.items.Standing.{declared_by, AreBelow, Stands}
use Rattle.sd_tie.proofs.items_lemmas.Memories.{declaration_tied, container_tied, extents_tied}
use Rattle.sd_tie.proofs.items_lemmas.Points.{below_numbered}
use Rattle.sd_tie.proofs.items_lemmas.Entering.{numbered_more}
use Rattle.sd_tie.specs.states.Course.{here}
use Rattle.sd_tie.specs.programs.Programs.{symbols_of, values_of}
use Rattle.sd_tie.specs.items.Extents.{HaveExtents}
use Rattle.sd_tie.proofs.programs_lemmas.Sizes.{sized_tied}
use Rattle.sd_tie.proofs.programs_lemmas.Declaring.{IsRight, AreAs, all_declared, right_at}

-- ---- arguments

arguments_below : (arguments : Block) (next bound : ℕ) (numbers : Named ℕ) → next + containers_in_all arguments ≤ bound → AreBelow bound numbers → AreBelow bound (arguments_in_force arguments next numbers)
arguments_below no_statement next bound numbers most below = below
arguments_below (and_statement (argument_array line name bits extents) rest) next bound numbers most below =
    arguments_below rest (next + 1) bound ((name, next) ∷ numbers) (omega (arith, most)) (omega (arith, most), below)
arguments_below (and_statement statement rest) next bound numbers most below = arguments_below rest next bound numbers (omega (arith, most)) below

arguments_numbered : (arguments : Block) (next : ℕ) (place : Place) (numbers : Named ℕ) → place.around ≡ signature → EveryFrom IsPlaced place arguments → AreNumbered place.containers numbers →
    AreNumbered (behind_all arguments place.containers) (arguments_in_force arguments next numbers)
arguments_numbered no_statement next place numbers around placed are = are
arguments_numbered (and_statement (argument_array line name bits extents) rest) next place numbers around placed are =
    arguments_numbered rest (next + 1) (past (argument_array line name bits extents) place) ((name, next) ∷ numbers) around placed.1 (numbered_more place.containers numbers name _ next are)
arguments_numbered (and_statement statement rest) next place numbers around placed are = absurd (subst (λ kind. StandsIn kind statement) around (holds_here IsPlaced place statement placed.0))

none_numbered : AreNumbered [] []
none_numbered name holder e = cc

module _ (named : Named ℤ) (function : FunctionTree) (alike : AreAs named (containers_of_function (symbols_of named) function) (declared_of named function))
    (have : HaveExtents (values_of named) (containers_of_function (symbols_of named) function)) where
  abbrev pub given : Containers
  given = containers_of_function (symbols_of named) function

  -- the containers with the sizes
  abbrev pub holds : Containers
  holds = sized_containers (values_of named) given

  abbrev pub declarations : List Declaration
  declarations = declared_of named function

  abbrev pub table : Table
  table = table_of_function (symbols_of named) function

  abbrev entry_at : ℕ → Name × Container
  entry_at number = slice_index_or given number no_container

  pub declared_all : declarations ≡ map (declared_by (values_of named)) given
  declared_all = all_declared named given declarations alike

  declared_at : (number : ℕ) → declaration_at declarations number ≡ declared_by (values_of named) (entry_at number)
  declared_at number = ap (λ all. declaration_at all number) declared_all ∙ declaration_tied (values_of named) given number

  held_container : (number : ℕ) → container_at holds number ≡ bound_container (values_of named) (entry_at number).1
  held_container number = container_tied (values_of named) given number

  right : (number : ℕ) → IsRight named (entry_at number).1
  right number = (right_at named given declarations alike have number).0

  -- the shape of a container, which has the extents of the shape
  pub shape_tied : (number : ℕ) → shape_at declarations number ≡ shape_of (container_at holds number)
  shape_tied number = ap (λ (declaration : Declaration). declaration.shape) (declared_at number) ∙ ap shape_of (sym (held_container number))

  pub bare : (number : ℕ) → held.extents_of_shape (shape_of (container_at holds number)) ≡ parts.extents_of (container_at holds number)
  bare number = subst (λ container. held.extents_of_shape (shape_of container) ≡ parts.extents_of container) (sym (held_container number)) (right number).bare

  pub extents_shape : (number : ℕ) → held.extents_of_shape (shape_at declarations number) ≡ parts.extents_of (container_at holds number)
  extents_shape number = ap held.extents_of_shape (shape_tied number) ∙ bare number

  pub kind_kept : (number : ℕ) → (container_at holds number).kind ≡ (container_at given number).kind
  kind_kept number = ap (λ (container : Container). container.kind) (held_container number)

  extents_right : (values : List ℤ) (number : ℕ) → map (affine_value (sized (values_of named) values)) (extents_at given number) ≡ map pos (held.extents_of_shape (shape_of (container_at holds number)))
  extents_right values number =
      ap (map (affine_value (sized (values_of named) values))) (extents_tied given number)
      ∙ (right number).extents (right_at named given declarations alike have number).1 values
      ∙ ap (λ container. map pos (held.extents_of_shape (shape_of container))) (sym (held_container number))

  -- a container of a run's own memory
  pub own_said : (number : ℕ) → held.own_reach (shape_at declarations number) number ≡ graph.own_reach holds number
  own_said number = (λ i. record { level = 0; container = number; find = held.element_number (extents_shape number i) })

  module _ (names : List Name) (states : StateTrees) (reach : ℕ → Reach) (around : List Frame) (values : Values) where
    abbrev pub beginning : Context
    beginning = here (values_of named) holds names states reach around [] values

    held_tied : (number : ℕ) → held_with declarations number (reach number) ≡ held_at table (at_sizes (values_of named) beginning) number
    held_tied number = λ i. record {
      shape = shape_tied number i;
      unit = (ap (λ (declaration : Declaration). declaration.unit) (declared_at number) ∙ ap are_units (sym (extents_tied given number))) i;
      reach = reach number;
    }

    arguments_tied : (arguments : Block) (next : ℕ) (told : Named Held) (numbers : Named ℕ) → told ≡ with_each (held_at table (at_sizes (values_of named) beginning)) numbers →
        arguments_held declarations reach arguments next told ≡ with_each (held_at table (at_sizes (values_of named) beginning)) (arguments_in_force arguments next numbers)
    arguments_tied no_statement next told numbers e = e
    arguments_tied (and_statement (argument_array line name bits extents) rest) next told numbers e =
        arguments_tied rest (next + 1) ((name, held_with declarations next (reach next)) ∷ told) ((name, next) ∷ numbers) (λ i. (name, held_tied next i) ∷ e i)
    arguments_tied (and_statement statement rest) next told numbers e = arguments_tied rest next told numbers e

    pub begins_tied : (above : List FunctionTree) → EveryFrom IsPlaced (in_signature above) function.arguments →
        Stands (values_of named) declarations (behind_all function.arguments []) (containers_in_all function.arguments) (length (symbols_of named)) table (setting_of named function reach around) beginning
    begins_tied above placed = record {
      tied = record {
        containers = arguments_tied function.arguments 0 [] [] refl;
        variables = sym (sized_tied named values);
        shown = refl;
        around = refl;
        extents = extents_right values;
      };
      numbered = arguments_numbered function.arguments 0 (in_signature above) [] refl placed none_numbered;
      containers = refl;
      extents = extents_right;
      declared = declared_all;
      bare = bare;
      containers_below = arguments_below function.arguments 0 (containers_in_all function.arguments) [] (omega arith) tt;
      variables_below = subst (λ bound. AreBelow bound table.variables) (omega arith) (below_numbered (symbols_of named) 0 [] tt);
      sizes_below = omega (arith, length-map named (λ size. size.1), length-map named (λ size. size.0));
    }
