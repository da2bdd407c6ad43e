-- The arguments of a program are the first containers of its graph, with their names and extents.
use Rattle.std.proofs.Common.{◌≡◌, ◌∙◌, ℕ, zero, suc, ◌+◌, ℤ, List, [], ◌∷◌, ◌++◌, length, map, take, slice_index_or, false, refl, ap, sym, subst, arith, append_assoc, append-nil}
use Rattle.std.specs.Prelude.{⊤}
use Rattle.std.specs.List.{flat_map, range_with_len}
use Rattle.sd_num.specs.declared.width.Width.TheVariants.{W64}
use Rattle.sd_lex.specs.PlainTree.{argument_array, Block, no_statement, and_statement, FunctionTree}
use Rattle.sd_work.specs.Memory.{Memory, elements_of, contents_of}
use Rattle.sd_graph.specs.ContainerParts.{no_container, name_at, container_at, extents_of}
use Rattle.sd_graph.specs.declared.container.Container.{Container}
use Rattle.sd_graph.specs.declared.container.ContainerKind.TheVariants.{Argument}
use Rattle.sd_valid.specs.BoundTree.{bound_entry}
use Rattle.sd_program.specs.Names.{Name, Named}
use Rattle.sd_program.specs.Bounds.{EachBound}
use Rattle.sd_program.specs.Declared.{containers_in_all}
use Rattle.sd_program.specs.DeclaredNames.{container_names}
use Rattle.sd_program.specs.Every.{EveryIn}
use Rattle.sd_program.specs.IsAffine.{IsAffine}
use Rattle.sd_program.specs.Known.{StandsIn, IsPlaced}
use Rattle.sd_program.specs.Place.{Place, signature, past, EveryFrom}
use Rattle.sd_task.specs.in_force.Names.{with_numbered}
use Rattle.sd_task.specs.in_force.Ranges as affine
use Rattle.sd_task.specs.containers.Declarations.{Containers, containers_with_all, containers_of_function}
use Rattle.sd_made.proofs.elab_lemmas.ContainersMade.{holds_here, all_grown}
use Rattle.sd_json.specs.AnswerText.{line_of}
use Rattle.sd_tie.specs.programs.Programs.{values_of}
use Rattle.sd_tie.proofs.programs_lemmas.Sizes.{numbered, extents_said}
use Rattle.sd_promise.specs.Source.{argument_names, argument_lines}

-- ---- the containers of arguments

-- those that arguments make, where size symbols have these numbers
abbrev pub made : Named ℕ → Block → Containers
made known no_statement = []
made known (and_statement (argument_array line name bits extents) rest) = (name, record { extents = affine.extents_of known extents; kind = Argument; width = W64 }) ∷ made known rest
made known (and_statement statement rest) = made known rest

pub made_names : (known : Named ℕ) (arguments : Block) → map (λ entry. entry.0) (made known arguments) ≡ argument_names arguments
made_names known no_statement = refl
made_names known (and_statement (argument_array line name bits extents) rest) = ap (λ names. name ∷ names) (made_names known rest)
made_names known (and_statement statement rest) = made_names known rest

pub made_counted : (known : Named ℕ) (arguments : Block) (place : Place) → place.around ≡ signature → EveryFrom IsPlaced place arguments → length (made known arguments) ≡ containers_in_all arguments
made_counted known no_statement place around placed = refl
made_counted known (and_statement (argument_array line name bits extents) rest) place around placed =
    omega (arith, made_counted known rest (past (argument_array line name bits extents) place) around placed.1)
made_counted known (and_statement statement rest) place around placed = absurd (subst (λ kind. StandsIn kind statement) around (holds_here IsPlaced place statement placed.0))

made_first : (known : Named ℕ) (declared : List Name) (arguments : Block) (place : Place) (before : Containers) → place.around ≡ signature → EveryFrom IsPlaced place arguments →
    containers_with_all known declared arguments false before ≡ before ++ made known arguments
made_first known declared no_statement place before around placed = sym (append-nil before)
made_first known declared (and_statement (argument_array line name bits extents) rest) place before around placed =
    let entry : Name × Container = (name, record { extents = affine.extents_of known extents; kind = Argument; width = W64 }) in
    made_first known declared rest (past (argument_array line name bits extents) place) (before ++ entry ∷ []) around placed.1 ∙ append_assoc before (entry ∷ []) (made known rest)
made_first known declared (and_statement statement rest) place before around placed =
    absurd (subst (λ kind. StandsIn kind statement) around (holds_here IsPlaced place statement placed.0))

-- behind them stand the others
pub arguments_first : (symbols : List Name) (function : FunctionTree) (place : Place) → place.around ≡ signature → EveryFrom IsPlaced place function.arguments →
    (more : Containers) × (made (with_numbered symbols 0 []) function.arguments ++ more ≡ containers_of_function symbols function)
arguments_first symbols function place around placed =
    let known : Named ℕ = with_numbered symbols 0 [] in
    let declared : List Name = container_names function in
    let grown = all_grown known declared function.body false (containers_with_all known declared function.arguments false []) in (
      grown.0,
      ap (λ first. first ++ grown.0) (sym (made_first known declared function.arguments place [] around placed)) ∙ grown.1,
    )

pub first_of_joined : {A : Type 0} (first more : List A) → take (length first) (first ++ more) ≡ first
first_of_joined [] more = refl
first_of_joined (member ∷ first) more = ap (λ rest. member ∷ rest) (first_of_joined first more)

-- ---- containers by their numbers

-- these stand among all from this number on
abbrev pub StandFrom : (all part : Containers) → ℕ → Type 0
StandFrom all [] number = ⊤
StandFrom all (entry ∷ part) number = (slice_index_or all number no_container ≡ entry) × StandFrom all part (number + 1)

stand_later : (entry : Name × Container) (all part : Containers) (number : ℕ) → StandFrom all part number → StandFrom (entry ∷ all) part (suc number)
stand_later entry all [] number stand = tt
stand_later entry all (first ∷ part) number stand = (stand.0, subst (StandFrom (entry ∷ all) part) (omega arith) (stand_later entry all part (number + 1) stand.1))

pub stand_first : (part more : Containers) → StandFrom (part ++ more) part 0
stand_first [] more = tt
stand_first (entry ∷ part) more = (refl, subst (StandFrom (entry ∷ part ++ more) part) (omega arith) (stand_later entry (part ++ more) part 0 (stand_first part more)))

at_sizes : (sizes : List ℤ) (all : Containers) (number : ℕ) → slice_index_or (map (bound_entry sizes) all) number no_container ≡ bound_entry sizes (slice_index_or all number no_container)
at_sizes sizes [] number = refl
at_sizes sizes (entry ∷ all) zero = refl
at_sizes sizes (entry ∷ all) (suc number) = at_sizes sizes all number

-- ---- their lines

-- the line of a container of a graph
abbrev pub row : Containers → Memory → (number : ℕ) → List ℕ
row containers memory number = line_of (name_at containers number) (extents_of (container_at containers number)) (elements_of (contents_of 0 number (memory ∷ [])))

module _ (named : Named ℤ) (all : Containers) (memory : Memory) where
  abbrev sized : Containers
  sized = map (bound_entry (values_of named)) all

  pub lines_tied : (arguments : Block) (number : ℕ) → EveryIn (EachBound IsAffine) arguments → StandFrom all (made (numbered named) arguments) number →
      flat_map (row sized memory) (range_with_len number (length (made (numbered named) arguments))) ≡ argument_lines named arguments number memory
  lines_tied no_statement number smooth stand = refl
  lines_tied (and_statement (argument_array line name bits extents) rest) number smooth stand =
      let elements : List ℤ = elements_of (contents_of 0 number (memory ∷ [])) in
      let entry : Name × Container = (name, record { extents = affine.extents_of (numbered named) extents; kind = Argument; width = W64 }) in
      let found : slice_index_or sized number no_container ≡ bound_entry (values_of named) entry = at_sizes (values_of named) all number ∙ ap (bound_entry (values_of named)) stand.0 in
      let here = ap (λ (one : Name × Container). line_of one.0 (extents_of one.1) elements) found ∙ ap (λ extents. line_of name extents elements) (extents_said named extents smooth.0) in
      (λ i. here i ++ lines_tied rest (number + 1) smooth.1 stand.1 i)
  lines_tied (and_statement statement rest) number smooth stand = lines_tied rest number smooth.1 stand
