-- The names that are known stand for containers with the extents that the program writes.
use Rattle.std.proofs.Common.{◌≡◌, ◌∙◌, ℕ, ◌+◌, ◌≤◌, pos, List, [], ◌∷◌, ◌++◌, length, Option, Some, Bool, true, false, cond, bytes_eq, refl, ap, sym, subst, arith}
use Rattle.std.specs.Prelude.{⊤}
use Rattle.std.proofs.lemmas.Slice.Eq.{bytes_eq-Decides}
use Rattle.sd_num.specs.declared.width.Width.TheVariants.{W64}
use Rattle.sd_lex.specs.PlainTree.{Expression, number, Expressions, no_expression, and_expression, StatementTree, argument_array, local_array, local_stream, for_loop, while_loop, branch, tasklet_branch, Block, no_statement, and_statement, FunctionTree}
use Rattle.sd_graph.specs.ContainerParts.{Containers, name_at, container_at}
use Rattle.sd_graph.specs.declared.container.Container.{Container}
use Rattle.sd_graph.specs.declared.container.ContainerKind.{ContainerKind}
use Rattle.sd_program.specs.Names.{Name, Named, in_force}
use Rattle.sd_program.specs.Affines.{affine_number, affines_of}
use Rattle.sd_program.specs.Declared.{containers_in, containers_in_all}
use Rattle.sd_program.specs.Place as place_of
use Rattle.sd_program.specs.Place.{Holder, of_dimensions, of_values, program, scope, signature, length_of, dimensions_of, Place, past, past_all, in_loop, EveryAt, EveryFrom}
use Rattle.sd_program.specs.Known.{StandsIn, IsPlaced, IsKnown}
use Rattle.sd_task.specs.in_force.Ranges.{extents_of}
use Rattle.sd_task.specs.task.Table.{Table}
use Rattle.sd_elab.specs.items.NamesBehind.{table_behind, table_behind_state, table_behind_all}
use Rattle.sd_task.specs.containers.Declarations.{with_element, containers_with, containers_with_all}
use Rattle.sd_elab.specs.elab.Elaboration.{arguments_in_force}
use Rattle.sd_made.proofs.elab_lemmas.ContainersMade.{holds_here, Begins, first_begins, made_at, counted, all_made, element_made}
use Rattle.sd_made.proofs.places_lemmas.Given.{so_at, so_from}
use Rattle.sd_made.proofs.writes_lemmas.Known.{made_named}
use Rattle.sd_made_valid.specs.read_shapes.Fits.{extents_written, AreExtents, values, Fits}
use Rattle.sd_made_valid.proofs.fits_lemmas.Agreeing.{Agrees, extents_listed}

-- what is asked of each statement in its place, where the program has these size symbols and arrays, below these programs
module _ (symbols : List Name) (arrays : Named (List Expression)) (above : List FunctionTree) where
  abbrev pub Fit : Place → StatementTree → Type 0
  Fit place statement = IsPlaced place statement × (IsKnown place statement × Fits symbols arrays above statement)

  pub placed_at : (place : Place) (statement : StatementTree) → EveryAt Fit place statement → EveryAt IsPlaced place statement
  placed_at = so_at Fit IsPlaced (λ place statement fit. fit.0)

  pub placed_from : (place : Place) (block : Block) → EveryFrom Fit place block → EveryFrom IsPlaced place block
  placed_from = so_from Fit IsPlaced (λ place statement fit. fit.0)

-- how many extents there are
all_counted : (known : Named ℕ) (extents : Expressions) → length (affines_of known extents) ≡ length_of extents
all_counted known no_expression = refl
all_counted known (and_expression first rest) = omega (arith, all_counted known rest)

local_counted : (known : Named ℕ) (extents : Expressions) → 1 ≤ length_of extents → length (extents_of known extents) ≡ length_of extents
local_counted known no_expression least = absurd (omega (arith, least))
local_counted known (and_expression first rest) least = all_counted known (and_expression first rest)

argument_counted : (known : Named ℕ) (extents : Expressions) → 1 ≤ dimensions_of extents → length (extents_of known extents) ≡ dimensions_of extents
argument_counted known no_expression least = refl
argument_counted known (and_expression first rest) least = all_counted known (and_expression first rest)

module _ (symbols : List Name) (arrays : Named (List Expression)) (above : List FunctionTree) (known : Named ℕ) (declared : List Name) (all : Containers) where
  abbrev AllFit : Place → StatementTree → Type 0
  AllFit = Fit symbols arrays above

  -- the container of an array has its name, and the extents that are written
  abbrev pub IsOf : Name → Holder → (container : ℕ) → Type 0
  IsOf name (of_dimensions count) container =
      (name_at all container ≡ name) × ((1 ≤ count → length (container_at all container).extents ≡ count)
      × ((extents : List Expression) → in_force arrays name ≡ Some extents → AreExtents symbols extents × ((container_at all container).extents ≡ values known extents)))
  IsOf name of_values container = ⊤

  abbrev pub AreTied : (places : Named Holder) → (numbers : Named ℕ) → Type 0
  AreTied places numbers = (name : Name) (holder : Holder) → in_force places name ≡ Some holder → (container : ℕ) × ((in_force numbers name ≡ Some container) × IsOf name holder container)

  -- what is known where these containers are in force
  abbrev pub Are : (places : Named Holder) → Table → Type 0
  Are places table = (table.all ≡ all) × (Agrees symbols known table.variables × AreTied places table.containers)

  pub none_tied : AreTied [] []
  none_tied name holder e = cc

  tied_first : (same : Bool) (name other : Name) (first holder : Holder) (places : Option Holder) (container : ℕ) (numbers : Option ℕ) → (same ≡ true → other ≡ name) → IsOf name first container →
      (places ≡ Some holder → (found : ℕ) × ((numbers ≡ Some found) × IsOf other holder found)) → cond same (Some first) places ≡ Some holder →
      (found : ℕ) × ((cond same (Some container) numbers ≡ Some found) × IsOf other holder found)
  tied_first true name other first holder places container numbers is of others e =
      (container, (refl, subst (λ other. IsOf other holder container) (sym (is refl)) (subst (λ holder. IsOf name holder container) (inside first holder e) of)))
    where
      inside : (first holder : Holder) → Some first ≡ Some holder → first ≡ holder
      inside first holder e = cc
  tied_first false name other first holder places container numbers is of others e = others e

  -- one more name
  pub one_more_tied : (places : Named Holder) (numbers : Named ℕ) (name : Name) (holder : Holder) (container : ℕ) → IsOf name holder container → AreTied places numbers →
      AreTied ((name, holder) ∷ places) ((name, container) ∷ numbers)
  one_more_tied places numbers name holder container of are other wanted e =
      tied_first (bytes_eq other name) name other holder wanted (in_force places other) container (in_force numbers other) (bytes_eq-Decides other name).0 of (are other wanted) e

  -- an array that is declared
  array_of : (before : Containers) (name : Name) (extents : Expressions) (kind : ContainerKind) (container count : ℕ) → length before ≡ container →
      Begins (before ++ (name, record { extents = extents_of known extents; kind = kind; width = W64 }) ∷ []) all → (1 ≤ count → length (extents_of known extents) ≡ count) →
      (in_force arrays name ≡ Some (extents_written extents)) × AreExtents symbols (extents_written extents) → IsOf name (of_dimensions count) container
  array_of before name extents kind container count e begins counts fit =
      let one' : Container = record { extents = extents_of known extents; kind = kind; width = W64 } in
      let made : container_at all container ≡ one' = subst (λ number. container_at all number ≡ one') e (made_at before (name, one') all begins).1 in (
        made_named before (name, one') all container e begins,
        (
          λ least. ap (λ (container : Container). length container.extents) made ∙ counts least,
          λ written is.
              let same : extents_written extents ≡ written = inside (extents_written extents) written (sym fit.0 ∙ is) in
              (subst (AreExtents symbols) same fit.1, ap (λ (container : Container). container.extents) made ∙ extents_listed known extents ∙ ap (values known) same),
        ),
      )
    where
      inside : (one other : List Expression) → Some one ≡ Some other → one ≡ other
      inside one other e = cc

  -- the element of a consume scope
  pub element_of : (before : Containers) (element : Name) (container : ℕ) → length before ≡ container → Begins (with_element declared before false element) all → in_force arrays element ≡ Some (number (pos 1) ∷ []) →
      IsOf element (of_dimensions 1) container
  element_of before element container e begins fit =
      let made = subst (λ number. (container_at all number).extents ≡ affine_number (pos 1) ∷ []) e (ap (λ (container : Container). container.extents) (element_made known declared before false element all begins).1) in (
        made_named before _ all container e begins,
        (
          λ least. ap length made,
          λ written is.
              let same : number (pos 1) ∷ [] ≡ written = inside (number (pos 1) ∷ []) written (sym fit ∙ is) in
              (subst (AreExtents symbols) same ((tt, tt), tt), made ∙ ap (values known) same),
        ),
      )
    where
      inside : (one other : List Expression) → Some one ≡ Some other → one ≡ other
      inside one other e = cc

  -- ---- behind statements

  -- behind a statement of a scope
  pub tied_behind : (statement : StatementTree) (table : Table) (container : ℕ) (place : Place) (before : Containers) → place.around ≡ scope → EveryAt AllFit place statement → length before ≡ container →
      Begins (containers_with known declared statement true before) all → Are place.containers table → Are (place_of.behind statement place.containers) (table_behind statement container table)
  tied_behind (argument_array line name bits extents) table container place before around fit e begins are = absurd (subst (λ kind. StandsIn kind (argument_array line name bits extents)) around fit.0)
  tied_behind (local_array line name extents bits) table container place before around fit e begins are =
      (are.0, (are.1.0, one_more_tied place.containers table.containers name _ container (array_of before name extents _ container (length_of extents) e begins (local_counted known extents) fit.1.1) are.1.1))
  tied_behind (local_stream line name bits size) table container place before around fit e begins are = (are.0, (are.1.0, one_more_tied place.containers table.containers name _ container tt are.1.1))
  tied_behind (for_loop line name begin end step body) table container place before around fit e begins are = absurd (subst (λ kind. StandsIn kind (for_loop line name begin end step body)) around fit.0.0)
  tied_behind (while_loop line when body) table container place before around fit e begins are = absurd (subst (λ kind. StandsIn kind (while_loop line when body)) around fit.0.0)
  tied_behind (branch line when body other) table container place before around fit e begins are = absurd (subst (λ kind. StandsIn kind (branch line when body other)) around fit.0.0)
  tied_behind (tasklet_branch line when body other) table container place before around fit e begins are = absurd (subst (λ kind. StandsIn kind (tasklet_branch line when body other)) around fit.0.0)
  tied_behind statement table container place before around fit e begins are = are

  -- behind a statement of a program
  mutual
    pub tied_past : (statement : StatementTree) (table : Table) (container : ℕ) (place : Place) (before : Containers) → place.around ≡ program → EveryAt AllFit place statement → length before ≡ container →
        Begins (containers_with known declared statement false before) all → Are place.containers table → Are (place_of.behind statement place.containers) (table_behind_state statement container table)
    tied_past (argument_array line name bits extents) table container place before around fit e begins are = absurd (subst (λ kind. StandsIn kind (argument_array line name bits extents)) around fit.0)
    tied_past (local_array line name extents bits) table container place before around fit e begins are =
        (are.0, (are.1.0, one_more_tied place.containers table.containers name _ container (array_of before name extents _ container (length_of extents) e begins (local_counted known extents) fit.1.1) are.1.1))
    tied_past (local_stream line name bits size) table container place before around fit e begins are = (are.0, (are.1.0, one_more_tied place.containers table.containers name _ container tt are.1.1))
    tied_past (for_loop line name begin end step body) table container place before around fit e begins are = all_tied_past body table container (in_loop place) before around fit.1 e begins are
    tied_past (while_loop line when body) table container place before around fit e begins are = all_tied_past body table container (in_loop place) before around fit.1 e begins are
    tied_past (branch line when body other) table container place before around fit e begins are =
        let middle : Containers = containers_with_all known declared body false before in
        all_tied_past other (table_behind_all body container table) (container + containers_in_all body) (past_all body place) middle around fit.1.1
        (all_made known declared body false place before (placed_from symbols arrays above place body fit.1.0) ∙ ap (λ number. number + containers_in_all body) e) begins
        (all_tied_past body table container place before around fit.1.0 e (first_begins known declared other false middle all begins) are)
    tied_past (tasklet_branch line when body other) table container place before around fit e begins are = absurd (subst (λ kind. StandsIn kind (tasklet_branch line when body other)) around fit.0.0)
    tied_past statement table container place before around fit e begins are = are

    pub all_tied_past : (block : Block) (table : Table) (container : ℕ) (place : Place) (before : Containers) → place.around ≡ program → EveryFrom AllFit place block → length before ≡ container →
        Begins (containers_with_all known declared block false before) all → Are place.containers table → Are (place_of.behind_all block place.containers) (table_behind_all block container table)
    all_tied_past no_statement table container place before around fit e begins are = are
    all_tied_past (and_statement first rest) table container place before around fit e begins are =
        let middle : Containers = containers_with known declared first false before in
        all_tied_past rest (table_behind_state first container table) (container + containers_in first) (past first place) middle around fit.1
        (counted known declared first false place before (placed_at symbols arrays above place first fit.0) ∙ ap (λ number. number + containers_in first) e) begins
        (tied_past first table container place before around fit.0 e (first_begins known declared rest false middle all begins) are)

  -- the arguments of a program
  pub arguments_tied : (arguments : Block) (numbers : Named ℕ) (next : ℕ) (place : Place) (before : Containers) → place.around ≡ signature → EveryFrom AllFit place arguments → length before ≡ next →
      Begins (containers_with_all known declared arguments false before) all → AreTied place.containers numbers → AreTied (place_of.behind_all arguments place.containers) (arguments_in_force arguments next numbers)
  arguments_tied no_statement numbers next place before around fit e begins are = are
  arguments_tied (and_statement (argument_array line name bits extents) rest) numbers next place before around fit e begins are =
      let first : StatementTree = argument_array line name bits extents in
      let middle : Containers = containers_with known declared first false before in
      arguments_tied rest ((name, next) ∷ numbers) (next + 1) (past first place) middle around fit.1
      (counted known declared first false place before fit.0.0 ∙ ap (λ number. number + 1) e) begins
      (one_more_tied place.containers numbers name _ next
      (array_of before name extents _ next (dimensions_of extents) e (first_begins known declared rest false middle all begins) (argument_counted known extents) fit.0.1.1) are)
  arguments_tied (and_statement statement rest) numbers next place before around fit e begins are =
      absurd (subst (λ kind. StandsIn kind statement) around (holds_here IsPlaced place statement (placed_at symbols arrays above place statement fit.0)))
