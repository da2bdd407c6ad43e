-- The containers that statements declare stand one after another: how many they are, and what they are.
use Rattle.std.proofs.Common.{◌≡◌, ◌∙◌, ℕ, ◌+◌, ◌<◌, pos, List, [], ◌∷◌, ◌++◌, length, Bool, true, false, cond, refl, ap, sym, subst, arith, add-zero, append_assoc, append-nil, length-append}
use Rattle.std.proofs.Math.Seq.{get_or-append_seam}
use Rattle.sd_num.specs.declared.width.Width.TheVariants.{W64}
use Rattle.sd_lex.specs.PlainTree.{StatementTree, argument_array, local_array, local_stream, assign, copy, reduce, map_scope, tasklet, consume_scope, call, for_loop, while_loop, branch, input, output, set, set_at, tasklet_branch, Block, no_statement, and_statement}
use Rattle.sd_lex.specs.StatementKind.{has_connector}
use Rattle.sd_graph.specs.ContainerParts.{no_container, container_at}
use Rattle.sd_graph.specs.declared.container.Container.{Container}
use Rattle.sd_graph.specs.declared.container.ContainerKind.TheVariants.{Private}
use Rattle.sd_program.specs.Affines.{affine_number}
use Rattle.sd_program.specs.Names.{Name, Named}
use Rattle.sd_program.specs.Declared.{containers_in, containers_in_all}
use Rattle.sd_program.specs.Place.{task, Place, past, past_all, in_map, in_loop, in_consume, behind, behind_all, EveryAt, EveryFrom}
use Rattle.sd_program.specs.Known.{StandsIn, StandsInTasklet, IsPlaced}
use Rattle.sd_task.specs.containers.Declarations.{Containers, element_name, with_element, containers_with, containers_with_all}

-- what holds at a place of a statement and of those below it holds of the statement
pub holds_here : (Holds : Place → StatementTree → Type 0) (place : Place) (statement : StatementTree) → EveryAt Holds place statement → Holds place statement
holds_here Holds place (argument_array line name bits extents) every = every
holds_here Holds place (local_array line name extents bits) every = every
holds_here Holds place (local_stream line name bits size) every = every
holds_here Holds place (assign line name at add value) every = every
holds_here Holds place (copy line to to_dimensions from from_dimensions) every = every
holds_here Holds place (reduce line lambda from to axis identity) every = every
holds_here Holds place (map_scope line parameters ranges body) every = every.0
holds_here Holds place (tasklet line body) every = every.0
holds_here Holds place (consume_scope line stream size name element worker body) every = every.0
holds_here Holds place (call line name arguments) every = every
holds_here Holds place (for_loop line name begin end step body) every = every.0
holds_here Holds place (while_loop line when body) every = every.0
holds_here Holds place (branch line when body other) every = every.0
holds_here Holds place (input line connector memlet) every = every
holds_here Holds place (output line connector memlet) every = every
holds_here Holds place (set line name value) every = every
holds_here Holds place (set_at line name at value) every = every
holds_here Holds place (tasklet_branch line when body other) every = every.0

-- ---- the block of a tasklet

-- what stands in a tasklet
pub stands_in_task : (place : Place) (statement : StatementTree) → place.around ≡ task → EveryAt IsPlaced place statement → StandsInTasklet statement
stands_in_task place statement around placed = subst (λ kind. StandsIn kind statement) around (holds_here IsPlaced place statement placed)

no_container_in : (statement : StatementTree) → StandsInTasklet statement → containers_in statement ≡ 0
no_container_in (argument_array line name bits extents) stands = absurd stands
no_container_in (local_array line name extents bits) stands = absurd stands
no_container_in (local_stream line name bits size) stands = absurd stands
no_container_in (assign line name at add value) stands = refl
no_container_in (copy line to to_dimensions from from_dimensions) stands = refl
no_container_in (reduce line lambda from to axis identity) stands = refl
no_container_in (map_scope line parameters ranges body) stands = absurd stands
no_container_in (tasklet line body) stands = refl
no_container_in (consume_scope line stream size name element worker body) stands = absurd stands
no_container_in (call line name arguments) stands = refl
no_container_in (for_loop line name begin end step body) stands = absurd stands
no_container_in (while_loop line when body) stands = absurd stands
no_container_in (branch line when body other) stands = absurd stands
no_container_in (input line connector memlet) stands = refl
no_container_in (output line connector memlet) stands = refl
no_container_in (set line name value) stands = refl
no_container_in (set_at line name at value) stands = refl
no_container_in (tasklet_branch line when body other) stands = refl

-- it declares no container
pub no_containers : (body : Block) (place : Place) → place.around ≡ task → EveryFrom IsPlaced place body → containers_in_all body ≡ 0
no_containers no_statement place around placed = refl
no_containers (and_statement first rest) place around placed =
    omega (arith, no_container_in first (stands_in_task place first around placed.0), no_containers rest (past first place) around placed.1)

mutual
  -- behind a line of it the same containers are in force
  pub same_behind : (statement : StatementTree) (place : Place) → place.around ≡ task → EveryAt IsPlaced place statement → behind statement place.containers ≡ place.containers
  same_behind (argument_array line name bits extents) place around placed = absurd (stands_in_task place (argument_array line name bits extents) around placed)
  same_behind (local_array line name extents bits) place around placed = absurd (stands_in_task place (local_array line name extents bits) around placed)
  same_behind (local_stream line name bits size) place around placed = absurd (stands_in_task place (local_stream line name bits size) around placed)
  same_behind (assign line name at add value) place around placed = refl
  same_behind (copy line to to_dimensions from from_dimensions) place around placed = refl
  same_behind (reduce line lambda from to axis identity) place around placed = refl
  same_behind (map_scope line parameters ranges body) place around placed = refl
  same_behind (tasklet line body) place around placed = refl
  same_behind (consume_scope line stream size name element worker body) place around placed = refl
  same_behind (call line name arguments) place around placed = refl
  same_behind (for_loop line name begin end step body) place around placed = absurd (stands_in_task place (for_loop line name begin end step body) around placed)
  same_behind (while_loop line when body) place around placed = absurd (stands_in_task place (while_loop line when body) around placed)
  same_behind (branch line when body other) place around placed = absurd (stands_in_task place (branch line when body other) around placed)
  same_behind (input line connector memlet) place around placed = refl
  same_behind (output line connector memlet) place around placed = refl
  same_behind (set line name value) place around placed = refl
  same_behind (set_at line name at value) place around placed = refl
  same_behind (tasklet_branch line when body other) place around placed =
      all_same_behind other (past_all body place) around placed.1.1 ∙ all_same_behind body place around placed.1.0

  all_same_behind : (body : Block) (place : Place) → place.around ≡ task → EveryFrom IsPlaced place body → behind_all body place.containers ≡ place.containers
  all_same_behind no_statement place around placed = refl
  all_same_behind (and_statement first rest) place around placed =
      all_same_behind rest (past first place) around placed.1 ∙ same_behind first place around placed.0

-- ---- containers one after another

-- containers begin with these
abbrev pub Begins : (first all : Containers) → Type 0
Begins first all = (rest : Containers) × (first ++ rest ≡ all)

pub begins_itself : (all : Containers) → Begins all all
begins_itself all = ([], append-nil all)

pub begins_through : (first middle all : Containers) → Begins first middle → Begins middle all → Begins first all
begins_through first middle all (more, e) (rest, e') =
    (more ++ rest, sym (append_assoc first more rest) ∙ ap (λ start. start ++ rest) e ∙ e')

either_begins : (is_task : Bool) (before one other : Containers) → Begins before one → Begins before other → Begins before (cond is_task one other)
either_begins true before one other begins others = begins
either_begins false before one other begins others = others

-- the number of one more container, and the container
pub made_at : (before : Containers) (entry : Name × Container) (all : Containers) → Begins (before ++ entry ∷ []) all → (length before < length all) × (container_at all (length before) ≡ entry.1)
made_at before entry all (rest, e) =
    let joined : before ++ entry ∷ rest ≡ all = sym (append_assoc before (entry ∷ []) rest) ∙ e in (
      subst (λ containers. length before < length containers) joined (omega (arith, length-append before (entry ∷ rest))),
      subst (λ containers. container_at containers (length before) ≡ entry.1) joined (ap (λ found. found.1) (get_or-append_seam before entry rest no_container)),
    )

one_longer : (before : Containers) (entry : Name × Container) → length (before ++ entry ∷ []) ≡ length before + 1
one_longer before entry = length-append before (entry ∷ [])

module _ (symbols : Named ℕ) (declared : List Name) where
  mutual
    pub grown : (statement : StatementTree) (in_scope : Bool) (before : Containers) → Begins before (containers_with symbols declared statement in_scope before)
    grown (argument_array line name bits extents) in_scope before = (_, refl)
    grown (local_array line name extents bits) in_scope before = (_, refl)
    grown (local_stream line name bits size) in_scope before = (_, refl)
    grown (assign line name at add value) in_scope before = begins_itself before
    grown (copy line to to_dimensions from from_dimensions) in_scope before = begins_itself before
    grown (reduce line lambda from to axis identity) in_scope before = begins_itself before
    grown (map_scope line parameters ranges body) in_scope before = all_grown body true before
    grown (tasklet line body) in_scope before = begins_itself before
    grown (consume_scope line stream size name element worker body) in_scope before =
        let with : Containers = with_element declared before (has_connector body) element in
        let begins : Begins before with = (_, refl) in
        either_begins (has_connector body) before with (containers_with_all symbols declared body true with) begins
        (begins_through before with (containers_with_all symbols declared body true with) begins (all_grown body true with))
    grown (call line name arguments) in_scope before = begins_itself before
    grown (for_loop line name begin end step body) in_scope before = all_grown body in_scope before
    grown (while_loop line when body) in_scope before = all_grown body in_scope before
    grown (branch line when body other) in_scope before =
        let middle : Containers = containers_with_all symbols declared body in_scope before in
        begins_through before middle (containers_with_all symbols declared other in_scope middle) (all_grown body in_scope before) (all_grown other in_scope middle)
    grown (input line connector memlet) in_scope before = begins_itself before
    grown (output line connector memlet) in_scope before = begins_itself before
    grown (set line name value) in_scope before = begins_itself before
    grown (set_at line name at value) in_scope before = begins_itself before
    grown (tasklet_branch line when body other) in_scope before = begins_itself before

    pub all_grown : (body : Block) (in_scope : Bool) (before : Containers) → Begins before (containers_with_all symbols declared body in_scope before)
    all_grown no_statement in_scope before = begins_itself before
    all_grown (and_statement first rest) in_scope before =
        let middle : Containers = containers_with symbols declared first in_scope before in
        begins_through before middle (containers_with_all symbols declared rest in_scope middle) (grown first in_scope before) (all_grown rest in_scope middle)

  -- where the first of two blocks or statements is all made, with what follows
  pub first_begins : (rest : Block) (in_scope : Bool) (middle all : Containers) → Begins (containers_with_all symbols declared rest in_scope middle) all → Begins middle all
  first_begins rest in_scope middle all = begins_through middle (containers_with_all symbols declared rest in_scope middle) all (all_grown rest in_scope middle)

  pub element_longer : (before : Containers) (is_task : Bool) (element : Name) → length (with_element declared before is_task element) ≡ length before + 1
  element_longer before is_task element = one_longer before (element_name declared before is_task element, record { extents = affine_number (pos 1) ∷ []; kind = Private; width = W64 })

  -- the number of a consume scope's element, and what it is
  pub element_made : (before : Containers) (is_task : Bool) (element : Name) (all : Containers) → Begins (with_element declared before is_task element) all →
      (length before < length all) × (container_at all (length before) ≡ record { extents = affine_number (pos 1) ∷ []; kind = Private; width = W64 })
  element_made before is_task element all begins =
      made_at before (element_name declared before is_task element, record { extents = affine_number (pos 1) ∷ []; kind = Private; width = W64 }) all begins

  element_counted : (is_task : Bool) (body : Block) (element : Name) (place : Place) (before : Containers) →
      EveryFrom IsPlaced (in_consume is_task element place) body →
      ((with : Containers) → EveryFrom IsPlaced (in_consume false element place) body → length (containers_with_all symbols declared body true with) ≡ length with + containers_in_all body) →
      length (cond is_task (with_element declared before is_task element) (containers_with_all symbols declared body true (with_element declared before is_task element)))
      ≡ length before + (1 + containers_in_all body)
  element_counted true body element place before placed of_body =
      omega (arith, element_longer before true element, no_containers body (in_consume true element place) refl placed)
  element_counted false body element place before placed of_body =
      omega (arith, element_longer before false element, of_body (with_element declared before false element) placed)

  mutual
    pub counted : (statement : StatementTree) (in_scope : Bool) (place : Place) (before : Containers) → EveryAt IsPlaced place statement →
        length (containers_with symbols declared statement in_scope before) ≡ length before + containers_in statement
    counted (argument_array line name bits extents) in_scope place before placed = one_longer before _
    counted (local_array line name extents bits) in_scope place before placed = one_longer before _
    counted (local_stream line name bits size) in_scope place before placed = one_longer before _
    counted (assign line name at add value) in_scope place before placed = sym (add-zero (length before))
    counted (copy line to to_dimensions from from_dimensions) in_scope place before placed = sym (add-zero (length before))
    counted (reduce line lambda from to axis identity) in_scope place before placed = sym (add-zero (length before))
    counted (map_scope line parameters ranges body) in_scope place before placed = all_made body true (in_map place) before placed.1
    counted (tasklet line body) in_scope place before placed = sym (add-zero (length before))
    counted (consume_scope line stream size name element worker body) in_scope place before placed =
        element_counted (has_connector body) body element place before placed.1 (λ with placed. all_made body true (in_consume false element place) with placed)
    counted (call line name arguments) in_scope place before placed = sym (add-zero (length before))
    counted (for_loop line name begin end step body) in_scope place before placed = all_made body in_scope (in_loop place) before placed.1
    counted (while_loop line when body) in_scope place before placed = all_made body in_scope (in_loop place) before placed.1
    counted (branch line when body other) in_scope place before placed =
        let middle : Containers = containers_with_all symbols declared body in_scope before in
        omega (arith, all_made other in_scope (past_all body place) middle placed.1.1, all_made body in_scope place before placed.1.0)
    counted (input line connector memlet) in_scope place before placed = sym (add-zero (length before))
    counted (output line connector memlet) in_scope place before placed = sym (add-zero (length before))
    counted (set line name value) in_scope place before placed = sym (add-zero (length before))
    counted (set_at line name at value) in_scope place before placed = sym (add-zero (length before))
    counted (tasklet_branch line when body other) in_scope place before placed = sym (add-zero (length before))

    pub all_made : (body : Block) (in_scope : Bool) (place : Place) (before : Containers) → EveryFrom IsPlaced place body →
        length (containers_with_all symbols declared body in_scope before) ≡ length before + containers_in_all body
    all_made no_statement in_scope place before placed = sym (add-zero (length before))
    all_made (and_statement first rest) in_scope place before placed =
        let middle : Containers = containers_with symbols declared first in_scope before in
        omega (arith, all_made rest in_scope (past first place) middle placed.1, counted first in_scope place before placed.0)
