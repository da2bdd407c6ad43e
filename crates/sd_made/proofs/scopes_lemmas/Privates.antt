-- Which containers of a program are private: those that the blocks of scopes declare, and elements.
use Rattle.std.proofs.Common.{◌≡◌, ◌∙◌, ℕ, zero, suc, ◌+◌, ◌<◌, ◌≤◌, nat_eq, List, [], ◌∷◌, ◌++◌, length, Bool, true, false, cond, ◌&&◌, refl, ap, sym, subst, arith, add-zero, zero-add}
use Rattle.sd_num.specs.declared.width.Width.TheVariants.{W64}
use Rattle.sd_lex.specs.PlainTree.{StatementTree, argument_array, local_array, local_stream, map_scope, consume_scope, for_loop, while_loop, branch, tasklet_branch, Block, no_statement, and_statement, FunctionTree}
use Rattle.sd_lex.specs.StatementKind.{has_connector}
use Rattle.sd_graph.specs.ContainerParts.{Containers, container_at}
use Rattle.sd_graph.specs.InForce.{is_private}
use Rattle.sd_graph.specs.declared.container.Container.{Container}
use Rattle.sd_graph.specs.declared.container.ContainerKind.TheVariants.{Private, PrivateStream}
use Rattle.sd_graph.proofs.Among.{nat_eq_same}
use Rattle.sd_program.specs.Names.{Name, Named}
use Rattle.sd_program.specs.Declared.{containers_in, containers_in_all}
use Rattle.sd_program.specs.DeclaredNames.{container_names}
use Rattle.sd_program.specs.Place.{Place, program, scope, task, signature, past, past_all, in_map, in_loop, in_consume, in_signature, in_function, EveryAt, EveryFrom, EveryOfFunction}
use Rattle.sd_program.specs.Known.{StandsIn, StandsInScope, StandsInTasklet, StandsInProgram, IsPlaced}
use Rattle.sd_task.specs.in_force.Names.{with_numbered}
use Rattle.sd_task.specs.in_force.Ranges.{extents_of}
use Rattle.sd_elab.specs.items.NamesBehind.{own_before, own_of}
use Rattle.sd_task.specs.containers.Declarations.{with_element, containers_with, containers_with_all, containers_of_function}
use Rattle.sd_made.proofs.elab_lemmas.ContainersMade.{holds_here, stands_in_task, element_longer, counted, all_made}
use Rattle.sd_validity.proofs.things_lemmas.Times.{one_if, times}

-- ---- whether a number is that of a private container

abbrev pub private_at : Containers → (number : ℕ) → ℕ
private_at [] number = 0
private_at (entry ∷ containers) zero = one_if (is_private entry.1.kind)
private_at (entry ∷ containers) (suc number) = private_at containers number

same_suc : (one other : ℕ) → nat_eq (suc one) (suc other) ≡ nat_eq one other
same_suc one other = decided (nat_eq one other) refl
  where
    decided : (same : Bool) → nat_eq one other ≡ same → nat_eq (suc one) (suc other) ≡ same
    decided true e =
        let is : one ≡ other = grind (arith, e) in
        nat_eq_same (suc one) (suc other) (ap suc is)
    decided false e = grind (arith, e)

-- one more container
private_more : (before : Containers) (entry : Name × Container) (number : ℕ) →
    private_at (before ++ entry ∷ []) number ≡ private_at before number + one_if (is_private entry.1.kind && nat_eq number (length before))
private_more [] entry zero = first (is_private entry.1.kind)
  where
    first : (private : Bool) → one_if private ≡ 0 + one_if (private && nat_eq 0 0)
    first true = refl
    first false = refl
private_more [] entry (suc number) = later (is_private entry.1.kind)
  where
    later : (private : Bool) → 0 ≡ 0 + one_if (private && nat_eq (suc number) 0)
    later true =
        let other : nat_eq (suc number) 0 ≡ false = grind arith in
        omega (arith, ap one_if other)
    later false = refl
private_more (first ∷ before) entry zero = other (is_private entry.1.kind)
  where
    other : (private : Bool) → one_if (is_private first.1.kind) ≡ one_if (is_private first.1.kind) + one_if (private && nat_eq 0 (suc (length before)))
    other true =
        let above : nat_eq 0 (suc (length before)) ≡ false = grind arith in
        omega (arith, ap one_if above)
    other false = sym (add-zero (one_if (is_private first.1.kind)))
private_more (first ∷ before) entry (suc number) =
    private_more before entry number ∙ ap (λ same. private_at before number + one_if (is_private entry.1.kind && same)) (sym (same_suc number (length before)))

-- ---- those that statements declare

-- how often a number is that of a container that the scopes among these statements declare, where the next container has this number
abbrev mutual
  pub nested : (number : ℕ) → StatementTree → (container : ℕ) → ℕ
  nested number (map_scope line parameters ranges body) container = within number body container
  nested number (consume_scope line stream size name element worker body) container =
      one_if (nat_eq number container) + cond (has_connector body) (times number (own_of body (container + 1))) (within number body (container + 1))
  nested number statement container = 0

  -- the same in the block of a scope, with those that it declares itself
  pub within : (number : ℕ) → Block → (container : ℕ) → ℕ
  within number no_statement container = 0
  within number (and_statement first rest) container =
      (times number (own_before first container []) + nested number first container) + within number rest (container + containers_in first)

-- the same in the block of a program
abbrev mutual
  pub privates : (number : ℕ) → StatementTree → (container : ℕ) → ℕ
  privates number (for_loop line name begin end step body) container = all_privates number body container
  privates number (while_loop line when body) container = all_privates number body container
  privates number (branch line when body other) container = all_privates number body container + all_privates number other (container + containers_in_all body)
  privates number statement container = nested number statement container

  pub all_privates : (number : ℕ) → Block → (container : ℕ) → ℕ
  all_privates number no_statement container = 0
  all_privates number (and_statement first rest) container = privates number first container + all_privates number rest (container + containers_in first)

-- ---- a tasklet declares none

not_own : (statement : StatementTree) → StandsInTasklet statement → (next : ℕ) (rest : List ℕ) → own_before statement next rest ≡ rest
not_own (local_array line name extents bits) stands next rest = absurd stands
not_own (local_stream line name bits size) stands next rest = absurd stands
not_own statement stands next rest = refl

none_own : (body : Block) (place : Place) → place.around ≡ task → EveryFrom IsPlaced place body → (next : ℕ) → own_of body next ≡ []
none_own no_statement place around placed next = refl
none_own (and_statement first rest) place around placed next =
    not_own first (stands_in_task place first around placed.0) next (own_of rest (next + containers_in first)) ∙ none_own rest (past first place) around placed.1 (next + containers_in first)

-- ---- what is made

stands_in_scope : (place : Place) (statement : StatementTree) → place.around ≡ scope → EveryAt IsPlaced place statement → StandsInScope statement
stands_in_scope place statement around placed = subst (λ kind. StandsIn kind statement) around (holds_here IsPlaced place statement placed)

stands_in_program : (place : Place) (statement : StatementTree) → place.around ≡ program → EveryAt IsPlaced place statement → StandsInProgram statement
stands_in_program place statement around placed = subst (λ kind. StandsIn kind statement) around (holds_here IsPlaced place statement placed)

module _ (symbols : Named ℕ) (declared : List Name) (number : ℕ) where
  private_element : (before : Containers) (is_task : Bool) (element : Name) → private_at (with_element declared before is_task element) number ≡ private_at before number + one_if (nat_eq number (length before))
  private_element before is_task element = private_more before _ number

  consumed_private : (is_task : Bool) (body : Block) (element : Name) (place : Place) (before : Containers) → EveryFrom IsPlaced (in_consume is_task element place) body →
      ((with : Containers) → EveryFrom IsPlaced (in_consume false element place) body → private_at (containers_with_all symbols declared body true with) number ≡ private_at with number + within number body (length with)) →
      private_at (cond is_task (with_element declared before is_task element) (containers_with_all symbols declared body true (with_element declared before is_task element))) number
      ≡ private_at before number + (one_if (nat_eq number (length before)) + cond is_task (times number (own_of body (length before + 1))) (within number body (length before + 1)))
  consumed_private true body element place before placed of_body =
      let none : times number (own_of body (length before + 1)) ≡ 0 = ap (times number) (none_own body (in_consume true element place) refl placed (length before + 1)) in
      omega (arith, none, private_element before true element)
  consumed_private false body element place before placed of_body =
      let with : Containers = with_element declared before false element in
      let next : within number body (length with) ≡ within number body (length before + 1) = ap (within number body) (element_longer symbols declared before false element) in
      omega (arith, next, of_body with placed, private_element before false element)

  mutual
    pub nested_private : (statement : StatementTree) (place : Place) (before : Containers) → place.around ≡ scope → EveryAt IsPlaced place statement →
        private_at (containers_with symbols declared statement true before) number
        ≡ private_at before number + (times number (own_before statement (length before) []) + nested number statement (length before))
    nested_private (argument_array line name bits extents) place before around placed = absurd (stands_in_scope place (argument_array line name bits extents) around placed)
    nested_private (local_array line name extents bits) place before around placed = omega (arith, private_more before (name, record { extents = extents_of symbols extents; kind = Private; width = W64 }) number)
    nested_private (local_stream line name bits size) place before around placed = omega (arith, private_more before (name, record { extents = []; kind = PrivateStream; width = W64 }) number)
    nested_private (map_scope line parameters ranges body) place before around placed = omega (arith, within_private body (in_map place) before refl placed.1)
    nested_private (consume_scope line stream size name element worker body) place before around placed =
        omega (arith, consumed_private (has_connector body) body element place before placed.1 (λ with placed. within_private body (in_consume false element place) with refl placed))
    nested_private (for_loop line name begin end step body) place before around placed = absurd (stands_in_scope place (for_loop line name begin end step body) around placed)
    nested_private (while_loop line when body) place before around placed = absurd (stands_in_scope place (while_loop line when body) around placed)
    nested_private (branch line when body other) place before around placed = absurd (stands_in_scope place (branch line when body other) around placed)
    nested_private (tasklet_branch line when body other) place before around placed = absurd (stands_in_scope place (tasklet_branch line when body other) around placed)
    nested_private statement place before around placed = sym (add-zero (private_at before number))

    within_private : (body : Block) (place : Place) (before : Containers) → place.around ≡ scope → EveryFrom IsPlaced place body →
        private_at (containers_with_all symbols declared body true before) number ≡ private_at before number + within number body (length before)
    within_private no_statement place before around placed = sym (add-zero (private_at before number))
    within_private (and_statement first rest) place before around placed =
        let middle : Containers = containers_with symbols declared first true before in
        let next : within number rest (length middle) ≡ within number rest (length before + containers_in first) = ap (within number rest) (counted symbols declared first true place before placed.0) in
        omega (arith, next, nested_private first place before around placed.0, within_private rest (past first place) middle around placed.1)

  mutual
    statement_private : (statement : StatementTree) (place : Place) (before : Containers) → place.around ≡ program → EveryAt IsPlaced place statement →
        private_at (containers_with symbols declared statement false before) number ≡ private_at before number + privates number statement (length before)
    statement_private (argument_array line name bits extents) place before around placed = absurd (stands_in_program place (argument_array line name bits extents) around placed)
    statement_private (local_array line name extents bits) place before around placed = private_more before (name, _) number
    statement_private (local_stream line name bits size) place before around placed = private_more before (name, _) number
    statement_private (map_scope line parameters ranges body) place before around placed = within_private body (in_map place) before refl placed.1
    statement_private (consume_scope line stream size name element worker body) place before around placed =
        consumed_private (has_connector body) body element place before placed.1 (λ with placed. within_private body (in_consume false element place) with refl placed)
    statement_private (for_loop line name begin end step body) place before around placed = block_private body (in_loop place) before around placed.1
    statement_private (while_loop line when body) place before around placed = block_private body (in_loop place) before around placed.1
    statement_private (branch line when body other) place before around placed =
        let middle : Containers = containers_with_all symbols declared body false before in
        let next : all_privates number other (length middle) ≡ all_privates number other (length before + containers_in_all body) =
        ap (all_privates number other) (all_made symbols declared body false place before placed.1.0) in
        omega (arith, next, block_private body place before around placed.1.0, block_private other (past_all body place) middle around placed.1.1)
    statement_private (tasklet_branch line when body other) place before around placed = absurd (stands_in_program place (tasklet_branch line when body other) around placed)
    statement_private statement place before around placed = sym (add-zero (private_at before number))

    block_private : (block : Block) (place : Place) (before : Containers) → place.around ≡ program → EveryFrom IsPlaced place block →
        private_at (containers_with_all symbols declared block false before) number ≡ private_at before number + all_privates number block (length before)
    block_private no_statement place before around placed = sym (add-zero (private_at before number))
    block_private (and_statement first rest) place before around placed =
        let middle : Containers = containers_with symbols declared first false before in
        let next : all_privates number rest (length middle) ≡ all_privates number rest (length before + containers_in first) =
        ap (all_privates number rest) (counted symbols declared first false place before placed.0) in
        omega (arith, next, statement_private first place before around placed.0, block_private rest (past first place) middle around placed.1)

  -- no argument is
  arguments_private : (arguments : Block) (place : Place) (before : Containers) → place.around ≡ signature → EveryFrom IsPlaced place arguments →
      private_at (containers_with_all symbols declared arguments false before) number ≡ private_at before number
  arguments_private no_statement place before around placed = refl
  arguments_private (and_statement (argument_array line name bits extents) rest) place before around placed =
      arguments_private rest (past (argument_array line name bits extents) place) (containers_with symbols declared (argument_array line name bits extents) false before) around placed.1
      ∙ private_more before (name, _) number ∙ add-zero (private_at before number)
  arguments_private (and_statement statement rest) place before around placed = absurd (subst (λ kind. StandsIn kind statement) around (holds_here IsPlaced place statement placed.0))

-- of a program
pub function_private : (number : ℕ) (symbols : List Name) (above : List FunctionTree) (function : FunctionTree) → EveryOfFunction IsPlaced above function →
    private_at (containers_of_function symbols function) number ≡ all_privates number function.body (containers_in_all function.arguments)
function_private number symbols above function placed =
    let known : Named ℕ = with_numbered symbols 0 [] in
    let declared : List Name = container_names function in
    let passed : Containers = containers_with_all known declared function.arguments false [] in
    let none : private_at passed number ≡ 0 = arguments_private known declared number function.arguments (in_signature above) [] refl placed.0 in
    let first : length passed ≡ containers_in_all function.arguments =
    all_made known declared function.arguments false (in_signature above) [] placed.0 ∙ zero-add (containers_in_all function.arguments) in
    let next : all_privates number function.body (length passed) ≡ all_privates number function.body (containers_in_all function.arguments) = ap (all_privates number function.body) first in
    omega (arith, none, next, block_private known declared number function.body (in_function above function.arguments) passed refl placed.1)

-- ---- what that says of the containers

is_one : (private : Bool) → 1 ≤ one_if private → private ≡ true
is_one true some = refl
is_one false some = absurd (omega (arith, some))

-- a number at which a private container stands is that of a private container
pub private_there : (containers : Containers) (number : ℕ) → 1 ≤ private_at containers number → (number < length containers) × (is_private (container_at containers number).kind ≡ true)
private_there [] number some = absurd (omega (arith, some))
private_there (entry ∷ containers) zero some = (omega arith, is_one (is_private entry.1.kind) some)
private_there (entry ∷ containers) (suc number) some =
    let there : (number < length containers) × (is_private (container_at containers number).kind ≡ true) = private_there containers number some in
    (omega (arith, there.0), there.1)

pub there_private : (containers : Containers) (number : ℕ) → number < length containers → is_private (container_at containers number).kind ≡ true → private_at containers number ≡ 1
there_private [] number there is = absurd (omega (arith, there))
there_private (entry ∷ containers) zero there is = ap one_if is
there_private (entry ∷ containers) (suc number) there is = there_private containers number (omega (arith, there)) is

one_at_most : (private : Bool) → one_if private ≤ 1
one_at_most true = omega arith
one_at_most false = omega arith

pub private_once : (containers : Containers) (number : ℕ) → private_at containers number ≤ 1
private_once [] number = omega arith
private_once (entry ∷ containers) zero = one_at_most (is_private entry.1.kind)
private_once (entry ∷ containers) (suc number) = private_once containers number
