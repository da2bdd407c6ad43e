-- The arguments of a program are the first containers of its graph.
use Rattle.std.proofs.Common.{◌≡◌, ◌∙◌, ℕ, zero, suc, List, [], ◌∷◌, ◌++◌, length, Bool, true, false, cond, refl, ap, sym, subst, zero-add}
use Rattle.sd_lex.specs.PlainTree.{StatementTree, argument_array, local_array, local_stream, map_scope, consume_scope, for_loop, while_loop, branch, Expressions, Block, no_statement, and_statement, FunctionTree}
use Rattle.sd_lex.specs.StatementKind.{has_connector}
use Rattle.sd_graph.specs.ContainerParts.{Containers, is_argument}
use Rattle.sd_graph.specs.InPlace.{ArgumentsComeFirst}
use Rattle.sd_graph.specs.declared.container.Container.{Container}
use Rattle.sd_program.specs.Names.{Name, Named}
use Rattle.sd_program.specs.Declared.{containers_in_all}
use Rattle.sd_program.specs.DeclaredNames.{container_names}
use Rattle.sd_program.specs.Place.{Place, signature, past, past_all, in_map, in_loop, in_consume, in_signature, in_function, EveryAt, EveryFrom, EveryOfFunction}
use Rattle.sd_program.specs.Known.{StandsIn, IsPlaced}
use Rattle.sd_task.specs.in_force.Names.{with_numbered}
use Rattle.sd_task.specs.containers.Declarations.{array_kind, stream_kind, with_element, containers_with, containers_with_all, containers_of_function}
use Rattle.sd_made.proofs.elab_lemmas.ContainersMade.{holds_here, all_made}
use Rattle.sd_made.proofs.places_lemmas.Made.{IsAround}

-- one more container that is no argument
one_more : (arguments : ℕ) (containers : Containers) (entry : Name × Container) → ArgumentsComeFirst arguments containers → is_argument entry.1.kind ≡ false → ArgumentsComeFirst arguments (containers ++ entry ∷ [])
one_more zero [] entry first none = (none, tt)
one_more (suc arguments) [] entry first none = absurd first
one_more zero (one ∷ containers) entry first none = (first.0, one_more zero containers entry first.1 none)
one_more (suc arguments) (one ∷ containers) entry first none = (first.0, one_more arguments containers entry first.1 none)

-- one more argument behind arguments alone
one_argument : (containers : Containers) (entry : Name × Container) → ArgumentsComeFirst (length containers) containers → is_argument entry.1.kind ≡ true → ArgumentsComeFirst (suc (length containers)) (containers ++ entry ∷ [])
one_argument [] entry first is = (is, tt)
one_argument (one ∷ containers) entry first is = (first.0, one_argument containers entry first.1 is)

array_no_argument : (in_scope : Bool) → is_argument (array_kind in_scope) ≡ false
array_no_argument true = refl
array_no_argument false = refl

stream_no_argument : (in_scope : Bool) → is_argument (stream_kind in_scope) ≡ false
stream_no_argument true = refl
stream_no_argument false = refl

no_signature : (line : ℕ) (name : Name) (bits : ℕ) (extents : Expressions) (in_scope : Bool) (place : Place) → IsAround in_scope place.around → EveryAt IsPlaced place (argument_array line name bits extents) → ⊥
no_signature line name bits extents true place around placed = subst (λ kind. StandsIn kind (argument_array line name bits extents)) around (holds_here IsPlaced place (argument_array line name bits extents) placed)
no_signature line name bits extents false place around placed = subst (λ kind. StandsIn kind (argument_array line name bits extents)) around (holds_here IsPlaced place (argument_array line name bits extents) placed)

module _ (symbols : Named ℕ) (declared : List Name) (arguments : ℕ) where
  abbrev First : Containers → Type 0
  First containers = ArgumentsComeFirst arguments containers

  consumed_first : (is_task : Bool) (body : Block) (element : Name) (place : Place) (before : Containers) → First before → EveryFrom IsPlaced (in_consume is_task element place) body →
      ((with : Containers) → First with → EveryFrom IsPlaced (in_consume false element place) body → First (containers_with_all symbols declared body true with)) →
      First (cond is_task (with_element declared before is_task element) (containers_with_all symbols declared body true (with_element declared before is_task element)))
  consumed_first true body element place before first placed of_body = one_more arguments before _ first refl
  consumed_first false body element place before first placed of_body = of_body (with_element declared before false element) (one_more arguments before _ first refl) placed

  mutual
    statement_first : (statement : StatementTree) (in_scope : Bool) (place : Place) (before : Containers) → IsAround in_scope place.around → EveryAt IsPlaced place statement → First before →
        First (containers_with symbols declared statement in_scope before)
    statement_first (argument_array line name bits extents) in_scope place before around placed first = absurd (no_signature line name bits extents in_scope place around placed)
    statement_first (local_array line name extents bits) in_scope place before around placed first = one_more arguments before _ first (array_no_argument in_scope)
    statement_first (local_stream line name bits size) in_scope place before around placed first = one_more arguments before _ first (stream_no_argument in_scope)
    statement_first (map_scope line parameters ranges body) in_scope place before around placed first = block_first body true (in_map place) before refl placed.1 first
    statement_first (consume_scope line stream size name element worker body) in_scope place before around placed first =
        consumed_first (has_connector body) body element place before first placed.1 (λ with first placed. block_first body true (in_consume false element place) with refl placed first)
    statement_first (for_loop line name begin end step body) in_scope place before around placed first = block_first body in_scope (in_loop place) before around placed.1 first
    statement_first (while_loop line when body) in_scope place before around placed first = block_first body in_scope (in_loop place) before around placed.1 first
    statement_first (branch line when body other) in_scope place before around placed first =
        block_first other in_scope (past_all body place) (containers_with_all symbols declared body in_scope before) around placed.1.1 (block_first body in_scope place before around placed.1.0 first)
    statement_first statement in_scope place before around placed first = first

    block_first : (block : Block) (in_scope : Bool) (place : Place) (before : Containers) → IsAround in_scope place.around → EveryFrom IsPlaced place block → First before →
        First (containers_with_all symbols declared block in_scope before)
    block_first no_statement in_scope place before around placed first = first
    block_first (and_statement statement rest) in_scope place before around placed first =
        block_first rest in_scope (past statement place) (containers_with symbols declared statement in_scope before) around placed.1 (statement_first statement in_scope place before around placed.0 first)

module _ (symbols : Named ℕ) (declared : List Name) where
  arguments_first : (arguments : Block) (place : Place) (before : Containers) → place.around ≡ signature → EveryFrom IsPlaced place arguments → ArgumentsComeFirst (length before) before →
      ArgumentsComeFirst (length (containers_with_all symbols declared arguments false before)) (containers_with_all symbols declared arguments false before)
  arguments_first no_statement place before around placed first = first
  arguments_first (and_statement (argument_array line name bits extents) rest) place before around placed first =
      let middle : Containers = containers_with symbols declared (argument_array line name bits extents) false before in
      arguments_first rest (past (argument_array line name bits extents) place) middle around placed.1
      (subst (λ count. ArgumentsComeFirst count middle) (sym (longer before _)) (one_argument before _ first refl))
    where
      longer : (before : Containers) (entry : Name × Container) → length (before ++ entry ∷ []) ≡ suc (length before)
      longer [] entry = refl
      longer (one ∷ before) entry = ap suc (longer before entry)
  arguments_first (and_statement statement rest) place before around placed first = absurd (subst (λ kind. StandsIn kind statement) around (holds_here IsPlaced place statement placed.0))

pub function_first : (symbols : List Name) (above : List FunctionTree) (function : FunctionTree) → EveryOfFunction IsPlaced above function →
    ArgumentsComeFirst (containers_in_all function.arguments) (containers_of_function symbols function)
function_first symbols above function placed =
    let known : Named ℕ = with_numbered symbols 0 [] in
    let declared : List Name = container_names function in
    let passed : Containers = containers_with_all known declared function.arguments false [] in
    let first : ArgumentsComeFirst (length passed) passed = arguments_first known declared function.arguments (in_signature above) [] refl placed.0 tt in
    let count : length passed ≡ containers_in_all function.arguments =
    all_made known declared function.arguments false (in_signature above) [] placed.0 ∙ zero-add (containers_in_all function.arguments) in
    block_first known declared (containers_in_all function.arguments) function.body false (in_function above function.arguments) passed refl placed.1
    (subst (λ count. ArgumentsComeFirst count passed) count first)
