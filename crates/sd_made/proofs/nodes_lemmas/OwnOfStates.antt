-- The containers of a state's own are those that the program declares outside of scopes.
use Rattle.std.proofs.Common.{◌≡◌, ◌∙◌, ℕ, zero, suc, ◌+◌, ◌<◌, List, [], ◌∷◌, ◌++◌, map, length, Bool, true, false, not, cond, if◌then◌else◌, refl, ap, sym, arith, append_assoc, append-nil, length-append}
use Rattle.std.specs.List.{filter}
use Rattle.std.proofs.Math.ListN.{get_or-append}
use Rattle.std.proofs.Math.Seq.{get_or-append_seam}
use Rattle.std.proofs.lemmas.List.Elements.{filter-append}
use Rattle.sd_lex.specs.PlainTree.{StatementTree, argument_array, local_array, local_stream, map_scope, consume_scope, for_loop, while_loop, branch, Block, no_statement, and_statement}
use Rattle.sd_lex.specs.StatementKind.{has_connector}
use Rattle.sd_graph.specs.ContainerParts.{Containers, no_container, container_at}
use Rattle.sd_graph.specs.InForce.{is_private}
use Rattle.sd_graph.specs.LoopScope.{numbers_below}
use Rattle.sd_graph.specs.declared.container.Container.{Container}
use Rattle.sd_wire.specs.wiring.Mentioned.{own_of_state}
use Rattle.sd_program.specs.Names.{Name, Named}
use Rattle.sd_program.specs.Declared.{containers_in, containers_in_all}
use Rattle.sd_program.specs.Place.{scope, Place, past, past_all, in_map, in_loop, in_consume, EveryAt, EveryFrom}
use Rattle.sd_program.specs.Known.{IsPlaced}
use Rattle.sd_task.specs.containers.Declarations.{with_element, containers_with, containers_with_all}
use Rattle.sd_made.proofs.elab_lemmas.ContainersMade.{all_made, counted}
use Rattle.sd_made.proofs.nodes_lemmas.Entries.{Entry, number_of, level_of, level_in}
use Rattle.sd_made.proofs.nodes_lemmas.Own.{map_joined, not_in_scope}

filtered_below : (test other : ℕ → Bool) (count : ℕ) → ((number : ℕ) → number < count → test number ≡ other number) → filter test (numbers_below count) ≡ filter other (numbers_below count)
filtered_below test other zero same = refl
filtered_below test other (suc count) same =
    filter-append test (numbers_below count) (count ∷ [])
    ∙ ap (λ kept. kept ++ (if test count then count ∷ [] else [])) (filtered_below test other count (λ number less. same number (omega (arith, less))))
    ∙ ap (λ passes. filter other (numbers_below count) ++ (if passes then count ∷ [] else [])) (same count (omega arith))
    ∙ sym (filter-append other (numbers_below count) (count ∷ []))

abbrev is_shared : Containers → ℕ → Bool
is_shared containers number = not (is_private (container_at containers number).kind)

one_more_own : (before : Containers) (entry : Name × Container) → own_of_state (before ++ entry ∷ []) ≡ own_of_state before ++ (if not (is_private entry.1.kind) then length before ∷ [] else [])
one_more_own before entry =
    let with : Containers = before ++ entry ∷ [] in
    let longer : length with ≡ suc (length before) = length-append before (entry ∷ []) ∙ omega arith in
    ap (λ count. filter (is_shared with) (numbers_below count)) longer
    ∙ filter-append (is_shared with) (numbers_below (length before)) (length before ∷ [])
    ∙ ap (λ kept. kept ++ (if is_shared with (length before) then length before ∷ [] else []))
    (filtered_below (is_shared with) (is_shared before) (length before)
    (λ number less. ap (λ (found : Name × Container). not (is_private found.1.kind)) (get_or-append before (entry ∷ []) no_container number less)))
    ∙ ap (λ (found : Name × Container). own_of_state before ++ (if not (is_private found.1.kind) then length before ∷ [] else [])) (get_or-append_seam before entry [] no_container)

module _ (symbols : Named ℕ) (declared : List Name) where
  one_private : (before : Containers) (entry : Name × Container) → is_private entry.1.kind ≡ true → own_of_state (before ++ entry ∷ []) ≡ own_of_state before
  one_private before entry private =
      one_more_own before entry ∙ ap (λ is. own_of_state before ++ (if not is then length before ∷ [] else [])) private ∙ append-nil (own_of_state before)

  consumed_own : (is_task : Bool) (body : Block) (element : Name) (before : Containers) (place : Place) → EveryFrom IsPlaced (in_consume is_task element place) body →
      ((with : Containers) → EveryFrom IsPlaced (in_consume false element place) body → own_of_state (containers_with_all symbols declared body true with) ≡ own_of_state with) →
      own_of_state (cond is_task (with_element declared before is_task element) (containers_with_all symbols declared body true (with_element declared before is_task element))) ≡ own_of_state before
  consumed_own true body element before place placed of_body = one_private before _ refl
  consumed_own false body element before place placed of_body = of_body (with_element declared before false element) placed ∙ one_private before _ refl

  mutual
    -- what a scope declares is its own
    scope_own : (statement : StatementTree) (before : Containers) (place : Place) → place.around ≡ scope → EveryAt IsPlaced place statement →
        own_of_state (containers_with symbols declared statement true before) ≡ own_of_state before
    scope_own (argument_array line name bits extents) before place around placed = absurd (not_in_scope place (argument_array line name bits extents) around placed)
    scope_own (local_array line name extents bits) before place around placed = one_private before _ refl
    scope_own (local_stream line name bits size) before place around placed = one_private before _ refl
    scope_own (map_scope line parameters ranges body) before place around placed = all_scope_own body before (in_map place) refl placed.1
    scope_own (consume_scope line stream size name element worker body) before place around placed =
        consumed_own (has_connector body) body element before place placed.1 (λ with placed. all_scope_own body with (in_consume false element place) refl placed)
    scope_own (for_loop line name begin end step body) before place around placed = absurd (not_in_scope place (for_loop line name begin end step body) around placed)
    scope_own (while_loop line when body) before place around placed = absurd (not_in_scope place (while_loop line when body) around placed)
    scope_own (branch line when body other) before place around placed = absurd (not_in_scope place (branch line when body other) around placed)
    scope_own statement before place around placed = refl

    all_scope_own : (body : Block) (before : Containers) (place : Place) → place.around ≡ scope → EveryFrom IsPlaced place body →
        own_of_state (containers_with_all symbols declared body true before) ≡ own_of_state before
    all_scope_own no_statement before place around placed = refl
    all_scope_own (and_statement first rest) before place around placed =
        all_scope_own rest (containers_with symbols declared first true before) (past first place) around placed.1 ∙ scope_own first before place around placed.0

  abbrev own_with : Containers → List Entry → List ℕ
  own_with before level = own_of_state before ++ map number_of level

  own_joined : (before middle after : Containers) (first second : List Entry) → own_of_state middle ≡ own_with before first → own_of_state after ≡ own_with middle second → own_of_state after ≡ own_with before (first ++ second)
  own_joined before middle after first second e e' =
      e' ∙ ap (λ (numbers : List ℕ). numbers ++ map number_of second) e ∙ append_assoc (own_of_state before) (map number_of first) (map number_of second)
      ∙ ap (λ numbers. own_of_state before ++ numbers) (sym (map_joined number_of first second))

  mutual
    -- what a program declares outside of scopes is its states'
    program_own : (statement : StatementTree) (before : Containers) (container : ℕ) (place : Place) → length before ≡ container → EveryAt IsPlaced place statement →
        own_of_state (containers_with symbols declared statement false before) ≡ own_with before (level_of statement container)
    program_own (argument_array line name bits extents) before container place e placed = one_more_own before _ ∙ ap (λ number. own_of_state before ++ number ∷ []) e
    program_own (local_array line name extents bits) before container place e placed = one_more_own before _ ∙ ap (λ number. own_of_state before ++ number ∷ []) e
    program_own (local_stream line name bits size) before container place e placed = one_more_own before _ ∙ ap (λ number. own_of_state before ++ number ∷ []) e
    program_own (map_scope line parameters ranges body) before container place e placed = all_scope_own body before (in_map place) refl placed.1 ∙ sym (append-nil (own_of_state before))
    program_own (consume_scope line stream size name element worker body) before container place e placed =
        consumed_own (has_connector body) body element before place placed.1 (λ with placed. all_scope_own body with (in_consume false element place) refl placed) ∙ sym (append-nil (own_of_state before))
    program_own (for_loop line name begin end step body) before container place e placed = all_program_own body before container (in_loop place) e placed.1
    program_own (while_loop line when body) before container place e placed = all_program_own body before container (in_loop place) e placed.1
    program_own (branch line when body other) before container place e placed =
        let middle : Containers = containers_with_all symbols declared body false before in
        own_joined before middle (containers_with_all symbols declared other false middle) (level_in body container) (level_in other (container + containers_in_all body))
        (all_program_own body before container place e placed.1.0)
        (all_program_own other middle (container + containers_in_all body) (past_all body place)
        (all_made symbols declared body false place before placed.1.0 ∙ ap (λ number. number + containers_in_all body) e) placed.1.1)
    program_own statement before container place e placed = sym (append-nil (own_of_state before))

    pub all_program_own : (block : Block) (before : Containers) (container : ℕ) (place : Place) → length before ≡ container → EveryFrom IsPlaced place block →
        own_of_state (containers_with_all symbols declared block false before) ≡ own_with before (level_in block container)
    all_program_own no_statement before container place e placed = sym (append-nil (own_of_state before))
    all_program_own (and_statement first rest) before container place e placed =
        let middle : Containers = containers_with symbols declared first false before in
        own_joined before middle (containers_with_all symbols declared rest false middle) (level_of first container) (level_in rest (container + containers_in first))
        (program_own first before container place e placed.0)
        (all_program_own rest middle (container + containers_in first) (past first place)
        (counted symbols declared first false place before placed.0 ∙ ap (λ number. number + containers_in first) e) placed.1)
