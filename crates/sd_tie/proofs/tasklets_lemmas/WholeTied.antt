-- A tasklet is the same work.
use Rattle.std.proofs.Common.{◌≡◌, ◌∙◌, ℕ, ℤ, pos, List, [], ◌∷◌, ◌++◌, length, map, replicate, Some, None, Ok, Err, refl, ap, sym, subst, arith}
use Rattle.std.proofs.lemmas.List.{length-replicate}
use Rattle.sd_lex.specs.PlainTree.{Memlet, input, output, Block, no_statement, and_statement}
use Rattle.sd_num.specs.Wrapped.{wrapped}
use Rattle.sd_range.specs.Affine.{variable_value}
use Rattle.sd_range.specs.Points.{product}
use Rattle.sd_range.specs.Arithmetic.{affine_zero}
use Rattle.sd_range.specs.declared.subset.Dim.TheVariants.{Index}
use Rattle.sd_work.specs.Leaf.{Pending, instance_of}
use Rattle.sd_work.specs.Residual.{leaf}
use Rattle.sd_graph.specs.PlainTree.{TaskletTree}
use Rattle.sd_graph.specs.ContainerParts.{container_at}
use Rattle.sd_graph.specs.Context.{Context, reference_at, link_elements, link_extents}
use Rattle.sd_graph.specs.Context as places
use Rattle.sd_graph.specs.TaskletMeaning as graph
use Rattle.sd_graph.specs.TaskletMeaning.{Inputs, Effect, Meaning, and_then}
use Rattle.sd_graph.specs.Unfold.{cut, meaning_at, pending_through, pending_of, unfold_kind}
use Rattle.sd_graph.specs.declared.link.Link.{Link}
use Rattle.sd_program.specs.Names.{Name, Named, in_force}
use Rattle.sd_program.specs.Place.{Holder}
use Rattle.sd_task.specs.task.Table.{Table, container_number}
use Rattle.sd_task.specs.task.Links.{memlet_link, link_to}
use Rattle.sd_task.specs.tasklets.Item as item
use Rattle.sd_task.specs.tasklet_names.UsedNames.{connectors_from}
use Rattle.sd_task.specs.tasklets.Item.{inputs_of, outputs_of, code_with, tasklet_item}
use Rattle.sd_says.specs.Held as holding
use Rattle.sd_says.specs.Held.{pending_in, element_in}
use Rattle.sd_says.specs.Setting.{Setting, taken_in, place_at, held_by}
use Rattle.sd_says.specs.Parts.{Part, memlet_part}
use Rattle.sd_says.specs.Parts as parts
use Rattle.sd_says.specs.Connectors.{Inlet, Outlet, inputs_with, inlets_of, outlets_of, outlet_of, element_inlet}
use Rattle.sd_says.specs.AsLeaves.{task_with, tasklet_statement, taking_tasklet}
use Rattle.sd_says.specs.Tasklets as said
use Rattle.sd_says.specs.Tasklets.{task_lines}
use Rattle.sd_tie.specs.elements.Tied.{held_at, Tied, AreNumbered}
use Rattle.sd_tie.proofs.elements_lemmas.LinkReads.{held_found}
use Rattle.sd_tie.proofs.elements_lemmas.Affines.{zero_value}
use Rattle.sd_tie.proofs.elements_lemmas.Places.{index_of_dims}
use Rattle.sd_tie.proofs.elements_lemmas.Signs.{resolutions_same}
use Rattle.sd_tie.proofs.elements_lemmas.Statements.{pending_tied, place_tied}
use Rattle.sd_tie.proofs.elements_lemmas.PartsKnown.{IsName, part_known, target_known}
use Rattle.sd_tie.proofs.elements_lemmas.PartsTied.{Moves, elements_tied, extents_tied, memlet_tied}
use Rattle.sd_tie.specs.tasklets.Connected.{IsAmong, AreConnected, inputs_named, outputs_named, AreLinesKnown}
use Rattle.sd_tie.proofs.tasklets_lemmas.Numbered.{among_number}
use Rattle.sd_tie.proofs.tasklets_lemmas.ConnectorsTied.{AreInlets, AreOutlets, reads_alike, inputs_alike, outlets_alike}
use Rattle.sd_tie.proofs.tasklets_lemmas.LinesTied.{Agrees, lines_tied}

-- what is made of what both come to
finished : (pend : Effect → Pending) (P : graph.Progress → said.Progress → Type 0) → ((now : graph.Progress) (told : said.Progress) → P now told → told.effects ≡ map pend now.effects) →
    (made : Meaning graph.Progress) (told : Meaning said.Progress) → Agrees P made told →
    and_then (and_then made (λ now. Ok now.effects)) (λ effects. Ok (map pend effects)) ≡ and_then told (λ now. Ok now.effects)
finished pend P effects (Ok now) (Ok told) h = ap Ok (sym (effects now told h))
finished pend P effects (Ok now) (Err kind) h = absurd h
finished pend P effects (Err kind) (Ok told) h = absurd h
finished pend P effects (Err kind) (Err fault) h = ap Err h

module _ (known : Named Holder) (table : Table) (setting : Setting) (context : Context) (tied : Tied table setting context) (are : AreNumbered known table.containers) where
  -- ---- with whatever connectors

  module _ (ins outs : List Link) (inlets : List (Name × Inlet)) (outlets : List (Name × Outlet)) (are_in : AreInlets context ins inlets) (are_out : AreOutlets context outs outlets) (body : Block)
      (connected : AreConnected (map (λ link. link.connector) ins) (map (λ link. link.connector) outs) body) where
    abbrev code : TaskletTree
    code = code_with table.variables ins outs body

    abbrev given : List ℤ → Inputs
    given read = record {
      values = cut (map (λ link. product (link_extents context link)) ins) read;
      extents = map (link_extents context) (ins ++ outs);
      variables = map (λ variable. wrapped (variable_value context.values variable)) code.variables;
    }

    numbered : (links : List Link) (first : ℕ) (name : Name) → IsAmong (map (λ link. link.connector) links) name → (k : ℕ) × (in_force (connectors_from first links) name ≡ Some k)
    numbered links first name h = among_number (map (λ link. link.connector) links) first [] name h

    evaluated : (read : List ℤ) →
        and_then (meaning_at context code ins outs read) (λ effects. Ok (map (pending_of context ins outs) effects))
        ≡ and_then (task_lines setting.variables (taken_in (inputs_with inlets read) []) (taken_in outlets []) body (record { locals = []; effects = [] })) (λ now. Ok now.effects)
    evaluated read =
        let pend : Effect → Pending = pending_of context ins outs in
        let ins_by : Named ℕ = connectors_from 0 ins in
        let outs_by : Named ℕ = connectors_from (length ins) outs in
        let begun : graph.Progress = record { locals = replicate code.locals (pos 0); effects = [] } in
        let all = lines_tied pend (given read) context.values table.variables ins_by outs_by code.variables (map (λ link. link.connector) ins) (map (λ link. link.connector) outs) refl
        (numbered ins 0) (numbered outs (length ins)) code.locals body [] 0 [] begun (record { locals = []; effects = [] })
        (record { locals = refl; effects = refl; order = tt; room = length-replicate code.locals (pos 0) }) connected (omega arith) (λ other h. h) in
        finished pend _ (λ now told h. h.held.effects) _ _ all
        ∙ (λ i. and_then (task_lines (sym tied.variables i) (inputs_alike context ins outs inlets read are_in i) (outlets_alike context ins outs outlets are_out i) body (record { locals = []; effects = [] })) (λ now. Ok now.effects))

    pub task_tied : (line : ℕ) → unfold_kind (item.task_with table ins outs body) line context ≡ leaf (place_at setting line) (task_with setting.variables inlets outlets body)
    task_tied line = λ i. leaf (place_tied known table setting context tied are line i) (instance_of (reads_alike context ins inlets are_in i) (λ read. evaluated read i))

  -- ---- with the connectors that its block declares

  pub inlets_tied : (body : Block) → AreLinesKnown known body → AreInlets context (inputs_of table body) (inlets_of setting body)
  inlets_tied no_statement h = tt
  inlets_tied (and_statement (input line connector memlet) rest) h =
      let name : IsName known memlet.name = part_known known memlet.name memlet.dimensions h.0.0 in
      let moves : Moves context (memlet_link table connector memlet) (memlet_part setting memlet) = memlet_tied known table setting context tied are connector memlet name.0 name.1 h.0.1 in
      (refl, extents_tied context (memlet_link table connector memlet) (memlet_part setting memlet) moves, elements_tied context (memlet_link table connector memlet) (memlet_part setting memlet) moves, inlets_tied rest h.1)
  inlets_tied (and_statement statement rest) h = inlets_tied rest h.1

  -- a value for a place of an output
  outlet_gives : (connector : Name) (memlet : Memlet) (name : IsName known memlet.name) → Moves context (memlet_link table connector memlet) (memlet_part setting memlet) → (number : ℕ) (place : List ℤ) (value : ℤ) →
      pending_through context (memlet_link table connector memlet) (record { connector = number; at = place; value = value }) ≡ (outlet_of setting memlet).give place value
  outlet_gives connector memlet name moves number place value =
      let link : Link = memlet_link table connector memlet in
      let container : ℕ = container_number table memlet.name in
      let held : held_by setting memlet.name ≡ held_at table context container = held_found known table setting context tied are memlet.name name.0 name.1 in
      pending_tied (container_at context.containers container) (context.reach container) (places.index_at link.memlet.subset.dims context.values place) link.memlet.resolution value
      ∙ (λ i. pending_in (sym held i).shape (sym held i).reach
      ((index_of_dims context.values link.memlet.subset.dims place ∙ ap (λ axes. parts.index_at axes place) moves.axes) i) (resolutions_same memlet.lambda i) value)

  pub outlets_tied : (body : Block) → AreLinesKnown known body → AreOutlets context (outputs_of table body) (outlets_of setting body)
  outlets_tied no_statement h = tt
  outlets_tied (and_statement (output line connector memlet) rest) h =
      let name : IsName known memlet.name = target_known known memlet.name memlet.dimensions h.0.0 in
      let moves : Moves context (memlet_link table connector memlet) (memlet_part setting memlet) = memlet_tied known table setting context tied are connector memlet name.0 name.1 h.0.1 in
      (refl, extents_tied context (memlet_link table connector memlet) (memlet_part setting memlet) moves, outlet_gives connector memlet name moves, outlets_tied rest h.1)
  outlets_tied (and_statement statement rest) h = outlets_tied rest h.1

  pub names_of_inputs : (body : Block) → map (λ link. link.connector) (inputs_of table body) ≡ inputs_named body
  names_of_inputs no_statement = refl
  names_of_inputs (and_statement (input line connector memlet) rest) = ap (λ names. connector ∷ names) (names_of_inputs rest)
  names_of_inputs (and_statement statement rest) = names_of_inputs rest

  pub names_of_outputs : (body : Block) → map (λ link. link.connector) (outputs_of table body) ≡ outputs_named body
  names_of_outputs no_statement = refl
  names_of_outputs (and_statement (output line connector memlet) rest) = ap (λ names. connector ∷ names) (names_of_outputs rest)
  names_of_outputs (and_statement statement rest) = names_of_outputs rest

  pub tasklet_tied : (line : ℕ) (body : Block) → AreLinesKnown known body → AreConnected (inputs_named body) (outputs_named body) body →
      unfold_kind (tasklet_item table body) line context ≡ leaf (place_at setting line) (tasklet_statement setting body)
  tasklet_tied line body h connected =
      task_tied (inputs_of table body) (outputs_of table body) (inlets_of setting body) (outlets_of setting body) (inlets_tied body h) (outlets_tied body h) body
      (subst (λ names. AreConnected names (map (λ link. link.connector) (outputs_of table body)) body) (sym (names_of_inputs body)) (subst (λ names. AreConnected (inputs_named body) names body) (sym (names_of_outputs body)) connected)) line

  -- the element as the first input
  pub taking_tied : (line : ℕ) (element : Name) (container : ℕ) (held : holding.Held) → context.reach container ≡ held.reach → (body : Block) → AreLinesKnown known body → AreConnected (element ∷ inputs_named body) (outputs_named body) body →
      unfold_kind (item.task_with table (link_to element container (Index affine_zero ∷ []) (pos 1) None ∷ inputs_of table body) (outputs_of table body) body) line context ≡ leaf (place_at setting line) (taking_tasklet setting element held body)
  taking_tied line element container held same body h connected =
      let taken : Link = link_to element container (Index affine_zero ∷ []) (pos 1) None in
      let elements : link_elements context taken ≡ element_in held (pos 0 ∷ []) ∷ [] = (λ i. reference_at (same i) (zero_value context.values i ∷ []) ∷ []) in
      task_tied (taken ∷ inputs_of table body) (outputs_of table body) ((element, element_inlet held) ∷ inlets_of setting body) (outlets_of setting body) (refl, refl, elements, inlets_tied body h) (outlets_tied body h) body
      (subst (λ names. AreConnected (element ∷ names) (map (λ link. link.connector) (outputs_of table body)) body) (sym (names_of_inputs body)) (subst (λ names. AreConnected (element ∷ inputs_named body) names body) (sym (names_of_outputs body)) connected)) line
