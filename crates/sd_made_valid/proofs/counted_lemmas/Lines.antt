-- Tasklets of a program that counts are counted in the graph too.
use Rattle.std.proofs.Common.{◌≡◌, ◌∙◌, inl, inr, ℕ, zero, suc, ◌+◌, ℤ, List, [], ◌∷◌, length, Some, unwrap_or, true, refl, ap, sym, subst, arith}
use Rattle.std.specs.Prelude.{⊤}
use Rattle.std.specs.List.{fold}
use Rattle.sd_lex.specs.PlainTree.{Dimension, index, span, input, output, Block, no_statement, and_statement}
use Rattle.sd_range.specs.declared.affine.Affine.{Affine}
use Rattle.sd_graph.specs.ContainerParts.{Containers, container_at}
use Rattle.sd_context.specs.context.Declaring.{span_count, spans_of}
use Rattle.sd_program.specs.Names.{Name, Named, in_force}
use Rattle.sd_program.specs.Place.{Holder, of_dimensions, of_values, task, Place, past, in_tasklet, in_consume, EveryFrom}
use Rattle.sd_program.specs.Known.{IsPart, IsTarget, KnowsContainers}
use Rattle.sd_task.specs.in_force.Subsets.{dims_of, connector_subset, ranges_among}
use Rattle.sd_task.specs.task.Table.{Table, container_number, extents_at}
use Rattle.sd_task.specs.tasklets.Item.{inputs_of, outputs_of, tasklet_item}
use Rattle.sd_elab.specs.items.Items.{taken_link}
use Rattle.sd_elab.specs.items.Scopes.{taking_task}
use Rattle.sd_valid.specs.BoundTree.{bound_kind}
use Rattle.sd_validity.specs.rules.Parts.{is_kind_passed}
use Rattle.sd_made.proofs.elab_lemmas.ContainersMade.{holds_here, same_behind}
use Rattle.sd_made_valid.specs.values.Names.{names_tests}
use Rattle.sd_made_valid.specs.tasks.Counted.{dimensions_of, AreCounted}
use Rattle.sd_made_valid.proofs.tasks_lemmas.Tasks.{task_known}
use Rattle.sd_made_valid.specs.read_dimensions.Counts.{dimensions_by, inputs_with, outputs_with, IsTask}
use Rattle.sd_made_valid.proofs.counted_lemmas.Units.{whole_ranges}
use Rattle.sd_made_valid.proofs.counted_lemmas.Tied.{Fit, placed_at, IsOf, Are}

-- the extents of a container by its number
extents_there : (containers : Containers) (number : ℕ) → extents_at containers number ≡ (container_at containers number).extents
extents_there [] number = refl
extents_there (entry ∷ containers) zero = refl
extents_there (entry ∷ containers) (suc number) = extents_there containers number

-- each range that is written is one, after so many
spans_from : (variables : Named ℕ) (dimensions : List Dimension) (extents : List Affine) (start : ℕ) → length extents ≡ length dimensions →
    start + ranges_among (dims_of variables dimensions extents) ≡ fold (λ count dimension. count + span_count dimension) start dimensions
spans_from variables [] extents start e = omega arith
spans_from variables (dimension ∷ dimensions) [] start e = absurd (omega (arith, e))
spans_from variables (index at ∷ dimensions) (extent ∷ extents) start e = none_more start (ranges_among (dims_of variables dimensions extents)) ∙ spans_from variables dimensions extents (start + 0) (omega (arith, e))
  where
    none_more : (start count : ℕ) → start + count ≡ start + 0 + count
    none_more start count = omega arith
spans_from variables (span begin end step ∷ dimensions) (extent ∷ extents) start e = one_more start (ranges_among (dims_of variables dimensions extents)) ∙ spans_from variables dimensions extents (start + 1) (omega (arith, e))
  where
    one_more : (start count : ℕ) → start + suc count ≡ start + 1 + count
    one_more start count = omega arith

spans_counted : (variables : Named ℕ) (dimensions : List Dimension) (extents : List Affine) → length extents ≡ length dimensions → ranges_among (dims_of variables dimensions extents) ≡ spans_of dimensions
spans_counted variables dimensions extents e = from_none (ranges_among (dims_of variables dimensions extents)) ∙ spans_from variables dimensions extents 0 e
  where
    from_none : (count : ℕ) → count ≡ 0 + count
    from_none count = omega arith

-- the containers that the lines of a tasklet name are known
abbrev pub KnowLines : Named Holder → Block → Type 0
KnowLines places no_statement = ⊤
KnowLines places (and_statement first rest) = KnowsContainers places first × KnowLines places rest

module _ (symbols : List Name) (wholes : Named ℕ) (declared : List Name) (all : Containers) where
  lines_known : (body : Block) (place : Place) → place.around ≡ task → EveryFrom (Fit symbols wholes) place body → KnowLines place.containers body
  lines_known no_statement place around fit = tt
  lines_known (and_statement first rest) place around fit = (
    (holds_here (Fit symbols wholes) place first fit.0).1.0,
    subst (λ places. KnowLines places rest) (same_behind first place around (placed_at symbols wholes place first fit.0)) (lines_known rest (past first place) around fit.1),
  )

  module _ (places : Named Holder) (table : Table) (are : Are symbols wholes declared all places table) where
    abbrev number_of : Name → ℕ
    number_of name = container_number table name

    abbrev extents_of : Name → List Affine
    extents_of name = extents_at table.all (number_of name)

    found : (name : Name) (holder : Holder) → in_force places name ≡ Some holder → IsOf symbols wholes declared all name holder (number_of name)
    found name holder e =
        let is = are.1 name holder e in
        subst (λ number. IsOf symbols wholes declared all name holder (unwrap_or number 0)) (sym is.1.0) is.1.1

    there : (name : Name) → extents_of name ≡ (container_at all (number_of name)).extents
    there name = ap (λ containers. extents_at containers (number_of name)) are.0 ∙ extents_there all (number_of name)

    abbrev IsSame : Name → List Dimension → Type 0
    IsSame name dimensions = ranges_among (connector_subset table.variables dimensions (extents_of name)) ≡ dimensions_by dimensions (in_force wholes name)

    -- one that is not written
    bare_same : (name : Name) → in_force wholes name ≡ Some (whole_ranges (container_at all (number_of name)).extents) → IsSame name []
    bare_same name count = ap whole_ranges (there name) ∙ sym (ap (λ whole. unwrap_or whole 0) count)

    written_same : (name : Name) (first : Dimension) (rest : List Dimension) → in_force places name ≡ Some (of_dimensions (length (first ∷ rest))) → IsSame name (first ∷ rest)
    written_same name first rest e =
        spans_counted table.variables (first ∷ rest) (extents_of name) (ap length (there name) ∙ (found name (of_dimensions (length (first ∷ rest))) e).0 (omega arith))

    part_same : (name : Name) (dimensions : List Dimension) → IsPart places name dimensions → IsSame name dimensions
    part_same name [] part = bare_same name (found name (of_dimensions part.0) part.1).1
    part_same name (first ∷ rest) part = written_same name first rest part

    target_same : (name : Name) (dimensions : List Dimension) → IsTarget places name dimensions → IsSame name dimensions
    target_same name [] (inl array) = bare_same name (found name (of_dimensions array.0) array.1).1
    target_same name [] (inr stream) = bare_same name (found name of_values stream).1
    target_same name (first ∷ rest) part = written_same name first rest part

    inputs_same : (body : Block) (known : Named ℕ) → KnowLines places body → dimensions_of (inputs_of table body) known ≡ inputs_with wholes body known
    inputs_same no_statement known knows = refl
    inputs_same (and_statement (input line connector memlet) rest) known knows =
        ap (λ count. dimensions_of (inputs_of table rest) ((connector, count) ∷ known)) (part_same memlet.name memlet.dimensions knows.0)
        ∙ inputs_same rest ((connector, dimensions_by memlet.dimensions (in_force wholes memlet.name)) ∷ known) knows.1
    inputs_same (and_statement statement rest) known knows = inputs_same rest known knows.1

    outputs_same : (body : Block) (known : Named ℕ) → KnowLines places body → dimensions_of (outputs_of table body) known ≡ outputs_with wholes body known
    outputs_same no_statement known knows = refl
    outputs_same (and_statement (output line connector memlet) rest) known knows =
        ap (λ count. dimensions_of (outputs_of table rest) ((connector, count) ∷ known)) (target_same memlet.name memlet.dimensions knows.0)
        ∙ outputs_same rest ((connector, dimensions_by memlet.dimensions (in_force wholes memlet.name)) ∷ known) knows.1
    outputs_same (and_statement statement rest) known knows = outputs_same rest known knows.1

    counted_same : (body : Block) (elements : Named ℕ) → KnowLines places body → IsTask wholes elements body → AreCounted (dimensions_of (inputs_of table body) elements) (dimensions_of (outputs_of table body) []) body
    counted_same body elements knows task' =
        subst (λ ins. AreCounted ins (dimensions_of (outputs_of table body) []) body) (sym (inputs_same body elements knows))
        (subst (λ outs. AreCounted (inputs_with wholes body elements) outs body) (sym (outputs_same body [] knows)) task'.1)

  -- ---- tasklets

  pub tasklet_known : (place : Place) (table : Table) → Are symbols wholes declared all place.containers table → (body : Block) → EveryFrom (Fit symbols wholes) (in_tasklet place) body → IsTask wholes [] body →
      (sizes : List ℤ) → is_kind_passed names_tests (bound_kind sizes (tasklet_item table body)) ≡ true
  tasklet_known place table are body fit task' sizes =
      task_known sizes table (inputs_of table body) (outputs_of table body) body (counted_same place.containers table are body [] (lines_known body (in_tasklet place) refl fit) task')

  -- the tasklet that a consume scope is
  pub taking_known : (place : Place) (table : Table) → Are symbols wholes declared all place.containers table → (element : Name) (container : ℕ) (body : Block) → EveryFrom (Fit symbols wholes) (in_consume true element place) body → IsTask wholes ((element, 0) ∷ []) body →
      (sizes : List ℤ) → is_kind_passed names_tests (bound_kind sizes (taking_task table element container body)) ≡ true
  taking_known place table are element container body fit task' sizes =
      task_known sizes table (taken_link element container ∷ inputs_of table body) (outputs_of table body) body (counted_same place.containers table are body ((element, 0) ∷ []) (lines_known body (in_consume true element place) refl fit) task')
