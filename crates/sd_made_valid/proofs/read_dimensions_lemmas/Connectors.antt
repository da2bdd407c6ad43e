-- Connectors of lists of statements, with their dimensions.
use Rattle.std.proofs.Common.{◌≡◌, ◌∙◌, ℕ, List, [], ◌∷◌, ◌++◌, Some, unwrap_or, true, refl, ap, sym, subst}
use Rattle.std.specs.List.{AllByRecursion}
use Rattle.sd_lex.specs.PlainTree.{Expression, Dimension, StatementTree, argument_array, local_array, local_stream, tasklet, consume_scope, input, output, set, set_at, tasklet_branch, Block, no_statement, and_statement}
use Rattle.sd_lex.specs.StatementKind.{is_connector}
use Rattle.sd_lex.specs.TreeFold.{block_listed}
use Rattle.sd_program.specs.Names.{Name, Named, in_force}
use Rattle.sd_read.proofs.readable_lemmas.kept.Passing.{false_is_not_true}
use Rattle.sd_made_valid.specs.tasks.Counted.{IsCounted, AreCounted}
use Rattle.sd_made_valid.specs.read_dimensions.Counts.{dimensions_by, input_with, inputs_with, output_with, outputs_with, IsNotedBy, IsNoted, AreNoted, IsArray, IsTask, Counts}

module _ (wholes : Named ℕ) where
  abbrev pub inputs_in : List StatementTree → Named ℕ → Named ℕ
  inputs_in statements known = inputs_with wholes (block_listed statements) known

  abbrev pub outputs_in : List StatementTree → Named ℕ → Named ℕ
  outputs_in statements known = outputs_with wholes (block_listed statements) known

  pub inputs-joined : (xs ys : List StatementTree) (known : Named ℕ) → inputs_in (xs ++ ys) known ≡ inputs_in ys (inputs_in xs known)
  inputs-joined [] ys known = refl
  inputs-joined (x ∷ xs) ys known = inputs-joined xs ys (input_with wholes x known)

  pub outputs-joined : (xs ys : List StatementTree) (known : Named ℕ) → outputs_in (xs ++ ys) known ≡ outputs_in ys (outputs_in xs known)
  outputs-joined [] ys known = refl
  outputs-joined (x ∷ xs) ys known = outputs-joined xs ys (output_with wholes x known)

  pub noted-joined : (xs ys : List StatementTree) → AreNoted wholes (block_listed xs) → AreNoted wholes (block_listed ys) → AreNoted wholes (block_listed (xs ++ ys))
  noted-joined [] ys all others = others
  noted-joined (x ∷ xs) ys all others = (all.0, noted-joined xs ys all.1 others)

pub counted-joined : (ins outs : Named ℕ) (xs ys : List StatementTree) → AreCounted ins outs (block_listed xs) → AreCounted ins outs (block_listed ys) → AreCounted ins outs (block_listed (xs ++ ys))
counted-joined ins outs [] ys all others = others
counted-joined ins outs (x ∷ xs) ys all others = (all.0, counted-joined ins outs xs ys all.1 others)

-- ---- connectors alone

abbrev pub AreConnectors : List StatementTree → Type 0
AreConnectors statements = AllByRecursion (λ s. is_connector s ≡ true) statements

pub connectors_counted : (ins outs : Named ℕ) (statements : List StatementTree) → AreConnectors statements → AreCounted ins outs (block_listed statements)
connectors_counted ins outs [] are = tt
connectors_counted ins outs (s ∷ statements) are = (one s are.0, connectors_counted ins outs statements are.1) where
  one : (s : StatementTree) → is_connector s ≡ true → IsCounted ins outs s
  one (set line name value) is = false_is_not_true is
  one (set_at line name at value) is = false_is_not_true is
  one (tasklet_branch line when body other) is = false_is_not_true is
  one s is = tt

-- ---- more containers

abbrev pub HasMore : (wholes more : Named ℕ) → Type 0
HasMore wholes more = (name : Name) (count : ℕ) → in_force wholes name ≡ Some count → in_force more name ≡ Some count

module _ (wholes more : Named ℕ) (has : HasMore wholes more) where
  dimensions_same : (dimensions : List Dimension) (name : Name) → IsNotedBy wholes dimensions name → dimensions_by dimensions (in_force more name) ≡ dimensions_by dimensions (in_force wholes name)
  dimensions_same [] name noted = ap (λ whole. unwrap_or whole 0) (has name noted.0 noted.1 ∙ sym noted.1)
  dimensions_same (first ∷ rest) name noted = refl

  noted_by : (dimensions : List Dimension) (name : Name) → IsNotedBy wholes dimensions name → IsNotedBy more dimensions name
  noted_by [] name noted = (noted.0, has name noted.0 noted.1)
  noted_by (first ∷ rest) name noted = tt

  one_noted : (s : StatementTree) → IsNoted wholes s → IsNoted more s
  one_noted (input line connector memlet) noted = noted_by memlet.dimensions memlet.name noted
  one_noted (output line connector memlet) noted = noted_by memlet.dimensions memlet.name noted
  one_noted s noted = tt

  pub noted_more : (body : Block) → AreNoted wholes body → AreNoted more body
  noted_more no_statement noted = tt
  noted_more (and_statement first rest) noted = (one_noted first noted.0, noted_more rest noted.1)

  one_input : (s : StatementTree) (known : Named ℕ) → IsNoted wholes s → input_with more s known ≡ input_with wholes s known
  one_input (input line connector memlet) known noted = ap (λ count. (connector, count) ∷ known) (dimensions_same memlet.dimensions memlet.name noted)
  one_input s known noted = refl

  pub inputs_more : (body : Block) (known : Named ℕ) → AreNoted wholes body → inputs_with more body known ≡ inputs_with wholes body known
  inputs_more no_statement known noted = refl
  inputs_more (and_statement first rest) known noted = ap (inputs_with more rest) (one_input first known noted.0) ∙ inputs_more rest (input_with wholes first known) noted.1

  one_output : (s : StatementTree) (known : Named ℕ) → IsNoted wholes s → output_with more s known ≡ output_with wholes s known
  one_output (output line connector memlet) known noted = ap (λ count. (connector, count) ∷ known) (dimensions_same memlet.dimensions memlet.name noted)
  one_output s known noted = refl

  pub outputs_more : (body : Block) (known : Named ℕ) → AreNoted wholes body → outputs_with more body known ≡ outputs_with wholes body known
  outputs_more no_statement known noted = refl
  outputs_more (and_statement first rest) known noted = ap (outputs_with more rest) (one_output first known noted.0) ∙ outputs_more rest (output_with wholes first known) noted.1

  array_more : (name : Name) (extents : List Expression) → IsArray wholes name extents → IsArray more name extents
  array_more name extents is = (is.0, (has name is.0 is.1.0, is.1.1))

  task_more : (elements : Named ℕ) (body : Block) → IsTask wholes elements body → IsTask more elements body
  task_more elements body task = (
    noted_more body task.0,
    subst (λ ins. AreCounted ins (outputs_with more body []) body) (sym (inputs_more body elements task.0))
        (subst (λ outs. AreCounted (inputs_with wholes body elements) outs body) (sym (outputs_more body [] task.0)) task.1),
  )

  pub counts_more : (s : StatementTree) → Counts wholes s → Counts more s
  counts_more (argument_array line name bits extents) counts = array_more name _ counts
  counts_more (local_array line name extents bits) counts = array_more name _ counts
  counts_more (local_stream line name bits size) counts = has name 0 counts
  counts_more (tasklet line body) counts = task_more [] body counts
  counts_more (consume_scope line stream size name element worker body) counts = (λ is. task_more ((element, 0) ∷ []) body (counts.0 is), λ none. has element 0 (counts.1 none))
  counts_more s counts = tt
