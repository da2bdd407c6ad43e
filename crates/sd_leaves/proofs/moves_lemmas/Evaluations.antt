-- What an instance makes of the values that it has read.
use Rattle.std.proofs.Common.{◌≡◌, ℤ, List, map, Ok, Err, sym, ap, ◌∙◌}
use Rattle.std.proofs.lemmas.Simd.{map-map}
use Rattle.sd_range.specs.Points.{product}
use Rattle.sd_work.specs.declared.fault.FaultKind.{FaultKind}
use Rattle.sd_graph.specs.PlainTree.{TaskletTree}
use Rattle.sd_graph.specs.TaskletMeaning.{Inputs, Effect, Meaning, and_then, meaning_of}
use Rattle.sd_graph.specs.Context.{Context, link_extents}
use Rattle.sd_graph.specs.Unfold.{cut, meaning_at, pending_of}
use Rattle.sd_graph.specs.declared.link.Link.{Link}
use Rattle.sd_tasklet.specs.tasklet.Kept.{told as told_effect}
use Rattle.sd_tasklet.specs.declared.tasklet.effect.Effect as kept
use Rattle.sd_leaves.specs.leaves.Done.{evaluation_of}
use Rattle.sd_leaves.specs.leaves.Given.{given_at, pending_told}
use Rattle.sd_leaves.specs.declared.moves.todo.Todo.{Todo}
use Rattle.sd_leaves.specs.moves.Left.{all_told}

module _ (context : Context) (code : TaskletTree) (ins outs : List Link) (values : List ℤ) (read : List (List ℤ)) (inputs : Inputs)
    (cuts : read ≡ cut (map (λ link. product (link_extents context link)) ins) values) where
  at_values : (answer : Meaning (List Effect)) → meaning_of code (given_at context code ins outs read) ≡ answer → meaning_at context code ins outs values ≡ answer
  at_values answer means = ap (λ read. meaning_of code (given_at context code ins outs read)) (sym cuts) ∙ means

  -- the effects that it performs
  pub effects-told : (effects : List kept.Effect) (todos : List Todo) → meaning_of code (given_at context code ins outs read) ≡ Ok (map (told_effect inputs) effects) → all_told todos ≡ map (pending_told context inputs ins outs) effects
      → evaluation_of context code ins outs values ≡ Ok (all_told todos)
  effects-told effects todos means same =
      ap (λ answer. and_then answer (λ effects. Ok (map (pending_of context ins outs) effects))) (at_values (Ok (map (told_effect inputs) effects)) means)
      ∙ ap Ok (map-map (pending_of context ins outs) (told_effect inputs) effects ∙ sym same)

  -- its fault
  pub fault-told : (kind : FaultKind) → meaning_of code (given_at context code ins outs read) ≡ Err kind → evaluation_of context code ins outs values ≡ Err kind
  fault-told kind means = ap (λ answer. and_then answer (λ effects. Ok (map (pending_of context ins outs) effects))) (at_values (Err kind) means)
