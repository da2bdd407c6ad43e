-- What the end of a leaf says of what it comes to.
use Rattle.std.proofs.Common.{◌≡◌, ℕ, suc, List, [], Option, Result, Ok, Err, IfOk, true, false, refl, sym, ap, ◌∙◌, subst, arith, length}
use Rattle.sd_list.specs.declared.list.memory.NoMemory.{NoMemory}
use Rattle.std.specs.List.{flat_map}
use Rattle.sd_work.specs.declared.fault.FaultKind.{FaultKind}
use Rattle.sd_work.specs.Memory.{Memories}
use Rattle.sd_work.specs.Step.{Spent}
use Rattle.sd_work.specs.BigStep.{Reached, Coming, spending, big_reading}
use Rattle.sd_graph.specs.PlainTree.{TaskletTree, task}
use Rattle.sd_graph.specs.Context.{Context, link_elements, place_at}
use Rattle.sd_graph.specs.declared.link.Link.{Link}
use Rattle.sd_graph.specs.declared.place.Place.{Place}
use Rattle.sd_mem.specs.machine.ComesTo.{ComesTo, outcome_of, IsEnd}
use Rattle.sd_mem.specs.machine.Coming.{kind_coming}
use Rattle.sd_mem.specs.declared.machine.end.End.{End}
use Rattle.sd_mem.specs.declared.machine.end.End.TheVariants.{OutOfTurns}
use Rattle.sd_leaves.specs.leaves.Done.{IsDone, outcome_at, evaluation_of, instance_work}
use Rattle.sd_leaves.proofs.leaves_lemmas.Instances.{turn_first}

-- work that comes to this at a place, and the end that tells it
pub ended : (work : Place → Memories → (turns : ℕ) → Coming Place) (place : Place) (before after : Reached) (fault : Option FaultKind) (end : End) →
    IsDone work before fault after → outcome_of end after ≡ outcome_at place fault after → IsEnd (λ most. work place before.memories before.turns) before end after
ended work place before after fault end done told = record {
  comes = λ most. subst (λ (coming : Coming Place). ComesTo coming (outcome_of end after)) (sym (done.comes place)) (sym told);
  depth = done.depth;
  turns = done.turns;
}

-- the same of an answer that may want memory
pub ended_by : (work : Place → Memories → (turns : ℕ) → Coming Place) (place : Place) (before after : Reached) (fault : Option FaultKind) (answer : Result End NoMemory) →
    IsDone work before fault after → IfOk answer (λ end. (now : Reached) → outcome_of end now ≡ outcome_at place fault now) →
    IfOk answer (λ end. IsEnd (λ most. work place before.memories before.turns) before end after)
ended_by work place before after fault (Ok end) done told = ended work place before after fault end done (told after)
ended_by work place before after fault (Err want) done told = tt

module _ (code : TaskletTree) (ins outs : List Link) (line : ℕ) (context : Context) (before : Reached) where
  -- an instance for which no turn is left
  pub no_turn : (after : Reached) → after.memories ≡ before.memories → before.turns ≡ 0 → after.turns ≡ 0 → IsEnd (kind_coming (task code ins outs) line context before) before OutOfTurns after
  no_turn after same none_before none_after = record {
    comes = λ most. subst (λ (coming : Coming Place). ComesTo coming Spent) (sym (turn_first (place_at context line) (flat_map (link_elements context) ins) [] (evaluation_of context code ins outs) before.memories before.turns
        ∙ ap (λ turns. spending true turns (big_reading (place_at context line) false (flat_map (link_elements context) ins) [] (evaluation_of context code ins outs) before.memories)) none_before)) refl;
    depth = ap length same;
    turns = omega arith;
  }

  -- an instance whose turn is spent
  with_turn : (paid after : Reached) (fault : Option FaultKind) (end : End) → paid.memories ≡ before.memories → before.turns ≡ suc paid.turns →
      IsDone (instance_work context code ins outs) paid fault after → outcome_of end after ≡ outcome_at (place_at context line) fault after →
      IsEnd (kind_coming (task code ins outs) line context before) before end after
  with_turn paid after fault end same turn done told = record {
    comes = λ most. subst (λ (coming : Coming Place). ComesTo coming (outcome_of end after)) (sym (turn_first (place_at context line) (flat_map (link_elements context) ins) [] (evaluation_of context code ins outs) before.memories before.turns
        ∙ ap (λ turns. spending true turns (big_reading (place_at context line) false (flat_map (link_elements context) ins) [] (evaluation_of context code ins outs) before.memories)) turn
        ∙ ap (λ memories. instance_work context code ins outs (place_at context line) memories paid.turns) (sym same) ∙ done.comes (place_at context line))) (sym told);
    depth = done.depth ∙ ap length same;
    turns = omega arith;
  }

  -- the same of an answer that may want memory
  pub turn_then : (paid after : Reached) (fault : Option FaultKind) (answer : Result End NoMemory) → paid.memories ≡ before.memories → before.turns ≡ suc paid.turns →
      IsDone (instance_work context code ins outs) paid fault after → IfOk answer (λ end. (now : Reached) → outcome_of end now ≡ outcome_at (place_at context line) fault now) →
      IfOk answer (λ end. IsEnd (kind_coming (task code ins outs) line context before) before end after)
  turn_then paid after fault (Ok end) same turn done told = with_turn paid after fault end same turn done (told after)
  turn_then paid after fault (Err want) same turn done told = tt
