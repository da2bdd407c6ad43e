-- A run of a nested graph, inside its memory.
use Rattle.std.proofs.Common.{◌≡◌, ℕ, List, ◌∷◌, refl, sym, subst, ap, ◌∙◌, drop}
use Rattle.sd_work.specs.Memory.{Memory, Memories}
use Rattle.sd_work.specs.BigStep.{Reached, Coming, leaving, big_step}
use Rattle.sd_graph.specs.declared.place.Place.{Place}
use Rattle.sd_graph.specs.declared.place.Frame.{Frame}
use Rattle.sd_graph.specs.declared.link.Link.{Link}
use Rattle.sd_graph.specs.PlainTree.{nested_graph, GraphTree, graph}
use Rattle.sd_graph.specs.TreeParts.{containers_of}
use Rattle.sd_graph.specs.Context.{Reach, Context, frames_at}
use Rattle.sd_graph.specs.Unfold.{unfold_graph, reach_inside, run_memory}
use Rattle.sd_mem.specs.machine.ComesTo.{ComesTo, outcome_of, IsEnd}
use Rattle.sd_mem.specs.machine.Coming.{kind_coming, graph_coming}
use Rattle.sd_mem.specs.declared.machine.end.End.{End}
use Rattle.sd_row.proofs.row_lemmas.Comes.{owned_ends}

nested_is : (inner : GraphTree) (reach : ℕ → Reach) (own : Memory) (around : List Frame) (most : ℕ) (memories : Memories) (turns : ℕ) →
    big_step (unfold_graph inner reach own around) most memories turns ≡ leaving (graph_coming inner reach around (record { memories = own ∷ memories; turns = turns }) most)
nested_is (graph name containers arguments variables symbols states) reach own around most memories turns = refl

pub nested_ends : (inner : GraphTree) (links : List Link) (line : ℕ) (context : Context) (reach : ℕ → Reach) (around : List Frame) (own : Memory) (middle entered after now : Reached) (end : End) →
    reach ≡ reach_inside context links (containers_of inner) → around ≡ frames_at context line → own ≡ run_memory (containers_of inner) →
    entered.memories ≡ own ∷ middle.memories → entered.turns ≡ middle.turns →
    IsEnd (graph_coming inner reach around entered) entered end after →
    now.memories ≡ drop 1 after.memories → now.turns ≡ after.turns →
    IsEnd (kind_coming (nested_graph inner links) line context middle) middle end now
nested_ends inner links line context reach around own middle entered after now end same_reach same_around same_own same_memories same_turns ends dropped kept =
    let owned : IsEnd (λ most. leaving (graph_coming inner (reach_inside context links (containers_of inner)) (frames_at context line) (record { memories = run_memory (containers_of inner) ∷ middle.memories; turns = middle.turns }) most)) middle end now =
    owned_ends (graph_coming inner (reach_inside context links (containers_of inner)) (frames_at context line)) (run_memory (containers_of inner)) middle entered after now end
    (same_memories ∙ ap (λ (own : Memory). own ∷ middle.memories) same_own) same_turns
    (subst (λ (r : ℕ → Reach). IsEnd (graph_coming inner r (frames_at context line) entered) entered end after) same_reach
    (subst (λ (f : List Frame). IsEnd (graph_coming inner reach f entered) entered end after) same_around ends))
    dropped kept in
    record {
      comes = λ most. subst (λ (coming : Coming Place). ComesTo coming (outcome_of end now))
          (sym (nested_is inner (reach_inside context links (containers_of inner)) (run_memory (containers_of inner)) (frames_at context line) most middle.memories middle.turns)) (owned.comes most);
      depth = owned.depth;
      turns = owned.turns;
    }
