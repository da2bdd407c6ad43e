-- Steps through the points of a row.
use Rattle.std.proofs.Common.{◌≡◌, ℕ, suc, ◌+◌, ◌-◌, ◌<◌, ◌≤◌, List, [], ◌∷◌, drop, Option, Ok, refl, sym, ap, ◌∙◌, arith, subst}
use Rattle.sd_work.specs.Memory.{Memories}
use Rattle.sd_work.specs.Residual.{Terms, none, also}
use Rattle.sd_work.specs.Step.{Done}
use Rattle.sd_work.specs.BigStep.{Reached, Coming, and_then, big_step, big_parts}
use Rattle.sd_graph.specs.PlainTree.{TaskletTree, task, no_item, and_item}
use Rattle.sd_work.specs.declared.fault.FaultKind.{FaultKind}
use Rattle.sd_graph.specs.ContainerParts.{Containers}
use Rattle.sd_graph.specs.Wiring.{has_number}
use Rattle.sd_graph.specs.Context.{Context, place_at, memory_from, private_memory}
use Rattle.sd_graph.specs.Unfold.{unfold_kind}
use Rattle.sd_graph.specs.declared.link.Link.{Link}
use Rattle.sd_graph.specs.declared.place.Place.{Place}
use Rattle.sd_mem.specs.machine.ComesTo.{ComesTo, outcome_of, IsEnd}
use Rattle.sd_mem.specs.machine.Coming.{kind_coming, items_coming}
use Rattle.sd_mem.specs.declared.machine.end.End.{End}
use Rattle.sd_mem.specs.declared.machine.end.End.TheVariants.{Finished, Fault, OutOfTurns}
use Rattle.sd_leaves.specs.leaves.Done.{IsDone, outcome_at, instance_work}
use Rattle.sd_leaves.proofs.leaves_lemmas.Ends.{no_turn, turn_then}
use Rattle.sd_row.specs.row.Point.{IsBare, IsOver, below}
use Rattle.sd_row.specs.row.Setting.{Setting, body_of, term_of, terms_from, row_coming}
use Rattle.sd_row.proofs.row_lemmas.Comes.{IsLeft, comes-then, comes-stop, left_more, left_stop, owned_ends}

-- ---- one item as a list

one_comes : (coming : Coming Place) (rest : Memories → ℕ → Coming Place) (end : End) (after : Reached) → ComesTo (rest after.memories after.turns) (Done after) →
    ComesTo coming (outcome_of end after) → ComesTo (and_then coming rest) (outcome_of end after)
one_comes coming rest Finished after ends is = comes-then coming after rest (Done after) is ends
one_comes coming rest (Fault place kind) after ends is = comes-stop coming rest (outcome_of (Fault place kind) after) tt is
one_comes coming rest OutOfTurns after ends is = comes-stop coming rest (outcome_of OutOfTurns after) tt is

-- the one item of a body
pub one_item : (line : ℕ) (tree : TaskletTree) (ins outs : List Link) (inside : Context) (before after : Reached) (end : End) →
    IsEnd (kind_coming (task tree ins outs) line inside before) before end after → IsEnd (items_coming (and_item line (task tree ins outs) no_item) inside before) before end after
one_item line tree ins outs inside before after end ends = record {
  comes = λ most. one_comes (big_step (unfold_kind (task tree ins outs) line inside) most before.memories before.turns) (big_parts none most) end after refl (ends.comes most);
  depth = ends.depth;
  turns = ends.turns;
}

-- ---- one point

module _ (setting : Setting) where
  -- a point comes to what its instance does inside the memory that the point begins with
  pub point_ends : (k : ℕ) (before after : Reached) (end : End) → IsOver setting.own before →
      IsEnd (kind_coming (task setting.tree setting.ins setting.outs) setting.line (setting.context k) before) before end after →
      IsEnd (λ most. big_step (term_of setting k) most (below before).memories (below before).turns) (below before) end (below after)
  point_ends k before after end over ends =
      owned_ends (items_coming (body_of setting) (setting.context k)) setting.own (below before) before after (below after) end over refl
      (one_item setting.line setting.tree setting.ins setting.outs (setting.context k) before after end ends) refl refl

  -- the points from one on are this point and those behind it
  pub row_opened : (k count : ℕ) → k < count → terms_from (term_of setting) k (count - k) ≡ also (term_of setting k) (terms_from (term_of setting) (k + 1) (count - (k + 1)))
  row_opened k count within =
      let more : count - k ≡ suc (count - (k + 1)) = omega (arith, within) in
      let next : suc k ≡ k + 1 = omega arith in
      ap (terms_from (term_of setting) k) more ∙ ap (λ first. also (term_of setting k) (terms_from (term_of setting) first (count - (k + 1)))) next

  module _ (whole : ℕ → Coming Place) (before middle now : Reached) (k count : ℕ) (within : k < count)
      (left : IsLeft whole before (λ most beside. row_coming setting k (count - k) middle most) middle) where
    opened : IsLeft whole before (λ most beside. big_parts (also (term_of setting k) (terms_from (term_of setting) (k + 1) (count - (k + 1)))) most middle.memories middle.turns) middle
    opened = subst (λ (terms : Terms Place). IsLeft whole before (λ most beside. big_parts terms most middle.memories middle.turns) middle) (row_opened k count within) left

    -- the point is done
    pub point_more : IsEnd (λ most. big_step (term_of setting k) most middle.memories middle.turns) middle Finished now →
        IsLeft whole before (λ most beside. row_coming setting (k + 1) (count - (k + 1)) now most) now
    point_more ends = left_more whole before middle now (term_of setting k) (terms_from (term_of setting) (k + 1) (count - (k + 1))) opened ends

    -- the point stops the row
    pub point_stop : (end : End) → IsEnd (λ most. big_step (term_of setting k) most middle.memories middle.turns) middle end now → ((end ≡ Finished) → ⊥) → IsEnd whole before end now
    point_stop end ends stop = left_stop whole before middle now (term_of setting k) (terms_from (term_of setting) (k + 1) (count - (k + 1))) end opened ends stop

  -- before the first point all is left
  pub row_begins : (count : ℕ) (before : Reached) → IsLeft (row_coming setting 0 count before) before (λ most beside. row_coming setting 0 (count - 0) before most) before
  row_begins count before =
      let all : count - 0 ≡ count = omega arith in
      record {
        comes = λ most outcome after. subst (λ count. ComesTo (row_coming setting 0 count before most) outcome) all (after 0);
        depth = refl;
        turns = omega arith;
      }

  -- no point is left
  pub row_ends : (whole : ℕ → Coming Place) (before now : Reached) (k count : ℕ) → count ≤ k → IsLeft whole before (λ most beside. row_coming setting k (count - k) now most) now →
      IsEnd whole before Finished now
  row_ends whole before now k count over left =
      let none : count - k ≡ 0 = omega (arith, over) in
      record {
        comes = λ most. left.comes most (Done now) (λ beside. subst (λ (terms : Terms Place). ComesTo (big_parts terms most now.memories now.turns) (Done now)) (sym (ap (terms_from (term_of setting) k) none)) refl);
        depth = left.depth;
        turns = left.turns;
      }

  -- a point whose turn is spent
  pub point_comes : (k : ℕ) (before paid after : Reached) (fault : Option FaultKind) (end : End) → paid.memories ≡ before.memories → before.turns ≡ suc paid.turns →
      IsDone (instance_work (setting.context k) setting.tree setting.ins setting.outs) paid fault after → ((now : Reached) → outcome_of end now ≡ outcome_at (place_at (setting.context k) setting.line) fault now) →
      IsOver setting.own before → IsEnd (λ most. big_step (term_of setting k) most (below before).memories (below before).turns) (below before) end (below after)
  point_comes k before paid after fault end same turn done told over =
      point_ends k before after end over (turn_then setting.tree setting.ins setting.outs setting.line (setting.context k) before paid after fault (Ok end) same turn done told)

  -- a point for which no turn is left
  pub point_without_turn : (k : ℕ) (before after : Reached) → after.memories ≡ before.memories → before.turns ≡ 0 → after.turns ≡ 0 →
      IsOver setting.own before → IsEnd (λ most. big_step (term_of setting k) most (below before).memories (below before).turns) (below before) OutOfTurns (below after)
  point_without_turn k before after same none_before none_after over =
      point_ends k before after OutOfTurns over (no_turn setting.tree setting.ins setting.outs setting.line (setting.context k) before after same none_before none_after)

  -- a row inside the memory of its points
  pub row_entered : (count : ℕ) (old entered after now : Reached) (end : End) → entered.memories ≡ setting.own ∷ old.memories → entered.turns ≡ old.turns → now.memories ≡ drop 1 after.memories → now.turns ≡ after.turns →
      IsEnd (row_coming setting 0 count (below entered)) (below entered) end (below after) → IsEnd (row_coming setting 0 count old) old end now
  row_entered count old entered after now end same turns dropped kept ends =
      let before : below entered ≡ old = (λ i. record { memories = ap (drop 1) same i; turns = turns i }) in
      let behind : below after ≡ now = (λ i. record { memories = sym dropped i; turns = sym kept i }) in
      subst (λ (now : Reached). IsEnd (row_coming setting 0 count old) old end now) behind (subst (λ (old : Reached). IsEnd (row_coming setting 0 count old) old end (below after)) before ends)

  pub over_entered : (old entered : Reached) → entered.memories ≡ setting.own ∷ old.memories → IsOver setting.own entered
  over_entered old entered same = same ∙ ap (λ (memories : Memories). setting.own ∷ memories) (sym (ap (drop 1) same))

-- without private containers a point begins with a memory that holds nothing
bare_from : (number : ℕ) (containers : Containers) → IsBare (memory_from (λ number kind. has_number [] number) number containers)
bare_from number [] = tt
bare_from number (entry ∷ containers) = (refl, bare_from (suc number) containers)

pub bare_private : (containers : Containers) (private : List ℕ) → private ≡ [] → IsBare (private_memory containers private)
bare_private containers private is = subst (λ private. IsBare (private_memory containers private)) (sym is) (bare_from 0 containers)
