-- Many points of a row come to what they come to one after another.
use Rattle.std.proofs.Common.{◌≡◌, ℕ, zero, suc, ◌+◌, ◌-◌, ◌<◌, ◌≤◌, ℤ, [], ◌∷◌, map, replicate, Some, None, Ok, refl, sym, ap, ◌∙◌, subst, arith}
use Rattle.sd_work.specs.Memory.{Memories}
use Rattle.sd_work.specs.Step.{Done, Faulted, Spent}
use Rattle.sd_work.specs.BigStep.{Reached, Coming, and_then, big_step, big_parts}
use Rattle.sd_graph.specs.TaskletMeaning.{Inputs, meaning_of}
use Rattle.sd_graph.specs.declared.place.Place.{Place}
use Rattle.sd_tcode.specs.tcode.Compiled.{Compiled}
use Rattle.sd_tcode.specs.tcode.Outputs.{output_effects}
use Rattle.sd_mem.specs.machine.ComesTo.{ComesTo, outcome_of, IsEnd}
use Rattle.sd_mem.specs.declared.machine.end.End.{End}
use Rattle.sd_mem.specs.declared.machine.end.End.TheVariants.{Finished}
use Rattle.sd_tcode.specs.columns.Columns.{value_on}
use Rattle.sd_row.specs.declared.row.row.Row.{Row}
use Rattle.sd_row.specs.declared.row.row_run.RowEnd.{RowEnd}
use Rattle.sd_row.specs.declared.row.row_run.RowEnd.TheVariants as rows
use Rattle.sd_row.specs.row.Row.{order_of}
use Rattle.sd_row.specs.row.Point.{seen_on, IsOver, below}
use Rattle.sd_row.specs.row.Setting.{Setting, IsSetting, term_of, terms_from, row_coming, end_of_row}
use Rattle.sd_row.specs.row.Block.{AreApart, after_points}
use Rattle.sd_row.proofs.row_lemmas.Comes.{IsLeft, comes-then, comes-stop, stops}
use Rattle.sd_row.proofs.row_lemmas.Instances.{given_here, point_writes}
use Rattle.sd_row.proofs.row_lemmas.RowSteps.{row_ends, point_comes, point_more}
use Rattle.sd_row.proofs.row_lemmas.Blocks.{all_seen, point_done, over_points}

-- what a run is given, and what its code means with that
pub record IsMeant (setting : Setting) (row : Row) (compiled : Compiled) (memories : Memories) (k : ℕ) (value : ℕ → ℤ) : Type 0 where
  pub inputs : Inputs
  pub values : inputs.values ≡ map (λ track. seen_on k memories track ∷ []) row.reads.items
  pub variables : inputs.variables ≡ map (λ numbers. value_on numbers k) row.variables.items
  pub extents : inputs.extents ≡ replicate compiled.layout.connectors []
  pub goes : meaning_of setting.tree inputs ≡ Ok (output_effects value (order_of row))

module _ (setting : Setting) (row : Row) (compiled : Compiled) (until from count : ℕ) (is : IsSetting row compiled until setting) (value : (run connector : ℕ) → ℤ) (apart : AreApart row) (all : from + count ≡ until)
    (memories : Memories) (turns : ℕ) (over : IsOver setting.own (record { memories = memories; turns = turns }))
    (meant : (run : ℕ) → run < count → IsMeant setting row compiled memories (from + run) (value run)) where
  -- where so many points have been done
  abbrev at : ℕ → Reached
  at run = record { memories = after_points value row.writes.items from run memories; turns = turns + (count - run) }

  over_at : (run : ℕ) → IsOver setting.own (at run)
  over_at run = over_points setting.own value row.writes.items from run memories turns is.bare over

  point_at : (run : ℕ) → run < count → IsEnd (λ most. big_step (term_of setting (from + run)) most (below (at run)).memories (below (at run)).turns) (below (at run)) Finished (below (at (suc run)))
  point_at run within =
      let k = from + run in
      let here = meant run within in
      let inputs = here.inputs in
      let now : Reached = record { memories = after_points value row.writes.items from run memories; turns = turns + (count - suc run) } in
      let below_until : k < until = omega (arith, within, all) in
      let values : inputs.values ≡ map (λ track. seen_on k now.memories track ∷ []) row.reads.items = here.values ∙ sym (all_seen value row.writes.items from run k row.reads.items memories apart) in
      let same = given_here setting.tree setting.ins setting.outs row k (setting.context k) (is.at k below_until) now.memories inputs compiled.layout.connectors is.connectors values here.variables here.extents in
      point_comes setting k (at run) now (at (suc run)) None Finished refl (omega (arith, within))
      (point_writes setting.tree setting.ins setting.outs row k (setting.context k) (is.at k below_until) now inputs same (value run) (at (suc run)) here.goes (point_done (value run) k row.writes.items now.memories now.turns))
      (λ now. refl) (over_at run)

  abbrev whole : (most : ℕ) → Coming Place
  whole most = row_coming setting from (until - from) (below (at 0)) most

  left_at : (run : ℕ) → run ≤ count → IsLeft whole (below (at 0)) (λ most beside. row_coming setting (from + run) (until - (from + run)) (below (at run)) most) (below (at run))
  left_at zero within =
      let same : from + 0 ≡ from = omega arith in
      record {
        comes = λ most outcome after. subst (λ first. ComesTo (row_coming setting first (until - first) (below (at 0)) most) outcome) same (after 0);
        depth = refl;
        turns = omega arith;
      }
  left_at (suc run) within =
      let next : (from + run) + 1 ≡ from + suc run = omega arith in
      subst (λ first. IsLeft whole (below (at 0)) (λ most beside. row_coming setting first (until - first) (below (at (suc run))) most) (below (at (suc run)))) next
      (point_more setting whole (below (at 0)) (below (at run)) (below (at (suc run))) (from + run) until (omega (arith, within, all)) (left_at run (omega (arith, within))) (point_at run (omega (arith, within))))

  ended : IsEnd whole (below (at 0)) Finished (below (at count))
  ended = row_ends setting whole (below (at 0)) (below (at count)) (from + count) until (omega (arith, all)) (left_at count (omega arith))

  -- all points are done
  pub block_ends : (old new : Reached) → old.memories ≡ memories → new.memories ≡ after_points value row.writes.items from count memories → old.turns ≡ turns + count → new.turns ≡ turns →
      IsEnd (row_coming setting from (until - from) (below old)) (below old) Finished (below new)
  block_ends old new same_old same_new more kept =
      let first_turns : turns + (count - 0) ≡ old.turns = omega (arith, more) in
      let last_turns : turns + (count - count) ≡ new.turns = omega (arith, kept) in
      let first : at 0 ≡ old = λ i. record { memories = sym same_old i; turns = first_turns i } in
      let last : at count ≡ new = λ i. record { memories = sym same_new i; turns = last_turns i } in
      subst (λ (n : Reached). IsEnd (row_coming setting from (until - from) (below old)) (below old) Finished (below n)) last
      (subst (λ (o : Reached). IsEnd (row_coming setting from (until - from) (below o)) (below o) Finished (below (at count))) first ended)

-- ---- points, and then the others

behind : (coming : Coming Place) (all first : Memories → ℕ → Coming Place) (rest : Memories → ℕ → Coming Place) →
    ((memories : Memories) (turns : ℕ) → all memories turns ≡ and_then (first memories turns) rest) → and_then coming all ≡ and_then (and_then coming first) rest
behind (Some (Done now)) all first rest same = same now.memories now.turns
behind (Some (Faulted fault)) all first rest same = refl
behind (Some Spent) all first rest same = refl
behind None all first rest same = refl

module _ (setting : Setting) where
  -- before the first of these points all of them are left
  pub points_begin : (from until : ℕ) (before : Reached) → IsLeft (row_coming setting from (until - from) before) before (λ most beside. row_coming setting from (until - from) before most) before
  points_begin from until before = record {
    comes = λ most outcome after. after 0;
    depth = refl;
    turns = omega arith;
  }

  points_then : (from first rest : ℕ) (most : ℕ) (memories : Memories) (turns : ℕ) →
      big_parts (terms_from (term_of setting) from (first + rest)) most memories turns
      ≡ and_then (big_parts (terms_from (term_of setting) from first) most memories turns) (big_parts (terms_from (term_of setting) (from + first) rest) most)
  points_then from zero rest most memories turns =
      let none : 0 + rest ≡ rest = omega arith in
      let same : from + 0 ≡ from = omega arith in
      ap (λ count. big_parts (terms_from (term_of setting) from count) most memories turns) none
      ∙ ap (λ start. big_parts (terms_from (term_of setting) start rest) most memories turns) (sym same)
  points_then from (suc first) rest most memories turns =
      let more : suc first + rest ≡ suc (first + rest) = omega arith in
      let next : suc from + first ≡ from + suc first = omega arith in
      ap (λ count. big_parts (terms_from (term_of setting) from count) most memories turns) more
      ∙ behind (big_step (term_of setting from) most memories turns) (big_parts (terms_from (term_of setting) (suc from) (first + rest)) most) (big_parts (terms_from (term_of setting) (suc from) first) most)
      (big_parts (terms_from (term_of setting) (suc from + first) rest) most) (points_then (suc from) first rest most)
      ∙ ap (λ start. and_then (big_parts (terms_from (term_of setting) from (suc first)) most memories turns) (big_parts (terms_from (term_of setting) start rest) most)) next

  module _ (whole : ℕ → Coming Place) (before middle now : Reached) (from until count : ℕ) (order : from ≤ until) (within : until ≤ count)
      (left : IsLeft whole before (λ most beside. row_coming setting from (count - from) middle most) middle) where
    row_then : (most : ℕ) → row_coming setting from (count - from) middle most ≡ and_then (row_coming setting from (until - from) middle most) (big_parts (terms_from (term_of setting) until (count - until)) most)
    row_then most =
        let parts : count - from ≡ (until - from) + (count - until) = omega (arith, order, within) in
        let start : from + (until - from) ≡ until = omega (arith, order) in
        ap (λ many. big_parts (terms_from (term_of setting) from many) most middle.memories middle.turns) parts
        ∙ points_then from (until - from) (count - until) most middle.memories middle.turns
        ∙ ap (λ start. and_then (row_coming setting from (until - from) middle most) (big_parts (terms_from (term_of setting) start (count - until)) most)) start

    -- points from one on and below another one are done
    pub block_more : IsEnd (row_coming setting from (until - from) middle) middle Finished now → IsLeft whole before (λ most beside. row_coming setting until (count - until) now most) now
    block_more ends = record {
      comes = λ most outcome after. left.comes most outcome (λ beside. subst (λ (coming : Coming Place). ComesTo coming outcome) (sym (row_then most))
          (comes-then (row_coming setting from (until - from) middle most) now (big_parts (terms_from (term_of setting) until (count - until)) most) outcome (ends.comes most) (after beside)));
      depth = ends.depth ∙ left.depth;
      turns = omega (arith, ends.turns, left.turns);
    }

    -- they stop the row
    pub block_stop : (end : End) → IsEnd (row_coming setting from (until - from) middle) middle end now → ((end ≡ Finished) → ⊥) → IsEnd whole before end now
    block_stop end ends stop = record {
      comes = λ most. left.comes most (outcome_of end now) (λ beside. subst (λ (coming : Coming Place). ComesTo coming (outcome_of end now)) (sym (row_then most))
          (comes-stop (row_coming setting from (until - from) middle most) (big_parts (terms_from (term_of setting) until (count - until)) most) (outcome_of end now) (stops end now stop) (ends.comes most)));
      depth = ends.depth ∙ left.depth;
      turns = omega (arith, ends.turns, left.turns);
    }

  -- an end of the row that is none of points that are done
  pub row_stops : (end : RowEnd) → ((end ≡ rows.Finished) → ⊥) → (end_of_row setting end ≡ Finished) → ⊥
  row_stops rows.Finished stop = λ same. stop refl
  row_stops (rows.Fault k kind) stop = λ same. cc
  row_stops rows.OutOfTurns stop = λ same. cc

  -- a row up to one of its points
  pub until_there : (row : Row) (compiled : Compiled) (count until : ℕ) → until ≤ count → IsSetting row compiled count setting → IsSetting row compiled until setting
  until_there row compiled count until within is = record {
    code = is.code;
    connectors = is.connectors;
    at = λ k below. is.at k (omega (arith, below, within));
    bare = is.bare;
  }
