-- The points of a map come in rows.
use Rattle.std.proofs.Common.{◌≡◌, ℕ, zero, suc, ℤ, List, [], ◌∷◌, ◌++◌, map, Some, None, refl, sym, ap, ◌∙◌, arith, subst}
use Rattle.std.specs.List.{flat_map}
use Rattle.sd_range.specs.declared.range.Range.{Range}
use Rattle.sd_range.specs.Range.{counted_from}
use Rattle.sd_range.specs.Points.{Walk, opening, points, ranges_of}
use Rattle.sd_work.specs.Memory.{Memories}
use Rattle.sd_work.specs.Residual.{Term, Terms, also}
use Rattle.sd_work.specs.Step.{Done, Faulted, Spent}
use Rattle.sd_work.specs.BigStep.{Reached, Coming, and_then, big_step, big_parts}
use Rattle.sd_graph.specs.PlainTree.{TaskletTree, task, no_item, and_item}
use Rattle.sd_graph.specs.Context.{Context}
use Rattle.sd_graph.specs.Unfold.{point_terms}
use Rattle.sd_graph.specs.declared.link.Link.{Link}
use Rattle.sd_graph.specs.declared.place.Place.{Place}
use Rattle.sd_mem.specs.machine.ComesTo.{ComesTo, outcome_of, IsEnd}
use Rattle.sd_mem.specs.machine.Coming.{map_coming, point_term}
use Rattle.sd_mem.specs.declared.machine.end.End.{End}
use Rattle.sd_mem.specs.declared.machine.end.End.TheVariants.{Finished}
use Rattle.sd_scope.proofs.even_lemmas.Distances.{spaced_first, spaced_step}
use Rattle.sd_scope.proofs.even_lemmas.LastParameter.{params_in_rows}
use Rattle.sd_rows.specs.declared.rows.steps.Steps.{Steps}
use Rattle.sd_rows.specs.rows.Along.{step_to, row_of, IsLast}
use Rattle.sd_row.specs.row.Setting.{Setting, term_of, terms_from, row_coming}
use Rattle.sd_row.proofs.row_lemmas.Comes.{IsLeft, comes-then, comes-stop, stops}

-- ---- points one after another

behind : (coming : Coming Place) (all first : Memories → ℕ → Coming Place) (rest : Memories → ℕ → Coming Place) →
    ((memories : Memories) (turns : ℕ) → all memories turns ≡ and_then (first memories turns) rest) → and_then coming all ≡ and_then (and_then coming first) rest
behind (Some (Done now)) all first rest same = same now.memories now.turns
behind (Some (Faulted fault)) all first rest same = refl
behind (Some Spent) all first rest same = refl
behind None all first rest same = refl

-- these points, and then the others
points_then : (term : List ℤ → Term Place) (first rest : List (List ℤ)) (most : ℕ) (memories : Memories) (turns : ℕ) →
    big_parts (point_terms term (first ++ rest)) most memories turns ≡ and_then (big_parts (point_terms term first) most memories turns) (big_parts (point_terms term rest) most)
points_then term [] rest most memories turns = refl
points_then term (point ∷ first) rest most memories turns =
    behind (big_step (term point) most memories turns) (big_parts (point_terms term (first ++ rest)) most) (big_parts (point_terms term first) most) (big_parts (point_terms term rest) most)
    (points_then term first rest most)

-- the points of a row
abbrev pub row_points : Steps → (row : List ℤ) → List (List ℤ)
row_points steps row = map (λ x. row ++ x ∷ []) (counted_from steps.first steps.step steps.count)

module _ (tree : TaskletTree) (ins outs : List Link) (line : ℕ) (params : List (ℕ × Range)) (private : List ℕ) (context : Context) (steps : Steps) where
  abbrev pub term : (point : List ℤ) → Term Place
  term = point_term (and_item line (task tree ins outs) no_item) params private context

  abbrev pub setting : (row : List ℤ) → Setting
  setting row = row_of tree ins outs line params private context row steps

  row_from : (row : List ℤ) (k count : ℕ) → point_terms term (map (λ x. row ++ x ∷ []) (counted_from (step_to steps k) steps.step count)) ≡ terms_from (term_of (setting row)) k count
  row_from row k zero = refl
  row_from row k (suc count) =
      ap (λ next. also (term_of (setting row) k) (point_terms term (map (λ x. row ++ x ∷ []) (counted_from next steps.step count)))) (spaced_step steps.first steps.step k)
      ∙ ap (also (term_of (setting row) k)) (row_from row (suc k) count)

  -- the terms of a row
  row_terms : (row : List ℤ) → point_terms term (row_points steps row) ≡ terms_from (term_of (setting row)) 0 steps.count
  row_terms row =
      ap (λ first. point_terms term (map (λ x. row ++ x ∷ []) (counted_from first steps.step steps.count))) (sym (spaced_first steps.first steps.step))
      ∙ row_from row 0 steps.count

  -- what rows come to from here, one after another
  abbrev pub rows_coming : (rows : List (List ℤ)) → Reached → (most : ℕ) → Coming Place
  rows_coming rows now most = big_parts (point_terms term (flat_map (row_points steps) rows)) most now.memories now.turns

  -- before the first row all is left
  pub rows_begin : (outer : List (ℕ × Range)) (before : Reached) (walk : Walk) → IsLast params outer context.values steps → walk ≡ opening (ranges_of outer) context.values →
      IsLeft (map_coming (and_item line (task tree ins outs) no_item) params private context before) before (λ most beside. rows_coming walk.left before most) before
  rows_begin outer before walk last is =
      let in_rows : points (ranges_of params) context.values ≡ flat_map (row_points steps) walk.left =
      ap (λ (all : List (ℕ × Range)). points (ranges_of all) context.values) last.all
      ∙ params_in_rows outer (steps.variable, last.range) context.values
      ∙ ap (λ numbers. flat_map (λ row. map (λ x. row ++ x ∷ []) numbers) (points (ranges_of outer) context.values)) last.taken
      ∙ ap (λ (w : Walk). flat_map (row_points steps) w.left) (sym is) in
      record {
        comes = λ most outcome after. subst (λ points. ComesTo (big_parts (point_terms term points) most before.memories before.turns) outcome) (sym in_rows) (after 0);
        depth = refl;
        turns = omega arith;
      }

  module _ (whole : ℕ → Coming Place) (row : List ℤ) (rows rest : List (List ℤ)) (before middle now : Reached) (is : rows ≡ row ∷ rest)
      (left : IsLeft whole before (λ most beside. rows_coming rows middle most) middle) where
    row_then : (most : ℕ) → rows_coming rows middle most ≡ and_then (row_coming (setting row) 0 steps.count middle most) (big_parts (point_terms term (flat_map (row_points steps) rest)) most)
    row_then most =
        ap (λ rows. rows_coming rows middle most) is
        ∙ points_then term (row_points steps row) (flat_map (row_points steps) rest) most middle.memories middle.turns
        ∙ ap (λ (terms : Terms Place). and_then (big_parts terms most middle.memories middle.turns) (big_parts (point_terms term (flat_map (row_points steps) rest)) most)) (row_terms row)

    -- the row is done
    pub row_more : IsEnd (row_coming (setting row) 0 steps.count middle) middle Finished now → IsLeft whole before (λ most beside. rows_coming rest now most) now
    row_more ends = record {
      comes = λ most outcome after. left.comes most outcome (λ beside. subst (λ (coming : Coming Place). ComesTo coming outcome) (sym (row_then most))
          (comes-then (row_coming (setting row) 0 steps.count middle most) now (big_parts (point_terms term (flat_map (row_points steps) rest)) most) outcome (ends.comes most) (after beside)));
      depth = ends.depth ∙ left.depth;
      turns = omega (arith, ends.turns, left.turns);
    }

    -- the row stops the map
    pub row_stop : (end : End) → IsEnd (row_coming (setting row) 0 steps.count middle) middle end now → ((end ≡ Finished) → ⊥) → IsEnd whole before end now
    row_stop end ends stop = record {
      comes = λ most. left.comes most (outcome_of end now) (λ beside. subst (λ (coming : Coming Place). ComesTo coming (outcome_of end now)) (sym (row_then most))
          (comes-stop (row_coming (setting row) 0 steps.count middle most) (big_parts (point_terms term (flat_map (row_points steps) rest)) most) (outcome_of end now) (stops end now stop) (ends.comes most)));
      depth = ends.depth ∙ left.depth;
      turns = omega (arith, ends.turns, left.turns);
    }

  -- no row is left
  pub rows_end : (whole : ℕ → Coming Place) (rows : List (List ℤ)) (before now : Reached) → rows ≡ [] → IsLeft whole before (λ most beside. rows_coming rows now most) now → IsEnd whole before Finished now
  rows_end whole rows before now none left = record {
    comes = λ most. left.comes most (Done now) (λ beside. subst (λ rows. ComesTo (rows_coming rows now most) (Done now)) (sym none) refl);
    depth = left.depth;
    turns = left.turns;
  }
