-- Rows that differ in the value of the last parameter but one alone.
use Rattle.std.proofs.Common.{◌≡◌, ℕ, zero, suc, ◌+◌, ◌<◌, ◌≤◌, ℤ, pos, List, [], ◌∷◌, ◌++◌, length, Some, true, refl, sym, ap, ◌∙◌, arith, subst}
use Rattle.std.specs.List.{AllByRecursion}
use Rattle.std.proofs.lemmas.List.{length-append}
use Rattle.sd_range.specs.declared.range.Range.{Range}
use Rattle.sd_range.specs.Range.{range_values, counted_from}
use Rattle.sd_range.specs.Variables.{with_variable, with_variables}
use Rattle.sd_graph.specs.PlainTree.{TaskletTree}
use Rattle.sd_graph.specs.TreeFold.{graph_tree}
use Rattle.sd_graph.specs.Context.{Context}
use Rattle.sd_graph.specs.Unfold.{assigned}
use Rattle.sd_graph.specs.declared.link.Link.{Link}
use Rattle.sd_tcode.specs.tcode.Compiled.{Compiled}
use Rattle.sd_scope.specs.even.Even.{is_scalar}
use Rattle.sd_scope.proofs.even_lemmas.Reached.{even_within}
use Rattle.sd_scope.proofs.even_lemmas.LastParameter.{values_at_last}
use Rattle.sd_row.specs.declared.row.row.Row.{Row}
use Rattle.sd_row.specs.row.Row.{IsAt, order_of}
use Rattle.sd_row.specs.row.Setting.{IsRowOf}
use Rattle.sd_rows.specs.declared.rows.map.TaskMap.{TaskMap}
use Rattle.sd_rows.specs.declared.rows.steps.Steps.{Steps}
use Rattle.sd_rows.specs.rows.Along.{step_to, IsAlong, IsLast}
use Rattle.sd_rows.specs.rows.Band.{IsAcross, edge_at}
use Rattle.sd_rows.specs.rows.Map.{tree_of, row_at}
use Rattle.sd_rows.proofs.rows_lemmas.Tracks.{along_row}

-- two variables may be set in either order
set_either : (a b : ℕ) (x y : ℤ) (values : List ℤ) → ((a ≡ b) → ⊥) → with_variable a x (with_variable b y values) ≡ with_variable b y (with_variable a x values)
set_either zero zero x y values differ = absurd (differ refl)
set_either zero (suc b) x y [] differ = refl
set_either zero (suc b) x y (old ∷ values) differ = refl
set_either (suc a) zero x y [] differ = refl
set_either (suc a) zero x y (old ∷ values) differ = refl
set_either (suc a) (suc b) x y [] differ = ap (λ rest. pos 0 ∷ rest) (set_either a b x y [] (λ same. differ (ap suc same)))
set_either (suc a) (suc b) x y (old ∷ values) differ = ap (λ rest. old ∷ rest) (set_either a b x y values (λ same. differ (ap suc same)))

one_more : (outer others : List (ℕ × Range)) (last : ℕ × Range) (values : List ℤ) → outer ≡ others ++ last ∷ [] → length values + 1 ≡ length outer → length others ≡ length values
one_more outer others last values is many =
    let longer = length-append others (last ∷ []) in
    let all : length outer ≡ length (others ++ last ∷ []) = ap length is in
    omega (arith, longer, all, many)

-- the last of parameters, with the values that it takes
pub across_is : (outer others : List (ℕ × Range)) (last : ℕ × Range) (values : List ℤ) (across steps : Steps) → outer ≡ others ++ last ∷ [] → across.variable ≡ last.0 →
    range_values values last.1 ≡ counted_from across.first across.step across.count → ((across.variable ≡ steps.variable) → ⊥) → IsAcross outer values across steps
across_is outer others last values across steps is same taken differ = record {
  others = others;
  last = record { range = last.1; all = is ∙ ap (λ (variable : ℕ). others ++ (variable, last.1) ∷ []) (sym same); taken = taken };
  differ = differ;
}

one_longer : (others : List ℤ) (x : ℤ) (count : ℕ) → length others + 1 ≡ count → length (others ++ x ∷ []) ≡ count
one_longer others x count many = length-append others (x ∷ []) ∙ many

same_order : (near far : Row) → Some (order_of far) ≡ Some (order_of near) → order_of far ≡ order_of near
same_order near far same = cc

module _ (task : TaskMap) (outer : List (ℕ × Range)) (steps : Steps) (last : IsLast task.params.now outer task.scope.now.values.values steps) where
  abbrev values : List ℤ
  values = task.scope.now.values.values

  -- the points of a row go along it
  row_goes : (row : List ℤ) → length row ≡ length outer → IsAlong steps (with_variables (assigned outer row) values) (row_at task row steps).context
  row_goes row many =
      along_row (graph_tree task.graph.now) task.base.now task.scope.now (tree_of task) task.ins.now task.outs.now task.line task.params.now outer task.private.now row steps last many

  -- those of one number in rows side by side go across them
  pub edge_goes : (across : Steps) (is : IsAcross outer values across steps) (others : List ℤ) (k : ℕ) → length others + 1 ≡ length outer →
      IsAlong across (with_variable steps.variable (step_to steps k) (with_variables (assigned is.others others) values)) (edge_at task others across steps k).context
  edge_goes across is others k many = record {
    values = λ row.
        let here = others ++ step_to across row ∷ [] in
        let set = with_variable steps.variable (step_to steps k) in
        (row_goes here (one_longer others (step_to across row) (length outer) many)).values k
        ∙ ap (λ (all : List (ℕ × Range)). set (with_variables (assigned all here) values)) is.last.all
        ∙ ap set (values_at_last is.others (across.variable, is.last.range) others (step_to across row) values (one_more outer is.others (across.variable, is.last.range) others is.last.all many))
        ∙ set_either steps.variable across.variable (step_to steps k) (step_to across row) (with_variables (assigned is.others others) values) (λ same. is.differ (sym same));
    reach = λ row. refl;
    containers = λ row. refl;
    even = λ number. even_within (graph_tree task.graph.now) task.base.now task.scope.now task.private.now number;
  }

  -- the accesses of a row, from those of its ends
  pub row_in_band : (row others : List ℤ) (across : Steps) (gaps number rows : ℕ) (code : Compiled) (near far tracks : Row) →
      AllByRecursion (λ link. is_scalar link.memlet.subset.dims ≡ true) (task.ins.now ++ task.outs.now) →
      length row ≡ length outer → row ≡ others ++ step_to across number ∷ [] → number < rows → steps.count ≡ gaps + 1 →
      IsRowOf (edge_at task others across steps 0) code near rows → IsRowOf (edge_at task others across steps gaps) code far rows →
      order_of tracks ≡ order_of near → length tracks.reads.items ≡ length near.reads.items → length tracks.variables.items ≡ length near.variables.items →
      ((values : List ℤ) (context : ℕ → Context) (tree : TaskletTree) (ins outs : List Link) → tree.variables ≡ (tree_of task).variables → order_of far ≡ order_of near →
      AllByRecursion (λ link. is_scalar link.memlet.subset.dims ≡ true) (ins ++ outs) → IsAlong steps values context →
      IsAt tree ins outs near number (context 0) → IsAt tree ins outs far number (context gaps) → (k : ℕ) → k ≤ gaps → IsAt tree ins outs tracks k (context k)) →
      IsRowOf (row_at task row steps) code tracks steps.count
  row_in_band row others across gaps number rows code near far tracks scalars many is below count near_is far_is order reads variables at = record {
    plain = near_is.plain ∙ ap Some (sym order);
    reads = reads ∙ near_is.reads;
    variables = variables ∙ near_is.variables;
    at = λ k within. at (with_variables (assigned outer row) values) (row_at task row steps).context (tree_of task) task.ins.now task.outs.now refl (same_order near far (sym far_is.plain ∙ near_is.plain)) scalars (row_goes row many)
        (subst (λ (row : List ℤ). IsAt (tree_of task) task.ins.now task.outs.now near number ((row_at task row steps).context 0)) (sym is) (near_is.at number below))
        (subst (λ (row : List ℤ). IsAt (tree_of task) task.ins.now task.outs.now far number ((row_at task row steps).context gaps)) (sym is) (far_is.at number below))
        k (omega (arith, within, count));
  }
