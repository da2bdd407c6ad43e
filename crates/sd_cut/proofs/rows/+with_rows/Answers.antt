use Rattle.std.proofs.Common.{rules, FitsSigned, to_z-of_z, ◌≡◌, ◌≤◌, ◌+ℤ◌, ◌++◌, ◌∷◌, [], ◌∙◌, List, ℤ, IfErr, IfOk, ap, length, map, neg_ℤ, pos, refl, subst, sym}
use Rattle.std.specs.Int.{w128}
use Rattle.sd_range.specs.Points.{tuples}
use Rattle.sd_range.specs.Subset.{dim_values}
use Rattle.sd_cut.specs.Cells.{spans_within}
use Rattle.sd_cut.specs.Elements.{told}
use Rattle.sd_cut.specs.Rows.{all_told, indices_behind, AreThere, IsMissing}
use Rattle.sd_cut.proofs.RowLemmas.{none_left, one_left, tails, window_rows, last_off, missing_row, there_all, there_both, there_more, there_one, told_all, told_more}
use Rattle.sd_cut.proofs.rows.+with_rows.Goals as goal

pub returns-in_default-clause-refused : goal.returns-in_default-clause-refused
returns-in_default-clause-refused t c =
    subst (λ l. IfErr c.with_one.result (IsMissing c.args.memory.now c.args.container l))
    (none_left c.args.index.now.items c.as_slice.result.now c.args.shift.now c.args.extents.now c.requires.same c.in_default.ensures.cases c.as_slice.ensures.value) c.with_one.ensures.refused

pub returns-then-is_empty-clause-refused : goal.returns-then-is_empty-clause-refused
returns-then-is_empty-clause-refused t c =
    let none : length c.in-Some.inner.now ≡ 0 = search rules in
    let fits : FitsSigned w128 c.in-Some.first.now = search rules in
    let refused = simp to_z-of_z at c.with_last.ensures.refused in
    subst (λ l. IfErr c.with_last.result (IsMissing c.args.memory.now c.args.container l))
    (one_left c.args.index.now.items c.args.shift.now c.in-Some.inner.now c.args.extents.now c.in-Some-split_first.inner_extents.now c.in-Some.first.now c.in-Some-split_first.extent.now (search rules) (search rules) c.requires.same none)
    refused

pub returns-then-is_empty-clause-there : goal.returns-then-is_empty-clause-there
returns-then-is_empty-clause-there t c =
    let none : length c.in-Some.inner.now ≡ 0 = search rules in
    let fits : FitsSigned w128 c.in-Some.first.now = search rules in
    let there = simp to_z-of_z at c.with_last.ensures.there in
    subst (λ l. IfOk c.with_last.result (λ all. AreThere c.args.memory.now c.args.container l))
    (one_left c.args.index.now.items c.args.shift.now c.in-Some.inner.now c.args.extents.now c.in-Some-split_first.inner_extents.now c.in-Some.first.now c.in-Some-split_first.extent.now (search rules) (search rules) c.requires.same none)
    there

pub loop-more-init : goal.loop-more-init
loop-more-init t c = record { same = refl; untouched = c.requires.untouched; there = λ h. h; rest = λ h. h; told_so = refl }

pub with_rows-requires : goal.with_rows-requires
with_rows-requires t c =
    (search rules, (tails c.args.shift.now c.in-Some.inner.now c.args.extents.now c.in-Some-split_first.inner_extents.now c.in-Some.first.now c.in-Some-split_first.extent.now (search rules) (search rules) c.requires.same, c.loop-more.invariant.untouched))

pub returns-in-Err-clause-refused : goal.returns-in-Err-clause-refused
returns-in-Err-clause-refused t c =
    let before = c.args.index.now.items in
    let rests = tuples (map (dim_values []) (spans_within c.in-Some.inner.now c.in-Some-split_first.inner_extents.now)) in
    let low = neg_ℤ c.in-Some.first.now in
    let extent = c.in-Some-split_first.extent.now in
    let number : c.in_ok-number_from.field-0 ≡ low +ℤ pos c.loop-more.more = search rules in
    let pushed : c.push.new.self.items ≡ c.loop-more.index.items ++ c.in_ok-number_from.field-0 ∷ [] = search rules in
    let at : c.push.new.self.items ≡ before ++ (low +ℤ pos c.loop-more.more) ∷ [] = pushed ∙ (λ i. c.loop-more.invariant.same i ++ number i ∷ []) in
    let whole = window_rows before c.args.shift.now c.in-Some.inner.now c.args.extents.now c.in-Some-split_first.inner_extents.now c.in-Some.first.now extent (search rules) (search rules) in
    missing_row c.args.memory.now c.args.container (indices_behind c.push.new.self.items c.in-Some.inner.now c.in-Some-split_first.inner_extents.now) (indices_behind before c.args.shift.now c.args.extents.now) c.in-Err.refusal
    (λ all. subst (λ (b : List ℤ). AreThere c.args.memory.now c.args.container (indices_behind b c.in-Some.inner.now c.in-Some-split_first.inner_extents.now)) (sym at)
    (there_one c.args.memory.now c.args.container before rests low extent c.loop-more.more c.loop-more-test.true (c.loop-more.invariant.rest (subst (AreThere c.args.memory.now c.args.container) whole all)))) c.in-Err.ensures.refused

pub loop-more-preserved : goal.loop-more-preserved
loop-more-preserved t c =
    let before = c.args.index.now.items in
    let rests = tuples (map (dim_values []) (spans_within c.in-Some.inner.now c.in-Some-split_first.inner_extents.now)) in
    let low = neg_ℤ c.in-Some.first.now in
    let extent = c.in-Some-split_first.extent.now in
    let number : c.in_ok-number_from.field-0 ≡ low +ℤ pos c.loop-more.more = search rules in
    let pushed : c.push.new.self.items ≡ c.loop-more.index.items ++ c.in_ok-number_from.field-0 ∷ [] = search rules in
    let at : c.push.new.self.items ≡ before ++ (low +ℤ pos c.loop-more.more) ∷ [] = pushed ∙ (λ i. c.loop-more.invariant.same i ++ number i ∷ []) in
    let full : c.with_rows.new.index.items ≡ c.loop-more.index.items ++ c.in_ok-number_from.field-0 ∷ [] = c.in-Ok.ensures.index ∙ pushed in
    let many : c.with_rows.new.index.len ≡ length c.with_rows.new.index.items = search rules in
    record {
      same = last_off c.pop.new.self.items before c.loop-more.index.items c.with_rows.new.index.items c.in_ok-number_from.field-0 c.with_rows.new.index.len c.pop.ensures.rest full c.loop-more.invariant.same many;
      untouched = c.in-Ok.ensures.untouched;
      there = λ left. c.loop-more.invariant.there (there_both c.args.memory.now c.args.container before rests low extent c.loop-more.more c.loop-more-test.true
          (subst (λ (b : List ℤ). AreThere c.args.memory.now c.args.container (indices_behind b c.in-Some.inner.now c.in-Some-split_first.inner_extents.now)) at c.in-Ok.ensures.there) left);
      rest = λ all. there_more c.args.memory.now c.args.container before rests low extent c.loop-more.more c.loop-more-test.true (c.loop-more.invariant.rest all);
      told_so = told_more c.args.memory.now c.args.container before rests low extent c.loop-more.more (map told c.loop-more.all.items) (map told c.in-Ok.cuts.items) c.loop-more-test.true
          (c.in-Ok.ensures.told
          ∙ ap (λ (b : List ℤ). map told c.loop-more.all.items ++ all_told c.args.memory.now c.args.container (indices_behind b c.in-Some.inner.now c.in-Some-split_first.inner_extents.now)) at)
          ∙ c.loop-more.invariant.told_so;
    }

pub returns-clause-there : goal.returns-clause-there
returns-clause-there t c =
    let before = c.args.index.now.items in
    let rests = tuples (map (dim_values []) (spans_within c.in-Some.inner.now c.in-Some-split_first.inner_extents.now)) in
    let over : c.in-Some-split_first.extent.now ≤ c.loop-more.more = search rules in
    there_all c.args.memory.now c.args.container before rests (indices_behind before c.args.shift.now c.args.extents.now) (neg_ℤ c.in-Some.first.now) c.in-Some-split_first.extent.now c.loop-more.more over
    (window_rows before c.args.shift.now c.in-Some.inner.now c.args.extents.now c.in-Some-split_first.inner_extents.now c.in-Some.first.now c.in-Some-split_first.extent.now (search rules) (search rules)) c.loop-more.invariant.there

pub returns-clause-told : goal.returns-clause-told
returns-clause-told t c =
    let before = c.args.index.now.items in
    let rests = tuples (map (dim_values []) (spans_within c.in-Some.inner.now c.in-Some-split_first.inner_extents.now)) in
    let over : c.in-Some-split_first.extent.now ≤ c.loop-more.more = search rules in
    told_all c.args.memory.now c.args.container before rests (indices_behind before c.args.shift.now c.args.extents.now) (neg_ℤ c.in-Some.first.now) c.in-Some-split_first.extent.now c.loop-more.more (map told c.args.cuts.items)
    (map told c.loop-more.all.items) over
    (window_rows before c.args.shift.now c.in-Some.inner.now c.args.extents.now c.in-Some-split_first.inner_extents.now c.in-Some.first.now c.in-Some-split_first.extent.now (search rules) (search rules)) c.loop-more.invariant.told_so
