use Rattle.std.proofs.Common.{◌≡◌, ℕ, ◌+◌, Bor, Option, List, ◌++◌, map, take, drop, ap, sym, ◌∙◌}
use Rattle.sd_range.specs.declared.range.Range.{Range}
use Rattle.sd_validity.specs.rules.MovedShapes as moved
use Rattle.sd_links.proofs.Pairs.{all_behind, left_mapped}
use Rattle.sd_links.proofs.moved.spans_left.Goals as goal

pub returns-in_ok-push_spans-in-Some-2 : goal.returns-in_ok-push_spans-in-Some-2
returns-in_ok-push_spans-in-Some-2 c =
    let spans = c.args.spans.now in
    let axis = c.in-Some.axis in
    let first : c.push_spans.new.all.items ≡ take axis spans =
    c.in_ok-push_spans-in-Some.ensures ∙ ap (λ (start : List (Bor Range)). start ++ take axis spans) c.new-left.ensures.items in
    let all : c.push_spans-in-Some.new.all.items ≡ take axis spans ++ drop (axis + 1) spans =
    c.in_ok-push_spans-in-Some-2.ensures ∙ (λ i. first i ++ all_behind (axis + 1) spans i) in
    left_mapped spans c.push_spans-in-Some.new.all.items axis all
    ∙ ap (λ (axis : Option ℕ). moved.spans_left axis (map (λ range. range.now) spans)) (sym c.in-Some.is)
