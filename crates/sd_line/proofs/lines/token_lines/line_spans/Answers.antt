use Rattle.std.proofs.Common.{◌∙◌}
use Rattle.sd_line.proofs.lines_lemmas.TokenLemmas.{place_next, count_next, spans_next}
use Rattle.sd_line.proofs.lines.token_lines.line_spans.Goals as goal

pub loop-left-preserved : goal.loop-left-preserved
loop-left-preserved c =
    let now = c.loop-left.invariant in
    record {
      place = place_next c.args.tokens.now c.loop-left.at c.loop-left.left.now now.place;
      all = count_next c.loop-left.left.now c.loop-left.at _ c.in-len1-up.len_at_least now.all;
      same = rw c.behind-line.ensures.behind (spans_next c.args.text.now c.args.tokens.now _ _ c.loop-left.line c.loop-left.at c.loop-left.left.now _ c.in-len1-up.len_at_least now.place now.order (c.in_ok-push_ended.ensures) ∙ now.same);
      order = c.behind-line.ensures.order;
      few = c.behind-line.ensures.few;
    }
