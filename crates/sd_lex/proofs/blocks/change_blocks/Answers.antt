use Rattle.std.proofs.Common.{ap, sym, ◌∙◌, reverse, vec_len}
use Rattle.sd_lex.specs.Layout.{mark}
use Rattle.sd_lex.proofs.BlockLemmas.{blocks-stay, blocks-open, turned, as_many}
use Rattle.sd_lex.proofs.blocks.change_blocks.Goals as goal

pub returns-then-innermost-width-clause-ok : goal.returns-then-innermost-width-clause-ok
returns-then-innermost-width-clause-ok c =
    let closed = c.in_ok-close_blocks.ensures in
    let same = rw c.deref.ensures.value at c.innermost.ensures in
    blocks-stay (mark c.args.place.at c.args.place.line) c.args.tokens.now.items c.close_blocks.new.tokens.items c.args.width (reverse c.args.widths.now.items) (reverse c.close_blocks.new.widths.items) (vec_len c.args.widths.now) (vec_len c.close_blocks.new.widths)
    closed.ok (as_many c.args.widths.now) (as_many c.close_blocks.new.widths) closed.marks (sym same ∙ c.if-innermost-width.true)

pub returns-in_ok-push-clause-ok : goal.returns-in_ok-push-clause-ok
returns-in_ok-push-clause-ok c =
    let closed = c.in_ok-close_blocks.ensures in
    let same = rw c.deref.ensures.value at c.innermost.ensures in
    blocks-open (mark c.args.place.at c.args.place.line) c.args.tokens.now.items c.close_blocks.new.tokens.items c.args.width (reverse c.args.widths.now.items) (reverse c.close_blocks.new.widths.items) (vec_len c.args.widths.now) (vec_len c.close_blocks.new.widths)
    closed.ok (as_many c.args.widths.now) (as_many c.close_blocks.new.widths) closed.marks (λ e. c.if-innermost-width.false (same ∙ e)) (sym c.len.ensures ∙ c.if-len-before.true ∙ c.len-before.ensures)
    _ (ap reverse c.in_ok-push.ensures.items ∙ turned c.close_blocks.new.widths.items c.args.width) _ c.in_ok-push_mark.ensures.ok
