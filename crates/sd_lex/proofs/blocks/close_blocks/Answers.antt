use Rattle.std.proofs.Common.{◌≡◌, ◌-◌, ◌+◌, ◌<◌, ◌∙◌, ap, arith, ◌++◌, ◌∷◌, [], reverse, length, vec_len}
use Rattle.sd_lex.specs.Blocks.{innermost}
use Rattle.sd_lex.specs.Layout.{mark}
use Rattle.sd_lex.specs.declared.token.TokenKind.TheVariants.{Dedent}
use Rattle.sd_lex.proofs.BlockLemmas.{outer-closes, some_open, one_fewer, marks-more}
use Rattle.sd_lex.proofs.blocks.close_blocks.Goals as goal

pub loop-place-preserved : goal.loop-place-preserved
loop-place-preserved c =
    let widths = c.loop-place.widths in
    let inner = rw c.deref.ensures.value at c.innermost.ensures in
    let wider : c.args.width < innermost (reverse widths.items) = omega (arith, inner) in
    let some : 0 < vec_len widths = omega (arith, c.deref.ensures.len, ap length c.deref.ensures.value, some_open c.args.width widths.items wider) in
    let fewer : vec_len c.pop.new.self + 1 ≡ vec_len widths = one_fewer c.pop.result (vec_len widths) (vec_len c.pop.new.self) some c.pop.ensures.cases in
    let dedent = mark c.args.place.at c.args.place.line Dedent in
    let more : vec_len c.args.widths.now - vec_len c.pop.new.self ≡ (vec_len c.args.widths.now - vec_len widths) + 1 = omega (arith, fewer, c.loop-place.invariant.fewer) in
    record {
      same = outer-closes c.args.width widths.items c.pop.new.self.items c.pop.result wider c.pop.ensures.items ∙ c.loop-place.invariant.same;
      fewer = omega (arith, fewer, c.loop-place.invariant.fewer);
      marks = c.in_ok-push_mark.ensures.ok ∙ ap (λ tokens. tokens ++ dedent ∷ []) c.loop-place.invariant.marks ∙ marks-more c.args.tokens.now.items dedent _ _ more;
    }
