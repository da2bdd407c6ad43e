use Rattle.std.proofs.Common.{arith, rules, ◌+◌, ◌∙◌, sym}
use Rattle.sd_phrase.proofs.ReaderLemmas.{reads_cut}
use Rattle.sd_phrase.proofs.PartLemmas.{to_end}
use Rattle.sd_phrase.proofs.InsideLemmas.{inside_rest}
use Rattle.sd_phrase.proofs.expression.+reads.Goals as goal

pub read_at-returns-else-rank_of-rank : goal.read_at-returns-else-rank_of-rank
read_at-returns-else-rank_of-rank t c =
    rw (
      reads_cut c.args.text.now c.args.in_body c.args.levels c.args.rank c.args.tokens.now c.in-Some.place c.if-levels-eq0.false (sym c.cut_of.ensures.place ∙ c.in-Some.is) (omega (arith, c.if-rank_of-rank.false, c.rank_of.ensures)),
      sym (to_end c.args.tokens.now (c.in-Some.place.at + 1)),
    ) c.read_sign.ensures

pub read_atom-read_at-requires : goal.read_atom-read_at-requires
read_atom-read_at-requires t c = (search rules, c.in-Some.ensures.inside c.args.text.now (inside_rest c.args.text.now c.args.tokens.now 1 c.requires))

pub read_call-read_at-requires : goal.read_call-read_at-requires
read_call-read_at-requires t c = (search rules, (c.in-Two.ensures.inside c.args.text.now (c.in-Some.ensures.inside c.args.text.now c.requires)).0)

pub read_call-read_at-requires-in-Two : goal.read_call-read_at-requires-in-Two
read_call-read_at-requires-in-Two t c = (search rules, (c.in-Two.ensures.inside c.args.text.now (c.in-Some.ensures.inside c.args.text.now c.requires)).1)
