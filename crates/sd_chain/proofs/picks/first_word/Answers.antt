use Rattle.std.proofs.Common.{sym}
use Rattle.std.proofs.lemmas.List.{take_rest}
use Rattle.sd_chain.specs.Picks.{is_blank, is_in_word}
use Rattle.sd_chain.proofs.Words.{none-is, words-none, within_text, first-split}
use Rattle.sd_chain.proofs.picks.first_word.Goals as goal

pub split_at-requires : goal.split_at-requires
split_at-requires c = within_text is_blank _ _ c.word_length.ensures

pub returns-in-Some : goal.returns-in-Some
returns-in-Some c =
    first-split c.args.text.now _ c.split_at.result.0.now c.split_at.result.1.now c.in-Some.begin _ (sym c.in-Some.ensures)
    (take_rest c.args.text.now c.in-Some.begin) c.word_length.ensures c.split_at.ensures.front c.split_at.ensures.back

pub returns-in-None : goal.returns-in-None
returns-in-None c = words-none c.args.text.now (none-is is_in_word c.args.text.now (sym c.in-None.ensures))
