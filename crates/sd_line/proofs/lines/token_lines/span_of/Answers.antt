use Rattle.sd_line.proofs.lines_lemmas.TokenLemmas.{span_line}
use Rattle.sd_line.proofs.lines.token_lines.span_of.Goals as goal

pub returns : goal.returns
returns c = span_line c.args.text.now c.args.tokens.now c.args.line c.args.to c.number_of.result c.begins_connector.result c.number_of.ensures c.begins_connector.ensures
