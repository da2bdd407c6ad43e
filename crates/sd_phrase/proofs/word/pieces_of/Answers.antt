use Rattle.std.proofs.Common.{◌∙◌}
use Rattle.sd_phrase.specs.Words.{piece_of}
use Rattle.std.proofs.lemmas.List.Elements.{All-push}
use Rattle.sd_phrase.specs.Spans.{IsInside}
use Rattle.sd_phrase.proofs.PieceLemmas.{map_more}
use Rattle.sd_phrase.proofs.word.pieces_of.Goals as goal

pub loop-token-preserved : goal.loop-token-preserved
loop-token-preserved c = record {
  pieces = c.in_ok-push.ensures.items ∙ map_more (piece_of c.args.text.now) c.args.tokens.now c.loop-token.token-index _ c.loop-token.pieces.items _ c.loop-token-test.true c.loop-token.invariant.pieces c.piece_of-piece.ensures.piece;
  inside = rw c.in_ok-push.ensures.items (All-push (IsInside c.args.text.now) c.loop-token.pieces.items c.piece_of-piece.result c.loop-token.invariant.inside c.piece_of-piece.ensures.inside);
}
