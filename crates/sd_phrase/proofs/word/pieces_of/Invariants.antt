use Rattle.std.proofs.Common.{◌≡◌, map, take}
use Rattle.sd_phrase.specs.Spans.{AreInside}
use Rattle.sd_phrase.specs.Words.{piece_of}
use Rattle.sd_phrase.proofs.word.pieces_of.Given as goal

abbrev pub invariant-loop-token : goal.invariant-loop-token
invariant-loop-token l = record {
  pieces : l.pieces.items ≡ map (piece_of l.text) (take l.token-index l.tokens);
  inside : AreInside l.text l.pieces.items;
}
