use Rattle.std.proofs.Common.{◌≡◌, map, length}
use Rattle.std.specs.Prelude.{string_bytes}
use Rattle.sd_line.specs.line.Repetition as definition
use Rattle.sd_phrase.specs.Spans.{AreInside}
use Rattle.sd_line.proofs.line.body.repetition.read_names.Given as goal

abbrev pub invariant-loop-name : goal.invariant-loop-name
invariant-loop-name l = record {
  inside : AreInside l.text l.left;
  same : definition.names_from l.text (map string_bytes l.names.items) l.left ≡ definition.names_first l.text l.tokens;
}

abbrev pub decreases-loop-name : goal.decreases-loop-name
decreases-loop-name l = length l.left
