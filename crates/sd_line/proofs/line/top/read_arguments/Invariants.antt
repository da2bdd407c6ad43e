use Rattle.std.proofs.Common.{◌≡◌, ◌≤◌, false, [], map, length}
use Rattle.sd_lex.specs.TreeFold.{statement_of}
use Rattle.sd_phrase.specs.declared.word.Mark.TheVariants.{Comma}
use Rattle.sd_phrase.specs.Parts.{parts_of}
use Rattle.sd_phrase.specs.Readings.{listed_from}
use Rattle.sd_phrase.specs.Spans.{AreInside}
use Rattle.sd_line.specs.line.TopLine as definition
use Rattle.sd_line.proofs.line.top.read_arguments.Given as goal

abbrev pub invariant-loop-place : goal.invariant-loop-place
invariant-loop-place l = record {
  inside : AreInside l.text l.left;
  shorter : length l.left ≤ length l.tokens;
  same : listed_from (map statement_of l.list.items) l.deep (map (definition.program_argument l.text l.line) (parts_of Comma l.left))
      ≡ listed_from [] false (map (definition.program_argument l.text l.line) (parts_of Comma l.tokens));
}

abbrev pub decreases-loop-place : goal.decreases-loop-place
decreases-loop-place l = length l.left
