use Rattle.std.proofs.Common.{◌≡◌, ◌≤◌, false, [], map, length}
use Rattle.sd_lex.specs.TreeFold.{dimensions_of}
use Rattle.sd_phrase.specs.declared.word.Mark.TheVariants.{Comma}
use Rattle.sd_phrase.specs.Parts.{parts_of}
use Rattle.sd_phrase.specs.Readings.{listed_from}
use Rattle.sd_phrase.specs.Spans.{AreInside}
use Rattle.sd_phrase.specs.SubsetReading as definition
use Rattle.sd_phrase.proofs.subset.read_slots.Given as goal

abbrev pub invariant-loop-place : goal.invariant-loop-place
invariant-loop-place l = record {
  inside : AreInside l.text l.left;
  shorter : length l.left ≤ length l.tokens;
  same : listed_from (dimensions_of l.list.items) l.deep (map (definition.slot l.text l.in_subset) (parts_of Comma l.left))
      ≡ listed_from [] false (map (definition.slot l.text l.in_subset) (parts_of Comma l.tokens));
}

abbrev pub decreases-loop-place : goal.decreases-loop-place
decreases-loop-place l = length l.left
