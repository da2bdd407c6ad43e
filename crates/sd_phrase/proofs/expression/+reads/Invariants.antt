use Rattle.std.proofs.Common.{◌≡◌, ◌+◌, ◌≤◌, ◌*◌, false, [], map, length}
use Rattle.std.specs.Prelude.{if◌then◌else◌}
use Rattle.sd_lex.specs.TreeFold.{expression_of}
use Rattle.sd_phrase.specs.declared.word.Mark.TheVariants.{Comma}
use Rattle.sd_phrase.specs.ExpressionReading.{reads}
use Rattle.sd_phrase.specs.Parts.{parts_of}
use Rattle.sd_phrase.specs.Readings.{listed_from}
use Rattle.sd_phrase.specs.Spans.{AreInside}
use Rattle.sd_phrase.proofs.expression.+reads.Given as goal

-- each function's place among those that have as many levels; an expression of a body stands above all those of subscripts
abbrev pub decreases-read_at : goal.decreases-read_at
decreases-read_at l = 8 * l.levels + 7 + (if l.in_body then 1000 else 0)

abbrev pub decreases-read_last : goal.decreases-read_last
decreases-read_last l = 6 + (if l.in_body then 1000 else 0)

abbrev pub decreases-read_sign : goal.decreases-read_sign
decreases-read_sign l = 8 * l.levels + 12 + (if l.in_body then 1000 else 0)

abbrev pub decreases-read_choice : goal.decreases-read_choice
decreases-read_choice l = 8 * l.levels + 11 + (if l.in_body then 1000 else 0)

abbrev pub decreases-read_atom : goal.decreases-read_atom
decreases-read_atom l = 8 * l.levels + 14 + (if l.in_body then 1000 else 0)

abbrev pub decreases-read_callee : goal.decreases-read_callee
decreases-read_callee l = 8 * l.levels + 13 + (if l.in_body then 1000 else 0)

abbrev pub decreases-read_call : goal.decreases-read_call
decreases-read_call l = 8 * l.levels + 12 + (if l.in_body then 1000 else 0)

abbrev pub decreases-read_element : goal.decreases-read_element
decreases-read_element l = if l.in_body then 900 else 8 * l.levels + 12

abbrev pub decreases-read_list : goal.decreases-read_list
decreases-read_list l = 8 * l.levels + 11 + (if l.in_body then 1000 else 0)

abbrev pub invariant-read_list-loop-place : goal.invariant-read_list-loop-place
invariant-read_list-loop-place l = record {
  inside : AreInside l.text l.left;
  shorter : length l.left ≤ length l.tokens;
  same : listed_from (map expression_of l.list.items) l.deep (map (reads l.text l.in_body l.levels 1) (parts_of Comma l.left))
      ≡ listed_from [] false (map (reads l.text l.in_body l.levels 1) (parts_of Comma l.tokens));
}

abbrev pub decreases-read_list-loop-place : goal.decreases-read_list-loop-place
decreases-read_list-loop-place l = length l.left
