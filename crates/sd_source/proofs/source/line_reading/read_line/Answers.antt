use Rattle.std.proofs.Common.{rules, ◌≡◌}
use Rattle.std.specs.Prelude.{IfOk}
use Rattle.sd_line.specs.line.HeadFold.{head_tree}
use Rattle.sd_phrase.specs.Readings.{reading_map}
use Rattle.sd_context.specs.context.ContextFold.{context_of}
use Rattle.sd_context.specs.blocks.StepFold.{stepped}
use Rattle.sd_source.specs.source.LineReading as definition
use Rattle.sd_line.specs.lines.SourceLines.{lines_of}
use Rattle.sd_source.proofs.source.line_reading.read_line.Goals as goal

pub returns : goal.returns
returns c =
    let step : IfOk c.read_behind_blocks.result (λ step. stepped step (context_of c.read_behind_blocks.new.context) ≡ definition.behind_blocks c.wanted_of-wanted.result c.args.line.number (lines_of c.args.text.now c.args.words.now c.args.rest.now) (reading_map head_tree c.in_ok-read.read) c.args.line.closes (context_of c.args.context.now)) = c.read_behind_blocks.ensures (c.args.text.now, c.args.words.now) in
    search rules
