-- A line that closes a block.
use Rattle.std.proofs.Common.{◌≡◌, refl, ℕ, zero, suc, ◌-◌, ◌<◌, List, arith}
use Rattle.sd_line.specs.line.Head.{HeadTree}
use Rattle.sd_phrase.specs.declared.reading.Reading.{Reading}
use Rattle.sd_context.specs.context.Context.{Context}
use Rattle.sd_context.specs.declared.context.awaiting.Wanted.{Wanted}
use Rattle.sd_context.specs.blocks.Closing.{and_then, closed_times}
use Rattle.sd_source.specs.source.LineReading.{behind_blocks, behind_last_block}
use Rattle.sd_line.specs.lines.Lines.{Line}

-- of the blocks that it closes all but the last end first
pub some_blocks : (wanted : Wanted) (number : ℕ) (rest : List Line) (read : Reading HeadTree) (closes : ℕ) (context : Context) → 0 < closes → behind_blocks wanted number rest read closes context ≡ and_then (closed_times (closes - 1) context) (behind_last_block wanted number rest read)
some_blocks wanted number rest read zero context some = absurd (omega (arith, some))
some_blocks wanted number rest read (suc n) context some =
    let one : suc n - 1 ≡ n = omega arith in
    rw one refl
