use Rattle.std.proofs.Common.{Err, ap}
use Rattle.sd_tool.specs.Files.{faulty, longer}
use Rattle.sd_tool.proofs.files.content.Goals as goal

pub returns-in-Err-Failed-clause-unread : goal.returns-in-Err-Failed-clause-unread
returns-in-Err-Failed-clause-unread g c = faulty (c.in-Err-Failed.ensures.failed (ap Err c.in-Err-Failed.field-0-is))

pub returns-in-Err-TooLong-clause-unread : goal.returns-in-Err-TooLong-clause-unread
returns-in-Err-TooLong-clause-unread g c =
    let is = ap Err c.in-Err-TooLong.field-0-is in
    longer (c.in-Err-TooLong.ensures.too_long is) (c.in-Err-TooLong.ensures.overrun is)
