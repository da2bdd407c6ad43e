use Rattle.std.proofs.Common.{map, string_bytes, subst}
use Rattle.sd_words.specs.Command.{IsCall, call_of}
use Rattle.sd_words.specs.Finding.{Finds}
use Rattle.sd_tool.specs.Answers.{no_command}
use Rattle.sd_tool.proofs.call.called.Goals as goal

pub returns-in-None-clause-refuses : goal.returns-in-None-clause-refuses
returns-in-None-clause-refuses c = λ shelf. no_command (subst (Finds call_of (IsCall (map string_bytes c.args.words.now))) c.in-None.is c.in_ok-call.ensures)
