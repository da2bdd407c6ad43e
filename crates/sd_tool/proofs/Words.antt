-- What the words of a call say of it.
use Rattle.std.proofs.Common.{◌≡◌, ℕ, List, refl}
use Rattle.sd_words.specs.Command.{Command, to_run, to_step, to_print, to_check, to_plan, to_match, Call, IsCall}
use Rattle.sd_words.proofs.OneCall.{IsCall-unique, run_limits}
use Rattle.sd_tool.specs.Workspace.{IsLimited}

-- they are one call
pub one_call : (words : List (List ℕ)) (call other : Call) → IsCall words call → IsCall words other → call ≡ other
one_call = IsCall-unique

-- the numbers of a run are within their limits
pub limited : (words : List (List ℕ)) (call : Call) → IsCall words call → IsLimited call.command
limited words call asked = by_command call.command refl where
  by_command : (command : Command) → call.command ≡ command → IsLimited command
  by_command (to_run run) is = let limits = run_limits words call run asked is in (limits.1, limits.2, limits.3)
  by_command (to_step step) is = tt
  by_command to_print is = tt
  by_command to_check is = tt
  by_command to_plan is = tt
  by_command to_match is = tt
