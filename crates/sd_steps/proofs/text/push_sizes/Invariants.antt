use Rattle.std.proofs.Common.{◌≡◌, ◌++◌, take, string_bytes}
use Rattle.sd_steps.specs.StepText.{sizes_text}
use Rattle.sd_steps.proofs.text.push_sizes.Given as goal

-- what is added so far
abbrev pub invariant-loop-size : goal.invariant-loop-size
invariant-loop-size l = string_bytes l.line ≡ string_bytes l.initial.line ++ sizes_text (take l.size-index l.sizes)
