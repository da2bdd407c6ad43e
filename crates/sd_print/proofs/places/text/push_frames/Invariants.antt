use Rattle.std.proofs.Common.{◌≡◌, ◌++◌, take, codes, string_bytes}
use Rattle.std.specs.List.{flat_map}
use Rattle.sd_print.specs.places.FaultText.{frame_text}
use Rattle.sd_print.proofs.places.text.push_frames.Given as goal

-- the other frames so far, each after its sign
abbrev pub invariant-loop-other : goal.invariant-loop-other
invariant-loop-other l =
    string_bytes l.text ≡ string_bytes l.initial.text ++ flat_map (λ other. codes " > " ++ frame_text other) (take l.other-index l.others)
