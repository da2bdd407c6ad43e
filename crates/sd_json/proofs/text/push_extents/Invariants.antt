use Rattle.std.proofs.Common.{◌≡◌, ◌∷◌, ◌++◌, take, string_bytes, unsigned_abs}
use Rattle.std.specs.List.{flat_map}
use Rattle.std.specs.Fmt.{decimal}
use Rattle.sd_json.proofs.text.push_extents.Given as goal

-- the other extents so far, each after a comma
abbrev pub invariant-loop-other : goal.invariant-loop-other
invariant-loop-other l =
    string_bytes l.line ≡ string_bytes l.initial.line ++ flat_map (λ other. 44 ∷ decimal (unsigned_abs other.constant)) (take l.other-index l.others)
