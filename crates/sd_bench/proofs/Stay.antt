-- A frame keeps its three scalars.
use Rattle.std.proofs.Common.{◌≡◌, ℕ, ◌<◌, ℤ, sym, subst}
use Rattle.sd_tcode.specs.tcode.Held.{given, room_for, with_element}
use Rattle.sd_tcode.specs.declared.tcode.frame.Frame.{Frame}
use Rattle.sd_tcode.proofs.tcode_lemmas.Ready.{element_lengths}
use Rattle.sd_bench.specs.Scalars.{HasScalars}

pub scalars_stay : (old new : Frame) (connector at : ℕ) (value : ℤ) → given new ≡ with_element (given old) connector at value → HasScalars old → HasScalars new
scalars_stay old new connector at value e has other low =
    subst (λ inputs. 0 < room_for inputs other) (sym e) (subst (λ n. 0 < n) (sym (element_lengths (given old) connector at value other)) (has other low))

pub scalars_same : (old new : Frame) → given new ≡ given old → HasScalars old → HasScalars new
scalars_same old new e has other low = subst (λ inputs. 0 < room_for inputs other) (sym e) (has other low)
