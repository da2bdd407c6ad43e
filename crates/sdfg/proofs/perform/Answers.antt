use Rattle.std.proofs.Common.{List, ℕ, [], Option, Some, None, refl, ap, sym, append-nil}
use Rattle.sd_io.specs.Sink.{Appends}
use Rattle.sd_tool.specs.Ends.{no_memory}
use Rattle.sdfg.proofs.perform.Goals as goal

-- nothing was written
nothing : (taken : Option (List ℕ)) → Appends taken taken []
nothing None = tt
nothing (Some bytes) = ap Some (sym (append-nil bytes))

pub returns-in-Ok : goal.returns-in-Ok
returns-in-Ok g c = rw (← c.in-Ok.ensures) (rw (← c.as_slice.ensures.value) c.sdfg.ensures.answers)

pub returns-in-Err : goal.returns-in-Err
returns-in-Err g c = no_memory (nothing _) refl
