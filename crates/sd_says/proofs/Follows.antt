-- Work that comes to an end wherever enough tests and takes are allowed.
use Rattle.std.proofs.Common.{◌≡◌, ℕ, ◌+◌, Some}
use Rattle.sd_graph.specs.declared.place.Place.{Place}
use Rattle.sd_work.specs.Step.{Outcome}
use Rattle.sd_work.specs.BigStep.{Reached, Coming}

-- from some number on it comes to this
abbrev pub Follows : (ℕ → Coming Place) → Outcome Place Reached → Type 0
Follows work o = (m : ℕ) × ((k : ℕ) → work (m + k) ≡ Some o)
