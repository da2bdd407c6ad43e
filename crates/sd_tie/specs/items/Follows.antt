-- Work that comes to an outcome wherever enough transitions and takes are allowed.
use Rattle.std.specs.Prelude.{◌≡◌, ℕ, ◌+◌, Some}
use Rattle.sd_work.specs.Step.{Outcome}
use Rattle.sd_work.specs.BigStep.{Reached, Coming}
use Rattle.sd_graph.specs.declared.place.Place.{Place}

-- from some number on it comes to this
abbrev pub Follows : (ℕ → Coming Place) → Outcome Place Reached → Type 0
Follows work outcome = (least : ℕ) × ((more : ℕ) → work (least + more) ≡ Some outcome)
