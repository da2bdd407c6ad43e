-- Effects as they are kept: the index has four numbers, those behind the dimensions of the connector are zeros.
use Rattle.std.specs.Prelude.{◌≡◌, ℕ, ◌-◌, ℤ, pos, unsigned_abs, List, ◌++◌, length, map, take, drop, replicate, Ok}
use Rattle.sd_graph.specs.PlainTree.{ValueTree, ValueTrees}
use Rattle.sd_graph.specs.TaskletMeaning as meaning
use Rattle.sd_tasklet.specs.declared.tasklet.effect.Effect.{Effect}
use Rattle.sd_tasklet.specs.declared.tasklet.effect.Effects.{Effects}

-- the sizes of the numbers of an index, and zeros behind them up to four
abbrev pub filled : List ℤ → List ℕ
filled at = map unsigned_abs at ++ replicate (4 - length at) 0

-- how many numbers the index of an effect has
abbrev pub dimensions_of : meaning.Inputs → Effect → ℕ
dimensions_of inputs effect = length (meaning.extents_of_connector inputs effect.connector)

-- the effect that is kept so
abbrev pub told : meaning.Inputs → Effect → meaning.Effect
told inputs effect = record { connector = effect.connector; at = map pos (take (dimensions_of inputs effect) effect.at); value = effect.value }

-- nothing but zeros stands behind the index
abbrev pub IsFilled : meaning.Inputs → Effect → Type 0
IsFilled inputs effect = drop (dimensions_of inputs effect) effect.at ≡ replicate (4 - dimensions_of inputs effect) 0

-- what a tasklet has come to, with effects that are kept so
abbrev pub come_to : meaning.Inputs → (locals : List ℤ) → (effects : List Effect) → meaning.Progress
come_to inputs locals effects = record { locals = locals; effects = map (told inputs) effects }

-- the meaning of one assignment: where it goes, and its value
abbrev pub assignment_of : meaning.Inputs → (locals : List ℤ) → (connector : ℕ) → (at : ValueTrees) → (value : ValueTree) → meaning.Meaning meaning.Effect
assignment_of inputs locals connector at value =
    meaning.and_then (meaning.place_of inputs connector (meaning.values_of inputs locals at))
    (λ at. meaning.and_then (meaning.value_of inputs locals value) (λ value. Ok (record { connector = connector; at = at; value = value })))

-- effects that are kept so
abbrev pub told_effects : meaning.Inputs → Effects → List meaning.Effect
told_effects inputs effects = map (told inputs) effects.list
