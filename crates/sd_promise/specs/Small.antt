-- A small source with its arrays as a call is given them, and what is printed.
use Rattle.std.specs.Prelude.{◌≡◌, ℕ, pos, List, [], ◌∷◌, ◌++◌, Some, None, codes}
use Rattle.sd_io.specs.Count.{HasRisen}
use Rattle.sd_num.specs.declared.width.Width.TheVariants.{W64}
use Rattle.sd_work.specs.Memory.{array}
use Rattle.sd_work.specs.Run.{Left}
use Rattle.sd_work.specs.Step.{Outcome, Done}
use Rattle.sd_graph.specs.declared.place.Place.{Place}
use Rattle.sd_parse.specs.grammar.Small.{small_source}
use Rattle.sd_words.specs.Command.{Call, to_run}
use Rattle.sd_tool.specs.Files.{ShelfUse}

-- the size N and the arrays A and B
abbrev pub small_arrays : List ℕ
small_arrays = codes "{\"N\":3,\"A\":[1,2,3],\"B\":[0,0,0]}"

abbrev pub small_words : List (List ℕ)
small_words = codes "run" ∷ codes "inc.py" ∷ codes "inc.json" ∷ []

-- a run of both files as they are, with the turns of a run that tells none, by one worker
abbrev pub small_call : Call
small_call = record { source = codes "inc.py"; arrays = codes "inc.json"; chain = None; command = to_run (record { turns = 10000000; workers = 1 }) }

-- the shelf tells both files, and no count of theirs rises
pub record TellsSmall (shelf : ShelfUse) : Type 0 where
  pub source : shelf.told (codes "inc.py") ≡ Some small_source
  pub arrays : shelf.told (codes "inc.json") ≡ Some small_arrays
  pub source_quiet : ¬ HasRisen (shelf.faults_before (codes "inc.py")) (shelf.faults_after (codes "inc.py"))
  pub arrays_quiet : ¬ HasRisen (shelf.faults_before (codes "inc.json")) (shelf.faults_after (codes "inc.json"))

-- all is done: B has the elements of A and 1 each; a turn is spent for each of them
abbrev pub small_outcome : Outcome Place Left
small_outcome = Done (record { memory = array W64 (pos 1 ∷ pos 2 ∷ pos 3 ∷ []) ∷ array W64 (pos 2 ∷ pos 3 ∷ pos 4 ∷ []) ∷ []; turns = 9999997 })

abbrev pub small_printed : List ℕ
small_printed = codes "A[3] = 1 2 3\n" ++ codes "B[3] = 2 3 4\n"
