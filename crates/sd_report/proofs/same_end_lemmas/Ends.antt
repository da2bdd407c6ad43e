-- What is told of a run by picks is the end of the sequential run.
use Rattle.std.proofs.Common.{ℕ, List, [], ◌∷◌, refl, sym, subst}
use Rattle.sd_work.specs.Memory.{Contents, array, stream, Memory}
use Rattle.sd_work.specs.Residual.{Term}
use Rattle.sd_work.specs.Step.{Outcome, Done, Faulted, Spent}
use Rattle.sd_work.specs.Run.{Left, Run, Sequential}
use Rattle.sd_confluence.specs.Safe.{MayInterleave}
use Rattle.sd_confluence.specs.Alike.{AreContentsAlike, AreAlike}
use Rattle.sd_confluence.proofs.runs.Interleavings.{every-run}
use Rattle.sd_report.specs.same_end.Told.{TellsEnd, IsTold, EndAlike}

-- ---- what ends as it ends ends the same

contents_alike : (contents : Contents) → AreContentsAlike contents contents
contents_alike (array width elements) = (refl, refl)
contents_alike (stream width values) = (refl, λ value. refl)

memory_alike : (memory : Memory) → AreAlike memory memory
memory_alike [] = tt
memory_alike (contents ∷ memory) = (contents_alike contents, memory_alike memory)

pub same_end : {P : Type 0} (end : Outcome P Left) → EndAlike end end
same_end (Done left) = record { memory = memory_alike left.memory; turns = refl }
same_end (Faulted fault) = refl
same_end Spent = refl

-- ---- what is told

module _ {P : Type 0} (term : Term P) (turns : ℕ) (picks : List ℕ) (may : MayInterleave term) where
  abbrev IsSequential : Outcome P Left → Type 0
  IsSequential told = (end : Outcome P Left) × Sequential term turns end × EndAlike told end

  of_done : (left : Left) → Run term turns picks (Done left) → IsSequential (Done left)
  of_done left run = let found = every-run term turns picks [] left may run in (Done found.0, found.1, found.2)

  of_picked : (picked told : Outcome P Left) → Run term turns picks picked → TellsEnd term turns picked told → IsSequential told
  of_picked (Done left) told run tells = subst IsSequential (sym tells) (of_done left run)
  of_picked (Faulted fault) told run tells = (told, tells, same_end told)
  of_picked Spent told run tells = (told, tells, same_end told)

  pub told_is_sequential : (told : Outcome P Left) → IsTold term turns picks told → IsSequential told
  told_is_sequential told is = of_picked is.picked told is.run is.tells

-- ---- something is told

module _ {P : Type 0} (term : Term P) (turns : ℕ) (picks : List ℕ) where
  of_outcome : (picked : Outcome P Left) → Run term turns picks picked → ((end : Outcome P Left) × Sequential term turns end) → (told : Outcome P Left) × IsTold term turns picks told
  of_outcome (Done left) run sequential = (Done left, record { picked = Done left; run = run; tells = refl })
  of_outcome (Faulted fault) run sequential = (sequential.0, record { picked = Faulted fault; run = run; tells = sequential.1 })
  of_outcome Spent run sequential = (sequential.0, record { picked = Spent; run = run; tells = sequential.1 })

  pub something_is_told : ((others : List ℕ) → (end : Outcome P Left) × Run term turns others end) → (told : Outcome P Left) × IsTold term turns picks told
  something_is_told ends = let picked = ends picks in of_outcome picked.0 picked.1 (ends [])
