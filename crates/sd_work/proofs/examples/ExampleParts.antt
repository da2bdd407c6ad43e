-- Small terms for the worked examples. A place is a line.
use Rattle.std.proofs.Common.{ℕ, ℤ, pos, List, [], ◌∷◌, Option, Some, None, Ok, Bool, false, slice_index_or, nat_lt}
use Rattle.sd_work.specs.declared.fault.FaultKind.{FaultKind}
use Rattle.sd_work.specs.Memory.{Memory, Reference}
use Rattle.sd_work.specs.Leaf.{Pending, write_value, instance_of}
use Rattle.sd_work.specs.Move.{fault_at}
use Rattle.sd_work.specs.Residual.{Term, leaf, list, Items, Points, begun, Terms, none, also}
use Rattle.sd_work.specs.Step.{Outcome, Done, Faulted, Spent, opening}
use Rattle.sd_work.specs.Run.{Left, run, traced}

abbrev pub cell : (level container element : ℕ) → Option Reference
cell level container element = Some (record { level = level; container = container; element = element })

abbrev pub value_of : List ℤ → ℕ → ℤ
value_of values number = slice_index_or values number (pos 0)

-- a tasklet at this line
abbrev pub task : ℕ → List (Option Reference) → (List ℤ → List Pending) → Term ℕ
task line reads effects = leaf line (instance_of reads (λ values. Ok (effects values)))

-- a tasklet without inputs that writes one value
abbrev pub sets : ℕ → Option Reference → ℤ → Term ℕ
sets line to value = task line [] (λ values. write_value value to None ∷ [])

abbrev pub two : Term ℕ → Term ℕ → Terms ℕ
two first second = also first (also second none)

-- each part is before the later ones
abbrev pub in_turn : ℕ → ℕ → Bool
in_turn j k = nat_lt j k

-- no part is before another
abbrev pub unordered : ℕ → ℕ → Bool
unordered j k = false

-- two items one after the other
abbrev pub then : Term ℕ → Term ℕ → Term ℕ
then first second = list Items in_turn (two first second)

-- the points of a map
abbrev pub points : Terms ℕ → Term ℕ
points parts = list Points unordered parts

-- a graph of one state
abbrev pub graph : Term ℕ → Memory → Term ℕ
graph part memory = begun (λ state values. part) (λ state values. []) memory []

abbrev pub run_of : (picks : List ℕ) → Term ℕ → (turns : ℕ) → Option (Outcome ℕ Left)
run_of picks term turns = run 60 picks (opening term turns)

abbrev pub trace_of : (picks : List ℕ) → Term ℕ → (turns : ℕ) → List (ℕ × ℕ)
trace_of picks term turns = traced 60 picks (opening term turns)

abbrev pub done : Memory → (turns : ℕ) → Option (Outcome ℕ Left)
done memory turns = Some (Done (record { memory = memory; turns = turns }))

abbrev pub faulted : ℕ → FaultKind → Option (Outcome ℕ Left)
faulted line kind = Some (Faulted (fault_at line kind))

abbrev pub spent : Option (Outcome ℕ Left)
spent = Some Spent
