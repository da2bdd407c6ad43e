-- What a call that may want memory answers where it is to give a meaning.
use Rattle.std.specs.Prelude.{◌≡◌, Result, Ok, Err, ⊤}
use Rattle.sd_graph.specs.TaskletMeaning.{Meaning}
use Rattle.sd_work.specs.declared.fault.FaultKind.{FaultKind}
use Rattle.sd_work.specs.declared.fault.FaultKind.TheVariants.{Division, Subscript}
use Rattle.sd_tasklet.specs.declared.tasklet.fault.TaskFault.{TaskFault}
use Rattle.sd_tasklet.specs.declared.tasklet.fault.TaskFault.TheVariants as answer

-- a fault of the code as an answer
abbrev pub fault_of : FaultKind → TaskFault
fault_of Division = answer.Division
fault_of Subscript = answer.Subscript

-- the fault is meant; want of memory may come at any time
abbrev pub Faults : {A : Type 0} → TaskFault → Meaning A → Type 0
Faults answer.Division meant = meant ≡ Err Division
Faults answer.Subscript meant = meant ≡ Err Subscript
Faults answer.Memory meant = ⊤

-- the value is meant, or the fault
abbrev pub Answers : {A : Type 0} → Result A TaskFault → Meaning A → Type 0
Answers (Ok value) meant = meant ≡ Ok value
Answers (Err fault) meant = Faults fault meant

-- what is there after the call is meant, or the fault
abbrev pub AnswersBy : {A : Type 0} → (after : A) → Result (Unit {0}) TaskFault → Meaning A → Type 0
AnswersBy after (Ok done) meant = meant ≡ Ok after
AnswersBy after (Err fault) meant = Faults fault meant

-- the value is told so, or the fault is meant
abbrev pub AnswersWith : {A B : Type 0} → (told : A → B) → Result A TaskFault → Meaning B → Type 0
AnswersWith told (Ok value) meant = meant ≡ Ok (told value)
AnswersWith told (Err fault) meant = Faults fault meant
