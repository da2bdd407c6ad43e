-- The words of a call: a command, the files that it reads, and its options.
use Rattle.std.specs.Prelude.{◌≡◌, ℕ, ◌^◌, ◌≤◌, List, ◌∷◌, Bool, Option, Some, None, option_map, codes, ⊤}
use Rattle.std.specs.Str.Parse.{IsNumeral, digits_value}
use Rattle.clap.specs.Words.{Row}
use Rattle.sd_words.specs.Arguments.{Kind, running, stepping, printing, checking, planning, matching, word_of, Parse, given, text_of, is_true}
use Rattle.sd_words.specs.declared.asked.Asked.{Asked}
use Rattle.sd_words.specs.declared.asked.Run as asked_run
use Rattle.sd_words.specs.declared.asked.Step as asked_step
use Rattle.sd_words.specs.declared.asked.Command as asked_command
use Rattle.sd_words.specs.declared.asked.Command.TheVariants as variants

-- a run: it may spend so many turns, and so many workers do it
pub record Run : Type 0 where
  pub turns : ℕ
  pub workers : ℕ

-- a run by the picks of a file of this name: it may spend so many turns, and its moves are told before its outcome or not
pub record Step : Type 0 where
  pub picks : List ℕ
  pub turns : ℕ
  pub traces : Bool

-- what is wanted of the files: a run, one by picks, the text of their graph, its race check, its plan, or the rewrites that may be done on it
pub data Command : Type 0 where
  to_run : Run → Command
  to_step : Step → Command
  to_print : Command
  to_check : Command
  to_plan : Command
  to_match : Command

-- the names of the files, a chain file being named or not, and what is wanted of them
pub record Call : Type 0 where
  pub source : List ℕ
  pub arrays : List ℕ
  pub chain : Option (List ℕ)
  pub command : Command

abbrev pub run_of : asked_run.Run → Run
run_of asked = record { turns = asked.turns; workers = asked.workers }

abbrev pub step_of : asked_step.Step → Step
step_of asked = record { picks = asked.picks.now; turns = asked.turns; traces = asked.traces }

abbrev pub command_of : asked_command.Command → Command
command_of (variants.Run run) = to_run (run_of run)
command_of (variants.Step step) = to_step (step_of step)
command_of variants.Print = to_print
command_of variants.Check = to_check
command_of variants.Plan = to_plan
command_of variants.Matches = to_match

abbrev pub call_of : Asked → Call
call_of asked = record {
  source = asked.source.now;
  arrays = asked.arrays.now;
  chain = option_map (λ name. name.now) asked.chain;
  command = command_of asked.command;
}

abbrev pub kind_of : Command → Kind
kind_of (to_run run) = running
kind_of (to_step step) = stepping
kind_of to_print = printing
kind_of to_check = checking
kind_of to_plan = planning
kind_of to_match = matching

-- a word is this number, which is within the limits: it is decimal digits alone
pub record IsNumber (least most : ℕ) (word : List ℕ) (number : ℕ) : Type 0 where
  pub numeral : IsNumeral 10 word
  pub is : digits_value 10 word ≡ number
  pub above : least ≤ number
  pub below : number ≤ most

-- an option tells this number: its word does, or where it is not given there is a number for that
abbrev pub TellsNumber : (otherwise least most : ℕ) → Option (List ℕ) → ℕ → Type 0
TellsNumber otherwise least most None number = number ≡ otherwise
TellsNumber otherwise least most (Some word) number = IsNumber least most word number

-- the turns that a run may spend are 1 to 2^40, and ten million where they are not told
abbrev pub TellsTurns : Option (List ℕ) → ℕ → Type 0
TellsTurns = TellsNumber 10000000 1 (2 ^ 40)

-- the workers of a run are 1 to 64, and one where they are not told
abbrev pub TellsWorkers : Option (List ℕ) → ℕ → Type 0
TellsWorkers = TellsNumber 1 1 64

-- the arguments of a command ask for it: for a run with its turns and workers, for a run by the picks of a file with its turns, traced where the flag is there
abbrev pub AskFor : List Row → Command → Type 0
AskFor arguments (to_run run) = TellsTurns (text_of (codes "turns") arguments) run.turns × TellsWorkers (text_of (codes "workers") arguments) run.workers
AskFor arguments (to_step step) = (text_of (codes "picks") arguments ≡ Some step.picks) × TellsTurns (text_of (codes "turns") arguments) step.turns × (is_true (text_of (codes "trace") arguments) ≡ step.traces)
AskFor arguments to_print = ⊤
AskFor arguments to_check = ⊤
AskFor arguments to_plan = ⊤
AskFor arguments to_match = ⊤

-- the arguments of a command are the files of a call, and ask for what it wants
pub record Give (arguments : List Row) (call : Call) : Type 0 where
  pub source : text_of (codes "source") arguments ≡ Some call.source
  pub arrays : text_of (codes "arrays") arguments ≡ Some call.arrays
  pub chain : text_of (codes "chain") arguments ≡ call.chain
  pub command : AskFor arguments call.command

-- the words are the call: the first names its command, they parse as that command, and its arguments give the call
pub record IsCall (words : List (List ℕ)) (call : Call) : Type 0 where
  pub others : List (List ℕ)
  pub first : words ≡ word_of (kind_of call.command) ∷ others
  pub parse : Parse (kind_of call.command) words
  pub give : Give (given (kind_of call.command) words) call

-- an option is not given, or is a number within the limits
abbrev pub IsWithin : (least most : ℕ) → Option (List ℕ) → Type 0
IsWithin least most None = ⊤
IsWithin least most (Some word) = IsNumeral 10 word × (least ≤ digits_value 10 word) × (digits_value 10 word ≤ most)

-- the numbers among the arguments of a command are within their limits
abbrev pub AreWithin : Kind → List Row → Type 0
AreWithin running arguments = IsWithin 1 (2 ^ 40) (text_of (codes "turns") arguments) × IsWithin 1 64 (text_of (codes "workers") arguments)
AreWithin stepping arguments = IsWithin 1 (2 ^ 40) (text_of (codes "turns") arguments)
AreWithin printing arguments = ⊤
AreWithin checking arguments = ⊤
AreWithin planning arguments = ⊤
AreWithin matching arguments = ⊤

-- the command asks for a run that may spend so many turns
abbrev pub RunsWith : Command → (turns : ℕ) → Type 0
RunsWith (to_run run) turns = run.turns ≡ turns
RunsWith (to_step step) turns = step.turns ≡ turns
RunsWith to_print turns = ⊥
RunsWith to_check turns = ⊥
RunsWith to_plan turns = ⊥
RunsWith to_match turns = ⊥

-- the command makes the race check
abbrev pub MakesRaceCheck : Command → Type 0
MakesRaceCheck (to_run run) = ⊤
MakesRaceCheck (to_step step) = ⊤
MakesRaceCheck to_print = ⊥
MakesRaceCheck to_check = ⊤
MakesRaceCheck to_plan = ⊤
MakesRaceCheck to_match = ⊥
