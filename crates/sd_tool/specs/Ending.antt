-- How a call ends that has nothing to report, apart from where a name lies in memory.
use Rattle.std.specs.Prelude.{◌≡◌, ⊤, Option, Some, None, Result, Ok, Err}
use Rattle.std.specs.Option.{option_map_or}
use Rattle.sd_graph.specs.TreeFold.{graph_tree}
use Rattle.sd_race.specs.checking.Found.{race_of}
use Rattle.sd_tool.specs.Work.{input_refusal, binding_refusal}
use Rattle.sd_tool.specs.Answer.{Answer, raced, bad_words, source_refused, arrays_refused, chain_refused, condition_fails, picks_refused, read_fault, too_long}
use Rattle.sd_parse.specs.ErrorNumber.{refusal_of}
use Rattle.sd_parse.specs.declared.error.SourceError.{SourceError}
use Rattle.sd_valid.specs.declared.error.BindError.{BindError}
use Rattle.sd_valid.specs.declared.error.BindError.TheVariants as binds
use Rattle.sd_json.specs.declared.error.InputError.{InputError}
use Rattle.sd_json.specs.declared.error.InputError.TheVariants as inputs
use Rattle.sd_chain.specs.declared.error.ChainError.{ChainError}
use Rattle.sd_chain.specs.declared.error.ChainError.TheVariants as chains
use Rattle.sd_chain.specs.declared.error.PicksError.{PicksError}
use Rattle.sd_chain.specs.declared.error.PicksError.TheVariants as picks
use Rattle.sd_tool.specs.declared.ending.Ending.{Ending}
use Rattle.sd_tool.specs.declared.ending.Ending.TheVariants.{Memory, BadWords, Source, Arrays, Chain, Condition, Picks, Race, ReadFault, TooLong}

-- the answer; want of memory is none
abbrev pub answer_of : Ending → Option Answer
answer_of Memory = None
answer_of BadWords = Some bad_words
answer_of (Source refusal) = Some (source_refused refusal)
answer_of (Arrays refusal) = Some (arrays_refused refusal)
answer_of (Chain line) = Some (chain_refused line)
answer_of (Condition line condition) = Some (condition_fails line condition)
answer_of (Picks word) = Some (picks_refused word)
answer_of (Race bound race) = Some (raced (graph_tree bound.graph) (race_of race))
answer_of (ReadFault name) = Some (read_fault name.now)
answer_of (TooLong name) = Some (too_long name.now)

-- the endings that errors of the lower crates are
abbrev pub source_ending : SourceError → Ending
source_ending error = option_map_or Source (refusal_of error) Memory

abbrev pub input_ending : InputError → Ending
input_ending inputs.Memory = Memory
input_ending error = Arrays (input_refusal error)

abbrev pub binding_ending : BindError → Ending
binding_ending binds.Memory = Memory
binding_ending error = Arrays (binding_refusal error)

abbrev pub chain_ending : ChainError → Ending
chain_ending (chains.NoForm line) = Chain line
chain_ending (chains.Condition line condition) = Condition line condition
chain_ending chains.Memory = Memory

abbrev pub picks_ending : PicksError → Ending
picks_ending (picks.NoForm word) = Picks word
picks_ending picks.Memory = Memory

-- the answer is that of the error which a reading is; want of memory has none
abbrev pub Refuses : {X E : Type 0} → (E → Answer) → Result X E → Option Answer → Type 0
Refuses told reading None = ⊤
Refuses told (Ok read) (Some answer) = ⊥
Refuses told (Err error) (Some answer) = answer ≡ told error
