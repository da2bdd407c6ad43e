-- The words of a call: one call, its limits, and when there is one.
use Rattle.std.proofs.Common.{◌≡◌, ◌∙◌, ◌≤◌, ◌<◌, ◌^◌, ℕ, Bool, true, false, not, ◌&&◌, ◌||◌, List, ◌∷◌, Option, Some, None, refl, sym, ap, subst, arith, codes, true≢false}
use Rattle.std.specs.Prelude.{unwrap_or}
use Rattle.std.specs.List.{list_all, list_any}
use Rattle.std.specs.Str.Parse.{digits_value}
use Rattle.clap.specs.Words.{Row, Text, built}
use Rattle.clap.specs.Simple.{argument_words}
use Rattle.clap.specs.Takes.{is_given}
use Rattle.sd_words.specs.Arguments.{Kind, running, stepping, printing, checking, planning, matching, word_of, declared, given, text_of, is_true, Parse}
use Rattle.sd_words.specs.Command.{Run, Step, Command, to_run, to_step, to_print, to_check, to_plan, to_match, Call, AskFor, AreWithin, Give, IsCall, IsWithin, TellsNumber, RunsWith, kind_of}
use Rattle.sd_words.proofs.KindOfCall.{is_run, is_step, kind_told, call_of_kind}
use Rattle.sd_words.proofs.Values.{have_values, is_fine, rows_have_values, required_given, given_text}

-- ---- one call

some_is : {X : Type 0} (x y : X) → Some x ≡ Some y → x ≡ y
some_is x y same = ap (λ o. unwrap_or o x) same

one_number : (otherwise least most : ℕ) (text : Option Text) (a b : ℕ) → TellsNumber otherwise least most text a → TellsNumber otherwise least most text b → a ≡ b
one_number otherwise least most None a b x y = x ∙ sym y
one_number otherwise least most (Some word) a b x y = sym x.is ∙ y.is

same_run : (a b : Run) → a.turns ≡ b.turns → a.workers ≡ b.workers → a ≡ b
same_run a b turns workers = λ i. record { turns = turns i; workers = workers i }

same_step : (a b : Step) → a.picks ≡ b.picks → a.turns ≡ b.turns → a.traces ≡ b.traces → a ≡ b
same_step a b picks turns traces = λ i. record { picks = picks i; turns = turns i; traces = traces i }

-- the command of a kind that has no more than the files
abbrev plain : Kind → Command
plain running = to_print
plain stepping = to_print
plain printing = to_print
plain checking = to_check
plain planning = to_plan
plain matching = to_match

is_plain : (command : Command) → (kind_of command ≡ running → ⊥) → (kind_of command ≡ stepping → ⊥) → plain (kind_of command) ≡ command
is_plain (to_run run) no_run no_step = absurd (no_run refl)
is_plain (to_step step) no_run no_step = absurd (no_step refl)
is_plain to_print no_run no_step = refl
is_plain to_check no_run no_step = refl
is_plain to_plan no_run no_step = refl
is_plain to_match no_run no_step = refl

as_plain : (kind : Kind) (other : Command) → kind ≡ kind_of other → (kind ≡ running → ⊥) → (kind ≡ stepping → ⊥) → plain kind ≡ other
as_plain kind other same no_run no_step = ap plain same ∙ is_plain other (λ is. no_run (same ∙ is)) (λ is. no_step (same ∙ is))

one_command : (rows : List Row) (one other : Command) → kind_of one ≡ kind_of other → AskFor rows one → AskFor rows other → one ≡ other
one_command rows (to_run run) other same x y =
    let is = is_run other (sym same) in
    let z = subst (AskFor rows) is.1 y in
    ap to_run (same_run run is.0 (one_number 10000000 1 (2 ^ 40) _ run.turns is.0.turns x.0 z.0) (one_number 1 1 64 _ run.workers is.0.workers x.1 z.1)) ∙ sym is.1
one_command rows (to_step step) other same x y =
    let is = is_step other (sym same) in
    let z = subst (AskFor rows) is.1 y in
    ap to_step (same_step step is.0 (some_is step.picks is.0.picks (sym x.0 ∙ z.0)) (one_number 10000000 1 (2 ^ 40) _ step.turns is.0.turns x.1 z.1) (sym x.2 ∙ z.2)) ∙ sym is.1
one_command rows to_print other same x y = as_plain printing other same (λ e. cc) (λ e. cc)
one_command rows to_check other same x y = as_plain checking other same (λ e. cc) (λ e. cc)
one_command rows to_plan other same x y = as_plain planning other same (λ e. cc) (λ e. cc)
one_command rows to_match other same x y = as_plain matching other same (λ e. cc) (λ e. cc)

same_call : (a b : Call) → a.source ≡ b.source → a.arrays ≡ b.arrays → a.chain ≡ b.chain → a.command ≡ b.command → a ≡ b
same_call a b source arrays chain command = λ i. record { source = source i; arrays = arrays i; chain = chain i; command = command i }

one_call : (rows : List Row) (a b : Call) → kind_of a.command ≡ kind_of b.command → Give rows a → Give rows b → a ≡ b
one_call rows a b same x y =
    same_call a b (some_is a.source b.source (sym x.source ∙ y.source)) (some_is a.arrays b.arrays (sym x.arrays ∙ y.arrays)) (sym x.chain ∙ y.chain)
    (one_command rows a.command b.command same x.command y.command)

pub IsCall-unique : (words : List Text) (one other : Call) → IsCall words one → IsCall words other → one ≡ other
IsCall-unique words one other x y =
    let same = kind_told (kind_of one.command) words x.others other x.first y in
    one_call (given (kind_of one.command) words) one other (sym same) x.give (subst (λ k. Give (given k words) other) same y.give)

-- ---- limits

kept : (otherwise least most : ℕ) (text : Option Text) (number : ℕ) → least ≤ otherwise → otherwise ≤ most → TellsNumber otherwise least most text number → (least ≤ number) × (number ≤ most)
kept otherwise least most None number low high is = (subst (λ n. least ≤ n) (sym is) low, subst (λ n. n ≤ most) (sym is) high)
kept otherwise least most (Some word) number low high is = (is.above, is.below)

turns_kept : (text : Option Text) (turns : ℕ) → TellsNumber 10000000 1 (2 ^ 40) text turns → (1 ≤ turns) × (turns ≤ 2 ^ 40)
turns_kept text turns told = kept 10000000 1 (2 ^ 40) text turns (omega arith) (omega arith) told

command_turns : (rows : List Row) (command : Command) (turns : ℕ) → AskFor rows command → RunsWith command turns → (1 ≤ turns) × (turns ≤ 2 ^ 40)
command_turns rows (to_run run) turns asks is = subst (λ n. (1 ≤ n) × (n ≤ 2 ^ 40)) is (turns_kept _ run.turns asks.0)
command_turns rows (to_step step) turns asks is = subst (λ n. (1 ≤ n) × (n ≤ 2 ^ 40)) is (turns_kept _ step.turns asks.1)
command_turns rows to_print turns asks is = absurd is
command_turns rows to_check turns asks is = absurd is
command_turns rows to_plan turns asks is = absurd is
command_turns rows to_match turns asks is = absurd is

pub turns_are_kept : (words : List Text) (call : Call) (turns : ℕ) → IsCall words call → RunsWith call.command turns → (1 ≤ turns) × (turns ≤ 2 ^ 40)
turns_are_kept words call turns is runs = command_turns (given (kind_of call.command) words) call.command turns is.give.command runs

pub workers_are_kept : (words : List Text) (call : Call) (run : Run) → IsCall words call → call.command ≡ to_run run → (1 ≤ run.workers) × (run.workers ≤ 64)
workers_are_kept words call run is command =
    let asks = subst (AskFor (given (kind_of call.command) words)) command is.give.command in
    kept 1 1 64 _ run.workers (omega arith) (omega arith) asks.1

-- all that is told of the numbers of a run
pub run_limits : (words : List Text) (call : Call) (run : Run) → IsCall words call → call.command ≡ to_run run → (1 ≤ run.turns) × (run.turns ≤ 2 ^ 40) × (0 < run.workers) × (run.workers ≤ 64)
run_limits words call run is command =
    let turns = turns_are_kept words call run.turns is (subst (λ c. RunsWith c run.turns) (sym command) refl) in
    let workers = workers_are_kept words call run is command in
    (turns.0, turns.1, workers.0, workers.1)

-- ---- words that parse

fine : (kind : Kind) → list_all is_fine (built (declared kind)).top.rules ≡ true
fine running = refl
fine stepping = refl
fine printing = refl
fine checking = refl
fine planning = refl
fine matching = refl

values_given : (kind : Kind) (words : List Text) → Parse kind words → have_values (given kind words) ≡ true
values_given kind words parse = rows_have_values (built (declared kind)).top (argument_words (built (declared kind)) words) _ _ (fine kind) parse

given_there : (kind : Kind) (words : List Text) → Parse kind words → list_any (λ a. a.required && not (is_given a.id (given kind words))) (built (declared kind)).top.rules ≡ false
given_there kind words parse = required_given (built (declared kind)).top (argument_words (built (declared kind)) words) _ _ refl parse

neither : (a b : Bool) → (a || b) ≡ false → (a ≡ false) × (b ≡ false)
neither true b none = absurd (true≢false none)
neither false b none = (refl, none)

not_false : (a : Bool) → not a ≡ false → a ≡ true
not_false true is = refl
not_false false is = absurd (true≢false is)

text_there : (kind : Kind) (words : List Text) (name : Text) → Parse kind words → not (is_given name (given kind words)) ≡ false → (text : Text) × (text_of name (given kind words) ≡ Some text)
text_there kind words name parse given_is = given_text name (given kind words) (values_given kind words parse) (not_false _ given_is)

source_there : (kind : Kind) (words : List Text) → Parse kind words → (text : Text) × (text_of (codes "source") (given kind words) ≡ Some text)
source_there kind words parse = text_there kind words (codes "source") parse (neither _ _ (given_there kind words parse)).0

arrays_there : (kind : Kind) (words : List Text) → Parse kind words → (text : Text) × (text_of (codes "arrays") (given kind words) ≡ Some text)
arrays_there kind words parse = text_there kind words (codes "arrays") parse (neither _ _ (neither _ _ (given_there kind words parse)).1).0

picks_there : (words : List Text) → Parse stepping words → (text : Text) × (text_of (codes "picks") (given stepping words) ≡ Some text)
picks_there words parse = text_there stepping words (codes "picks") parse (neither _ _ (neither _ _ (neither _ _ (given_there stepping words parse)).1).1).0

number_there : (otherwise least most : ℕ) (text : Option Text) → IsWithin least most text → (number : ℕ) × TellsNumber otherwise least most text number
number_there otherwise least most None within = (otherwise, refl)
number_there otherwise least most (Some word) within = (digits_value 10 word, record { numeral = within.0; is = refl; above = within.1; below = within.2 })

command_there : (kind : Kind) (words : List Text) → Parse kind words → AreWithin kind (given kind words) → (command : Command) × (kind_of command ≡ kind) × AskFor (given kind words) command
command_there running words parse within =
    let turns = number_there 10000000 1 (2 ^ 40) (text_of (codes "turns") (given running words)) within.0 in
    let workers = number_there 1 1 64 (text_of (codes "workers") (given running words)) within.1 in
    (to_run (record { turns = turns.0; workers = workers.0 }), refl, (turns.1, workers.1))
command_there stepping words parse within =
    let turns = number_there 10000000 1 (2 ^ 40) (text_of (codes "turns") (given stepping words)) within in
    let picks = picks_there words parse in
    (to_step (record { picks = picks.0; turns = turns.0; traces = is_true (text_of (codes "trace") (given stepping words)) }), refl, (picks.1, turns.1, refl))
command_there printing words parse within = (to_print, refl, tt)
command_there checking words parse within = (to_check, refl, tt)
command_there planning words parse within = (to_plan, refl, tt)
command_there matching words parse within = (to_match, refl, tt)

pub call_there : (kind : Kind) (words others : List Text) → words ≡ word_of kind ∷ others → Parse kind words → AreWithin kind (given kind words) → (call : Call) × IsCall words call
call_there kind words others are parse within =
    let command = command_there kind words parse within in
    let source = source_there kind words parse in
    let arrays = arrays_there kind words parse in
    let call : Call = record { source = source.0; arrays = arrays.0; chain = text_of (codes "chain") (given kind words); command = command.0 } in (
      call,
      call_of_kind kind words others call are (record {
        kind_is = command.1;
        parse = parse;
        give = record { source = source.1; arrays = arrays.1; chain = refl; command = command.2 };
      }),
    )
