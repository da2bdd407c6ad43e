-- What the words of each command come to.
use Rattle.std.proofs.Common.{◌≡◌, ◌∙◌, ℕ, List, [], ◌∷◌, Option, Some, None, MatchOption, refl, sym, ap, subst, cond, drop, map, slice_index, ◌==◌}
use Rattle.std.specs.Prelude.{slice_get, unwrap_or}
use Rattle.clap.specs.Words.{App, Row, Text, fault_of, matches_of}
use Rattle.sd_words.specs.Finding.{Finds}
use Rattle.sd_words.specs.Arguments.{Kind, running, stepping, printing, checking, planning, matching, word_of, declared, given, Parse}
use Rattle.sd_words.specs.Command.{Run, Step, Command, to_run, to_step, to_print, to_check, to_plan, to_match, Call, Give, IsCall, kind_of, command_of, call_of}
use Rattle.sd_words.specs.Parsed.{IsCallOf}
use Rattle.sd_words.specs.declared.asked.Asked.{Asked}
use Rattle.sd_words.specs.declared.asked.Command as asked_command

-- ---- the kinds of commands

pub is_run : (command : Command) → kind_of command ≡ running → (run : Run) × (command ≡ to_run run)
is_run (to_run run) same = (run, refl)
is_run (to_step step) same = cc
is_run to_print same = cc
is_run to_check same = cc
is_run to_plan same = cc
is_run to_match same = cc

pub is_step : (command : Command) → kind_of command ≡ stepping → (step : Step) × (command ≡ to_step step)
is_step (to_run run) same = cc
is_step (to_step step) same = (step, refl)
is_step to_print same = cc
is_step to_check same = cc
is_step to_plan same = cc
is_step to_match same = cc

-- the command with which a word is another, by its second letter
abbrev second_letter : Text → ℕ
second_letter word = slice_index word 1

abbrev kind_by : ℕ → Kind
kind_by letter =
    cond (letter == 117) running (cond (letter == 116) stepping (cond (letter == 114) printing
    (cond (letter == 104) checking (cond (letter == 108) planning matching))))

kind_read : (kind : Kind) → kind_by (second_letter (word_of kind)) ≡ kind
kind_read running = refl
kind_read stepping = refl
kind_read printing = refl
kind_read checking = refl
kind_read planning = refl
kind_read matching = refl

-- two kinds with one word are one
pub same_kind : (one other : Kind) → word_of one ≡ word_of other → one ≡ other
same_kind one other words = sym (kind_read one) ∙ ap (λ word. kind_by (second_letter word)) words ∙ kind_read other

abbrev first_word : List Text → Text
first_word [] = []
first_word (word ∷ others) = word

-- the first of the words tells the kind of the call
pub kind_told : (kind : Kind) (words others : List Text) (call : Call) → words ≡ word_of kind ∷ others → IsCall words call → kind_of call.command ≡ kind
kind_told kind words others call are is = same_kind (kind_of call.command) kind (ap first_word (sym is.first ∙ are))

-- ---- a call of one command is a call

pub call_of_kind : (kind : Kind) (words others : List Text) (call : Call) → words ≡ word_of kind ∷ others → IsCallOf kind words call → IsCall words call
call_of_kind kind words others call are is = record {
  others = others;
  first = are ∙ ap (λ k. word_of k ∷ others) (sym is.kind_is);
  parse = subst (λ k. Parse k words) (sym is.kind_is) is.parse;
  give = subst (λ k. Give (given k words) call) (sym is.kind_is) is.give;
}

pub kind_of_call : (kind : Kind) (words others : List Text) (call : Call) → words ≡ word_of kind ∷ others → IsCall words call → IsCallOf kind words call
kind_of_call kind words others call are is =
    let told = kind_told kind words others call are is in
    record {
      kind_is = told;
      parse = subst (λ k. Parse k words) told is.parse;
      give = subst (λ k. Give (given k words) call) told is.give;
    }

pub finds_of_kind : (kind : Kind) (words others : List Text) → words ≡ word_of kind ∷ others → (found : Option Asked) → Finds call_of (IsCallOf kind words) found → Finds call_of (IsCall words) found
finds_of_kind kind words others are None finds = λ other call. finds other (kind_of_call kind words others other are call)
finds_of_kind kind words others are (Some asked) finds = call_of_kind kind words others (call_of asked) are finds

-- ---- what the arguments give

-- the files, with what is asked of them, are the call
pub found_call : (kind : Kind) (app : App) (words : List Text) (rows : List Row) (command : asked_command.Command) (found : Option Asked) → app ≡ declared kind → kind_of (command_of command) ≡ kind
    → fault_of app words ≡ [] → rows ≡ matches_of app words
    → MatchOption found ((other : Call) → Give rows other → ⊥) (λ asked. Give rows (call_of asked) × (asked.command ≡ command)) → Finds call_of (IsCallOf kind words) found
found_call kind app words rows command None is same none are gives = λ other call. gives other (subst (λ r. Give r other) (sym (are ∙ ap (λ a. matches_of a words) is)) call.give)
found_call kind app words rows command (Some asked) is same none are gives = record {
  kind_is = ap (λ c. kind_of (command_of c)) gives.1 ∙ same;
  parse = sym (ap (λ a. fault_of a words) is) ∙ none;
  give = subst (λ r. Give r (call_of asked)) (are ∙ ap (λ a. matches_of a words) is) gives.0;
}

-- a list whose first item is read is that item before the others
pub begins_with : {X : Type 0} (read : X → Text) (words : List X) (first : X) (text word : Text) → slice_get words 0 ≡ Some first → text ≡ read first → text ≡ word
    → map read words ≡ word ∷ map read (drop 1 words)
begins_with read [] first text word is same known = cc
begins_with read (x ∷ xs) first text word is same known = ap (λ w. w ∷ map read xs) (ap read (some_is x first is) ∙ sym same ∙ known)
  where
    some_is : {Y : Type 0} (y z : Y) → Some y ≡ Some z → y ≡ z
    some_is y z e = ap (λ o. unwrap_or o y) e
