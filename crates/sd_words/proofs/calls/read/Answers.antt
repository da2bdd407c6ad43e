use Rattle.std.proofs.Common.{◌≡◌, ◌∷◌, drop, map, string_bytes, sym}
use Rattle.std.proofs.lemmas.Result.{IfOk-weaker}
use Rattle.sd_words.specs.Arguments.{running, stepping, printing, checking, planning, matching, word_of}
use Rattle.sd_words.proofs.KindOfCall.{begins_with, finds_of_kind}
use Rattle.sd_words.proofs.calls.read.Goals as goal

pub returns-in-run : goal.returns-in-run
returns-in-run c =
    let are : map string_bytes c.args.words.now ≡ word_of running ∷ map string_bytes (drop 1 c.args.words.now) =
    begins_with string_bytes c.args.words.now c.in-Some.first.now c.as_str.result.now (word_of running) (sym c.in-Some.ensures.value) c.as_str.ensures.value c.in-run.is in
    IfOk-weaker c.run.result _ _ (finds_of_kind running (map string_bytes c.args.words.now) (map string_bytes (drop 1 c.args.words.now)) are) c.run.ensures

pub returns-in-step : goal.returns-in-step
returns-in-step c =
    let are : map string_bytes c.args.words.now ≡ word_of stepping ∷ map string_bytes (drop 1 c.args.words.now) =
    begins_with string_bytes c.args.words.now c.in-Some.first.now c.as_str.result.now (word_of stepping) (sym c.in-Some.ensures.value) c.as_str.ensures.value c.in-step.is in
    IfOk-weaker c.step.result _ _ (finds_of_kind stepping (map string_bytes c.args.words.now) (map string_bytes (drop 1 c.args.words.now)) are) c.step.ensures

pub returns-in-print : goal.returns-in-print
returns-in-print c =
    let are : map string_bytes c.args.words.now ≡ word_of printing ∷ map string_bytes (drop 1 c.args.words.now) =
    begins_with string_bytes c.args.words.now c.in-Some.first.now c.as_str.result.now (word_of printing) (sym c.in-Some.ensures.value) c.as_str.ensures.value c.in-print.is in
    IfOk-weaker c.other.result _ _ (finds_of_kind printing (map string_bytes c.args.words.now) (map string_bytes (drop 1 c.args.words.now)) are) c.other.ensures

pub returns-in-check : goal.returns-in-check
returns-in-check c =
    let are : map string_bytes c.args.words.now ≡ word_of checking ∷ map string_bytes (drop 1 c.args.words.now) =
    begins_with string_bytes c.args.words.now c.in-Some.first.now c.as_str.result.now (word_of checking) (sym c.in-Some.ensures.value) c.as_str.ensures.value c.in-check.is in
    IfOk-weaker c.other-in-check.result _ _ (finds_of_kind checking (map string_bytes c.args.words.now) (map string_bytes (drop 1 c.args.words.now)) are) c.other-in-check.ensures

pub returns-in-plan : goal.returns-in-plan
returns-in-plan c =
    let are : map string_bytes c.args.words.now ≡ word_of planning ∷ map string_bytes (drop 1 c.args.words.now) =
    begins_with string_bytes c.args.words.now c.in-Some.first.now c.as_str.result.now (word_of planning) (sym c.in-Some.ensures.value) c.as_str.ensures.value c.in-plan.is in
    IfOk-weaker c.other-in-plan.result _ _ (finds_of_kind planning (map string_bytes c.args.words.now) (map string_bytes (drop 1 c.args.words.now)) are) c.other-in-plan.ensures

pub returns-in-matches : goal.returns-in-matches
returns-in-matches c =
    let are : map string_bytes c.args.words.now ≡ word_of matching ∷ map string_bytes (drop 1 c.args.words.now) =
    begins_with string_bytes c.args.words.now c.in-Some.first.now c.as_str.result.now (word_of matching) (sym c.in-Some.ensures.value) c.as_str.ensures.value c.in-matches.is in
    IfOk-weaker c.other-in-matches.result _ _ (finds_of_kind matching (map string_bytes c.args.words.now) (map string_bytes (drop 1 c.args.words.now)) are) c.other-in-matches.ensures
