use Rattle.std.proofs.Common.{◌≡◌, ◌∷◌, false, Some, sym, ap, ◌∙◌, arith, option_and_then}
use Rattle.json.specs.Token.{Token}
use Rattle.json.specs.Json.{value}
use Rattle.serde_json.specs.Find.{as_object}
use Rattle.sd_json.specs.Walk.{opens_object}
use Rattle.sd_json.proofs.Converting.{whole}
use Rattle.sd_json.proofs.WholeText.{no_object, one_object, object_and_more, refused_object}
use Rattle.sd_json.proofs.object.read_object.Goals as goal

pub returns-then-not-take_brace-clause-err : goal.returns-then-not-take_brace-clause-err
returns-then-not-take_brace-clause-err c refused =
    let none : opens_object c.in_ok-reader.reader ≡ false = c.if-not-take_brace.ensures in
    ap (λ ts. option_and_then as_object (whole (value 127 ts))) (sym c.in_ok-reader.ensures.ok) ∙ no_object c.in_ok-reader.reader none

pub returns-in_err-kept-clause-err : goal.returns-in_err-kept-clause-err
returns-in_err-kept-clause-err c refused =
    let brace : c.in_ok-reader.reader ≡ Token.begin_object ∷ c.take_brace.new.reader = c.if-not-take_brace.ensures in
    ap (λ ts. option_and_then as_object (whole (value 127 ts))) (sym c.in_ok-reader.ensures.ok ∙ brace) ∙ refused_object c.take_brace.new.reader (c.read_members.ensures.err (grind arith))

pub returns-in-Some-clause-err : goal.returns-in-Some-clause-err
returns-in-Some-clause-err c refused =
    let brace : c.in_ok-reader.reader ≡ Token.begin_object ∷ c.take_brace.new.reader = c.if-not-take_brace.ensures in
    let found = c.in_ok-kept.ensures.ok in
    ap (λ ts. option_and_then as_object (whole (value 127 ts))) (sym c.in_ok-reader.ensures.ok ∙ brace)
    ∙ object_and_more c.take_brace.new.reader c.next.new.self _ found.0 (found.1 ∙ ap (λ rest. Some (found.0, rest)) c.in-Some.ensures.value)

pub returns-in-None-clause-ok : goal.returns-in-None-clause-ok
returns-in-None-clause-ok c =
    let brace : c.in_ok-reader.reader ≡ Token.begin_object ∷ c.take_brace.new.reader = c.if-not-take_brace.ensures in
    let found = c.in_ok-kept.ensures.ok in (
      found.0,
      ap (λ ts. option_and_then as_object (whole (value 127 ts))) (sym c.in_ok-reader.ensures.ok ∙ brace)
          ∙ one_object c.take_brace.new.reader found.0 (found.1 ∙ ap (λ rest. Some (found.0, rest)) c.in-None.ensures.value.0),
      found.2,
    )
