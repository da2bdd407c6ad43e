use Rattle.std.proofs.Common.{◌∙◌, sym, ap, List, ℕ, map}
use Rattle.std.specs.Prelude.{string_bytes}
use Rattle.sd_line.specs.line.Repetition.{names_from}
use Rattle.sd_line.proofs.line_lemmas.NamesLemmas.{all_names, names_stop, names_more, names_pushed}
use Rattle.sd_line.proofs.line.body.repetition.read_names.Goals as goal

pub returns-in-None-clause-names : goal.returns-in-None-clause-names
returns-in-None-clause-names c =
    let known = names_pushed c.loop-name.names.items c.push.new.list.items c.in_ok-name.name _ c.in_ok-push.ensures c.in_ok-name.ensures in
    sym c.loop-name.invariant.same
    ∙ names_stop c.args.text.now (map string_bytes c.loop-name.names.items) c.loop-name.left.now c.in-Some.rest.now _ c.in-Some.ensures.rest c.in-None.ensures.rest
    ∙ ap (λ (names : List (List ℕ)). all_names names c.in-Some.rest.now) (sym known)

pub loop-name-preserved : goal.loop-name-preserved
loop-name-preserved c =
    let known = names_pushed c.loop-name.names.items c.push.new.list.items c.in_ok-name.name _ c.in_ok-push.ensures c.in_ok-name.ensures in
    record {
      inside = c.in-Some-next.ensures.inside;
      same = ap (λ (names : List (List ℕ)). names_from c.args.text.now names c.in-Some-next.more.now) known
          ∙ sym (names_more c.args.text.now (map string_bytes c.loop-name.names.items) c.loop-name.left.now c.in-Some.rest.now c.in-Some-next.more.now _ c.in-Some.ensures.rest c.in-Some-next.ensures.rest)
          ∙ c.loop-name.invariant.same;
    }
