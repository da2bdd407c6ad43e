use Rattle.std.proofs.Common.{◌≡◌, ◌+◌, [], ◌∷◌, ◌++◌, drop, sym, ◌∙◌, ap, arith}
use Rattle.std.proofs.lemmas.List.{take_rest}
use Rattle.sd_lex.specs.FoundAt.{found_at}
use Rattle.sd_lex.specs.Reading.{after}
use Rattle.sd_lex.specs.Line.{tokens_from}
use Rattle.sd_lex.specs.declared.token.Token.{Token}
use Rattle.sd_lex.proofs.LineLemmas.{ends_within, line-blank, line-wide, line-token, after-after, after-error}
use Rattle.sd_lex.proofs.line.push_line.Goals as goal

pub loop-at-preserved-then-is_blank : goal.loop-at-preserved-then-is_blank
loop-at-preserved-then-is_blank c = record {
  within = omega arith;
  rest = ap (after c.loop-at.tokens.items) (sym (line-blank c.args.number c.args.from c.args.bytes.now c.loop-at.at c.loop-at-test.true (sym c.is_blank.ensures ∙ c.if-is_blank.true))) ∙ c.loop-at.invariant.rest;
}

pub returns-in-NumberTooWide-clause-err : goal.returns-in-NumberTooWide-clause-err
returns-in-NumberTooWide-clause-err c = λ _.
    let found = ap found_at (sym (take_rest c.args.bytes.now c.loop-at.at)) ∙ sym c.in-NumberTooWide.ensures.value in
    let wide = line-wide c.args.number c.args.from c.args.bytes.now c.loop-at.at c.loop-at-test.true (sym c.is_blank.ensures ∙ c.if-is_blank.false) (sym c.is_comment.ensures ∙ c.if-is_comment.false) found in
    after-error c.args.tokens.now.items _ _ (sym c.loop-at.invariant.rest ∙ ap (after c.loop-at.tokens.items) wide)

pub loop-at-preserved : goal.loop-at-preserved
loop-at-preserved c =
    let i = c.loop-at.at in
    let length = c.in-Token.length in
    let token : Token = record { kind = c.in-Token.kind; from = c.args.from + i; to = c.args.from + (i + length); line = c.args.number } in
    let rest = tokens_from c.args.number (c.args.from + (i + length)) 0 (drop (i + length) c.args.bytes.now) in
    let found = ap found_at (sym (take_rest c.args.bytes.now i)) ∙ sym c.in-Token.ensures.value in
    let here = line-token c.args.number c.args.from c.args.bytes.now i c.loop-at-test.true c.in-Token.kind length (sym c.is_blank.ensures ∙ c.if-is_blank.false) (sym c.is_comment.ensures ∙ c.if-is_comment.false) found c.in-Token.ensures.within.0 in
    let pushed : c.push.new.self.items ≡ c.loop-at.tokens.items ++ token ∷ [] = c.in_ok-push-in-Token.ensures.items in
    record {
      within = ends_within c.args.bytes.now i length c.loop-at-test.true c.in-Token.ensures.within.1;
      rest = ap (λ tokens. after tokens rest) pushed ∙ sym (after-after c.loop-at.tokens.items (token ∷ []) rest) ∙ ap (after c.loop-at.tokens.items) (sym here) ∙ c.loop-at.invariant.rest;
    }
