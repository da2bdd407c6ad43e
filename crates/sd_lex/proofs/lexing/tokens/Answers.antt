use Rattle.std.proofs.Common.{◌≡◌, ◌+◌, ◌-◌, ◌≤◌, [], ◌∷◌, ◌++◌, length, reverse, take, drop, ap, sym, ◌∙◌, arith, Some, None, Ok, subst, length-take}
use Rattle.std.specs.List.{position, slice_split}
use Rattle.std.proofs.lemmas.List.{take_rest}
use Rattle.std.proofs.lemmas.Result.{err_from_is_err_and}
use Rattle.sd_lex.specs.Bytes.{is_newline}
use Rattle.sd_lex.specs.Reading.{after}
use Rattle.sd_lex.specs.Line.{physical_line}
use Rattle.sd_lex.specs.Lines.{numbered, physical_lines, less_return}
use Rattle.sd_lex.specs.Layout.{lexed, text_end}
use Rattle.sd_lex.specs.LexerState.{whole_of}
use Rattle.sd_lex.proofs.LineLemmas.{after-nothing}
use Rattle.sd_lex.proofs.LinesLemmas.{length-numbered, last_line, less_return_shorter, first_parts, first_within, first_line}
use Rattle.sd_lex.proofs.SpanLaws.{tokens_of_text}
use Rattle.sd_lex.proofs.lexing.tokens.Goals as goal

pub loop-length-init : goal.loop-length-init
loop-length-init c = record {
  within = omega arith;
  few = omega arith;
  few_brackets = omega (arith, c.new-lexer.ensures.brackets);
  count = omega (arith, length-numbered 1 0 (slice_split is_newline c.args.text.now));
  rest = rw (c.new-lexer.ensures.tokens, c.new-lexer.ensures.brackets, c.new-lexer.ensures.widths) (after-nothing (lexed c.args.text.now));
}

pub returns-in_err-push-clause-err : goal.returns-in_err-push-clause-err
returns-in_err-push-clause-err c =
    let p = err_from_is_err_and c.from_residual.result c.from_residual.ensures.1 in
    let text = c.args.text.now in
    let from = c.loop-length.from in
    let at = c.in-Some.length in
    let found : position is_newline (drop from text) ≡ Some at = ap (position is_newline) (sym (take_rest text from)) ∙ sym c.in-Some.ensures in
    let bytes : c.less_return-bytes.result.now ≡ less_return (take at (drop from text)) = c.less_return-bytes.ensures ∙ ap (λ n. less_return (take n (drop from text))) (omega arith) in
    let head = first_line text c.loop-length.number from at found c.less_return-bytes.result.now bytes in
    let last = length (physical_lines text) in
    let behind = numbered (c.loop-length.number + 1) (from + (at + 1)) (slice_split is_newline (drop (from + (at + 1)) text)) in
    rw (p.1, p.2)
    (λ differs. sym c.loop-length.invariant.rest
    ∙ ap (whole_of text last c.loop-length.lexer) head
    ∙ ap (after c.loop-length.lexer.tokens.items) (c.in_err-push.ensures.err differs last behind))

pub loop-length-preserved : goal.loop-length-preserved
loop-length-preserved c =
    let text = c.args.text.now in
    let from = c.loop-length.from in
    let at = c.in-Some.length in
    let found : position is_newline (drop from text) ≡ Some at = ap (position is_newline) (sym (take_rest text from)) ∙ sym c.in-Some.ensures in
    let bytes : c.less_return-bytes.result.now ≡ less_return (take at (drop from text)) = c.less_return-bytes.ensures ∙ ap (λ n. less_return (take n (drop from text))) (omega arith) in
    let head = first_line text c.loop-length.number from at found c.less_return-bytes.result.now bytes in
    let last = length (physical_lines text) in
    let behind = numbered (c.loop-length.number + 1) (from + (at + 1)) (slice_split is_newline (drop (from + (at + 1)) text)) in
    let fewer : length c.less_return-bytes.result.now ≤ length (take at (drop from text)) = subst (λ line. length line ≤ length (take at (drop from text))) (sym bytes) (less_return_shorter (take at (drop from text))) in
    record {
      within = first_within text c.loop-length.number from at found;
      few = omega (arith, c.loop-length.invariant.few);
      few_brackets = omega (arith, c.in_ok-push.ensures.few, fewer, length-take at (drop from text));
      count = omega (arith, c.loop-length.invariant.count, ap length (first_parts text c.loop-length.number from at found));
      rest = sym (c.in_ok-push.ensures.ok last behind)
          ∙ ap (whole_of text last c.loop-length.lexer) (sym head)
          ∙ c.loop-length.invariant.rest;
    }

pub returns-in_err-push-2-clause-err : goal.returns-in_err-push-2-clause-err
returns-in_err-push-2-clause-err c =
    let p = err_from_is_err_and c.from_residual-in_err-push-2.result c.from_residual-in_err-push-2.ensures.1 in
    let text = c.args.text.now in
    let from = c.loop-length.from in
    let number = c.loop-length.number in
    let none : position is_newline (drop from text) ≡ None = ap (position is_newline) (sym (take_rest text from)) ∙ sym c.newline.ensures ∙ c.in_default.is in
    let alone = last_line (drop from text) none in
    let head : numbered number from (slice_split is_newline (drop from text)) ≡ physical_line number from (take (length text - from) (drop from text)) ∷ [] =
    ap (numbered number from) alone ∙ ap (λ bytes. physical_line number from bytes ∷ []) (sym (take_rest text from)) in
    let last = length (physical_lines text) in
    rw (p.1, p.2)
    (λ differs. sym c.loop-length.invariant.rest
    ∙ ap (whole_of text last c.loop-length.lexer) head
    ∙ ap (after c.loop-length.lexer.tokens.items) (c.in_err-push-2.ensures.err differs last []))

pub returns-clause-ok : goal.returns-clause-ok
returns-clause-ok c =
    let text = c.args.text.now in
    let from = c.loop-length.from in
    let number = c.loop-length.number in
    let none : position is_newline (drop from text) ≡ None = ap (position is_newline) (sym (take_rest text from)) ∙ sym c.newline.ensures ∙ c.in_default.is in
    let alone = last_line (drop from text) none in
    let head : numbered number from (slice_split is_newline (drop from text)) ≡ physical_line number from (take (length text - from) (drop from text)) ∷ [] =
    ap (numbered number from) alone ∙ ap (λ bytes. physical_line number from bytes ∷ []) (sym (take_rest text from)) in
    let last = length (physical_lines text) in
    let same : last ≡ number = omega (arith, c.loop-length.invariant.count, ap length alone) in
    let pushed = c.push-2.new.self in
    sym c.loop-length.invariant.rest
    ∙ ap (whole_of text last c.loop-length.lexer) head
    ∙ c.in_ok-push-2.ensures.ok last []
    ∙ ap (λ n. Ok (pushed.tokens.items ++ text_end (length text) n pushed.brackets (reverse pushed.widths.items))) same
    ∙ ap Ok (sym c.in_ok-finish.ensures.ok)

pub returns-clause-slices : goal.returns-clause-slices
returns-clause-slices c = tokens_of_text c.args.text.now c.finish.new.self.tokens.items (returns-clause-ok c)
