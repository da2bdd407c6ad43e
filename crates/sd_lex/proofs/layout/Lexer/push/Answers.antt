use Rattle.std.proofs.Common.{◌+◌, ◌-◌, List, [], ◌∷◌, ◌++◌, length, reverse, take, drop, ap, sym, ◌∙◌, arith, if◌then◌else◌}
use Rattle.std.proofs.lemmas.List.{append-nil}
use Rattle.std.proofs.lemmas.Result.{err_from_is_err_and}
use Rattle.sd_lex.specs.Line.{physical_line}
use Rattle.sd_lex.specs.Layout.{mark, blocks_of, brackets_after}
use Rattle.sd_lex.specs.declared.token.Token.{Token}
use Rattle.sd_lex.specs.declared.token.TokenKind.TheVariants.{LineEnd}
use Rattle.sd_lex.proofs.PushLemmas.{chosen, bad_tokens, words_within, words_few, rest_follows}
use Rattle.sd_lex.proofs.layout.Lexer.push.Goals as goal

pub returns-in_err-push_line-clause-err : goal.returns-in_err-push_line-clause-err
returns-in_err-push_line-clause-err c =
    let p = err_from_is_err_and c.from_residual-in_err-push_line.result c.from_residual-in_err-push_line.ensures.1 in
    let line = physical_line c.args.number c.args.from c.args.bytes.now in
    let blocks = chosen (blocks_of c.args.self.now.brackets (reverse c.args.self.now.widths.items) line) _ c.in_ok-begin_line.ensures.some c.in_ok-begin_line.ensures.ok in
    rw (p.1, p.2)
    (λ differs last lines. bad_tokens c.args.text.now c.args.self.now.brackets (reverse c.args.self.now.widths.items) line blocks.blocks blocks.is c.in_err-push_line.field-0.0 (c.in_err-push_line.ensures.err differs) last lines)

pub bracketed_by-self-requires-clause-within : goal.bracketed_by-self-requires-clause-within
bracketed_by-self-requires-clause-within c =
    words_within c.args.text.now c.args.bytes.now c.args.number c.args.from c.args.self.now.brackets (reverse c.args.self.now.widths.items) (reverse c.begin_line.new.self.widths.items)
    c.args.self.now.tokens.items c.begin_line.new.self.tokens.items c.push_line.new.tokens.items c.deref.result.now c.len-before.result
    c.in_ok-begin_line.ensures.some c.in_ok-begin_line.ensures.ok c.in_ok-push_line.ensures.ok c.deref.ensures.value (c.len-before.ensures ∙ c.begin_line.new.self.tokens.ok.0) c.requires.within

pub bracketed_by-self-requires-clause-few : goal.bracketed_by-self-requires-clause-few
bracketed_by-self-requires-clause-few c =
    let few = words_few c.args.text.now c.args.bytes.now c.args.number c.args.from c.args.self.now.brackets (reverse c.args.self.now.widths.items) (reverse c.begin_line.new.self.widths.items)
    c.args.self.now.tokens.items c.begin_line.new.self.tokens.items c.push_line.new.tokens.items c.deref.result.now c.len-before.result
    c.in_ok-begin_line.ensures.some c.in_ok-begin_line.ensures.ok c.in_ok-push_line.ensures.ok c.deref.ensures.value (c.len-before.ensures ∙ c.begin_line.new.self.tokens.ok.0) in
    omega (arith, few, c.in_ok-begin_line.ensures.brackets, c.requires.few, c.requires.within, c.requires.short)

pub returns-in_ok-push_mark-clause-ok : goal.returns-in_ok-push_mark-clause-ok
returns-in_ok-push_mark-clause-ok c =
    let end : List Token = mark (c.args.from + length c.args.bytes.now) c.args.number LineEnd ∷ [] in
    rest_follows c.args.text.now c.args.bytes.now c.args.number c.args.from c.args.self.now.brackets (reverse c.args.self.now.widths.items) (reverse c.begin_line.new.self.widths.items)
    c.args.self.now.tokens.items c.begin_line.new.self.tokens.items c.push_line.new.tokens.items c.deref.result.now c.len-before.result
    c.in_ok-begin_line.ensures.some c.in_ok-begin_line.ensures.ok c.in_ok-push_line.ensures.ok c.deref.ensures.value (c.len-before.ensures ∙ c.begin_line.new.self.tokens.ok.0)
    c.bracketed_by-self.result (c.bracketed_by-self.ensures.value ∙ ap (λ start. brackets_after c.args.text.now start (take (length c.deref.result.now - c.len-before.result) (drop c.len-before.result c.deref.result.now))) c.in_ok-begin_line.ensures.brackets)
    c.push_mark.new.tokens.items (c.in_ok-push_mark.ensures.ok ∙ ap (λ ends. c.push_line.new.tokens.items ++ (if ends then end else [])) (sym c.if-ends.true ∙ c.ends.ensures))

pub returns-else-ends-clause-ok : goal.returns-else-ends-clause-ok
returns-else-ends-clause-ok c =
    let end : List Token = mark (c.args.from + length c.args.bytes.now) c.args.number LineEnd ∷ [] in
    rest_follows c.args.text.now c.args.bytes.now c.args.number c.args.from c.args.self.now.brackets (reverse c.args.self.now.widths.items) (reverse c.begin_line.new.self.widths.items)
    c.args.self.now.tokens.items c.begin_line.new.self.tokens.items c.push_line.new.tokens.items c.deref.result.now c.len-before.result
    c.in_ok-begin_line.ensures.some c.in_ok-begin_line.ensures.ok c.in_ok-push_line.ensures.ok c.deref.ensures.value (c.len-before.ensures ∙ c.begin_line.new.self.tokens.ok.0)
    c.bracketed_by-self.result (c.bracketed_by-self.ensures.value ∙ ap (λ start. brackets_after c.args.text.now start (take (length c.deref.result.now - c.len-before.result) (drop c.len-before.result c.deref.result.now))) c.in_ok-begin_line.ensures.brackets)
    c.push_line.new.tokens.items (sym (append-nil c.push_line.new.tokens.items) ∙ ap (λ ends. c.push_line.new.tokens.items ++ (if ends then end else [])) (sym c.if-ends.false ∙ c.ends.ensures))

pub returns-else-ends-clause-few : goal.returns-else-ends-clause-few
returns-else-ends-clause-few c =
    let few = words_few c.args.text.now c.args.bytes.now c.args.number c.args.from c.args.self.now.brackets (reverse c.args.self.now.widths.items) (reverse c.begin_line.new.self.widths.items)
    c.args.self.now.tokens.items c.begin_line.new.self.tokens.items c.push_line.new.tokens.items c.deref.result.now c.len-before.result
    c.in_ok-begin_line.ensures.some c.in_ok-begin_line.ensures.ok c.in_ok-push_line.ensures.ok c.deref.ensures.value (c.len-before.ensures ∙ c.begin_line.new.self.tokens.ok.0) in
    omega (arith, few, c.bracketed_by-self.ensures.few, c.in_ok-begin_line.ensures.brackets, c.requires.few)
