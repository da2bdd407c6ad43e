use Rattle.std.proofs.Common.{arith, Option, option_map, ◌∙◌, ap, sym}
use Rattle.sd_mem.proofs.mem_lemmas.Held.{one_written, changed_none}
use Rattle.sd_cut.specs.declared.streams.CutStream.{CutStream}
use Rattle.sd_cut.specs.Streams.{stream_appended}
use Rattle.sd_cut.proofs.streams.append_cut.Goals as goal

pub returns-then-container-streams : goal.returns-then-container-streams
returns-then-container-streams c =
    one_written c.args.streams.now c.args.container c.append_one.new.stream c.index-streams-container.result (option_map stream_appended) c.index-streams-container.is
    (c.append_one.ensures ∙ ap (λ (one : Option CutStream). option_map stream_appended one) (sym c.index-streams-container.is))

pub returns-else-container-streams : goal.returns-else-container-streams
returns-else-container-streams c = changed_none (option_map stream_appended) c.args.streams.now c.args.container (omega (arith, c.if-container-streams.false))
