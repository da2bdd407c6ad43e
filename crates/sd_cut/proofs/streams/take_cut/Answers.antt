use Rattle.std.proofs.Common.{arith, Option, option_map, ◌∙◌, ap, sym}
use Rattle.sd_mem.proofs.mem_lemmas.Held.{one_written, changed_none}
use Rattle.sd_cut.specs.declared.streams.CutStream.{CutStream}
use Rattle.sd_cut.specs.Streams.{stream_taken}
use Rattle.sd_cut.proofs.streams.take_cut.Goals as goal

pub returns-then-container-streams-clause-streams : goal.returns-then-container-streams-clause-streams
returns-then-container-streams-clause-streams c =
    one_written c.args.streams.now c.args.container c.take_one.new.stream c.index-streams-container.result (option_map stream_taken) c.index-streams-container.is
    (c.take_one.ensures.stream ∙ ap (λ (one : Option CutStream). option_map stream_taken one) (sym c.index-streams-container.is))

pub returns-clause-streams : goal.returns-clause-streams
returns-clause-streams c = changed_none (option_map stream_taken) c.args.streams.now c.args.container (omega (arith, c.if-container-streams.false))
