use Rattle.std.proofs.Common.{rules, pos, sym, ◌∙◌, FitsSigned}
use Rattle.std.specs.Int.{w64}
use Rattle.std.proofs.lemmas.Int.{to_z-of_z}
use Rattle.sd_work.specs.Memory.{waiting}
use Rattle.sd_mem.specs.mem.Shaped.{alone}
use Rattle.sd_mem.proofs.mem_lemmas.Streams.{member_or, no_member}
use Rattle.sd_cut.proofs.streams.waiting_at.Goals as goal

pub returns-in-None : goal.returns-in-None
returns-in-None c = no_member (waiting 0 c.args.container (alone c.args.memory.now)) c.args.position (pos 0) (sym c.in-None.is ∙ c.value_at.ensures)

pub returns-in-Some : goal.returns-in-Some
returns-in-Some c =
    let fits : FitsSigned w64 c.in-Some.value = search rules in
    to_z-of_z w64 c.in-Some.value fits
    ∙ member_or (waiting 0 c.args.container (alone c.args.memory.now)) c.args.position c.in-Some.value (pos 0) (sym c.in-Some.is ∙ c.value_at.ensures)
