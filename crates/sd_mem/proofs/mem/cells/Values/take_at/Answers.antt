use Rattle.std.proofs.Common.{rules, ap, ◌∙◌}
use Rattle.sd_num.specs.declared.width.Width.TheVariants.{W32, W64}
use Rattle.sd_work.specs.Memory.{stream}
use Rattle.sd_mem.proofs.mem_lemmas.Streams.{taken_out, found_at}
use Rattle.sd_mem.proofs.mem.cells.Values.take_at.Goals as goal

pub returns-in-W64-clause-value : goal.returns-in-W64-clause-value
returns-in-W64-clause-value c =
    rw c.in-W64.is (found_at c.remove-in-W64.result c.in-W64.values.items c.args.position c.in-W64.values.len c.remove-in-W64.ensures.value c.remove-in-W64.ensures.variant (search rules))

pub returns-in-W64-clause-values : goal.returns-in-W64-clause-values
returns-in-W64-clause-values c =
    rw c.in-W64.is (ap (stream W64) (taken_out c.remove-in-W64.result c.in-W64.values.items c.remove-in-W64.new.self.items c.args.position c.in-W64.values.len
    c.remove-in-W64.ensures.items c.remove-in-W64.ensures.unchanged (λ same. ap (λ deque. deque.items) same) c.remove-in-W64.ensures.variant (search rules)))

pub returns-in-W32-clause-value : goal.returns-in-W32-clause-value
returns-in-W32-clause-value c =
    c.widened.ensures ∙ rw c.in-W32.is (found_at c.remove.result c.in-W32.values.items c.args.position c.in-W32.values.len c.remove.ensures.value c.remove.ensures.variant (search rules))

pub returns-in-W32-clause-values : goal.returns-in-W32-clause-values
returns-in-W32-clause-values c =
    rw c.in-W32.is (ap (stream W32) (taken_out c.remove.result c.in-W32.values.items c.remove.new.self.items c.args.position c.in-W32.values.len
    c.remove.ensures.items c.remove.ensures.unchanged (λ same. ap (λ deque. deque.items) same) c.remove.ensures.variant (search rules)))
