use Rattle.std.proofs.Common.{◌<◌, length, ap, arith}
use Rattle.sd_mem.specs.mem.Shaped.{Shaped}
use Rattle.sd_mem.specs.mem.Holding.{shape_held, contents_held}
use Rattle.sd_mem.proofs.mem_lemmas.Held.{same_at}
use Rattle.sd_mem.proofs.mem.memory.are_same.Goals as goal

pub returns-then-not-same : goal.returns-then-not-same
returns-then-not-same c =
    let within : c.loop-i.i < length c.args.b.now = omega (arith, c.if-a-b.false, c.loop-i-test.true) in (
      λ test. cc,
      λ same.
          let a = c.index-a-i.result in
          let b = c.index-b-i.result in
          let shape = same_at shape_held c.args.a.now c.args.b.now c.loop-i.i a b c.loop-i-test.true within c.index-a-i.is c.index-b-i.is (ap (λ (memory : Shaped). memory.shapes) same) in
          let contents = same_at contents_held c.args.a.now c.args.b.now c.loop-i.i a b c.loop-i-test.true within c.index-a-i.is c.index-b-i.is (ap (λ (memory : Shaped). memory.contents) same) in
          let yes = c.same.ensures.1 (shape, contents) in
          cc,
    )
