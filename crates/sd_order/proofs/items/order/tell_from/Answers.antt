use Rattle.std.proofs.Common.{◌≡◌, ◌<◌, List, Option, ap, ap₂, ◌∙◌, arith}
use Rattle.sd_graph.specs.Wiring.{Use}
use Rattle.sd_wire.specs.declared.wiring.mode.UseMode.{UseMode}
use Rattle.sd_order.specs.items.Joined.{mode_at, joined_behind, meets_one}
use Rattle.sd_order.proofs.items_lemmas.Telling.{told-first, told-led, told-passed}
use Rattle.sd_order.proofs.items.order.tell_from.Goals as goal
use Rattle.sd_order.proofs.items.order.tell_from.Goals.{then-is_led+in_ok-add-2, else-is_led}

pub loop-to-init : goal.loop-to-init
loop-to-init c =
    told-first c.args.each.now c.args.from c.index-each-from.result (mode_at c.add.new.modes.items) c.args.table.now.items c.requires.there c.index-each-from.is (λ container.
    c.in_ok-add.ensures container
    ∙ ap₂ (λ (modes : List (Option UseMode)) (uses : List Use). joined_behind container (mode_at modes container) uses) c.new-modes.ensures.items c.as_slice.ensures)

pub loop-to-preserved : goal.loop-to-preserved
loop-to-preserved c =
    let each = c.args.each.now in
    let to = c.loop-to.to in
    let behind : c.args.from < to = omega (arith, c.loop-to.auto.to) in
    let meets : c.do_meet-is_led.result ≡ meets_one (mode_at c.loop-to.modes.items) c.index-each-to.result =
    c.do_meet-is_led.ensures
    ∙ ap₂ (λ (modes : List (Option UseMode)) (uses : List Use). meets_one (mode_at modes) uses) c.as_slice-in-loop-to.ensures.value c.as_slice-uses.ensures in
    elim c.if-is_led.branch [
      | then-is_led+in_ok-add-2 w ↦
          rw w.modes-is (told-led each c.args.from to (mode_at c.loop-to.modes.items) _ c.args.table.now.items c.loop-to.table.items c.index-each-to.result c.do_meet-is_led.result
          behind c.loop-to-test.true c.index-each-to.is c.requires.sized meets w.if-is_led.true
          (λ container. w.in_ok-add-2.ensures container ∙ ap (λ (uses : List Use). joined_behind container (mode_at c.loop-to.modes.items container) uses) c.as_slice-uses.ensures)
          c.loop-to.invariant)
      | else-is_led w ↦
          rw w.modes-is (told-passed each c.args.from to (mode_at c.loop-to.modes.items) c.args.table.now.items c.loop-to.table.items c.index-each-to.result c.do_meet-is_led.result
          behind c.loop-to-test.true c.index-each-to.is c.requires.sized meets w.if-is_led.false c.loop-to.invariant)
    ]
