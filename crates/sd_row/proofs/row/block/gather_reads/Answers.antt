use Rattle.std.proofs.Common.{◌≡◌, ◌+◌, length, map, take, get_or, refl, ap, ◌∙◌, arith}
use Rattle.std.proofs.lemmas.List.{get_or_default, take_all}
use Rattle.sd_tcode.specs.columns.Columns.{registers_of}
use Rattle.sd_row.specs.declared.row.track.Track.{Track}
use Rattle.sd_row.specs.row.Point.{seen_on}
use Rattle.sd_row.proofs.row_lemmas.Registers.{one_first, registers_many, kept_again, kept_same, no_track}
use Rattle.sd_row.proofs.row.block.gather_reads.Goals as goal

pub loop-number-init : goal.loop-number-init
loop-number-init c = record {
  kept = kept_same c.args.columns.now;
  read = λ run below. refl;
}

pub loop-number-preserved : goal.loop-number-preserved
loop-number-preserved c =
    let reads = c.args.reads.now in
    let number = c.loop-number.number in
    let columns = c.loop-number.columns in
    let memories = c.args.machine.now.memories in
    let member : Track = get_or reads number no_track in
    let room = c.loop-number.invariant.kept.registers in
    record {
      kept = kept_again c.args.columns.now columns c.gather_read.new.columns c.loop-number.invariant.kept c.gather_read.ensures.kept;
      read = λ run below.
          ap (take (number + 1)) (c.gather_read.ensures.set run below)
          ∙ one_first (seen_on (c.args.from + run) memories) (registers_of columns run) number reads member _ c.loop-number-test.true (omega (arith, registers_many columns run, room, c.requires.registers, c.loop-number-test.true))
          (get_or_default reads number no_track _ c.loop-number-test.true)
          refl (c.loop-number.invariant.read run below);
    }

pub returns-clause-read : goal.returns-clause-read
returns-clause-read c run below =
    let reads = c.args.reads.now in
    let all : length reads ≡ c.loop-number.number = omega (arith, c.loop-number-test.false, c.loop-number.auto.number-end) in
    ap (λ count. take count (registers_of c.loop-number.columns run)) all
    ∙ c.loop-number.invariant.read run below
    ∙ ap (map (seen_on (c.args.from + run) c.args.machine.now.memories)) (take_all c.loop-number.number reads c.loop-number-test.false)
