use Rattle.std.proofs.Common.{rules, ◌≡◌, ◌∙◌, ap, option_map, ◌++◌, length, take, drop}
use Rattle.sd_work.specs.Change.{changed_at}
use Rattle.sd_cut.specs.Streams.{stream_appended}
use Rattle.sd_cut.proofs.Sounds.{few-after, within-after, refilled, count-after, appended-keeps}
use Rattle.sd_cut.proofs.overlay.Overlay.push.Goals as goal

pub invariant_of-self-2 : goal.invariant_of-self-2
invariant_of-self-2 c =
    let all : c.as_mut_slice.result.now ≡ c.self.inside.streams.items = search rules in
    let old = c.self.inside.streams.items in
    let new = c.append_cut.new.streams in
    let so = c.append_cut.ensures ∙ ap (changed_at c.args.container (option_map stream_appended)) all in
    let count : c.self.inside.streams.len ≡ length old = search rules in
    let is = refilled c.self.inside.streams.len new old count (count-after (option_map stream_appended) old new c.args.container so) ∙ so in
    record {
      few = c.self.invariant.few;
      few_streams = few-after stream_appended old (take c.self.inside.streams.len (new ++ drop (length new) old)) c.args.container is c.self.invariant.few_streams;
      small = c.self.invariant.small;
      within = within-after stream_appended appended-keeps old (take c.self.inside.streams.len (new ++ drop (length new) old)) c.args.container is c.self.invariant.within;
    }
