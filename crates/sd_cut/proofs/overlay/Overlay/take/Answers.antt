use Rattle.std.proofs.Common.{rules, ◌≡◌, ◌∙◌, ap, sym, option_map, ◌++◌, length, take, drop, slice_get, slice_index_or, Some, None, FitsSigned}
use Rattle.std.specs.Int.{w64}
use Rattle.std.proofs.lemmas.Int.{to_z-of_z}
use Rattle.std.specs.Option.{option_and_then}
use Rattle.sd_work.specs.Change.{changed_at}
use Rattle.sd_work.specs.Memory.{waiting}
use Rattle.sd_mem.specs.mem.Shaped.{alone}
use Rattle.sd_cut.specs.Overlaid.{Overlaid}
use Rattle.sd_cut.specs.Using.{seen_of, left_taken, taken_in}
use Rattle.sd_cut.specs.Streams.{next_cut, stream_taken}
use Rattle.sd_cut.proofs.Sounds.{few-after, within-after, refilled, count-after, taken-keeps, oldest_cut, none_cut}
use Rattle.sd_cut.proofs.overlay.Overlay.take.Goals as goal

pub invariant_of-self : goal.invariant_of-self
invariant_of-self c =
    let all : c.as_mut_slice.result.now ≡ c.self.inside.streams.items = search rules in
    let old = c.self.inside.streams.items in
    let new = c.take_cut.new.streams in
    let so = c.take_cut.ensures.streams ∙ ap (changed_at c.args.container (option_map stream_taken)) all in
    let count : c.self.inside.streams.len ≡ length old = search rules in
    let is = refilled c.self.inside.streams.len new old count (count-after (option_map stream_taken) old new c.args.container so) ∙ so in
    record {
      few = c.self.invariant.few;
      few_streams = few-after stream_taken old (take c.self.inside.streams.len (new ++ drop (length new) old)) c.args.container is c.self.invariant.few_streams;
      small = c.self.invariant.small;
      within = within-after stream_taken taken-keeps old (take c.self.inside.streams.len (new ++ drop (length new) old)) c.args.container is c.self.invariant.within;
    }

pub invariant_of-self-in-None : goal.invariant_of-self-in-None
invariant_of-self-in-None c =
    let all : c.as_mut_slice.result.now ≡ c.self.inside.streams.items = search rules in
    let old = c.self.inside.streams.items in
    let new = c.take_cut.new.streams in
    let so = c.take_cut.ensures.streams ∙ ap (changed_at c.args.container (option_map stream_taken)) all in
    let count : c.self.inside.streams.len ≡ length old = search rules in
    let is = refilled c.self.inside.streams.len new old count (count-after (option_map stream_taken) old new c.args.container so) ∙ so in
    record {
      few = c.self.invariant.few;
      few_streams = few-after stream_taken old (take c.self.inside.streams.len (new ++ drop (length new) old)) c.args.container is c.self.invariant.few_streams;
      small = c.self.invariant.small;
      within = within-after stream_taken taken-keeps old (take c.self.inside.streams.len (new ++ drop (length new) old)) c.args.container is c.self.invariant.within;
    }

pub returns-in-Some-clause-oldest : goal.returns-in-Some-clause-oldest
returns-in-Some-clause-oldest c =
    let all : c.as_mut_slice.result.now ≡ c.self.inside.streams.items = search rules in
    let found = ap (λ streams. option_and_then next_cut (slice_index_or streams c.args.container None)) (sym all) ∙ sym c.take_cut.ensures.value in
    let stream = slice_index_or c.self.inside.streams.items c.args.container None in
    let pushed = waiting 0 c.args.container (alone c.self.inside.left) in
    let fits : FitsSigned w64 c.in-Some.value = search rules in
    ap Some (to_z-of_z w64 c.in-Some.value fits)
    ∙ oldest_cut stream pushed c.in-Some.value (found ∙ c.in-Some.is)
    ∙ ap (λ (cut : Overlaid). slice_get (seen_of (slice_index_or cut.streams c.args.container None) (waiting 0 c.args.container (alone cut.left))) 0) c.self.view_is

pub returns-in-None-clause-oldest : goal.returns-in-None-clause-oldest
returns-in-None-clause-oldest c =
    let all : c.as_mut_slice.result.now ≡ c.self.inside.streams.items = search rules in
    let found = ap (λ streams. option_and_then next_cut (slice_index_or streams c.args.container None)) (sym all) ∙ sym c.take_cut.ensures.value in
    let stream = slice_index_or c.self.inside.streams.items c.args.container None in
    let pushed = waiting 0 c.args.container (alone c.self.inside.left) in
    c.take.ensures.oldest
    ∙ ap (λ values. slice_get values 0) (none_cut stream pushed (found ∙ c.in-None.is))
    ∙ ap (λ (cut : Overlaid). slice_get (seen_of (slice_index_or cut.streams c.args.container None) (waiting 0 c.args.container (alone cut.left))) 0) c.self.view_is

pub returns-in-None-clause-taken : goal.returns-in-None-clause-taken
returns-in-None-clause-taken c =
    let all : c.as_mut_slice.result.now ≡ c.self.inside.streams.items = search rules in
    let found = ap (λ streams. option_and_then next_cut (slice_index_or streams c.args.container None)) (sym all) ∙ sym c.take_cut.ensures.value ∙ c.in-None.is in
    let old = c.self.inside.streams.items in
    let new = c.take_cut.new.streams in
    let so = c.take_cut.ensures.streams ∙ ap (changed_at c.args.container (option_map stream_taken)) all in
    let count : c.self.inside.streams.len ≡ length old = search rules in
    let is = refilled c.self.inside.streams.len new old count (count-after (option_map stream_taken) old new c.args.container so) ∙ so in
    let left = c.take.ensures.taken ∙ ap (λ next. left_taken next c.args.container c.self.inside.left) (sym found) in
    (λ i. record { windows = c.self.inside.windows.items; arrays = c.self.inside.arrays.items; streams = is i; left = left i })
    ∙ ap (taken_in c.args.container) c.self.view_is
