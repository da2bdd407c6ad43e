use Rattle.std.proofs.Common.{◌≡◌, ◌+◌, ◌<◌, ◌≤◌, suc, [], Some, map, take, length, sym, ap, ◌∙◌, arith}
use Rattle.std.proofs.lemmas.List.{take_more_set, get_or_default}
use Rattle.sd_graph.specs.Context.{link_element}
use Rattle.sd_graph.specs.declared.link.Link.{Link}
use Rattle.sd_row.specs.declared.row.track.Track.{Track}
use Rattle.sd_row.specs.row.Row.{reference_on}
use Rattle.sd_row.proofs.instance_lemmas.Matched.{found_so}
use Rattle.sd_rows.proofs.rows_lemmas.RowBetween.{one_more_between, whole_between, as_many}
use Rattle.sd_rows.proofs.rows.moving.move_tracks.Goals as goal

pub loop-number-preserved : goal.loop-number-preserved
loop-number-preserved c steps values context links along near far k within =
    let tracks = c.loop-number.tracks in
    let number = c.loop-number.number in
    let track = c.in-Some.track in
    let next : number + 1 ≡ suc number = omega arith in
    let below : number < length tracks = omega (arith, c.loop-number-test.true, c.loop-number.auto.tracks) in
    let below_near : number < length c.args.near.now = omega (arith, c.loop-number-test.true, c.if-tracks-near.false) in
    let below_far : number < length c.args.far.now = omega (arith, c.loop-number-test.true, c.if-tracks-far.false) in
    ap (λ count. map (λ (link : Link). link_element (context k) link []) (take count links)) next
    ∙ one_more_between (λ link. link_element (context 0) link []) (λ link. link_element (context c.args.gaps) link []) (λ link. link_element (context k) link [])
    (λ track. Some (reference_on track c.args.row)) (λ track. Some (reference_on track c.args.row)) (λ track. Some (reference_on track k))
    links c.args.near.now c.args.far.now tracks number _ _ track near far below_near
    (get_or_default c.args.near.now number _ _ below_near) (get_or_default c.args.far.now number _ _ below_far)
    (λ link low high. found_so _ c.track_at.result track c.in-Some.is c.track_at.ensures steps values context link along low high k within)
    (c.loop-number.invariant steps values context links along near far k within)
    ∙ ap (map (λ (track : Track). Some (reference_on track k))) (sym (take_more_set tracks number track below))

pub returns-clause-tracks : goal.returns-clause-tracks
returns-clause-tracks c done steps values context links along near far k within =
    let tracks = c.loop-number.tracks in
    let many : length links ≡ length c.args.near.now = as_many (λ link. link_element (context 0) link []) (λ track. Some (reference_on track c.args.row)) links c.args.near.now near in
    let over : length links ≤ c.loop-number.number = omega (arith, many, c.loop-number-test.false, c.if-tracks-near.false) in
    let over_tracks : length tracks ≤ c.loop-number.number = omega (arith, c.loop-number-test.false, c.loop-number.auto.tracks) in
    whole_between (λ link. link_element (context k) link []) (λ track. Some (reference_on track k)) links tracks c.loop-number.number over over_tracks
    (c.loop-number.invariant steps values context links along near far k within)
