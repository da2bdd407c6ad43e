use Rattle.std.proofs.Common.{◌≡◌, ◌≤◌, ℕ, ℤ, List, [], map, take, Some}
use Rattle.sd_graph.specs.Context.{Context, link_element}
use Rattle.sd_graph.specs.declared.link.Link.{Link}
use Rattle.sd_rows.specs.declared.rows.steps.Steps.{Steps}
use Rattle.sd_rows.specs.rows.Along.{IsAlong}
use Rattle.sd_row.specs.row.Row.{reference_on}
use Rattle.sd_rows.proofs.rows.moving.move_tracks.Given as goal

-- the tracks so far
abbrev pub invariant-loop-number : goal.invariant-loop-number
invariant-loop-number l =
    (steps : Steps) (values : List ℤ) (context : ℕ → Context) (links : List Link) → IsAlong steps values context →
    map (λ link. link_element (context 0) link []) links ≡ map (λ track. Some (reference_on track l.row)) l.near →
    map (λ link. link_element (context l.gaps) link []) links ≡ map (λ track. Some (reference_on track l.row)) l.far →
    (k : ℕ) → k ≤ l.gaps → map (λ link. link_element (context k) link []) (take l.number links) ≡ map (λ track. Some (reference_on track k)) (take l.number l.tracks)
