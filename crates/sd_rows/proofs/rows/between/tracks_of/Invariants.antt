use Rattle.std.proofs.Common.{◌≡◌, ◌≤◌, ℕ, ℤ, List, [], map, take, length, Some}
use Rattle.sd_graph.specs.Context.{Context, link_element}
use Rattle.sd_rows.specs.declared.rows.steps.Steps.{Steps}
use Rattle.sd_rows.specs.rows.Along.{IsFromTo}
use Rattle.sd_rows.specs.rows.Map.{standing}
use Rattle.sd_row.specs.row.Row.{reference_on}
use Rattle.sd_rows.proofs.rows.between.tracks_of.Given as goal

-- the tracks so far
abbrev pub invariant-loop-link : goal.invariant-loop-link
invariant-loop-link l = record {
  at : (steps : Steps) (values : List ℤ) (context : ℕ → Context) → IsFromTo steps l.gaps (standing l.task l.first) (standing l.task l.last) values context →
      (k : ℕ) → k ≤ l.gaps → map (λ link. link_element (context k) link []) (take l.link-index l.links) ≡ map (λ track. Some (reference_on track k)) l.tracks.items;
  many : length l.tracks.items ≡ l.link-index;
}
