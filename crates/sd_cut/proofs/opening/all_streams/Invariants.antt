use Rattle.std.proofs.Common.{◌≡◌, ◌<◌, ℕ, None, length, slice_index_or}
use Rattle.sd_cut.specs.Cutting.{is_wanted, IsCutOf}
use Rattle.sd_cut.proofs.opening.all_streams.Given as goal

-- the streams of the containers so far
abbrev pub invariant-loop-number : goal.invariant-loop-number
invariant-loop-number l = record {
  count : length l.cut.items ≡ l.number;
  sofar : (container : ℕ) → container < l.number → IsCutOf l.memory container (is_wanted (slice_index_or l.windows container None) l.streams container) (slice_index_or l.cut.items container None);
}
